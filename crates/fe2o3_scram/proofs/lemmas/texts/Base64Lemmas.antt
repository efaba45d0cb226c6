-- The kit's engine `STANDARD` writes and reads exactly the base64 texts of specs/Texts.antt.
use Rattle.std.proofs.Common.{◌≡◌, ◌≢◌, ℕ, true, not, eqb, List, ◌++◌, ◌≤◌, length, drop, refl, sym, ◌∙◌, subst, append-nil, Result, Ok, Err, OnOk, arith}
use Rattle.std.specs.List.{list_all}
use Rattle.std.proofs.lemmas.List.{drop_all}
use Rattle.base64.specs.Engines.{standard}
use Rattle.base64.specs.GeneralPurpose.{encode_of, decode_of, IsBytes, IsStrict}
use Rattle.base64.specs.declared.decode.DecodeError.{DecodeError}
use Rattle.base64.proofs.EngineFacts.{decode_of-encode_of}
use Rattle.fe2o3_scram.specs.Texts.{NoComma, alphabet, base64_text, IsBase64}
use Rattle.fe2o3_scram.proofs.lemmas.texts.EachByteLemmas.{each-base64_text, without-append, without-test}

pub encode_of-standard : (bytes : List ℕ) → encode_of standard bytes ≡ base64_text bytes
unfolding base64_text
encode_of-standard bytes = refl

-- a text that is written over the whole of a slice
pub slice_filled : {E : Type 0} (text old new : List ℕ) (size : ℕ) (result : Result ℕ E) → size ≡ length old
    → (size ≤ length old → result ≡ Ok size) → OnOk result (new ≡ text ++ drop size old) → new ≡ text
slice_filled text old new size result same fits written =
    subst (λ given. OnOk given (new ≡ text ++ drop size old)) (fits (omega (arith, same))) written
    ∙ rw (drop_all size old (omega (arith, same)), append-nil)

-- padding is required and trailing bits are rejected
pub IsStrict-standard : IsStrict standard
IsStrict-standard = (refl, refl)

-- what is written is read again
pub decode_of-base64_text : (bytes : List ℕ) → IsBytes bytes → decode_of standard (base64_text bytes) ≡ Ok bytes
unfolding base64_text
decode_of-base64_text bytes are = decode_of-encode_of standard bytes refl are

-- what is rejected spells no bytes
pub none_spelled : (text : List ℕ) (fault : DecodeError) → decode_of standard text ≡ Err fault → (bytes : List ℕ)
    → ¬ IsBase64 text bytes
none_spelled text fault refused bytes is =
    let read = decode_of-base64_text bytes is.0 in let wrong : Ok bytes ≡ Err fault = (sym read ∙ rw is.1 at refused) in
    cc

-- a text spells one list of bytes
pub one_spelled : (text bytes others : List ℕ) → IsBase64 text bytes → IsBase64 text others → bytes ≡ others
one_spelled text bytes others is too =
    let read = decode_of-base64_text bytes is.0 in
    let again = rw (sym is.1 ∙ too.1) at read in
    let other = decode_of-base64_text others too.0 in
    let both : Ok bytes ≡ Ok others = (sym again ∙ other) in
    cc

pub no_comma-append : (front back : List ℕ) → NoComma front → NoComma back → NoComma (front ++ back)
no_comma-append = without-append 44

-- a literal holds no comma where the test says so
pub no_comma-test : (text : List ℕ) → list_all (λ byte. not (eqb byte 44)) text ≡ true → NoComma text
no_comma-test = without-test 44

-- a spelling holds no comma
pub no_comma-base64_text : (bytes : List ℕ) → NoComma (base64_text bytes)
no_comma-base64_text bytes = each-base64_text (λ byte. byte ≢ 44) bytes (λ is. absurd (omega (arith, is)))
    (λ is. absurd (omega (arith, is))) (no_comma-test alphabet refl)
