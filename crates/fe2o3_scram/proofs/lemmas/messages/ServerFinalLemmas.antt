-- The reading of a server-final message.
use Rattle.std.proofs.Common.{◌≡◌, ◌≢◌, Bool, ℕ, List, ◌++◌, Result, Ok, Err, refl, sym, ◌∙◌, ap, subst, codes, inl, inr}
use Rattle.std.specs.Prelude.{T}
use Rattle.std.specs.Str.{IsUtf8}
use Rattle.fe2o3_scram.specs.Grammar.{HasMisplacedFrom}
use Rattle.fe2o3_scram.specs.declared.scram_messages.error.ScramErrorKind.{ScramErrorKind}
use Rattle.fe2o3_scram.specs.declared.scram_messages.error.ScramErrorKind.TheVariants.{Utf8Error, Base64DecodeError, MisplacedAttribute, ServerSignatureMismatch}
use Rattle.fe2o3_scram.specs.Texts.{base64_text, IsBase64, Part, HasBase64}
use Rattle.fe2o3_scram.specs.ServerFinal.{ReadsSignature, ReadsServerFinal, server_final_tests}
use Rattle.fe2o3_scram.proofs.lemmas.texts.Base64Lemmas.{one_spelled}
use Rattle.fe2o3_scram.proofs.lemmas.texts.PartsLemmas.{one_behind}
use Rattle.fe2o3_scram.proofs.lemmas.messages.TestListLemmas.{one_reading}

-- the signature that the first part spells
spelled : (text spelling bytes other : List ℕ) → Part text 0 (codes "v=" ++ spelling)
    → HasBase64 text 0 (codes "v=") other
    → IsBase64 spelling other
spelled text spelling bytes other is has =
    (has.0, one_behind text 0 (codes "v=") spelling (base64_text other) is has.1)

has_signature : (text spelling bytes : List ℕ) → Part text 0 (codes "v=" ++ spelling) → IsBase64 spelling bytes
    → HasBase64 text 0 (codes "v=") bytes
has_signature text spelling bytes is spells =
    (spells.0, subst (λ (spelt : List ℕ). Part text 0 (codes "v=" ++ spelt)) spells.1 is)

pub not_utf8 : (strict : Bool) (text : List ℕ) → ¬ IsUtf8 text → ReadsSignature strict text (Err Utf8Error)
unfolding ReadsSignature
not_utf8 strict text fails = inl (fails, refl)

module _ (strict : Bool) (text : List ℕ) (utf8 : IsUtf8 text) where
  pub no_verifier : ((rest : List ℕ) → ¬ Part text 0 (codes "v=" ++ rest))
      → ReadsSignature strict text (Err ServerSignatureMismatch)
  unfolding ReadsSignature
  no_verifier none = inr (λ fails. fails utf8, inl (none, refl))

  pub not_base64 : (spelling : List ℕ) → Part text 0 (codes "v=" ++ spelling)
      → ((bytes : List ℕ) → ¬ IsBase64 spelling bytes) → ReadsSignature strict text (Err Base64DecodeError)
  unfolding ReadsSignature
  not_base64 spelling is none = inr (
    λ fails. fails utf8,
    inr (
      λ absent. absent spelling is,
      inl (
        λ bytes has. none bytes (spelled text spelling bytes bytes is has),
        refl,
      ),
    ),
  )

  pub signature_read : (spelling bytes : List ℕ) → Part text 0 (codes "v=" ++ spelling) → IsBase64 spelling bytes
      → ¬ (T strict × HasMisplacedFrom 1 text) → ReadsSignature strict text (Ok bytes)
  unfolding ReadsSignature
  signature_read spelling bytes is spells placed =
      let has = has_signature text spelling bytes is spells in (
        (λ fails. fails utf8, (λ absent. absent spelling is, (λ none. none bytes has, (placed, tt)))),
        has,
      )

  pub misplaced : (spelling bytes : List ℕ) → Part text 0 (codes "v=" ++ spelling) → IsBase64 spelling bytes
      → T strict × HasMisplacedFrom 1 text → ReadsSignature strict text (Err MisplacedAttribute)
  unfolding ReadsSignature
  misplaced spelling bytes is spells placed =
      let has = has_signature text spelling bytes is spells in
      inr (λ fails. fails utf8, inr (λ absent. absent spelling is, inr (λ none. none bytes has, inl (placed, refl))))

-- the signature is the one that the client waits for, or another
pub same_signature : (strict : Bool) (signature text bytes : List ℕ) → ReadsSignature strict text (Ok bytes) → bytes ≡ signature
    → ReadsServerFinal strict signature text (Ok tt)
unfolding ReadsServerFinal
same_signature strict signature text bytes reads same =
    subst (λ (given : List ℕ). ReadsSignature strict text (Ok given)) same reads

pub other_signature : (strict : Bool) (signature text bytes : List ℕ) → ReadsSignature strict text (Ok bytes) → bytes ≢ signature
    → ReadsServerFinal strict signature text (Err ServerSignatureMismatch)
unfolding ReadsServerFinal
other_signature strict signature text bytes reads other = inr (bytes, reads, other, refl)

pub text_refused : (strict : Bool) (signature text : List ℕ) (fault : ScramErrorKind) → ReadsSignature strict text (Err fault)
    → ReadsServerFinal strict signature text (Err fault)
unfolding ReadsServerFinal
text_refused strict signature text fault refused = inl refused

-- a message has one signature, and one reading

one_named : (text signature other : List ℕ) → HasBase64 text 0 (codes "v=") signature
    → HasBase64 text 0 (codes "v=") other
    → signature ≡ other
one_named text signature other has too =
    one_spelled (base64_text signature) signature other (has.0, refl)
    (spelled text (base64_text signature) signature other has.1 too)

pub one_signature : (strict : Bool) (text : List ℕ) (answer other : Result (List ℕ) ScramErrorKind)
    → ReadsSignature strict text answer
    → ReadsSignature strict text other → answer ≡ other
unfolding ReadsSignature
one_signature strict text answer other reads too =
    one_reading (server_final_tests strict text) (HasBase64 text 0 (codes "v=")) (one_named text) answer other reads too

pub names_signature : (strict : Bool) (text signature : List ℕ) → ReadsSignature strict text (Ok signature)
    → HasBase64 text 0 (codes "v=") signature
unfolding ReadsSignature
names_signature strict text signature reads = reads.1

module _ (strict : Bool) (signature text : List ℕ) where
  one_verdict : (other : List ℕ) → ReadsSignature strict text (Ok signature) → ReadsSignature strict text (Ok other)
      → other ≢ signature → ⊥
  one_verdict other reads too differ =
      let both = one_signature strict text (Ok other) (Ok signature) too reads in
      let same : other ≡ signature = cc in
      differ same

  pub one_server_final : (answer other : Result (Unit {0}) ScramErrorKind) → ReadsServerFinal strict signature text answer
      → ReadsServerFinal strict signature text other → answer ≡ other
  unfolding ReadsServerFinal
  one_server_final (Ok verified) (Ok other) reads too = refl
  one_server_final (Ok verified) (Err fault) reads (inl refused) =
      let both = one_signature strict text (Ok signature) (Err fault) reads refused in absurd (cc)
  one_server_final (Ok verified) (Err fault) reads (inr (other, too, differ, is)) =
      absurd (one_verdict other reads too differ)
  one_server_final (Err fault) (Ok verified) (inl refused) reads =
      let both = one_signature strict text (Ok signature) (Err fault) reads refused in absurd (cc)
  one_server_final (Err fault) (Ok verified) (inr (other, too, differ, is)) reads =
      absurd (one_verdict other reads too differ)
  one_server_final (Err fault) (Err other) (inl refused) (inl too) =
      let both = one_signature strict text (Err fault) (Err other) refused too in
      let same : fault ≡ other = cc in
      ap Err same
  one_server_final (Err fault) (Err other) (inl refused) (inr (given, reads, differ, is)) =
      let both = one_signature strict text (Err fault) (Ok given) refused reads in absurd (cc)
  one_server_final (Err fault) (Err other) (inr (given, reads, differ, is)) (inl refused) =
      let both = one_signature strict text (Err other) (Ok given) refused reads in absurd (cc)
  one_server_final (Err fault) (Err other) (inr (given, reads, differ, is)) (inr (more, too, differs, too_is)) =
      ap Err (is ∙ sym too_is)
