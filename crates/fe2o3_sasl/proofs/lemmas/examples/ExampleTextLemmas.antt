-- Texts of the worked examples: their parts, that they are UTF-8, and how long they are.
use Rattle.std.proofs.Common.{◌≡◌, ◌<◌, ℕ, zero, suc, true, not, eqb, List, [], ◌∷◌, ◌++◌, length, replicate, refl, ◌∙◌, ap, arith, codes, append_assoc}
use Rattle.std.specs.Prelude.{nat_lt}
use Rattle.std.specs.Fmt.{decimal, digits}
use Rattle.std.specs.List.{list_all, AllByRecursion}
use Rattle.std.specs.Str.{IsUtf8}
use Rattle.std.proofs.lemmas.List.{length-append, length-replicate}
use Rattle.base64.specs.Rfc4648.{encode_symbols, padding_len}
use Rattle.base64.specs.GeneralPurpose.{IsBytes}
use Rattle.base64.proofs.RoundTrip.{length-encode_symbols}
use Rattle.fe2o3_scram.specs.Texts.{alphabet, base64_text, NoComma, Parts, joined}
use Rattle.fe2o3_scram.specs.Escape.{escaped}
use Rattle.fe2o3_scram.proofs.lemmas.texts.AsciiLemmas.{Small, small-append, small-test, small-base64_text, IsUtf8-small}
use Rattle.fe2o3_scram.proofs.lemmas.texts.Base64Lemmas.{no_comma-append, no_comma-test, no_comma-base64_text}
use Rattle.fe2o3_scram.proofs.lemmas.hashes.DigestLemmas.{IsBytes-nil, IsBytes-cons}

-- a text that can be a part: no byte is a comma, and each is ASCII
abbrev pub Plain : List ℕ → Type 0
Plain text = NoComma text × Small text

pub plain-literal : (text : List ℕ) → list_all (λ byte. not (eqb byte 44)) text ≡ true
    → list_all (λ byte. nat_lt byte 128) text ≡ true → Plain text
plain-literal text passes too = (no_comma-test text passes, small-test text too)

pub plain-append : (front back : List ℕ) → Plain front → Plain back → Plain (front ++ back)
plain-append front back plain too = (no_comma-append front back plain.0 too.0, small-append front back plain.1 too.1)

pub plain-base64_text : (bytes : List ℕ) → Plain (base64_text bytes)
plain-base64_text bytes = (no_comma-base64_text bytes, small-base64_text bytes)

-- such texts are the parts of what they are joined to
pub parts_joined : (part : List ℕ) (parts : List (List ℕ)) → AllByRecursion Plain (part ∷ parts)
    → Parts (joined (part ∷ parts)) (part ∷ parts)
parts_joined part parts plain = record { some = omega arith; apart = apart (part ∷ parts) plain; whole = refl }
  where
    apart : (parts : List (List ℕ)) → AllByRecursion Plain parts → AllByRecursion NoComma parts
    apart [] plain = tt
    apart (part ∷ parts) plain = (plain.0.0, apart parts plain.1)

pub small_joined : (parts : List (List ℕ)) → AllByRecursion Plain parts → Small (joined parts)
small_joined [] plain = tt
small_joined (part ∷ []) plain = plain.0.1
small_joined (part ∷ next ∷ more) plain = small-append part (44 ∷ joined (next ∷ more)) plain.0.1
    (omega arith, small_joined (next ∷ more) plain.1)

pub utf8_joined : (parts : List (List ℕ)) → AllByRecursion Plain parts → IsUtf8 (joined parts)
utf8_joined parts plain = IsUtf8-small (joined parts) (small_joined parts plain)

-- two joined texts are joined
pub joined-append : (part : List ℕ) (parts : List (List ℕ)) (other : List ℕ) (others : List (List ℕ))
    → joined (part ∷ parts) ++ 44 ∷ joined (other ∷ others) ≡ joined (part ∷ parts ++ other ∷ others)
joined-append part [] other others = refl
joined-append part (next ∷ more) other others = append_assoc part (44 ∷ joined (next ∷ more))
    (44 ∷ joined (other ∷ others)) ∙ ap (λ (rest : List ℕ). part ++ 44 ∷ rest) (joined-append next more other others)

-- ---- texts

pub header_text : base64_text (codes "n,,") ≡ codes "biws"
unfolding base64_text encode_symbols
header_text = refl

pub user_text : escaped (codes "user") ≡ codes "user"
unfolding escaped
user_text = refl

pub count_text : decimal 4096 ≡ codes "4096"
unfolding digits
count_text = refl

-- 32 bytes are written in 44
pub length-base64_text : (bytes : List ℕ) → length bytes ≡ 32 → length (base64_text bytes) ≡ 44
unfolding base64_text
length-base64_text bytes long =
    length-append (encode_symbols alphabet bytes) (replicate (padding_len (length bytes)) 61)
    ∙ rw (length-encode_symbols alphabet bytes, length-replicate {A = ℕ} (padding_len (length bytes)) 61, long) refl

pub IsBytes-replicate : (n byte : ℕ) → byte < 256 → IsBytes (replicate n byte)
IsBytes-replicate zero byte below = IsBytes-nil
IsBytes-replicate (suc n) byte below = IsBytes-cons byte (replicate n byte) below (IsBytes-replicate n byte below)
