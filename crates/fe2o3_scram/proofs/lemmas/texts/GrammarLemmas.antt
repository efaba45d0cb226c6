-- The tests by the grammar of messages: of the parts from a place on, of values and of nonces.
use Rattle.std.proofs.Common.{◌≡◌, ◌⊎◌, inl, inr, ◌↔◌, Bool, true, false, ◌||◌, not, ◌≤◌, ℕ, zero, suc, Some, List, [], ◌∷◌, drop, refl, sym, ap, ◌∙◌, arith}
use Rattle.std.specs.Prelude.{slice_get, nat_eq, nat_lt, length, replicate, ◌&&◌, codes}
use Rattle.std.specs.Char.{is_ascii_alphabetic}
use Rattle.std.specs.List.{AllByRecursion, list_all, list_any}
use Rattle.std.proofs.lemmas.Bool.{and_parts}
use Rattle.std.proofs.lemmas.Bool.Decides.{nat_tests}
use Rattle.std.proofs.lemmas.List.{length-append}
use Rattle.std.proofs.lemmas.Option.{none-some, same_Some}
use Rattle.base64.specs.GeneralPurpose.{IsBytes}
use Rattle.base64.specs.Rfc4648.{encode_symbols, padding_len}
use Rattle.base64.proofs.RoundTrip.{length-encode_symbols}
use Rattle.fe2o3_scram.specs.Texts.{alphabet, base64_text}
use Rattle.fe2o3_scram.proofs.lemmas.texts.EachByteLemmas.{each-base64_of_bytes}
use Rattle.fe2o3_scram.specs.Extensions.{HasAttributeFrom, is_attribute}
use Rattle.fe2o3_scram.specs.Grammar.{HasMisplacedFrom, is_extension, is_nonce, is_printable, is_value}
use Rattle.fe2o3_scram.proofs.lemmas.texts.JoinedTextLemmas.{part_in}
use Rattle.fe2o3_scram.proofs.lemmas.texts.PartsLemmas.{pieces, Parts-pieces}

-- the part is no extension
abbrev pub is_other : List ℕ → Bool
is_other part = not (is_extension part)

-- one of the parts from place k on is no extension
abbrev SomeOther : List (List ℕ) → ℕ → Type 0
SomeOther parts k = (j : ℕ) × (part : List ℕ) × (k ≤ j) × (slice_get parts j ≡ Some part) × (is_other part ≡ true)

later : (x : List ℕ) (parts : List (List ℕ)) (k : ℕ) → SomeOther parts k → SomeOther (x ∷ parts) (suc k)
later x parts k (j, part, within, at, is) = (suc j, part, omega (arith, within), at, is)

sooner : (x : List ℕ) (parts : List (List ℕ)) → SomeOther parts 0 → SomeOther (x ∷ parts) 0
sooner x parts (j, part, within, at, is) = (suc j, part, omega arith, at, is)

some_other : (parts : List (List ℕ)) (k : ℕ) → list_any is_other (drop k parts) ≡ true → SomeOther parts k
some_other [] zero any = absurd (cc)
some_other [] (suc k) any = absurd (cc)
some_other (x ∷ parts) zero any = go (is_other x) refl any (λ rest. some_other parts 0 rest)
  where
    go : (first : Bool) → is_other x ≡ first → (first || list_any is_other parts) ≡ true
        → (list_any is_other parts ≡ true → SomeOther parts 0) → SomeOther (x ∷ parts) 0
    go true is any others = (0, x, omega arith, refl, is)
    go false is any others = sooner x parts (others any)
some_other (x ∷ parts) (suc k) any = later x parts k (some_other parts k any)

any_at : (parts : List (List ℕ)) (k j : ℕ) (part : List ℕ) → k ≤ j → slice_get parts j ≡ Some part
    → is_other part ≡ true → list_any is_other (drop k parts) ≡ true
any_at [] k j part within at is = absurd (none-some part at)
any_at (x ∷ parts) zero zero part within at is =
    let same : x ≡ part = same_Some x part at in ap (λ (b : Bool). b || list_any is_other parts) (ap is_other same ∙ is)
any_at (x ∷ parts) zero (suc j) part within at is = go (is_other x) (any_at parts 0 j part (omega arith) at is)
  where
    go : (first : Bool) → list_any is_other parts ≡ true → (first || list_any is_other parts) ≡ true
    go true any = refl
    go false any = any
any_at (x ∷ parts) (suc k) zero part within at is = absurd (omega (arith, within))
any_at (x ∷ parts) (suc k) (suc j) part within at is = any_at parts k j part (omega (arith, within)) at is

other_is : (part : List ℕ) → is_other part ≡ true → is_extension part ≡ false
other_is part is = go (is_extension part) refl is
  where
    go : (b : Bool) → is_extension part ≡ b → not b ≡ true → is_extension part ≡ false
    go true same wrong = absurd (cc)
    go false same holds = same

-- what the test of the code answers
pub misplaced_from : (text : List ℕ) (k : ℕ) (answer : Bool) → answer ≡ list_any is_other (drop k (pieces text))
    → (answer ≡ true) ↔ HasMisplacedFrom k text
misplaced_from text k answer is = (
  λ yes. let some = some_other (pieces text) k (sym is ∙ yes) in
      (some.0, some.1, some.2, (pieces text, Parts-pieces text, some.3), other_is some.1 some.4),
  λ has. is ∙ any_at (pieces text) k has.0 has.1 has.2
      (part_in text (pieces text) has.0 has.1 (Parts-pieces text) has.3) (ap not has.4),
)

-- whether a text has one
pub misplaced_from_or : (k : ℕ) (text : List ℕ) → HasMisplacedFrom k text ⊎ ¬ HasMisplacedFrom k text
misplaced_from_or k text = go (list_any is_other (drop k (pieces text))) refl
  where
    go : (answer : Bool) → answer ≡ list_any is_other (drop k (pieces text))
        → HasMisplacedFrom k text ⊎ ¬ HasMisplacedFrom k text
    go true is = inl ((misplaced_from text k true is).0 refl)
    go false is = inr (λ has. let wrong : ◌≡◌ {A = Bool} false true = (misplaced_from text k false is).1 has in absurd (cc))

-- ---- an attribute that RFC 5802 defines is no extension

no_extension : (part : List ℕ) → is_attribute part ≡ true → is_extension part ≡ false
no_extension [] is = refl
no_extension (x ∷ []) is = refl
no_extension (letter ∷ sign ∷ value) is =
    go (nat_eq sign 61) (list_any (nat_eq letter) (codes "anmrcsipve")) (is_ascii_alphabetic letter) (is_value value) is
  where
    go : (equals defined alphabetic valued : Bool) → (equals && defined) ≡ true
        → (equals && ((alphabetic && not defined) && valued)) ≡ false
    go true true true valued both = refl
    go true true false valued both = refl
    go true false alphabetic valued both = absurd (cc)
    go false defined alphabetic valued both = absurd (cc)

pub attribute_is_misplaced : (k : ℕ) (text : List ℕ) → HasAttributeFrom k text → HasMisplacedFrom k text
attribute_is_misplaced k text has = (has.0, has.1, has.2, has.3, no_extension has.1 has.4)

-- ---- nonces

all_pass : (test : ℕ → Bool) (text : List ℕ) → AllByRecursion (λ byte. test byte ≡ true) text → list_all test text ≡ true
all_pass test [] all = refl
all_pass test (x ∷ text) all =
    ap (λ (b : Bool). b && list_all test text) all.0 ∙ all_pass test text all.1

each_passes : (test : ℕ → Bool) (text : List ℕ) → list_all test text ≡ true → AllByRecursion (λ byte. test byte ≡ true) text
each_passes test [] all = tt
each_passes test (x ∷ text) all =
    let both = and_parts (test x) (list_all test text) all in (both.0, each_passes test text both.1)

some_symbols : (bytes : List ℕ) → 1 ≤ length bytes → 1 ≤ length (base64_text bytes)
unfolding base64_text
some_symbols bytes some = omega (
  arith,
  some,
  length-append (encode_symbols alphabet bytes) (replicate (padding_len (length bytes)) 61),
  length-encode_symbols alphabet bytes,
)

-- bytes are written in base64 with printable characters
pub is_nonce-base64_text : (bytes : List ℕ) → IsBytes bytes → 1 ≤ length bytes → is_nonce (base64_text bytes) ≡ true
is_nonce-base64_text bytes are some =
    let all = all_pass is_printable (base64_text bytes) (each-base64_of_bytes (λ byte. is_printable byte ≡ true) bytes are refl
    (each_passes is_printable alphabet refl)) in
    let long = some_symbols bytes some in
    ap (λ (b : Bool). nat_lt 0 (length (base64_text bytes)) && b) all ∙ longer long
  where
    longer : 1 ≤ length (base64_text bytes) → (nat_lt 0 (length (base64_text bytes)) && true) ≡ true
    longer long = grind (arith, nat_tests)
