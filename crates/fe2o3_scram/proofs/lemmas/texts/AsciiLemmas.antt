-- Which texts are UTF-8: literals, base64, escaped names.
use Rattle.std.proofs.Common.{◌≡◌, ◌≢◌, ◌<◌, ◌≤◌, ◌+◌, ◌/◌, ℕ, zero, suc, true, false, Bool, List, [], ◌∷◌, ◌++◌, refl, arith, lit<, codes, cond, subst, inl, inr}
use Rattle.std.specs.Prelude.{nat_lt}
use Rattle.std.specs.List.{AllByRecursion, list_all}
use Rattle.std.specs.Str.{IsUtf8, IsAscii}
use Rattle.std.proofs.lemmas.Str.{IsUtf8-append, IsUtf8-encode, IsUtf8-nil, IsUtf8-from_ascii, encode_ascii}
use Rattle.std.proofs.lemmas.Str.Ascii.{IsAscii-nil}
use Rattle.std.proofs.lemmas.Bool.{cases_lt, and_parts, le-ltb}
use Rattle.std.proofs.Math.Utf8.{encode, encodes, scalars, scalar, next}
use Rattle.fe2o3_scram.specs.Texts.{alphabet, base64_text}
use Rattle.fe2o3_scram.specs.Escape.{escaped, escaped_byte}
use Rattle.fe2o3_scram.proofs.lemmas.texts.EachByteLemmas.{each-append, each-base64_text, each-weaker}
use Rattle.fe2o3_scram.proofs.lemmas.texts.EscapingLemmas.{by_cases, escaped-nil, escaped-cons, escaped-append, escaped-plain}

-- each byte is ASCII
abbrev pub Small : List ℕ → Type 0
Small text = AllByRecursion (λ byte. byte < 128) text

pub small-append : (front back : List ℕ) → Small front → Small back → Small (front ++ back)
small-append = each-append (λ byte. byte < 128)

pub small-test : (text : List ℕ) → list_all (λ byte. nat_lt byte 128) text ≡ true → Small text
small-test [] passes = tt
small-test (x ∷ text) passes = let both = and_parts (nat_lt x 128) (list_all (λ byte. nat_lt byte 128) text) passes in
    (grind (arith, both), small-test text both.1)

pub small-base64_text : (bytes : List ℕ) → Small (base64_text bytes)
small-base64_text bytes = each-base64_text (λ byte. byte < 128) bytes (lit< tt) (lit< tt) (small-test alphabet refl)

ascii : (text : List ℕ) → Small text → IsAscii text
ascii [] small i = IsAscii-nil i
ascii (x ∷ text) small zero = small.0
ascii (x ∷ text) small (suc i) = ascii text small.1 i

-- a literal is ASCII where the test says so
pub IsAscii-literal : (text : List ℕ) → list_all (λ byte. nat_lt byte 128) text ≡ true → IsAscii text
IsAscii-literal text passes = ascii text (small-test text passes)

pub IsUtf8-small : (text : List ℕ) → Small text → IsUtf8 text
IsUtf8-small text small = IsUtf8-from_ascii text (ascii text small)

pub IsUtf8-base64_text : (bytes : List ℕ) → IsUtf8 (base64_text bytes)
IsUtf8-base64_text bytes = IsUtf8-small (base64_text bytes) (small-base64_text bytes)

-- a literal is UTF-8 where the test says so
pub IsUtf8-literal : (text : List ℕ) → list_all (λ byte. nat_lt byte 128) text ≡ true → IsUtf8 text
IsUtf8-literal text passes = IsUtf8-small text (small-test text passes)

-- ASCII, and a text after it
pub utf8_behind : (key text : List ℕ) → list_all (λ byte. nat_lt byte 128) key ≡ true → IsUtf8 text
    → IsUtf8 (key ++ text)
utf8_behind key text passes utf8 = IsUtf8-append key text (IsUtf8-literal key passes) utf8

IsUtf8-escaped_byte : (b : ℕ) → b < 128 → IsUtf8 (escaped_byte b)
IsUtf8-escaped_byte b small = by_cases b IsUtf8 (λ _. IsUtf8-literal (codes "=2C") refl)
    (λ _. IsUtf8-literal (codes "=3D") refl) (λ comma equals. IsUtf8-small (b ∷ []) (small, tt))

-- neither a comma nor an equals sign
abbrev Plain : ℕ → Type 0
Plain b = (b ≢ 44) × (b ≢ 61)

high : (b : ℕ) → 128 ≤ b → Plain b
high b large = (λ is. absurd (omega (arith, is, large)), λ is. absurd (omega (arith, is, large)))

-- the bytes of a character that is not ASCII are plain
wide : (c : ℕ) → 128 ≤ c → AllByRecursion Plain (encode c)
unfolding encode
wide c large = rw (le-ltb c 128 large) (go (nat_lt c 2048) (nat_lt c 65536))
  where
    go : (x y : Bool) → AllByRecursion Plain (cond x ((192 + c / 64) ∷ next c ∷ [])
        (cond y ((224 + c / 4096) ∷ next (c / 64) ∷ next c ∷ [])
        ((240 + c / 262144) ∷ next (c / 4096) ∷ next (c / 64) ∷ next c ∷ [])))
    go true y = (high (192 + c / 64) (omega arith), (high (next c) (omega arith), tt))
    go false true = (
      high (224 + c / 4096) (omega arith),
      (high (next (c / 64)) (omega arith), (high (next c) (omega arith), tt)),
    )
    go false false = (
      high (240 + c / 262144) (omega arith),
      (high (next (c / 4096)) (omega arith), (high (next (c / 64)) (omega arith), (high (next c) (omega arith), tt))),
    )

character : (c : ℕ) → scalar c ≡ true → IsUtf8 (escaped (encode c))
character c is = elim (cases_lt c 128) [
  | inl small ↦ rw (encode_ascii c small, escaped-cons c [], escaped-nil)
      (IsUtf8-append (escaped_byte c) [] (IsUtf8-escaped_byte c small) IsUtf8-nil)
  | inr large ↦ rw (escaped-plain (encode c)
      (each-weaker Plain (λ byte. byte ≢ 44) (λ _ plain. plain.0) (encode c) (wide c large))
      (each-weaker Plain (λ byte. byte ≢ 61) (λ _ plain. plain.1) (encode c) (wide c large))) (IsUtf8-encode c is)
]

characters : (cs : List ℕ) → scalars cs ≡ true → IsUtf8 (escaped (encodes cs))
characters [] are = rw escaped-nil IsUtf8-nil
characters (c ∷ cs) are =
    let both = and_parts (scalar c) (scalars cs) are in
    rw (escaped-append (encode c) (encodes cs)) (IsUtf8-append (escaped (encode c)) (escaped (encodes cs))
    (character c both.0) (characters cs both.1))

-- an escaped name is UTF-8 where the name is
pub IsUtf8-escaped : (name : List ℕ) → IsUtf8 name → IsUtf8 (escaped name)
IsUtf8-escaped name is = subst (λ text. IsUtf8 (escaped text)) is.1.1 (characters is.0 is.1.0)
