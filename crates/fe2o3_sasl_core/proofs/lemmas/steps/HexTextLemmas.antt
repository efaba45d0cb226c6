-- A text spells bytes in hexadecimal digits exactly where the decoder reads them from it.
use Rattle.std.proofs.Common.{◌≡◌, ℕ, zero, suc, ◌+◌, ◌*◌, ◌<◌, ◌==◌, Bool, true, ◌&&◌, nat_lt, if◌then◌else◌, inl, inr, List, [], ◌∷◌, length, slice_index, Option, Some, None, Result, Ok, Err, refl, sym, ap, ◌∙◌, subst, arith}
use Rattle.std.specs.Result.{result_unwrap_or}
use Rattle.std.proofs.lemmas.Bool.{and_parts, cases_eq, cases_lt, eqb-true}
use Rattle.std.proofs.lemmas.Option.{get_or_from_slice_get, slice_get-get_or, slice_get_within}
use Rattle.hex.specs.Hex.{decode_of, decode_pairs, digit_or_error, hex_digit_value, encode_lower, encode_upper, lower_digits, pair_value, upper_digits, value_at, ◌>>=◌}
use Rattle.hex.specs.declared.error.FromHexError.{FromHexError}
use Rattle.hex.proofs.HexLemmas.{IsDigits-lower_digits, IsDigits-upper_digits, decode_of-even, decode_of-ok, decode_of-same, decode_of-encode_lower, decode_of-encode_upper}
use Rattle.fe2o3_sasl_core.specs.Hex.{IsDigit, SpellsByte, SpellsHex, OneBytesOfHex, HexIsReadAgain}

-- ---- digits

-- the digits of a value
abbrev lower_digit : ℕ → ℕ
lower_digit value = if nat_lt value 10 then 48 + value else 87 + value

abbrev upper_digit : ℕ → ℕ
upper_digit value = if nat_lt value 10 then 48 + value else 55 + value

-- the first n places of a table hold these digits, as a test that computes
abbrev all_held : List ℕ → (ℕ → ℕ) → ℕ → Bool
all_held table digit zero = true
all_held table digit (suc n) = (slice_index table n == digit n) && all_held table digit n

held : (table : List ℕ) (digit : ℕ → ℕ) (n k : ℕ) → all_held table digit n ≡ true → k < n
    → slice_index table k ≡ digit k
held table digit zero k h lt = absurd (omega arith)
held table digit (suc n) k h lt =
    let parts = and_parts (slice_index table n == digit n) (all_held table digit n) h in
    elim (cases_lt k n) [
      | inl below ↦ held table digit n k parts.1 below
      | inr top ↦
          let e : k ≡ n = omega arith in
          rw e (eqb-true (slice_index table n) (digit n) parts.0)
    ]

-- a digit reads as its value
digit_value : (digit value : ℕ) → IsDigit digit value → hex_digit_value digit ≡ Some value
digit_value digit value (inl at) =
    ap hex_digit_value (sym (get_or_from_slice_get lower_digits value digit 0 at))
    ∙ IsDigits-lower_digits value (slice_get_within lower_digits value digit at)
digit_value digit value (inr at) =
    ap hex_digit_value (sym (get_or_from_slice_get upper_digits value digit 0 at))
    ∙ IsDigits-upper_digits value (slice_get_within upper_digits value digit at)

-- what reads as a value is a digit of it
value_digit : (digit value : ℕ) → hex_digit_value digit ≡ Some value → IsDigit digit value
value_digit digit value h =
    let small : value < 16 = grind (arith) in
    elim (cases_eq digit (lower_digit value)) [
      | inl same ↦ inl (slice_get-get_or lower_digits value 0 small
          ∙ ap Some (held lower_digits lower_digit 16 value refl small ∙ sym same))
      | inr other ↦
          let same : digit ≡ upper_digit value = grind (arith) in
          inr (slice_get-get_or upper_digits value 0 small
          ∙ ap Some (held upper_digits upper_digit 16 value refl small ∙ sym same))
    ]

-- ---- pairs of digits

byte_value : (first second byte i : ℕ) → SpellsByte first second byte → pair_value first second i ≡ Ok byte
byte_value first second byte i h =
    rw (digit_value first h.high h.sixteens, digit_value second h.low h.ones, h.whole) refl

pairs_of : (bytes text : List ℕ) (i : ℕ) → SpellsHex text bytes → decode_pairs i text ≡ Ok bytes
unfolding decode_pairs
pairs_of [] text i is = rw is refl
pairs_of (byte ∷ bytes) text i h =
    rw (h.3, byte_value h.0 h.1 byte i h.4, pairs_of bytes h.2 (i + 2) h.5) refl

twice : (bytes text : List ℕ) → SpellsHex text bytes → length text ≡ 2 * length bytes
twice [] text is = rw is refl
twice (byte ∷ bytes) text h =
    let rest = twice bytes h.2 h.5 in
    rw h.3 (omega (arith, rest))

-- the value under a step
bound : {A B : Type 0} (r : Result A FromHexError) (f : A → Result B FromHexError) (y : B) → (r >>= f) ≡ Ok y
    → (x : A) × (r ≡ Ok x) × (f x ≡ Ok y)
bound (Ok x) f y h = (x, refl, h)
bound (Err e) f y h = cc h

read_digit : (c i : ℕ) (o : Option ℕ) (v : ℕ) → digit_or_error c i o ≡ Ok v → o ≡ Some v
read_digit c i (Some w) v h = ap Some (ap (λ (r : Result ℕ FromHexError). result_unwrap_or r 0) h)
read_digit c i None v h = cc h

of_pairs : (text bytes : List ℕ) (i : ℕ) → decode_pairs i text ≡ Ok bytes → SpellsHex text bytes
unfolding decode_pairs
of_pairs [] bytes i h =
    subst (SpellsHex []) (ap (λ (r : Result (List ℕ) FromHexError). result_unwrap_or r []) h) refl
of_pairs (digit ∷ []) bytes i h = cc h
of_pairs (first ∷ second ∷ others) bytes i h =
    let byte = bound (pair_value first second i) _ bytes h in
    let high = bound (value_at first i) _ byte.0 byte.1 in
    let low = bound (value_at second (i + 1)) _ byte.0 high.2 in
    let rest = bound (decode_pairs (i + 2) others) _ bytes byte.2 in
    let whole : high.0 * 16 + low.0 ≡ byte.0 = ap (λ (r : Result ℕ FromHexError). result_unwrap_or r 0) low.2 in
    let is : byte.0 ∷ rest.0 ≡ bytes = ap (λ (r : Result (List ℕ) FromHexError). result_unwrap_or r []) rest.2 in
    subst (SpellsHex (first ∷ second ∷ others)) is (
      first,
      second,
      others,
      refl,
      record {
        high = high.0;
        low = low.0;
        sixteens = value_digit first high.0 (read_digit first i (hex_digit_value first) high.0 high.1);
        ones = value_digit second low.0 (read_digit second (i + 1) (hex_digit_value second) low.0 low.1);
        whole = sym whole;
      },
      of_pairs others rest.0 (i + 2) rest.1,
    )

-- ---- whole texts

pub spelled_is_read : (text bytes : List ℕ) → SpellsHex text bytes → decode_of text ≡ Ok bytes
spelled_is_read text bytes h =
    let len = twice bytes text h in
    decode_of-even text (omega (arith, len)) ∙ pairs_of bytes text 0 h

pub read_is_spelled : (text bytes : List ℕ) → decode_of text ≡ Ok bytes → SpellsHex text bytes
read_is_spelled text bytes h =
    let even = (decode_of-ok text bytes h).0 in
    of_pairs text bytes 0 (sym (decode_of-even text even) ∙ h)

pub one_bytes_of_hex : OneBytesOfHex
one_bytes_of_hex text bytes others is too =
    decode_of-same text bytes others (spelled_is_read text bytes is) (spelled_is_read text others too)

pub hex_is_read_again : HexIsReadAgain
hex_is_read_again bytes small = (
  read_is_spelled (encode_lower bytes) bytes (decode_of-encode_lower bytes small),
  read_is_spelled (encode_upper bytes) bytes (decode_of-encode_upper bytes small),
)
