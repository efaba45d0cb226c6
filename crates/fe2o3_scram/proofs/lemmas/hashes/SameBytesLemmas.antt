-- The or of the exclusive ors of two lists, byte by byte, is 0 where the lists are the same.
use Rattle.std.proofs.Common.{◌≡◌, ◌<◌, ◌≤◌, ◌+◌, ◌-◌, inl, inr, ℕ, List, length, max, sym, ◌∙◌, ap, arith}
use Rattle.std.specs.Prelude.{bit_or, bit_xor, slice_index_or}
use Rattle.std.proofs.Math.Nat.{eq-zero-or-pos}
use Rattle.std.proofs.lemmas.List.{ext_get_or}
use Rattle.std.specs.Int.Bits.{xor_assoc, xor_self, xor_zero_l, xor_zero_r, or_zero_l}
use Rattle.std.specs.Int.{bit_at}
use Rattle.std.proofs.lemmas.Nat.Bits.{bit_at_or, bit_at-zero, same_from_bits}

-- the first k bytes are the same
abbrev pub SameTo : List ℕ → List ℕ → ℕ → Type 0
SameTo left right k = (at : ℕ) → at < k → slice_index_or left at 0 ≡ slice_index_or right at 0

or_zero_left : (a b : ℕ) → bit_or a b ≡ 0 → a ≡ 0
or_zero_left a b none = same_from_bits a 0 (λ i.
    let both : max (bit_at a i) (bit_at b i) ≡ bit_at 0 i = sym (bit_at_or a b i) ∙ ap (λ (n : ℕ). bit_at n i) none in
    let zero : bit_at 0 i ≡ 0 = bit_at-zero i in
    omega (arith, both, zero))

or_zero_right : (a b : ℕ) → bit_or a b ≡ 0 → b ≡ 0
or_zero_right a b none =
    sym (or_zero_l b) ∙ ap (λ (n : ℕ). bit_or n b) (sym (or_zero_left a b none)) ∙ none

xor_zero : (a b : ℕ) → bit_xor a b ≡ 0 → a ≡ b
xor_zero a b none =
    sym (xor_zero_r a) ∙ ap (bit_xor a) (sym (xor_self b)) ∙ sym (xor_assoc a b b)
    ∙ ap (λ (n : ℕ). bit_xor n b) none ∙ xor_zero_l b

-- all bytes
pub same_all : (left right : List ℕ) (k : ℕ) → length left ≡ length right → length left ≤ k → SameTo left right k
    → left ≡ right
same_all left right k long all same =
    ext_get_or 0 left right long (λ at below. let within : at < k = omega (arith, below, all) in same at within)

-- one more byte
pub same_next : (left right : List ℕ) (k turned : ℕ) → (turned ≡ 0 → SameTo left right k)
    → bit_or turned (bit_xor (slice_index_or left k 0) (slice_index_or right k 0)) ≡ 0
    → SameTo left right (k + 1)
same_next left right k turned before none at below =
    let turned_none : turned ≡ 0 = or_zero_left turned
    (bit_xor (slice_index_or left k 0) (slice_index_or right k 0)) none in
    let this : slice_index_or left k 0 ≡ slice_index_or right k 0 = xor_zero (slice_index_or left k 0)
    (slice_index_or right k 0)
    (or_zero_right turned (bit_xor (slice_index_or left k 0) (slice_index_or right k 0)) none) in
    elim (eq-zero-or-pos (k - at)) [
      | inl none_left ↦ let last : at ≡ k = omega (arith, below, none_left) in rw last this
      | inr some_left ↦ let less : at < k = omega (arith, some_left) in before turned_none at less
    ]

pub none_next : (left right : List ℕ) (k turned : ℕ) → (left ≡ right → turned ≡ 0) → left ≡ right
    → bit_or turned (bit_xor (slice_index_or left k 0) (slice_index_or right k 0)) ≡ 0
none_next left right k turned before same =
    let turned_none : turned ≡ 0 = before same in
    rw (turned_none, same) (or_zero_l (bit_xor (slice_index_or right k 0) (slice_index_or right k 0))
    ∙ xor_self (slice_index_or right k 0))
