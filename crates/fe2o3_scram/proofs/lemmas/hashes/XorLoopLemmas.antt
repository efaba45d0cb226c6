-- The exclusive or of two lists, as a loop writes it over the first.
use Rattle.std.proofs.Common.{◌≡◌, ◌<◌, ◌+◌, ℕ, zero, suc, List, [], ◌∷◌, ◌++◌, length, take, drop, refl, arith, ap, sym}
use Rattle.std.specs.Prelude.{bit_xor, slice_set, slice_index_or}
use Rattle.fe2o3_scram.specs.Hmac.{exclusive_or}

-- the first k bytes are the exclusive or, and the others as they were
abbrev pub xored_to : List ℕ → List ℕ → ℕ → List ℕ
xored_to left right k = exclusive_or (take k left) (take k right) ++ drop k left

pub exclusive_or-nil : (right : List ℕ) → exclusive_or [] right ≡ []
unfolding exclusive_or
exclusive_or-nil right = refl

pub xored_to-zero : (left right : List ℕ) → left ≡ xored_to left right 0
xored_to-zero left right = sym (ap (λ front. front ++ left) (exclusive_or-nil []))

step : (k : ℕ) (left right : List ℕ) → k < length left → length left ≡ length right
    → slice_set (xored_to left right k) k (bit_xor (slice_index_or (xored_to left right k) k 0)
    (slice_index_or right k 0)) ≡ xored_to left right (suc k)
unfolding exclusive_or
step k [] right below same = absurd (omega (arith, below))
step k (x ∷ left) [] below same = absurd (omega (arith, same))
step zero (x ∷ left) (y ∷ right) below same = refl
step (suc k) (x ∷ left) (y ∷ right) below same =
    let less : k < length left = omega (arith, below) in
    let equal : length left ≡ length right = omega (arith, same) in
    ap (λ rest. bit_xor x y ∷ rest) (step k left right less equal)

-- one more byte
pub xored_to-next : (k : ℕ) (left right now : List ℕ) → k < length left → length left ≡ length right
    → now ≡ xored_to left right k
    → slice_set now k (bit_xor (slice_index_or now k 0) (slice_index_or right k 0)) ≡ xored_to left right (k + 1)
xored_to-next k left right now below same is = let next : k + 1 ≡ suc k = omega arith in
    rw (is, next) (step k left right below same)

-- all bytes
pub xored_to-all : (k : ℕ) (left right : List ℕ) → length left ≡ k → length right ≡ k
    → xored_to left right k ≡ exclusive_or left right
unfolding exclusive_or
xored_to-all k [] [] long same = let none : k ≡ 0 = omega (arith, long) in rw none refl
xored_to-all k [] (y ∷ right) long same = absurd (omega (arith, long, same))
xored_to-all k (x ∷ left) [] long same = absurd (omega (arith, long, same))
xored_to-all zero (x ∷ left) (y ∷ right) long same = absurd (omega (arith, long))
xored_to-all (suc k) (x ∷ left) (y ∷ right) long same =
    let less : length left ≡ k = omega (arith, long) in
    let equal : length right ≡ k = omega (arith, same) in
    ap (λ rest. bit_xor x y ∷ rest) (xored_to-all k left right less equal)
