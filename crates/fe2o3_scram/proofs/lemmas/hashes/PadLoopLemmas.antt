-- The pad of a key as the code makes it: an array full of the mask, into which the masked key is written.
use Rattle.std.proofs.Common.{◌≡◌, ◌≤◌, ◌<◌, ◌+◌, ◌-◌, ℕ, zero, suc, List, [], ◌∷◌, ◌++◌, length, replicate, take, refl, arith, ◌∙◌, sym, ap}
use Rattle.std.proofs.Math.Seq.{take-length}
use Rattle.std.proofs.lemmas.List.{length-map, map-append, take-replicate}
use Rattle.std.specs.Prelude.{bit_xor, slice_set, slice_index_or}
use Rattle.fe2o3_scram.specs.declared.hmac.ScramVersion.{ScramVersion}
use Rattle.fe2o3_scram.specs.declared.hmac.ScramVersion.TheVariants.{Sha1, Sha256, Sha512}
use Rattle.fe2o3_scram.specs.Hmac.{masked, zero_filled, block_len}

-- the pad of n bytes after the first k bytes of the key were written
abbrev pub pad_after : ℕ → ℕ → List ℕ → ℕ → List ℕ
pad_after mask n key k = masked mask (take k key) ++ replicate (n - k) mask

-- the longest block is the array
pub block_len-max : (version : ScramVersion) → block_len version ≤ 128
block_len-max Sha1 = omega arith
block_len-max Sha256 = omega arith
block_len-max Sha512 = omega arith

set-pad : (mask k more : ℕ) (key : List ℕ) → k < length key
    → slice_set (masked mask (take k key) ++ replicate (suc more) mask) k (bit_xor (slice_index_or key k 0) mask)
    ≡ masked mask (take (suc k) key) ++ replicate more mask
set-pad mask k more [] below = absurd (omega (arith, below))
set-pad mask zero more (x ∷ key) below = refl
set-pad mask (suc k) more (x ∷ key) below = let less : k < length key = omega (arith, below) in
    ap (λ rest. bit_xor x mask ∷ rest) (set-pad mask k more key less)

-- one more byte of the key is written
pub pad_after-next : (version : ScramVersion) (mask k : ℕ) (key pad : List ℕ) → k < length key
    → length key ≤ block_len version → pad ≡ pad_after mask 128 key k
    → slice_set pad k (bit_xor (slice_index_or key k 0) mask) ≡ pad_after mask 128 key (k + 1)
pad_after-next version mask k key pad below short is =
    let most = block_len-max version in
    let left : 128 - k ≡ suc (128 - (k + 1)) = omega (arith, most, short, below) in
    let next : k + 1 ≡ suc k = omega arith in
    rw (is, left, next) (set-pad mask k (128 - suc k) key below)

-- the front of a list with a byte repeated at its end
take-front : (n many few mask : ℕ) (xs : List ℕ) → length xs + few ≡ n → few ≤ many
    → take n (xs ++ replicate many mask) ≡ xs ++ replicate few mask
take-front n many few mask [] is within = let same : n ≡ few = omega (arith, is) in
    rw same (take-replicate few many mask within)
take-front zero many few mask (x ∷ xs) is within = absurd (omega (arith, is))
take-front (suc n) many few mask (x ∷ xs) is within = let less : length xs + few ≡ n = omega (arith, is) in
    ap (λ rest. x ∷ rest) (take-front n many few mask xs less within)

masked-zeros : (mask n : ℕ) → masked mask (replicate n 0) ≡ replicate n mask
masked-zeros mask zero = refl
masked-zeros mask (suc n) = ap (λ rest. mask ∷ rest) (masked-zeros mask n)

masked-zero_filled : (mask n : ℕ) (key : List ℕ) → masked mask (zero_filled n key) ≡ masked mask key
    ++ replicate (n - length key) mask
masked-zero_filled mask n key = map-append (λ byte. bit_xor byte mask) key (replicate (n - length key) 0)
    ∙ ap (λ rest. masked mask key ++ rest) (masked-zeros mask (n - length key))

-- the front of the whole pad is the masked block of the key
pub take-pad : (version : ScramVersion) (mask k : ℕ) (key pad : List ℕ) → length key ≤ k → k ≤ length key
    → length key ≤ block_len version → pad ≡ pad_after mask 128 key k
    → take (block_len version) pad ≡ masked mask (zero_filled (block_len version) key)
take-pad version mask k key pad past within short is =
    let all : k ≡ length key = omega (arith, past, within) in
    let whole : take k key ≡ key = rw all (take-length key) in
    let most = block_len-max version in
    let long = length-map key (λ byte. bit_xor byte mask) in
    let written : pad ≡ masked mask key ++ replicate (128 - length key) mask = is ∙ rw (whole, all) refl in
    rw written (take-front (block_len version) (128 - length key) (block_len version - length key) mask
    (masked mask key) (omega (arith, long, short)) (omega (arith, short, most))
    ∙ sym (masked-zero_filled mask (block_len version) key))
