-- What is kept of bytes that come in pieces, and what is sent of a body.
use Rattle.std.proofs.Common.{◌≡◌, ◌⊎◌, ℕ, ◌+◌, ◌-◌, ◌<◌, ◌≤◌, List, ◌++◌, length, take, drop, min, sym, ap, ◌∙◌, subst, inl, inr, Result, Ok, Err, is_ok, OnOk, if◌then◌else◌, append_assoc, arith, length-append}
use Rattle.std.proofs.lemmas.List.{length-take, take_min, take_rest, drop_min, take_all, take_at, take-append-drop, take-append-le}
use Rattle.std.proofs.lemmas.Bool.{cases_lt}
use Rattle.std.specs.Int.{w32, from_be_bytes}
use Rattle.bytes.proofs.Ranges.{take-append_past}
use Rattle.fe2o3_sasl_negotiation.specs.declared.progress.Expected.{Expected}
use Rattle.fe2o3_sasl_negotiation.specs.declared.progress.Expected.TheVariants.{Header, Frame}
use Rattle.fe2o3_sasl_negotiation.specs.Framing.{size_of, Fits, unit_size, IsPart, IsRefused, IsWhole}

-- as many bytes are kept as are missing
pub kept : (xs ys : List ℕ) (n k : ℕ) → length xs ≤ n → k ≡ min (n - length xs) (length ys)
    → xs ++ take k ys ≡ take n (xs ++ ys)
kept xs ys n k fits is =
    ap (λ z. xs ++ take z ys) is
    ∙ (ap (λ z. xs ++ z) (take_min (n - length xs) ys)
    ∙ sym (take-append_past xs ys (n - length xs) n (omega arith)))

-- where bytes are appended
pub appended : {A E : Type 0} (result : Result A E) (new old all wanted : List ℕ)
    → new ≡ (if is_ok result then all else old) → all ≡ wanted → OnOk result (new ≡ wanted)
appended (Ok value) new old all wanted is same = is ∙ same
appended (Err fault) new old all wanted is same = tt

-- what is kept and what is left are all that has come
pub kept_and_left : (xs ys : List ℕ) (n k : ℕ) → length xs ≤ n → k ≡ length (take n (xs ++ ys)) - length xs
    → take n (xs ++ ys) ++ drop k ys ≡ xs ++ ys
kept_and_left xs ys n k fits is =
    let m : ℕ = n - length xs in
    let start : take n (xs ++ ys) ≡ xs ++ take m ys = take-append_past xs ys m n (omega arith) in
    let count : k ≡ min m (length ys) = omega (arith, length-take n (xs ++ ys), length-append xs ys) in
    ap (λ z. take n (xs ++ ys) ++ drop z ys) count
    ∙ (ap (λ z. take n (xs ++ ys) ++ z) (drop_min m ys)
    ∙ (ap (λ z. z ++ drop m ys) start
    ∙ (append_assoc xs (take m ys) (drop m ys) ∙ ap (λ z. xs ++ z) (take-append-drop m ys))))

-- the first four bytes give the size
pub size_of-append : (xs ys : List ℕ) → 4 ≤ length xs → size_of (xs ++ ys) ≡ size_of xs
unfolding size_of
size_of-append xs ys four = ap (from_be_bytes w32) (take-append-le 4 xs ys four)

-- less than a unit is shorter than the unit that it grows to
pub part_is_shorter : (expected : Expected) (limit : ℕ) (part rest : List ℕ) → IsPart expected limit part
    → IsWhole expected limit (part ++ rest) → length part < unit_size expected (part ++ rest)
part_is_shorter Header limit part rest less whole = omega arith
part_is_shorter (Frame turn) limit part rest less whole = go (cases_lt (length part) 4)
  where
    go : (length part < 4) ⊎ (4 ≤ length part) → length part < size_of (part ++ rest)
    go (inl few) = let fits : 8 ≤ size_of (part ++ rest) = whole.0.0 in omega arith
    go (inr four) = let few : length part < size_of part = (less four).1 in
        let same = size_of-append part rest four in omega arith

pub part_is_short : (expected : Expected) (limit : ℕ) (part rest : List ℕ) → IsPart expected limit part
    → IsWhole expected limit (part ++ rest) → length part ≤ unit_size expected (part ++ rest)
part_is_short expected limit part rest less whole =
    let short = part_is_shorter expected limit part rest less whole in omega arith

-- and less than four bytes where a size is not allowed
pub refused_is_short : (expected : Expected) (limit : ℕ) (part rest : List ℕ) → IsPart expected limit part
    → IsRefused expected limit (part ++ rest) → length part < 4
refused_is_short Header limit part rest less refused = absurd refused
refused_is_short (Frame turn) limit part rest less refused = go (cases_lt (length part) 4)
  where
    go : (length part < 4) ⊎ (4 ≤ length part) → length part < 4
    go (inl few) = few
    go (inr four) =
        absurd (refused.1 (subst (λ (n : ℕ). Fits limit n) (sym (size_of-append part rest four)) (less four).0))

-- what was held before is found in front of what is held with more
pub held_before : (old new bytes rest : List ℕ) (had : ℕ) → new ++ rest ≡ old ++ bytes → had ≡ length old
    → had ≤ length new → take had new ≡ old
held_before old new bytes rest had same is longer =
    sym (take-append-le had new rest longer) ∙ (ap (take had) same ∙ take_at old bytes had (sym is))

-- what the first bytes that are held say of a frame's size, all that has come says
size_of_come : (old new bytes : List ℕ) (taken : ℕ) → new ++ drop taken bytes ≡ old ++ bytes → 4 ≤ length new
    → size_of (old ++ bytes) ≡ size_of new
size_of_come old new bytes taken same four =
    ap size_of (sym same) ∙ size_of-append new (drop taken bytes) four

-- how many bytes have come
length_of_come : (old new bytes : List ℕ) (taken : ℕ) → new ++ drop taken bytes ≡ old ++ bytes
    → length (old ++ bytes) ≡ length new + length (drop taken bytes)
length_of_come old new bytes taken same = ap length (sym same) ∙ length-append new (drop taken bytes)

-- a size is out of bounds
abbrev IsOut : ℕ → ℕ → Type 0
IsOut limit size = (size < 8) ⊎ ((8 ≤ size) × (limit < size))

fits_in_none : (limit size : ℕ) → IsOut limit size → ¬ Fits limit size
fits_in_none limit size (inl few) fits = omega (arith, few, fits.0)
fits_in_none limit size (inr many) fits = omega (arith, many.1, fits.1)

-- a size that is not allowed
pub frame_refused : (old new bytes : List ℕ) (taken limit size : ℕ)
    → (4 ≤ length old → Fits limit (size_of old) × (length old < size_of old))
    → new ++ drop taken bytes ≡ old ++ bytes → (new ≡ old) ⊎ (length new ≤ 4) → 4 ≤ length new → size ≡ size_of new
    → IsOut limit size
    → ((4 ≤ length (old ++ bytes)) × ¬ Fits limit (size_of (old ++ bytes))) × (new ≡ take 4 (old ++ bytes))
frame_refused old new bytes taken limit size less same no_more four is out = (
  (
    let long = length_of_come old new bytes taken same in omega arith,
    λ (fits : Fits limit (size_of (old ++ bytes))). none (subst (λ (n : ℕ). Fits limit n) came fits),
  ),
  go no_more,
)
  where
    came : size_of (old ++ bytes) ≡ size_of new
    came = size_of_come old new bytes taken same four

    none : ¬ Fits limit (size_of new)
    none fits = fits_in_none limit size out (subst (λ (n : ℕ). Fits limit n) (sym is) fits)

    go : (new ≡ old) ⊎ (length new ≤ 4) → new ≡ take 4 (old ++ bytes)
    go (inl kept) = absurd (none (subst (λ (l : List ℕ). Fits limit (size_of l)) (sym kept)
        (less (subst (λ (l : List ℕ). 4 ≤ length l) kept four)).0))
    go (inr few) = sym (take_at new (drop taken bytes) 4 (omega arith)) ∙ ap (take 4) same

-- what is held of a frame whose size is known
module _ (old new held bytes : List ℕ) (taken limit size : ℕ) (same : new ++ drop taken bytes ≡ old ++ bytes)
    (four : 4 ≤ length new) (is : size ≡ size_of new) (least : 8 ≤ size) (most : size ≤ limit)
    (keeps : held ≡ take size (new ++ take (length bytes - taken) (drop taken bytes))) where
  came_size : size_of (old ++ bytes) ≡ size
  came_size = size_of_come old new bytes taken same four ∙ sym is

  is_kept : held ≡ take size (old ++ bytes)
  is_kept = keeps ∙ ap (take size) (ap (λ z. new ++ z) (take_rest bytes taken) ∙ same)

  kept_len : length held ≡ min size (length (old ++ bytes))
  kept_len = ap length is_kept ∙ length-take size (old ++ bytes)

  pub frame_part : length held < size
      → (4 ≤ length (old ++ bytes) → Fits limit (size_of (old ++ bytes))
      × (length (old ++ bytes) < size_of (old ++ bytes))) × (held ≡ old ++ bytes)
  frame_part few =
      let short : length (old ++ bytes) < size = let l = kept_len in omega arith in (
        λ _. (
          subst (λ (n : ℕ). Fits limit n) (sym came_size) (least, most),
          subst (λ (n : ℕ). length (old ++ bytes) < n) (sym came_size) short,
        ),
        is_kept ∙ take_all size (old ++ bytes) (omega arith),
      )

  pub frame_whole : size ≤ length held
      → (Fits limit (size_of (old ++ bytes)) × (size_of (old ++ bytes) ≤ length (old ++ bytes)))
      × (held ≡ take (size_of (old ++ bytes)) (old ++ bytes))
  frame_whole all =
      let long : size ≤ length (old ++ bytes) = let l = kept_len in omega arith in (
        (
          subst (λ (n : ℕ). Fits limit n) (sym came_size) (least, most),
          subst (λ (n : ℕ). n ≤ length (old ++ bytes)) (sym came_size) long,
        ),
        is_kept ∙ ap (λ n. take n (old ++ bytes)) (sym came_size),
      )
