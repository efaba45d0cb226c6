-- Steps that succeeded, and what they took from the front.
use Rattle.std.proofs.Common.{◌≡◌, ℕ, suc, ◌+◌, Bool, true, false, cond, List, ◌∷◌, ◌++◌, take, drop, Option, Some, None, refl, subst, arith, inl, inr, ◌⊎◌}
use Rattle.std.proofs.lemmas.Bool.{cases_lt}
use Rattle.std.proofs.lemmas.List.{length-take, get_or-drop, get_or-take, get_or_past}
use Rattle.fe2o3_sasl_wire.specs.SaslFrames.{IsBytes}
use Rattle.fe2o3_sasl_wire.specs.private.Reading.{◌>>=◌}

-- what is left of bytes after the first ones is bytes
pub IsBytes-drop : (n : ℕ) (bytes : List ℕ) → IsBytes bytes → IsBytes (drop n bytes)
IsBytes-drop n bytes h i = rw get_or-drop (h (n + i))

-- the first ones of bytes are bytes
pub IsBytes-take : (n : ℕ) (bytes : List ℕ) → IsBytes bytes → IsBytes (take n bytes)
IsBytes-take n bytes h i =
    elim (cases_lt i n) [
      | inl lt ↦ rw (get_or-take n bytes i 0 lt) (h i)
      | inr le ↦ rw (get_or_past (take n bytes) i 0 (omega (arith, length-take n bytes))) (omega arith)
    ]

-- the bytes after the first one are bytes
pub IsBytes-tail : (first : ℕ) (bytes : List ℕ) → IsBytes (first ∷ bytes) → IsBytes bytes
IsBytes-tail first bytes h i = h (suc i)

-- the value of a step that succeeded
pub bind_some : {A B : Type 0} (first : Option A) (next : A → Option B) (value : B) → (first >>= next) ≡ Some value
    → (passed : A) × (first ≡ Some passed)
    × (next passed ≡ Some value)
bind_some None next value e = absurd cc
bind_some (Some passed) next value e = (passed, refl, e)

-- a test that let a step pass, at false and at true
pub unless_some : {A : Type 0} (test : Bool) (step : Option A) (value : A) → cond test None step ≡ Some value
    → (test ≡ false) × (step ≡ Some value)
unless_some true step value e = absurd cc
unless_some false step value e = (refl, e)

-- a test that let a step pass at true was true
pub when_some : {A : Type 0} (test : Bool) (step : Option A) (value : A) → cond test step None ≡ Some value
    → (test ≡ true) × (step ≡ Some value)
when_some true step value e = (refl, e)
when_some false step value e = absurd cc

-- which way a test went
pub chosen : {X : Type 0} (test : Bool) (one other value : X) → cond test one other ≡ value
    → ((test ≡ true) × (one ≡ value)) ⊎ ((test ≡ false) × (other ≡ value))
chosen true one other value e = inl (refl, e)
chosen false one other value e = inr (refl, e)

-- two values that are there and equal are one
pub some_is : {A : Type 0} (one other : A) → Some one ≡ Some other → one ≡ other
some_is one other e = cc

-- the first of some values whose test passes has what each value whose test passes has
pub first_passed : {A : Type 0} (P : A → Type 0) (test : Bool) (one : A) (others : Option A) (value : A)
    → (test ≡ true → P one)
    → (others ≡ Some value → P value) → cond test (Some one) others ≡ Some value → P value
first_passed P true one others value here later e = subst P (some_is one value e) (here refl)
first_passed P false one others value here later e = later e

-- what a step took from the front is a spelling
pub record Reads (P : List ℕ → Type 0) (bytes rest : List ℕ) : Type 0 where
  pub front : List ℕ
  pub spelled : P front
  pub parts : bytes ≡ front ++ rest
  pub rest_fits : IsBytes rest
