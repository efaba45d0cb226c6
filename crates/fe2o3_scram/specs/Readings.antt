-- The result of reading a message: the first error that applies, or the values that it names.
use Rattle.std.specs.Prelude.{List, [], ◌∷◌, ◌≡◌, ◌≢◌, ◌⊎◌, Result, Ok, Err}

-- the first of the tests that holds, each with its error, has this error
abbrev pub IsFirst : {F : Type 0} → List (F × Type 0) → F → Type 0
IsFirst [] fault = ⊥
IsFirst (test ∷ tests) fault = (test.1 × (fault ≡ test.0)) ⊎ (¬ test.1 × IsFirst tests fault)

-- none of the tests holds
abbrev pub NoneHolds : {F : Type 0} → List (F × Type 0) → Type 0
NoneHolds [] = Unit {0}
NoneHolds (test ∷ tests) = ¬ test.1 × NoneHolds tests

-- the result is the error of the first test that holds or, if none holds, the values that are named
abbrev pub Reads : {F V : Type 0} → List (F × Type 0) → (V → Type 0) → Result V F → Type 0
Reads tests Names (Ok values) = NoneHolds tests × Names values
Reads tests Names (Err fault) = IsFirst tests fault

-- the result of a call, seen by `view`, is an answer, unless it is the error for a failed allocation, which occurs only
-- where the call allocates
abbrev pub Gives : {X Y F : Type 0} → F → Type 0 → (X → Y) → Result X F → (Result Y F → Type 0) → Type 0
Gives memory Allocates view (Ok value) Answer = Answer (Ok (view value))
Gives memory Allocates view (Err fault) Answer = (fault ≡ memory → Allocates) × (fault ≢ memory → Answer (Err fault))
