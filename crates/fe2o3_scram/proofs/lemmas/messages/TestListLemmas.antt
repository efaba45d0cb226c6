-- Lists of tests.
use Rattle.std.proofs.Common.{◌≡◌, ◌≢◌, List, [], ◌∷◌, ◌++◌, Result, Ok, Err, sym, ◌∙◌, ap, inl, inr}
use Rattle.fe2o3_scram.specs.Readings.{IsFirst, NoneHolds, Reads}

pub NoneHolds-append : {F : Type 0} (tests more : List (F × Type 0)) → NoneHolds tests → NoneHolds more
    → NoneHolds (tests ++ more)
NoneHolds-append [] more none too = too
NoneHolds-append (test ∷ tests) more none too = (none.0, NoneHolds-append tests more none.1 too)

-- the first of the front is the first of all
pub IsFirst-front : {F : Type 0} (tests more : List (F × Type 0)) (fault : F) → IsFirst tests fault
    → IsFirst (tests ++ more) fault
IsFirst-front [] more fault first = absurd first
IsFirst-front (test ∷ tests) more fault (inl first) = inl first
IsFirst-front (test ∷ tests) more fault (inr first) = inr (first.0, IsFirst-front tests more fault first.1)

-- the first of the back is the first of all where none of the front holds
pub IsFirst-back : {F : Type 0} (tests more : List (F × Type 0)) (fault : F) → NoneHolds tests → IsFirst more fault
    → IsFirst (tests ++ more) fault
IsFirst-back [] more fault none first = first
IsFirst-back (test ∷ tests) more fault none first = inr (none.0, IsFirst-back tests more fault none.1 first)

pub one_first : {F : Type 0} (tests : List (F × Type 0)) (fault other : F) → IsFirst tests fault → IsFirst tests other
    → fault ≡ other
one_first [] fault other first too = absurd first
one_first (test ∷ tests) fault other (inl first) (inl too) = first.1 ∙ sym too.1
one_first (test ∷ tests) fault other (inl first) (inr too) = absurd (too.0 first.0)
one_first (test ∷ tests) fault other (inr first) (inl too) = absurd (first.0 too.0)
one_first (test ∷ tests) fault other (inr first) (inr too) = one_first tests fault other first.1 too.1

pub first_or_none : {F : Type 0} (tests : List (F × Type 0)) (fault : F) → IsFirst tests fault → NoneHolds tests → ⊥
first_or_none [] fault first none = first
first_or_none (test ∷ tests) fault (inl first) none = none.0 first.0
first_or_none (test ∷ tests) fault (inr first) none = first_or_none tests fault first.1 none.1

-- one answer, where the values that are named are one
pub one_reading : {F V : Type 0} (tests : List (F × Type 0)) (Names : V → Type 0)
    → ((value other : V) → Names value → Names other → value ≡ other) → (answer other : Result V F)
    → Reads tests Names answer → Reads tests Names other → answer ≡ other
one_reading tests Names one (Ok value) (Ok other) reads too = ap Ok (one value other reads.1 too.1)
one_reading tests Names one (Ok value) (Err other) reads too = absurd (first_or_none tests other too reads.0)
one_reading tests Names one (Err fault) (Ok other) reads too = absurd (first_or_none tests fault reads too.0)
one_reading tests Names one (Err fault) (Err other) reads too = ap Err (one_first tests fault other reads too)

-- no test has this fault
abbrev pub NoneHas : {F : Type 0} → List (F × Type 0) → F → Type 0
NoneHas [] fault = Unit {0}
NoneHas (test ∷ tests) fault = (fault ≢ test.0) × NoneHas tests fault

pub not_first : {F : Type 0} (tests : List (F × Type 0)) (fault : F) → NoneHas tests fault → ¬ IsFirst tests fault
not_first [] fault others first = first
not_first (test ∷ tests) fault others (inl first) = others.0 first.1
not_first (test ∷ tests) fault others (inr first) = not_first tests fault others.1 first.1
