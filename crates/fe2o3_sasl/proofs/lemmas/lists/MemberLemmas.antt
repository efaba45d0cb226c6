-- Members of a list.
use Rattle.std.proofs.Common.{suc, List, [], ◌∷◌, ◌++◌, refl, subst, arith, inl, inr}
use Rattle.std.specs.List.{AllByRecursion, Contains}
use Rattle.fe2o3_sasl.specs.private.Receipts.{Member}

-- of the front of a longer list
pub member_front : {X : Type 0} (x : X) (xs ys : List X) → Member x xs → Member x (xs ++ ys)
member_front x [] ys m = absurd m
member_front x (y ∷ xs) ys (inl e) = inl e
member_front x (y ∷ xs) ys (inr m) = inr (member_front x xs ys m)

-- of what follows
pub member_behind : {X : Type 0} (x : X) (xs ys : List X) → Member x ys → Member x (xs ++ ys)
member_behind x [] ys m = m
member_behind x (y ∷ xs) ys m = inr (member_behind x xs ys m)

pub member_last : {X : Type 0} (xs : List X) (y : X) → Member y (xs ++ y ∷ [])
member_last xs y = member_behind y xs (y ∷ []) (inl refl)

-- what holds of each holds of a member
pub member_each : {X : Type 0} (P : X → Type 0) (xs : List X) (x : X) → AllByRecursion P xs → Member x xs → P x
member_each P [] x h m = absurd m
member_each P (y ∷ xs) x h (inl e) = subst (λ (z : _). P z) e h.0
member_each P (y ∷ xs) x h (inr m) = member_each P xs x h.1 m

-- a member has a place in the list
pub member_contains : {X : Type 0} (x : X) (xs : List X) → Member x xs → Contains xs x
member_contains x [] m = absurd m
member_contains x (y ∷ xs) (inl e) = (0, omega arith, e)
member_contains x (y ∷ xs) (inr m) = let c = member_contains x xs m in (suc c.0, omega (arith, c.1), c.2)
