-- The rights of a user to the identities of a text.
use Rattle.std.proofs.Common.{refl, sym, ap, ◌∙◌, ◌≡◌, ℕ, List, [], ◌∷◌, ◌++◌}
use Rattle.std.specs.Prelude.{Bool, true, false, Some, map, nat_eq, ◌&&◌, ◌||◌}
use Rattle.std.specs.Cmp.Lexicographic.{pointwise}
use Rattle.std.specs.List.{list_any}
use Rattle.std.proofs.lemmas.Slice.Eq.{bytes_eq-Decides}
use Rattle.fe2o3_scram.specs.ActingRights.{Rights, may_act}
use Rattle.sasl_c.specs.Acting.{identities_in, rights_for}

-- a right of the user to one of these identities is that identity
pub one_of : (user name : List ℕ) (identities : List (List ℕ))
    → list_any (λ (right : List ℕ × List ℕ). pointwise nat_eq right.0 user && pointwise nat_eq right.1 name)
    (map (λ identity. (user, identity)) identities) ≡ list_any (λ identity. pointwise nat_eq identity name) identities
one_of user name [] = refl
one_of user name (identity ∷ more) =
    let own : pointwise nat_eq user user ≡ true = (bytes_eq-Decides user user).1 refl in
    ap (λ (b : Bool). (b && pointwise nat_eq identity name) || list_any (λ (right : List ℕ × List ℕ).
    pointwise nat_eq right.0 user && pointwise nat_eq right.1 name) (map (λ identity. (user, identity)) more)) own
    ∙ ap (λ (b : Bool). pointwise nat_eq identity name || b) (one_of user name more)

-- a user with another name than an identity may act for it by a right
pub by_right : (user name text : List ℕ) (own right : Bool) → own ≡ pointwise nat_eq user name → own ≡ false
    → right ≡ list_any (λ identity. pointwise nat_eq identity name) (identities_in text)
    → right ≡ may_act (rights_for user text) user (Some name)
by_right user name text own right same other is = is ∙ (sym (one_of user name (identities_in text))
    ∙ sym (ap (λ (b : Bool). b || list_any (λ (right : List ℕ × List ℕ). pointwise nat_eq right.0 user
    && pointwise nat_eq right.1 name) (rights_for user text)) (sym same ∙ other)))

-- the rights of a user to these identities
abbrev pub rights_to : List ℕ → List (List ℕ) → Rights
rights_to user identities = map (λ identity. (user, identity)) identities

-- and to those that these values are
abbrev pub rights_by : {A : Type 0} → (A → List ℕ) → List ℕ → List A → Rights
rights_by view user identities = map (λ one. (user, view one)) identities

-- one more right
pub right_more : {A : Type 0} (view : A → List ℕ) (user : List ℕ) (identity : A) (identities : List A)
    → rights_by view user (identities ++ (identity ∷ [])) ≡ rights_by view user identities ++ ((user, view identity) ∷ [])
right_more view user identity [] = refl
right_more view user identity (other ∷ more) =
    ap (λ (l : Rights). (user, view other) ∷ l) (right_more view user identity more)

pub rights_of : {A : Type 0} (view : A → List ℕ) (user : List ℕ) (identities : List A)
    → rights_to user (map view identities) ≡ rights_by view user identities
rights_of view user [] = refl
rights_of view user (other ∷ more) = ap (λ (l : Rights). (user, view other) ∷ l) (rights_of view user more)
