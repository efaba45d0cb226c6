-- The profile that a client by a policy selects of an offer: there is one at most, and one or none.
use Rattle.std.proofs.Common.{◌≡◌, ◌⊎◌, ◌<◌, ◌≤◌, ℕ, zero, suc, Option, Some, None, List, [], ◌∷◌, take, sym, ◌∙◌, ap, subst, refl, inl, inr, arith, Result, Ok, Err}
use Rattle.std.proofs.lemmas.Bool.{cases_lt}
use Rattle.std.proofs.lemmas.Option.{same_Some}
use Rattle.std.specs.List.{AllByRecursion}
use Rattle.std.specs.Prelude.{MatchOption, OnErr, slice_get}
use Rattle.fe2o3_scram.specs.ClientSecret.{Secret}
use Rattle.fe2o3_sasl_core.specs.ActingProfiles.{CanActFor, acting_profile}
use Rattle.fe2o3_sasl_core.specs.ClientPolicy.{CanTake, IsFirstTaken, SelectsProfile, by_strength, profile_by}
use Rattle.fe2o3_sasl_core.specs.ProfileMachine.{CannotAct, IsActing, IsSelected, NoneCanBeTaken, NoneIsSelected}
use Rattle.fe2o3_sasl_core.specs.Profiles.{Profile, Selection}
use Rattle.fe2o3_sasl_core.specs.declared.client_policy.ClientPolicy.{ClientPolicy}
use Rattle.fe2o3_sasl_core.specs.declared.mechanism.Mechanism.{Mechanism}
use Rattle.fe2o3_sasl_core.proofs.lemmas.machines.PolicyLemmas.{some_taken}

-- what each before a place has
each_before : {X : Type 0} (P : X → Type 0) (xs : List X) (k j : ℕ) (x : X) → AllByRecursion P (take k xs) → j < k
    → slice_get xs j ≡ Some x → P x
each_before P [] k j x all less is = absurd (cc)
each_before P (first ∷ xs) zero j x all less is = absurd (omega (arith, less))
each_before P (first ∷ xs) (suc k) zero x all less is = subst P (same_Some first x is) all.0
each_before P (first ∷ xs) (suc k) (suc j) x all less is = each_before P xs k j x all.1 (omega (arith, less)) is

module _ (policy : ClientPolicy) (user : List ℕ) (secret : Secret) (names : List (List ℕ)) where
  -- one mechanism is the first
  one_first : (mechanisms : List Mechanism) (mechanism other : Mechanism)
      → IsFirstTaken policy user secret names mechanisms mechanism
      → IsFirstTaken policy user secret names mechanisms other → other ≡ mechanism
  one_first mechanisms mechanism other (k, at, can, before) (j, there, may, above) = go (cases_lt k j) (cases_lt j k)
    where
      go : (k < j) ⊎ (j ≤ k) → (j < k) ⊎ (k ≤ j) → other ≡ mechanism
      go (inl less) sides = absurd (each_before (λ (m : Mechanism). ¬ CanTake policy user secret names m) mechanisms j k
          mechanism above less at can)
      go (inr least) (inl less) = absurd (each_before (λ (m : Mechanism). ¬ CanTake policy user secret names m) mechanisms k
          j other before less there may)
      go (inr least) (inr most) =
          let same : j ≡ k = omega (arith, least, most) in
          same_Some other mechanism (sym there ∙ (ap (slice_get mechanisms) same ∙ at))

  -- and so is one profile
  one_chosen : (chosen other : Profile) → SelectsProfile policy user secret names chosen
      → SelectsProfile policy user secret names other → other ≡ chosen
  one_chosen chosen other (mechanism, first, is) (again, too, same) = same_Some other chosen (sym same
      ∙ (ap (profile_by policy user secret) (one_first by_strength mechanism again first too) ∙ is))

-- whom it asks to act for
one_acting : (acts_for : Option (List ℕ)) (chosen again profile other : Profile) → again ≡ chosen
    → IsActing acts_for chosen profile → IsActing acts_for again other → other ≡ profile
one_acting None chosen again profile other same is too = too ∙ (same ∙ sym is)
one_acting (Some identity) chosen again profile other same (can, is) (may, too) =
    too ∙ (ap (λ (p : Profile). acting_profile p identity) same ∙ sym is)

cannot_act : (acts_for : Option (List ℕ)) (chosen again profile : Profile) → again ≡ chosen
    → IsActing acts_for chosen profile → ¬ CannotAct acts_for again
cannot_act None chosen again profile same is cannot = cannot
cannot_act (Some identity) chosen again profile same (can, is) cannot =
    subst (λ (p : Profile). CannotAct (Some identity) p) same cannot can

-- where one is selected, not all cannot be taken
pub chosen_of_some : (selection : Selection) (names : List (List ℕ)) (chosen : Profile)
    → SelectsProfile selection.policy selection.user selection.secret names chosen → ¬ NoneCanBeTaken selection names
chosen_of_some selection names chosen selects =
    some_taken selection.policy selection.user selection.secret names by_strength selects.0 selects.1

-- an offer has one selected profile at most
pub one_selected : (selection : Selection) (names : List (List ℕ)) (profile other : Profile)
    → IsSelected selection names profile → IsSelected selection names other → other ≡ profile
one_selected selection names profile other (chosen, selects, acting) (again, too, acts) =
    one_acting selection.acts_for chosen again profile other
    (one_chosen selection.policy selection.user selection.secret names chosen again selects too) acting acts

-- and where there is one, there is not none
pub selected_of_some : (selection : Selection) (names : List (List ℕ)) (profile : Profile)
    → IsSelected selection names profile → ¬ NoneIsSelected selection names
selected_of_some selection names profile (chosen, selects, acting) (inl all) =
    chosen_of_some selection names chosen selects all
selected_of_some selection names profile (chosen, selects, acting) (inr (again, too, cannot)) =
    cannot_act selection.acts_for chosen again profile
    (one_chosen selection.policy selection.user selection.secret names chosen again selects too) acting cannot

-- ---- what the code selects

-- an error of a call has this
pub on_err_where : {A E P : Type 0} (result : Result A E) → P → OnErr result P
on_err_where (Ok value) p = tt
on_err_where (Err fault) p = p

-- a chosen profile of a client that acts for itself is selected
pub selected_itself : (selection : Selection) (names : List (List ℕ)) (chosen : Profile)
    → SelectsProfile selection.policy selection.user selection.secret names chosen → selection.acts_for ≡ None
    → IsSelected selection names chosen
selected_itself selection names chosen selects none =
    (chosen, selects, subst (λ (a : Option (List ℕ)). IsActing a chosen chosen) (sym none) refl)

-- and of one that acts for an identity, where the profile can name it
pub selected_acting : {A : Type 0} (value : A → Profile) (selection : Selection) (names : List (List ℕ)) (chosen : Profile)
    (identity : List ℕ) (acting : Option A)
    → SelectsProfile selection.policy selection.user selection.secret names chosen → selection.acts_for ≡ Some identity
    → MatchOption acting (¬ CanActFor chosen identity)
    (λ profile. CanActFor chosen identity × (value profile ≡ acting_profile chosen identity))
    → MatchOption acting (NoneIsSelected selection names) (λ profile. IsSelected selection names (value profile))
selected_acting value selection names chosen identity None selects named cannot =
    inr (chosen, selects, subst (λ (a : Option (List ℕ)). CannotAct a chosen) (sym named) cannot)
selected_acting value selection names chosen identity (Some profile) selects named can =
    (chosen, selects, subst (λ (a : Option (List ℕ)). IsActing a chosen (value profile)) (sym named) can)
