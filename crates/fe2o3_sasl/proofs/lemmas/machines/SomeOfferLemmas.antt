-- A client by a policy selects a profile of an offer, or it selects none: `some_offer`.
use Rattle.std.proofs.Common.{◌≡◌, ◌≢◌, ◌⊎◌, ℕ, zero, suc, Bool, true, false, Option, Some, None, List, [], ◌∷◌, refl, inl, inr}
use Rattle.std.specs.List.{AllByRecursion, Contains}
use Rattle.fe2o3_scram.specs.ClientSecret.{Secret}
use Rattle.fe2o3_scram.specs.Texts.{Without}
use Rattle.fe2o3_scram.proofs.lemmas.texts.DecisionLemmas.{Decided, both_or, not_or, same_number_or, same_or}
use Rattle.fe2o3_sasl_core.specs.ActingProfiles.{CanActFor, NamesIdentities, acting_profile}
use Rattle.fe2o3_sasl_core.specs.Mechanisms.{mechanism_symbol}
use Rattle.fe2o3_sasl_core.specs.ClientPolicy.{CanTake, IsFirstTaken, SelectsProfile, by_strength, is_allowed, profile_by}
use Rattle.fe2o3_sasl_core.specs.PlainWords.{IsPlainWord}
use Rattle.fe2o3_sasl_core.specs.ProfileMachine.{IsSelected, NoneIsSelected}
use Rattle.fe2o3_sasl_core.specs.Profiles.{AnonymousMessage, AnonymousProfile, MessageProfile, PlainProfile, Profile, Selection}
use Rattle.fe2o3_sasl_core.specs.declared.client_policy.ClientPolicy.{ClientPolicy}
use Rattle.fe2o3_sasl_core.specs.declared.mechanism.Mechanism.{Mechanism}
use Rattle.fe2o3_sasl_core.proofs.lemmas.machines.SelectionLemmas.{selected_acting, selected_itself}
use Rattle.fe2o3_sasl_core.proofs.lemmas.machines.SomeRunLemmas.{contains_or}

true_or : (told : Bool) → Decided (told ≡ true)
true_or true = inl refl
true_or false = inr (λ is. absurd (cc))

found_or : (found : Option Profile) → Decided (found ≢ None)
found_or None = inr (λ some. some refl)
found_or (Some profile) = inl (λ is. absurd (cc))

some_of : (found : Option Profile) → found ≢ None → (profile : Profile) × (found ≡ Some profile)
some_of None some = absurd (some refl)
some_of (Some profile) some = (profile, refl)

-- ---- whom a profile can name

without_or : (byte : ℕ) (text : List ℕ) → Decided (Without byte text)
without_or byte [] = inl tt
without_or byte (first ∷ rest) = both_or (not_or (same_number_or first byte)) (without_or byte rest)

word_or : (word : List ℕ) → Decided (IsPlainWord word)
word_or word = both_or (not_or (same_or word [])) (without_or 0 word)

names_or : (profile : Profile) → Decided (NamesIdentities profile)
names_or (PlainProfile identity user password) = both_or (word_or user) (word_or password)
names_or AnonymousProfile = inr (λ never. never)
names_or (MessageProfile AnonymousMessage message is_due) = inr (λ never. never)
names_or profile = inl tt

-- ---- which mechanism can be taken

module _ (policy : ClientPolicy) (user : List ℕ) (secret : Secret) (names : List (List ℕ)) where
  taken_or : (mechanism : Mechanism) → Decided (CanTake policy user secret names mechanism)
  taken_or mechanism = go (true_or (is_allowed policy mechanism)) (found_or (profile_by policy user secret mechanism))
      (contains_or names (mechanism_symbol mechanism))
    where
      go : Decided (is_allowed policy mechanism ≡ true) → Decided (profile_by policy user secret mechanism ≢ None)
          → Decided (Contains names (mechanism_symbol mechanism)) → Decided (CanTake policy user secret names mechanism)
      go (inl allowed) (inl serves) (inl offered) = inl (allowed, serves, offered)
      go (inr forbidden) serves offered = inr (λ can. forbidden can.0)
      go (inl allowed) (inr fails) offered = inr (λ can. fails can.1)
      go (inl allowed) (inl serves) (inr lacks) = inr (λ can. lacks can.2)

  first_or : (mechanisms : List Mechanism)
      → ((mechanism : Mechanism) × IsFirstTaken policy user secret names mechanisms mechanism)
      ⊎ AllByRecursion (λ mechanism. ¬ CanTake policy user secret names mechanism) mechanisms
  first_or [] = inr tt
  first_or (first ∷ others) = go (taken_or first) (first_or others)
    where
      go : Decided (CanTake policy user secret names first)
          → ((mechanism : Mechanism) × IsFirstTaken policy user secret names others mechanism)
          ⊎ AllByRecursion (λ mechanism. ¬ CanTake policy user secret names mechanism) others
          → ((mechanism : Mechanism) × IsFirstTaken policy user secret names (first ∷ others) mechanism)
          ⊎ AllByRecursion (λ mechanism. ¬ CanTake policy user secret names mechanism) (first ∷ others)
      go (inl can) rest = inl (first, (zero, refl, can, tt))
      go (inr cannot) (inl (mechanism, (k, at, can, before))) = inl (mechanism, (suc k, at, can, (cannot, before)))
      go (inr cannot) (inr all) = inr (cannot, all)

-- ---- what is selected

acting : (selection : Selection) (names : List (List ℕ)) (chosen : Profile) (acts_for : Option (List ℕ))
    → selection.acts_for ≡ acts_for → SelectsProfile selection.policy selection.user selection.secret names chosen
    → ((profile : Profile) × IsSelected selection names profile) ⊎ NoneIsSelected selection names
acting selection names chosen None is selects = inl (chosen, selected_itself selection names chosen selects is)
acting selection names chosen (Some identity) is selects = go (both_or (without_or 0 identity) (names_or chosen))
  where
    go : Decided (CanActFor chosen identity)
        → ((profile : Profile) × IsSelected selection names profile) ⊎ NoneIsSelected selection names
    go (inl can) = inl (
      acting_profile chosen identity,
      selected_acting (λ (p : Profile). p) selection names chosen identity
          (Some (acting_profile chosen identity)) selects is (can, refl),
    )
    go (inr cannot) = inr (selected_acting (λ (p : Profile). p) selection names chosen identity None selects is cannot)

pub some_offer : (selection : Selection) (names : List (List ℕ))
    → ((profile : Profile) × IsSelected selection names profile) ⊎ NoneIsSelected selection names
some_offer selection names = go (first_or selection.policy selection.user selection.secret names by_strength)
  where
    go : ((mechanism : Mechanism)
        × IsFirstTaken selection.policy selection.user selection.secret names by_strength mechanism)
        ⊎ AllByRecursion (λ mechanism. ¬ CanTake selection.policy selection.user selection.secret names mechanism) by_strength
        → ((profile : Profile) × IsSelected selection names profile) ⊎ NoneIsSelected selection names
    go (inr all) = inr (inl all)
    go (inl (mechanism, first)) =
        let found = some_of (profile_by selection.policy selection.user selection.secret mechanism) first.2.1 in
        acting selection names found.0 selection.acts_for refl (mechanism, first, found.1)
