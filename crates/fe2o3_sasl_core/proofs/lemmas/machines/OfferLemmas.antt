-- What a profile answers to a list of mechanisms, by the profile that answers it.
use Rattle.std.proofs.Common.{◌≡◌, ◌⊎◌, ℕ, Option, List, refl, sym, ◌∙◌, ap, inl, inr, Result, Ok, Err}
use Rattle.fe2o3_sasl_wire.specs.SaslFrames as frames
use Rattle.fe2o3_sasl_wire.specs.SaslFrames.{SaslFrame}
use Rattle.fe2o3_sasl_core.specs.ProfileMachine.{OfferAllocates, OfferAnswers}
use Rattle.fe2o3_sasl_core.specs.Profiles.{AnonymousProfile, ExternalProfile, MessageProfile, PlainProfile, PolicyProfile, Profile, ScramProfile, after_init, initial_response, profile_name}
use Rattle.fe2o3_sasl_core.specs.declared.sasl_profile.error.ProfileError.{ProfileError}
use Rattle.fe2o3_sasl_core.specs.declared.sasl_profile.error.ProfileError.TheVariants.{NotImplemented}
use Rattle.fe2o3_sasl_core.specs.private.Writing.{IsFor, NoneIsFor}
use Rattle.fe2o3_sasl_core.proofs.lemmas.machines.SelectionLemmas.{chosen_of_some, one_selected, selected_of_some}

-- the init of a profile
abbrev pub init_of : Option (List ℕ) → List ℕ → Profile → SaslFrame
init_of hostname nonce profile = frames.Init (profile_name profile) (initial_response profile nonce) hostname

-- a profile answers by its init, or there is none
abbrev pub Viewed : Profile → Option (List ℕ) → List ℕ → List (List ℕ) → Result SaslFrame ProfileError → Profile → Type 0
Viewed profile hostname nonce names reply next =
    ((chosen : Profile) × IsFor profile names chosen × (reply ≡ Ok (init_of hostname nonce chosen))
    × (next ≡ after_init chosen nonce))
    ⊎ (NoneIsFor profile names × (reply ≡ Err NotImplemented) × (next ≡ profile))

pub offer_view : (profile : Profile) (hostname : Option (List ℕ)) (nonce : List ℕ) (names : List (List ℕ))
    (reply : Result SaslFrame ProfileError) (next : Profile) → OfferAnswers profile hostname nonce names reply next
    → Viewed profile hostname nonce names reply next
offer_view (PolicyProfile selection) hostname nonce names reply next answers = answers
offer_view (ScramProfile client) hostname nonce names reply next (inl (has, sends, moves)) =
    inl (ScramProfile client, (has, refl), sends, moves)
offer_view (ScramProfile client) hostname nonce names reply next (inr none) = inr none
offer_view (PlainProfile identity user password) hostname nonce names reply next (inl (has, sends, moves)) =
    inl (PlainProfile identity user password, (has, refl), sends, moves)
offer_view (PlainProfile identity user password) hostname nonce names reply next (inr none) = inr none
offer_view AnonymousProfile hostname nonce names reply next (inl (has, sends, moves)) =
    inl (AnonymousProfile, (has, refl), sends, moves)
offer_view AnonymousProfile hostname nonce names reply next (inr none) = inr none
offer_view ExternalProfile hostname nonce names reply next (inl (has, sends, moves)) =
    inl (ExternalProfile, (has, refl), sends, moves)
offer_view ExternalProfile hostname nonce names reply next (inr none) = inr none
offer_view (MessageProfile mechanism message is_due) hostname nonce names reply next (inl (has, sends, moves)) =
    inl (MessageProfile mechanism message is_due, (has, refl), sends, moves)
offer_view (MessageProfile mechanism message is_due) hostname nonce names reply next (inr none) = inr none

-- one profile answers an offer
one_for : (profile chosen other : Profile) (names : List (List ℕ)) → IsFor profile names chosen
    → IsFor profile names other → other ≡ chosen
one_for (PolicyProfile selection) chosen other names is too = one_selected selection names chosen other is too
one_for profile chosen other names is too = too.1 ∙ sym is.1

for_none : (profile chosen : Profile) (names : List (List ℕ)) → IsFor profile names chosen → ¬ NoneIsFor profile names
for_none (PolicyProfile selection) chosen names is none = selected_of_some selection names chosen is none
for_none profile chosen names is none = none is.0

-- an offer has one answer
pub one_offer_reply : (profile : Profile) (hostname : Option (List ℕ)) (nonce : List ℕ) (names : List (List ℕ))
    (reply other : Result SaslFrame ProfileError) (next last : Profile)
    → OfferAnswers profile hostname nonce names reply next → OfferAnswers profile hostname nonce names other last
    → (reply ≡ other) × (next ≡ last)
one_offer_reply profile hostname nonce names reply other next last answers too =
    go (offer_view profile hostname nonce names reply next answers) (offer_view profile hostname nonce names other last too)
  where
    go : Viewed profile hostname nonce names reply next → Viewed profile hostname nonce names other last
        → (reply ≡ other) × (next ≡ last)
    go (inl (chosen, is, sends, moves)) (inl (again, may, says, goes)) =
        let same = one_for profile chosen again names is may in (
          sends ∙ sym (says ∙ ap (λ (p : Profile). Ok (init_of hostname nonce p)) same),
          moves ∙ sym (goes ∙ ap (λ (p : Profile). after_init p nonce) same),
        )
    go (inl (chosen, is, sends, moves)) (inr none) = absurd (for_none profile chosen names is none.0)
    go (inr none) (inl (chosen, is, sends, moves)) = absurd (for_none profile chosen names is none.0)
    go (inr none) (inr neither) = (none.1 ∙ sym neither.1, none.2 ∙ sym neither.2)

-- ---- what the code answers

-- the profile that answers an offer sends its init
pub offer_started : (profile begun : Profile) (hostname : Option (List ℕ)) (nonce : List ℕ) (names : List (List ℕ))
    → IsFor profile names begun
    → OfferAnswers profile hostname nonce names (Ok (init_of hostname nonce begun)) (after_init begun nonce)
offer_started (PolicyProfile selection) begun hostname nonce names is = inl (begun, is, refl, refl)
offer_started profile begun hostname nonce names is = inl (
  is.0,
  ap (λ (p : Profile). Ok (init_of hostname nonce p)) is.1,
  ap (λ (p : Profile). after_init p nonce) is.1,
)

-- and allocates
pub for_allocates : (profile begun : Profile) (names : List (List ℕ)) → IsFor profile names begun
    → OfferAllocates profile names
for_allocates (PolicyProfile selection) begun names is = chosen_of_some selection names is.0 is.1
for_allocates profile begun names is = is.0

-- an offer that no profile answers
pub offer_refused : (profile : Profile) (hostname : Option (List ℕ)) (nonce : List ℕ) (names : List (List ℕ))
    → NoneIsFor profile names → OfferAnswers profile hostname nonce names (Err NotImplemented) profile
offer_refused (PolicyProfile selection) hostname nonce names none = inr (none, refl, refl)
offer_refused profile hostname nonce names none = inr (none, refl, refl)
