-- What calls of a client by a policy cost: `policy_clients_cost` and `policy_clients_retry`.
use Rattle.std.proofs.Common.{◌≡◌, ◌≢◌, ◌⊎◌, ◌+◌, ◌*◌, ◌≤◌, ℕ, true, false, Option, Some, None, List, [], ◌∷◌, ◌++◌, take, drop, refl, sym, ◌∙◌, subst, inl, inr, arith, Result, Ok, Err}
use Rattle.fe2o3_sasl_wire.specs.SaslFrames.{SaslFrame}
use Rattle.fe2o3_sasl_wire.specs.declared.sasl_frames.error.Error.{Error}
use Rattle.fe2o3_scram.specs.declared.client_secret.IterationLimits.{IterationLimits}
use Rattle.fe2o3_sasl_core.specs.Costs.{ProfileCostsOf}
use Rattle.fe2o3_sasl_core.specs.Events.{Given, Login}
use Rattle.fe2o3_sasl_core.specs.ProfileMachine.{IsSelected}
use Rattle.fe2o3_sasl_core.specs.Profiles.{PolicyProfile, Profile, ScramProfile, Selection, scram_profile}
use Rattle.fe2o3_sasl_negotiation.specs.ClientNegotiation.{ClientCosts, ClientReceives, ClientSideAnswers}
use Rattle.fe2o3_sasl_negotiation.specs.Connections.{fresh}
use Rattle.fe2o3_sasl_negotiation.specs.CostLaws.{MeteredCalls}
use Rattle.fe2o3_sasl_negotiation.specs.Laws.{Call}
use Rattle.fe2o3_sasl_negotiation.specs.Negotiations.{Side, SideOutput}
use Rattle.fe2o3_sasl_negotiation.specs.PolicyLaws.{side_in_state}
use Rattle.fe2o3_sasl_negotiation.specs.Retries.{RetriedCalls}
use Rattle.fe2o3_sasl_negotiation.specs.declared.progress.Expected.{Expected}
use Rattle.fe2o3_sasl_negotiation.specs.declared.progress.Progress.TheVariants.{InProgress}
use Rattle.fe2o3_sasl_negotiation.proofs.lemmas.AnsweredProfileLemmas.{IsPast, past_costs}
use Rattle.fe2o3_sasl_negotiation.proofs.lemmas.ClientCostLemmas.{clients_retry}
use Rattle.fe2o3_sasl_negotiation.proofs.lemmas.KindLemmas.{closes_waits_not}
use Rattle.connection_laws.specs.PolicyClients.{IsLoginOf, PolicyClientsCost, PolicyClientsRetry}
use Rattle.connection_laws.proofs.lemmas.PolicyCallLemmas.{Answers, Early, Stays, early_call, first_event, fresh_early}
use Rattle.connection_laws.proofs.lemmas.PolicyLoginLemmas.{selected_login}
use Rattle.connection_laws.proofs.lemmas.PolicyOfferLemmas.{Selects, Silent, policy_replies}
use Rattle.connection_laws.proofs.lemmas.ProfileKindLemmas.{call_kind, chosen_kind, kind}

-- ---- a client without a profile of SCRAM

no_scram_is_past : (profile : Profile) → kind profile ≢ Some true → IsPast profile
no_scram_is_past (ScramProfile client) other = absurd (other refl)
no_scram_is_past profile other = tt

-- its calls cost nothing
free_body : {A F : Type 0} (profile : Profile) (spelled : Result SaslFrame Error) (result : Result A F)
    (before after : ℕ) → kind profile ≢ Some true → ProfileCostsOf spelled profile result before after → after ≡ before
free_body profile (Err fault) result before after other same = same
free_body profile (Ok frame) result before after other costs =
    past_costs profile frame result before after (no_scram_is_past profile other) costs

free : (side : Side Profile) (bytes nonce : List ℕ) (before after : ℕ) → kind side.state ≢ Some true
    → ClientCosts side bytes nonce before after → after ≡ before
free side bytes nonce before after other (inl same) = same
free side bytes nonce before after other (inr (turn, body, completes, inl same)) = same
free side bytes nonce before after other
    (inr (turn, body, completes, inr (frame, reply, spells, in_turn, (spelled, spelt, costs)))) =
    free_body side.state spelled reply before after other costs

other_is_not : (profile : Profile) → kind profile ≡ Some false → kind profile ≢ Some true
other_is_not profile is scram = let no : Some false ≡ Some true = sym is ∙ scram in absurd (cc)

other_retried : (hostname : Option (List ℕ)) (calls : List Call) (side : Side Profile) (stream : List ℕ)
    (failed before after : ℕ) → kind side.state ≡ Some false
    → RetriedCalls (ClientSideAnswers hostname) ClientCosts side calls stream failed before after → after ≡ before
other_retried hostname [] side stream failed before after other (nothing, same) = same
other_retried hostname (call ∷ calls) side stream failed before after other (between, costs, inl (fewer, is, others)) =
    other_retried hostname calls side stream fewer between after other others
    ∙ free side (take call.handed stream) call.nonce before between (other_is_not side.state other) costs
other_retried hostname (call ∷ calls) side stream failed before after other
    (between, costs, inr (taken, sent, next, receives, others)) =
    other_retried hostname calls next (drop taken stream) failed between after
    (call_kind hostname side next (take call.handed stream) call.nonce sent taken (chosen_kind side.state false other) receives
    ∙ other) others
    ∙ free side (take call.handed stream) call.nonce before between (other_is_not side.state other) costs

-- ---- a client by a policy

module _ (hostname : Option (List ℕ)) (selection : Selection) where
  -- its calls cost nothing, or what they cost a client of the profile that it selects
  abbrev Spent : Side Profile → List Call → List ℕ → ℕ → ℕ → ℕ → Type 0
  Spent side calls stream failed before after = (after ≡ before)
      ⊎ ((side.progress ≡ InProgress) × (names : List (List ℕ)) × (profile : Profile) × IsSelected selection names profile
      × RetriedCalls (ClientSideAnswers hostname) ClientCosts (side_in_state side profile) calls stream failed before after)

  policy_is_free : (side : Side Profile) (bytes nonce : List ℕ) (before after : ℕ)
      → ClientCosts (side_in_state side (PolicyProfile selection)) bytes nonce before after → after ≡ before
  policy_is_free side bytes nonce before after costs =
      free (side_in_state side (PolicyProfile selection)) bytes nonce before after none costs
    where
      none : None ≢ Some true
      none same = cc

  policy_retried : (calls : List Call) (before_it : List ℕ) (side : Side Profile) (stream : List ℕ) (failed before after : ℕ)
      → Early before_it side → RetriedCalls (ClientSideAnswers hostname) ClientCosts
      (side_in_state side (PolicyProfile selection)) calls stream failed before after
      → Spent side calls stream failed before after
  policy_retried [] before_it side stream failed before after early (nothing, same) = inl same
  policy_retried (call ∷ calls) before_it side stream failed before after early (between, costs, inl (fewer, is, others)) =
      go (policy_retried calls before_it side stream fewer between after early others)
    where
      none : between ≡ before
      none = policy_is_free side (take call.handed stream) call.nonce before between costs

      go : Spent side calls stream fewer between after → Spent side (call ∷ calls) stream failed before after
      go (inl same) = inl (same ∙ none)
      go (inr (going, names, profile, selected, more)) =
          inr (going, names, profile, selected, (between, inl none, inl (fewer, is, more)))
  policy_retried (call ∷ calls) before_it side stream failed before after early
      (between, costs, inr (k, sent, next, receives, others)) =
      go (λ kept still. policy_retried calls (before_it ++ take k stream) next (drop k stream) failed between after still
      (subst (λ (p : Profile). RetriedCalls (ClientSideAnswers hostname) ClientCosts (side_in_state next p) calls
      (drop k stream) failed between after) kept others))
      (early_call hostname (PolicyProfile selection) before_it stream call.nonce sent call.handed k side next receives early)
    where
      none : between ≡ before
      none = policy_is_free side (take call.handed stream) call.nonce before between costs

      event : Given
      event = first_event hostname (PolicyProfile selection) before_it stream call.nonce sent call.handed k side next

      Later : Type 0
      Later = next.state ≡ PolicyProfile selection → Early (before_it ++ take k stream) next
          → Spent next calls (drop k stream) failed between after

      spent : (next.progress ≡ InProgress → (side.progress ≡ InProgress) × ((profile : Profile)
          → ClientReceives hostname (side_in_state side profile) (take call.handed stream) call.nonce k sent
          (side_in_state next profile))) → Spent next calls (drop k stream) failed between after
          → Spent side (call ∷ calls) stream failed before after
      spent acts (inl same) = inl (same ∙ none)
      spent acts (inr (goes, names, profile, selected, more)) = let (going, one) = acts goes in inr (
        going,
        names,
        profile,
        selected,
        (between, inl none, inr (k, sent, side_in_state next profile, one profile, more)),
      )

      go : Later → Stays hostname (PolicyProfile selection) before_it stream call.nonce sent call.handed k side next
          ⊎ Answers hostname (PolicyProfile selection) before_it stream call.nonce sent call.handed k side next
          → Spent side (call ∷ calls) stream failed before after
      go later (inl (kept, still, going, acts)) = spent (λ goes. (going goes, acts)) (later kept still)
      go later (inr (going, answer, progress, replies, acts)) =
          by (policy_replies hostname selection event answer next.state replies)
        where
          by : Silent hostname selection event answer next.state ⊎ Selects hostname selection event answer next.state
              → Spent side (call ∷ calls) stream failed before after
          by (inr selects) = inr (
            going,
            selects.names,
            selects.profile,
            selects.selected,
            (between, inl none, inr (k, sent, next, acts selects.profile next.state selects.replies, others)),
          )
          by (inl (why, closed, kept, what)) = spent (λ goes. absurd (ends goes)) (later kept (λ goes. absurd (ends goes)))
            where
              ends : next.progress ≢ InProgress
              ends goes = closes_waits_not why _ answer closed (sym progress ∙ goes)

-- ---- the laws

pub policy_clients_retry : PolicyClientsRetry
policy_clients_retry selection hostname limit calls stream failed before after made =
    go (policy_retried hostname selection calls [] (fresh limit (PolicyProfile selection)) stream failed before after
    (fresh_early limit (PolicyProfile selection)) made)
  where
    Within : ℕ → Type 0
    Within most = (before ≤ after) × (after ≤ before + (failed * (most + 4) + (most + 4)))

    unspent : (most : ℕ) → after ≡ before → (before ≤ after) × (after ≤ before + most)
    unspent most same = (omega (arith, same), omega (arith, same))

    go : Spent hostname selection (fresh limit (PolicyProfile selection)) calls stream failed before after
        → Within selection.policy.limits.max_iterations
    go (inl same) = unspent _ same
    go (inr (going, names, profile, selected, more)) = by_kind (selected_login selection hostname names profile selected)
      where
        by_kind : ((login : Login) × IsLoginOf selection hostname login × (profile ≡ scram_profile login))
            ⊎ (kind profile ≡ Some false) → Within selection.policy.limits.max_iterations
        by_kind (inr other) =
            unspent _ (other_retried hostname calls (fresh limit profile) stream failed before after other more)
        by_kind (inl (login, of, same)) = subst (λ (l : IterationLimits). Within l.max_iterations) of.limits
            (clients_retry hostname _ limit calls stream failed before after (subst (λ (p : Profile).
            RetriedCalls (ClientSideAnswers hostname) ClientCosts (fresh limit p) calls stream failed before after) same more))

-- calls of which none runs out of memory
none_failed : {S : Type 0} (Answers : Expected → S → List ℕ → List ℕ → SideOutput → S → Type 0)
    (Costs : Side S → List ℕ → List ℕ → ℕ → ℕ → Type 0) (calls : List Call) (side : Side S) (stream : List ℕ)
    (before after : ℕ) → MeteredCalls Answers Costs side calls stream before after
    → RetriedCalls Answers Costs side calls stream 0 before after
none_failed Answers Costs [] side stream before after same = (refl, same)
none_failed Answers Costs (call ∷ calls) side stream before after (taken, sent, next, between, receives, costs, others) = (
  between,
  costs,
  inr (taken, sent, next, receives, none_failed Answers Costs calls next (drop taken stream) between after others),
)

nothing_times : (before after most : ℕ) → (before ≤ after) × (after ≤ before + (0 * most + most))
    → (before ≤ after) × (after ≤ before + most)
nothing_times before after most (least, bound) = (least, omega (arith, bound))

pub policy_clients_cost : PolicyClientsCost
policy_clients_cost selection hostname limit calls stream before after made =
    nothing_times before after (selection.policy.limits.max_iterations + 4)
    (policy_clients_retry selection hostname limit calls stream 0 before after
    (none_failed (ClientSideAnswers hostname) ClientCosts calls (fresh limit (PolicyProfile selection)) stream before after made))
