-- What a connection of a SCRAM server costs: a response is the last body that is answered.
use Rattle.std.proofs.Common.{◌≡◌, ◌⊎◌, ℕ, ◌+◌, ◌<◌, ◌≤◌, Option, List, [], ◌∷◌, ◌++◌, drop, take, refl, ap, ◌∙◌, subst, sym, inl, inr, Result, Ok, Err, arith}
use Rattle.fe2o3_sasl_wire.specs.declared.sasl_frames.error.Error.{Error}
use Rattle.fe2o3_sasl_wire.specs.declared.sasl_frames.error.Error.TheVariants as faults
use Rattle.fe2o3_sasl_wire.specs.SaslFrames as frames
use Rattle.fe2o3_sasl_wire.specs.SaslFrames.{SaslFrame}
use Rattle.fe2o3_scram.specs.Credentials.{Provider}
use Rattle.fe2o3_scram.specs.ScramServer.{ServerState}
use Rattle.fe2o3_sasl_core.specs.Bodies.{SpellsBody}
use Rattle.fe2o3_sasl_core.specs.Costs.{acceptor_hmacs, CostsAtMost, AcceptorCostsOf, AcceptorStepCosts}
use Rattle.fe2o3_sasl_core.specs.Events.{Given, ServerSays, Failed}
use Rattle.fe2o3_sasl_core.specs.Runs.{AcceptorSteps}
use Rattle.fe2o3_sasl_core.specs.SaslAcceptor.{Acceptor, ScramAcceptor, acceptor_names, acceptor_machine}
use Rattle.fe2o3_sasl_core.proofs.lemmas.frames.SpellingLemmas.{one_spelling}
use Rattle.fe2o3_sasl_core.proofs.lemmas.machines.RunCostLemmas.{server_runs_cost}
use Rattle.fe2o3_sasl_core.proofs.lemmas.machines.ServerMachineLemmas.{gives_back}
use Rattle.fe2o3_sasl_negotiation.specs.declared.progress.Expected.{Expected}
use Rattle.fe2o3_sasl_negotiation.specs.declared.progress.Expected.TheVariants.{Header, Frame}
use Rattle.fe2o3_sasl_negotiation.specs.declared.progress.Progress.{Progress}
use Rattle.fe2o3_sasl_negotiation.specs.declared.progress.Progress.TheVariants.{InProgress, Authenticated, Failed as HasFailed}
use Rattle.fe2o3_sasl_negotiation.specs.declared.progress.FrameKind.{FrameKind}
use Rattle.fe2o3_sasl_negotiation.specs.declared.progress.FrameKind.TheVariants as turns
use Rattle.fe2o3_sasl_negotiation.specs.CostLaws.{ServersCost}
use Rattle.fe2o3_sasl_negotiation.specs.Connections.{fresh}
use Rattle.fe2o3_sasl_negotiation.specs.Framing.{size_of}
use Rattle.fe2o3_sasl_negotiation.specs.Negotiations.{Side, SideOutput, Completes, IsInTurn, Receives}
use Rattle.fe2o3_sasl_negotiation.specs.ServerNegotiation.{ServerSideAnswers, ServerCosts}
use Rattle.fe2o3_sasl_negotiation.specs.Retries.{ServersRetry}
use Rattle.fe2o3_sasl_negotiation.proofs.lemmas.ChallengeLemmas.{challenge_of_answer, one_challenge}
use Rattle.fe2o3_sasl_negotiation.proofs.lemmas.CostLemmas.{none, same_of, paid_calls, rests, Left, leaves, answers_whole}
use Rattle.fe2o3_sasl_negotiation.proofs.lemmas.RetryLemmas.{paid_retried}
use Rattle.fe2o3_sasl_negotiation.proofs.lemmas.KindLemmas.{sends_goes_on}

-- the acceptor is of SCRAM still, over the same records
abbrev pub IsScram : Provider → Acceptor → Type 0
IsScram provider acceptor = (state : ServerState) × (acceptor ≡ ScramAcceptor provider state)

abbrev pub Open : Provider → Side Acceptor → Type 0
Open provider side = IsScram provider side.state

abbrev pub Done : {S : Type 0} → Side S → Type 0
Done side = side.progress ≡ InProgress → ⊥

-- a step leaves it so
step_keeps : (provider : Provider) (acceptor next : Acceptor) (event : Given) (says : ServerSays)
    → IsScram provider acceptor → AcceptorSteps acceptor_machine acceptor event says next → IsScram provider next
step_keeps provider acceptor next event says (state, is) steps =
    let (spelled, spells, gives) = subst (λ (a : Acceptor). AcceptorSteps acceptor_machine a event says next) is steps in
    let back = gives_back provider state event spelled says next gives in
    (back.0, back.1)

answer_keeps : (provider : Provider) (expected : Expected) (acceptor next : Acceptor) (nonce unit : List ℕ) (answer : SideOutput)
    → IsScram provider acceptor
    → ServerSideAnswers acceptor_names acceptor_machine expected acceptor nonce unit answer next → IsScram provider next
answer_keeps provider Header acceptor next nonce unit answer is answers = (is.0, answers.1 ∙ is.1)
answer_keeps provider (Frame turn) acceptor next nonce unit answer is (Err fault, spells, closed) =
    (is.0, closed.1 ∙ is.1)
answer_keeps provider (Frame turn) acceptor next nonce unit answer is (Ok frame, spells, inl out) =
    (is.0, out.2 ∙ is.1)
answer_keeps provider (Frame turn) acceptor next nonce unit answer is (Ok frame, spells, inr asks) =
    step_keeps provider acceptor next (record { body = drop 4 unit; nonce = nonce }) asks.1.0 is asks.1.1

keeps : (provider : Provider) (side next : Side Acceptor) (bytes nonce : List ℕ) → Open provider side
    → Left (ServerSideAnswers acceptor_names acceptor_machine) side bytes nonce next → Open provider next
keeps provider side next bytes nonce early (inl waits) = (early.0, waits.2 ∙ early.1)
keeps provider side next bytes nonce early (inr (inl closed)) = (early.0, closed.1 ∙ early.1)
keeps provider side next bytes nonce early (inr (inr whole)) =
    answer_keeps provider side.expected side.state next.state nonce whole.1 whole.0 early whole.2

-- the answer to a response is the last
response_ends : (acceptor next : Acceptor) (nonce unit : List ℕ) (answer : SideOutput)
    → ServerSideAnswers acceptor_names acceptor_machine (Frame turns.Response) acceptor nonce unit answer next
    → answer.progress ≡ InProgress → ⊥
response_ends acceptor next nonce unit answer answers waits =
    let (in_turn, (body, steps, sends)) =
    challenge_of_answer acceptor_machine acceptor_names turns.Response acceptor next nonce unit answer answers waits in
    let fewer : 0 < 0 = one_challenge.more acceptor next (record { body = drop 4 unit; nonce = nonce }) body in_turn steps in
    omega (arith, fewer)

-- an answer to an init goes on only by a challenge, and then a response is expected
init_goes_on : (acceptor next : Acceptor) (nonce unit : List ℕ) (answer : SideOutput)
    → ServerSideAnswers acceptor_names acceptor_machine (Frame turns.Init) acceptor nonce unit answer next
    → answer.progress ≡ InProgress → answer.expected ≡ Frame turns.Response
init_goes_on acceptor next nonce unit answer answers waits =
    let (in_turn, (body, steps, sends)) =
    challenge_of_answer acceptor_machine acceptor_names turns.Init acceptor next nonce unit answer answers waits in
    sends_goes_on body turns.Response answer sends waits

-- what a frame costs in its turn: an init the look-up at most, a response two, and all others none
abbrev TurnCosts : Provider → FrameKind → ℕ → ℕ → Type 0
TurnCosts provider turn before after = (after ≡ before)
    ⊎ (((turn ≡ turns.Init) × ((before ≤ after) × (after ≤ before + provider.look_up_cost)))
    ⊎ ((turn ≡ turns.Response) × ((before ≤ after) × (after ≤ before + 2))))

two : (provider : Provider) (state : ServerState) (event : Given) (text : List ℕ) (before after : ℕ)
    → SpellsBody event.body (Ok (frames.Response text))
    → CostsAtMost acceptor_hmacs (ScramAcceptor provider state) (frames.Response text) before after
    → (before ≤ after) × (after ≤ before + 2)
two provider state event text before after spells costs =
    server_runs_cost provider state (event ∷ []) (Failed faults.OutOfMemory ∷ []) before after 2
    (ScramAcceptor provider state) (
      Failed faults.OutOfMemory,
      (ScramAcceptor provider state, after),
      [],
      ((Ok (frames.Response text), spells, inl (refl, refl)), (Ok (frames.Response text), spells, costs)),
      refl,
      (refl, refl),
    )
    (Ok (frames.Response text), 0, spells, refl, refl)

look_up : (provider : Provider) (state : ServerState) (event : Given) (mechanism : List ℕ)
    (response host : Option (List ℕ)) (before after : ℕ)
    → SpellsBody event.body (Ok (frames.Init mechanism response host))
    → CostsAtMost acceptor_hmacs (ScramAcceptor provider state) (frames.Init mechanism response host) before after
    → (before ≤ after) × (after ≤ before + provider.look_up_cost)
look_up provider state event mechanism response host before after spells costs =
    server_runs_cost provider state (event ∷ []) (Failed faults.OutOfMemory ∷ []) before after provider.look_up_cost
    (ScramAcceptor provider state) (
      Failed faults.OutOfMemory,
      (ScramAcceptor provider state, after),
      [],
      (
        (Ok (frames.Init mechanism response host), spells, inl (refl, refl)),
        (Ok (frames.Init mechanism response host), spells, costs),
      ),
      refl,
      (refl, refl),
    )
    (Ok (frames.Init mechanism response host), 0, spells, refl, omega arith)

in_turn_costs : (provider : Provider) (state : ServerState) (turn : FrameKind) (event : Given) (frame : SaslFrame)
    (before after : ℕ) → SpellsBody event.body (Ok frame) → IsInTurn turn frame
    → CostsAtMost acceptor_hmacs (ScramAcceptor provider state) frame before after
    → TurnCosts provider turn before after
in_turn_costs provider state turn event (frames.Mechanisms names) before after spells in_turn costs =
    inl (same_of before after costs.0 (costs.1 0 refl))
in_turn_costs provider state turn event (frames.Challenge text) before after spells in_turn costs =
    inl (same_of before after costs.0 (costs.1 0 refl))
in_turn_costs provider state turn event (frames.Outcome code more) before after spells in_turn costs =
    inl (same_of before after costs.0 (costs.1 0 refl))
in_turn_costs provider state turns.Init event (frames.Init mechanism response host) before after spells in_turn costs =
    inr (inl (refl, look_up provider state event mechanism response host before after spells costs))
in_turn_costs provider state turns.Mechanisms event (frames.Init mechanism response host) before after spells in_turn
    costs = absurd in_turn
in_turn_costs provider state turns.Response event (frames.Init mechanism response host) before after spells in_turn
    costs = absurd in_turn
in_turn_costs provider state turns.Challenge event (frames.Init mechanism response host) before after spells in_turn
    costs = absurd in_turn
in_turn_costs provider state turns.Outcome event (frames.Init mechanism response host) before after spells in_turn
    costs = absurd in_turn
in_turn_costs provider state turns.SignatureChallenge event (frames.Init mechanism response host) before after spells
    in_turn costs = absurd in_turn
in_turn_costs provider state turns.Response event (frames.Response text) before after spells in_turn costs =
    inr (inr (refl, two provider state event text before after spells costs))
in_turn_costs provider state turns.Mechanisms event (frames.Response text) before after spells in_turn costs =
    absurd in_turn
in_turn_costs provider state turns.Init event (frames.Response text) before after spells in_turn costs = absurd in_turn
in_turn_costs provider state turns.Challenge event (frames.Response text) before after spells in_turn costs =
    absurd in_turn
in_turn_costs provider state turns.Outcome event (frames.Response text) before after spells in_turn costs =
    absurd in_turn
in_turn_costs provider state turns.SignatureChallenge event (frames.Response text) before after spells in_turn costs =
    absurd in_turn

step_costs : (provider : Provider) (acceptor : Acceptor) (turn : FrameKind) (event : Given) (frame : SaslFrame)
    (before after : ℕ) → IsScram provider acceptor → SpellsBody event.body (Ok frame) → IsInTurn turn frame
    → AcceptorStepCosts acceptor_hmacs acceptor event before after → TurnCosts provider turn before after
step_costs provider acceptor turn event frame before after (state, is) spells in_turn costs =
    in_turn_costs provider state turn event frame before after spells in_turn
    (subst (λ (s : Result SaslFrame Error). AcceptorCostsOf acceptor_hmacs (ScramAcceptor provider state) s before after)
    (one_spelling event.body costs.0 (Ok frame) costs.1 spells)
    (subst (λ (a : Acceptor). AcceptorCostsOf acceptor_hmacs a costs.0 before after) is costs.2))

-- a call to a side of SCRAM costs nothing, or completes the frame whose turn it is
call_costs : (provider : Provider) (side : Side Acceptor) (bytes nonce : List ℕ) (before after : ℕ)
    → IsScram provider side.state → ServerCosts acceptor_hmacs side bytes nonce before after
    → (after ≡ before)
    ⊎ ((turn : FrameKind) × (body : List ℕ) × Completes side bytes turn body × TurnCosts provider turn before after)
call_costs provider side bytes nonce before after early (inl same) = inl same
call_costs provider side bytes nonce before after early (inr (turn, body, completes, inl same)) = inl same
call_costs provider side bytes nonce before after early
    (inr (turn, body, completes, inr (frame, spells, in_turn, costs))) =
    inr (
      turn,
      body,
      completes,
      step_costs provider side.state turn (record { body = body; nonce = nonce }) frame before after early spells in_turn
          costs,
    )

-- what a side may cost: those of a look-up and a response, those of a response where that is expected, none at its end
abbrev MayCost : Provider → Side Acceptor → ℕ → Type 0
MayCost provider side may = (IsScram provider side.state × (may ≡ provider.look_up_cost + 2))
    ⊎ ((IsScram provider side.state × (side.expected ≡ Frame turns.Response) × (may ≡ 2))
    ⊎ (Done side × (may ≡ 0)))

done_tries : (side : Side Acceptor) (bytes nonce : List ℕ) (before after : ℕ) → Done side
    → ServerCosts acceptor_hmacs side bytes nonce before after → after ≡ before
done_tries side bytes nonce before after done (inl same) = same
done_tries side bytes nonce before after done (inr (turn, body, completes, costs)) = absurd (done completes.0)

-- what a call may cost
abbrev Pays : Provider → Side Acceptor → ℕ → ℕ → ℕ → Type 0
Pays provider next before after may =
    (less : ℕ) × MayCost provider next less × (before ≤ after) × (after + less ≤ before + may)

module _ (provider : Provider) (side next : Side Acceptor) (bytes nonce sent : List ℕ) (taken before after : ℕ)
    (receives : Receives (ServerSideAnswers acceptor_names acceptor_machine) side bytes nonce taken sent next) where
  left : Left (ServerSideAnswers acceptor_names acceptor_machine) side bytes nonce next
  left = leaves (ServerSideAnswers acceptor_names acceptor_machine) side.progress side next bytes nonce sent taken receives

  stays : IsScram provider side.state → IsScram provider next.state
  stays early = keeps provider side next bytes nonce early left

  -- the frame that a call completes is answered
  answered : (turn is : FrameKind) (body : List ℕ) → turn ≡ is → Completes side bytes turn body
      → (answer : SideOutput) × (unit : List ℕ)
      × ServerSideAnswers acceptor_names acceptor_machine (Frame is) side.state nonce unit answer next.state
      × (next.progress ≡ answer.progress) × (next.expected ≡ answer.expected)
  answered turn is body same completes =
      let whole = answers_whole (ServerSideAnswers acceptor_names acceptor_machine) side next turn bytes nonce sent taken
      completes.0 completes.1 completes.2 receives in
      let unit = take (size_of (side.held ++ bytes)) (side.held ++ bytes) in (
        whole.0,
        unit,
        subst (λ (t : FrameKind). ServerSideAnswers acceptor_names acceptor_machine (Frame t) side.state nonce unit whole.0
            next.state) same whole.1,
        whole.2,
        whole.3,
      )

  response_done : (turn : FrameKind) (body : List ℕ) → turn ≡ turns.Response → Completes side bytes turn body → Done next
  response_done turn body is completes wants =
      let (answer, unit, answers, progress, expected) = answered turn turns.Response body is completes in
      response_ends side.state next.state nonce unit answer answers (sym progress ∙ wants)

  -- at its end a side costs nothing more
  at_end : (may : ℕ) → Done next → before ≤ after → after ≤ before + may → Pays provider next before after may
  at_end may done least bound = (0, inr (inr (done, refl)), least, omega (arith, bound))

  after_init : (progress : Progress) → next.progress ≡ progress → IsScram provider side.state → (turn : FrameKind)
      (body : List ℕ) → turn ≡ turns.Init → Completes side bytes turn body → before ≤ after
      → after ≤ before + provider.look_up_cost → Pays provider next before after (provider.look_up_cost + 2)
  after_init InProgress waits early turn body is completes least bound =
      let (answer, unit, answers, progress, expected) = answered turn turns.Init body is completes in
      let goes : next.expected ≡ Frame turns.Response =
      expected ∙ init_goes_on side.state next.state nonce unit answer answers (sym progress ∙ waits) in
      (2, inr (inl (stays early, goes, refl)), least, omega (arith, bound))
  after_init Authenticated ends early turn body is completes least bound =
      at_end (provider.look_up_cost + 2) (λ waits. let apart = sym ends ∙ waits in absurd (cc)) least
      (omega (arith, bound))
  after_init (HasFailed why) ends early turn body is completes least bound =
      at_end (provider.look_up_cost + 2) (λ waits. let apart = sym ends ∙ waits in absurd (cc)) least
      (omega (arith, bound))

  early_step : IsScram provider side.state → ServerCosts acceptor_hmacs side bytes nonce before after
      → Pays provider next before after (provider.look_up_cost + 2)
  early_step early costs = go (call_costs provider side bytes nonce before after early costs)
    where
      still : after ≡ before → Pays provider next before after (provider.look_up_cost + 2)
      still same =
          (provider.look_up_cost + 2, inl (stays early, refl), omega (arith, same), omega (arith, same))

      go : (after ≡ before) ⊎ ((turn : FrameKind) × (body : List ℕ) × Completes side bytes turn body
          × TurnCosts provider turn before after)
          → Pays provider next before after (provider.look_up_cost + 2)
      go (inl same) = still same
      go (inr (turn, body, completes, inl same)) = still same
      go (inr (turn, body, completes, inr (inl (is, (least, bound))))) =
          after_init next.progress refl early turn body is completes least bound
      go (inr (turn, body, completes, inr (inr (is, (least, bound))))) =
          at_end (provider.look_up_cost + 2) (response_done turn body is completes) least (omega (arith, bound))

  -- where a response is expected, a call waits for it, or is the last that costs
  late_step : IsScram provider side.state → side.expected ≡ Frame turns.Response
      → ServerCosts acceptor_hmacs side bytes nonce before after → Pays provider next before after 2
  late_step early expected costs = go (call_costs provider side bytes nonce before after early costs)
    where
      free : after ≡ before → Left (ServerSideAnswers acceptor_names acceptor_machine) side bytes nonce next
          → Pays provider next before after 2
      free same (inl waits) =
          (2, inr (inl (stays early, waits.1 ∙ expected, refl)), omega (arith, same), omega (arith, same))
      free same (inr (inl closed)) = at_end 2 closed.0 (omega (arith, same)) (omega (arith, same))
      free same (inr (inr (answer, unit, answers, progress, due))) =
          at_end 2 (λ wants. response_ends side.state next.state nonce unit answer
          (subst (λ (d : Expected). ServerSideAnswers acceptor_names acceptor_machine d side.state nonce unit answer
          next.state) expected answers) (sym progress ∙ wants)) (omega (arith, same)) (omega (arith, same))

      apart : (turn : FrameKind) → turn ≡ turns.Init → side.expected ≡ Frame turn → ⊥
      apart turn is at =
          let both : ◌≡◌ {A = Expected} (Frame turns.Response) (Frame turns.Init) =
          sym expected ∙ (at ∙ ap (λ (t : FrameKind). Frame t) is) in
          absurd (cc)

      go : (after ≡ before) ⊎ ((turn : FrameKind) × (body : List ℕ) × Completes side bytes turn body
          × TurnCosts provider turn before after) → Pays provider next before after 2
      go (inl same) = free same left
      go (inr (turn, body, completes, inl same)) = free same left
      go (inr (turn, body, completes, inr (inl (is, bounds)))) = absurd (apart turn is completes.1)
      go (inr (turn, body, completes, inr (inr (is, (least, bound))))) =
          at_end 2 (response_done turn body is completes) least bound

  done_step : Done side → ServerCosts acceptor_hmacs side bytes nonce before after → Pays provider next before after 0
  done_step done costs =
      let same : after ≡ before = done_tries side bytes nonce before after done costs in
      let rest = rests (ServerSideAnswers acceptor_names acceptor_machine) side.progress side next bytes nonce sent taken
      done receives in
      at_end 0 (λ wants. done (ap (λ (s : Side Acceptor). s.progress) (sym rest) ∙ wants)) (omega (arith, same))
      (omega (arith, same))

  step_pays : (may : ℕ) → MayCost provider side may → ServerCosts acceptor_hmacs side bytes nonce before after
      → Pays provider next before after may
  step_pays may (inl (early, is)) costs = subst (Pays provider next before after) (sym is) (early_step early costs)
  step_pays may (inr (inl (early, expected, is))) costs =
      subst (Pays provider next before after) (sym is) (late_step early expected costs)
  step_pays may (inr (inr (done, is))) costs = subst (Pays provider next before after) (sym is) (done_step done costs)

pub servers_cost : ServersCost
servers_cost provider state limit calls stream before after made =
    paid_calls (ServerSideAnswers acceptor_names acceptor_machine) (ServerCosts acceptor_hmacs) (MayCost provider)
    (λ side next bytes nonce sent taken before after may costs_so receives costs.
    step_pays provider side next bytes nonce sent taken before after receives may costs_so costs)
    calls (fresh limit (ScramAcceptor provider state)) stream before after (provider.look_up_cost + 2)
    (inl ((state, refl), refl)) made

-- a call costs as many at most, also one that runs out of memory
scram_tries : (provider : Provider) (side : Side Acceptor) (bytes nonce : List ℕ) (before after : ℕ)
    → IsScram provider side.state → ServerCosts acceptor_hmacs side bytes nonce before after
    → (before ≤ after) × (after ≤ before + (provider.look_up_cost + 2))
scram_tries provider side bytes nonce before after early costs =
    go (call_costs provider side bytes nonce before after early costs)
  where
    go : (after ≡ before) ⊎ ((turn : FrameKind) × (body : List ℕ) × Completes side bytes turn body
        × TurnCosts provider turn before after)
        → (before ≤ after) × (after ≤ before + (provider.look_up_cost + 2))
    go (inl same) = none before after (provider.look_up_cost + 2) same
    go (inr (turn, body, completes, inl same)) = none before after (provider.look_up_cost + 2) same
    go (inr (turn, body, completes, inr (inl (is, (least, bound))))) = (least, omega (arith, bound))
    go (inr (turn, body, completes, inr (inr (is, (least, bound))))) = (least, omega (arith, bound))

tries : (provider : Provider) (side : Side Acceptor) (bytes nonce : List ℕ) (before after may : ℕ)
    → MayCost provider side may → ServerCosts acceptor_hmacs side bytes nonce before after
    → (before ≤ after) × (after ≤ before + (provider.look_up_cost + 2))
tries provider side bytes nonce before after may (inl costs_so) costs =
    scram_tries provider side bytes nonce before after costs_so.0 costs
tries provider side bytes nonce before after may (inr (inl costs_so)) costs =
    scram_tries provider side bytes nonce before after costs_so.0 costs
tries provider side bytes nonce before after may (inr (inr costs_so)) costs =
    none before after (provider.look_up_cost + 2) (done_tries side bytes nonce before after costs_so.0 costs)

pub servers_retry : ServersRetry
servers_retry provider state limit calls stream failed before after made =
    paid_retried (ServerSideAnswers acceptor_names acceptor_machine) (ServerCosts acceptor_hmacs)
    (provider.look_up_cost + 2) (MayCost provider)
    (λ side next bytes nonce sent taken before after may costs_so receives costs.
    step_pays provider side next bytes nonce sent taken before after receives may costs_so costs)
    (tries provider) calls (fresh limit (ScramAcceptor provider state)) stream failed before after
    (provider.look_up_cost + 2) (inl ((state, refl), refl)) made
