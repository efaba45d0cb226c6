-- When a server goes on: only after a challenge, of which an acceptor sends no more than it may.
use Rattle.std.proofs.Common.{◌≡◌, ◌≢◌, ◌⊎◌, ◌<◌, ◌≤◌, ℕ, Option, Some, None, List, drop, refl, sym, ap, ◌∙◌, subst, inl, inr, arith, Result, Ok, Err}
use Rattle.fe2o3_sasl_wire.specs.declared.amqp_types.SaslCode.{SaslCode}
use Rattle.fe2o3_sasl_wire.specs.declared.amqp_types.SaslCode.TheVariants as outcomes
use Rattle.fe2o3_sasl_wire.specs.declared.sasl_frames.error.Error.{Error}
use Rattle.fe2o3_sasl_wire.specs.declared.sasl_frames.error.Error.TheVariants as faults
use Rattle.fe2o3_sasl_wire.specs.SaslFrames as frames
use Rattle.fe2o3_sasl_wire.specs.SaslFrames.{SaslFrame, canonical}
use Rattle.fe2o3_scram.specs.declared.scram_messages.error.ServerScramErrorKind.{ServerScramErrorKind}
use Rattle.fe2o3_sasl_core.specs.Bodies.{SpellsBody, carried, server_says}
use Rattle.fe2o3_sasl_core.specs.ChallengeCounts.{BoundsChallenges, GoesOn}
use Rattle.fe2o3_sasl_core.specs.Events.{Given, ServerSays, Challenged, Concluded, Failed}
use Rattle.fe2o3_sasl_core.specs.Runs.{AcceptorAnswers, AcceptorGives, AcceptorSteps}
use Rattle.fe2o3_sasl_core.specs.SaslAcceptor.{Acceptor, ScramAcceptor, PlainAcceptor, AnonymousAcceptor, acceptor_machine, server_frame}
use Rattle.fe2o3_sasl_core.proofs.lemmas.frames.SpellingLemmas.{one_spelling}
use Rattle.fe2o3_sasl_negotiation.specs.declared.progress.CloseReason.TheVariants.{Refused}
use Rattle.fe2o3_sasl_negotiation.specs.declared.progress.Expected.TheVariants.{Frame}
use Rattle.fe2o3_sasl_negotiation.specs.declared.progress.Progress.TheVariants.{InProgress, Authenticated, Failed as HasFailed}
use Rattle.fe2o3_sasl_negotiation.specs.declared.progress.FrameKind.{FrameKind}
use Rattle.fe2o3_sasl_negotiation.specs.declared.progress.FrameKind.TheVariants as turns
use Rattle.fe2o3_sasl_negotiation.specs.Connections.{SpellsTurn}
use Rattle.fe2o3_sasl_negotiation.specs.Negotiations.{SideOutput, Sends, IsInTurn}
use Rattle.fe2o3_sasl_negotiation.specs.ServerNegotiation.{ServerOutputs, ServerSideAnswers}
use Rattle.fe2o3_sasl_negotiation.proofs.lemmas.KindLemmas.{closes_waits_not, sends_ends}

-- ---- a server that waits

failed_waits_not : (code : SaslCode) → HasFailed (Refused code) ≢ InProgress
failed_waits_not code same = cc

logged_in_waits_not : Authenticated ≢ InProgress
logged_in_waits_not same = cc

-- a server waits only after a challenge, and then for a response
pub waits_after_challenge : (says : ServerSays) (turn : FrameKind) (answer : SideOutput) → ServerOutputs says turn answer
    → answer.progress ≡ InProgress
    → (body : List ℕ) × (says ≡ Challenged body) × Sends body InProgress (Frame turns.Response) answer
waits_after_challenge (Challenged body) turn answer sends waits = (body, refl, sends)
waits_after_challenge (Concluded outcomes.Ok body) turn answer sends waits =
    absurd (sends_ends body Authenticated (Frame turn) answer logged_in_waits_not sends waits)
waits_after_challenge (Concluded outcomes.Auth body) turn answer sends waits =
    absurd (sends_ends body _ (Frame turn) answer (failed_waits_not outcomes.Auth) sends waits)
waits_after_challenge (Concluded outcomes.Sys body) turn answer sends waits =
    absurd (sends_ends body _ (Frame turn) answer (failed_waits_not outcomes.Sys) sends waits)
waits_after_challenge (Concluded outcomes.SysPerm body) turn answer sends waits =
    absurd (sends_ends body _ (Frame turn) answer (failed_waits_not outcomes.SysPerm) sends waits)
waits_after_challenge (Concluded outcomes.SysTemp body) turn answer sends waits =
    absurd (sends_ends body _ (Frame turn) answer (failed_waits_not outcomes.SysTemp) sends waits)
waits_after_challenge (Failed faults.OutOfMemory) turn answer never waits = absurd never
waits_after_challenge (Failed faults.DecodeError) turn answer is waits = absurd (closes_waits_not _ _ answer is waits)
waits_after_challenge (Failed faults.NotImplemented) turn answer is waits = absurd (closes_waits_not _ _ answer is waits)
waits_after_challenge (Failed faults.TooLarge) turn answer is waits = absurd (closes_waits_not _ _ answer is waits)

-- ---- any acceptor

-- a bound on the challenges of an acceptor, over its steps
pub record ChallengesAtMost {S : Type 0} (machine : S → List ℕ → SaslFrame → SaslFrame → S → Type 0) (left most : S → ℕ)
    : Type 0 where
  pub first : (state next : S) (event : Given) (body : List ℕ) → SpellsTurn turns.Init event.body
      → AcceptorSteps machine state event (Challenged body) next → left next ≤ most state
  pub more : (state next : S) (event : Given) (body : List ℕ) → SpellsTurn turns.Response event.body
      → AcceptorSteps machine state event (Challenged body) next → left next < left state

outcome_is_no_challenge : (reply : SaslFrame) (code : SaslCode) (more : Option (List ℕ)) (body : List ℕ)
    (written : Option (List ℕ)) → reply ≡ frames.Outcome code more
    → Challenged body ≢ carried (Failed faults.TooLarge) (server_says reply) written
outcome_is_no_challenge reply code more body None is same =
    let apart : Challenged body ≡ Failed faults.TooLarge = same in absurd (cc)
outcome_is_no_challenge reply code more body (Some out) is same =
    let apart : Challenged body ≡ Concluded code out = same ∙ ap (λ (r : SaslFrame). server_says r out) is in absurd (cc)

-- a reply that is sent as a challenge is no outcome, and was sent
challenge_goes_on : (reply : SaslFrame) (body : List ℕ) (written : Option (List ℕ))
    → Challenged body ≡ carried (Failed faults.TooLarge) (server_says reply) written → GoesOn reply
challenge_goes_on (frames.Outcome code more) body written same =
    absurd (outcome_is_no_challenge (frames.Outcome code more) code more body written refl same)
challenge_goes_on (frames.Mechanisms names) body written same = tt
challenge_goes_on (frames.Init mechanism response hostname) body written same = tt
challenge_goes_on (frames.Challenge text) body written same = tt
challenge_goes_on (frames.Response text) body written same = tt

state_of_sent : {S : Type 0} (reply : SaslFrame) (body : List ℕ) (written : Option (List ℕ)) (state moved next : S)
    → Challenged body ≡ carried (Failed faults.TooLarge) (server_says reply) written
    → next ≡ carried state (λ _. moved) written → next ≡ moved
state_of_sent reply body None state moved next same is = absurd (cc)
state_of_sent reply body (Some out) state moved next same is = is

not_asked : (body : List ℕ) (says : ServerSays) → says ≡ Challenged body → says ≢ Failed faults.NotImplemented
not_asked body says is other = let apart : Challenged body ≡ Failed faults.NotImplemented = sym is ∙ other in absurd (cc)

module _ {S : Type 0} (machine : S → List ℕ → SaslFrame → SaslFrame → S → Type 0) where
  -- what a step gives for the frame that the body spells
  gives_of : (state next : S) (event : Given) (says : ServerSays) (frame : SaslFrame) → SpellsBody event.body (Ok frame)
      → AcceptorSteps machine state event says next → AcceptorGives machine state event (Ok frame) says next
  gives_of state next event says frame spells (spelled, read, gives) =
      subst (λ (s : Result SaslFrame Error). AcceptorGives machine state event s says next)
      (one_spelling event.body spelled (Ok frame) read spells) gives

  by_frame : (turn : FrameKind) (frame : SaslFrame) (state next : S) (event : Given) (body : List ℕ) → IsInTurn turn frame
      → AcceptorGives machine state event (Ok frame) (Challenged body) next
      → (turn ≡ turns.Init) ⊎ (turn ≡ turns.Response)
  by_frame turns.Init frame state next event body in_turn gives = inl refl
  by_frame turns.Response frame state next event body in_turn gives = inr refl
  by_frame turn (frames.Mechanisms names) state next event body in_turn gives = absurd (not_asked body _ refl gives.0)
  by_frame turn (frames.Challenge text) state next event body in_turn gives = absurd (not_asked body _ refl gives.0)
  by_frame turn (frames.Outcome code more) state next event body in_turn gives = absurd (not_asked body _ refl gives.0)
  by_frame turns.Mechanisms (frames.Init mechanism response hostname) state next event body in_turn gives = absurd in_turn
  by_frame turns.Mechanisms (frames.Response text) state next event body in_turn gives = absurd in_turn
  by_frame turns.Challenge (frames.Init mechanism response hostname) state next event body in_turn gives = absurd in_turn
  by_frame turns.Challenge (frames.Response text) state next event body in_turn gives = absurd in_turn
  by_frame turns.Outcome (frames.Init mechanism response hostname) state next event body in_turn gives = absurd in_turn
  by_frame turns.Outcome (frames.Response text) state next event body in_turn gives = absurd in_turn
  by_frame turns.SignatureChallenge (frames.Init mechanism response hostname) state next event body in_turn gives =
      absurd in_turn
  by_frame turns.SignatureChallenge (frames.Response text) state next event body in_turn gives = absurd in_turn

  -- an acceptor answers nothing but an init and a response by a challenge
  pub challenged_turn : (turn : FrameKind) (state next : S) (event : Given) (body : List ℕ) → SpellsTurn turn event.body
      → AcceptorSteps machine state event (Challenged body) next → (turn ≡ turns.Init) ⊎ (turn ≡ turns.Response)
  challenged_turn turn state next event body (frame, spells, in_turn) steps =
      by_frame turn frame state next event body in_turn
      (gives_of state next event (Challenged body) frame spells steps)

  -- the challenge after which a server waits
  pub challenge_of_answer : (names : S → List (List ℕ)) (turn : FrameKind) (state next : S) (nonce unit : List ℕ)
      (answer : SideOutput) → ServerSideAnswers names machine (Frame turn) state nonce unit answer next
      → answer.progress ≡ InProgress
      → SpellsTurn turn (drop 4 unit) × ((body : List ℕ)
      × AcceptorSteps machine state (record { body = drop 4 unit; nonce = nonce }) (Challenged body) next
      × Sends body InProgress (Frame turns.Response) answer)
  challenge_of_answer names turn state next nonce unit answer (Err fault, spells, closed) waits =
      absurd (closes_waits_not _ _ answer closed.0 waits)
  challenge_of_answer names turn state next nonce unit answer (Ok frame, spells, inl out) waits =
      absurd (closes_waits_not _ _ answer out.1 waits)
  challenge_of_answer names turn state next nonce unit answer (Ok frame, spells, inr (in_turn, (says, steps, said))) waits =
      let event : Given = record { body = drop 4 unit; nonce = nonce } in
      let (body, is, sends) = waits_after_challenge says turn answer said waits in (
        (frame, spells, in_turn),
        (body, subst (λ (s : ServerSays). AcceptorSteps machine state event s next) is steps, sends),
      )

  -- a bound of the machine is one over its steps
  pub bounded_steps : (left most : S → ℕ) → BoundsChallenges machine left most → ChallengesAtMost machine left most
  bounded_steps left most bounds = record {
    first = λ state next event body spells steps. by_init state next event body spells.0 spells.1 spells.2 steps;
    more = λ state next event body spells steps. by_response state next event body spells.0 spells.1 spells.2 steps;
  }
    where
      init_answer : (state next : S) (nonce mechanism : List ℕ) (response hostname : Option (List ℕ)) (body : List ℕ)
          → AcceptorAnswers machine state nonce (frames.Init mechanism response hostname) (Challenged body) next
          → left next ≤ most state
      init_answer state next nonce mechanism response hostname body (inl (memory, same)) = absurd (cc)
      init_answer state next nonce mechanism response hostname body (inr (reply, moved, replies, sends)) =
          let same : next ≡ moved = state_of_sent reply body (canonical reply) state moved next sends.0 sends.1 in
          subst (λ (s : S). left s ≤ most state) (sym same)
          (bounds.init state moved nonce mechanism response hostname reply replies
          (challenge_goes_on reply body (canonical reply) sends.0))

      response_answer : (state next : S) (nonce text body : List ℕ)
          → AcceptorAnswers machine state nonce (frames.Response text) (Challenged body) next → left next < left state
      response_answer state next nonce text body (inl (memory, same)) = absurd (cc)
      response_answer state next nonce text body (inr (reply, moved, replies, sends)) =
          let same : next ≡ moved = state_of_sent reply body (canonical reply) state moved next sends.0 sends.1 in
          subst (λ (s : S). left s < left state) (sym same)
          (bounds.response state moved nonce text reply replies
          (challenge_goes_on reply body (canonical reply) sends.0))

      by_init : (state next : S) (event : Given) (body : List ℕ) (frame : SaslFrame) → SpellsBody event.body (Ok frame)
          → IsInTurn turns.Init frame → AcceptorSteps machine state event (Challenged body) next → left next ≤ most state
      by_init state next event body (frames.Init mechanism response hostname) spells in_turn steps =
          init_answer state next event.nonce mechanism response hostname body
          (gives_of state next event (Challenged body) (frames.Init mechanism response hostname) spells steps)
      by_init state next event body (frames.Mechanisms names) spells in_turn steps = absurd in_turn
      by_init state next event body (frames.Challenge text) spells in_turn steps = absurd in_turn
      by_init state next event body (frames.Response text) spells in_turn steps = absurd in_turn
      by_init state next event body (frames.Outcome code more) spells in_turn steps = absurd in_turn

      by_response : (state next : S) (event : Given) (body : List ℕ) (frame : SaslFrame) → SpellsBody event.body (Ok frame)
          → IsInTurn turns.Response frame → AcceptorSteps machine state event (Challenged body) next
          → left next < left state
      by_response state next event body (frames.Response text) spells in_turn steps =
          response_answer state next event.nonce text body
          (gives_of state next event (Challenged body) (frames.Response text) spells steps)
      by_response state next event body (frames.Mechanisms names) spells in_turn steps = absurd in_turn
      by_response state next event body (frames.Challenge text) spells in_turn steps = absurd in_turn
      by_response state next event body (frames.Init mechanism response hostname) spells in_turn steps = absurd in_turn
      by_response state next event body (frames.Outcome code more) spells in_turn steps = absurd in_turn

-- ---- SCRAM, PLAIN and ANONYMOUS

abbrev IsOutcome : SaslFrame → Type 0
IsOutcome reply = (code : SaslCode) × (more : Option (List ℕ)) × (reply ≡ frames.Outcome code more)

conclusion_is_outcome : (answer : Result (Option (List ℕ)) ServerScramErrorKind)
    → IsOutcome (server_frame (λ message. frames.Outcome outcomes.Ok (Some message)) answer)
conclusion_is_outcome (Ok (Some message)) = (outcomes.Ok, Some message, refl)
conclusion_is_outcome (Ok None) = (outcomes.Auth, None, refl)
conclusion_is_outcome (Err fault) = (outcomes.Auth, None, refl)

response_concluded : (acceptor next : Acceptor) (nonce text : List ℕ) (reply : SaslFrame)
    → acceptor_machine acceptor nonce (frames.Response text) reply next → IsOutcome reply
response_concluded (ScramAcceptor provider state) next nonce text reply (answer, after, concludes, is, same) =
    subst IsOutcome (sym is) (conclusion_is_outcome answer)
response_concluded (PlainAcceptor user password accepted) next nonce text reply (is, same) = (outcomes.Sys, None, is)
response_concluded AnonymousAcceptor next nonce text reply (is, same) = (outcomes.Ok, None, is)

not_challenged : (acceptor next : Acceptor) (nonce text body : List ℕ)
    → ¬ AcceptorAnswers acceptor_machine acceptor nonce (frames.Response text) (Challenged body) next
not_challenged acceptor next nonce text body (inl (memory, same)) = absurd (cc)
not_challenged acceptor next nonce text body (inr (reply, moved, replies, sends)) =
    let (code, more, is) = response_concluded acceptor moved nonce text reply replies in
    outcome_is_no_challenge reply code more body (canonical reply) is sends.0

response_not_challenged : (acceptor next : Acceptor) (event : Given) (body : List ℕ) → SpellsTurn turns.Response event.body
    → ¬ AcceptorSteps acceptor_machine acceptor event (Challenged body) next
response_not_challenged acceptor next event body (frames.Response text, spells, in_turn) steps =
    not_challenged acceptor next event.nonce text body
    (gives_of acceptor_machine acceptor next event (Challenged body) (frames.Response text) spells steps)
response_not_challenged acceptor next event body (frames.Init mechanism response hostname, spells, in_turn) steps = in_turn
response_not_challenged acceptor next event body (frames.Mechanisms names, spells, in_turn) steps = in_turn
response_not_challenged acceptor next event body (frames.Challenge text, spells, in_turn) steps = in_turn
response_not_challenged acceptor next event body (frames.Outcome code more, spells, in_turn) steps = in_turn

-- they send one challenge, in answer to an init
pub one_challenge : ChallengesAtMost acceptor_machine (λ _. 0) (λ _. 0)
one_challenge = record {
  first = λ acceptor next event body spells steps. omega arith;
  more = λ acceptor next event body spells steps. absurd (response_not_challenged acceptor next event body spells steps);
}

-- so much is left of them
pub acceptor_bounds : BoundsChallenges acceptor_machine (λ _. 0) (λ _. 0)
acceptor_bounds = record {
  init = λ acceptor next nonce mechanism response hostname reply replies goes. omega arith;
  response = λ acceptor next nonce text reply replies goes.
      absurd (outcome_ends reply (response_concluded acceptor next nonce text reply replies) goes);
}
  where
    outcome_ends : (reply : SaslFrame) → IsOutcome reply → ¬ GoesOn reply
    outcome_ends reply (code, more, is) goes = subst GoesOn is goes
