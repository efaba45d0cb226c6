-- What a connection of a SCRAM client costs: after its answer to a challenge no other makes an HMAC value.
use Rattle.std.proofs.Common.{◌≡◌, ◌⊎◌, ℕ, Bool, true, false, ◌+◌, ◌≤◌, Option, List, ◌++◌, drop, take, refl, ap, ◌∙◌, subst, sym, inl, inr, Result, Ok, Err}
use Rattle.std.specs.Prelude.{IsUtf8}
use Rattle.fe2o3_sasl_wire.specs.declared.amqp_types.SaslCode.TheVariants as outcomes
use Rattle.fe2o3_sasl_wire.specs.declared.sasl_frames.error.Error.{Error}
use Rattle.fe2o3_sasl_wire.specs.SaslFrames as frames
use Rattle.fe2o3_sasl_wire.specs.SaslFrames.{SaslFrame}
use Rattle.fe2o3_scram.specs.declared.client_secret.IterationLimits.{IterationLimits}
use Rattle.fe2o3_scram.specs.ScramClient.{ClientSide}
use Rattle.fe2o3_scram.proofs.lemmas.texts.DecisionLemmas.{Decided, utf8_or}
use Rattle.fe2o3_sasl_core.specs.Bodies.{SpellsBody}
use Rattle.fe2o3_sasl_core.specs.Costs.{ProfileCosts, ProfileCostsOf, ProfileStepCosts}
use Rattle.fe2o3_sasl_core.specs.Events.{Given, ClientSays, Started, Answered, Reported, Refused as ClientRefused}
use Rattle.fe2o3_sasl_core.specs.Profiles.{Profile, ScramProfile, accepts_signature_by_challenge}
use Rattle.fe2o3_sasl_core.specs.Runs.{ProfileGives, ProfileSteps}
use Rattle.fe2o3_sasl_core.proofs.lemmas.frames.SpellingLemmas.{one_spelling}
use Rattle.fe2o3_sasl_core.proofs.lemmas.machines.RunCostLemmas.{in_state_costs, step_keeps}
use Rattle.fe2o3_sasl_negotiation.specs.declared.progress.CloseReason.{CloseReason}
use Rattle.fe2o3_sasl_negotiation.specs.declared.progress.Expected.{Expected}
use Rattle.fe2o3_sasl_negotiation.specs.declared.progress.Expected.TheVariants.{Header, Frame}
use Rattle.fe2o3_sasl_negotiation.specs.declared.progress.Progress.{Progress}
use Rattle.fe2o3_sasl_negotiation.specs.declared.progress.Progress.TheVariants.{InProgress, Failed}
use Rattle.fe2o3_sasl_negotiation.specs.declared.progress.FrameKind.{FrameKind}
use Rattle.fe2o3_sasl_negotiation.specs.declared.progress.FrameKind.TheVariants as turns
use Rattle.fe2o3_sasl_negotiation.specs.ClientNegotiation.{ClientOutputs, AsksProfile, ClientSideAnswers, ClientCosts}
use Rattle.fe2o3_sasl_negotiation.specs.CostLaws.{ClientsCost}
use Rattle.fe2o3_sasl_negotiation.specs.Connections.{fresh}
use Rattle.fe2o3_sasl_negotiation.specs.Framing.{size_of}
use Rattle.fe2o3_sasl_negotiation.specs.Negotiations.{Side, SideOutput, closes, IsInTurn, Receives}
use Rattle.fe2o3_sasl_negotiation.specs.Retries.{ClientsRetry}
use Rattle.fe2o3_sasl_negotiation.proofs.lemmas.AnsweredProfileLemmas.{IsPast, response_is_past, past_costs}
use Rattle.fe2o3_sasl_negotiation.proofs.lemmas.CostLemmas.{none, open_calls, rests, Left, leaves, answers_whole}
use Rattle.fe2o3_sasl_negotiation.proofs.lemmas.RetryLemmas.{open_retried}
use Rattle.fe2o3_sasl_negotiation.proofs.lemmas.KindLemmas.{progress_of, due_of}
use Rattle.fe2o3_sasl_core.specs.declared.sasl_profile.error.ProfileError.TheVariants.{NotImplemented, Scram, StaleKeys, Frame as FrameFault, OutOfMemory}

-- before a challenge is answered the header, the list of mechanisms or a challenge is expected
abbrev pub IsEarly : Expected → Type 0
IsEarly Header = Unit {0}
IsEarly (Frame turns.Mechanisms) = Unit {0}
IsEarly (Frame turns.Challenge) = Unit {0}
IsEarly (Frame turn) = ⊥

-- the profile is of SCRAM still, with the same limit of iterations
abbrev pub IsScram : ℕ → Profile → Type 0
IsScram most profile = (client : ClientSide) × (profile ≡ ScramProfile client) × (client.limits.max_iterations ≡ most)

abbrev pub Open : ℕ → Side Profile → Type 0
Open most side = IsScram most side.state × IsEarly side.expected

-- an outcome is expected, or the signature in a challenge, which costs nothing
abbrev pub IsLate : Expected → Profile → Type 0
IsLate expected profile =
    (expected ≡ Frame turns.Outcome) ⊎ ((expected ≡ Frame turns.SignatureChallenge) × IsPast profile)

-- at the end, or late
abbrev pub Done : Side Profile → Type 0
Done side = (side.progress ≡ InProgress → ⊥) ⊎ IsLate side.expected side.state

-- an answer with this profile after it has ended the negotiation, or is late
abbrev pub Later : SideOutput → Profile → Type 0
Later answer next = (answer.progress ≡ InProgress → ⊥) ⊎ IsLate answer.expected next

closed_ends : (why : CloseReason) (progress : Progress) → progress ≡ Failed why → progress ≡ InProgress → ⊥
closed_ends why progress closed wants = let apart = sym closed ∙ wants in absurd (cc)

ended : {why : CloseReason} {expected : Expected} (answer : SideOutput) (next : Profile) → answer ≡ closes why expected
    → Later answer next
ended answer next same = inl (closed_ends _ answer.progress (progress_of answer _ same))

-- a response to a challenge leaves a profile that makes no HMAC value for another
answered_late : (signs : Bool) (body : List ℕ) (answer : SideOutput) (next : Profile) → IsPast next
    → ClientOutputs signs (Answered body) turns.Challenge answer → Later answer next
answered_late true body answer next past (inl (fits, same)) = inr (inr (due_of answer _ same, past))
answered_late false body answer next past (inl (fits, same)) = inr (inl (due_of answer _ same))
answered_late true body answer next past (inr (long, same)) = ended answer next same
answered_late false body answer next past (inr (long, same)) = ended answer next same

-- after what a profile says, but for an init to a list of mechanisms, the client is late, or the negotiation has ended
said_later : (signs : Bool) (says : ClientSays) (turn : FrameKind) (answer : SideOutput) (next : Profile)
    → ((body : List ℕ) → says ≡ Started body → turn ≡ turns.Mechanisms → ⊥)
    → ((body : List ℕ) → says ≡ Answered body → IsPast next)
    → ClientOutputs signs says turn answer → Later answer next
said_later signs (Started body) turns.Mechanisms answer next other past sends = absurd (other body refl refl)
said_later signs (Started body) turns.Init answer next other past same = ended answer next same
said_later signs (Started body) turns.Challenge answer next other past same = ended answer next same
said_later signs (Started body) turns.Response answer next other past same = ended answer next same
said_later signs (Started body) turns.Outcome answer next other past same = ended answer next same
said_later signs (Started body) turns.SignatureChallenge answer next other past same = ended answer next same
said_later signs (Answered body) turns.Challenge answer next other past sends =
    answered_late signs body answer next (past body refl) sends
said_later signs (Answered body) turns.SignatureChallenge answer next other past (inl (fits, same)) =
    inr (inl (due_of answer _ same))
said_later signs (Answered body) turns.SignatureChallenge answer next other past (inr (long, same)) =
    ended answer next same
said_later signs (Answered body) turns.Mechanisms answer next other past same = ended answer next same
said_later signs (Answered body) turns.Init answer next other past same = ended answer next same
said_later signs (Answered body) turns.Response answer next other past same = ended answer next same
said_later signs (Answered body) turns.Outcome answer next other past same = ended answer next same
said_later signs (Reported outcomes.Ok more) turn answer next other past same =
    inl (λ wants. let logged = progress_of answer _ same in let apart = sym logged ∙ wants in absurd (cc))
said_later signs (Reported outcomes.Auth more) turn answer next other past same = ended answer next same
said_later signs (Reported outcomes.Sys more) turn answer next other past same = ended answer next same
said_later signs (Reported outcomes.SysPerm more) turn answer next other past same = ended answer next same
said_later signs (Reported outcomes.SysTemp more) turn answer next other past same = ended answer next same
said_later signs (ClientRefused OutOfMemory) turn answer next other past never = absurd never
said_later signs (ClientRefused NotImplemented) turn answer next other past closed = ended answer next closed
said_later signs (ClientRefused (Scram fault)) turn answer next other past closed = ended answer next closed
said_later signs (ClientRefused StaleKeys) turn answer next other past closed = ended answer next closed
said_later signs (ClientRefused (FrameFault fault)) turn answer next other past closed = ended answer next closed

-- what a profile says in any turn but that of the mechanisms
asked_later : (hostname : Option (List ℕ)) (turn : FrameKind) (profile next : Profile) (event : Given)
    (answer : SideOutput) → (turn ≡ turns.Mechanisms → ⊥) → AsksProfile hostname turn profile event answer next
    → Later answer next
asked_later hostname turn profile next event answer other (says, steps, said) =
    said_later (accepts_signature_by_challenge profile) says turn answer next (λ body started same. other same)
    (λ body answered. response_is_past hostname profile next event body
    (subst (λ (s : ClientSays). ProfileSteps hostname profile event s next) answered steps)) said

-- after an answer to a list of mechanisms a challenge may be expected, too
said_by : (signs : Bool) (says : ClientSays) (answer : SideOutput) (next : Profile)
    → ((body : List ℕ) → says ≡ Answered body → IsPast next) → ClientOutputs signs says turns.Mechanisms answer
    → Later answer next ⊎ (answer.expected ≡ Frame turns.Challenge)
said_by signs (Started body) answer next past (inl (fits, same)) = inr (due_of answer _ same)
said_by signs (Started body) answer next past (inr (long, same)) = inl (ended answer next same)
said_by signs (Answered body) answer next past said =
    inl (said_later signs (Answered body) turns.Mechanisms answer next (λ b is _. absurd (cc)) past said)
said_by signs (Reported code more) answer next past said =
    inl (said_later signs (Reported code more) turns.Mechanisms answer next (λ b is _. absurd (cc)) past said)
said_by signs (ClientRefused fault) answer next past said =
    inl (said_later signs (ClientRefused fault) turns.Mechanisms answer next (λ b is _. absurd (cc)) past said)

-- a step of a SCRAM profile leaves the limit
keeps : (hostname : Option (List ℕ)) (most : ℕ) (profile next : Profile) (event : Given) (says : ClientSays)
    → IsScram most profile → ProfileSteps hostname profile event says next → IsScram most next
keeps hostname most profile next event says (client, is, limit) (spelled, spells, gives) =
    let kept = step_keeps hostname client event spelled says next
    (subst (λ (p : Profile). ProfileGives hostname p event spelled says next) is gives) in
    (kept.0, kept.1, ap (λ (l : IterationLimits). l.max_iterations) kept.2 ∙ limit)

-- what an answer to an early unit is
asked_early : (hostname : Option (List ℕ)) (most : ℕ) (turn : FrameKind) (profile next : Profile) (event : Given)
    (frame : SaslFrame) (answer : SideOutput) → IsEarly (Frame turn) → IsScram most profile
    → SpellsBody event.body (Ok frame) → IsInTurn turn frame → AsksProfile hostname turn profile event answer next
    → Later answer next ⊎ (IsScram most next × IsEarly answer.expected)
asked_early hostname most turns.Mechanisms profile next event frame answer early is spells in_turn
    (says, steps, said) =
    go (said_by (accepts_signature_by_challenge profile) says answer next
    (λ body answered. response_is_past hostname profile next event body
    (subst (λ (s : ClientSays). ProfileSteps hostname profile event s next) answered steps)) said)
  where
    go : Later answer next ⊎ (answer.expected ≡ Frame turns.Challenge)
        → Later answer next ⊎ (IsScram most next × IsEarly answer.expected)
    go (inl later) = inl later
    go (inr expected) = inr (keeps hostname most profile next event says is steps, subst IsEarly (sym expected) tt)
asked_early hostname most turns.Challenge profile next event frame answer early is spells in_turn asks =
    inl (asked_later hostname turns.Challenge profile next event answer (λ turn. cc) asks)
asked_early hostname most turns.Init profile next event frame answer early is spells in_turn asks = absurd early
asked_early hostname most turns.Response profile next event frame answer early is spells in_turn asks = absurd early
asked_early hostname most turns.Outcome profile next event frame answer early is spells in_turn asks = absurd early
asked_early hostname most turns.SignatureChallenge profile next event frame answer early is spells in_turn asks =
    absurd early

early_answer : (hostname : Option (List ℕ)) (most : ℕ) (expected : Expected) (profile next : Profile) (nonce unit : List ℕ)
    (answer : SideOutput) → IsEarly expected → IsScram most profile
    → ClientSideAnswers hostname expected profile nonce unit answer next
    → Later answer next ⊎ (IsScram most next × IsEarly answer.expected)
early_answer hostname most Header profile next nonce unit answer early is (inl other, kept) =
    inl (inl (closed_ends _ answer.progress (progress_of answer _ other.1)))
early_answer hostname most Header profile next nonce unit answer early is (inr opens, kept) =
    inr ((is.0, kept ∙ is.1, is.2), subst IsEarly (sym (due_of answer _ opens.1)) tt)
early_answer hostname most (Frame turn) profile next nonce unit answer early is (Err fault, spells, closed) =
    inl (inl (closed_ends _ answer.progress (progress_of answer _ closed.0)))
early_answer hostname most (Frame turn) profile next nonce unit answer early is (Ok frame, spells, inl out) =
    inl (inl (closed_ends _ answer.progress (progress_of answer _ out.1)))
early_answer hostname most (Frame turn) profile next nonce unit answer early is (Ok frame, spells, inr asks) =
    asked_early hostname most turn profile next (record { body = drop 4 unit; nonce = nonce }) frame answer early is
    spells asks.0 asks.1

-- and to a frame of any turn but that of the mechanisms
later_answer : (hostname : Option (List ℕ)) (turn : FrameKind) (profile next : Profile) (nonce unit : List ℕ)
    (answer : SideOutput) → (turn ≡ turns.Mechanisms → ⊥)
    → ClientSideAnswers hostname (Frame turn) profile nonce unit answer next → Later answer next
later_answer hostname turn profile next nonce unit answer other (Err fault, spells, closed) =
    inl (closed_ends _ answer.progress (progress_of answer _ closed.0))
later_answer hostname turn profile next nonce unit answer other (Ok frame, spells, inl out) =
    inl (closed_ends _ answer.progress (progress_of answer _ out.1))
later_answer hostname turn profile next nonce unit answer other (Ok frame, spells, inr asks) =
    asked_later hostname turn profile next (record { body = drop 4 unit; nonce = nonce }) answer other asks.1

-- what a frame costs in its turn: a challenge as many as the limit and four more at most, all others none
challenge_costs : {A F : Type 0} (client : ClientSide) (text : List ℕ) (result : Result A F) (before after : ℕ)
    → ProfileCosts (frames.Challenge text) (ScramProfile client) result before after
    → (before ≤ after) × (after ≤ before + (client.limits.max_iterations + 4))
challenge_costs client text result before after costs = go (utf8_or text)
  where
    go : Decided (IsUtf8 text) → (before ≤ after) × (after ≤ before + (client.limits.max_iterations + 4))
    go (inl is) = in_state_costs client.state client text result before after (costs.1 is)
    go (inr not) = none before after (client.limits.max_iterations + 4) (costs.0 not)

turn_costs : {A F : Type 0} (turn : FrameKind) (client : ClientSide) (frame : SaslFrame) (result : Result A F)
    (before after : ℕ) → IsEarly (Frame turn) → IsInTurn turn frame
    → ProfileCosts frame (ScramProfile client) result before after
    → (after ≡ before) ⊎ ((turn ≡ turns.Challenge)
    × ((before ≤ after) × (after ≤ before + (client.limits.max_iterations + 4))))
turn_costs turn client (frames.Mechanisms names) result before after early in_turn costs = inl costs
turn_costs turn client (frames.Init mechanism response host) result before after early in_turn costs = inl costs
turn_costs turn client (frames.Response text) result before after early in_turn costs = inl costs
turn_costs turn client (frames.Outcome code more) result before after early in_turn costs = inl costs
turn_costs turns.Challenge client (frames.Challenge text) result before after early in_turn costs =
    inr (refl, challenge_costs client text result before after costs)
turn_costs turns.Mechanisms client (frames.Challenge text) result before after early in_turn costs = absurd in_turn
turn_costs turns.Init client (frames.Challenge text) result before after early in_turn costs = absurd early
turn_costs turns.Response client (frames.Challenge text) result before after early in_turn costs = absurd early
turn_costs turns.Outcome client (frames.Challenge text) result before after early in_turn costs = absurd early
turn_costs turns.SignatureChallenge client (frames.Challenge text) result before after early in_turn costs =
    absurd early

outcome_costs : {A F : Type 0} (profile : Profile) (frame : SaslFrame) (result : Result A F) (before after : ℕ)
    → IsInTurn turns.Outcome frame → ProfileCosts frame profile result before after → after ≡ before
outcome_costs profile (frames.Outcome code more) result before after in_turn costs = costs
outcome_costs profile (frames.Mechanisms names) result before after in_turn costs = absurd in_turn
outcome_costs profile (frames.Init mechanism response host) result before after in_turn costs = absurd in_turn
outcome_costs profile (frames.Challenge text) result before after in_turn costs = absurd in_turn
outcome_costs profile (frames.Response text) result before after in_turn costs = absurd in_turn

costs_over : {A F : Type 0} (profile : Profile) (event : Given) (frame : SaslFrame) (result : Result A F)
    (before after : ℕ) → SpellsBody event.body (Ok frame) → ProfileStepCosts profile event result before after
    → ProfileCosts frame profile result before after
costs_over profile event frame result before after spells costs =
    subst (λ (s : Result SaslFrame Error). ProfileCostsOf s profile result before after)
    (one_spelling event.body costs.0 (Ok frame) costs.1 spells) costs.2

one_turn : (turn other : FrameKind) → ◌≡◌ {A = Expected} (Frame turn) (Frame other) → turn ≡ other
one_turn turn other same = cc

-- a call to a late client costs nothing
late_tries : (side : Side Profile) (bytes nonce : List ℕ) (before after : ℕ) → IsLate side.expected side.state
    → ClientCosts side bytes nonce before after → after ≡ before
late_tries side bytes nonce before after late (inl same) = same
late_tries side bytes nonce before after late (inr (turn, body, completes, inl same)) = same
late_tries side bytes nonce before after (inl expected)
    (inr (turn, body, completes, inr (frame, reply, spells, in_turn, costs))) =
    outcome_costs side.state frame reply before after
    (subst (λ (t : FrameKind). IsInTurn t frame) (one_turn turn turns.Outcome (sym completes.1 ∙ expected)) in_turn)
    (costs_over side.state (record { body = body; nonce = nonce }) frame reply before after spells costs)
late_tries side bytes nonce before after (inr (expected, past))
    (inr (turn, body, completes, inr (frame, reply, spells, in_turn, costs))) =
    past_costs side.state frame reply before after past
    (costs_over side.state (record { body = body; nonce = nonce }) frame reply before after spells costs)

module _ (hostname : Option (List ℕ)) (most : ℕ) (side next : Side Profile) (bytes nonce sent : List ℕ)
    (taken before after : ℕ) (receives : Receives (ClientSideAnswers hostname) side bytes nonce taken sent next) where
  -- after an answer
  behind : (answer : SideOutput) → next.progress ≡ answer.progress → next.expected ≡ answer.expected
      → Later answer next.state → Done next
  behind answer stands dues (inl ends) = inl (λ wants. ends (sym stands ∙ wants))
  behind answer stands dues (inr late) = inr (subst (λ (d : Expected). IsLate d next.state) (sym dues) late)

  -- a call to an open side leaves it open, or done
  moved : Open most side → Open most next ⊎ Done next
  moved begun = go (leaves (ClientSideAnswers hostname) side.progress side next bytes nonce sent taken receives)
    where
      go : Left (ClientSideAnswers hostname) side bytes nonce next → Open most next ⊎ Done next
      go (inl waits) = inl (
        (begun.0.0, waits.2 ∙ begun.0.1, begun.0.2),
        subst IsEarly (sym waits.1) begun.1,
      )
      go (inr (inl closed)) = inr (inl closed.0)
      go (inr (inr whole)) =
          answered (early_answer hostname most side.expected side.state next.state nonce whole.1 whole.0 begun.1 begun.0
          whole.2)
        where
          answered : Later whole.0 next.state ⊎ (IsScram most next.state × IsEarly whole.0.expected)
              → Open most next ⊎ Done next
          answered (inl later) = inr (behind whole.0 whole.3 whole.4 later)
          answered (inr early) = inl (early.0, subst IsEarly (sym whole.4) early.1)

  unspent : Open most side → after ≡ before
      → ((after ≡ before) × Open most next) ⊎ ((before ≤ after) × (after ≤ before + (most + 4)) × Done next)
  unspent begun same = go (moved begun)
    where
      go : Open most next ⊎ Done next
          → ((after ≡ before) × Open most next) ⊎ ((before ≤ after) × (after ≤ before + (most + 4)) × Done next)
      go (inl still) = inl (same, still)
      go (inr done) = let within = none before after (most + 4) same in inr (within.0, within.1, done)

  open_step : Open most side → ClientCosts side bytes nonce before after
      → ((after ≡ before) × Open most next) ⊎ ((before ≤ after) × (after ≤ before + (most + 4)) × Done next)
  open_step begun (inl same) = unspent begun same
  open_step begun (inr (turn, body, completes, inl same)) = unspent begun same
  open_step begun (inr (turn, body, completes, inr (frame, reply, spells, in_turn, costs))) =
      go (turn_costs turn begun.0.0 frame reply before after (subst IsEarly completes.1 begun.1) in_turn
      (subst (λ (p : Profile). ProfileCosts frame p reply before after) begun.0.1
      (costs_over side.state (record { body = body; nonce = nonce }) frame reply before after spells costs)))
    where
      challenge_is_later : turn ≡ turns.Challenge → turn ≡ turns.Mechanisms → ⊥
      challenge_is_later is other = cc

      ends : turn ≡ turns.Challenge → Done next
      ends is = closing (answers_whole (ClientSideAnswers hostname) side next turn bytes nonce sent taken completes.0
          completes.1 completes.2 receives)
        where
          closing : (answer : SideOutput) × ClientSideAnswers hostname (Frame turn) side.state nonce
              (take (size_of (side.held ++ bytes)) (side.held ++ bytes)) answer next.state
              × (next.progress ≡ answer.progress) × (next.expected ≡ answer.expected) → Done next
          closing (answer, answers, stands, dues) = behind answer stands dues
              (later_answer hostname turn side.state next.state nonce
              (take (size_of (side.held ++ bytes)) (side.held ++ bytes)) answer (challenge_is_later is) answers)

      go : (after ≡ before) ⊎ ((turn ≡ turns.Challenge)
          × ((before ≤ after) × (after ≤ before + (begun.0.0.limits.max_iterations + 4))))
          → ((after ≡ before) × Open most next) ⊎ ((before ≤ after) × (after ≤ before + (most + 4)) × Done next)
      go (inl same) = unspent begun same
      go (inr (is, (least, bound))) =
          inr (least, subst (λ (n : ℕ). after ≤ before + (n + 4)) begun.0.2 bound, ends is)

  rested : (side.progress ≡ InProgress → ⊥) → Done next
  rested ends =
      let still = rests (ClientSideAnswers hostname) side.progress side next bytes nonce sent taken ends receives in
      inl (λ wants. ends (ap (λ (s : Side Profile). s.progress) (sym still) ∙ wants))

  answered_next : (turn : FrameKind) → (turn ≡ turns.Mechanisms → ⊥) → side.expected ≡ Frame turn
      → IsLate side.expected side.state → Done next
  answered_next turn other expected late =
      go (leaves (ClientSideAnswers hostname) side.progress side next bytes nonce sent taken receives)
    where
      go : Left (ClientSideAnswers hostname) side bytes nonce next → Done next
      go (inl waits) = inr
          (subst (λ (d : Expected). IsLate d next.state) (sym waits.1)
          (subst (λ (p : Profile). IsLate side.expected p) (sym waits.2) late))
      go (inr (inl closed)) = inl closed.0
      go (inr (inr whole)) = behind whole.0 whole.3 whole.4
          (later_answer hostname turn side.state next.state nonce whole.1 whole.0 other
          (subst (λ (d : Expected). ClientSideAnswers hostname d side.state nonce whole.1 whole.0 next.state) expected whole.2))

  late_next : IsLate side.expected side.state → Done next
  late_next (inl expected) = answered_next turns.Outcome (λ turn. cc) expected (inl expected)
  late_next (inr (expected, past)) =
      answered_next turns.SignatureChallenge (λ turn. cc) expected (inr (expected, past))

  done_step : Done side → ClientCosts side bytes nonce before after → (after ≡ before) × Done next
  done_step (inl ends) (inl same) = (same, rested ends)
  done_step (inl ends) (inr (turn, body, completes, costs)) = absurd (ends completes.0)
  done_step (inr late) costs = (late_tries side bytes nonce before after late costs, late_next late)

pub clients_cost : ClientsCost
clients_cost hostname client limit calls stream before after made =
    open_calls (ClientSideAnswers hostname) ClientCosts (client.limits.max_iterations + 4) (Open client.limits.max_iterations)
    Done (λ side next bytes nonce sent taken before after begun receives costs.
    open_step hostname client.limits.max_iterations side next bytes nonce sent taken before after receives begun costs)
    (λ side next bytes nonce sent taken before after done receives costs.
    done_step hostname client.limits.max_iterations side next bytes nonce sent taken before after receives done costs)
    calls (fresh limit (ScramProfile client)) stream before after ((client, refl, refl), tt) made

-- a call costs that many at most, also one that runs out of memory
open_tries : (most : ℕ) (side : Side Profile) (bytes nonce : List ℕ) (before after : ℕ) → Open most side
    → ClientCosts side bytes nonce before after → (before ≤ after) × (after ≤ before + (most + 4))
open_tries most side bytes nonce before after begun (inl same) = none before after (most + 4) same
open_tries most side bytes nonce before after begun (inr (turn, body, completes, inl same)) =
    none before after (most + 4) same
open_tries most side bytes nonce before after begun
    (inr (turn, body, completes, inr (frame, reply, spells, in_turn, costs))) =
    go (turn_costs turn begun.0.0 frame reply before after (subst IsEarly completes.1 begun.1) in_turn
    (subst (λ (p : Profile). ProfileCosts frame p reply before after) begun.0.1
    (costs_over side.state (record { body = body; nonce = nonce }) frame reply before after spells costs)))
  where
    go : (after ≡ before) ⊎ ((turn ≡ turns.Challenge)
        × ((before ≤ after) × (after ≤ before + (begun.0.0.limits.max_iterations + 4))))
        → (before ≤ after) × (after ≤ before + (most + 4))
    go (inl same) = none before after (most + 4) same
    go (inr (is, (least, bound))) = (least, subst (λ (n : ℕ). after ≤ before + (n + 4)) begun.0.2 bound)

done_tries : (side : Side Profile) (bytes nonce : List ℕ) (before after : ℕ) → Done side
    → ClientCosts side bytes nonce before after → after ≡ before
done_tries side bytes nonce before after (inl ends) (inl same) = same
done_tries side bytes nonce before after (inl ends) (inr (turn, body, completes, costs)) = absurd (ends completes.0)
done_tries side bytes nonce before after (inr late) costs = late_tries side bytes nonce before after late costs

pub clients_retry : ClientsRetry
clients_retry hostname client limit calls stream failed before after made =
    open_retried (ClientSideAnswers hostname) ClientCosts (client.limits.max_iterations + 4)
    (Open client.limits.max_iterations) Done (λ side next bytes nonce sent taken before after begun receives costs.
    open_step hostname client.limits.max_iterations side next bytes nonce sent taken before after receives begun costs)
    (λ side next bytes nonce sent taken before after done receives costs.
    done_step hostname client.limits.max_iterations side next bytes nonce sent taken before after receives done costs)
    (open_tries client.limits.max_iterations) done_tries
    calls (fresh limit (ScramProfile client)) stream failed before after ((client, refl, refl), tt) made
