-- What a server answers.
use Rattle.std.proofs.Common.{◌≡◌, ℕ, Option, Some, List, ◌++◌, drop, refl, sym, ap, ◌∙◌, subst, inl, inr, append_assoc, Result, Ok, Err, IfOk}
use Rattle.fe2o3_sasl_wire.specs.declared.sasl_frames.error.Error.{Error}
use Rattle.fe2o3_sasl_wire.specs.SaslFrames.{SaslFrame}
use Rattle.fe2o3_sasl_core.specs.Costs.{AcceptorStepCosts}
use Rattle.fe2o3_sasl_core.specs.Events.{Given, ServerSays, Failed}
use Rattle.fe2o3_sasl_core.specs.Runs.{AcceptorSteps}
use Rattle.fe2o3_sasl_negotiation.specs.declared.framing.Step.{Step}
use Rattle.fe2o3_sasl_negotiation.specs.declared.progress.CloseReason.{CloseReason}
use Rattle.fe2o3_sasl_negotiation.specs.declared.progress.Expected.TheVariants.{Frame}
use Rattle.fe2o3_sasl_negotiation.specs.declared.progress.Progress.TheVariants.{InProgress}
use Rattle.fe2o3_sasl_negotiation.specs.declared.progress.FrameKind.{FrameKind}
use Rattle.fe2o3_sasl_negotiation.specs.declared.progress.FrameKind.TheVariants as turns
use Rattle.fe2o3_sasl_negotiation.specs.Framing.{sasl_header}
use Rattle.fe2o3_sasl_negotiation.specs.Negotiations.{Side, closes, Sends}
use Rattle.fe2o3_sasl_negotiation.specs.ServerNegotiation.{offer_body, ServerOpens, Offers, ServerOutputs, ServerReplies, ServerReplyCosts, ServerCosts}
use Rattle.fe2o3_sasl_negotiation.specs.private.Units.{Appends, CompletesUnit, ReadsExpected}
use Rattle.fe2o3_sasl_negotiation.specs.Connections.{SpellsTurn}
use Rattle.fe2o3_sasl_negotiation.proofs.lemmas.ReceivingLemmas.{completes_body}

-- after its header it sends what it offers
pub opened : (names : List (List ℕ)) (header out mid new : List ℕ) (step : Step) → header ≡ sasl_header
    → mid ≡ out ++ sasl_header → Appends (Offers (offer_body names)) mid new step
    → Appends (ServerOpens names header) out new step
opened names header out mid new step is opens (sent, appended, offers) = (
  sasl_header ++ sent,
  appended ∙ (ap (λ l. l ++ sent) opens ∙ append_assoc out sasl_header sent),
  inr (is, (record { sent = sent; progress = step.progress; expected = step.expected }, offers, refl)),
)

-- and that is the body of its mechanisms
pub offered : (names : List (List ℕ)) (body mid new : List ℕ) (step : Step) → Some body ≡ offer_body names
    → Appends (Sends body InProgress (Frame turns.Init)) mid new step → Appends (Offers (offer_body names)) mid new step
offered names body mid new step is sends =
    subst (λ (o : Option (List ℕ)). Appends (Offers o) mid new step) is sends

-- what closes before the acceptor is asked
pub screened : {S : Type 0} (machine : S → List ℕ → SaslFrame → SaslFrame → S → Type 0) (turn : FrameKind) (state : S)
    (event : Given) (why : CloseReason) → ReadsExpected turn event.body (Err why)
    → ServerReplies machine turn state event (closes why (Frame turn)) state
screened machine turn state event why (inl (fault, spells, is)) =
    (Err fault, spells, (ap (λ (w : CloseReason). closes w (Frame turn)) is, refl))
screened machine turn state event why (inr (frame, spells, out, is)) =
    (Ok frame, spells, inl (out, ap (λ (w : CloseReason). closes w (Frame turn)) is, refl))

-- what the acceptor says
pub asked : {S : Type 0} (machine : S → List ℕ → SaslFrame → SaslFrame → S → Type 0) (turn : FrameKind) (state next : S)
    (event : Given) (says : ServerSays) (old new : List ℕ) (step : Step) → SpellsTurn turn event.body
    → AcceptorSteps machine state event says next → Appends (ServerOutputs says turn) old new step
    → Appends (λ answer. ServerReplies machine turn state event answer next) old new step
asked machine turn state next event says old new step (frame, spells, in_turn) steps (sent, appended, holds) =
    (sent, appended, (Ok frame, spells, inr (in_turn, (says, steps, holds))))

-- and a fault of its step
pub asked_in_vain : {S E : Type 0} (machine : S → List ℕ → SaslFrame → SaslFrame → S → Type 0) (turn : FrameKind)
    (state next : S) (event : Given) (fault : Error) (old : List ℕ) (result : Result Step E)
    → SpellsTurn turn event.body → AcceptorSteps machine state event (Failed fault) next
    → IfOk result (λ step. (out : List ℕ) → Appends (ServerOutputs (Failed fault) turn) out out step)
    → IfOk result (λ step. Appends (λ answer. ServerReplies machine turn state event answer next) old old step)
asked_in_vain machine turn state next event fault old (Ok step) screens steps says =
    asked machine turn state next event (Failed fault) old old step screens steps (says old)
asked_in_vain machine turn state next event fault old (Err failed) screens steps says = tt

-- what the acceptor's step costs
pub asked_costs : {S : Type 0} (hmacs : S → SaslFrame → ℕ → Type 0) (turn : FrameKind) (state : S) (event : Given)
    (before after : ℕ) → SpellsTurn turn event.body → AcceptorStepCosts hmacs state event before after
    → ServerReplyCosts hmacs turn state event before after
asked_costs hmacs turn state event before after (frame, spells, in_turn) costs = inr (frame, spells, in_turn, costs)

-- what an answer to a frame costs, the call costs that completes it
pub unit_costs : {S : Type 0} (hmacs : S → SaslFrame → ℕ → Type 0) (side : Side S) (bytes nonce : List ℕ) (turn : FrameKind)
    (unit : List ℕ) (state : S) (before after : ℕ) → CompletesUnit side bytes (Frame turn) unit → side.state ≡ state
    → ServerReplyCosts hmacs turn state (record { body = drop 4 unit; nonce = nonce }) before after
    → ServerCosts hmacs side bytes nonce before after
unit_costs hmacs side bytes nonce turn unit state before after completes same costs =
    inr (
      turn,
      drop 4 unit,
      completes_body side bytes turn unit completes,
      subst (λ (s : _). ServerReplyCosts hmacs turn s (record { body = drop 4 unit; nonce = nonce }) before after) (sym same)
          costs,
    )
