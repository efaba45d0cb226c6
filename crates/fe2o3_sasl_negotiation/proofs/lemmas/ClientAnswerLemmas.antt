-- What a client answers.
use Rattle.std.proofs.Common.{◌≡◌, ℕ, Bool, Option, List, drop, refl, sym, ap, subst, inl, inr, Result, Ok, Err, IfOk}
use Rattle.fe2o3_sasl_core.specs.Costs.{ProfileStepCosts}
use Rattle.fe2o3_sasl_core.specs.Events.{Given, ClientSays, Refused}
use Rattle.fe2o3_sasl_core.specs.Profiles.{Profile, accepts_signature_by_challenge}
use Rattle.fe2o3_sasl_core.specs.Runs.{ProfileSteps}
use Rattle.fe2o3_sasl_core.specs.declared.events.ClientReply.{ClientReply}
use Rattle.fe2o3_sasl_core.specs.declared.sasl_profile.error.ProfileError.{ProfileError}
use Rattle.fe2o3_sasl_negotiation.specs.declared.framing.Step.{Step}
use Rattle.fe2o3_sasl_negotiation.specs.declared.progress.CloseReason.{CloseReason}
use Rattle.fe2o3_sasl_negotiation.specs.declared.progress.Expected.TheVariants.{Frame}
use Rattle.fe2o3_sasl_negotiation.specs.declared.progress.FrameKind.{FrameKind}
use Rattle.fe2o3_sasl_negotiation.specs.Negotiations.{Side, closes}
use Rattle.fe2o3_sasl_negotiation.specs.ClientNegotiation.{ClientOutputs, ClientReplies, ClientReplyCosts, ClientCosts}
use Rattle.fe2o3_sasl_negotiation.specs.private.Units.{Appends, CompletesUnit, ReadsExpected}
use Rattle.fe2o3_sasl_negotiation.specs.Connections.{SpellsTurn}
use Rattle.fe2o3_sasl_negotiation.proofs.lemmas.ReceivingLemmas.{completes_body}

-- what closes before the profile is asked
pub screened : (hostname : Option (List ℕ)) (turn : FrameKind) (state : Profile)
    (event : Given) (why : CloseReason) → ReadsExpected turn event.body (Err why)
    → ClientReplies hostname turn state event (closes why (Frame turn)) state
screened hostname turn state event why (inl (fault, spells, is)) =
    (Err fault, spells, (ap (λ (w : CloseReason). closes w (Frame turn)) is, refl))
screened hostname turn state event why (inr (frame, spells, out, is)) =
    (Ok frame, spells, inl (out, ap (λ (w : CloseReason). closes w (Frame turn)) is, refl))

-- what the profile says
pub asked : (hostname : Option (List ℕ)) (turn : FrameKind) (state next : Profile)
    (event : Given) (says : ClientSays) (old new : List ℕ) (step : Step) → SpellsTurn turn event.body
    → ProfileSteps hostname state event says next
    → Appends (ClientOutputs (accepts_signature_by_challenge state) says turn) old new step
    → Appends (λ answer. ClientReplies hostname turn state event answer next) old new step
asked hostname turn state next event says old new step (frame, spells, in_turn) steps (sent, appended, holds) =
    (sent, appended, (Ok frame, spells, inr (in_turn, (says, steps, holds))))

-- and what it rejects
pub asked_in_vain : {E : Type 0} (hostname : Option (List ℕ)) (turn : FrameKind)
    (state next : Profile) (event : Given) (fault : ProfileError) (old : List ℕ) (result : Result Step E)
    → SpellsTurn turn event.body → ProfileSteps hostname state event (Refused fault) next
    → IfOk result (λ step. (out : List ℕ) (signs : Bool)
    → Appends (ClientOutputs signs (Refused fault) turn) out out step)
    → IfOk result (λ step. Appends (λ answer. ClientReplies hostname turn state event answer next) old old step)
asked_in_vain hostname turn state next event fault old (Ok step) screens steps says =
    asked hostname turn state next event (Refused fault) old old step screens steps
    (says old (accepts_signature_by_challenge state))
asked_in_vain hostname turn state next event fault old (Err failed) screens steps says = tt

-- what the profile's step costs
pub asked_costs : (turn : FrameKind) (state : Profile) (event : Given)
    (reply : Result ClientReply ProfileError) (before after : ℕ) → SpellsTurn turn event.body
    → ProfileStepCosts state event reply before after
    → ClientReplyCosts turn state event before after
asked_costs turn state event reply before after (frame, spells, in_turn) costs =
    inr (frame, reply, spells, in_turn, costs)

-- what an answer to a frame costs, the call costs that completes it
pub unit_costs : (side : Side Profile) (bytes nonce : List ℕ) (turn : FrameKind) (unit : List ℕ) (state : Profile)
    (before after : ℕ) → CompletesUnit side bytes (Frame turn) unit → side.state ≡ state
    → ClientReplyCosts turn state (record { body = drop 4 unit; nonce = nonce }) before after
    → ClientCosts side bytes nonce before after
unit_costs side bytes nonce turn unit state before after completes same costs =
    inr (
      turn,
      drop 4 unit,
      completes_body side bytes turn unit completes,
      subst (λ (s : Profile). ClientReplyCosts turn s (record { body = drop 4 unit; nonce = nonce }) before after) (sym same)
          costs,
    )
