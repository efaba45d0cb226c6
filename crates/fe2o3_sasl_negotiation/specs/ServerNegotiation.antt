-- The server's side of a connection (AMQP 1.0, part 5, section 5.3.2).
use Rattle.std.specs.Prelude.{◌≡◌, ◌≢◌, ◌⊎◌, ℕ, Option, Some, None, List, ◌++◌, drop, Result, Ok}
use Rattle.fe2o3_sasl_wire.specs.declared.amqp_types.SaslCode.TheVariants as outcomes
use Rattle.fe2o3_sasl_wire.specs.declared.sasl_frames.error.Error.{Error}
use Rattle.fe2o3_sasl_wire.specs.declared.sasl_frames.error.Error.TheVariants as faults
use Rattle.fe2o3_sasl_wire.specs.SaslFrames.{SaslFrame, canonical}
use Rattle.fe2o3_sasl_wire.specs.SaslFrames as frames
use Rattle.fe2o3_sasl_core.specs.Bodies.{SpellsBody}
use Rattle.fe2o3_sasl_core.specs.Costs.{AcceptorStepCosts}
use Rattle.fe2o3_sasl_core.specs.Events.{Given, ServerSays, Challenged, Concluded, Failed}
use Rattle.fe2o3_sasl_core.specs.Runs.{AcceptorSteps}
use Rattle.fe2o3_sasl_core.specs.SaslAcceptor.{offered}
use Rattle.fe2o3_sasl_negotiation.specs.declared.progress.CloseReason.TheVariants.{ProtocolHeaderMismatch, ReplyTooLarge, Refused, MalformedFrame}
use Rattle.fe2o3_sasl_negotiation.specs.declared.progress.Expected.{Expected}
use Rattle.fe2o3_sasl_negotiation.specs.declared.progress.Expected.TheVariants.{Header, Frame}
use Rattle.fe2o3_sasl_negotiation.specs.declared.progress.FrameKind.{FrameKind}
use Rattle.fe2o3_sasl_negotiation.specs.declared.progress.FrameKind.TheVariants as turns
use Rattle.fe2o3_sasl_negotiation.specs.declared.progress.Progress.TheVariants.{InProgress, Authenticated, Failed as HasFailed}
use Rattle.fe2o3_sasl_negotiation.specs.Framing.{sasl_header}
use Rattle.fe2o3_sasl_negotiation.specs.Negotiations.{Side, SideOutput, closes, Sends, IsInTurn, AnswersTo, Receiving, Receives, Completes}

-- the body of the list of mechanisms, if it has one (part 5, section 5.3.3.1)
abbrev pub offer_body : List (List ℕ) → Option (List ℕ)
offer_body names = canonical (frames.Mechanisms (offered names))

-- a server offers its mechanisms in a frame, or closes if they fit in none
abbrev pub Offers : Option (List ℕ) → SideOutput → Type 0
Offers (Some body) answer = Sends body InProgress (Frame turns.Init) answer
Offers None answer = answer ≡ closes ReplyTooLarge Header

-- an answer of a server, with its header sent before it
abbrev pub behind_header : SideOutput → SideOutput
behind_header answer = record answer { sent = sasl_header ++ answer.sent }

-- what a server answers to a header: to that of SASL its own and its mechanisms, to another its own
abbrev pub ServerOpens : List (List ℕ) → List ℕ → SideOutput → Type 0
ServerOpens names header answer =
    ((header ≢ sasl_header) × (answer ≡ behind_header (closes (ProtocolHeaderMismatch header) Header)))
    ⊎ ((header ≡ sasl_header) × ((first : SideOutput) × Offers (offer_body names) first × (answer ≡ behind_header first)))

-- the frame that a server expects after its answer to one of this turn: a response, in any number (RFC 4422, section 5)
abbrev pub server_follows : FrameKind → FrameKind
server_follows turn = turns.Response

-- what a server sends for its acceptor's reply: a challenge, or an outcome, which ends the negotiation
abbrev pub ServerOutputs : ServerSays → FrameKind → SideOutput → Type 0
ServerOutputs (Challenged body) turn answer = Sends body InProgress (Frame (server_follows turn)) answer
ServerOutputs (Concluded outcomes.Ok body) turn answer = Sends body Authenticated (Frame turn) answer
ServerOutputs (Concluded code body) turn answer = Sends body (HasFailed (Refused code)) (Frame turn) answer
ServerOutputs (Failed faults.OutOfMemory) turn answer = ⊥
ServerOutputs (Failed fault) turn answer = answer ≡ closes (MalformedFrame fault) (Frame turn)

-- a server asks its acceptor, by a step over the body
abbrev pub AsksAcceptor : {S : Type 0} → (S → List ℕ → SaslFrame → SaslFrame → S → Type 0) → FrameKind → S → Given
    → SideOutput → S → Type 0
AsksAcceptor machine turn state event answer next =
    (says : ServerSays) × AcceptorSteps machine state event says next × ServerOutputs says turn answer

-- what a server answers to the body of a frame
abbrev pub ServerReplies : {S : Type 0} → (S → List ℕ → SaslFrame → SaslFrame → S → Type 0) → FrameKind → S
    → Given → SideOutput → S → Type 0
ServerReplies machine turn state event answer next = (spelled : Result SaslFrame Error) × SpellsBody event.body spelled
    × AnswersTo (AsksAcceptor machine turn state event) turn state spelled answer next

-- what a server with these names and this machine answers to a unit
abbrev pub ServerSideAnswers : {S : Type 0} → (S → List (List ℕ)) → (S → List ℕ → SaslFrame → SaslFrame → S → Type 0) → Expected
    → S → List ℕ → List ℕ → SideOutput → S → Type 0
ServerSideAnswers names machine Header state nonce unit answer next = ServerOpens (names state) unit answer × (next ≡ state)
ServerSideAnswers names machine (Frame turn) state nonce unit answer next =
    ServerReplies machine turn state (record { body = drop 4 unit; nonce = nonce }) answer next

-- what a server's call does with the bytes that it is passed
abbrev pub ServerReceives : {S : Type 0} → (S → List (List ℕ)) → (S → List ℕ → SaslFrame → SaslFrame → S → Type 0)
    → Receiving S
ServerReceives names machine = Receives (ServerSideAnswers names machine)

-- the HMAC values of a server's answer to a body: none, or those of the acceptor's step over a body in turn
abbrev pub ServerReplyCosts : {S : Type 0} → (S → SaslFrame → ℕ → Type 0) → FrameKind → S → Given → ℕ → ℕ → Type 0
ServerReplyCosts hmacs turn state event before after = (after ≡ before)
    ⊎ ((frame : SaslFrame) × SpellsBody event.body (Ok frame) × IsInTurn turn frame
    × AcceptorStepCosts hmacs state event before after)

-- the HMAC values of a server's call: none, or those of the answer to a body that it completes
abbrev pub ServerCosts : {S : Type 0} → (S → SaslFrame → ℕ → Type 0) → Side S → List ℕ → List ℕ → ℕ → ℕ → Type 0
ServerCosts hmacs side bytes nonce before after = (after ≡ before)
    ⊎ ((turn : FrameKind) × (body : List ℕ) × Completes side bytes turn body
    × ServerReplyCosts hmacs turn side.state (record { body = body; nonce = nonce }) before after)
