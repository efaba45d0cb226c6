-- The client's side of a connection (AMQP 1.0, part 5, section 5.3.2).
use Rattle.std.specs.Prelude.{◌≡◌, ◌≢◌, ◌⊎◌, ℕ, Bool, true, Option, List, [], drop, Result, Ok}
use Rattle.fe2o3_sasl_wire.specs.declared.amqp_types.SaslCode.TheVariants as outcomes
use Rattle.fe2o3_sasl_wire.specs.declared.sasl_frames.error.Error.{Error}
use Rattle.fe2o3_sasl_wire.specs.SaslFrames.{SaslFrame}
use Rattle.fe2o3_sasl_core.specs.Bodies.{SpellsBody}
use Rattle.fe2o3_sasl_core.specs.Costs.{ProfileStepCosts}
use Rattle.fe2o3_sasl_core.specs.Events.{Given, ClientSays, Started, Answered, Reported, Refused as ClientRefused}
use Rattle.fe2o3_sasl_core.specs.Profiles.{Profile, accepts_signature_by_challenge}
use Rattle.fe2o3_sasl_core.specs.Runs.{ProfileSteps}
use Rattle.fe2o3_sasl_core.specs.declared.events.ClientReply.{ClientReply}
use Rattle.fe2o3_sasl_core.specs.declared.sasl_profile.error.ProfileError.{ProfileError}
use Rattle.fe2o3_sasl_negotiation.specs.declared.progress.CloseReason.TheVariants.{ProtocolHeaderMismatch, UnexpectedFrame, Refused, Mechanism as ProfileRefused}
use Rattle.fe2o3_sasl_negotiation.specs.declared.progress.Expected.{Expected}
use Rattle.fe2o3_sasl_negotiation.specs.declared.progress.Expected.TheVariants.{Header, Frame}
use Rattle.fe2o3_sasl_negotiation.specs.declared.progress.FrameKind.{FrameKind}
use Rattle.fe2o3_sasl_negotiation.specs.declared.progress.FrameKind.TheVariants as turns
use Rattle.fe2o3_sasl_negotiation.specs.declared.progress.Progress.TheVariants.{InProgress, Authenticated}
use Rattle.fe2o3_sasl_negotiation.specs.Framing.{sasl_header}
use Rattle.fe2o3_sasl_negotiation.specs.Negotiations.{Side, SideOutput, closes, Sends, IsInTurn, AnswersTo, Receiving, Receives, Completes}
use Rattle.fe2o3_sasl_core.specs.declared.sasl_profile.error.ProfileError.TheVariants.{OutOfMemory}

-- what a client answers to a header: it waits after the one of SASL, and closes after another
abbrev pub ClientOpens : List ℕ → SideOutput → Type 0
ClientOpens header answer =
    ((header ≢ sasl_header) × (answer ≡ closes (ProtocolHeaderMismatch header) Header))
    ⊎ ((header ≡ sasl_header) × (answer ≡ record { sent = []; progress = InProgress; expected = Frame turns.Mechanisms }))

-- the frame that is expected after a client's answer to one of this turn, by whether it accepts the server's signature in
-- a challenge: after its init a challenge, after its response that signature, or only an outcome, and then an outcome
abbrev pub client_follows : Bool → FrameKind → FrameKind
client_follows signs turns.Mechanisms = turns.Challenge
client_follows true turns.Challenge = turns.SignatureChallenge
client_follows signs turn = turns.Outcome

-- what a client sends for its profile's reply: an init to a list of mechanisms, a response to a challenge, and nothing
-- after an outcome or an error, which end the negotiation
abbrev pub ClientOutputs : Bool → ClientSays → FrameKind → SideOutput → Type 0
ClientOutputs signs (Started body) turns.Mechanisms answer =
    Sends body InProgress (Frame (client_follows signs turns.Mechanisms)) answer
ClientOutputs signs (Started body) turn answer = answer ≡ closes UnexpectedFrame (Frame turn)
ClientOutputs signs (Answered body) turns.Challenge answer =
    Sends body InProgress (Frame (client_follows signs turns.Challenge)) answer
ClientOutputs signs (Answered body) turns.SignatureChallenge answer =
    Sends body InProgress (Frame (client_follows signs turns.SignatureChallenge)) answer
ClientOutputs signs (Answered body) turn answer = answer ≡ closes UnexpectedFrame (Frame turn)
ClientOutputs signs (Reported outcomes.Ok more) turn answer =
    answer ≡ record { sent = []; progress = Authenticated; expected = Frame turn }
ClientOutputs signs (Reported code more) turn answer = answer ≡ closes (Refused code) (Frame turn)
ClientOutputs signs (ClientRefused OutOfMemory) turn answer = ⊥
ClientOutputs signs (ClientRefused fault) turn answer = answer ≡ closes (ProfileRefused fault) (Frame turn)

-- a client asks its profile, by a step over the body
abbrev pub AsksProfile : Option (List ℕ) → FrameKind → Profile → Given → SideOutput → Profile → Type 0
AsksProfile hostname turn profile event answer next = (says : ClientSays)
    × ProfileSteps hostname profile event says next
    × ClientOutputs (accepts_signature_by_challenge profile) says turn answer

-- what a client answers to the body of a frame
abbrev pub ClientReplies : Option (List ℕ) → FrameKind → Profile → Given → SideOutput → Profile → Type 0
ClientReplies hostname turn profile event answer next = (spelled : Result SaslFrame Error) × SpellsBody event.body spelled
    × AnswersTo (AsksProfile hostname turn profile event) turn profile spelled answer next

-- what a client answers to a unit
abbrev pub ClientSideAnswers : Option (List ℕ) → Expected → Profile → List ℕ → List ℕ → SideOutput → Profile → Type 0
ClientSideAnswers hostname Header profile nonce unit answer next = ClientOpens unit answer × (next ≡ profile)
ClientSideAnswers hostname (Frame turn) profile nonce unit answer next =
    ClientReplies hostname turn profile (record { body = drop 4 unit; nonce = nonce }) answer next

-- what a client's call does with the bytes that it is passed
abbrev pub ClientReceives : Option (List ℕ) → Receiving Profile
ClientReceives hostname = Receives (ClientSideAnswers hostname)

-- the HMAC values of a client's answer to a body: none, or those of the profile's step over a body in turn
abbrev pub ClientReplyCosts : FrameKind → Profile → Given → ℕ → ℕ → Type 0
ClientReplyCosts turn profile event before after = (after ≡ before)
    ⊎ ((frame : SaslFrame) × (reply : Result ClientReply ProfileError) × SpellsBody event.body (Ok frame)
    × IsInTurn turn frame × ProfileStepCosts profile event reply before after)

-- the HMAC values of a client's call: none, or those of the answer to a body that it completes
abbrev pub ClientCosts : Side Profile → List ℕ → List ℕ → ℕ → ℕ → Type 0
ClientCosts side bytes nonce before after = (after ≡ before)
    ⊎ ((turn : FrameKind) × (body : List ℕ) × Completes side bytes turn body
    × ClientReplyCosts turn side.state (record { body = body; nonce = nonce }) before after)
