-- A side of a connection that is kept in a struct of C between its calls (AMQP 1.0, part 5, section 5.3.2).
use Rattle.std.specs.Prelude.{◌≡◌, ◌≢◌, ◌≤◌, ℕ, List, [], ◌∷◌, length, take, replicate, nat_eq, Bool, IsTrue, if◌then◌else◌}
use Rattle.fe2o3_sasl_wire.specs.declared.amqp_types.SaslCode.{SaslCode}
use Rattle.fe2o3_sasl_wire.specs.declared.amqp_types.SaslCode.TheVariants as outcomes
use Rattle.fe2o3_sasl_wire.specs.declared.sasl_frames.error.Error.{Error}
use Rattle.fe2o3_sasl_wire.specs.declared.sasl_frames.error.Error.TheVariants as faults
use Rattle.fe2o3_scram.specs.declared.scram_messages.error.ScramErrorKind.TheVariants as kinds
use Rattle.fe2o3_scram.specs.Hmac.{zero_filled}
use Rattle.fe2o3_sasl_core.specs.declared.sasl_profile.error.ProfileError.{ProfileError}
use Rattle.fe2o3_sasl_core.specs.declared.sasl_profile.error.ProfileError.TheVariants as profile
use Rattle.fe2o3_sasl_negotiation.specs.declared.progress.CloseReason.{CloseReason}
use Rattle.fe2o3_sasl_negotiation.specs.declared.progress.CloseReason.TheVariants as closed
use Rattle.fe2o3_sasl_negotiation.specs.declared.progress.Expected.{Expected}
use Rattle.fe2o3_sasl_negotiation.specs.declared.progress.Expected.TheVariants.{Header, Frame}
use Rattle.fe2o3_sasl_negotiation.specs.declared.progress.Progress.{Progress}
use Rattle.fe2o3_sasl_negotiation.specs.declared.progress.Progress.TheVariants.{InProgress, Authenticated, Failed}
use Rattle.fe2o3_sasl_negotiation.specs.declared.progress.FrameKind.TheVariants as turns
use Rattle.fe2o3_sasl_negotiation.specs.Framing.{IsPart}
use Rattle.fe2o3_sasl_negotiation.specs.Negotiations.{Side}
use Rattle.sasl_c.specs.declared.connection.Connection.{Connection as Struct}
use Rattle.sasl_c.specs.declared.status.Status.{Status}
use Rattle.sasl_c.specs.declared.status.Status.TheVariants as statuses
use Rattle.sasl_c.specs.Client.{flag_number, is_set}
use Rattle.sasl_c.specs.Status.{client_status, status_number}

-- the number of what is expected
abbrev pub expected_number : Expected → ℕ
expected_number Header = 0
expected_number (Frame turns.Mechanisms) = 1
expected_number (Frame turns.Init) = 2
expected_number (Frame turns.Challenge) = 3
expected_number (Frame turns.Response) = 4
expected_number (Frame turns.Outcome) = 5
expected_number (Frame turns.SignatureChallenge) = 6

-- why a frame is not read or not written
abbrev pub frame_status : Error → Status
frame_status faults.DecodeError = statuses.MalformedFrame
frame_status faults.NotImplemented = statuses.NoSaslFrame
frame_status faults.TooLarge = statuses.FrameTooLarge
frame_status faults.OutOfMemory = statuses.OutOfMemory

-- the code of an outcome that ends a login; Ok ends none (part 5, section 5.3.3.6)
abbrev pub code_status : SaslCode → Status
code_status outcomes.Ok = statuses.RefusedSys
code_status outcomes.Auth = statuses.RefusedAuth
code_status outcomes.Sys = statuses.RefusedSys
code_status outcomes.SysPerm = statuses.RefusedSysPerm
code_status outcomes.SysTemp = statuses.RefusedSysTemp

-- why a profile rejects what a server sent
abbrev pub profile_status : ProfileError → Status
profile_status profile.NotImplemented = statuses.NotImplemented
profile_status (profile.Scram kind) = client_status kind
profile_status profile.StaleKeys = statuses.Client kinds.StaleKeys
profile_status (profile.Frame fault) = frame_status fault
profile_status profile.OutOfMemory = statuses.OutOfMemory

-- why a connection is to be closed
abbrev pub closed_status : CloseReason → Status
closed_status (closed.ProtocolHeaderMismatch received) = statuses.ProtocolHeaderMismatch
closed_status closed.FrameSize = statuses.FrameSize
closed_status (closed.MalformedFrame fault) = frame_status fault
closed_status closed.UnexpectedFrame = statuses.UnexpectedFrame
closed_status closed.ReplyTooLarge = statuses.ReplyTooLarge
closed_status (closed.Refused code) = code_status code
closed_status (closed.Mechanism fault) = profile_status fault
closed_status closed.EndOfInput = statuses.EndOfInput

-- the number of a progress, and the status of why it is closed
abbrev pub progress_code : Progress → ℕ
progress_code InProgress = 0
progress_code Authenticated = 1
progress_code (Failed why) = 2

abbrev pub why_code : Progress → ℕ
why_code InProgress = 0
why_code Authenticated = 0
why_code (Failed why) = status_number (closed_status why)

-- the bytes that the struct of a side holds: the eight bytes that were received in the place of the header of SASL,
-- after the side has failed for them (part 5, section 5.3.2), and otherwise what has arrived of the expected unit
abbrev pub kept_bytes : Progress → List ℕ → List ℕ
kept_bytes InProgress held = held
kept_bytes Authenticated held = held
kept_bytes (Failed (closed.ProtocolHeaderMismatch received)) held = received
kept_bytes (Failed why) held = held

-- whether the side of a struct accepts frames with an extended header (part 2, section 2.3.1)
abbrev pub accepts_extended : Struct → Bool
accepts_extended kept = is_set kept.extended_headers

-- the struct that a call writes for a side, by whether it accepts extended headers: zeros after the bytes that are held
abbrev pub connection_struct : Bool → Progress → Expected → List ℕ → Struct
connection_struct accepts progress expected held = record {
  progress = progress_code progress;
  why = why_code progress;
  expected = expected_number expected;
  held_len = length (kept_bytes progress held);
  held = zero_filled 512 (kept_bytes progress held);
  extended_headers = flag_number accepts;
}

-- the struct has this progress of a side
abbrev pub SaysProgress : Struct → Progress → Type 0
SaysProgress kept InProgress = kept.progress ≡ 0
SaysProgress kept Authenticated = kept.progress ≡ 1
SaysProgress kept (Failed why) = (kept.progress ≡ 2) × (kept.why ≡ status_number (closed_status why))

-- the struct keeps the progress of a side, what is expected, and the bytes of it that were received
pub record Keeps (kept : Struct) (stands : Progress) (unit : Expected) (come : List ℕ) : Type 0 where
  pub progress : SaysProgress kept stands
  pub expected : expected_number unit ≡ kept.expected
  pub len : kept.held_len ≤ 512
  pub held : kept_bytes stands come ≡ take kept.held_len kept.held

-- the struct after the other side has ended its stream: a login in progress has failed, and its struct holds no bytes
abbrev pub with_end_of_input : Struct → Struct
with_end_of_input kept = if nat_eq kept.progress 0 then record kept {
  progress = 2;
  why = status_number statuses.EndOfInput;
  held_len = 0;
  held = replicate 512 0;
} else kept

-- the struct is that of this side, whose frames have 512 bytes at most (part 5, section 5.3.1)
abbrev pub IsSideOf : {S : Type 0} → Struct → Side S → Type 0
IsSideOf kept side = Keeps kept side.progress side.expected side.held × (side.limit ≡ 512)

-- the tests of a struct before it is that of a side that expects more bytes, in their order: it has not ended, and its
-- numbers keep something
abbrev pub side_tests : Struct → List (Status × Type 0)
side_tests kept = (statuses.Ended, kept.progress ≢ 0)
    ∷ (statuses.InvalidSnapshot, (expected : Expected) (held : List ℕ) → ¬ Keeps kept InProgress expected held) ∷ []

-- no side keeps what the struct does: all that is expected was received, or a size that no frame may have
abbrev pub KeepsNoPart : Struct → Type 0
KeepsNoPart kept = (expected : Expected) (held : List ℕ) → Keeps kept InProgress expected held → ¬ IsPart expected 512 held

-- or it is never expected to that side
abbrev pub KeepsNoPartOf : (Expected → Bool) → Struct → Type 0
KeepsNoPartOf is_expected kept = (expected : Expected) (held : List ℕ) → Keeps kept InProgress expected held
    → IsTrue (is_expected expected) → ¬ IsPart expected 512 held
