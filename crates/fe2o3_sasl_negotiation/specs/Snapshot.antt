-- A side of a connection that is saved as plain values, and restored.
use Rattle.std.specs.Prelude.{◌≡◌, ◌≢◌, ◌≤◌, ℕ, Bool, true, false, not, Option, None, List, [], IsTrue}
use Rattle.fe2o3_sasl_wire.specs.FrameView.{shown}
use Rattle.fe2o3_sasl_wire.specs.declared.amqp_types.SaslCode.TheVariants as outcomes
use Rattle.fe2o3_sasl_wire.specs.declared.sasl_frames.error.Error.TheVariants as faults
use Rattle.fe2o3_sasl_core.specs.declared.sasl_profile.error.ProfileError.TheVariants as profile_faults
use Rattle.fe2o3_sasl_negotiation.specs.declared.snapshot.Snapshot.{Snapshot}
use Rattle.fe2o3_sasl_negotiation.specs.declared.progress.CloseReason.TheVariants.{EndOfInput, ProtocolHeaderMismatch, MalformedFrame, ReplyTooLarge, Refused, Mechanism as ProfileRefused}
use Rattle.fe2o3_sasl_negotiation.specs.declared.progress.Expected.{Expected}
use Rattle.fe2o3_sasl_negotiation.specs.declared.progress.Expected.TheVariants.{Header, Frame}
use Rattle.fe2o3_sasl_negotiation.specs.declared.progress.Progress.{Progress}
use Rattle.fe2o3_sasl_negotiation.specs.declared.progress.Progress.TheVariants.{InProgress, Authenticated, Failed}
use Rattle.fe2o3_sasl_negotiation.specs.declared.progress.FrameKind.TheVariants as turns
use Rattle.fe2o3_sasl_negotiation.specs.Framing.{is_sasl_header, IsPart}
use Rattle.fe2o3_sasl_negotiation.specs.Negotiations.{Side}

-- a side that waits can have these values: the limit of a frame is kept, and less than the whole expected unit has
-- arrived
abbrev pub IsKept : Snapshot → Type 0
IsKept kept = (kept.limit ≤ 512) × IsPart kept.expected kept.limit kept.held.now

-- a side that has ended holds nothing
abbrev pub EndsEmpty : Snapshot → Type 0
EndsEmpty kept = kept.progress ≢ InProgress → kept.held.now ≡ []

-- a frame is expected by a server: an init or a response (AMQP 1.0, part 5, section 5.3.2)
abbrev pub server_awaits : Expected → Bool
server_awaits (Frame turns.Init) = true
server_awaits (Frame turns.Response) = true
server_awaits expected = false

-- the client's header, or a frame, is expected by a server
abbrev pub server_due : Expected → Bool
server_due Header = true
server_due expected = server_awaits expected

-- a server with this progress can expect this. One that waits, whose answer was too large, or whose client has ended the
-- stream, can expect anything; another header than that of SASL closes it at the header, and every other reason at a
-- frame. No server is closed for memory, by an Ok, or by a profile
abbrev pub server_fits : Progress → Expected → Bool
server_fits InProgress expected = server_due expected
server_fits (Failed ReplyTooLarge) expected = server_due expected
server_fits (Failed EndOfInput) expected = server_due expected
server_fits (Failed (ProtocolHeaderMismatch received)) Header = not (is_sasl_header received)
server_fits (Failed (ProtocolHeaderMismatch received)) (Frame turn) = false
server_fits (Failed (MalformedFrame faults.OutOfMemory)) expected = false
server_fits (Failed (Refused outcomes.Ok)) expected = false
server_fits (Failed (ProfileRefused fault)) expected = false
server_fits other expected = server_awaits expected

-- a frame is expected by a client: the mechanisms, a challenge or an outcome
abbrev pub client_awaits : Expected → Bool
client_awaits (Frame turns.Mechanisms) = true
client_awaits (Frame turns.Challenge) = true
client_awaits (Frame turns.Outcome) = true
client_awaits (Frame turns.SignatureChallenge) = true
client_awaits expected = false

-- the server's header, or a frame, is expected by a client
abbrev pub client_due : Expected → Bool
client_due Header = true
client_due expected = client_awaits expected

-- a frame is expected by a client that has received the mechanisms: a challenge or an outcome
abbrev pub outcome_due : Expected → Bool
outcome_due (Frame turns.Challenge) = true
outcome_due (Frame turns.Outcome) = true
outcome_due (Frame turns.SignatureChallenge) = true
outcome_due expected = false

-- a client with this progress can expect this. One that waits, or whose server has ended the stream, can expect
-- anything; another header than that of SASL closes it at the header; an outcome, and an answer that was too large, end
-- it after the mechanisms, and every other reason at any frame. No client is closed for memory, or by an Ok
abbrev pub client_fits : Progress → Expected → Bool
client_fits InProgress expected = client_due expected
client_fits (Failed EndOfInput) expected = client_due expected
client_fits Authenticated expected = outcome_due expected
client_fits (Failed ReplyTooLarge) expected = outcome_due expected
client_fits (Failed (ProtocolHeaderMismatch received)) Header = not (is_sasl_header received)
client_fits (Failed (ProtocolHeaderMismatch received)) (Frame turn) = false
client_fits (Failed (MalformedFrame faults.OutOfMemory)) expected = false
client_fits (Failed (Refused outcomes.Ok)) expected = false
client_fits (Failed (Refused code)) expected = outcome_due expected
client_fits (Failed (ProfileRefused profile_faults.OutOfMemory)) expected = false
client_fits (Failed why) expected = client_awaits expected

-- these values have no user, and no identity that a user acts for
abbrev pub NamesNone : Snapshot → Type 0
NamesNone kept = (shown kept.user ≡ None) × (shown kept.acts_for ≡ None)

-- only a side that has logged in has a user or an identity
abbrev pub NamesAfterLogin : Snapshot → Type 0
NamesAfterLogin kept = kept.progress ≢ Authenticated → NamesNone kept

-- a server can have these values; the next definition is that of a client, which has no user and no identity
abbrev pub IsServerKept : Snapshot → Type 0
IsServerKept kept = IsKept kept × IsTrue (server_fits kept.progress kept.expected) × EndsEmpty kept × NamesAfterLogin kept

abbrev pub IsClientKept : Snapshot → Type 0
IsClientKept kept = IsKept kept × IsTrue (client_fits kept.progress kept.expected) × EndsEmpty kept × NamesNone kept

-- this user and this identity are those of the values (RFC 4422, section 2). A mechanism without an authenticated user
-- has none (RFC 4505, section 2)
abbrev pub HasSavedNames : Snapshot → Option (List ℕ) → Option (List ℕ) → Type 0
HasSavedNames kept named acting = (named ≡ shown kept.user) × (acting ≡ shown kept.acts_for)

-- a server of these values can have an acceptor that names this user and this identity: if it has logged in, they are
-- those of the values
abbrev pub NamesKeptUser : Snapshot → Option (List ℕ) → Option (List ℕ) → Type 0
NamesKeptUser kept named acting = kept.progress ≡ Authenticated → HasSavedNames kept named acting

-- the side with these values, whose machine is in this state
abbrev pub side_of : {S : Type 0} → Snapshot → S → Side S
side_of kept state = record {
  progress = kept.progress;
  expected = kept.expected;
  limit = kept.limit;
  held = kept.held.now;
  state = state;
}

-- the side with these values, for any machine
abbrev pub side_kept : Snapshot → Side (Unit {0})
side_kept kept = side_of kept tt
