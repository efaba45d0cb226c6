-- What a call from C returns: a number, in which 0 says that it succeeded.
use Rattle.std.specs.Prelude.{◌≡◌, ◌≢◌, ◌<◌, ◌≤◌, ◌++◌, ℕ, List, length, drop, IfErr, Result, Ok, Err}
use Rattle.fe2o3_scram.specs.declared.hmac.ScramVersion.{ScramVersion}
use Rattle.fe2o3_scram.specs.declared.hmac.ScramVersion.TheVariants as versions
use Rattle.fe2o3_scram.specs.declared.keys.RecordError.{RecordError}
use Rattle.fe2o3_scram.specs.declared.keys.RecordError.TheVariants as records
use Rattle.fe2o3_scram.specs.declared.credentials.record_text.RecordTextError.{RecordTextError}
use Rattle.fe2o3_scram.specs.declared.credentials.record_text.RecordTextError.TheVariants as texts
use Rattle.fe2o3_scram.specs.declared.scram_messages.error.ScramErrorKind.{ScramErrorKind}
use Rattle.fe2o3_scram.specs.declared.scram_messages.error.ScramErrorKind.TheVariants as client
use Rattle.fe2o3_scram.specs.declared.scram_messages.error.ServerScramErrorKind.{ServerScramErrorKind}
use Rattle.fe2o3_scram.specs.declared.scram_messages.error.ServerScramErrorKind.TheVariants as server
use Rattle.sasl_c.specs.declared.status.Status.{Status}
use Rattle.sasl_c.specs.declared.status.Status.TheVariants as statuses
use Rattle.sasl_c.specs.declared.status.Status.TheVariants.{OutOfMemory}
use Rattle.sasl_c.specs.declared.status.WriteError.{WriteError}
use Rattle.sasl_c.specs.declared.status.WriteError.TheVariants.{RoomTooSmall, Other}

-- the number of a version: that of its hash, as in the name of its mechanism
abbrev pub version_number : ScramVersion → ℕ
version_number versions.Sha1 = 1
version_number versions.Sha256 = 256
version_number versions.Sha512 = 512

-- the number of an error of a record's text
abbrev pub record_text_number : RecordTextError → ℕ
record_text_number texts.PartsMismatch = 60
record_text_number texts.UnknownMechanism = 61
record_text_number texts.IterationCountParseError = 62
record_text_number texts.Base64DecodeError = 63
record_text_number texts.KeyLengthMismatch = 64
record_text_number texts.OutOfMemory = 1

-- the number of an error of a client
abbrev pub client_number : ScramErrorKind → ℕ
client_number client.Utf8Error = 20
client_number client.InsufficientParts = 21
client_number client.ExtensionNotSupported = 22
client_number client.NonceNotFound = 23
client_number client.ClientNonceMismatch = 24
client_number client.SaltNotFound = 25
client_number client.Base64DecodeError = 26
client_number client.IterationCountNotFound = 27
client_number client.IterationCountParseError = 28
client_number client.IterationCountTooSmall = 29
client_number client.IterationCountTooLarge = 30
client_number client.NormalizeError = 31
client_number client.StaleKeys = 32
client_number client.HmacErrorInvalidLength = 33
client_number client.XorLengthMismatch = 34
client_number client.IllegalClientState = 35
client_number client.ServerSignatureMismatch = 36
client_number client.MisplacedAttribute = 37
client_number client.OutOfMemory = 1

-- the number of an error of a server
abbrev pub server_number : ServerScramErrorKind → ℕ
server_number server.Utf8Error = 40
server_number server.CannotParseGs2Header = 41
server_number server.CannotParseUsername = 42
server_number server.CannotParseClientNonce = 43
server_number server.HmacErrorInvalidLength = 44
server_number server.XorLengthMismatch = 45
server_number server.NormalizeError = 46
server_number server.CannotParseClientFinalMessage = 47
server_number server.InvalidChannelBinding = 48
server_number server.Base64DecodeError = 49
server_number server.IncorrectClientFinalNonce = 50
server_number server.ProofNotFoundInClientFinal = 51
server_number server.AuthenticationFailed = 52
server_number server.IllegalAuthenticatorState = 53
server_number server.MisplacedAttribute = 54
server_number server.OutOfMemory = 1

-- the number of a status
abbrev pub status_number : Status → ℕ
status_number statuses.OutOfMemory = 1
status_number statuses.NotUtf8 = 3
status_number statuses.NoSuchVersion = 4
status_number statuses.TooLong = 5
status_number statuses.NotPrintable = 6
status_number statuses.ZeroIterations = 7
status_number statuses.NoSuchSecret = 8
status_number statuses.NoKeys = 9
status_number statuses.OtherVersion = 10
status_number statuses.OtherPassword = 11
status_number statuses.NoSuchMechanism = 12
status_number statuses.Ended = 13
status_number statuses.InvalidSnapshot = 14
status_number statuses.NamesNoUser = 15
status_number statuses.NeedsRecords = 16
status_number (statuses.Client why) = client_number why
status_number (statuses.Server why) = server_number why
status_number (statuses.NoRecord why) = record_text_number why
status_number statuses.LineFeedMissing = 65
status_number statuses.SpaceMissing = 66
status_number statuses.InvalidName = 67
status_number statuses.NoSuchUser = 68
status_number statuses.NotWritable = 69
status_number statuses.ProtocolHeaderMismatch = 70
status_number statuses.FrameSize = 71
status_number statuses.UnexpectedFrame = 72
status_number statuses.ReplyTooLarge = 73
status_number statuses.MalformedFrame = 74
status_number statuses.NoSaslFrame = 75
status_number statuses.FrameTooLarge = 76
status_number statuses.NotImplemented = 77
status_number statuses.RefusedAuth = 81
status_number statuses.RefusedSys = 82
status_number statuses.RefusedSysPerm = 83
status_number statuses.RefusedSysTemp = 84
status_number statuses.NoSuchChoice = 85
status_number statuses.ProhibitedCharacter = 86
status_number statuses.MixedDirections = 87
status_number statuses.UnassignedCodePoint = 88
status_number statuses.ServerError = 89
status_number statuses.EndOfInput = 90
status_number statuses.ChannelDataLength = 91
status_number statuses.NoSuchChannel = 92
status_number statuses.EmptyPassword = 93

-- the status of an error of a client
abbrev pub client_status : ScramErrorKind → Status
client_status client.OutOfMemory = OutOfMemory
client_status why = statuses.Client why

-- the status of an error of a server
abbrev pub server_status : ServerScramErrorKind → Status
server_status server.OutOfMemory = OutOfMemory
server_status why = statuses.Server why

-- the status of why no keys and no record are made of a password
abbrev pub record_status : RecordError → Status
record_status records.NormalizeError = statuses.NotPrintable
record_status records.ZeroIterations = statuses.ZeroIterations
record_status records.OutOfMemory = OutOfMemory

-- the number of an answer
abbrev pub answer_number : {A : Type 0} → Result A Status → ℕ
answer_number (Ok done) = 0
answer_number (Err status) = status_number status

-- the number is that of an answer of this kind
abbrev pub Answers : ℕ → (Result (Unit {0}) Status → Type 0) → Type 0
Answers number Answer = (answer : Result (Unit {0}) Status) × (number ≡ answer_number answer) × Answer answer

-- the number of an answer of a call that writes a text
abbrev pub text_answer_number : {A : Type 0} → Result A WriteError → ℕ
text_answer_number (Ok done) = 0
text_answer_number (Err RoomTooSmall) = 2
text_answer_number (Err (Other status)) = status_number status

-- the number is that of an answer of this kind, of a call that writes a text
abbrev pub AnswersText : ℕ → (Result (Unit {0}) WriteError → Type 0) → Type 0
AnswersText number Answer = (answer : Result (Unit {0}) WriteError) × (number ≡ text_answer_number answer)
    × Answer answer

-- a call is out of memory only where this holds: no error was due before it requested memory
abbrev pub AsksWhere : {A : Type 0} → Type 0 → Result A Status → Type 0
AsksWhere Asks answer = IfErr answer (λ status. status ≡ OutOfMemory → Asks)

abbrev pub AsksText : {A : Type 0} → Type 0 → Result A WriteError → Type 0
AsksText Asks answer = IfErr answer (λ why. why ≡ Other OutOfMemory → Asks)

-- ---- what a call writes

-- a struct: where the call succeeds, one that it may make; otherwise the struct stays, and the error is the one that is
-- due, or out of memory, where the call requests memory
abbrev pub Makes : {S : Type 0} → Type 0 → (Result S Status → Type 0) → S → S → Result (Unit {0}) Status → Type 0
Makes Allocates Due before after (Ok done) = Due (Ok after)
Makes Allocates Due before after (Err status) = (status ≡ OutOfMemory → Allocates)
    × (status ≢ OutOfMemory → Due (Err status)) × (after ≡ before)

-- what was made is stored, or the struct stays and its error is returned
abbrev pub Stores : {S : Type 0} → Result S Status → S → S → Result (Unit {0}) Status → Type 0
Stores (Ok made) before after answer = (answer ≡ Ok tt) × (after ≡ made)
Stores (Err status) before after answer = (answer ≡ Err status) × (after ≡ before)

-- the bytes at the beginning of the room, which stays as it was after them
abbrev pub with_written : List ℕ → List ℕ → List ℕ
with_written bytes room = bytes ++ drop (length bytes) room

-- a buffer of the caller, and the length beside it
pub record Room : Type 0 where
  pub bytes : List ℕ
  pub len : ℕ

-- a text of this length does not fit, and the length says so
abbrev pub Lacks : Room → Room → List ℕ → Type 0
Lacks before after text = (length before.bytes < length text) × (after.len ≡ length text)

-- a text: where the call succeeds, one that it may return, at the beginning of the room, with its length; otherwise the
-- room stays, and the error is the one that is due, or out of memory, or `RoomTooSmall` with the length of a text that it
-- may return and that does not fit
abbrev pub Fills : (Result (List ℕ) Status → Type 0) → Room → Room → Result (Unit {0}) WriteError → Type 0
Fills Due before after (Ok done) = (text : List ℕ) × Due (Ok text) × (length text ≤ length before.bytes)
    × (after.bytes ≡ with_written text before.bytes) × (after.len ≡ length text)
Fills Due before after (Err RoomTooSmall) = (after.bytes ≡ before.bytes)
    × ((text : List ℕ) × Due (Ok text) × Lacks before after text)
Fills Due before after (Err (Other status)) = (after.bytes ≡ before.bytes) × (after.len ≡ before.len)
    × (status ≢ OutOfMemory → Due (Err status))

-- a text that was made, whose bytes `items` gives, is written to the beginning of the room, or does not fit; or there is no
-- text, and its error is returned
abbrev pub WritesText : {T : Type 0} → (T → List ℕ) → Result T Status → Room → Room → Result (Unit {0}) WriteError → Type 0
WritesText items (Ok text) before after (Ok done) = (length (items text) ≤ length before.bytes)
    × (after.bytes ≡ with_written (items text) before.bytes) × (after.len ≡ length (items text))
WritesText items (Ok text) before after (Err RoomTooSmall) = (after.bytes ≡ before.bytes) × Lacks before after (items text)
WritesText items (Ok text) before after (Err (Other status)) = ⊥
WritesText items (Err status) before after (Ok done) = ⊥
WritesText items (Err status) before after (Err RoomTooSmall) = ⊥
WritesText items (Err status) before after (Err (Other why)) = (why ≡ status) × (after.bytes ≡ before.bytes)
    × (after.len ≡ before.len)

-- a text that fits into every room of this many bytes: where there are fewer, `RoomTooSmall` is returned with this number
-- before anything is done, and the room stays
abbrev pub FillsWithin : ℕ → (Result (List ℕ) Status → Type 0) → Room → Room → Result (Unit {0}) WriteError → Type 0
FillsWithin suffices Due before after (Ok done) = (text : List ℕ) × Due (Ok text) × (suffices ≤ length before.bytes)
    × (after.bytes ≡ with_written text before.bytes) × (after.len ≡ length text)
FillsWithin suffices Due before after (Err RoomTooSmall) = (after.bytes ≡ before.bytes)
    × (length before.bytes < suffices) × (after.len ≡ suffices)
FillsWithin suffices Due before after (Err (Other status)) = (after.bytes ≡ before.bytes)
    × (suffices ≤ length before.bytes) × (after.len ≡ before.len) × (status ≢ OutOfMemory → Due (Err status))
