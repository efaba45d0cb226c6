-- No error has the number of FE2O3_OK, so that a call's number says whether it is one of a side: `returns_are_calls`.
use Rattle.std.proofs.Common.{arith, sym, inl, inr, ◌∙◌, ◌≢◌}
use Rattle.std.specs.Prelude.{Ok, Err}
use Rattle.fe2o3_scram.specs.declared.credentials.record_text.RecordTextError.{RecordTextError}
use Rattle.fe2o3_scram.specs.declared.credentials.record_text.RecordTextError.TheVariants as texts
use Rattle.fe2o3_scram.specs.declared.scram_messages.error.ScramErrorKind.{ScramErrorKind}
use Rattle.fe2o3_scram.specs.declared.scram_messages.error.ScramErrorKind.TheVariants as client
use Rattle.fe2o3_scram.specs.declared.scram_messages.error.ServerScramErrorKind.{ServerScramErrorKind}
use Rattle.fe2o3_scram.specs.declared.scram_messages.error.ServerScramErrorKind.TheVariants as server
use Rattle.sasl_c.specs.declared.status.Status.{Status}
use Rattle.sasl_c.specs.declared.status.Status.TheVariants as statuses
use Rattle.sasl_c.specs.declared.status.WriteError.TheVariants.{RoomTooSmall, Other}
use Rattle.sasl_c.specs.ServerCalls.{ReturnsAreCalls}
use Rattle.sasl_c.specs.ServerReceive.{ReceivesOrAsks}
use Rattle.sasl_c.specs.Status.{client_number, record_text_number, server_number, status_number}

text_not_zero : (why : RecordTextError) → record_text_number why ≢ 0
text_not_zero texts.PartsMismatch same = absurd (omega (arith, same))
text_not_zero texts.UnknownMechanism same = absurd (omega (arith, same))
text_not_zero texts.IterationCountParseError same = absurd (omega (arith, same))
text_not_zero texts.Base64DecodeError same = absurd (omega (arith, same))
text_not_zero texts.KeyLengthMismatch same = absurd (omega (arith, same))
text_not_zero texts.OutOfMemory same = absurd (omega (arith, same))

client_not_zero : (why : ScramErrorKind) → client_number why ≢ 0
client_not_zero client.Utf8Error same = absurd (omega (arith, same))
client_not_zero client.InsufficientParts same = absurd (omega (arith, same))
client_not_zero client.ExtensionNotSupported same = absurd (omega (arith, same))
client_not_zero client.NonceNotFound same = absurd (omega (arith, same))
client_not_zero client.ClientNonceMismatch same = absurd (omega (arith, same))
client_not_zero client.SaltNotFound same = absurd (omega (arith, same))
client_not_zero client.Base64DecodeError same = absurd (omega (arith, same))
client_not_zero client.IterationCountNotFound same = absurd (omega (arith, same))
client_not_zero client.IterationCountParseError same = absurd (omega (arith, same))
client_not_zero client.IterationCountTooSmall same = absurd (omega (arith, same))
client_not_zero client.IterationCountTooLarge same = absurd (omega (arith, same))
client_not_zero client.NormalizeError same = absurd (omega (arith, same))
client_not_zero client.StaleKeys same = absurd (omega (arith, same))
client_not_zero client.HmacErrorInvalidLength same = absurd (omega (arith, same))
client_not_zero client.XorLengthMismatch same = absurd (omega (arith, same))
client_not_zero client.IllegalClientState same = absurd (omega (arith, same))
client_not_zero client.ServerSignatureMismatch same = absurd (omega (arith, same))
client_not_zero client.MisplacedAttribute same = absurd (omega (arith, same))
client_not_zero client.OutOfMemory same = absurd (omega (arith, same))

server_not_zero : (why : ServerScramErrorKind) → server_number why ≢ 0
server_not_zero server.Utf8Error same = absurd (omega (arith, same))
server_not_zero server.CannotParseGs2Header same = absurd (omega (arith, same))
server_not_zero server.CannotParseUsername same = absurd (omega (arith, same))
server_not_zero server.CannotParseClientNonce same = absurd (omega (arith, same))
server_not_zero server.HmacErrorInvalidLength same = absurd (omega (arith, same))
server_not_zero server.XorLengthMismatch same = absurd (omega (arith, same))
server_not_zero server.NormalizeError same = absurd (omega (arith, same))
server_not_zero server.CannotParseClientFinalMessage same = absurd (omega (arith, same))
server_not_zero server.InvalidChannelBinding same = absurd (omega (arith, same))
server_not_zero server.Base64DecodeError same = absurd (omega (arith, same))
server_not_zero server.IncorrectClientFinalNonce same = absurd (omega (arith, same))
server_not_zero server.ProofNotFoundInClientFinal same = absurd (omega (arith, same))
server_not_zero server.AuthenticationFailed same = absurd (omega (arith, same))
server_not_zero server.IllegalAuthenticatorState same = absurd (omega (arith, same))
server_not_zero server.MisplacedAttribute same = absurd (omega (arith, same))
server_not_zero server.OutOfMemory same = absurd (omega (arith, same))

pub status_not_zero : (status : Status) → status_number status ≢ 0
status_not_zero statuses.OutOfMemory same = absurd (omega (arith, same))
status_not_zero statuses.NotUtf8 same = absurd (omega (arith, same))
status_not_zero statuses.NoSuchVersion same = absurd (omega (arith, same))
status_not_zero statuses.TooLong same = absurd (omega (arith, same))
status_not_zero statuses.NotPrintable same = absurd (omega (arith, same))
status_not_zero statuses.ZeroIterations same = absurd (omega (arith, same))
status_not_zero statuses.NoSuchSecret same = absurd (omega (arith, same))
status_not_zero statuses.NoKeys same = absurd (omega (arith, same))
status_not_zero statuses.OtherVersion same = absurd (omega (arith, same))
status_not_zero statuses.OtherPassword same = absurd (omega (arith, same))
status_not_zero statuses.NoSuchMechanism same = absurd (omega (arith, same))
status_not_zero statuses.Ended same = absurd (omega (arith, same))
status_not_zero statuses.InvalidSnapshot same = absurd (omega (arith, same))
status_not_zero statuses.NamesNoUser same = absurd (omega (arith, same))
status_not_zero statuses.NeedsRecords same = absurd (omega (arith, same))
status_not_zero statuses.LineFeedMissing same = absurd (omega (arith, same))
status_not_zero statuses.SpaceMissing same = absurd (omega (arith, same))
status_not_zero statuses.InvalidName same = absurd (omega (arith, same))
status_not_zero statuses.NoSuchUser same = absurd (omega (arith, same))
status_not_zero statuses.NotWritable same = absurd (omega (arith, same))
status_not_zero statuses.ProtocolHeaderMismatch same = absurd (omega (arith, same))
status_not_zero statuses.FrameSize same = absurd (omega (arith, same))
status_not_zero statuses.UnexpectedFrame same = absurd (omega (arith, same))
status_not_zero statuses.ReplyTooLarge same = absurd (omega (arith, same))
status_not_zero statuses.MalformedFrame same = absurd (omega (arith, same))
status_not_zero statuses.NoSaslFrame same = absurd (omega (arith, same))
status_not_zero statuses.FrameTooLarge same = absurd (omega (arith, same))
status_not_zero statuses.NotImplemented same = absurd (omega (arith, same))
status_not_zero statuses.RefusedAuth same = absurd (omega (arith, same))
status_not_zero statuses.RefusedSys same = absurd (omega (arith, same))
status_not_zero statuses.RefusedSysPerm same = absurd (omega (arith, same))
status_not_zero statuses.RefusedSysTemp same = absurd (omega (arith, same))
status_not_zero statuses.NoSuchChoice same = absurd (omega (arith, same))
status_not_zero statuses.ProhibitedCharacter same = absurd (omega (arith, same))
status_not_zero statuses.MixedDirections same = absurd (omega (arith, same))
status_not_zero statuses.UnassignedCodePoint same = absurd (omega (arith, same))
status_not_zero statuses.ServerError same = absurd (omega (arith, same))
status_not_zero statuses.EndOfInput same = absurd (omega (arith, same))
status_not_zero statuses.ChannelDataLength same = absurd (omega (arith, same))
status_not_zero statuses.NoSuchChannel same = absurd (omega (arith, same))
status_not_zero statuses.EmptyPassword same = absurd (omega (arith, same))
status_not_zero (statuses.Client why) same = client_not_zero why same
status_not_zero (statuses.Server why) same = server_not_zero why same
status_not_zero (statuses.NoRecord why) same = text_not_zero why same

pub returns_are_calls : ReturnsAreCalls
unfolding ReceivesOrAsks
returns_are_calls config bytes nonce before after taken_before taken room left number
    (Ok done, is, (inl fills, stays)) =
    ((λ zero. ((fills.0, fills.1.1, fills.3, fills.4), fills.1.0)), λ not. absurd (not is))
returns_are_calls config bytes nonce before after taken_before taken room left number
    (Ok done, is, (inr asks, stays)) = absurd (let never = asks.2 in cc)
returns_are_calls config bytes nonce before after taken_before taken room left number (Err RoomTooSmall, is, (fills, stays)) =
    ((λ zero. absurd (omega (arith, zero, is))), λ not. stays)
returns_are_calls config bytes nonce before after taken_before taken room left number
    (Err (Other status), is, (fills, stays)) = ((λ zero. absurd (status_not_zero status (sym is ∙ zero))), λ not. stays)
