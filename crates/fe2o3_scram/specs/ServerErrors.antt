-- The server errors (RFC 5802, section 7, `server-error`), as a server reports them and as a client reads them.
use Rattle.std.specs.Prelude.{ℕ, List, ◌++◌, ◌≡◌, ◌≢◌, ◌⊎◌, codes}
use Rattle.std.specs.Str.{IsUtf8}
use Rattle.fe2o3_scram.specs.declared.scram_messages.error.ServerScramErrorKind.{ServerScramErrorKind}
use Rattle.fe2o3_scram.specs.declared.scram_messages.error.ServerScramErrorKind.TheVariants as kinds
use Rattle.fe2o3_scram.specs.declared.scram_messages.server_error.ServerError.{ServerError}
use Rattle.fe2o3_scram.specs.declared.scram_messages.server_error.ServerError.TheVariants as errors
use Rattle.fe2o3_scram.specs.Texts.{Part}

-- the values that RFC 5802 names, in its order (section 7, `server-error-value`)
abbrev pub error_name : ServerError → List ℕ
error_name errors.InvalidEncoding = codes "invalid-encoding"
error_name errors.ExtensionsNotSupported = codes "extensions-not-supported"
error_name errors.InvalidProof = codes "invalid-proof"
error_name errors.ChannelBindingsDontMatch = codes "channel-bindings-dont-match"
error_name errors.ServerDoesSupportChannelBinding = codes "server-does-support-channel-binding"
error_name errors.ChannelBindingNotSupported = codes "channel-binding-not-supported"
error_name errors.UnsupportedChannelBindingType = codes "unsupported-channel-binding-type"
error_name errors.UnknownUser = codes "unknown-user"
error_name errors.InvalidUsernameEncoding = codes "invalid-username-encoding"
error_name errors.NoResources = codes "no-resources"
error_name errors.OtherError = codes "other-error"

-- server-error (RFC 5802, section 7)
abbrev pub error_message : ServerError → List ℕ
error_message error = codes "e=" ++ error_name error

-- the value is that of the error: its name, or a value that RFC 5802 does not name, which is treated as `other-error`
-- (section 7)
abbrev pub IsErrorValue : List ℕ → ServerError → Type 0
IsErrorValue value error = (value ≡ error_name error)
    ⊎ ((error ≡ errors.OtherError) × ((named : ServerError) → value ≢ error_name named))

-- the message is a server-error, followed by any extensions: its first part is this error (RFC 5802, section 7; UTF-8: RFC
-- 3629, section 3)
abbrev pub NamesServerError : List ℕ → ServerError → Type 0
NamesServerError text error = IsUtf8 text
    × ((value : List ℕ) × Part text 0 (codes "e=" ++ value) × IsErrorValue value error)

-- the error by which a server reports why it rejects a message (RFC 5802, section 7): a text that cannot be decoded; a user
-- name that cannot be; channel binding data that are not those of the exchange; a proof that is not the user's; a failed
-- allocation; and what no name of the section describes
abbrev pub kind_error : ServerScramErrorKind → ServerError
kind_error kinds.Utf8Error = errors.InvalidEncoding
kind_error kinds.Base64DecodeError = errors.InvalidEncoding
kind_error kinds.CannotParseUsername = errors.InvalidUsernameEncoding
kind_error kinds.InvalidChannelBinding = errors.ChannelBindingsDontMatch
kind_error kinds.XorLengthMismatch = errors.InvalidProof
kind_error kinds.AuthenticationFailed = errors.InvalidProof
kind_error kinds.OutOfMemory = errors.NoResources
kind_error kinds.CannotParseGs2Header = errors.OtherError
kind_error kinds.CannotParseClientNonce = errors.OtherError
kind_error kinds.HmacErrorInvalidLength = errors.OtherError
kind_error kinds.NormalizeError = errors.OtherError
kind_error kinds.CannotParseClientFinalMessage = errors.OtherError
kind_error kinds.IncorrectClientFinalNonce = errors.OtherError
kind_error kinds.ProofNotFoundInClientFinal = errors.OtherError
kind_error kinds.MisplacedAttribute = errors.OtherError
kind_error kinds.IllegalAuthenticatorState = errors.OtherError
