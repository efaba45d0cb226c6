-- The errors that a server sends in the place of a message (RFC 5802, section 7, `server-error`), by numbers of C.
use Rattle.std.specs.Prelude.{◌≡◌, ◌≢◌, ◌⊎◌, ◌++◌, ◌∷◌, [], ℕ, List, codes, Result, Ok, Err}
use Rattle.fe2o3_scram.specs.declared.scram_messages.error.ServerScramErrorKind.{ServerScramErrorKind}
use Rattle.fe2o3_scram.specs.declared.scram_messages.error.ServerScramErrorKind.TheVariants.{AuthenticationFailed}
use Rattle.fe2o3_scram.specs.declared.scram_messages.server_error.ServerError.{ServerError}
use Rattle.fe2o3_scram.specs.declared.scram_messages.server_error.ServerError.TheVariants as errors
use Rattle.fe2o3_scram.specs.ServerErrors.{NamesServerError, error_message, error_name, kind_error}
use Rattle.sasl_c.specs.declared.status.Status.{Status}
use Rattle.sasl_c.specs.declared.status.Status.TheVariants as statuses
use Rattle.sasl_c.specs.Status.{server_number, status_number}

-- the number of an error: its place in the list of RFC 5802 (section 7), counted from 1
abbrev pub error_number : ServerError → ℕ
error_number errors.InvalidEncoding = 1
error_number errors.ExtensionsNotSupported = 2
error_number errors.InvalidProof = 3
error_number errors.ChannelBindingsDontMatch = 4
error_number errors.ServerDoesSupportChannelBinding = 5
error_number errors.ChannelBindingNotSupported = 6
error_number errors.UnsupportedChannelBindingType = 7
error_number errors.UnknownUser = 8
error_number errors.InvalidUsernameEncoding = 9
error_number errors.NoResources = 10
error_number errors.OtherError = 11

-- the number is that of the error that the message is, or 0 where it is none
abbrev pub IsNumberOf : List ℕ → ℕ → Type 0
IsNumberOf text number = ((error : ServerError) × NamesServerError text error × (number ≡ error_number error))
    ⊎ (((error : ServerError) → ¬ NamesServerError text error) × (number ≡ 0))

-- the text of a number, with the zero that ends a text of C: the name of its error, or that it is that of none
abbrev pub IsErrorText : ℕ → List ℕ → Type 0
IsErrorText number text = ((error : ServerError) × (error_number error ≡ number) × (text ≡ error_name error ++ (0 ∷ [])))
    ⊎ (((error : ServerError) → error_number error ≢ number) × (text ≡ codes "No server error" ++ (0 ∷ [])))

-- the error by which a server reports a status: that of its kind; for a user without a record that of a wrong proof; and
-- `other-error` for every other status, which RFC 5802 does not describe
abbrev pub Reports : ℕ → ServerError → Type 0
Reports status error = ((kind : ServerScramErrorKind) × (server_number kind ≡ status) × (error ≡ kind_error kind))
    ⊎ ((status ≡ status_number statuses.NoSuchUser) × (error ≡ kind_error AuthenticationFailed))
    ⊎ (((kind : ServerScramErrorKind) → server_number kind ≢ status) × (status ≢ status_number statuses.NoSuchUser)
    × (error ≡ errors.OtherError))

-- the message that reports a status; there is always one
abbrev pub SpellsReport : ℕ → Result (List ℕ) Status → Type 0
SpellsReport status (Ok message) = (error : ServerError) × Reports status error × (message ≡ error_message error)
SpellsReport status (Err why) = ⊥
