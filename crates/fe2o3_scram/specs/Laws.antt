-- What holds of the definitions themselves. Each is the contract of a function of `laws`.
use Rattle.std.specs.Prelude.{ℕ, List, Bool, ◌≡◌, ◌≤◌, ◌<◌, ◌^◌, ◌⊎◌, ◌≢◌, ◌↔◌, length, Result, Ok, Err}
use Rattle.base64.specs.Engines.{standard}
use Rattle.base64.specs.GeneralPurpose.{IsBytes, decode_of}
use Rattle.fe2o3_scram.specs.declared.hmac.ScramVersion.{ScramVersion}
use Rattle.fe2o3_scram.specs.declared.scram_messages.error.ScramErrorKind.{ScramErrorKind}
use Rattle.fe2o3_scram.specs.declared.scram_messages.server_rules.ServerRules.{ServerRules}
use Rattle.fe2o3_scram.specs.Texts.{base64_text, IsBase64, NoComma, Parts}
use Rattle.fe2o3_scram.specs.declared.scram_messages.error.ServerScramErrorKind.{ServerScramErrorKind}
use Rattle.fe2o3_scram.specs.ClientFirst.{ClientFirst, ReadsClientFirst}
use Rattle.fe2o3_scram.specs.ClientKeys.{ClientKeys, keys_of}
use Rattle.fe2o3_scram.specs.ClientSecret.{Password, Keys, Both}
use Rattle.fe2o3_scram.specs.Passwords.{PasswordText, Typed, Prepared, IsNormal, password_bytes}
use Rattle.fe2o3_scram.specs.SaslprepAscii.{IsPrintable}
use Rattle.fe2o3_scram.specs.declared.client_secret.IterationLimits.{IterationLimits}
use Rattle.fe2o3_scram.specs.declared.scram_messages.error.ScramErrorKind.TheVariants.{ServerSignatureMismatch, StaleKeys}
use Rattle.fe2o3_scram.specs.Credentials.{MakesRecord, Record, Records, VersionedRecord, record_of}
use Rattle.fe2o3_scram.specs.declared.keys.RecordError.{RecordError}
use Rattle.fe2o3_scram.specs.Mixed.{MultiRecords, unversioned}
use Rattle.fe2o3_scram.specs.Escape.{escaped}
use Rattle.fe2o3_scram.specs.Exchanges.{Exchange, IsSound, Succeeds}
use Rattle.fe2o3_scram.specs.Hmac.{mechanism_name, digest, digest_len, hmac_of}
use Rattle.fe2o3_scram.specs.ServerFirstAnswers.{AnswersServerFirst}
use Rattle.fe2o3_scram.specs.ClientFinal.{Answer, Server, ClientFinal, ReadsFinalText, ReadsClientFinal}
use Rattle.fe2o3_scram.specs.MultiRecordLines.{IsMixedWritable, MixedFault, ReadsMixed, SpellsMixed, mixed_text}
use Rattle.fe2o3_scram.specs.RecordText.{IsReadable, ReadsRecord, record_text}
use Rattle.fe2o3_scram.specs.declared.credentials.record_text.RecordTextError.{RecordTextError}
use Rattle.fe2o3_scram.specs.declared.credentials.record_lines.ReadLinesError.{ReadLinesError}
use Rattle.fe2o3_scram.specs.declared.credentials.record_lines.ReadLinesErrorKind.TheVariants.{VersionMismatch}
use Rattle.fe2o3_scram.specs.RecordLines.{IsWritable, ReadsUsers, users_text}
use Rattle.std.specs.List.{AllByRecursion}
use Rattle.fe2o3_scram.specs.ServerFinal.{ReadsSignature, ReadsServerFinal}
use Rattle.fe2o3_scram.specs.ServerErrors.{NamesServerError, error_message}
use Rattle.fe2o3_scram.specs.declared.scram_messages.server_error.ServerError.{ServerError}
use Rattle.fe2o3_scram.specs.ServerFirst.{Client, ServerFirst, ReadsServerFirst, client_of}
use Rattle.fe2o3_scram.specs.ChannelBinding.{ClientHeader}

-- no two versions have one name
abbrev pub OneVersion : Type 0
OneVersion = (version other : ScramVersion) → mechanism_name version ≡ mechanism_name other → version ≡ other

-- a digest is as long as its version says, and holds bytes
abbrev pub DigestsAreSized : Type 0
DigestsAreSized = (version : ScramVersion) (message : List ℕ)
    → (length (digest version message) ≡ digest_len version) × IsBytes (digest version message)

-- an HMAC value is as long as its version says, and holds bytes
abbrev pub MacsAreSized : Type 0
MacsAreSized = (version : ScramVersion) (key message : List ℕ)
    → (length (hmac_of version key message) ≡ digest_len version) × IsBytes (hmac_of version key message)

-- a text is the base64 of at most one list of bytes
abbrev pub OneBytesOfBase64 : Type 0
OneBytesOfBase64 = (text bytes others : List ℕ) → IsBase64 text bytes → IsBase64 text others → bytes ≡ others

-- bytes that are written in base64 are read again
abbrev pub Base64IsReadAgain : Type 0
Base64IsReadAgain = (bytes : List ℕ) → IsBytes bytes → decode_of standard (base64_text bytes) ≡ Ok bytes

-- a base64 text holds no comma
abbrev pub NoCommaInBase64 : Type 0
NoCommaInBase64 = (bytes : List ℕ) → NoComma (base64_text bytes)

-- a text has parts
abbrev pub PartsExist : Type 0
PartsExist = (text : List ℕ) → (parts : List (List ℕ)) × Parts text parts

-- no text has two lists of parts
abbrev pub OneListOfParts : Type 0
OneListOfParts = (text : List ℕ) (parts others : List (List ℕ)) → Parts text parts → Parts text others → parts ≡ others

-- no two user names have one escaped text
abbrev pub OneEscapedName : Type 0
OneEscapedName = (name other : List ℕ) → escaped name ≡ escaped other → name ≡ other

-- an escaped user name holds no comma
abbrev pub NoCommaInEscapedNames : Type 0
NoCommaInEscapedNames = (name : List ℕ) → NoComma (escaped name)

-- a server-first message has at most one answer
abbrev pub OneServerFirst : Type 0
OneServerFirst = (client : Client) (text : List ℕ) (answer other : Result ServerFirst ScramErrorKind)
    → ReadsServerFirst client text answer → ReadsServerFirst client text other → answer ≡ other

-- a client-first message has at most one answer
abbrev pub OneClientFirst : Type 0
OneClientFirst = (rules : ServerRules) (text : List ℕ) (answer other : Result ClientFirst ServerScramErrorKind)
    → ReadsClientFirst rules text answer → ReadsClientFirst rules text other → answer ≡ other

-- a client-final message has at most one answer
abbrev pub OneClientFinal : Type 0
OneClientFinal = (server : Server) (text : List ℕ) (answer other : Result ClientFinal ServerScramErrorKind)
    → ReadsClientFinal server text answer → ReadsClientFinal server text other → answer ≡ other

-- a client-final message has at most one reading of its text (before the keys are tested)
abbrev pub OneFinalText : Type 0
OneFinalText = (header : ClientHeader) (strict : Bool) (nonce text : List ℕ)
    (answer other : Result ClientFinal ServerScramErrorKind)
    → ReadsFinalText header strict nonce text answer → ReadsFinalText header strict nonce text other → answer ≡ other

-- a server-final message has at most one answer
abbrev pub OneServerFinal : Type 0
OneServerFinal = (strict : Bool) (signature text : List ℕ) (answer other : Result (Unit {0}) ScramErrorKind)
    → ReadsServerFinal strict signature text answer → ReadsServerFinal strict signature text other → answer ≡ other

-- a server-final message has at most one reading of its text (before the signature is compared)
abbrev pub OneSignature : Type 0
OneSignature = (strict : Bool) (text : List ℕ) (answer other : Result (List ℕ) ScramErrorKind)
    → ReadsSignature strict text answer → ReadsSignature strict text other → answer ≡ other

-- the message of a server error is read as that error
abbrev pub ServerErrorsAreReadAgain : Type 0
ServerErrorsAreReadAgain = (error : ServerError) → NamesServerError (error_message error) error

-- a message is at most one server error
abbrev pub OneServerError : Type 0
OneServerError = (text : List ℕ) (error other : ServerError) → NamesServerError text error → NamesServerError text other
    → error ≡ other

-- a client that waits for a signature rejects a server error in its place, like a wrong signature
abbrev pub ServerErrorsAreNoSignature : Type 0
ServerErrorsAreNoSignature = (strict : Bool) (signature text : List ℕ) (error : ServerError) → NamesServerError text error
    → ReadsServerFinal strict signature text (Err ServerSignatureMismatch)

-- in an exchange whose messages arrive as they were sent, each side accepts what the other wrote
abbrev pub UnalteredExchangesSucceed : Type 0
UnalteredExchangesSucceed = (x : Exchange) → IsSound x → Succeeds x

-- a client-first message has an answer, whatever the text
abbrev pub SomeClientFirst : Type 0
SomeClientFirst = (rules : ServerRules) (text : List ℕ)
    → (answer : Result ClientFirst ServerScramErrorKind) × ReadsClientFirst rules text answer

-- a server-first message has an answer
abbrev pub SomeServerFirst : Type 0
SomeServerFirst = (client : Client) (text : List ℕ)
    → (answer : Result ServerFirst ScramErrorKind) × ReadsServerFirst client text answer

-- a client-final message has an answer
abbrev pub SomeClientFinal : Type 0
SomeClientFinal = (server : Server) (text : List ℕ)
    → (answer : Result ClientFinal ServerScramErrorKind) × ReadsClientFinal server text answer

-- a server-final message has an answer
abbrev pub SomeServerFinal : Type 0
SomeServerFinal = (strict : Bool) (signature text : List ℕ)
    → (answer : Result (Unit {0}) ScramErrorKind) × ReadsServerFinal strict signature text answer

-- a record is read again from its text if it has a count and its keys are as long as a digest
abbrev pub RecordsAreReadAgain : Type 0
RecordsAreReadAgain = (kept : VersionedRecord) → IsReadable kept → ReadsRecord (record_text kept) (Ok kept)

-- no other text is read as this record
abbrev pub OneSpelling : Type 0
OneSpelling = (text : List ℕ) (kept : VersionedRecord) → ReadsRecord text (Ok kept)
    → (text ≡ record_text kept) × IsReadable kept

-- a record's text has at most one answer
abbrev pub OneRecord : Type 0
OneRecord = (text : List ℕ) (answer other : Result VersionedRecord RecordTextError) → ReadsRecord text answer
    → ReadsRecord text other → answer ≡ other

-- a record's text has an answer, whatever the text is
abbrev pub SomeRecord : Type 0
SomeRecord = (text : List ℕ) → (answer : Result VersionedRecord RecordTextError) × ReadsRecord text answer

-- a record that is made of a password is read again
abbrev pub MadeRecordsAreReadable : Type 0
MadeRecordsAreReadable = (version : ScramVersion) (password salt : List ℕ) (count : ℕ) → IsBytes salt → 1 ≤ count
    → count < 2 ^ 32 → IsReadable (record { version = version; stored = record_of version password salt count })

-- the keys are those of the password, with their salt and their count
abbrev pub AreKeysOf : ClientKeys → List ℕ → Type 0
AreKeysOf keys password = keys ≡ keys_of keys.version password keys.salt keys.count

-- what is answered by the keys of a password is answered by the password
abbrev pub KeysStandForPassword : Type 0
KeysStandForPassword = (keys : ClientKeys) (password : PasswordText) (nonce bare text : List ℕ)
    (limits : IterationLimits) (header : ClientHeader) (strict : Bool) (answer : Result Answer ScramErrorKind) → IsNormal password
    → AreKeysOf keys (password_bytes password)
    → answer ≢ Err StaleKeys
    → AnswersServerFirst keys.version (client_of nonce (Keys keys) limits header strict) bare text answer
    → AnswersServerFirst keys.version (client_of nonce (Password password) limits header strict) bare text answer

-- what is answered by the password is answered by its keys, unless they are of another salt or another count
abbrev pub KeysAnswerAsPassword : Type 0
KeysAnswerAsPassword = (keys : ClientKeys) (password : PasswordText) (nonce bare text : List ℕ)
    (limits : IterationLimits) (header : ClientHeader) (strict : Bool) (answer : Result Answer ScramErrorKind) → IsNormal password
    → AreKeysOf keys (password_bytes password)
    → AnswersServerFirst keys.version (client_of nonce (Password password) limits header strict) bare text answer
    → AnswersServerFirst keys.version (client_of nonce (Keys keys) limits header strict) bare text answer
    ⊎ AnswersServerFirst keys.version (client_of nonce (Keys keys) limits header strict) bare text (Err StaleKeys)

-- a client with both answers like the one with the password, if its keys are those of the password
abbrev pub BothAnswerAsPassword : Type 0
BothAnswerAsPassword = (keys : ClientKeys) (password : PasswordText) (nonce bare text : List ℕ)
    (limits : IterationLimits) (header : ClientHeader) (strict : Bool) (answer : Result Answer ScramErrorKind) → IsNormal password
    → AreKeysOf keys (password_bytes password)
    → AnswersServerFirst keys.version (client_of nonce (Both password keys) limits header strict) bare text answer
    ↔ AnswersServerFirst keys.version (client_of nonce (Password password) limits header strict) bare text answer

-- a password of printable ASCII gives one record, whether it is passed as typed or prepared
abbrev pub OneRecordOfPassword : Type 0
OneRecordOfPassword = (version : ScramVersion) (text salt : List ℕ) (count : ℕ)
    (answer : Result VersionedRecord RecordError) → IsPrintable text
    → MakesRecord version (Prepared text) salt count answer ↔ MakesRecord version (Typed text) salt count answer

-- a client with a typed password of printable ASCII answers like one with it prepared
abbrev pub OneAnswerOfPassword : Type 0
OneAnswerOfPassword = (version : ScramVersion) (password nonce bare text : List ℕ) (limits : IterationLimits)
    (header : ClientHeader) (strict : Bool) (answer : Result Answer ScramErrorKind) → IsPrintable password
    → AnswersServerFirst version (client_of nonce (Password (Prepared password)) limits header strict) bare text answer
    ↔ AnswersServerFirst version (client_of nonce (Password (Typed password)) limits header strict) bare text answer

-- what the code holds of a user: the count has 32 bits, and salt and keys are bytes
abbrev pub HoldsBytes : List ℕ × Record → Type 0
HoldsBytes user = (user.1.count < 2 ^ 32) × IsBytes user.1.salt × IsBytes user.1.stored_key × IsBytes user.1.server_key

-- users that can be written are read again from their text
abbrev pub UsersAreReadAgain : Type 0
UsersAreReadAgain = (version : ScramVersion) (users : Records) → AllByRecursion (IsWritable version) users
    → AllByRecursion HoldsBytes users → ReadsUsers version (users_text version users) (Ok users)

-- a text of lines has at most one answer, so that no other line and no other error is returned
abbrev pub OneUsersAnswer : Type 0
OneUsersAnswer = (version : ScramVersion) (text : List ℕ) (answer other : Result Records ReadLinesError)
    → ReadsUsers version text answer → ReadsUsers version text other → answer ≡ other

-- a text of lines has an answer, whatever the text is
abbrev pub SomeUsersAnswer : Type 0
SomeUsersAnswer = (version : ScramVersion) (text : List ℕ)
    → (answer : Result Records ReadLinesError) × ReadsUsers version text answer

-- what the code holds of a user of a mixed store: the count has 32 bits, and salt and keys are bytes
abbrev pub HoldsMixedBytes : List ℕ × VersionedRecord → Type 0
HoldsMixedBytes user = HoldsBytes (unversioned user)

-- users of several versions that can be written are read again from their text
abbrev pub MixedAreReadAgain : Type 0
MixedAreReadAgain = (users : MultiRecords) → AllByRecursion IsMixedWritable users
    → AllByRecursion HoldsMixedBytes users → ReadsMixed (mixed_text users) (Ok users)

-- users of several versions that were read can be written, as the very text that was read
abbrev pub MixedAreWrittenBack : Type 0
MixedAreWrittenBack = (text : List ℕ) (users : MultiRecords) → SpellsMixed text users
    → AllByRecursion IsMixedWritable users × (mixed_text users ≡ text)

-- no line is rejected for its version, since records of every version are read
abbrev pub NoMismatch : Type 0
NoMismatch = (text : List ℕ) → ¬ MixedFault text VersionMismatch

-- a text of lines of any version has at most one answer
abbrev pub OneMixedAnswer : Type 0
OneMixedAnswer = (text : List ℕ) (answer other : Result MultiRecords ReadLinesError) → ReadsMixed text answer
    → ReadsMixed text other → answer ≡ other

-- a text of lines of any version has an answer, whatever the text is
abbrev pub SomeMixedAnswer : Type 0
SomeMixedAnswer = (text : List ℕ) → (answer : Result MultiRecords ReadLinesError) × ReadsMixed text answer
