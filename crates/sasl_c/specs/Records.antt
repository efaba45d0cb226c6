-- What a server keeps of a password, as a struct of C (RFC 5802, section 3).
use Rattle.std.specs.Prelude.{◌≡◌, ◌<◌, ◌≤◌, ◌⊎◌, ℕ, List, [], ◌∷◌, length, take, Result, Ok, Err}
use Rattle.std.specs.Str.{IsUtf8}
use Rattle.fe2o3_scram.specs.declared.hmac.ScramVersion.{ScramVersion}
use Rattle.fe2o3_scram.specs.Credentials.{MeetsRecord, Record, VersionedRecord, record_of, versioned}
use Rattle.fe2o3_scram.specs.MockSettings.{mock_record}
use Rattle.fe2o3_scram.specs.Hmac.{digest_len, zero_filled}
use Rattle.fe2o3_scram.specs.Passwords.{PasswordText}
use Rattle.fe2o3_scram.specs.Readings.{IsFirst, NoneHolds, Reads}
use Rattle.fe2o3_scram.specs.RecordText.{ReadsRecord, record_text}
use Rattle.fe2o3_scram.specs.SaslprepAscii.{IsPrintable}
use Rattle.sasl_c.specs.declared.records.ScramRecord.{ScramRecord as Struct}
use Rattle.sasl_c.specs.declared.status.Status.{Status}
use Rattle.sasl_c.specs.declared.status.Status.TheVariants as statuses
use Rattle.sasl_c.specs.Passwords.{IsPassword, password_tests}
use Rattle.sasl_c.specs.Status.{version_number}

-- the version of a number
abbrev pub IsVersion : ℕ → ScramVersion → Type 0
IsVersion number version = version_number version ≡ number

-- the struct of a record
abbrev pub record_struct : VersionedRecord → Struct
record_struct kept = record {
  version = version_number kept.version;
  iterations = kept.stored.count;
  salt_len = length kept.stored.salt;
  salt = zero_filled 128 kept.stored.salt;
  stored_key = zero_filled 64 kept.stored.stored_key;
  server_key = zero_filled 64 kept.stored.server_key;
}

-- a record that a struct can hold: its salt has room, and its keys are as long as a digest
abbrev pub RecordHasRoom : VersionedRecord → Type 0
RecordHasRoom kept = (length kept.stored.salt ≤ 128) × (length kept.stored.stored_key ≡ digest_len kept.version)
    × (length kept.stored.server_key ≡ digest_len kept.version)

-- what a struct of this version shows, of whatever bits it is
abbrev pub stored_of : ScramVersion → Struct → Record
stored_of version kept = record {
  salt = take kept.salt_len kept.salt;
  count = kept.iterations;
  stored_key = take (digest_len version) kept.stored_key;
  server_key = take (digest_len version) kept.server_key;
}

-- the struct shows this record: its version is known, and its salt is in it
abbrev pub ShowsRecord : Struct → VersionedRecord → Type 0
ShowsRecord kept shown = IsVersion kept.version shown.version × (kept.salt_len ≤ 128)
    × (shown.stored ≡ stored_of shown.version kept)

-- the struct shows a record
abbrev pub ShowsSomeRecord : Struct → Type 0
ShowsSomeRecord kept = (shown : VersionedRecord) × ShowsRecord kept shown

-- the tests before a record is made of a password (RFC 4013, section 2; RFC 5802, section 5.1), in their order
abbrev pub struct_making_tests : ℕ → ℕ → List ℕ → List ℕ → ℕ → List (Status × Type 0)
struct_making_tests version form password salt count =
    (statuses.NoSuchVersion, (known : ScramVersion) → ¬ IsVersion version known) ∷ (statuses.NoSuchChoice, 1 < form)
    ∷ (statuses.NotUtf8, ¬ IsUtf8 password) ∷ (statuses.TooLong, 128 < length salt)
    ∷ (statuses.NotPrintable, (form ≡ 0) × ¬ IsPrintable password) ∷ (statuses.ZeroIterations, count ≡ 0) ∷ []

-- the record of a password (RFC 5802, section 3): the first error that holds, or its struct
abbrev pub MakesRecordStruct : ℕ → ℕ → List ℕ → List ℕ → ℕ → Result Struct Status → Type 0
MakesRecordStruct version form password salt count answer = Reads (struct_making_tests version form password salt count)
    (λ made. (known : ScramVersion) × IsVersion version known
    × (made ≡ record_struct (record { version = known; stored = record_of known password salt count }))) answer

-- the record of a text (RFC 5803, section 2): its struct, or why there is none
abbrev pub ParsesStruct : List ℕ → Result Struct Status → Type 0
ParsesStruct text (Ok made) = (kept : VersionedRecord) × ReadsRecord text (Ok kept) × RecordHasRoom kept
    × (made ≡ record_struct kept)
ParsesStruct text (Err statuses.NotUtf8) = ¬ IsUtf8 text
ParsesStruct text (Err statuses.TooLong) = (kept : VersionedRecord) × ReadsRecord text (Ok kept) × ¬ RecordHasRoom kept
ParsesStruct text (Err (statuses.NoRecord why)) = IsUtf8 text × ReadsRecord text (Err why)
ParsesStruct text (Err status) = ⊥

-- the text of the record that a struct shows (RFC 5803, section 2), or why there is none: the version is tested first
abbrev pub SpellsStruct : Struct → Result (List ℕ) Status → Type 0
SpellsStruct kept (Ok text) = (shown : VersionedRecord) × ShowsRecord kept shown × (text ≡ record_text shown)
SpellsStruct kept (Err statuses.NoSuchVersion) = (known : ScramVersion) → ¬ IsVersion kept.version known
SpellsStruct kept (Err statuses.TooLong) = ((known : ScramVersion) × IsVersion kept.version known) × (128 < kept.salt_len)
SpellsStruct kept (Err status) = ⊥

-- the tests before a mock record is made for a name, in their order
abbrev pub mock_tests : ℕ → List ℕ → ℕ → List (Status × Type 0)
mock_tests version name salt_len =
    (statuses.NoSuchVersion, (known : ScramVersion) → ¬ IsVersion version known) ∷ (statuses.NotUtf8, ¬ IsUtf8 name)
    ∷ (statuses.TooLong, 64 < salt_len) ∷ []

-- the mock record of a name: the first error that holds, or its struct
abbrev pub MakesUp : ℕ → List ℕ → List ℕ → ℕ → ℕ → Result Struct Status → Type 0
MakesUp version secret name salt_len count answer = Reads (mock_tests version name salt_len)
    (λ made. (known : ScramVersion) × IsVersion version known × (made ≡ record_struct (versioned known
    (mock_record (record { version = known; secret = secret; salt_len = salt_len; count = count }) name)))) answer

-- the password is that of the record (RFC 5802, section 3); or the struct shows no record, or it shows one and a test
-- of the password holds, or none holds and the record is that of another password
abbrev pub VerifiesPassword : Struct → ℕ → List ℕ → Result (Unit {0}) Status → Type 0
VerifiesPassword kept form bytes (Ok done) = (shown : VersionedRecord) × ShowsRecord kept shown
    × ((password : PasswordText) × IsPassword form bytes password × MeetsRecord shown.version password shown.stored)
VerifiesPassword kept form bytes (Err status) = SpellsStruct kept (Err status)
    ⊎ ((shown : VersionedRecord) × ShowsRecord kept shown × (IsFirst (password_tests form bytes) status
    ⊎ (NoneHolds (password_tests form bytes) × (status ≡ statuses.OtherPassword) × ((password : PasswordText)
    × IsPassword form bytes password × ¬ MeetsRecord shown.version password shown.stored))))
