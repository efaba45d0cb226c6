-- What is made of a SaltedPassword that the caller computed (RFC 5802, section 3), and tested against a record.
use Rattle.std.specs.Prelude.{◌≡◌, ◌≢◌, ◌<◌, ◌⊎◌, ◌↔◌, ℕ, List, [], ◌∷◌, length, Result, Ok, Err}
use Rattle.fe2o3_scram.specs.declared.credentials.record_text.RecordTextError.TheVariants.{KeyLengthMismatch}
use Rattle.fe2o3_scram.specs.declared.hmac.ScramVersion.{ScramVersion}
use Rattle.fe2o3_scram.specs.ClientKeys.{keys_with}
use Rattle.fe2o3_scram.specs.Credentials.{Record, VersionedRecord, record_of_salted, versioned}
use Rattle.fe2o3_scram.specs.Hmac.{digest_len}
use Rattle.fe2o3_scram.specs.Keys.{client_key, server_key}
use Rattle.fe2o3_scram.specs.Passwords.{IsNormal, PasswordText}
use Rattle.fe2o3_scram.specs.Pbkdf2Hi.{salted_of}
use Rattle.fe2o3_scram.specs.Readings.{NoneHolds, Reads}
use Rattle.sasl_c.specs.declared.keys.ScramKeys.{ScramKeys}
use Rattle.sasl_c.specs.declared.records.ScramRecord.{ScramRecord}
use Rattle.sasl_c.specs.declared.status.Status.{Status}
use Rattle.sasl_c.specs.declared.status.Status.TheVariants as statuses
use Rattle.sasl_c.specs.Keys.{MakesKeysStruct, keys_struct}
use Rattle.sasl_c.specs.Passwords.{IsPassword}
use Rattle.sasl_c.specs.Records.{IsVersion, MakesRecordStruct, ShowsRecord, SpellsStruct, VerifiesPassword, record_struct, struct_making_tests}

-- bytes that are as long as a digest of the hash of this number. A SaltedPassword is: Hi is PBKDF2 with one block of
-- output (RFC 5802, section 2.2)
abbrev pub IsSaltedLength : ℕ → List ℕ → Type 0
IsSaltedLength version salted = (known : ScramVersion) × IsVersion version known × (length salted ≡ digest_len known)

-- the tests before keys or a record are made of a SaltedPassword (RFC 5802, sections 2.2 and 5.1), in their order
abbrev pub salted_tests : ℕ → List ℕ → List ℕ → ℕ → List (Status × Type 0)
salted_tests version salted salt count =
    (statuses.NoSuchVersion, (known : ScramVersion) → ¬ IsVersion version known)
    ∷ (statuses.NoRecord KeyLengthMismatch, ¬ IsSaltedLength version salted) ∷ (statuses.TooLong, 128 < length salt)
    ∷ (statuses.ZeroIterations, count ≡ 0) ∷ []

-- the keys of a SaltedPassword (RFC 5802, section 3): the first error that holds, or their struct
abbrev pub MakesKeysOfSalted : ℕ → List ℕ → List ℕ → ℕ → Result ScramKeys Status → Type 0
MakesKeysOfSalted version salted salt count answer = Reads (salted_tests version salted salt count)
    (λ made. (known : ScramVersion) × IsVersion version known
    × (made ≡ keys_struct (keys_with known salt count (client_key known salted) (server_key known salted)))) answer

-- the record of a SaltedPassword (RFC 5802, section 3): the first error that holds, or its struct
abbrev pub MakesRecordOfSalted : ℕ → List ℕ → List ℕ → ℕ → Result ScramRecord Status → Type 0
MakesRecordOfSalted version salted salt count answer = Reads (salted_tests version salted salt count)
    (λ made. (known : ScramVersion) × IsVersion version known
    × (made ≡ record_struct (versioned known (record_of_salted known salted salt count)))) answer

-- a SaltedPassword meets a record (RFC 5802, sections 3 and 5.1): the count is not 0, and the record is that of the
-- SaltedPassword with the record's salt and count
abbrev pub MeetsSalted : ScramVersion → List ℕ → Record → Type 0
MeetsSalted version salted stored = (stored.count ≢ 0)
    × (record_of_salted version salted stored.salt stored.count ≡ stored)

-- the SaltedPassword is that of the record (RFC 5802, section 3); or the struct shows no record, or it shows one and
-- the bytes are not as long as a digest, or they are and the record is that of another SaltedPassword
abbrev pub VerifiesSalted : ScramRecord → List ℕ → Result (Unit {0}) Status → Type 0
VerifiesSalted kept salted (Ok done) = (shown : VersionedRecord) × ShowsRecord kept shown
    × ((length salted ≡ digest_len shown.version) × MeetsSalted shown.version salted shown.stored)
VerifiesSalted kept salted (Err status) = SpellsStruct kept (Err status)
    ⊎ ((shown : VersionedRecord) × ShowsRecord kept shown
    × (((status ≡ statuses.NoRecord KeyLengthMismatch) × (length salted ≢ digest_len shown.version))
    ⊎ ((status ≡ statuses.OtherPassword) × (length salted ≡ digest_len shown.version)
    × ¬ MeetsSalted shown.version salted shown.stored)))

-- ---- what joins these with a password

-- the SaltedPassword of a password, with the hash of this number: Hi(password, salt, count) (RFC 5802, section 3)
abbrev pub IsSaltedOf : ℕ → List ℕ → List ℕ → List ℕ → ℕ → Type 0
IsSaltedOf version salted password salt count = (known : ScramVersion) × IsVersion version known
    × (salted ≡ salted_of known password salt count)

-- of the SaltedPassword of a password whose tests pass, typed or prepared, the same keys are made as of the password
abbrev pub KeysAreOfPassword : Type 0
KeysAreOfPassword = (version form : ℕ) (password salted salt : List ℕ) (count : ℕ) (answer : Result ScramKeys Status)
    → IsSaltedOf version salted password salt count → NoneHolds (struct_making_tests version form password salt count)
    → MakesKeysOfSalted version salted salt count answer ↔ MakesKeysStruct version form password salt count answer

-- and the same record
abbrev pub RecordIsOfPassword : Type 0
RecordIsOfPassword = (version form : ℕ) (password salted salt : List ℕ) (count : ℕ) (answer : Result ScramRecord Status)
    → IsSaltedOf version salted password salt count → NoneHolds (struct_making_tests version form password salt count)
    → MakesRecordOfSalted version salted salt count answer ↔ MakesRecordStruct version form password salt count answer

-- and the SaltedPassword with a record's salt and count, of at least 1, is that of the record exactly if the password
-- is
abbrev pub SaltedVerifiesAsPassword : Type 0
SaltedVerifiesAsPassword = (kept : ScramRecord) (shown : VersionedRecord) (form : ℕ) (bytes salted : List ℕ)
    (password : PasswordText) → ShowsRecord kept shown → IsPassword form bytes password → IsNormal password
    → shown.stored.count ≢ 0 → salted ≡ salted_of shown.version bytes shown.stored.salt shown.stored.count
    → VerifiesSalted kept salted (Ok tt) ↔ VerifiesPassword kept form bytes (Ok tt)
