-- The text of a record (RFC 5803, section 2), as it is written and as it is read.
use Rattle.std.specs.Prelude.{ℕ, List, [], ◌∷◌, ◌++◌, ◌≡◌, ◌≢◌, ◌⊎◌, ◌≤◌, ◌<◌, ◌^◌, codes, length, Result, Err}
use Rattle.std.specs.Fmt.{decimal}
use Rattle.std.specs.List.{AllByRecursion}
use Rattle.base64.specs.GeneralPurpose.{IsBytes}
use Rattle.fe2o3_scram.specs.declared.hmac.ScramVersion.{ScramVersion}
use Rattle.fe2o3_scram.specs.declared.credentials.record_text.RecordFields.{RecordFields}
use Rattle.fe2o3_scram.specs.declared.credentials.record_text.RecordTextError.{RecordTextError}
use Rattle.fe2o3_scram.specs.declared.credentials.record_text.RecordTextError.TheVariants.{PartsMismatch, UnknownMechanism, IterationCountParseError, Base64DecodeError, KeyLengthMismatch}
use Rattle.fe2o3_scram.specs.Credentials.{VersionedRecord}
use Rattle.fe2o3_scram.specs.Hmac.{mechanism_name, digest_len}
use Rattle.fe2o3_scram.specs.Readings.{NoneHolds, Reads}
use Rattle.fe2o3_scram.specs.Texts.{IsBase64, IsPlainCount, Without, base64_text}

-- the fields of a text: the mechanism, the iteration count, the salt, the stored key and the server key
pub record Fields : Type 0 where
  pub mechanism : List ℕ
  pub count : List ℕ
  pub salt : List ℕ
  pub stored_key : List ℕ
  pub server_key : List ℕ

-- the fields with their separators
abbrev pub laid_out : Fields → List ℕ
laid_out fields = fields.mechanism ++ (codes "$" ++ (fields.count ++ (codes ":" ++ (fields.salt
    ++ (codes "$" ++ (fields.stored_key ++ (codes ":" ++ fields.server_key)))))))

-- the text has neither a dollar sign nor a colon
abbrev pub Plain : List ℕ → Type 0
Plain text = Without 36 text × Without 58 text

-- no field has a dollar sign or a colon
abbrev pub ArePlain : Fields → Type 0
ArePlain fields = AllByRecursion Plain
    (fields.mechanism ∷ fields.count ∷ fields.salt ∷ fields.stored_key ∷ fields.server_key ∷ [])

-- the text has these five fields
abbrev pub HasFields : List ℕ → Fields → Type 0
HasFields text fields = ArePlain fields × (text ≡ laid_out fields)

-- the fields that the code's value holds
abbrev pub fields_values : RecordFields → Fields
fields_values fields = record {
  mechanism = fields.mechanism.now;
  count = fields.iterations.now;
  salt = fields.salt.now;
  stored_key = fields.stored_key.now;
  server_key = fields.server_key.now;
}

-- the fields of a record
abbrev pub record_fields : VersionedRecord → Fields
record_fields kept = record {
  mechanism = mechanism_name kept.version;
  count = decimal kept.stored.count;
  salt = base64_text kept.stored.salt;
  stored_key = base64_text kept.stored.stored_key;
  server_key = base64_text kept.stored.server_key;
}

-- the one spelling of a record: the count in decimal without leading zeros, salt and keys in base64
abbrev pub record_text : VersionedRecord → List ℕ
record_text kept = laid_out (record_fields kept)

-- the text spells this key of the version, which is as long as a digest
abbrev pub IsKey : ScramVersion → List ℕ → List ℕ → Type 0
IsKey version text key = IsBase64 text key × (length key ≡ digest_len version)

-- the fields name this record
pub record NamesRecord (fields : Fields) (kept : VersionedRecord) : Type 0 where
  pub version : mechanism_name kept.version ≡ fields.mechanism
  pub count : IsPlainCount fields.count kept.stored.count
  pub salt : IsBase64 fields.salt kept.stored.salt
  pub stored_key : IsKey kept.version fields.stored_key kept.stored.stored_key
  pub server_key : IsKey kept.version fields.server_key kept.stored.server_key

-- the tests of the mechanism and of the count, in order
abbrev pub head_tests : Fields → List (RecordTextError × Type 0)
head_tests fields =
    (UnknownMechanism, (version : ScramVersion) → mechanism_name version ≢ fields.mechanism)
    ∷ (IterationCountParseError, (count : ℕ) → ¬ IsPlainCount fields.count count)
    ∷ []

-- the tests of the salt and of the keys, in order
abbrev pub value_tests : Fields → List (RecordTextError × Type 0)
value_tests fields =
    (Base64DecodeError, (salt : List ℕ) → ¬ IsBase64 fields.salt salt)
    ∷ (Base64DecodeError, (key : List ℕ) → ¬ IsBase64 fields.stored_key key)
    ∷ (Base64DecodeError, (key : List ℕ) → ¬ IsBase64 fields.server_key key)
    ∷ (
      KeyLengthMismatch,
      (version : ScramVersion) (key : List ℕ) → mechanism_name version ≡ fields.mechanism
          → ¬ IsKey version fields.stored_key key,
    )
    ∷ (
      KeyLengthMismatch,
      (version : ScramVersion) (key : List ℕ) → mechanism_name version ≡ fields.mechanism
          → ¬ IsKey version fields.server_key key,
    )
    ∷ []

-- what fields spell: the first error that applies, or the record that they name
abbrev pub ReadsFields : Fields → Result VersionedRecord RecordTextError → Type 0
ReadsFields fields answer = Reads (head_tests fields ++ value_tests fields) (NamesRecord fields) answer

-- what a text spells: the error that it does not have five fields, or what its fields spell
unfoldable pub ReadsRecord : List ℕ → Result VersionedRecord RecordTextError → Type 0
ReadsRecord text answer = (((fields : Fields) → ¬ HasFields text fields) × (answer ≡ Err PartsMismatch))
    ⊎ ((fields : Fields) × HasFields text fields × ReadsFields fields answer)

-- the reader reaches the salt, for which it allocates: the text has five fields, and the first two have passed their
-- tests
abbrev pub ReachesValues : List ℕ → Type 0
ReachesValues text = (fields : Fields) × HasFields text fields × NoneHolds (head_tests fields)

-- a record whose text is read again: it has a count, and its keys are as long as a digest
pub record IsReadable (kept : VersionedRecord) : Type 0 where
  pub some : 1 ≤ kept.stored.count
  pub small : kept.stored.count < 2 ^ 32
  pub salt : IsBytes kept.stored.salt
  pub stored_key : IsBytes kept.stored.stored_key × (length kept.stored.stored_key ≡ digest_len kept.version)
  pub server_key : IsBytes kept.stored.server_key × (length kept.stored.server_key ≡ digest_len kept.version)
