-- A record that is made of its fields (RFC 5802, section 3).
use Rattle.std.specs.Prelude.{◌≡◌, ◌<◌, ℕ, List, [], ◌∷◌, length, Result}
use Rattle.fe2o3_scram.specs.declared.credentials.record_text.RecordTextError.TheVariants.{KeyLengthMismatch}
use Rattle.fe2o3_scram.specs.declared.hmac.ScramVersion.{ScramVersion}
use Rattle.fe2o3_scram.specs.Credentials.{versioned}
use Rattle.fe2o3_scram.specs.Hmac.{digest_len}
use Rattle.fe2o3_scram.specs.Readings.{Reads}
use Rattle.sasl_c.specs.declared.records.ScramRecord.{ScramRecord as Struct}
use Rattle.sasl_c.specs.declared.status.Status.{Status}
use Rattle.sasl_c.specs.declared.status.Status.TheVariants as statuses
use Rattle.sasl_c.specs.Records.{IsVersion, record_struct}

-- both keys are as long as a digest of the hash of this number (RFC 5802, section 3: StoredKey is a digest, and ServerKey
-- an HMAC value)
abbrev pub AreDigests : ℕ → List ℕ → List ℕ → Type 0
AreDigests version stored_key server_key = (known : ScramVersion) × IsVersion version known
    × (length stored_key ≡ digest_len known) × (length server_key ≡ digest_len known)

-- the tests of fields, in their order
abbrev pub field_tests : ℕ → List ℕ → ℕ → List ℕ → List ℕ → List (Status × Type 0)
field_tests version salt count stored_key server_key =
    (statuses.NoSuchVersion, (known : ScramVersion) → ¬ IsVersion version known) ∷ (statuses.TooLong, 128 < length salt)
    ∷ (statuses.ZeroIterations, count ≡ 0)
    ∷ (statuses.NoRecord KeyLengthMismatch, ¬ AreDigests version stored_key server_key) ∷ []

-- the record of these fields: the first error that holds, or its struct
abbrev pub MakesFromFields : ℕ → List ℕ → ℕ → List ℕ → List ℕ → Result Struct Status → Type 0
MakesFromFields version salt count stored_key server_key answer =
    Reads (field_tests version salt count stored_key server_key) (λ made. (known : ScramVersion) × IsVersion version known
    × (made ≡ record_struct (versioned known
    (record { salt = salt; count = count; stored_key = stored_key; server_key = server_key })))) answer
