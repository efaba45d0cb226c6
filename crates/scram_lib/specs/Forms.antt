-- The form of a new record: the length of its salt and its iteration count (RFC 5802, section 3). A server shows both to
-- anyone who names a user (section 5.1), so records that look alike do not show which users exist.
use Rattle.std.specs.Prelude.{ℕ, Bool, IsTrue, List, [], ◌∷◌, ◌&&◌, ◌≡◌, Option, None, Some, Ok, length, min, option_map, unwrap_or}
use Rattle.hex.specs.Hex.{decode_of}
use Rattle.fe2o3_scram.specs.declared.hmac.ScramVersion.{ScramVersion}
use Rattle.fe2o3_scram.specs.declared.hmac.ScramVersion.TheVariants.{Sha1}
use Rattle.fe2o3_scram.specs.Credentials.{Records, VersionedRecord, record_of, versioned}
use Rattle.fe2o3_scram.specs.Mixed.{MultiRecords, provider_for}
use Rattle.fe2o3_scram.specs.MultiRecordLines.{mixed_text}
use Rattle.scram_lib.specs.declared.form.Form.{Form}
use Rattle.scram_lib.specs.declared.record.NewRecord.{NewRecord}
use Rattle.scram_lib.specs.declared.users.changes.Put.{Put}

-- the form of a new file's records: salts of 16 bytes, and the least count that RFC 7677, section 4, asks for
abbrev pub new_form : Form
new_form = record { salt_len = 16; iterations = 4096 }

-- the form of the first record, or that of a new file's records
abbrev pub form_of : Records → Form
form_of [] = new_form
form_of (user ∷ users) = record { salt_len = length user.1.salt; iterations = user.1.count }

-- the form of the first record for a version
abbrev pub form_for : ScramVersion → MultiRecords → Form
form_for version users = form_of (provider_for version users).records

-- the salts of mock records: as long as those of the form, and no longer than an HMAC value of SHA-512
abbrev pub mock_len : Form → ℕ
mock_len form = min form.salt_len 64

-- the salt of a new record: that of an argument, or otherwise one of this length
abbrev pub IsSaltOf : Option (List ℕ) → ℕ → List ℕ → Type 0
IsSaltOf None len salt = length salt ≡ len
IsSaltOf (Some digits) len salt = decode_of digits ≡ Ok salt

-- the salt of a new record: that of the argument, or one of the length that an argument chooses, or as long as that of the
-- first record
abbrev pub IsNewSalt : NewRecord → Form → List ℕ → Type 0
IsNewSalt asked first salt =
    IsSaltOf (option_map (λ digits. digits.now) asked.salt) (unwrap_or asked.salt_len first.salt_len) salt

-- the new record of a password for a version, by its arguments and the form of the first record for the version
pub record IsNewRecord (asked : NewRecord) (version : ScramVersion) (first : Form) (password : List ℕ)
    (made : VersionedRecord) : Type 0 where
  pub salt : IsNewSalt asked first made.stored.salt
  pub keys : made ≡ versioned version
      (record_of version password made.stored.salt (unwrap_or asked.iterations first.iterations))

-- the line of a new record of the user (RFC 5802, section 5.1; RFC 5803, section 2), with its line feed
abbrev pub IsNewLine : Put → ScramVersion → Form → List ℕ → Type 0
IsNewLine put version first line = (made : VersionedRecord) × IsNewRecord put.asked version first put.password.now made
    × (line ≡ mixed_text ((put.name.now, made) ∷ []))

-- a version for which a user gets a record: that of the argument; without one SHA-256 and SHA-512, and SHA-1 only if the user
-- has to exist and has such a record
abbrev pub IsMade : Option ScramVersion → Bool → ScramVersion → Bool → Type 0
IsMade (Some asked) must_exist version has = asked ≡ version
IsMade None must_exist Sha1 has = IsTrue (must_exist && has)
IsMade None must_exist version has = Unit {0}
