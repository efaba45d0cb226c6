-- Why no record and no keys are made of a password.
use Rattle.std.proofs.Common.{arith, refl, sym, inl, inr, ap, ◌∙◌, ◌≡◌, ◌≢◌, ◌≤◌, ◌∷◌, [], ℕ, List, length}
use Rattle.std.specs.Prelude.{Ok, Err}
use Rattle.fe2o3_scram.specs.declared.hmac.ScramVersion.{ScramVersion}
use Rattle.fe2o3_scram.specs.declared.keys.RecordError.{RecordError}
use Rattle.fe2o3_scram.specs.declared.keys.RecordError.TheVariants as records
use Rattle.fe2o3_scram.specs.Credentials.{MeetsRecord, Record, VersionedRecord, making_tests, versioned}
use Rattle.fe2o3_scram.specs.Passwords.{PasswordText, Typed, Prepared, password_bytes}
use Rattle.fe2o3_scram.specs.Readings.{IsFirst, NoneHolds}
use Rattle.fe2o3_scram.specs.SaslprepAscii.{IsPrintable}
use Rattle.sasl_c.specs.declared.records.ScramRecord.{ScramRecord as Struct}
use Rattle.sasl_c.specs.declared.status.Status.{Status}
use Rattle.sasl_c.specs.declared.status.Status.TheVariants as statuses
use Rattle.sasl_c.specs.Passwords.{IsPassword, password_tests}
use Rattle.sasl_c.specs.Records.{IsVersion, ShowsRecord, ShowsSomeRecord, VerifiesPassword, struct_making_tests}
use Rattle.sasl_c.specs.Status.{record_status}
use Rattle.sasl_c.proofs.RoomLemmas.{keys_have_room, record_has_room}
use Rattle.sasl_c.proofs.StatusLemmas.{carried}

-- keys are made of the same bytes in either form
pub bytes_of : (form : ℕ) (bytes : List ℕ) (password : PasswordText) → IsPassword form bytes password
    → password_bytes password ≡ bytes
bytes_of form bytes (Typed text) is = is.1
bytes_of form bytes (Prepared text) is = is.1

-- the tests of a password that makes keys are those of the struct
abbrev own_tests : ℕ → List ℕ → ℕ → List (Status × Type 0)
own_tests form bytes count =
    (statuses.NotPrintable, (form ≡ 0) × ¬ IsPrintable bytes) ∷ (statuses.ZeroIterations, count ≡ 0) ∷ []

none_own : (form : ℕ) (bytes : List ℕ) (password : PasswordText) (count : ℕ) → IsPassword form bytes password
    → NoneHolds (making_tests password count) → NoneHolds (own_tests form bytes count)
none_own form bytes (Typed text) count is none =
    ((λ wrong. none.0 (carried (λ given. ¬ IsPrintable given) bytes text (sym is.1) wrong.1)), (none.1.0, tt))
none_own form bytes (Prepared text) count is none =
    ((λ wrong. absurd (omega (arith, wrong.0, is.0))), (none.1.0, tt))

first_own : (form : ℕ) (bytes : List ℕ) (password : PasswordText) (count : ℕ) (why : RecordError)
    → IsPassword form bytes password → IsFirst (making_tests password count) why
    → IsFirst (own_tests form bytes count) (record_status why)
first_own form bytes (Typed text) count why is (inl (wrong, same)) =
    inl ((is.0, carried (λ given. ¬ IsPrintable given) text bytes is.1 wrong), ap record_status same)
first_own form bytes (Typed text) count why is (inr (normal, inl (zero, same))) = inr (
  (λ wrong. normal (carried (λ given. ¬ IsPrintable given) bytes text (sym is.1) wrong.1)),
  inl (zero, ap record_status same),
)
first_own form bytes (Prepared text) count why is (inl (wrong, same)) = absurd (wrong tt)
first_own form bytes (Prepared text) count why is (inr (normal, inl (zero, same))) =
    inr ((λ wrong. absurd (omega (arith, wrong.0, is.0))), inl (zero, ap record_status same))
first_own form bytes password count why is (inr (normal, inr (some, nothing))) = absurd nothing

-- a password that makes keys passes the tests of the struct
pub is_made : (version form : ℕ) (bytes salt : List ℕ) (count : ℕ) (known : ScramVersion) (password : PasswordText)
    → IsVersion version known → IsPassword form bytes password → NoneHolds (password_tests form bytes)
    → length salt ≤ 128 → NoneHolds (making_tests password count)
    → NoneHolds (struct_making_tests version form bytes salt count)
is_made version form bytes salt count known password is given tests short none = (
  (λ other. other known is),
  (
    tests.0,
    (tests.1.0, ((λ long. absurd (omega (arith, long, short))), none_own form bytes password count given none)),
  ),
)

-- and the error of one that makes none is that of the struct
pub not_made : (version form : ℕ) (bytes salt : List ℕ) (count : ℕ) (known : ScramVersion) (password : PasswordText)
    (why : RecordError) (status : Status) → IsVersion version known → IsPassword form bytes password
    → NoneHolds (password_tests form bytes) → length salt ≤ 128
    → (why ≡ records.OutOfMemory → NoneHolds (making_tests password count))
    × (why ≢ records.OutOfMemory → IsFirst (making_tests password count) why) → status ≡ record_status why
    → (status ≡ statuses.OutOfMemory → NoneHolds (struct_making_tests version form bytes salt count))
    × (status ≢ statuses.OutOfMemory → IsFirst (struct_making_tests version form bytes salt count) status)
not_made version form bytes salt count known password why status is given tests short held gives = (
  λ memory. is_made version form bytes salt count known password is given tests short
      (held.0 (is_memory why (sym gives ∙ memory))),
  λ other.
      let first = first_own form bytes password count why given (held.1 (λ same. other (gives ∙ ap record_status same)))
      in inr (
        (λ none. none known is),
        inr (
          tests.0,
          inr (
            tests.1.0,
            inr (
              (λ long. absurd (omega (arith, long, short))),
              carried (IsFirst (own_tests form bytes count)) (record_status why) status (sym gives) first,
            ),
          ),
        ),
      ),
) where
  is_memory : (why : RecordError) → record_status why ≡ statuses.OutOfMemory → why ≡ records.OutOfMemory
  is_memory records.NormalizeError memory = absurd (cc)
  is_memory records.ZeroIterations memory = absurd (cc)
  is_memory records.OutOfMemory memory = refl

pub ruleset makes = (record_has_room, keys_have_room, bytes_of, is_made, not_made)

-- the struct shows one
pub shows_some : (kept : Struct) (shown : VersionedRecord) → ShowsRecord kept shown → ShowsSomeRecord kept
shows_some kept shown is = (shown, is)

-- what comes of comparing a password with a record
pub verified : (kept : Struct) (form : ℕ) (bytes : List ℕ) (version : ScramVersion) (stored : Record)
    (password : PasswordText) → ShowsRecord kept (versioned version stored) → IsPassword form bytes password
    → MeetsRecord version password stored → VerifiesPassword kept form bytes (Ok tt)
verified kept form bytes version stored password is given meets =
    (versioned version stored, is, (password, given, meets))

pub not_tested : (kept : Struct) (form : ℕ) (bytes : List ℕ) (version : ScramVersion) (stored : Record)
    (status : Status) → ShowsRecord kept (versioned version stored) → IsFirst (password_tests form bytes) status
    → VerifiesPassword kept form bytes (Err status)
not_tested kept form bytes version stored status is first = inr (versioned version stored, is, inl first)

pub other_password : (kept : Struct) (form : ℕ) (bytes : List ℕ) (version : ScramVersion) (stored : Record)
    (password : PasswordText) → ShowsRecord kept (versioned version stored) → IsPassword form bytes password
    → NoneHolds (password_tests form bytes) → ¬ MeetsRecord version password stored
    → VerifiesPassword kept form bytes (Err statuses.OtherPassword)
other_password kept form bytes version stored password is given none other =
    inr (versioned version stored, is, inr (none, refl, (password, given, other)))
