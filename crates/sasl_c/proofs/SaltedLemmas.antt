-- What is made of a SaltedPassword, and tested against a record (RFC 5802, section 3).
use Rattle.std.proofs.Common.{arith, refl, sym, ap, inl, inr, ◌∙◌, ◌≡◌, ◌≢◌, ◌<◌, ◌≤◌, ◌∷◌, [], ℕ, zero, suc, List, length}
use Rattle.std.specs.Prelude.{Ok, Err}
use Rattle.fe2o3_scram.specs.declared.credentials.record_text.RecordTextError.TheVariants.{KeyLengthMismatch}
use Rattle.fe2o3_scram.specs.declared.hmac.ScramVersion.{ScramVersion}
use Rattle.fe2o3_scram.specs.declared.hmac.ScramVersion.TheVariants as versions
use Rattle.fe2o3_scram.specs.ClientKeys.{keys_with}
use Rattle.fe2o3_scram.specs.Credentials.{MeetsRecord, Record, VersionedRecord, record_of, record_of_salted, versioned}
use Rattle.fe2o3_scram.specs.Hmac.{digest, digest_len, hmac_of}
use Rattle.fe2o3_scram.specs.Keys.{client_key, server_key}
use Rattle.fe2o3_scram.specs.Passwords.{password_bytes}
use Rattle.fe2o3_scram.specs.Pbkdf2Hi.{round_of, salted_of}
use Rattle.fe2o3_scram.specs.Readings.{IsFirst, NoneHolds}
use Rattle.fe2o3_scram.proofs.lemmas.hashes.DigestLemmas.{length-digest, length-hmac_of}
use Rattle.fe2o3_scram.proofs.lemmas.messages.ExchangeLemmas.{length-exclusive_or}
use Rattle.sasl_c.specs.declared.keys.ScramKeys.{ScramKeys}
use Rattle.sasl_c.specs.declared.records.ScramRecord.{ScramRecord}
use Rattle.sasl_c.specs.declared.status.Status.TheVariants as statuses
use Rattle.sasl_c.specs.Keys.{keys_struct}
use Rattle.sasl_c.specs.Records.{IsVersion, ShowsRecord, record_struct, stored_of, struct_making_tests}
use Rattle.sasl_c.specs.Salted.{IsSaltedOf, KeysAreOfPassword, MakesKeysOfSalted, MakesRecordOfSalted, MeetsSalted, RecordIsOfPassword, SaltedVerifiesAsPassword, VerifiesSalted, salted_tests}
use Rattle.sasl_c.proofs.FieldLemmas.{one_number}
use Rattle.sasl_c.proofs.RecordLemmas.{bytes_of}
use Rattle.sasl_c.proofs.StatusLemmas.{carried}

-- ---- the tests

-- the hash of a number is one
of_one : (version : ℕ) (known other : ScramVersion) → IsVersion version known → IsVersion version other → other ≡ known
of_one version known other is too = one_number other known (too ∙ sym is)

pub other_length : (version : ℕ) (salted salt : List ℕ) (count : ℕ) (known : ScramVersion) → IsVersion version known
    → length salted ≢ digest_len known
    → IsFirst (salted_tests version salted salt count) (statuses.NoRecord KeyLengthMismatch)
other_length version salted salt count known is odd = inr (
  (λ none. none known is),
  inl ((λ sized. odd (sized.2 ∙ ap digest_len (of_one version known sized.0 is sized.1))), refl),
)

pub long_salt : (version : ℕ) (salted salt : List ℕ) (count : ℕ) (known : ScramVersion) → IsVersion version known
    → length salted ≡ digest_len known → 128 < length salt
    → IsFirst (salted_tests version salted salt count) statuses.TooLong
long_salt version salted salt count known is sized long =
    inr ((λ none. none known is), inr ((λ wrong. wrong (known, is, sized)), inl (long, refl)))

pub no_rounds : (version : ℕ) (salted salt : List ℕ) (count : ℕ) (known : ScramVersion) → IsVersion version known
    → length salted ≡ digest_len known → length salt ≤ 128 → count ≡ 0
    → IsFirst (salted_tests version salted salt count) statuses.ZeroIterations
no_rounds version salted salt count known is sized short none = inr (
  (λ other. other known is),
  inr ((λ wrong. wrong (known, is, sized)), inr ((λ long. absurd (omega (arith, long, short))), inl (none, refl))),
)

pub all_pass : (version : ℕ) (salted salt : List ℕ) (count : ℕ) (known : ScramVersion) → IsVersion version known
    → length salted ≡ digest_len known → length salt ≤ 128 → count ≢ 0
    → NoneHolds (salted_tests version salted salt count)
all_pass version salted salt count known is sized short some = (
  (λ other. other known is),
  ((λ wrong. wrong (known, is, sized)), ((λ long. absurd (omega (arith, long, short))), (some, tt))),
)

pub ruleset tested = (other_length, long_salt, no_rounds, all_pass)

-- ---- what is made

fits : (version : ScramVersion) → digest_len version ≤ 64
fits versions.Sha1 = omega arith
fits versions.Sha256 = omega arith
fits versions.Sha512 = omega arith

pub digest_fits : (version : ScramVersion) (message : List ℕ) → length (digest version message) ≤ 64
digest_fits version message = omega (arith, length-digest version message, fits version)

pub mac_fits : (version : ScramVersion) (key message : List ℕ) → length (hmac_of version key message) ≤ 64
mac_fits version key message = omega (arith, length-hmac_of version key message, fits version)

pub keys_made : (version : ℕ) (salted salt : List ℕ) (count : ℕ) (known : ScramVersion) (keys : ScramKeys)
    → IsVersion version known → NoneHolds (salted_tests version salted salt count)
    → keys ≡ keys_struct (keys_with known salt count (client_key known salted) (server_key known salted))
    → MakesKeysOfSalted version salted salt count (Ok keys)
keys_made version salted salt count known keys is none same = (none, (known, is, same))

pub record_made : (version : ℕ) (salted salt : List ℕ) (count : ℕ) (known : ScramVersion) (kept : ScramRecord)
    → IsVersion version known → NoneHolds (salted_tests version salted salt count)
    → kept ≡ record_struct (versioned known (record_of_salted known salted salt count))
    → MakesRecordOfSalted version salted salt count (Ok kept)
record_made version salted salt count known kept is none same = (none, (known, is, same))

pub ruleset sized = (digest_fits, mac_fits, keys_made, record_made)

-- ---- what is tested against a record

pub odd_length : (kept : ScramRecord) (salted : List ℕ) (version : ScramVersion) (stored : Record)
    → ShowsRecord kept (versioned version stored) → length salted ≢ digest_len version
    → VerifiesSalted kept salted (Err (statuses.NoRecord KeyLengthMismatch))
odd_length kept salted version stored is odd = inr (versioned version stored, is, inl (refl, odd))

pub no_count : (kept : ScramRecord) (salted : List ℕ) (version : ScramVersion) (stored : Record)
    → ShowsRecord kept (versioned version stored) → length salted ≡ digest_len version → stored.count ≡ 0
    → VerifiesSalted kept salted (Err statuses.OtherPassword)
no_count kept salted version stored is sized none =
    inr (versioned version stored, is, inr (refl, sized, (λ meets. meets.0 none)))

pub other_salted : (kept : ScramRecord) (salted : List ℕ) (version : ScramVersion) (stored : Record)
    → ShowsRecord kept (versioned version stored) → length salted ≡ digest_len version
    → ¬ (record_of_salted version salted stored.salt stored.count ≡ stored)
    → VerifiesSalted kept salted (Err statuses.OtherPassword)
other_salted kept salted version stored is sized other =
    inr (versioned version stored, is, inr (refl, sized, (λ meets. other meets.1)))

pub same_salted : (kept : ScramRecord) (salted : List ℕ) (version : ScramVersion) (stored : Record)
    → ShowsRecord kept (versioned version stored) → length salted ≡ digest_len version → stored.count ≢ 0
    → record_of_salted version salted stored.salt stored.count ≡ stored → VerifiesSalted kept salted (Ok tt)
same_salted kept salted version stored is sized some same = (versioned version stored, is, (sized, (some, same)))

-- ---- of the SaltedPassword of a password the same is made as of the password

-- Hi is as long as a digest
pub length-salted_of : (version : ScramVersion) (password salt : List ℕ) (count : ℕ) → count ≢ 0
    → length (salted_of version password salt count) ≡ digest_len version
unfolding salted_of round_of
length-salted_of version password salt zero some = absurd (some refl)
length-salted_of version password salt (suc zero) some = length-hmac_of version password _
length-salted_of version password salt (suc (suc n)) some =
    let before : length (salted_of version password salt (suc n)) ≡ digest_len version =
    length-salted_of version password salt (suc n) (λ none. absurd (omega (arith, none))) in
    let round : length (round_of version password salt (suc (suc n))) ≡ digest_len version =
    length-hmac_of version password _ in
    length-exclusive_or _ _ (before ∙ sym round) ∙ before

none_first : {F : Type 0} (tests : List (F × Type 0)) (fault : F) → NoneHolds tests → IsFirst tests fault → ⊥
none_first [] fault none first = first
none_first (test ∷ tests) fault none (inl found) = none.0 found.0
none_first (test ∷ tests) fault none (inr later) = none_first tests fault none.1 later.1

-- the tests of the SaltedPassword pass where those of the password do
salted_pass : (version form : ℕ) (password salted salt : List ℕ) (count : ℕ)
    → IsSaltedOf version salted password salt count → NoneHolds (struct_making_tests version form password salt count)
    → NoneHolds (salted_tests version salted salt count)
salted_pass version form password salted salt count (known, is, same) none = (
  (λ other. other known is),
  (
    (λ wrong. wrong (known, is, ap length same ∙ length-salted_of known password salt count none.1.1.1.1.1.0)),
    (none.1.1.1.0, (none.1.1.1.1.1.0, tt)),
  ),
)

-- it is that of the hash of the number, whichever way it is found
of_hash : (version : ℕ) (password salted salt : List ℕ) (count : ℕ) (hash : ScramVersion)
    → IsSaltedOf version salted password salt count → IsVersion version hash
    → salted ≡ salted_of hash password salt count
of_hash version password salted salt count hash (known, is, same) too =
    same ∙ ap (λ (v : ScramVersion). salted_of v password salt count) (of_one version hash known too is)

pub keys_are_of_password : KeysAreOfPassword
keys_are_of_password version form password salted salt count (Ok made) of none = (
  λ keys. (
    none,
    (
      keys.1.0,
      keys.1.1,
      keys.1.2 ∙ ap (keys_by keys.1.0)
          (of_hash version password salted salt count keys.1.0 of keys.1.1),
    ),
  ),
  λ keys. (
    salted_pass version form password salted salt count of none,
    (
      keys.1.0,
      keys.1.1,
      keys.1.2
          ∙ ap (keys_by keys.1.0) (sym (of_hash version password salted salt count keys.1.0 of keys.1.1)),
    ),
  ),
) where
  keys_by : ScramVersion → List ℕ → ScramKeys
  keys_by hash bytes = keys_struct (keys_with hash salt count (client_key hash bytes) (server_key hash bytes))
keys_are_of_password version form password salted salt count (Err status) of none = (
  λ first. absurd (none_first (salted_tests version salted salt count) status
      (salted_pass version form password salted salt count of none) first),
  λ first. absurd (none_first (struct_making_tests version form password salt count) status none first),
)

pub record_is_of_password : RecordIsOfPassword
record_is_of_password version form password salted salt count (Ok made) of none = (
  λ kept. (
    none,
    (
      kept.1.0,
      kept.1.1,
      kept.1.2 ∙ ap (record_by kept.1.0)
          (of_hash version password salted salt count kept.1.0 of kept.1.1),
    ),
  ),
  λ kept. (
    salted_pass version form password salted salt count of none,
    (
      kept.1.0,
      kept.1.1,
      kept.1.2
          ∙ ap (record_by kept.1.0) (sym (of_hash version password salted salt count kept.1.0 of kept.1.1)),
    ),
  ),
) where
  record_by : ScramVersion → List ℕ → ScramRecord
  record_by hash bytes = record_struct (versioned hash (record_of_salted hash bytes salt count))
record_is_of_password version form password salted salt count (Err status) of none = (
  λ first. absurd (none_first (salted_tests version salted salt count) status
      (salted_pass version form password salted salt count of none) first),
  λ first. absurd (none_first (struct_making_tests version form password salt count) status none first),
)

-- a struct shows one record
pub one_shown : (kept : ScramRecord) (shown other : VersionedRecord) → ShowsRecord kept shown → ShowsRecord kept other
    → other ≡ shown
one_shown kept shown other is too =
    let hash : other.version ≡ shown.version = of_one kept.version shown.version other.version is.0 too.0 in
    let stored : other.stored ≡ shown.stored =
    too.2 ∙ ap (λ (v : ScramVersion). stored_of v kept) hash ∙ sym is.2 in
    ap (λ (v : ScramVersion). versioned v other.stored) hash ∙ ap (versioned shown.version) stored

pub salted_verifies_as_password : SaltedVerifiesAsPassword
salted_verifies_as_password kept shown form bytes salted password is given normal some same = (
  λ met.
      let meets : MeetsSalted shown.version salted shown.stored = carried
      (λ (s : VersionedRecord). MeetsSalted s.version salted s.stored) met.0 shown
      (one_shown kept shown met.0 is met.1) met.2.1 in
      (shown, is, (password, given, (((λ wrong. wrong normal), (some, tt)), sym of_password ∙ meets.1))),
  λ met.
      let meets : MeetsRecord shown.version met.2.0 shown.stored = carried
      (λ (s : VersionedRecord). MeetsRecord s.version met.2.0 s.stored) met.0 shown
      (one_shown kept shown met.0 is met.1) met.2.2 in
      let text : password_bytes met.2.0 ≡ bytes = bytes_of form bytes met.2.0 met.2.1 in (
        shown,
        is,
        (
          ap length same ∙ length-salted_of shown.version bytes shown.stored.salt shown.stored.count some,
          (some, of_bytes ∙ sym (ap record_by text) ∙ meets.1),
        ),
      ),
) where
  record_by : List ℕ → Record
  record_by text = record_of shown.version text shown.stored.salt shown.stored.count

  of_bytes : record_of_salted shown.version salted shown.stored.salt shown.stored.count ≡ record_by bytes
  of_bytes = ap (λ (s : List ℕ). record_of_salted shown.version s shown.stored.salt shown.stored.count) same

  of_password : record_of_salted shown.version salted shown.stored.salt shown.stored.count
      ≡ record_by (password_bytes password)
  of_password = of_bytes ∙ sym (ap record_by (bytes_of form bytes password given))
