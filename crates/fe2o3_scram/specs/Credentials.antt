-- What a server stores for its users (RFC 5802, section 3).
use Rattle.std.specs.Prelude.{ℕ, List, [], ◌∷◌, ◌≡◌, ◌≤◌, ◌+◌, Option, Some, None, Result, Ok, Err, if◌then◌else◌, filter, nat_eq, not}
use Rattle.std.specs.Cmp.Lexicographic.{pointwise}
use Rattle.fe2o3_scram.specs.declared.hmac.ScramVersion.{ScramVersion}
use Rattle.fe2o3_scram.specs.declared.provider.StoredPassword.{StoredPassword}
use Rattle.fe2o3_scram.specs.declared.scram_messages.server_rules.ServerRules.{ServerRules}
use Rattle.fe2o3_scram.specs.declared.keys.RecordError.{RecordError}
use Rattle.fe2o3_scram.specs.ActingRights.{Rights}
use Rattle.fe2o3_scram.specs.declared.keys.RecordError.TheVariants.{NormalizeError, ZeroIterations, OutOfMemory}
use Rattle.fe2o3_scram.specs.Keys.{client_key, stored_key, server_key}
use Rattle.fe2o3_scram.specs.Pbkdf2Hi.{salted_of}
use Rattle.fe2o3_scram.specs.Readings.{NoneHolds, Reads}
use Rattle.fe2o3_scram.specs.Passwords.{PasswordText, IsNormal, password_bytes}

-- what is stored for a password (RFC 5802, section 3)
pub record Record : Type 0 where
  pub salt : List ℕ
  pub count : ℕ
  pub stored_key : List ℕ
  pub server_key : List ℕ

-- the record of a password with a salt and a count (RFC 5802, section 3)
abbrev pub record_of : ScramVersion → List ℕ → List ℕ → ℕ → Record
record_of version password salt count =
    let salted = salted_of version password salt count in
    record {
      salt = salt;
      count = count;
      stored_key = stored_key version (client_key version salted);
      server_key =
          server_key version salted;
    }

-- the record of a salted password (RFC 5802, section 3), which was computed with this salt and this count
abbrev pub record_of_salted : ScramVersion → List ℕ → List ℕ → ℕ → Record
record_of_salted version salted salt count = record {
  salt = salt;
  count = count;
  stored_key = stored_key version (client_key version salted);
  server_key = server_key version salted;
}

-- a record and the version that it is for
pub record VersionedRecord : Type 0 where
  pub version : ScramVersion
  pub stored : Record

-- a record for this version
abbrev pub versioned : ScramVersion → Record → VersionedRecord
versioned version stored = record { version = version; stored = stored }

-- the tests before a record is made of a password, in order (RFC 4013, section 2; RFC 5802, section 5.1)
abbrev pub making_tests : PasswordText → ℕ → List (RecordError × Type 0)
making_tests password count = (NormalizeError, ¬ IsNormal password) ∷ (ZeroIterations, count ≡ 0) ∷ []

-- the result of making a record of a password (RFC 5802, section 3): the first error that applies, or its record
abbrev pub MakesRecord : ScramVersion → PasswordText → List ℕ → ℕ → Result VersionedRecord RecordError → Type 0
MakesRecord version password salt count answer = Reads (making_tests password count)
    (λ made. made ≡ record { version = version; stored = record_of version (password_bytes password) salt count })
    answer

-- the HMAC values of making keys or a record (RFC 5802, section 3), as a meter shows them before and after: one for
-- each iteration and one for each of two keys, none for an error, and at most that many if memory ran out
abbrev pub MakingCosts : {A : Type 0} → ℕ → Result A RecordError → ℕ → ℕ → Type 0
MakingCosts count (Ok made) before after = after ≡ before + (count + 2)
MakingCosts count (Err OutOfMemory) before after = (before ≤ after) × (after ≤ before + (count + 2))
MakingCosts count (Err fault) before after = after ≡ before

-- a password meets a record (RFC 5802, section 3): no test rejects it with the record's count, and it gives the same
-- record with this salt and this count
abbrev pub MeetsRecord : ScramVersion → PasswordText → Record → Type 0
MeetsRecord version password stored = NoneHolds (making_tests password stored.count)
    × (record_of version (password_bytes password) stored.salt stored.count ≡ stored)

-- the HMAC values of testing a password against a record (RFC 5802, section 3), as a meter shows them before and after:
-- those of making the record, and none if a test rejects the password
abbrev pub CheckingCosts : PasswordText → ℕ → ℕ → ℕ → Type 0
CheckingCosts password count before after = (NoneHolds (making_tests password count) → after ≡ before + (count + 2))
    × (¬ NoneHolds (making_tests password count) → after ≡ before)

-- a finite map from user names to records (RFC 5802, section 3): of the pairs of one name the first counts
abbrev pub Records : Type 0
Records = List (List ℕ × Record)

-- the record that counts for a name
abbrev pub record_at : Records → List ℕ → Option Record
record_at [] name = None
record_at (entry ∷ records) name = if pointwise nat_eq entry.0 name then Some entry.1 else record_at records name

-- the records with this one in place of the first of the name, if there is one
abbrev pub records_with : Records → List ℕ → Record → Records
records_with [] name stored = []
records_with (entry ∷ records) name stored =
    if pointwise nat_eq entry.0 name then (entry.0, stored) ∷ records else entry ∷ records_with records name stored

-- the records of every other name, in order
abbrev pub records_without : Records → List ℕ → Records
records_without records name = filter (λ (entry : List ℕ × Record). not (pointwise nat_eq entry.0 name)) records

-- the meaning of a store of credentials: a version, and a record for each of its users (RFC 5802, section 3)
pub record Store : Type 0 where
  pub version : ScramVersion
  pub records : Records

-- what a server answers by: a version, the record of each user name, how many HMAC values a look-up makes, what it accepts
-- in a client's messages (RFC 5802, sections 6 and 7), and who may act as whom (RFC 4422, section 2)
pub record Provider : Type 0 where
  pub version : ScramVersion
  pub records : List ℕ → Option Record
  pub look_up_cost : ℕ
  pub rules : ServerRules
  pub rights : Rights

-- a server over this store, in which each user may act only for itself
abbrev pub serving : ServerRules → Store → Provider
serving rules store = record {
  version = store.version;
  records = record_at store.records;
  look_up_cost = 0;
  rules = rules;
  rights = [];
}

-- a server in which these users may act for these identities
abbrev pub with_rights : Rights → Provider → Provider
with_rights rights provider = record {
  version = provider.version;
  records = provider.records;
  look_up_cost = provider.look_up_cost;
  rules = provider.rules;
  rights = rights;
}

-- the record that a stored password is
abbrev pub kept : StoredPassword → Record
kept stored = record {
  salt = stored.salt.now;
  count = stored.iterations;
  stored_key =
      stored.stored_key.now;
  server_key = stored.server_key.now;
}
