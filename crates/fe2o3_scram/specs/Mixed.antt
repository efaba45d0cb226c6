-- A store whose records are of several versions.
use Rattle.std.specs.Prelude.{ℕ, List, Bool, true, false, filter, is_some, map, nat_eq}
use Rattle.std.specs.List.{list_all}
use Rattle.std.specs.Cmp.Lexicographic.{pointwise}
use Rattle.fe2o3_scram.specs.declared.hmac.ScramVersion.{ScramVersion}
use Rattle.fe2o3_scram.specs.declared.hmac.ScramVersion.TheVariants.{Sha1, Sha256, Sha512}
use Rattle.fe2o3_scram.specs.Credentials.{Store, Record, VersionedRecord, record_at}

-- user names and their records, each for the version that it names (RFC 5803, section 2); a name may have several
abbrev pub MultiRecords : Type 0
MultiRecords = List (List ℕ × VersionedRecord)

-- whether two versions are one
abbrev pub is_version : ScramVersion → ScramVersion → Bool
is_version Sha1 Sha1 = true
is_version Sha256 Sha256 = true
is_version Sha512 Sha512 = true
is_version version other = false

-- a user without the version
abbrev pub unversioned : List ℕ × VersionedRecord → List ℕ × Record
unversioned user = (user.0, user.1.stored)

-- the provider for one version (RFC 5802, section 3): the records of that version, in order
abbrev pub provider_for : ScramVersion → MultiRecords → Store
provider_for version users = record {
  version = version;
  records =
      map unversioned (filter (λ (user : List ℕ × VersionedRecord). is_version user.1.version version) users);
}

-- whether each user has a record of this version
abbrev pub all_have : ScramVersion → MultiRecords → Bool
all_have version users = list_all (λ (user : List ℕ × VersionedRecord).
    is_some (record_at (provider_for version users).records user.0)) users

-- the records of a name, for any version, in order
abbrev pub records_named : MultiRecords → List ℕ → List VersionedRecord
records_named users name =
    map (λ (user : List ℕ × VersionedRecord). user.1)
    (filter (λ (user : List ℕ × VersionedRecord). pointwise nat_eq user.0 name) users)
