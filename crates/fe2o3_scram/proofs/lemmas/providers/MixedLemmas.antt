-- The records of a name in a store of several versions.
use Rattle.std.proofs.Common.{◌≡◌, ◌≢◌, ◌<◌, ℕ, zero, suc, Bool, true, false, cond, List, [], ◌∷◌, length, get_or, arith}
use Rattle.std.specs.Cmp.Lexicographic.{pointwise}
use Rattle.std.specs.Prelude.{map, nat_eq}
use Rattle.fe2o3_scram.specs.Credentials.{VersionedRecord}
use Rattle.fe2o3_scram.specs.Mixed.{MultiRecords, records_named}

-- the records of users
abbrev records_of : MultiRecords → List VersionedRecord
records_of users = map (λ (user : List ℕ × VersionedRecord). user.1) users

kept_first : (test : Bool) (user : List ℕ × VersionedRecord) (users : MultiRecords) → test ≡ true
    → records_of (cond test (user ∷ users) users) ≢ []
kept_first true user users is none = absurd (cc)
kept_first false user users is none = absurd (cc)

kept_later : (test : Bool) (user : List ℕ × VersionedRecord) (users : MultiRecords) → records_of users ≢ []
    → records_of (cond test (user ∷ users) users) ≢ []
kept_later true user users some none = absurd (cc)
kept_later false user users some none = some none

-- the name of a user has a record
pub some_named : (users : MultiRecords) (name : List ℕ) (k : ℕ) (default : List ℕ × VersionedRecord) → k < length users
    → pointwise nat_eq (get_or users k default).0 name ≡ true → records_named users name ≢ []
some_named [] name k default below here = absurd (omega (below, arith))
some_named (user ∷ users) name zero default below here = kept_first (pointwise nat_eq user.0 name) user _ here
some_named (user ∷ users) name (suc k) default below here =
    kept_later (pointwise nat_eq user.0 name) user _ (some_named users name k default (omega (below, arith)) here)
