-- What `scram users check` finds of a password (RFC 5802, section 3). No public clause cites this file.
use Rattle.std.specs.Prelude.{◌≡◌, ◌⊎◌, ◌↔◌, ℕ, Bool, Option, None, Some, List, [], ◌∷◌, IsTrue}
use Rattle.fe2o3_scram.specs.declared.hmac.ScramVersion.{ScramVersion}
use Rattle.fe2o3_scram.specs.Credentials.{Record, MeetsRecord, record_at}
use Rattle.fe2o3_scram.specs.Mixed.{MultiRecords, provider_for}
use Rattle.fe2o3_scram.specs.Passwords.{Prepared}

-- a version is asked for: the one that is named, or each
abbrev pub IsAsked : Option ScramVersion → ScramVersion → Type 0
IsAsked None version = Unit {0}
IsAsked (Some asked) version = asked ≡ version

-- what is found for a version: nothing where it is not asked for, or the user has no record for it; otherwise whether the
-- password, prepared, is that of the user's record
abbrev pub Tells : MultiRecords → Option ScramVersion → List ℕ → List ℕ → ScramVersion → Option Bool → Type 0
Tells users asked name password version None =
    ¬ IsAsked asked version ⊎ (record_at (provider_for version users).records name ≡ None)
Tells users asked name password version (Some answer) = IsAsked asked version × ((stored : Record)
    × (record_at (provider_for version users).records name ≡ Some stored)
    × (IsTrue answer ↔ MeetsRecord version (Prepared password) stored))

-- of each of these versions, in order
abbrev pub TellsEach : MultiRecords → Option ScramVersion → List ℕ → List ℕ → List ScramVersion → List (Option Bool)
    → Type 0
TellsEach users asked name password [] answers = answers ≡ []
TellsEach users asked name password (version ∷ versions) [] = ⊥
TellsEach users asked name password (version ∷ versions) (answer ∷ answers) =
    Tells users asked name password version answer × TellsEach users asked name password versions answers
