-- Whether a client's secret serves for a parsed message. No public clause cites this file.
use Rattle.std.specs.Prelude.{◌≡◌, ◌⊎◌, T}
use Rattle.fe2o3_scram.specs.declared.scram_messages.error.ScramErrorKind.{ScramErrorKind}
use Rattle.fe2o3_scram.specs.declared.scram_messages.error.ScramErrorKind.TheVariants.{NormalizeError, StaleKeys}
use Rattle.fe2o3_scram.specs.ClientFinal.{fit}
use Rattle.fe2o3_scram.specs.ClientSecret.{Secret, Password, Keys, Both}
use Rattle.fe2o3_scram.specs.Passwords.{IsNormal}
use Rattle.fe2o3_scram.specs.ServerFirst.{ServerFirst}

-- the secret serves for a message that names these values
abbrev pub Serves : Secret → ServerFirst → Type 0
Serves (Password password) first = IsNormal password
Serves (Keys keys) first = T (fit keys first)
Serves (Both password keys) first = T (fit keys first) ⊎ IsNormal password

-- the secret does not serve, with this error
abbrev pub ServesNot : Secret → ServerFirst → ScramErrorKind → Type 0
ServesNot (Password password) first fault = ¬ IsNormal password × (fault ≡ NormalizeError)
ServesNot (Keys keys) first fault = ¬ T (fit keys first) × (fault ≡ StaleKeys)
ServesNot (Both password keys) first fault = ¬ T (fit keys first) × ¬ IsNormal password × (fault ≡ NormalizeError)
