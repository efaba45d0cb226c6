-- The secret of a client (RFC 5802, section 3), and the iteration counts that it accepts.
use Rattle.std.specs.Prelude.{ℕ, ◌≡◌}
use Rattle.fe2o3_scram.specs.declared.client_secret.ClientSecret.{ClientSecret}
use Rattle.fe2o3_scram.specs.declared.client_secret.ClientSecret.TheVariants as code
use Rattle.fe2o3_scram.specs.declared.client_secret.IterationLimits.{IterationLimits}
use Rattle.fe2o3_scram.specs.declared.client_secret.OwnedPassword.{OwnedPassword}
use Rattle.fe2o3_scram.specs.declared.client_secret.OwnedSecret.{OwnedSecret}
use Rattle.fe2o3_scram.specs.declared.client_secret.OwnedSecret.TheVariants as kept
use Rattle.fe2o3_scram.specs.declared.client_secret.OwnedPassword.TheVariants as passwords
use Rattle.fe2o3_scram.specs.declared.hmac.ScramVersion.{ScramVersion}
use Rattle.fe2o3_scram.specs.ClientKeys.{ClientKeys}
use Rattle.fe2o3_scram.specs.Passwords.{PasswordText, Typed, Prepared, password_of}

-- a client has its password, or the keys of one login (RFC 5802, section 3), or both: then it answers by the keys if
-- they are of the salt and the count that the server names, and otherwise by the password
pub data Secret : Type 0 where
  Password : (password : PasswordText) → Secret
  Keys : (keys : ClientKeys) → Secret
  Both : (password : PasswordText) → (keys : ClientKeys) → Secret

-- the secret that the code's value is
abbrev pub secret_of : ClientSecret → Secret
secret_of (code.Password password) = Password (password_of password)
secret_of (code.Keys keys) = Keys keys.now
secret_of (code.PasswordAndKeys password keys) = Both (password_of password) keys.now

-- the secret's keys, if it has any, are of this version (RFC 5802, section 3)
abbrev pub IsOfVersion : ScramVersion → Secret → Type 0
IsOfVersion version (Password password) = Unit {0}
IsOfVersion version (Keys keys) = keys.version ≡ version
IsOfVersion version (Both password keys) = keys.version ≡ version

-- the password that a client keeps
abbrev pub kept_password : OwnedPassword → PasswordText
kept_password (passwords.Typed text) = Typed text
kept_password (passwords.Prepared text) = Prepared text

-- the secret that a client keeps
abbrev pub kept_secret : OwnedSecret → Secret
kept_secret (kept.Password password) = Password (kept_password password)
kept_secret (kept.Keys keys) = Keys keys
kept_secret (kept.PasswordAndKeys password keys) = Both (kept_password password) keys

-- every count up to this one (RFC 5802, section 7: a count is at least 1)
abbrev pub up_to : ℕ → IterationLimits
up_to limit = record { min_iterations = 1; max_iterations = limit }

-- the limit of a client that accepts every count: the highest that a message names
abbrev pub no_limit : ℕ
no_limit = 4294967295
