-- The keys that a client keeps instead of its password (RFC 5802, section 3).
use Rattle.std.specs.Prelude.{ℕ, List, ◌≡◌, length, Result}
use Rattle.fe2o3_scram.specs.declared.hmac.ScramVersion.{ScramVersion}
use Rattle.fe2o3_scram.specs.declared.keys.RecordError.{RecordError}
use Rattle.fe2o3_scram.specs.Credentials.{making_tests}
use Rattle.fe2o3_scram.specs.Hmac.{digest_len}
use Rattle.fe2o3_scram.specs.Keys.{client_key, server_key}
use Rattle.fe2o3_scram.specs.Passwords.{PasswordText, password_bytes}
use Rattle.fe2o3_scram.specs.Pbkdf2Hi.{salted_of}
use Rattle.fe2o3_scram.specs.Readings.{Reads}

-- what a client keeps of its password (RFC 5802, section 3): the ClientKey and the ServerKey, with their version, salt
-- and iteration count
pub record ClientKeys : Type 0 where
  pub version : ScramVersion
  pub salt : List ℕ
  pub count : ℕ
  pub client_key : List ℕ
  pub server_key : List ℕ

-- keys with these values
abbrev pub keys_with : ScramVersion → List ℕ → ℕ → List ℕ → List ℕ → ClientKeys
keys_with version salt count client server =
    record { version = version; salt = salt; count = count; client_key = client; server_key = server }

-- the keys of a password with this salt and this count (RFC 5802, section 3)
abbrev pub keys_of : ScramVersion → List ℕ → List ℕ → ℕ → ClientKeys
keys_of version password salt count = let salted = salted_of version password salt count in
    let client = client_key version salted in let server = server_key version salted in
    record { version = version; salt = salt; count = count; client_key = client; server_key = server }

-- the result of making the keys of a password (RFC 5802, section 3): the first error that applies, or its keys
abbrev pub MakesKeys : ScramVersion → PasswordText → List ℕ → ℕ → Result ClientKeys RecordError → Type 0
MakesKeys version password salt count answer =
    Reads (making_tests password count) (λ made. made ≡ keys_of version (password_bytes password) salt count) answer

-- both keys are as long as a digest (RFC 5802, section 3)
abbrev pub AreSized : ClientKeys → Type 0
AreSized keys =
    (length keys.client_key ≡ digest_len keys.version) × (length keys.server_key ≡ digest_len keys.version)
