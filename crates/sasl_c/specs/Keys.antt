-- What a client keeps in place of its password, as a struct of C (RFC 5802, section 3).
use Rattle.std.specs.Prelude.{◌≡◌, ◌<◌, ◌≤◌, ◌⊎◌, ℕ, List, length, replicate, take, Option, Some, None, Result}
use Rattle.fe2o3_scram.specs.declared.hmac.ScramVersion.{ScramVersion}
use Rattle.fe2o3_scram.specs.ClientKeys.{AreSized, ClientKeys, keys_of, keys_with}
use Rattle.fe2o3_scram.specs.Hmac.{digest_len, zero_filled}
use Rattle.fe2o3_scram.specs.Readings.{Reads}
use Rattle.sasl_c.specs.declared.keys.ScramKeys.{ScramKeys as Struct}
use Rattle.sasl_c.specs.declared.status.Status.{Status}
use Rattle.sasl_c.specs.declared.status.Status.TheVariants as statuses
use Rattle.sasl_c.specs.Records.{IsVersion, struct_making_tests}
use Rattle.sasl_c.specs.Status.{version_number}

-- the struct of keys
abbrev pub keys_struct : ClientKeys → Struct
keys_struct keys = record {
  version = version_number keys.version;
  iterations = keys.count;
  salt_len = length keys.salt;
  salt = zero_filled 128 keys.salt;
  client_key = zero_filled 64 keys.client_key;
  server_key = zero_filled 64 keys.server_key;
}

-- keys that a struct can hold: their salt has room, and they are as long as a digest
abbrev pub KeysHaveRoom : ClientKeys → Type 0
KeysHaveRoom keys = (length keys.salt ≤ 128) × AreSized keys

-- the struct of no keys: all zeros
abbrev pub no_keys_struct : Struct
no_keys_struct = record {
  version = 0;
  iterations = 0;
  salt_len = 0;
  salt = replicate 128 0;
  client_key = replicate 64 0;
  server_key = replicate 64 0;
}

-- a call writes these keys into the struct where they have room, and otherwise zeros
abbrev pub WritesKeys : Struct → Option ClientKeys → Type 0
WritesKeys written None = written ≡ no_keys_struct
WritesKeys written (Some keys) = (KeysHaveRoom keys × (written ≡ keys_struct keys))
    ⊎ (¬ KeysHaveRoom keys × (written ≡ no_keys_struct))

-- what a struct of this version shows, of whatever bits it is
abbrev pub shown_keys : ScramVersion → Struct → ClientKeys
shown_keys version kept = keys_with version (take kept.salt_len kept.salt) kept.iterations
    (take (digest_len version) kept.client_key) (take (digest_len version) kept.server_key)

-- the struct shows these keys: its version is known, and its salt is in it
abbrev pub ShowsKeys : Struct → ClientKeys → Type 0
ShowsKeys kept keys = IsVersion kept.version keys.version × (kept.salt_len ≤ 128)
    × (keys ≡ shown_keys keys.version kept)

-- the struct shows keys
abbrev pub ShowsSomeKeys : Struct → Type 0
ShowsSomeKeys kept = (keys : ClientKeys) × ShowsKeys kept keys

-- why a struct shows none: the version is tested first
abbrev pub ShowsNoKeys : Struct → Status → Type 0
ShowsNoKeys kept statuses.NoSuchVersion = (known : ScramVersion) → ¬ IsVersion kept.version known
ShowsNoKeys kept statuses.TooLong = ((known : ScramVersion) × IsVersion kept.version known) × (128 < kept.salt_len)
ShowsNoKeys kept status = ⊥

-- the keys of a password (RFC 5802, section 3): the first error that holds, or their struct
abbrev pub MakesKeysStruct : ℕ → ℕ → List ℕ → List ℕ → ℕ → Result Struct Status → Type 0
MakesKeysStruct version form password salt count answer = Reads (struct_making_tests version form password salt count)
    (λ made. (known : ScramVersion) × IsVersion version known
    × (made ≡ keys_struct (keys_of known password salt count))) answer
