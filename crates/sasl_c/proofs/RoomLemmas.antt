-- That what is made of a password has room in a struct.
use Rattle.std.proofs.Common.{arith, ◌≤◌, ℕ, List, length}
use Rattle.fe2o3_scram.specs.declared.hmac.ScramVersion.{ScramVersion}
use Rattle.std.proofs.lemmas.List.{length-take}
use Rattle.std.specs.Prelude.{◌++◌, codes}
use Rattle.fe2o3_scram.specs.declared.hmac.ScramVersion.TheVariants.{Sha512}
use Rattle.fe2o3_scram.specs.Credentials.{record_of, versioned}
use Rattle.fe2o3_scram.specs.MockSettings.{mock_record}
use Rattle.fe2o3_scram.specs.Hmac.{hmac_of, mechanism_name}
use Rattle.fe2o3_scram.specs.Keys.{client_key}
use Rattle.fe2o3_scram.specs.Pbkdf2Hi.{salted_of}
use Rattle.fe2o3_scram.proofs.lemmas.hashes.DigestLemmas.{length-digest, length-hmac_of}
use Rattle.fe2o3_scram.specs.ClientKeys.{keys_of}
use Rattle.sasl_c.specs.Keys.{KeysHaveRoom}
use Rattle.sasl_c.specs.Records.{RecordHasRoom}

pub record_has_room : (version : ScramVersion) (password salt : List ℕ) (count : ℕ) → length salt ≤ 128
    → RecordHasRoom (record { version = version; stored = record_of version password salt count })
record_has_room version password salt count fits =
    let salted = salted_of version password salt count in
    (fits, length-digest version (client_key version salted), length-hmac_of version salted _)

pub keys_have_room : (version : ScramVersion) (password salt : List ℕ) (count : ℕ) → length salt ≤ 128
    → KeysHaveRoom (keys_of version password salt count)
keys_have_room version password salt count fits =
    let salted = salted_of version password salt count in
    (fits, (length-hmac_of version salted _, length-hmac_of version salted _))

pub mock_has_room : (version : ScramVersion) (secret name : List ℕ) (salt_len count : ℕ) → salt_len ≤ 64
    → RecordHasRoom (versioned version (mock_record
    (record { version = version; secret = secret; salt_len = salt_len; count = count }) name))
mock_has_room version secret name salt_len count few =
    let salt = hmac_of Sha512 secret (codes "Salt:" ++ (mechanism_name version ++ (codes ":" ++ name))) in (
      omega (arith, few, length-take salt_len salt),
      length-hmac_of version secret _,
      length-hmac_of version secret _,
    )
