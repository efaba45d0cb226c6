-- What hashers have absorbed. No public clause cites this file.
use Rattle.std.specs.Prelude.{ℕ, List}
use Rattle.sha1.specs.Sha1.{Holds}
use Rattle.sha2.specs.Hashers.{Holds256, Holds512}
use Rattle.fe2o3_scram.specs.declared.hmac.ScramVersion.{ScramVersion}
use Rattle.fe2o3_scram.specs.declared.hmac.ScramVersion.TheVariants.{Sha1, Sha256, Sha512}
use Rattle.fe2o3_scram.specs.declared.hmac.keyed.HmacKey.{HmacKey}
use Rattle.fe2o3_scram.specs.declared.hmac.keyed.HmacKey.TheVariants.{Sha1 as KeySha1, Sha256 as KeySha256, Sha512 as KeySha512}
use Rattle.fe2o3_scram.specs.Hmac.{key_block, masked}

-- a message that a hasher has absorbed, as the hasher's own word says it
abbrev pub Taken : Type 0 → Type 1
Taken H = H → List ℕ → Type 0

-- two hashers have absorbed the inner and the outer pad of the key
abbrev pub HasPads : {H : Type 0} → Taken H → ScramVersion → H → H → List ℕ → Type 0
HasPads has_taken version inner outer key =
    has_taken inner (masked 0x36 (key_block version key)) × has_taken outer (masked 0x5c (key_block version key))

-- the key is of this version, and has absorbed the pads of these bytes
abbrev pub IsKeyOf : HmacKey → ScramVersion → List ℕ → Type 0
IsKeyOf (KeySha1 key) Sha1 bytes = HasPads Holds Sha1 key.inner key.outer bytes
IsKeyOf (KeySha256 key) Sha256 bytes = HasPads Holds256 Sha256 key.inner key.outer bytes
IsKeyOf (KeySha512 key) Sha512 bytes = HasPads Holds512 Sha512 key.inner key.outer bytes
IsKeyOf key version bytes = ⊥
