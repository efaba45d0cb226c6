-- The hashes of SCRAM and the keyed hash HMAC, over whole lists of bytes (RFC 2104, section 2; RFC 5802, section 2.2).
use Rattle.std.specs.Prelude.{ℕ, ◌-◌, nat_lt, if◌then◌else◌, List, ◌++◌, length, map, replicate, bit_xor, codes}
use Rattle.std.specs.List.{zip}
use Rattle.sha1.specs.Sha1.{sha1}
use Rattle.sha2.specs.Sha256.{sha256}
use Rattle.sha2.specs.Sha512.{sha512}
use Rattle.fe2o3_scram.specs.declared.hmac.ScramVersion.{ScramVersion}
use Rattle.fe2o3_scram.specs.declared.hmac.ScramVersion.TheVariants.{Sha1, Sha256, Sha512}
use Rattle.fe2o3_scram.specs.declared.hmac.hasher.DigestBytes.{DigestBytes}
use Rattle.fe2o3_scram.specs.declared.hmac.hasher.DigestBytes.TheVariants.{Sha1 as BytesSha1, Sha256 as BytesSha256, Sha512 as BytesSha512}

-- the name of the SASL mechanism (RFC 5802, section 4; RFC 7677, section 3)
abbrev pub mechanism_name : ScramVersion → List ℕ
mechanism_name Sha1 = codes "SCRAM-SHA-1"
mechanism_name Sha256 = codes "SCRAM-SHA-256"
mechanism_name Sha512 = codes "SCRAM-SHA-512"

-- H, the digest of a message (FIPS 180-4)
unfoldable pub digest : ScramVersion → List ℕ → List ℕ
digest Sha1 message = sha1 message
digest Sha256 message = sha256 message
digest Sha512 message = sha512 message

-- L, the length of a digest in bytes (RFC 2104, section 2)
abbrev pub digest_len : ScramVersion → ℕ
digest_len Sha1 = 20
digest_len Sha256 = 32
digest_len Sha512 = 64

-- B, the length in bytes of a block that the hash works on (RFC 2104, section 2)
abbrev pub block_len : ScramVersion → ℕ
block_len Sha1 = 64
block_len Sha256 = 64
block_len Sha512 = 128

-- the bytes padded with zeros to a length (RFC 2104, section 2)
abbrev pub zero_filled : ℕ → List ℕ → List ℕ
zero_filled n bytes = bytes ++ replicate (n - length bytes) 0

-- the key as one block (RFC 2104, section 2): a key longer than a block is replaced by its digest, and zeros pad the
-- block
unfoldable pub key_block : ScramVersion → List ℕ → List ℕ
key_block version key = zero_filled (block_len version)
    (if nat_lt (block_len version) (length key) then digest version key else key)

-- each byte XOR the mask (RFC 2104, section 2)
abbrev pub masked : ℕ → List ℕ → List ℕ
masked mask bytes = map (λ byte. bit_xor byte mask) bytes

-- HMAC(key, message), with 0x36 as the inner and 0x5c as the outer mask (RFC 2104, section 2)
unfoldable pub hmac_of : ScramVersion → List ℕ → List ℕ → List ℕ
hmac_of version key message = digest version (masked 0x5c (key_block version key)
    ++ digest version (masked 0x36 (key_block version key) ++ message))

-- XOR of two texts of bytes, byte by byte (RFC 5802, section 2.2)
unfoldable pub exclusive_or : List ℕ → List ℕ → List ℕ
exclusive_or left right = map (λ (pair : ℕ × ℕ). bit_xor pair.0 pair.1) (zip left right)

-- the bytes of a digest
abbrev pub digest_bytes : DigestBytes → List ℕ
digest_bytes (BytesSha1 bytes) = bytes
digest_bytes (BytesSha256 bytes) = bytes
digest_bytes (BytesSha512 bytes) = bytes

-- the version of the hash of a digest
abbrev pub version_of : DigestBytes → ScramVersion
version_of (BytesSha1 bytes) = Sha1
version_of (BytesSha256 bytes) = Sha256
version_of (BytesSha512 bytes) = Sha512
