-- Digests have their length and hold bytes.
use Rattle.std.proofs.Common.{◌≡◌, ◌<◌, ◌*◌, ℕ, zero, suc, true, List, [], ◌∷◌, ◌++◌, length, refl, arith, lit<}
use Rattle.std.specs.Prelude.{nat_lt, slice_index}
use Rattle.std.specs.List.{list_all}
use Rattle.std.proofs.lemmas.Bool.{and_parts}
use Rattle.std.specs.Int.{w32, w64, to_be_bytes, bytes_high_first, byte_at}
use Rattle.std.proofs.lemmas.List.{length-append}
use Rattle.base64.specs.GeneralPurpose.{IsBytes}
use Rattle.sha1.specs.Sha1 as one
use Rattle.sha2.specs.Sha256 as two
use Rattle.sha2.specs.Sha512 as five
use Rattle.sha2.proofs.Facts256.{length-sha256}
use Rattle.sha2.proofs.Facts512.{length-sha512}
use Rattle.fe2o3_scram.specs.declared.hmac.ScramVersion.{ScramVersion}
use Rattle.fe2o3_scram.specs.declared.hmac.ScramVersion.TheVariants.{Sha1, Sha256, Sha512}
use Rattle.fe2o3_scram.specs.Hmac.{digest, digest_len, hmac_of}

length-digest_bytes : (state : List ℕ) (n : ℕ) → length (one.digest_bytes state n) ≡ n * 4
unfolding one.digest_bytes
length-digest_bytes state zero = refl
length-digest_bytes state (suc n) =
    let before = length-digest_bytes state n in
    let last : length (to_be_bytes w32 (slice_index state n)) ≡ 4 = refl in
    let both = length-append (one.digest_bytes state n) (to_be_bytes w32 (slice_index state n)) in
    omega (arith, before, last, both)

pub length-digest : (version : ScramVersion) (message : List ℕ) → length (digest version message) ≡ digest_len version
unfolding digest one.sha1
length-digest Sha1 message = length-digest_bytes _ 5
length-digest Sha256 message = length-sha256 message
length-digest Sha512 message = length-sha512 message

pub IsBytes-nil : IsBytes []
IsBytes-nil zero = lit< tt
IsBytes-nil (suc i) = lit< tt

pub IsBytes-cons : (b : ℕ) (bytes : List ℕ) → b < 256 → IsBytes bytes → IsBytes (b ∷ bytes)
IsBytes-cons b bytes below are zero = below
IsBytes-cons b bytes below are (suc i) = are i

pub IsBytes-literal : (bytes : List ℕ) → list_all (λ byte. nat_lt byte 256) bytes ≡ true → IsBytes bytes
IsBytes-literal [] passes = IsBytes-nil
IsBytes-literal (x ∷ bytes) passes = let both = and_parts (nat_lt x 256)
    (list_all (λ byte. nat_lt byte 256) bytes) passes in IsBytes-cons x bytes (grind (arith, both))
    (IsBytes-literal bytes both.1)

pub IsBytes-append : (front back : List ℕ) → IsBytes front → IsBytes back → IsBytes (front ++ back)
IsBytes-append [] back are too = too
IsBytes-append (b ∷ front) back are too = IsBytes-cons b (front ++ back) (are 0)
    (IsBytes-append front back (λ i. are (suc i)) too)

byte_at-small : (k n : ℕ) → byte_at k n < 256
byte_at-small zero n = omega arith
byte_at-small (suc k) n = omega arith

pub IsBytes-high_first : (k n : ℕ) → IsBytes (bytes_high_first k n)
IsBytes-high_first zero n = IsBytes-nil
IsBytes-high_first (suc k) n = IsBytes-cons (byte_at k n) (bytes_high_first k n) (byte_at-small k n)
    (IsBytes-high_first k n)

IsBytes-sha1_bytes : (state : List ℕ) (n : ℕ) → IsBytes (one.digest_bytes state n)
unfolding one.digest_bytes
IsBytes-sha1_bytes state zero = IsBytes-nil
IsBytes-sha1_bytes state (suc n) = IsBytes-append (one.digest_bytes state n) (to_be_bytes w32 (slice_index state n))
    (IsBytes-sha1_bytes state n) (IsBytes-high_first 4 (slice_index state n))

IsBytes-sha256_bytes : (state : List ℕ) (n : ℕ) → IsBytes (two.digest_bytes state n)
unfolding two.digest_bytes
IsBytes-sha256_bytes state zero = IsBytes-nil
IsBytes-sha256_bytes state (suc n) = IsBytes-append (two.digest_bytes state n) (to_be_bytes w32 (slice_index state n))
    (IsBytes-sha256_bytes state n) (IsBytes-high_first 4 (slice_index state n))

IsBytes-sha512_bytes : (state : List ℕ) (n : ℕ) → IsBytes (five.digest_bytes state n)
unfolding five.digest_bytes
IsBytes-sha512_bytes state zero = IsBytes-nil
IsBytes-sha512_bytes state (suc n) = IsBytes-append (five.digest_bytes state n) (to_be_bytes w64 (slice_index state n))
    (IsBytes-sha512_bytes state n) (IsBytes-high_first 8 (slice_index state n))

pub IsBytes-digest : (version : ScramVersion) (message : List ℕ) → IsBytes (digest version message)
unfolding digest one.sha1 two.sha256 five.sha512
IsBytes-digest Sha1 message = IsBytes-sha1_bytes _ 5
IsBytes-digest Sha256 message = IsBytes-sha256_bytes _ 8
IsBytes-digest Sha512 message = IsBytes-sha512_bytes _ 8

pub length-hmac_of : (version : ScramVersion) (key message : List ℕ)
    → length (hmac_of version key message) ≡ digest_len version
unfolding hmac_of
length-hmac_of version key message = length-digest version _

pub IsBytes-hmac_of : (version : ScramVersion) (key message : List ℕ) → IsBytes (hmac_of version key message)
unfolding hmac_of
IsBytes-hmac_of version key message = IsBytes-digest version _

pub ruleset sizes = (length-digest, length-hmac_of)
