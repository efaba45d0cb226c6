-- How long digests and their texts are.
use Rattle.std.proofs.Common.{arith, ◌≡◌, ◌≤◌, ◌+◌, ℕ, List, length}
use Rattle.std.specs.Prelude.{replicate}
use Rattle.std.proofs.lemmas.List.{length-append, length-replicate}
use Rattle.base64.specs.Rfc4648.{encode_symbols, padding_len, unpadded_len}
use Rattle.base64.proofs.RoundTrip.{length-encode_symbols}
use Rattle.fe2o3_scram.specs.declared.hmac.ScramVersion.{ScramVersion}
use Rattle.fe2o3_scram.specs.declared.hmac.ScramVersion.TheVariants.{Sha1, Sha256, Sha512}
use Rattle.fe2o3_scram.specs.Hmac.{digest_len}
use Rattle.fe2o3_scram.specs.Texts.{alphabet, base64_text}

-- a digest has at most 64 bytes
pub short : (version : ScramVersion) (n : ℕ) → n ≡ digest_len version → n ≤ 64
short Sha1 n long = omega (arith, long)
short Sha256 n long = omega (arith, long)
short Sha512 n long = omega (arith, long)

pub text_length : (bytes : List ℕ)
    → length (base64_text bytes) ≡ unpadded_len (length bytes) + padding_len (length bytes)
unfolding base64_text
text_length bytes =
    let whole = length-append (encode_symbols alphabet bytes) (replicate (padding_len (length bytes)) 61) in
    omega (
      arith,
      whole,
      length-encode_symbols alphabet bytes,
      length-replicate {A = ℕ} (padding_len (length bytes)) 61,
    )

-- 64 bytes are written in 88
pub short_text : (bytes : List ℕ) → length bytes ≤ 64 → length (base64_text bytes) ≤ 88
short_text bytes few = omega (arith, few, text_length bytes)
