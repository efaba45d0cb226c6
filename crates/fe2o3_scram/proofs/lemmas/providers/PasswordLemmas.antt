-- A record without a StoredKey is that of no password, since a digest is not empty.
use Rattle.std.proofs.Common.{◌≡◌, ℕ, List, [], ◌∙◌, ap, length, sym, arith}
use Rattle.fe2o3_scram.specs.declared.hmac.ScramVersion.{ScramVersion}
use Rattle.fe2o3_scram.specs.declared.hmac.ScramVersion.TheVariants.{Sha1, Sha256, Sha512}
use Rattle.fe2o3_scram.specs.Credentials.{MeetsRecord, Record}
use Rattle.fe2o3_scram.specs.Hmac.{digest_len}
use Rattle.fe2o3_scram.specs.Keys.{client_key}
use Rattle.fe2o3_scram.specs.Passwords.{PasswordText, password_bytes}
use Rattle.fe2o3_scram.specs.Pbkdf2Hi.{salted_of}
use Rattle.fe2o3_scram.proofs.lemmas.hashes.DigestLemmas.{length-digest}

some_bytes : (version : ScramVersion) → ¬ (digest_len version ≡ 0)
some_bytes Sha1 none = absurd (omega (arith, none))
some_bytes Sha256 none = absurd (omega (arith, none))
some_bytes Sha512 none = absurd (omega (arith, none))

-- no password meets it
pub keyless : (version : ScramVersion) (password : PasswordText) (stored : Record) → stored.stored_key ≡ []
    → ¬ MeetsRecord version password stored
keyless version password stored none meets =
    let made : List ℕ = client_key version (salted_of version (password_bytes password) stored.salt stored.count) in
    some_bytes version (sym (length-digest version made)
    ∙ ap length (ap (λ (kept : Record). kept.stored_key) meets.1 ∙ none))
