-- The names of the mechanisms are apart.
use Rattle.std.proofs.Common.{◌≡◌, ℕ, List, get_or, length, refl, ap, arith}
use Rattle.fe2o3_scram.specs.declared.hmac.ScramVersion.{ScramVersion}
use Rattle.fe2o3_scram.specs.declared.hmac.ScramVersion.TheVariants.{Sha1, Sha256, Sha512}
use Rattle.fe2o3_scram.specs.Hmac.{mechanism_name}

pub one_version : (version other : ScramVersion) → mechanism_name version ≡ mechanism_name other → version ≡ other
one_version Sha1 Sha1 same = refl
one_version Sha1 Sha256 same = let long : ◌≡◌ {A = ℕ} 11 13 = ap length same in absurd (omega (arith, long))
one_version Sha1 Sha512 same = let long : ◌≡◌ {A = ℕ} 11 13 = ap length same in absurd (omega (arith, long))
one_version Sha256 Sha1 same = let long : ◌≡◌ {A = ℕ} 13 11 = ap length same in absurd (omega (arith, long))
one_version Sha256 Sha256 same = refl
one_version Sha256 Sha512 same = let digit : ◌≡◌ {A = ℕ} 50 53 = ap (λ (name : List ℕ). get_or name 10 0) same in
    absurd (omega (arith, digit))
one_version Sha512 Sha1 same = let long : ◌≡◌ {A = ℕ} 13 11 = ap length same in absurd (omega (arith, long))
one_version Sha512 Sha256 same = let digit : ◌≡◌ {A = ℕ} 53 50 = ap (λ (name : List ℕ). get_or name 10 0) same in
    absurd (omega (arith, digit))
one_version Sha512 Sha512 same = refl
