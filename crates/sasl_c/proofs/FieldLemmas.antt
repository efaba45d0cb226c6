-- What is made of the fields of a record (RFC 5802, section 3).
use Rattle.std.proofs.Common.{arith, refl, sym, ap, inl, inr, ◌∙◌, ◌≡◌, ◌≢◌, ◌≤◌, ◌⊎◌, ℕ, List, length}
use Rattle.std.specs.Prelude.{Ok, Err}
use Rattle.fe2o3_scram.specs.declared.credentials.record_text.RecordTextError.TheVariants.{KeyLengthMismatch}
use Rattle.fe2o3_scram.specs.declared.hmac.ScramVersion.{ScramVersion}
use Rattle.fe2o3_scram.specs.declared.hmac.ScramVersion.TheVariants as versions
use Rattle.fe2o3_scram.specs.Credentials.{versioned}
use Rattle.fe2o3_scram.specs.Hmac.{digest_len}
use Rattle.sasl_c.specs.declared.records.ScramRecord.{ScramRecord as Struct}
use Rattle.sasl_c.specs.declared.status.Status.TheVariants as statuses
use Rattle.sasl_c.specs.RecordFields.{AreDigests, MakesFromFields}
use Rattle.sasl_c.specs.Records.{IsVersion, record_struct}
use Rattle.sasl_c.specs.Status.{version_number}

-- a number is that of one version
pub one_number : (version other : ScramVersion) → version_number version ≡ version_number other → version ≡ other
one_number versions.Sha1 versions.Sha1 same = refl
one_number versions.Sha1 versions.Sha256 same = absurd (omega (arith, same))
one_number versions.Sha1 versions.Sha512 same = absurd (omega (arith, same))
one_number versions.Sha256 versions.Sha1 same = absurd (omega (arith, same))
one_number versions.Sha256 versions.Sha256 same = refl
one_number versions.Sha256 versions.Sha512 same = absurd (omega (arith, same))
one_number versions.Sha512 versions.Sha1 same = absurd (omega (arith, same))
one_number versions.Sha512 versions.Sha256 same = absurd (omega (arith, same))
one_number versions.Sha512 versions.Sha512 same = refl

-- one key of another length is enough
pub no_digests : (version : ℕ) (salt : List ℕ) (count : ℕ) (stored_key server_key : List ℕ) (known : ScramVersion)
    → IsVersion version known → length salt ≤ 128 → count ≢ 0
    → (length stored_key ≢ digest_len known) ⊎ (length server_key ≢ digest_len known)
    → MakesFromFields version salt count stored_key server_key (Err (statuses.NoRecord KeyLengthMismatch))
no_digests version salt count stored_key server_key known is fits some other =
    inr ((λ none. none known is), inr ((λ long. absurd (omega (arith, long, fits))), inr (some, inl (wrong other, refl))))
  where
    wrong : (length stored_key ≢ digest_len known) ⊎ (length server_key ≢ digest_len known)
        → ¬ AreDigests version stored_key server_key
    wrong (inl odd) (hash, same, first, second) =
        odd (first ∙ ap digest_len (one_number hash known (same ∙ sym is)))
    wrong (inr odd) (hash, same, first, second) =
        odd (second ∙ ap digest_len (one_number hash known (same ∙ sym is)))

pub made : (version : ℕ) (salt : List ℕ) (count : ℕ) (stored_key server_key : List ℕ) (known : ScramVersion)
    (kept : Struct) → IsVersion version known → length salt ≤ 128 → count ≢ 0
    → length stored_key ≡ digest_len known → length server_key ≡ digest_len known
    → kept ≡ record_struct (versioned known
    (record { salt = salt; count = count; stored_key = stored_key; server_key = server_key }))
    → MakesFromFields version salt count stored_key server_key (Ok kept)
made version salt count stored_key server_key known kept is fits some first second same = (
  (
    (λ none. none known is),
    (
      (λ long. absurd (omega (arith, long, fits))),
      (some, ((λ wrong. wrong (known, is, first, second)), tt)),
    ),
  ),
  (known, is, same),
)

pub ruleset fields = (no_digests, made)
