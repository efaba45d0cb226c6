-- Which messages of EXTERNAL log a user in (RFC 4422, appendix A).
use Rattle.std.proofs.Common.{inl, inr, refl, ◌≡◌, ◌⊎◌, ℕ, List, []}
use Rattle.std.specs.Prelude.{Err, Some}
use Rattle.std.specs.Str.{IsUtf8}
use Rattle.fe2o3_scram.specs.declared.scram_messages.error.ServerScramErrorKind.TheVariants.{AuthenticationFailed}
use Rattle.fe2o3_sasl_core.specs.ExternalServer.{AsksFor}
use Rattle.sasl_c.specs.declared.status.Status.TheVariants as statuses
use Rattle.sasl_c.specs.External.{VerifiesExternal}

pub no_text : (authcid message : List ℕ) → ¬ IsUtf8 authcid → VerifiesExternal authcid message (Err statuses.NotUtf8)
no_text authcid message wrong = inl (wrong, refl)

pub rejected : (authcid message : List ℕ) → IsUtf8 authcid → (authcid ≡ []) ⊎ ¬ AsksFor authcid (Some message)
    → VerifiesExternal authcid message (Err (statuses.Server AuthenticationFailed))
rejected authcid message is none = inr ((λ wrong. wrong is), inl (none, refl))

pub ruleset verifies = (no_text, rejected)
