-- What a message of EXTERNAL means to a server, over messages (RFC 4422, appendix A).
use Rattle.std.specs.Prelude.{◌≡◌, ◌≢◌, ◌⊎◌, ℕ, List, [], ◌∷◌, Some, Result, Ok, Err}
use Rattle.std.specs.Str.{IsUtf8}
use Rattle.fe2o3_scram.specs.declared.scram_messages.error.ServerScramErrorKind.TheVariants.{AuthenticationFailed}
use Rattle.fe2o3_scram.specs.Readings.{IsFirst}
use Rattle.fe2o3_sasl_core.specs.ExternalServer.{AsksFor}
use Rattle.sasl_c.specs.declared.status.Status.{Status}
use Rattle.sasl_c.specs.declared.status.Status.TheVariants as statuses

-- the tests of a message, in their order: the name that the transport authenticated is a text; and there is such a name,
-- that the message requests (appendix A.1)
abbrev pub external_tests : List ℕ → List ℕ → List (Status × Type 0)
external_tests authcid message = (statuses.NotUtf8, ¬ IsUtf8 authcid)
    ∷ (statuses.Server AuthenticationFailed, (authcid ≡ []) ⊎ ¬ AsksFor authcid (Some message)) ∷ []

-- the message logs in as the user that the transport authenticated, or the first error that holds
abbrev pub VerifiesExternal : List ℕ → List ℕ → Result (Unit {0}) Status → Type 0
VerifiesExternal authcid message (Ok done) = IsUtf8 authcid × (authcid ≢ []) × AsksFor authcid (Some message)
VerifiesExternal authcid message (Err status) = IsFirst (external_tests authcid message) status
