-- The options of a client.
use Rattle.std.proofs.Common.{◌≡◌, ℕ, false, List}
use Rattle.fe2o3_scram.specs.ClientSecret.{no_limit, up_to}
use Rattle.fe2o3_scram.specs.declared.client_secret.IterationLimits.{IterationLimits}
use Rattle.fe2o3_scram.specs.declared.hmac.ScramVersion.{ScramVersion}
use Rattle.fe2o3_scram.specs.declared.scram_messages.client_channel.ClientChannel.TheVariants.{Absent}
use Rattle.fe2o3_scram.specs.declared.client_options.ClientOptions.{ClientOptions}
use Rattle.fe2o3_sasl_core.specs.Runs.{login_of, login_with}

-- the options without any
abbrev none : ClientOptions
none = record { limits = up_to no_limit; signature_by_challenge = false; strict = false; channel = Absent }

-- with no option but a maximum iteration count the login is the one with that limit
pub limited_login : (options : ClientOptions) (limits : IterationLimits) (limit : ℕ) → options ≡ none
    → limits ≡ up_to limit → (version : ScramVersion) (user password : List ℕ)
    → login_with (record {
      limits = limits;
      signature_by_challenge = options.signature_by_challenge;
      strict = options.strict;
      channel = options.channel;
    }) version user password ≡ login_of version user password limit
limited_login options limits limit is has version user password =
    λ i. login_with (record {
      limits = has i;
      signature_by_challenge = (is i).signature_by_challenge;
      strict = (is i).strict;
      channel = (is i).channel;
    }) version user password
