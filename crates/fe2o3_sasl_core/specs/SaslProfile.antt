-- The profiles and frames that the code's values are, and the addresses that give a profile.
use Rattle.std.specs.Prelude.{◌≢◌, [], Option, Some, None, option_map, string_bytes}
use Rattle.fe2o3_sasl_wire.specs.AmqpTypes.{init_frame, response_frame, outcome_frame}
use Rattle.fe2o3_sasl_wire.specs.SaslFrames.{SaslFrame}
use Rattle.fe2o3_scram.specs.ClientSecret.{kept_secret}
use Rattle.fe2o3_scram.specs.declared.hmac.ScramVersion.{ScramVersion}
use Rattle.fe2o3_scram.specs.declared.hmac.ScramVersion.TheVariants.{Sha1, Sha256, Sha512}
use Rattle.fe2o3_sasl_core.specs.declared.sasl_profile.error.UrlError.{UrlError}
use Rattle.fe2o3_sasl_core.specs.declared.sasl_profile.error.UrlError.TheVariants as url_faults
use Rattle.fe2o3_sasl_core.specs.declared.sasl_profile.Negotiation.{Negotiation}
use Rattle.fe2o3_sasl_core.specs.declared.sasl_profile.Negotiation.TheVariants as negotiations
use Rattle.fe2o3_sasl_core.specs.declared.sasl_profile.SaslProfile.{SaslProfile}
use Rattle.fe2o3_sasl_core.specs.declared.sasl_profile.SaslProfile.TheVariants as profiles
use Rattle.fe2o3_sasl_core.specs.declared.sasl_profile.policy.PolicyLogin.{PolicyLogin}
use Rattle.fe2o3_sasl_core.specs.declared.sasl_profile.single_message.SingleMessage.{SingleMessage}
use Rattle.url.specs.Parts.{Parts}
use Rattle.fe2o3_sasl_core.specs.Profiles.{Profile, ScramProfile, PlainProfile, AnonymousProfile, ExternalProfile, MessageProfile, MessageMechanism, AnonymousMessage, ExternalMessage, PolicyProfile, Selection}

-- the profile of a mechanism with its single message
abbrev pub message_profile : MessageMechanism → SingleMessage → Profile
message_profile mechanism single = MessageProfile mechanism (string_bytes single.message) single.is_due

-- what a value selects by
abbrev pub selection_of : PolicyLogin → Selection
selection_of login = record {
  user = string_bytes login.username;
  secret = kept_secret login.secret;
  policy = login.policy;
  acts_for = option_map (λ name. string_bytes name) login.acts_for;
}

-- the profile that a value is
abbrev pub profile_of : SaslProfile → Profile
profile_of profiles.Anonymous = AnonymousProfile
profile_of (profiles.Plain username password) = PlainProfile [] (string_bytes username) password
profile_of (profiles.PlainAs identity username password) =
    PlainProfile (string_bytes identity) (string_bytes username) password
profile_of profiles.External = ExternalProfile
profile_of (profiles.AnonymousAs single) = message_profile AnonymousMessage single
profile_of (profiles.ExternalAs single) = message_profile ExternalMessage single
profile_of (profiles.ScramSha1 scram) = ScramProfile scram
profile_of (profiles.ScramSha256 scram) = ScramProfile scram
profile_of (profiles.ScramSha512 scram) = ScramProfile scram
profile_of (profiles.ByPolicy login) = PolicyProfile (selection_of login.value)

-- the version of SCRAM that a profile's variant names (RFC 5802, section 4), if it is of SCRAM
abbrev pub variant_version : SaslProfile → Option ScramVersion
variant_version (profiles.ScramSha1 scram) = Some Sha1
variant_version (profiles.ScramSha256 scram) = Some Sha256
variant_version (profiles.ScramSha512 scram) = Some Sha512
variant_version profile = None

-- the frame that a profile answers with
abbrev pub negotiated_frame : Negotiation → SaslFrame
negotiated_frame (negotiations.Init init) = init_frame init
negotiated_frame (negotiations.Response response) = response_frame response
negotiated_frame (negotiations.Outcome outcome) = outcome_frame outcome

-- an address names a user and a password
abbrev pub HasCredentials : Parts → Type 0
HasCredentials url = (url.username ≢ []) × (url.password ≢ [])

-- why an address gives no profile: it does not name both; or allocation fails, and then it does
abbrev pub RefusesUrl : Parts → UrlError → Type 0
RefusesUrl url url_faults.NoCredentials = ¬ HasCredentials url
RefusesUrl url url_faults.OutOfMemory = HasCredentials url
