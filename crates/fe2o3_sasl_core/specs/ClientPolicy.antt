-- Which mechanism a client selects from a server's offer (AMQP 1.0, part 5, section 5.3.3.2: the client chooses).
use Rattle.std.specs.Prelude.{◌≡◌, ◌≢◌, ◌&&◌, not, is_some, ℕ, Bool, true, false, Option, Some, None, List, [], ◌∷◌, take, slice_get}
use Rattle.std.specs.List.{AllByRecursion, Contains}
use Rattle.fe2o3_scram.specs.declared.hmac.ScramVersion.{ScramVersion}
use Rattle.fe2o3_scram.specs.declared.hmac.ScramVersion.TheVariants.{Sha1, Sha256, Sha512}
use Rattle.fe2o3_scram.specs.declared.channel_binding.ChannelBinding.{ChannelBinding}
use Rattle.fe2o3_scram.specs.declared.scram_messages.client_channel.ClientChannel.{ClientChannel}
use Rattle.fe2o3_scram.specs.declared.scram_messages.client_channel.ClientChannel.TheVariants.{Absent, NotOffered, Bound}
use Rattle.fe2o3_scram.specs.ClientSecret.{Secret, Password, Keys, Both}
use Rattle.fe2o3_scram.specs.Passwords.{password_bytes}
use Rattle.fe2o3_scram.specs.declared.client_options.ClientOptions.{ClientOptions}
use Rattle.fe2o3_scram.specs.ScramClient.{fresh_client, with_options}
use Rattle.fe2o3_sasl_core.specs.Profiles.{Profile, ScramProfile, PlainProfile, AnonymousProfile, ExternalProfile}
use Rattle.fe2o3_sasl_core.specs.declared.client_policy.ClientPolicy.{ClientPolicy}
use Rattle.fe2o3_sasl_core.specs.declared.mechanism.Mechanism.{Mechanism}
use Rattle.fe2o3_sasl_core.specs.declared.mechanism.Mechanism.TheVariants as mechanisms
use Rattle.fe2o3_sasl_core.specs.Mechanisms.{mechanism_symbol}

-- the mechanisms of clients, the strongest first: no standard orders them all, so this order is this library's
abbrev pub by_strength : List Mechanism
by_strength = mechanisms.Scram Sha512 true ∷ mechanisms.Scram Sha256 true ∷ mechanisms.Scram Sha1 true
    ∷ mechanisms.Scram Sha512 false ∷ mechanisms.Scram Sha256 false ∷ mechanisms.Scram Sha1 false ∷ mechanisms.External
    ∷ mechanisms.Plain ∷ mechanisms.Anonymous ∷ []

-- a hash that is no weaker than the floor, which comes first
abbrev pub is_from : ScramVersion → ScramVersion → Bool
is_from Sha1 version = true
is_from Sha256 Sha1 = false
is_from Sha256 version = true
is_from Sha512 Sha512 = true
is_from Sha512 version = false

-- whether a policy allows a mechanism: SCRAM from its floor on, with -PLUS if there is a channel, and without it unless
-- the channel has to be bound (RFC 5802, section 6); and the others if it says so
abbrev pub is_allowed : ClientPolicy → Mechanism → Bool
is_allowed policy (mechanisms.Scram version true) = is_some policy.channel && is_from policy.floor version
is_allowed policy (mechanisms.Scram version false) = not policy.must_bind && is_from policy.floor version
is_allowed policy mechanisms.External = policy.external
is_allowed policy mechanisms.Plain = policy.plain
is_allowed policy mechanisms.Anonymous = policy.anonymous

-- the first or the second secret, by whether keys of the second version are of the first
abbrev pub keys_for_version : ScramVersion → ScramVersion → Option Secret → Option Secret → Option Secret
keys_for_version Sha1 Sha1 same other = same
keys_for_version Sha256 Sha256 same other = same
keys_for_version Sha512 Sha512 same other = same
keys_for_version version of same other = other

-- what a secret is for SCRAM of a version (RFC 5802, section 3): keys serve only for their own version
abbrev pub secret_for : ScramVersion → Secret → Option Secret
secret_for version (Password password) = Some (Password password)
secret_for version (Keys keys) = keys_for_version version keys.version (Some (Keys keys)) None
secret_for version (Both password keys) =
    keys_for_version version keys.version (Some (Both password keys)) (Some (Password password))

-- what a client says of its channel in a mechanism without -PLUS (RFC 5802, section 6): that it has none, or that it was
-- offered none with -PLUS that it could select
abbrev pub unbound_channel : Option ChannelBinding → ClientChannel
unbound_channel None = Absent
unbound_channel (Some binding) = NotOffered

-- and with -PLUS: that it binds its channel; it is asked only if there is one
abbrev pub bound_channel : Option ChannelBinding → ClientChannel
bound_channel None = Absent
bound_channel (Some binding) = Bound binding

-- what it says with -PLUS, and without
abbrev pub channel_with : Bool → Option ChannelBinding → ClientChannel
channel_with true channel = bound_channel channel
channel_with false channel = unbound_channel channel

-- the options of a client of SCRAM that a policy selects, with -PLUS or without. It takes no signature in a challenge
abbrev pub scram_options : ClientPolicy → Bool → ClientOptions
scram_options policy plus = record {
  limits = policy.limits;
  channel = channel_with plus policy.channel;
  strict = policy.strict;
  signature_by_challenge = false;
}

-- the user's profile for SCRAM with this secret, if there is one
abbrev pub scram_by : ClientOptions → List ℕ → ScramVersion → Option Secret → Option Profile
scram_by options user version None = None
scram_by options user version (Some secret) = Some (ScramProfile (with_options (fresh_client user version secret) options))

-- the user's profile for PLAIN (RFC 4616, section 2), which sends the password
abbrev pub plain_by : List ℕ → Secret → Option Profile
plain_by user (Password password) = Some (PlainProfile [] user (password_bytes password))
plain_by user (Keys keys) = None
plain_by user (Both password keys) = Some (PlainProfile [] user (password_bytes password))

-- the profile of a user with a secret by a mechanism, if the secret serves for it
abbrev pub profile_by : ClientPolicy → List ℕ → Secret → Mechanism → Option Profile
profile_by policy user secret (mechanisms.Scram version plus) =
    scram_by (scram_options policy plus) user version (secret_for version secret)
profile_by policy user secret mechanisms.External = Some ExternalProfile
profile_by policy user secret mechanisms.Plain = plain_by user secret
profile_by policy user secret mechanisms.Anonymous = Some AnonymousProfile

-- a mechanism can be selected: the policy allows it, the secret serves for it, and it is offered
abbrev pub CanTake : ClientPolicy → List ℕ → Secret → List (List ℕ) → Mechanism → Type 0
CanTake policy user secret names mechanism = (is_allowed policy mechanism ≡ true)
    × (profile_by policy user secret mechanism ≢ None) × Contains names (mechanism_symbol mechanism)

-- the first mechanism of a list that can be selected
abbrev pub IsFirstTaken : ClientPolicy → List ℕ → Secret → List (List ℕ) → List Mechanism → Mechanism → Type 0
IsFirstTaken policy user secret names mechanisms mechanism = (k : ℕ) × (slice_get mechanisms k ≡ Some mechanism)
    × CanTake policy user secret names mechanism
    × AllByRecursion (λ other. ¬ CanTake policy user secret names other) (take k mechanisms)

-- the profile that a client selects from an offer: that of the strongest mechanism that can be selected
abbrev pub SelectsProfile : ClientPolicy → List ℕ → Secret → List (List ℕ) → Profile → Type 0
SelectsProfile policy user secret names profile = (mechanism : Mechanism)
    × IsFirstTaken policy user secret names by_strength mechanism
    × (profile_by policy user secret mechanism ≡ Some profile)
