-- What a client that has a channel says of it, whatever its server seems to offer (RFC 5802, section 6). Each law is a
-- clause of `client_policy::laws::selected_channels`.
use Rattle.std.specs.Prelude.{◌≡◌, ◌≢◌, ◌⊎◌, ◌++◌, ℕ, true, false, Some, None, List}
use Rattle.std.specs.List.{Contains}
use Rattle.fe2o3_scram.specs.declared.channel_binding.ChannelBinding.{ChannelBinding}
use Rattle.fe2o3_scram.specs.declared.hmac.ScramVersion.{ScramVersion}
use Rattle.fe2o3_scram.specs.declared.scram_messages.channel_binding_flag.ChannelBindingFlag.{ChannelBindingFlag}
use Rattle.fe2o3_scram.specs.declared.scram_messages.channel_binding_flag.ChannelBindingFlag.TheVariants.{ClientSupports, Required}
use Rattle.fe2o3_scram.specs.declared.scram_messages.client_channel.ClientChannel.TheVariants.{Absent, Bound, NotOffered}
use Rattle.fe2o3_scram.specs.ChannelBinding.{header_text, plus_name, own_header}
use Rattle.fe2o3_scram.specs.ClientSecret.{Secret}
use Rattle.fe2o3_scram.specs.Hmac.{mechanism_name}
use Rattle.fe2o3_scram.specs.ScramClient.{ClientSide}
use Rattle.fe2o3_sasl_core.specs.ClientPolicy.{SelectsProfile, is_from, secret_for}
use Rattle.fe2o3_sasl_core.specs.Profiles.{Profile, ScramProfile, PlainProfile, AnonymousProfile, ExternalProfile, initial_response, profile_name}
use Rattle.fe2o3_sasl_core.specs.declared.client_policy.ClientPolicy.{ClientPolicy}

-- ---- profiles

-- the profile's initial response begins with this GS2 header, whatever its nonce (RFC 5802, section 7)
abbrev pub BeginsWithHeader : ChannelBindingFlag → Profile → Type 0
BeginsWithHeader flag profile =
    (nonce : List ℕ) → (bare : List ℕ) × (initial_response profile nonce ≡ Some (header_text (own_header flag) ++ bare))

-- the profile is of SCRAM with -PLUS, and binds exactly this channel: its kind and its data
pub record BindsExactly (binding : ChannelBinding) (profile : Profile) : Type 0 where
  pub client : ClientSide
  pub scram : profile ≡ ScramProfile client
  pub channel : client.channel ≡ Bound binding
  pub name : profile_name profile ≡ plus_name client.version
  pub says : BeginsWithHeader (Required binding.kind) profile

-- the profile is of SCRAM without -PLUS, and says `y,,`: the client supports channel binding, and assumes that the server
-- does not
pub record SaysNotOffered (profile : Profile) : Type 0 where
  pub client : ClientSide
  pub scram : profile ≡ ScramProfile client
  pub channel : client.channel ≡ NotOffered
  pub name : profile_name profile ≡ mechanism_name client.version
  pub says : BeginsWithHeader ClientSupports profile

-- the profile is of EXTERNAL, PLAIN or ANONYMOUS, each of which the policy allows by its name
abbrev pub IsAllowedByName : ClientPolicy → Profile → Type 0
IsAllowedByName policy ExternalProfile = policy.external ≡ true
IsAllowedByName policy (PlainProfile identity user password) = policy.plain ≡ true
IsAllowedByName policy AnonymousProfile = policy.anonymous ≡ true
IsAllowedByName policy profile = ⊥

-- ---- offers

-- SCRAM of a version that the policy allows and for which the secret serves, of which this is a name
pub record OffersScram (policy : ClientPolicy) (secret : Secret) (names : List (List ℕ)) (name : ScramVersion → List ℕ)
    : Type 0 where
  pub version : ScramVersion
  pub offered : Contains names (name version)
  pub allowed : is_from policy.floor version ≡ true
  pub serves : secret_for version secret ≢ None

-- an offer from which such a client can bind its channel, and one from which it can log in by SCRAM without that
abbrev pub OffersBinding : ClientPolicy → Secret → List (List ℕ) → Type 0
OffersBinding policy secret names = OffersScram policy secret names plus_name

abbrev pub OffersUnbound : ClientPolicy → Secret → List (List ℕ) → Type 0
OffersUnbound policy secret names = OffersScram policy secret names mechanism_name

-- ---- laws

-- a client that has a channel and selects a mechanism binds exactly this channel, or it was offered no mechanism by which
-- it can; then it says so, or the mechanism is not SCRAM, and the policy allows it by its name
abbrev pub SelectionKeepsChannel : Type 0
SelectionKeepsChannel = (policy : ClientPolicy) (user : List ℕ) (secret : Secret) (names : List (List ℕ))
    (binding : ChannelBinding) (profile : Profile) → policy.channel ≡ Some binding
    → SelectsProfile policy user secret names profile
    → BindsExactly binding profile
    ⊎ (¬ OffersBinding policy secret names × (SaysNotOffered profile ⊎ IsAllowedByName policy profile))

-- a client that has a channel and was offered a mechanism by which it can bind it selects one, and binds exactly this
-- channel. So only someone who removes the names with -PLUS from an offer has it use a mechanism without -PLUS
abbrev pub OfferedChannelIsBound : Type 0
OfferedChannelIsBound = (policy : ClientPolicy) (user : List ℕ) (secret : Secret) (names : List (List ℕ))
    (binding : ChannelBinding) → policy.channel ≡ Some binding → OffersBinding policy secret names
    → ((profile : Profile) × SelectsProfile policy user secret names profile)
    × ((profile : Profile) → SelectsProfile policy user secret names profile → BindsExactly binding profile)

-- a client that has a channel, need not bind it, and was offered SCRAM but no mechanism by which it can bind it, selects
-- SCRAM and says `y,,`
abbrev pub UnofferedChannelIsSaid : Type 0
UnofferedChannelIsSaid = (policy : ClientPolicy) (user : List ℕ) (secret : Secret) (names : List (List ℕ))
    (binding : ChannelBinding) → policy.channel ≡ Some binding → policy.must_bind ≡ false
    → ¬ OffersBinding policy secret names → OffersUnbound policy secret names
    → ((profile : Profile) × SelectsProfile policy user secret names profile)
    × ((profile : Profile) → SelectsProfile policy user secret names profile → SaysNotOffered profile)

-- a client that must bind its channel and selects SCRAM has a channel, and binds exactly this one
abbrev pub RequiredChannelIsBound : Type 0
RequiredChannelIsBound = (policy : ClientPolicy) (user : List ℕ) (secret : Secret) (names : List (List ℕ))
    (client : ClientSide) → policy.must_bind ≡ true → SelectsProfile policy user secret names (ScramProfile client)
    → (binding : ChannelBinding) × (policy.channel ≡ Some binding) × BindsExactly binding (ScramProfile client)

-- each profile of SCRAM that a client with a channel selects has that channel, bound or not: what `bound_channels` of
-- `connection_laws` asks of a client
abbrev pub SelectedScramHasChannel : Type 0
SelectedScramHasChannel = (policy : ClientPolicy) (user : List ℕ) (secret : Secret) (names : List (List ℕ))
    (binding : ChannelBinding) (client : ClientSide) → policy.channel ≡ Some binding
    → SelectsProfile policy user secret names (ScramProfile client) → client.channel ≢ Absent
