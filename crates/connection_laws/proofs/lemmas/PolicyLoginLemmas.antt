-- The login of a profile of SCRAM that a policy selects (RFC 5802, sections 3, 5 and 6): `logins_meet_premises`.
use Rattle.std.proofs.Common.{◌≡◌, ◌≢◌, ◌⊎◌, ◌<◌, ◌^◌, ℕ, Bool, true, false, Option, Some, None, List, refl, sym, ◌∙◌, ap, subst, inl, inr}
use Rattle.std.proofs.lemmas.Option.{same_Some}
use Rattle.std.specs.Str.{IsUtf8}
use Rattle.base64.specs.GeneralPurpose.{IsBytes}
use Rattle.fe2o3_scram.specs.ChannelBinding.{HoldsHeaderBytes, authzid_text, cbind_data}
use Rattle.fe2o3_scram.proofs.lemmas.hashes.DigestLemmas.{IsBytes-nil}
use Rattle.fe2o3_scram.specs.declared.client_secret.IterationLimits.{IterationLimits}
use Rattle.fe2o3_scram.specs.declared.channel_binding.ChannelBinding.{ChannelBinding}
use Rattle.fe2o3_scram.specs.declared.hmac.ScramVersion.{ScramVersion}
use Rattle.fe2o3_scram.specs.declared.hmac.ScramVersion.TheVariants.{Sha1, Sha256, Sha512}
use Rattle.fe2o3_scram.specs.declared.scram_messages.client_channel.ClientChannel.{ClientChannel}
use Rattle.fe2o3_scram.specs.declared.scram_messages.client_channel.ClientChannel.TheVariants.{Absent, Bound, NotOffered}
use Rattle.fe2o3_scram.specs.ClientSecret.{Secret, Password, Keys, Both}
use Rattle.fe2o3_scram.specs.ScramClient.{fresh_client, identity_named, with_options}
use Rattle.fe2o3_sasl_core.specs.ActingProfiles.{acting_profile}
use Rattle.fe2o3_sasl_core.specs.ClientPolicy.{bound_channel, channel_with, keys_for_version, plain_by, profile_by, scram_by, scram_options, secret_for, unbound_channel}
use Rattle.fe2o3_sasl_core.specs.Events.{IsSecret, Login}
use Rattle.fe2o3_sasl_core.specs.ProfileMachine.{IsActing, IsSelected}
use Rattle.fe2o3_sasl_core.specs.Profiles.{AnonymousMessage, AnonymousProfile, ExternalMessage, ExternalProfile, MessageProfile, Profile, ScramProfile, Selection, scram_profile}
use Rattle.fe2o3_sasl_core.specs.declared.client_policy.ClientPolicy.{ClientPolicy}
use Rattle.fe2o3_sasl_core.specs.declared.mechanism.Mechanism.{Mechanism}
use Rattle.fe2o3_sasl_core.specs.declared.mechanism.Mechanism.TheVariants as mechanisms
use Rattle.connection_laws.specs.PolicyClients.{IsLoginOf, LoginsMeetPremises}
use Rattle.connection_laws.proofs.lemmas.ProfileKindLemmas.{kind}

-- ---- what a policy selects

-- a profile of SCRAM that a policy selects
record IsScramOf (policy : ClientPolicy) (user : List ℕ) (secret : Secret) (chosen : Profile) : Type 0 where
  pub version : ScramVersion
  pub own : Secret
  pub plus : Bool
  pub serves : secret_for version secret ≡ Some own
  pub is : chosen ≡ ScramProfile (with_options (fresh_client user version own) (scram_options policy plus))

by_scram : (policy : ClientPolicy) (user : List ℕ) (secret : Secret) (version : ScramVersion) (plus : Bool)
    (chosen : Profile) (found : Option Secret) → secret_for version secret ≡ found
    → scram_by (scram_options policy plus) user version found ≡ Some chosen → IsScramOf policy user secret chosen
by_scram policy user secret version plus chosen None serves is = absurd (cc)
by_scram policy user secret version plus chosen (Some own) serves is = record {
  version = version;
  own = own;
  plus = plus;
  serves = serves;
  is = sym (same_Some (ScramProfile (with_options (fresh_client user version own) (scram_options policy plus))) chosen is);
}

-- and what it says of its channel
says : (channel : Option ChannelBinding) (plus : Bool)
    → (channel_with plus channel ≡ unbound_channel channel) ⊎ (channel_with plus channel ≡ bound_channel channel)
says channel true = inr refl
says channel false = inl refl

other_kind : (profile chosen : Profile) → kind profile ≡ Some false → Some profile ≡ Some chosen → kind chosen ≡ Some false
other_kind profile chosen other is = sym (ap kind (same_Some profile chosen is)) ∙ other

by_plain : (user : List ℕ) (secret : Secret) (chosen : Profile) → plain_by user secret ≡ Some chosen
    → kind chosen ≡ Some false
by_plain user (Password password) chosen is = other_kind _ chosen refl is
by_plain user (Keys keys) chosen is = absurd (cc)
by_plain user (Both password keys) chosen is = other_kind _ chosen refl is

chosen_kind : (policy : ClientPolicy) (user : List ℕ) (secret : Secret) (mechanism : Mechanism) (chosen : Profile)
    → profile_by policy user secret mechanism ≡ Some chosen
    → IsScramOf policy user secret chosen ⊎ (kind chosen ≡ Some false)
chosen_kind policy user secret (mechanisms.Scram version plus) chosen is =
    inl (by_scram policy user secret version plus chosen _ refl is)
chosen_kind policy user secret mechanisms.External chosen is = inr (other_kind ExternalProfile chosen refl is)
chosen_kind policy user secret mechanisms.Plain chosen is = inr (by_plain user secret chosen is)
chosen_kind policy user secret mechanisms.Anonymous chosen is = inr (other_kind AnonymousProfile chosen refl is)

-- ---- whom it acts for

acting_kind : (chosen : Profile) (identity : List ℕ) → kind (acting_profile chosen identity) ≡ kind chosen
acting_kind (MessageProfile ExternalMessage message is_due) identity = refl
acting_kind (MessageProfile AnonymousMessage message is_due) identity = refl
acting_kind (ScramProfile client) identity = refl
acting_kind profile identity = refl

kept_kind : (acts_for : Option (List ℕ)) (chosen profile : Profile) → IsActing acts_for chosen profile
    → kind profile ≡ kind chosen
kept_kind None chosen profile is = ap kind is
kept_kind (Some identity) chosen profile (can, is) = ap kind is ∙ acting_kind chosen identity

-- ---- the login

-- the login of a version, by what the secret is for it, that says this of its channel
abbrev login_by : Selection → Option (List ℕ) → ScramVersion → Secret → Bool → Login
login_by selection hostname version own plus = record {
  user = selection.user;
  secret = own;
  version = version;
  limits = selection.policy.limits;
  channel = channel_with plus selection.policy.channel;
  acts_for = identity_named selection.acts_for;
  strict = selection.policy.strict;
  signature_by_challenge = false;
  hostname = hostname;
}

-- a client that acts for the identity of the selection
acts_as : (policy : ClientPolicy) (user : List ℕ) (version : ScramVersion) (own : Secret) (plus : Bool)
    (acts_for hostname : Option (List ℕ)) (profile : Profile)
    → IsActing acts_for (ScramProfile (with_options (fresh_client user version own) (scram_options policy plus))) profile
    → profile ≡ scram_profile (record {
      user = user;
      secret = own;
      version = version;
      limits = policy.limits;
      channel = channel_with plus policy.channel;
      acts_for = identity_named acts_for;
      strict = policy.strict;
      signature_by_challenge = false;
      hostname = hostname;
    })
acts_as policy user version own plus None hostname profile is = is
acts_as policy user version own plus (Some identity) hostname profile (can, is) = is

-- a selected profile is of SCRAM, and begins a login of the selection, or is of another kind
pub selected_login : (selection : Selection) (hostname : Option (List ℕ)) (names : List (List ℕ)) (profile : Profile)
    → IsSelected selection names profile
    → ((login : Login) × IsLoginOf selection hostname login × (profile ≡ scram_profile login)) ⊎ (kind profile ≡ Some false)
selected_login selection hostname names profile (chosen, (mechanism, first, is), acting) =
    go (chosen_kind selection.policy selection.user selection.secret mechanism chosen is)
  where
    go : IsScramOf selection.policy selection.user selection.secret chosen ⊎ (kind chosen ≡ Some false)
        → ((login : Login) × IsLoginOf selection hostname login × (profile ≡ scram_profile login)) ⊎ (kind profile ≡ Some false)
    go (inr other) = inr (kept_kind selection.acts_for chosen profile acting ∙ other)
    go (inl scram) = inl (
      login_by selection hostname scram.version scram.own scram.plus,
      record {
        user = refl;
        secret = scram.serves;
        limits = refl;
        channel = says selection.policy.channel scram.plus;
        acts_for = refl;
        strict = refl;
        signature_by_challenge = refl;
        hostname = refl;
      },
      acts_as selection.policy selection.user scram.version scram.own scram.plus selection.acts_for hostname
          profile (subst (λ (p : Profile). IsActing selection.acts_for p profile) scram.is acting),
    )

-- ---- what the laws of two sides ask of a login

one_of : (version of : ScramVersion) (same other : Option Secret)
    → (keys_for_version version of same other ≡ same) ⊎ (keys_for_version version of same other ≡ other)
one_of Sha1 Sha1 same other = inl refl
one_of Sha256 Sha256 same other = inl refl
one_of Sha512 Sha512 same other = inl refl
one_of version of same other = inr refl

secret_kept : (version : ScramVersion) (secret own : Secret) → secret_for version secret ≡ Some own → IsSecret secret
    → IsSecret own
secret_kept version (Password password) own is sized = subst IsSecret (same_Some (Password password) own is) sized
secret_kept version (Keys keys) own is sized = go (one_of version keys.version (Some (Keys keys)) None)
  where
    go : (keys_for_version version keys.version (Some (Keys keys)) None ≡ Some (Keys keys))
        ⊎ (keys_for_version version keys.version (Some (Keys keys)) None ≡ None) → IsSecret own
    go (inl same) = subst IsSecret (same_Some (Keys keys) own (sym same ∙ is)) sized
    go (inr none) = let no : None ≡ Some own = sym none ∙ is in absurd (cc)
secret_kept version (Both password keys) own is sized =
    go (one_of version keys.version (Some (Both password keys)) (Some (Password password)))
  where
    go : (keys_for_version version keys.version (Some (Both password keys)) (Some (Password password))
        ≡ Some (Both password keys))
        ⊎ (keys_for_version version keys.version (Some (Both password keys)) (Some (Password password))
        ≡ Some (Password password)) → IsSecret own
    go (inl same) = subst IsSecret (same_Some (Both password keys) own (sym same ∙ is)) sized
    go (inr other) = subst IsSecret (same_Some (Password password) own (sym other ∙ is)) tt

channel_kept : (held : Option ChannelBinding) (channel : ClientChannel)
    → (channel ≡ unbound_channel held) ⊎ (channel ≡ bound_channel held) → held ≢ None → channel ≢ Absent
channel_kept None channel says some absent = some refl
channel_kept (Some binding) channel (inl is) some absent = let no : NotOffered ≡ Absent = sym is ∙ absent in cc
channel_kept (Some binding) channel (inr is) some absent = let no : Bound binding ≡ Absent = sym is ∙ absent in cc

-- the header of a login without -PLUS has no data of the channel
unbound_bytes : (held : Option ChannelBinding) → IsBytes (cbind_data (unbound_channel held))
unbound_bytes None = IsBytes-nil
unbound_bytes (Some binding) = IsBytes-nil

header_bytes : (held : Option ChannelBinding) (acts_for : Option (List ℕ)) (channel : ClientChannel)
    → (channel ≡ unbound_channel held) ⊎ (channel ≡ bound_channel held)
    → HoldsHeaderBytes (record { channel = bound_channel held; acts_for = acts_for })
    → HoldsHeaderBytes (record { channel = channel; acts_for = acts_for })
header_bytes held acts_for channel (inl is) holds =
    (subst (λ (c : ClientChannel). IsBytes (cbind_data c)) (sym is) (unbound_bytes held), holds.1)
header_bytes held acts_for channel (inr is) holds =
    (subst (λ (c : ClientChannel). IsBytes (cbind_data c)) (sym is) holds.0, holds.1)

pub logins_meet_premises : LoginsMeetPremises
logins_meet_premises selection hostname login of = (
  λ holds. (
    record {
      user = subst IsUtf8 (sym of.user) holds.user;
      limit = subst (λ (l : IterationLimits). l.max_iterations < 2 ^ 32) (sym of.limits) holds.limit;
      channel = subst (λ (name : Option (List ℕ)). HoldsHeaderBytes (record { channel = login.channel; acts_for = name }))
          (sym of.acts_for) (header_bytes selection.policy.channel (identity_named selection.acts_for) login.channel
          of.channel holds.channel);
      identity = subst (λ (name : Option (List ℕ)). IsUtf8 (authzid_text name)) (sym of.acts_for) holds.identity;
      hostname = λ text is. holds.hostname text (sym of.hostname ∙ is);
    },
    secret_kept login.version selection.secret login.secret of.secret holds.secret,
  ),
  channel_kept selection.policy.channel login.channel of.channel,
)
