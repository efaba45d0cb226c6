-- What the profile that a client by a policy selects is: its name is offered, and its policy allows it.
use Rattle.std.proofs.Common.{◌≡◌, ◌&&◌, ℕ, Bool, true, false, Option, Some, None, List, [], refl, sym, ◌∙◌, ap, subst}
use Rattle.std.proofs.lemmas.Option.{same_Some}
use Rattle.std.specs.List.{Contains}
use Rattle.std.specs.Prelude.{is_some}
use Rattle.fe2o3_scram.specs.declared.channel_binding.ChannelBinding.{ChannelBinding}
use Rattle.fe2o3_scram.specs.declared.client_options.ClientOptions.{ClientOptions}
use Rattle.fe2o3_scram.specs.declared.hmac.ScramVersion.{ScramVersion}
use Rattle.fe2o3_scram.specs.ChannelBinding.{is_bound, mechanism_of}
use Rattle.fe2o3_scram.specs.ClientSecret.{Secret, Password, Keys, Both}
use Rattle.fe2o3_sasl_core.specs.ActingProfiles.{acting_profile}
use Rattle.fe2o3_sasl_core.specs.Mechanisms.{mechanism_symbol}
use Rattle.fe2o3_sasl_core.specs.ClientPolicy.{bound_channel, is_allowed, is_from, profile_by, scram_by, scram_options, secret_for, unbound_channel}
use Rattle.fe2o3_sasl_core.specs.ProfileMachine.{IsActing, IsSelected}
use Rattle.fe2o3_sasl_core.specs.Profiles.{AnonymousMessage, AnonymousProfile, ExternalMessage, ExternalProfile, MessageProfile, PlainProfile, PolicyProfile, Profile, ScramProfile, Selection, accepts_signature_by_challenge, profile_name}
use Rattle.fe2o3_sasl_core.specs.declared.client_policy.ClientPolicy.{ClientPolicy}
use Rattle.fe2o3_sasl_core.specs.declared.mechanism.Mechanism.{Mechanism}
use Rattle.fe2o3_sasl_core.specs.declared.mechanism.Mechanism.TheVariants as mechanisms
use Rattle.fe2o3_sasl_core.specs.private.Writing.{IsFor, is_by_policy}

-- ---- the name of a selected profile

abbrev name_in : Option Profile → List ℕ
name_in None = []
name_in (Some profile) = profile_name profile

-- a policy that allows a mechanism with -PLUS has a channel, which such a profile binds
binds : (channel : Option ChannelBinding) (is_strong : Bool) → (is_some channel && is_strong) ≡ true
    → is_bound (bound_channel channel) ≡ true
binds None is_strong allowed = absurd (cc)
binds (Some binding) is_strong allowed = refl

-- and one without -PLUS binds none
binds_none : (channel : Option ChannelBinding) → is_bound (unbound_channel channel) ≡ false
binds_none None = refl
binds_none (Some binding) = refl

scram_name : (options : ClientOptions) (user : List ℕ) (version : ScramVersion) (secret : Option Secret) (profile : Profile)
    → scram_by options user version secret ≡ Some profile
    → profile_name profile ≡ mechanism_of version (is_bound options.channel)
scram_name options user version None profile is = absurd (cc)
scram_name options user version (Some secret) profile is = sym (ap name_in is)

module _ (policy : ClientPolicy) (user : List ℕ) where
  pub selected_name : (secret : Secret) (mechanism : Mechanism) (profile : Profile) → is_allowed policy mechanism ≡ true
      → profile_by policy user secret mechanism ≡ Some profile → profile_name profile ≡ mechanism_symbol mechanism
  selected_name secret (mechanisms.Scram version true) profile allowed is =
      scram_name (scram_options policy true) user version (secret_for version secret) profile is
      ∙ ap (mechanism_of version) (binds policy.channel (is_from policy.floor version) allowed)
  selected_name secret (mechanisms.Scram version false) profile allowed is =
      scram_name (scram_options policy false) user version (secret_for version secret) profile is
      ∙ ap (mechanism_of version) (binds_none policy.channel)
  selected_name secret mechanisms.External profile allowed is = sym (ap name_in is)
  selected_name (Password password) mechanisms.Plain profile allowed is = sym (ap name_in is)
  selected_name (Keys keys) mechanisms.Plain profile allowed is = absurd (cc)
  selected_name (Both password keys) mechanisms.Plain profile allowed is = sym (ap name_in is)
  selected_name secret mechanisms.Anonymous profile allowed is = sym (ap name_in is)

-- ---- the name of a profile that acts for an identity

named_alike : (chosen : Profile) (identity : List ℕ) → profile_name (acting_profile chosen identity) ≡ profile_name chosen
named_alike (ScramProfile client) identity = refl
named_alike (PlainProfile other user password) identity = refl
named_alike AnonymousProfile identity = refl
named_alike ExternalProfile identity = refl
named_alike (MessageProfile AnonymousMessage message is_due) identity = refl
named_alike (MessageProfile ExternalMessage message is_due) identity = refl
named_alike (PolicyProfile selection) identity = refl

pub acting_name : (acts_for : Option (List ℕ)) (chosen profile : Profile) → IsActing acts_for chosen profile
    → profile_name profile ≡ profile_name chosen
acting_name None chosen profile is = ap profile_name is
acting_name (Some identity) chosen profile (can, is) = ap profile_name is ∙ named_alike chosen identity

-- ---- what a selected profile is not

-- a profile of a mechanism, which takes no signature in a challenge
abbrev IsOrdinary : Profile → Type 0
IsOrdinary profile = (is_by_policy profile ≡ false) × (accepts_signature_by_challenge profile ≡ false)

module _ (policy : ClientPolicy) (user : List ℕ) where
  ordinary_scram : (plus : Bool) (version : ScramVersion) (secret : Option Secret) (profile : Profile)
      → scram_by (scram_options policy plus) user version secret ≡ Some profile → IsOrdinary profile
  ordinary_scram plus version None profile is = absurd (cc)
  ordinary_scram plus version (Some secret) profile is = subst IsOrdinary (same_Some _ profile is) (refl, refl)

  ordinary : (secret : Secret) (mechanism : Mechanism) (profile : Profile)
      → profile_by policy user secret mechanism ≡ Some profile → IsOrdinary profile
  ordinary secret (mechanisms.Scram version plus) profile is =
      ordinary_scram plus version (secret_for version secret) profile is
  ordinary secret mechanisms.External profile is = subst IsOrdinary (same_Some _ profile is) (refl, refl)
  ordinary (Password password) mechanisms.Plain profile is = subst IsOrdinary (same_Some _ profile is) (refl, refl)
  ordinary (Keys keys) mechanisms.Plain profile is = absurd (cc)
  ordinary (Both password keys) mechanisms.Plain profile is = subst IsOrdinary (same_Some _ profile is) (refl, refl)
  ordinary secret mechanisms.Anonymous profile is = subst IsOrdinary (same_Some _ profile is) (refl, refl)

acting_ordinary : (chosen : Profile) (identity : List ℕ) → IsOrdinary chosen → IsOrdinary (acting_profile chosen identity)
acting_ordinary (ScramProfile client) identity is = is
acting_ordinary (PlainProfile other user password) identity is = (refl, refl)
acting_ordinary AnonymousProfile identity is = is
acting_ordinary ExternalProfile identity is = (refl, refl)
acting_ordinary (MessageProfile AnonymousMessage message is_due) identity is = is
acting_ordinary (MessageProfile ExternalMessage message is_due) identity is = (refl, refl)
acting_ordinary (PolicyProfile selection) identity is = is

-- ---- what it is

pub selected_ordinary : (selection : Selection) (names : List (List ℕ)) (profile : Profile)
    → IsSelected selection names profile
    → (is_by_policy profile ≡ false) × (accepts_signature_by_challenge profile ≡ false)
selected_ordinary selection names profile (chosen, (mechanism, first, is), acting) =
    go selection.acts_for acting (ordinary selection.policy selection.user selection.secret mechanism chosen is)
  where
    go : (acts_for : Option (List ℕ)) → IsActing acts_for chosen profile → IsOrdinary chosen → IsOrdinary profile
    go None acts plain = subst IsOrdinary (sym acts) plain
    go (Some identity) (can, acts) plain = subst IsOrdinary (sym acts) (acting_ordinary chosen identity plain)

-- its mechanism is offered, so that it answers the offer
is_for : (profile : Profile) (names : List (List ℕ)) → is_by_policy profile ≡ false → Contains names (profile_name profile)
    → IsFor profile names profile
is_for (PolicyProfile selection) names of has = absurd (cc)
is_for profile names of has = (has, refl)

pub selected_is_for : (selection : Selection) (names : List (List ℕ)) (profile : Profile)
    → IsSelected selection names profile → IsFor profile names profile
selected_is_for selection names profile selected =
    let (chosen, (mechanism, first, is), acting) = selected in
    let named = acting_name selection.acts_for chosen profile acting
    ∙ selected_name selection.policy selection.user selection.secret mechanism chosen first.2.0 is in
    is_for profile names (selected_ordinary selection names profile selected).0
    (subst (λ (name : List ℕ). Contains names name) (sym named) first.2.2)
