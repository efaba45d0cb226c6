-- What a client that has a channel says of it (RFC 5802, section 6): `selection_keeps_channel`, `offered_channel_is_bound`,
-- `unoffered_channel_is_said`, `required_channel_is_bound`, `selected_scram_has_channel`.
use Rattle.std.proofs.Common.{◌≡◌, ◌≢◌, ◌⊎◌, ◌&&◌, not, ℕ, zero, suc, Bool, true, false, Option, Some, None, List, [], ◌∷◌, take, refl, sym, ◌∙◌, ap, subst, inl, inr, arith}
use Rattle.std.specs.List.{AllByRecursion, Contains}
use Rattle.std.specs.Prelude.{is_some, slice_get}
use Rattle.fe2o3_scram.specs.declared.channel_binding.ChannelBinding.{ChannelBinding}
use Rattle.fe2o3_scram.specs.declared.client_options.ClientOptions.{ClientOptions}
use Rattle.fe2o3_scram.specs.declared.hmac.ScramVersion.{ScramVersion}
use Rattle.fe2o3_scram.specs.declared.hmac.ScramVersion.TheVariants.{Sha1, Sha256, Sha512}
use Rattle.fe2o3_scram.specs.declared.scram_messages.client_channel.ClientChannel.{ClientChannel}
use Rattle.fe2o3_scram.specs.declared.scram_messages.client_channel.ClientChannel.TheVariants.{Absent, Bound, NotOffered}
use Rattle.fe2o3_scram.specs.ChannelBinding.{flag_of, is_bound, mechanism_of, ClientHeader, header_of}
use Rattle.fe2o3_scram.specs.ClientFirst.{client_first_bare, client_first_with}
use Rattle.fe2o3_scram.specs.ClientSecret.{Secret, Password, Keys, Both}
use Rattle.fe2o3_scram.specs.ScramClient.{ClientSide, fresh_client, with_options}
use Rattle.fe2o3_scram.specs.Texts.{base64_text}
use Rattle.fe2o3_scram.proofs.lemmas.texts.DecisionLemmas.{Decided, same_or}
use Rattle.fe2o3_sasl_core.specs.Mechanisms.{mechanism_symbol}
use Rattle.fe2o3_sasl_core.specs.ClientPolicy.{CanTake, IsFirstTaken, SelectsProfile, bound_channel, by_strength, is_allowed, is_from, profile_by, scram_by, scram_options, secret_for, unbound_channel}
use Rattle.fe2o3_sasl_core.specs.ClientPolicyLaws.{BeginsWithHeader, BindsExactly, IsAllowedByName, OfferedChannelIsBound, OffersBinding, OffersUnbound, RequiredChannelIsBound, SaysNotOffered, SelectedScramHasChannel, SelectionKeepsChannel, UnofferedChannelIsSaid}
use Rattle.fe2o3_sasl_core.specs.Profiles.{Profile, ScramProfile, initial_response, profile_name}
use Rattle.fe2o3_sasl_core.specs.declared.client_policy.ClientPolicy.{ClientPolicy}
use Rattle.fe2o3_sasl_core.specs.declared.mechanism.Mechanism.{Mechanism}
use Rattle.fe2o3_sasl_core.specs.declared.mechanism.Mechanism.TheVariants as mechanisms

-- ---- mechanisms

-- SCRAM of a version, with -PLUS and without it
abbrev plus_of : ScramVersion → Mechanism
plus_of version = mechanisms.Scram version true

abbrev unbound_of : ScramVersion → Mechanism
unbound_of version = mechanisms.Scram version false

-- a mechanism that is not SCRAM
abbrev IsOther : Mechanism → Type 0
IsOther mechanisms.External = Unit {0}
IsOther mechanisms.Plain = Unit {0}
IsOther mechanisms.Anonymous = Unit {0}
IsOther (mechanisms.Scram version plus) = ⊥

the_some : {A : Type 0} (a b : A) → Some a ≡ Some b → a ≡ b
the_some a b is = grind (arith, is)

-- at the first of the mechanisms of which P does not hold, P holds of all that are stronger
abbrev Above : (Mechanism → Type 0) → ℕ → Type 0
Above P k = AllByRecursion P (take k by_strength)

plus_above : (P : Mechanism → Type 0) (k : ℕ) → Above P (suc (suc (suc k))) → (version : ScramVersion) → P (plus_of version)
plus_above P k all Sha512 = all.0
plus_above P k all Sha256 = all.1.0
plus_above P k all Sha1 = all.1.1.0

unbound_above : (P : Mechanism → Type 0) (k : ℕ) → Above P (suc (suc (suc (suc (suc (suc k))))))
    → (version : ScramVersion) → P (unbound_of version)
unbound_above P k all Sha512 = all.1.1.1.0
unbound_above P k all Sha256 = all.1.1.1.1.0
unbound_above P k all Sha1 = all.1.1.1.1.1.0

-- where a mechanism is in the list, and what holds of those above it
abbrev Placed : (Mechanism → Type 0) → Mechanism → Type 0
Placed P mechanism = ((version : ScramVersion) × (mechanism ≡ plus_of version))
    ⊎ (((version : ScramVersion) → P (plus_of version)) × (((version : ScramVersion) × (mechanism ≡ unbound_of version))
    ⊎ (((version : ScramVersion) → P (unbound_of version)) × IsOther mechanism)))

placed : (P : Mechanism → Type 0) (k : ℕ) (mechanism : Mechanism) → slice_get by_strength k ≡ Some mechanism → Above P k
    → Placed P mechanism
placed P zero mechanism at all = inl (Sha512, sym (the_some (plus_of Sha512) mechanism at))
placed P (suc zero) mechanism at all = inl (Sha256, sym (the_some (plus_of Sha256) mechanism at))
placed P (suc (suc zero)) mechanism at all = inl (Sha1, sym (the_some (plus_of Sha1) mechanism at))
placed P (suc (suc (suc zero))) mechanism at all =
    inr (plus_above P 0 all, inl (Sha512, sym (the_some (unbound_of Sha512) mechanism at)))
placed P (suc (suc (suc (suc zero)))) mechanism at all =
    inr (plus_above P 1 all, inl (Sha256, sym (the_some (unbound_of Sha256) mechanism at)))
placed P (suc (suc (suc (suc (suc zero))))) mechanism at all =
    inr (plus_above P 2 all, inl (Sha1, sym (the_some (unbound_of Sha1) mechanism at)))
placed P (suc (suc (suc (suc (suc (suc zero)))))) mechanism at all = inr (
  plus_above P 3 all,
  inr (unbound_above P 0 all, subst IsOther (the_some mechanisms.External mechanism at) tt),
)
placed P (suc (suc (suc (suc (suc (suc (suc zero))))))) mechanism at all = inr (
  plus_above P 4 all,
  inr (unbound_above P 1 all, subst IsOther (the_some mechanisms.Plain mechanism at) tt),
)
placed P (suc (suc (suc (suc (suc (suc (suc (suc zero)))))))) mechanism at all = inr (
  plus_above P 5 all,
  inr (unbound_above P 2 all, subst IsOther (the_some mechanisms.Anonymous mechanism at) tt),
)
placed P (suc (suc (suc (suc (suc (suc (suc (suc (suc k))))))))) mechanism at all = absurd (cc)

-- ---- profiles

-- the profile is of SCRAM of this version, with this channel
record IsScramWith (channel : ClientChannel) (version : ScramVersion) (profile : Profile) : Type 0 where
  pub client : ClientSide
  pub scram : profile ≡ ScramProfile client
  pub channel_is : client.channel ≡ channel
  pub own : client.acts_for ≡ None
  pub version_is : client.version ≡ version

scram_with : (options : ClientOptions) (user : List ℕ) (version : ScramVersion) (secret : Option Secret)
    (profile : Profile) → scram_by options user version secret ≡ Some profile → IsScramWith options.channel version profile
scram_with options user version None profile is = absurd (cc)
scram_with options user version (Some secret) profile is = record {
  client = with_options (fresh_client user version secret) options;
  scram = sym (the_some _ profile is);
  channel_is = refl;
  own = refl;
  version_is = refl;
}

begins : (channel : ClientChannel) (profile : Profile) (client : ClientSide) → profile ≡ ScramProfile client
    → client.channel ≡ channel → client.acts_for ≡ None → BeginsWithHeader (flag_of channel) profile
begins channel profile client is same own nonce = (
  client_first_bare client.user (base64_text nonce),
  ap (λ (p : Profile). initial_response p nonce) is
      ∙ ap (λ (header : ClientHeader). Some (client_first_with (header_of header) client.user (base64_text nonce)))
      (λ i. record { channel = same i; acts_for = own i }),
)

named : (channel : ClientChannel) (profile : Profile) (client : ClientSide) → profile ≡ ScramProfile client
    → client.channel ≡ channel → profile_name profile ≡ mechanism_of client.version (is_bound channel)
named channel profile client is same =
    ap profile_name is ∙ ap (λ (c : ClientChannel). mechanism_of client.version (is_bound c)) same

binds_exactly : (binding : ChannelBinding) (version : ScramVersion) (profile : Profile)
    → IsScramWith (Bound binding) version profile → BindsExactly binding profile
binds_exactly binding version profile is = record {
  client = is.client;
  scram = is.scram;
  channel = is.channel_is;
  name = named (Bound binding) profile is.client is.scram is.channel_is;
  says = begins (Bound binding) profile is.client is.scram is.channel_is is.own;
}

says_not_offered : (version : ScramVersion) (profile : Profile) → IsScramWith NotOffered version profile
    → SaysNotOffered profile
says_not_offered version profile is = record {
  client = is.client;
  scram = is.scram;
  channel = is.channel_is;
  name = named NotOffered profile is.client is.scram is.channel_is;
  says = begins NotOffered profile is.client is.scram is.channel_is is.own;
}

module _ (policy : ClientPolicy) (user : List ℕ) (secret : Secret) where
  plus_profile : (version : ScramVersion) (profile : Profile)
      → profile_by policy user secret (plus_of version) ≡ Some profile
      → IsScramWith (bound_channel policy.channel) version profile
  plus_profile version profile is =
      scram_with (scram_options policy true) user version (secret_for version secret) profile is

  unbound_profile : (version : ScramVersion) (profile : Profile)
      → profile_by policy user secret (unbound_of version) ≡ Some profile
      → IsScramWith (unbound_channel policy.channel) version profile
  unbound_profile version profile is =
      scram_with (scram_options policy false) user version (secret_for version secret) profile is

  plain_by_name : (other : Secret) (profile : Profile) → policy.plain ≡ true
      → profile_by policy user other mechanisms.Plain ≡ Some profile → IsAllowedByName policy profile
  plain_by_name (Password password) profile allowed is = subst (IsAllowedByName policy) (the_some _ profile is) allowed
  plain_by_name (Keys keys) profile allowed is = absurd (cc)
  plain_by_name (Both password keys) profile allowed is = subst (IsAllowedByName policy) (the_some _ profile is) allowed

  by_name : (mechanism : Mechanism) (profile : Profile) → IsOther mechanism → is_allowed policy mechanism ≡ true
      → profile_by policy user secret mechanism ≡ Some profile → IsAllowedByName policy profile
  by_name mechanisms.External profile other allowed is = subst (IsAllowedByName policy) (the_some _ profile is) allowed
  by_name mechanisms.Plain profile other allowed is = plain_by_name secret profile allowed is
  by_name mechanisms.Anonymous profile other allowed is = subst (IsAllowedByName policy) (the_some _ profile is) allowed
  by_name (mechanisms.Scram version plus) profile other allowed is = absurd other

  -- ---- which mechanisms can be selected

  module _ (names : List (List ℕ)) where
    abbrev Can : Mechanism → Type 0
    Can mechanism = CanTake policy user secret names mechanism

    serves_scram : (options : ClientOptions) (version : ScramVersion) (own : Option Secret) → own ≢ None
        → scram_by options user version own ≢ None
    serves_scram options version None some is = some refl
    serves_scram options version (Some own) some is = absurd (cc)

    both_true : (a b : Bool) → a ≡ true → b ≡ true → (a && b) ≡ true
    both_true a b is too = ap (λ (x : Bool). x && b) is ∙ too

    -- an offer from which a client can bind its channel has a mechanism with -PLUS that it can select
    can_bind : (binding : ChannelBinding) → policy.channel ≡ Some binding → (offer : OffersBinding policy secret names)
        → Can (plus_of offer.version)
    can_bind binding channel offer = (
      both_true (is_some policy.channel) (is_from policy.floor offer.version)
          (ap (λ (c : Option ChannelBinding). is_some c) channel) offer.allowed,
      serves_scram (scram_options policy true) offer.version (secret_for offer.version secret) offer.serves,
      offer.offered,
    )

    can_unbound : policy.must_bind ≡ false → (offer : OffersUnbound policy secret names)
        → Can (unbound_of offer.version)
    can_unbound free offer = (
      both_true (not policy.must_bind) (is_from policy.floor offer.version) (ap not free) offer.allowed,
      serves_scram (scram_options policy false) offer.version (secret_for offer.version secret) offer.serves,
      offer.offered,
    )

    -- a mechanism with -PLUS that a client can select is such an offer
    both_of : (a b : Bool) → (a && b) ≡ true → (a ≡ true) × (b ≡ true)
    both_of true b is = (refl, is)
    both_of false b is = absurd (cc)

    scram_serves : (options : ClientOptions) (version : ScramVersion) (own : Option Secret)
        → scram_by options user version own ≢ None → own ≢ None
    scram_serves options version None some is = some refl
    scram_serves options version (Some own) some is = absurd (cc)

    offers_binding : (version : ScramVersion) → Can (plus_of version) → OffersBinding policy secret names
    offers_binding version can = record {
      version = version;
      offered = can.2;
      allowed = (both_of (is_some policy.channel) (is_from policy.floor version) can.0).1;
      serves = scram_serves (scram_options policy true) version (secret_for version secret) can.1;
    }

    -- a policy that must bind allows no SCRAM without -PLUS
    must_not : (b : Bool) (strong : Bool) → b ≡ true → (not b && strong) ≡ true → ⊥
    must_not true strong must allowed = absurd (cc)
    must_not false strong must allowed = absurd (cc)

    never_unbound : (version : ScramVersion) → policy.must_bind ≡ true
        → is_allowed policy (unbound_of version) ≡ true → ⊥
    never_unbound version must allowed = must_not policy.must_bind (is_from policy.floor version) must allowed

    -- and one that allows a mechanism with -PLUS has a channel
    some_channel : (channel : Option ChannelBinding) (strong : Bool) → (is_some channel && strong) ≡ true
        → (binding : ChannelBinding) × (channel ≡ Some binding)
    some_channel None strong allowed = absurd (cc)
    some_channel (Some binding) strong allowed = (binding, refl)

    channel_of : (version : ScramVersion) → is_allowed policy (plus_of version) ≡ true
        → (binding : ChannelBinding) × (policy.channel ≡ Some binding)
    channel_of version allowed = some_channel policy.channel (is_from policy.floor version) allowed

    -- ---- whether something is selected

    later : (first : List ℕ) (rest : List (List ℕ)) (name : List ℕ) → first ≢ name → ¬ Contains rest name
        → ¬ Contains (first ∷ rest) name
    later first rest name differs none (zero, within, is) = differs is
    later first rest name differs none (suc k, within, is) = none (k, omega (arith, within), is)

    contains_or : (offer : List (List ℕ)) (name : List ℕ) → Decided (Contains offer name)
    contains_or [] name = inr (λ has. absurd (omega (arith, has.1)))
    contains_or (first ∷ rest) name = elim (same_or first name) [
      | inl is ↦ inl (0, omega arith, is)
      | inr differs ↦ elim (contains_or rest name) [
        | inl (k, within, is) ↦ inl (suc k, omega (arith, within), is)
        | inr none ↦ inr (later first rest name differs none)
      ]
    ]

    true_or : (b : Bool) → Decided (b ≡ true)
    true_or true = inl refl
    true_or false = inr (λ is. absurd (cc))

    some_or_none : (found : Option Profile) → Decided (found ≢ None)
    some_or_none None = inr (λ some. some refl)
    some_or_none (Some profile) = inl (λ is. absurd (cc))

    can_or : (mechanism : Mechanism) → Decided (Can mechanism)
    can_or mechanism = elim (true_or (is_allowed policy mechanism)) [
      | inr not ↦ inr (λ can. not can.0)
      | inl allowed ↦ elim (some_or_none (profile_by policy user secret mechanism)) [
        | inr none ↦ inr (λ can. none can.1)
        | inl serves ↦ elim (contains_or names (mechanism_symbol mechanism)) [
          | inr absent ↦ inr (λ can. absent can.2)
          | inl has ↦ inl (allowed, serves, has)
        ]
      ]
    ]

    abbrev First : List Mechanism → Mechanism → Type 0
    First mechanisms mechanism = IsFirstTaken policy user secret names mechanisms mechanism

    first_or : (mechanisms : List Mechanism)
        → ((mechanism : Mechanism) × First mechanisms mechanism) ⊎ AllByRecursion (λ other. ¬ Can other) mechanisms
    first_or [] = inr tt
    first_or (mechanism ∷ mechanisms) = elim (can_or mechanism) [
      | inl can ↦ inl (mechanism, (0, refl, can, tt))
      | inr not ↦ elim (first_or mechanisms) [
        | inl (other, (k, at, can, none)) ↦ inl (other, (suc k, at, can, (not, none)))
        | inr none ↦ inr (not, none)
      ]
    ]

    the_profile : (mechanism : Mechanism) (found : Option Profile) → profile_by policy user secret mechanism ≡ found
        → First by_strength mechanism → (profile : Profile) × SelectsProfile policy user secret names profile
    the_profile mechanism None is first = absurd (first.2.1 is)
    the_profile mechanism (Some profile) is first = (profile, (mechanism, first, is))

    -- where a mechanism can be selected, one is
    some_selected : ¬ AllByRecursion (λ other. ¬ Can other) by_strength
        → (profile : Profile) × SelectsProfile policy user secret names profile
    some_selected some = elim (first_or by_strength) [
      | inl (mechanism, first) ↦ the_profile mechanism (profile_by policy user secret mechanism) refl first
      | inr none ↦ absurd (some none)
    ]

    not_all_plus : (version : ScramVersion) → Can (plus_of version) → ¬ AllByRecursion (λ other. ¬ Can other) by_strength
    not_all_plus Sha512 can all = all.0 can
    not_all_plus Sha256 can all = all.1.0 can
    not_all_plus Sha1 can all = all.1.1.0 can

    not_all_unbound : (version : ScramVersion) → Can (unbound_of version)
        → ¬ AllByRecursion (λ other. ¬ Can other) by_strength
    not_all_unbound Sha512 can all = all.1.1.1.0 can
    not_all_unbound Sha256 can all = all.1.1.1.1.0 can
    not_all_unbound Sha1 can all = all.1.1.1.1.1.0 can

    -- ---- what the selected profile says of the channel

    abbrev None_of : Mechanism → Type 0
    None_of mechanism = ¬ Can mechanism

    bound_is : (binding : ChannelBinding) → policy.channel ≡ Some binding → bound_channel policy.channel ≡ Bound binding
    bound_is binding channel = ap (λ (c : Option ChannelBinding). bound_channel c) channel

    unbound_is : (binding : ChannelBinding) → policy.channel ≡ Some binding → unbound_channel policy.channel ≡ NotOffered
    unbound_is binding channel = ap (λ (c : Option ChannelBinding). unbound_channel c) channel

    selected_plus : (binding : ChannelBinding) (mechanism : Mechanism) (version : ScramVersion) (profile : Profile)
        → policy.channel ≡ Some binding → mechanism ≡ plus_of version
        → profile_by policy user secret mechanism ≡ Some profile → BindsExactly binding profile
    selected_plus binding mechanism version profile channel is selected =
        binds_exactly binding version profile
        (subst (λ (c : ClientChannel). IsScramWith c version profile) (bound_is binding channel)
        (plus_profile version profile (subst (λ (m : Mechanism). profile_by policy user secret m ≡ Some profile) is
        selected)))

    selected_unbound : (binding : ChannelBinding) (mechanism : Mechanism) (version : ScramVersion) (profile : Profile)
        → policy.channel ≡ Some binding → mechanism ≡ unbound_of version
        → profile_by policy user secret mechanism ≡ Some profile → SaysNotOffered profile
    selected_unbound binding mechanism version profile channel is selected =
        says_not_offered version profile
        (subst (λ (c : ClientChannel). IsScramWith c version profile) (unbound_is binding channel)
        (unbound_profile version profile (subst (λ (m : Mechanism). profile_by policy user secret m ≡ Some profile) is
        selected)))

    keeps : (binding : ChannelBinding) (mechanism : Mechanism) (profile : Profile) → policy.channel ≡ Some binding
        → Placed None_of mechanism → is_allowed policy mechanism ≡ true
        → profile_by policy user secret mechanism ≡ Some profile
        → BindsExactly binding profile
        ⊎ (¬ OffersBinding policy secret names × (SaysNotOffered profile ⊎ IsAllowedByName policy profile))
    keeps binding mechanism profile channel (inl (version, is)) allowed selected =
        inl (selected_plus binding mechanism version profile channel is selected)
    keeps binding mechanism profile channel (inr (none, inl (version, is))) allowed selected = inr (
      λ offer. none offer.version (can_bind binding channel offer),
      inl (selected_unbound binding mechanism version profile channel is selected),
    )
    keeps binding mechanism profile channel (inr (none, inr (neither, other))) allowed selected = inr (
      λ offer. none offer.version (can_bind binding channel offer),
      inr (by_name mechanism profile other allowed selected),
    )

    place : (mechanism : Mechanism) → First by_strength mechanism → Placed None_of mechanism
    place mechanism first = placed None_of first.0 mechanism first.1 first.3

    says : (binding : ChannelBinding) (mechanism : Mechanism) (profile : Profile) → policy.channel ≡ Some binding
        → policy.must_bind ≡ false → ¬ OffersBinding policy secret names → OffersUnbound policy secret names
        → Can mechanism → Placed None_of mechanism → profile_by policy user secret mechanism ≡ Some profile
        → SaysNotOffered profile
    says binding mechanism profile channel free none offer can (inl (version, is)) selected =
        absurd (none (offers_binding version (subst (λ (m : Mechanism). Can m) is can)))
    says binding mechanism profile channel free none offer can (inr (above, inl (version, is))) selected =
        selected_unbound binding mechanism version profile channel is selected
    says binding mechanism profile channel free none offer can (inr (above, inr (neither, other))) selected =
        absurd (neither offer.version (can_unbound free offer))

    not_scram : (client : ClientSide) (mechanism : Mechanism) → IsOther mechanism
        → is_allowed policy mechanism ≡ true
        → profile_by policy user secret mechanism ≡ Some (ScramProfile client) → ⊥
    not_scram client mechanism other allowed selected = by_name mechanism (ScramProfile client) other allowed selected

    required : (client : ClientSide) (mechanism : Mechanism) → policy.must_bind ≡ true → Placed None_of mechanism
        → is_allowed policy mechanism ≡ true
        → profile_by policy user secret mechanism ≡ Some (ScramProfile client)
        → (binding : ChannelBinding) × (policy.channel ≡ Some binding) × BindsExactly binding (ScramProfile client)
    required client mechanism must (inl (version, is)) allowed selected =
        let found = channel_of version (subst (λ (m : Mechanism). is_allowed policy m ≡ true) is allowed) in (
          found.0,
          found.1,
          selected_plus found.0 mechanism version (ScramProfile client) found.1 is selected,
        )
    required client mechanism must (inr (none, inl (version, is))) allowed selected =
        absurd (never_unbound version must (subst (λ (m : Mechanism). is_allowed policy m ≡ true) is allowed))
    required client mechanism must (inr (none, inr (neither, other))) allowed selected =
        absurd (not_scram client mechanism other allowed selected)

-- ---- the laws

pub selection_keeps_channel : SelectionKeepsChannel
selection_keeps_channel policy user secret names binding profile channel (mechanism, first, selected) =
    keeps policy user secret names binding mechanism profile channel (place policy user secret names mechanism first)
    first.2.0 selected

only_binds : (policy : ClientPolicy) (secret : Secret) (names : List (List ℕ)) (binding : ChannelBinding)
    (profile : Profile) → OffersBinding policy secret names
    → BindsExactly binding profile
    ⊎ (¬ OffersBinding policy secret names × (SaysNotOffered profile ⊎ IsAllowedByName policy profile))
    → BindsExactly binding profile
only_binds policy secret names binding profile offer (inl binds) = binds
only_binds policy secret names binding profile offer (inr (none, more)) = absurd (none offer)

pub offered_channel_is_bound : OfferedChannelIsBound
offered_channel_is_bound policy user secret names binding channel offer = (
  some_selected policy user secret names
      (not_all_plus policy user secret names offer.version (can_bind policy user secret names binding channel offer)),
  λ profile selects. only_binds policy secret names binding profile offer
      (selection_keeps_channel policy user secret names binding profile channel selects),
)

pub unoffered_channel_is_said : UnofferedChannelIsSaid
unoffered_channel_is_said policy user secret names binding channel free none offer = (
  some_selected policy user secret names
      (not_all_unbound policy user secret names offer.version (can_unbound policy user secret names free offer)),
  λ profile selects. says policy user secret names binding selects.0 profile channel free none offer selects.1.2
      (place policy user secret names selects.0 selects.1) selects.2,
)

pub required_channel_is_bound : RequiredChannelIsBound
required_channel_is_bound policy user secret names client must (mechanism, first, selected) =
    required policy user secret names client mechanism must (place policy user secret names mechanism first) first.2.0
    selected

same_client : (client other : ClientSide) → ScramProfile client ≡ ScramProfile other → client ≡ other
same_client client other same = cc

bound_not_absent : (binding : ChannelBinding) → Bound binding ≢ Absent
bound_not_absent binding same = cc

unoffered_not_absent : NotOffered ≢ Absent
unoffered_not_absent same = cc

pub selected_scram_has_channel : SelectedScramHasChannel
selected_scram_has_channel policy user secret names binding client channel selects =
    go (selection_keeps_channel policy user secret names binding (ScramProfile client) channel selects)
  where
    channel_of : (other : ClientSide) → ScramProfile client ≡ ScramProfile other → client.channel ≡ other.channel
    channel_of other same = ap (λ (c : ClientSide). c.channel) (same_client client other same)

    go : BindsExactly binding (ScramProfile client)
        ⊎ (¬ OffersBinding policy secret names
        × (SaysNotOffered (ScramProfile client) ⊎ IsAllowedByName policy (ScramProfile client)))
        → client.channel ≢ Absent
    go (inl binds) absent =
        bound_not_absent binding (sym (channel_of binds.client binds.scram ∙ binds.channel) ∙ absent)
    go (inr (none, inl says)) absent =
        unoffered_not_absent (sym (channel_of says.client says.scram ∙ says.channel) ∙ absent)
    go (inr (none, inr other)) absent = absurd other
