-- The profiles of one login and one struct are alike, and a login of the same values has the same profiles: `alike_of`,
-- `of_base`.
use Rattle.std.proofs.Common.{arith, refl, sym, ap, subst, inl, inr, ◌∙◌, ◌≡◌, ◌≢◌, ◌≤◌, ℕ, List}
use Rattle.std.specs.Prelude.{Bool, true, false, ◌||◌, ◌==◌, ◌&&◌, if◌then◌else◌, is_some, Option, Some, None, take}
use Rattle.fe2o3_scram.specs.ClientFirst.{client_first_bare}
use Rattle.fe2o3_scram.specs.ClientKeys.{ClientKeys}
use Rattle.fe2o3_scram.specs.ClientSecret.{Secret, Password, Keys, Both}
use Rattle.fe2o3_scram.specs.Passwords.{PasswordText, Typed, Prepared}
use Rattle.fe2o3_scram.specs.ScramClient.{ClientSide, ClientState, ClientInitial, ClientFirstSent, ClientFinalSent, SignatureVerified, Complete, identity_named}
use Rattle.fe2o3_scram.specs.declared.channel_binding.ChannelKind.{ChannelKind}
use Rattle.fe2o3_scram.specs.declared.channel_binding.ChannelKind.TheVariants.{TlsUnique, TlsServerEndPoint, TlsExporter}
use Rattle.fe2o3_scram.specs.declared.client_secret.IterationLimits.{IterationLimits}
use Rattle.fe2o3_scram.specs.declared.hmac.ScramVersion.{ScramVersion}
use Rattle.fe2o3_scram.specs.declared.hmac.ScramVersion.TheVariants as versions
use Rattle.fe2o3_scram.specs.declared.scram_messages.channel_binding_flag.ChannelBindingFlag.TheVariants.{Required}
use Rattle.fe2o3_scram.specs.declared.scram_messages.client_channel.ClientChannel.{ClientChannel}
use Rattle.fe2o3_scram.specs.declared.scram_messages.client_channel.ClientChannel.TheVariants.{Absent, NotOffered, Bound}
use Rattle.fe2o3_sasl_core.specs.Profiles.{AnonymousMessage, AnonymousProfile, ExternalMessage, ExternalProfile, MessageMechanism, MessageProfile, PolicyProfile, PlainProfile, Profile, ScramProfile}
use Rattle.sasl_c.specs.declared.client.ScramClient.{ScramClient as ScramStruct}
use Rattle.sasl_c.specs.declared.keys.ScramKeys.{ScramKeys as KeysStruct}
use Rattle.sasl_c.specs.declared.login.Login.{Login as Words}
use Rattle.sasl_c.specs.declared.sasl_client.SaslLogin.{SaslLogin as Login}
use Rattle.sasl_c.specs.Channels.{IsChannel, kind_number}
use Rattle.sasl_c.specs.Client.{CanBeNamed, Holds, HoldsNone, IsChannelOf, IsClientOf, IsSecretOf, IsState, is_set, secret_used}
use Rattle.sasl_c.specs.ClientCalls.{SameLogin, SameWords}
use Rattle.sasl_c.specs.Keys.{KeysHaveRoom, ShowsKeys, WritesKeys, no_keys_struct, shown_keys}
use Rattle.sasl_c.specs.Passwords.{IsPassword}
use Rattle.sasl_c.specs.Records.{IsVersion}
use Rattle.sasl_c.specs.SaslClient.{CanSendWords, IsDueIn, IsHostname, IsPlainOf, IsProfile, is_strict_plain, message_number}
use Rattle.sasl_c.proofs.ClientAlikeLemmas.{Follows, SameChannel, made, rekeyed}
use Rattle.sasl_c.proofs.ClientProfileLemmas.{Alike, SameKeys, same_keys}
use Rattle.sasl_c.proofs.FieldLemmas.{one_number}

-- ---- what a login has

one_password : (form : ℕ) (bytes : List ℕ) (password other : PasswordText) → IsPassword form bytes password
    → IsPassword form bytes other → other ≡ password
one_password form bytes (Typed text) (Typed word) is too = ap Typed (too.1 ∙ sym is.1)
one_password form bytes (Prepared text) (Prepared word) is too = ap Prepared (too.1 ∙ sym is.1)
one_password form bytes (Typed text) (Prepared word) is too = absurd (omega (arith, is.0, too.0))
one_password form bytes (Prepared text) (Typed word) is too = absurd (omega (arith, is.0, too.0))

one_keys : (kept : KeysStruct) (keys other : ClientKeys) → ShowsKeys kept keys → ShowsKeys kept other → other ≡ keys
one_keys kept keys other is too =
    let same = one_number other.version keys.version (too.0 ∙ sym is.0) in
    too.2 ∙ (ap (λ (v : ScramVersion). shown_keys v kept) same ∙ sym is.2)

one_secret : (words : Words) (secret other : Secret) → IsSecretOf words secret → IsSecretOf words other → other ≡ secret
one_secret words (Password password) (Password text) is too =
    ap Password (one_password words.form words.password.now password text is.1 too.1)
one_secret words (Keys keys) (Keys kept) is too = ap Keys (one_keys words.keys.now keys kept is.1 too.1)
one_secret words (Both password keys) (Both text kept) is too =
    ap (λ (p : PasswordText). Both p kept) (one_password words.form words.password.now password text is.1 too.1)
    ∙ ap (Both password) (one_keys words.keys.now keys kept is.2 too.2)
one_secret words (Password password) (Keys kept) is too = absurd (omega (arith, is.0, too.0))
one_secret words (Password password) (Both text kept) is too = absurd (omega (arith, is.0, too.0))
one_secret words (Keys keys) (Password text) is too = absurd (omega (arith, is.0, too.0))
one_secret words (Keys keys) (Both text kept) is too = absurd (omega (arith, is.0, too.0))
one_secret words (Both password keys) (Password text) is too = absurd (omega (arith, is.0, too.0))
one_secret words (Both password keys) (Keys kept) is too = absurd (omega (arith, is.0, too.0))

one_kind : (kind other : ChannelKind) → kind_number other ≡ kind_number kind → other ≡ kind
one_kind TlsUnique TlsUnique same = refl
one_kind TlsServerEndPoint TlsServerEndPoint same = refl
one_kind TlsExporter TlsExporter same = refl
one_kind TlsUnique TlsServerEndPoint same = absurd (omega (arith, same))
one_kind TlsUnique TlsExporter same = absurd (omega (arith, same))
one_kind TlsServerEndPoint TlsUnique same = absurd (omega (arith, same))
one_kind TlsServerEndPoint TlsExporter same = absurd (omega (arith, same))
one_kind TlsExporter TlsUnique same = absurd (omega (arith, same))
one_kind TlsExporter TlsServerEndPoint same = absurd (omega (arith, same))

pub one_channel : (number kind len : ℕ) (array : List ℕ) (channel other : ClientChannel)
    → IsChannel number kind len array channel → IsChannel number kind len array other → SameChannel channel other
one_channel number kind len array Absent Absent is too = record { flag = refl; bytes = refl; binds = refl; has = refl }
one_channel number kind len array NotOffered NotOffered is too =
    record { flag = refl; bytes = refl; binds = refl; has = refl }
one_channel number kind len array (Bound binding) (Bound given) is too = record {
  flag = ap Required (one_kind binding.kind given.kind (sym too.1 ∙ is.1));
  bytes = too.2 ∙ sym is.2;
  binds = refl;
  has = refl;
}
one_channel number kind len array Absent NotOffered is too = absurd (omega (arith, is, too))
one_channel number kind len array Absent (Bound given) is too = absurd (omega (arith, is, too.0))
one_channel number kind len array NotOffered Absent is too = absurd (omega (arith, is, too))
one_channel number kind len array NotOffered (Bound given) is too = absurd (omega (arith, is, too.0))
one_channel number kind len array (Bound binding) Absent is too = absurd (omega (arith, is.0, too))
one_channel number kind len array (Bound binding) NotOffered is too = absurd (omega (arith, is.0, too))

limits_with : ℕ → ℕ → IterationLimits
limits_with least most = record { min_iterations = least; max_iterations = most }

limits_so : (limits : IterationLimits) → limits ≡ limits_with limits.min_iterations limits.max_iterations
unfolding limits_with
limits_so limits = refl

one_limits : (limits other : IterationLimits) → other.min_iterations ≡ limits.min_iterations
    → other.max_iterations ≡ limits.max_iterations → other ≡ limits
one_limits limits other least most = limits_so other ∙ (by least most ∙ sym (limits_so limits))
  where
    by : other.min_iterations ≡ limits.min_iterations → other.max_iterations ≡ limits.max_iterations
        → limits_with other.min_iterations other.max_iterations ≡ limits_with limits.min_iterations limits.max_iterations
    by least most = cc

built : List ℕ → Secret → ScramVersion → IterationLimits → ClientChannel → Option (List ℕ) → Bool → Bool → ClientState
    → ClientSide
built user secret version limits channel acts_for strict signed state = record {
  user = user;
  secret = secret;
  version = version;
  limits = limits;
  channel = channel;
  acts_for = acts_for;
  strict = strict;
  signature_by_challenge = signed;
  state = state;
}

built_so : (side : ClientSide) (channel : ClientChannel) (state : ClientState) → made side channel state
    ≡ built side.user side.secret side.version side.limits channel side.acts_for side.strict side.signature_by_challenge state
unfolding built
built_so side channel state = refl

self_made : (side : ClientSide) → side ≡ made side side.channel side.state
self_made side = refl

-- two clients of one login differ in their state, and in the spelling of one channel
pub one_client : (words : Words) (side other : ClientSide) → IsClientOf words side → IsClientOf words other
    → other ≡ made side other.channel other.state
one_client words side other is too = self_made other ∙ (built_so other other.channel other.state
    ∙ (by (too.user ∙ sym is.user) (one_secret words side.secret other.secret is.secret too.secret)
    (one_number other.version side.version (too.version ∙ sym is.version))
    (one_limits side.limits other.limits (too.least ∙ sym is.least) (too.most ∙ sym is.most))
    (too.header.1 ∙ sym is.header.1) (too.strict ∙ sym is.strict) (too.signed ∙ sym is.signed)
    ∙ sym (built_so side other.channel other.state)))
  where
    by : other.user ≡ side.user → other.secret ≡ side.secret → other.version ≡ side.version → other.limits ≡ side.limits
        → other.acts_for ≡ side.acts_for → other.strict ≡ side.strict
        → other.signature_by_challenge ≡ side.signature_by_challenge
        → built other.user other.secret other.version other.limits other.channel other.acts_for other.strict
        other.signature_by_challenge other.state
        ≡ built side.user side.secret side.version side.limits other.channel side.acts_for side.strict
        side.signature_by_challenge other.state
    by user secret version limits acts strict signed = cc

-- ---- what a struct has

numbered : (version : ScramVersion) → ¬ IsVersion 0 version
numbered versions.Sha1 is = absurd (omega (arith, is))
numbered versions.Sha256 is = absurd (omega (arith, is))
numbered versions.Sha512 is = absurd (omega (arith, is))

none_written : (kept : KeysStruct) → kept ≡ no_keys_struct → HoldsNone kept
none_written kept same = λ keys shows.
    numbered keys.version (subst (λ (k : KeysStruct). ShowsKeys k keys) same shows).0

-- keys without room are written as none
without_room : (kept : KeysStruct) (keys : ClientKeys) → ¬ KeysHaveRoom keys → WritesKeys kept (Some keys) → HoldsNone kept
without_room kept keys wide (inl (fits, same)) = absurd (wide fits)
without_room kept keys wide (inr (none, same)) = none_written kept same

-- the keys that a struct holds for two clients
same_where : (before : KeysStruct) (own keys : Option ClientKeys) → Holds before own → Holds before keys → SameKeys own keys
same_where before None None is too = same_keys None
same_where before None (Some keys) is (inl shows) = absurd (is keys shows)
same_where before None (Some keys) is (inr (wide, none)) = λ kept written holds. without_room kept keys wide written
same_where before (Some own) None (inl shows) too = absurd (too own shows)
same_where before (Some own) None (inr (wide, none)) too = λ kept written holds. inr (wide, none_written kept written)
same_where before (Some own) (Some keys) (inl shows) (inl others) =
    subst (λ (k : ClientKeys). SameKeys (Some k) (Some keys)) (one_keys before own keys shows others) (same_keys (Some keys))
same_where before (Some own) (Some keys) (inl shows) (inr (wide, none)) = absurd (none own shows)
same_where before (Some own) (Some keys) (inr (wide, none)) (inl others) = absurd (none keys others)
same_where before (Some own) (Some keys) (inr (wide, none)) (inr (long, same)) =
    λ kept written holds. inr (wide, without_room kept keys long written)

-- two states of one struct, which is not that of a completed login, differ in their keys
abbrev pub OneState : ClientState → ClientState → Type 0
OneState state other = (keys : Option ClientKeys) × (other ≡ rekeyed keys state) × Follows SameKeys keys state

pub one_state : (user : List ℕ) (scram : ScramStruct) (state other : ClientState) → scram.state ≢ 3 → IsState user scram state
    → IsState user scram other → OneState state other
one_state user scram ClientInitial ClientInitial going is too = (None, refl, tt)
one_state user scram (ClientFirstSent nonce bare) (ClientFirstSent sent spelled) going is too =
    let same = too.1 ∙ sym is.1 in (
      None,
      ap (λ (n : List ℕ). ClientFirstSent n spelled) same
          ∙ ap (ClientFirstSent nonce) (too.2 ∙ (ap (client_first_bare user) same ∙ sym is.2)),
      tt,
    )
one_state user scram (ClientFinalSent signature own) (ClientFinalSent expected keys) going is too =
    (keys, ap (λ (s : List ℕ). ClientFinalSent s keys) (too.2 ∙ sym is.2), same_where scram.keys own keys is.3 too.3)
one_state user scram (SignatureVerified own) (SignatureVerified keys) going is too =
    (keys, refl, same_where scram.keys own keys is.1 too.1)
one_state user scram (Complete own) other going is too = absurd (going is.0)
one_state user scram state (Complete keys) going is too = absurd (going too.0)
one_state user scram ClientInitial (ClientFirstSent sent spelled) going is too = absurd (is.0 too.0)
one_state user scram ClientInitial (ClientFinalSent expected keys) going is too =
    absurd (omega (arith, is.2 too.0, too.1))
one_state user scram ClientInitial (SignatureVerified keys) going is too = absurd (is.1 too.0)
one_state user scram (ClientFirstSent nonce bare) ClientInitial going is too = absurd (too.0 is.0)
one_state user scram (ClientFirstSent nonce bare) (ClientFinalSent expected keys) going is too =
    absurd (omega (arith, is.0, too.0))
one_state user scram (ClientFirstSent nonce bare) (SignatureVerified keys) going is too = absurd (omega (arith, is.0, too.0))
one_state user scram (ClientFinalSent signature own) ClientInitial going is too =
    absurd (omega (arith, too.2 is.0, is.1))
one_state user scram (ClientFinalSent signature own) (ClientFirstSent sent spelled) going is too =
    absurd (omega (arith, is.0, too.0))
one_state user scram (ClientFinalSent signature own) (SignatureVerified keys) going is too =
    absurd (omega (arith, is.0, too.0))
one_state user scram (SignatureVerified own) ClientInitial going is too = absurd (too.1 is.0)
one_state user scram (SignatureVerified own) (ClientFirstSent sent spelled) going is too =
    absurd (omega (arith, is.0, too.0))
one_state user scram (SignatureVerified own) (ClientFinalSent expected keys) going is too =
    absurd (omega (arith, is.0, too.0))

-- ---- profiles

one_message : (mechanism other : MessageMechanism) → message_number other ≡ message_number mechanism → other ≡ mechanism
one_message AnonymousMessage AnonymousMessage same = refl
one_message ExternalMessage ExternalMessage same = refl
one_message AnonymousMessage ExternalMessage same = absurd (omega (arith, same))
one_message ExternalMessage AnonymousMessage same = absurd (omega (arith, same))

one_due : (scram : ScramStruct) (is_due other : Bool) → IsDueIn scram is_due → IsDueIn scram other → other ≡ is_due
one_due scram true true is too = refl
one_due scram false false is too = refl
one_due scram true false is too = absurd (too is)
one_due scram false true is too = absurd (is too)

message_not : (mechanism : MessageMechanism) (number : ℕ) → number ≡ message_number mechanism → 4 ≤ number
message_not AnonymousMessage number is = omega (arith, is)
message_not ExternalMessage number is = omega (arith, is)

scram_alike : (login : Login) (scram : ScramStruct) (side other : ClientSide) → scram.state ≢ 3
    → IsProfile login scram (ScramProfile side) → IsProfile login scram (ScramProfile other)
    → Alike login (ScramProfile side) (ScramProfile other)
scram_alike login scram side other going is too =
    let same = one_client login.login side other is.1.0 too.1.0 in
    let user : other.user ≡ side.user = too.1.0.user ∙ sym is.1.0.user in
    let state = one_state side.user scram side.state other.state going is.1.1
    (subst (λ (u : List ℕ). IsState u scram other.state) user too.1.1) in
    inr (
      is.0,
      (
        side,
        side.channel,
        other.channel,
        state.0,
        side.state,
        refl,
        ap (λ (s : ClientSide). ScramProfile s) (same ∙ ap (made side other.channel) state.1),
        one_channel login.login.channel_use login.login.channel_kind login.login.channel_data_len login.login.channel_data
            side.channel other.channel is.1.0.header.0 too.1.0.header.0,
        state.2,
        is.1.0,
      ),
    )

plain_alike : (words : Words) (identity user password name who secret : List ℕ) → IsPlainOf words identity user password
    → IsPlainOf words name who secret → PlainProfile name who secret ≡ PlainProfile identity user password
plain_alike words identity user password name who secret is too =
    let first = too.0 ∙ sym is.0 in let second = too.1 ∙ sym is.1 in let third = too.2 ∙ sym is.2 in
    ap (λ (n : List ℕ). PlainProfile n who secret) first
    ∙ (ap (λ (n : List ℕ). PlainProfile identity n secret) second ∙ ap (PlainProfile identity user) third)

-- two profiles of one login and one struct, which is not that of a completed login
pub alike_of : (login : Login) (scram : ScramStruct) (mine other : Profile) → scram.state ≢ 3 → IsProfile login scram mine
    → IsProfile login scram other → Alike login mine other
alike_of login scram (ScramProfile side) (ScramProfile other) going is too = scram_alike login scram side other going is too
alike_of login scram (PlainProfile identity user password) (PlainProfile name who secret) going is too =
    inl (plain_alike login.login identity user password name who secret is.1 too.1)
alike_of login scram AnonymousProfile AnonymousProfile going is too = inl refl
alike_of login scram ExternalProfile ExternalProfile going is too = inl refl
alike_of login scram (MessageProfile mechanism message is_due) (MessageProfile other text due) going is too =
    let first = one_message mechanism other (sym too.0 ∙ is.0) in let second = too.1 ∙ sym is.1 in
    let third = one_due scram is_due due is.2 too.2 in
    inl (ap (λ (m : MessageMechanism). MessageProfile m text due) first
    ∙ (ap (λ (t : List ℕ). MessageProfile mechanism t due) second ∙ ap (MessageProfile mechanism message) third))
alike_of login scram (ScramProfile side) (PlainProfile name who secret) going is too = absurd (omega (arith, is.0, too.0))
alike_of login scram (ScramProfile side) AnonymousProfile going is too = absurd (omega (arith, is.0, too.0))
alike_of login scram (ScramProfile side) ExternalProfile going is too = absurd (omega (arith, is.0, too.0))
alike_of login scram (ScramProfile side) (MessageProfile other text due) going is too =
    absurd (omega (arith, is.0, message_not other login.mechanism too.0))
alike_of login scram (PlainProfile identity user password) (ScramProfile other) going is too =
    absurd (omega (arith, is.0, too.0))
alike_of login scram (PlainProfile identity user password) AnonymousProfile going is too = absurd (omega (arith, is.0, too.0))
alike_of login scram (PlainProfile identity user password) ExternalProfile going is too = absurd (omega (arith, is.0, too.0))
alike_of login scram (PlainProfile identity user password) (MessageProfile other text due) going is too =
    absurd (omega (arith, is.0, message_not other login.mechanism too.0))
alike_of login scram AnonymousProfile (ScramProfile other) going is too = absurd (omega (arith, is.0, too.0))
alike_of login scram AnonymousProfile (PlainProfile name who secret) going is too = absurd (omega (arith, is.0, too.0))
alike_of login scram AnonymousProfile ExternalProfile going is too = absurd (omega (arith, is.0, too.0))
alike_of login scram AnonymousProfile (MessageProfile other text due) going is too =
    absurd (omega (arith, is.0, message_not other login.mechanism too.0))
alike_of login scram ExternalProfile (ScramProfile other) going is too = absurd (omega (arith, is.0, too.0))
alike_of login scram ExternalProfile (PlainProfile name who secret) going is too = absurd (omega (arith, is.0, too.0))
alike_of login scram ExternalProfile AnonymousProfile going is too = absurd (omega (arith, is.0, too.0))
alike_of login scram ExternalProfile (MessageProfile other text due) going is too =
    absurd (omega (arith, is.0, message_not other login.mechanism too.0))
alike_of login scram (MessageProfile mechanism message is_due) (ScramProfile other) going is too =
    absurd (omega (arith, message_not mechanism login.mechanism is.0, too.0))
alike_of login scram (MessageProfile mechanism message is_due) (PlainProfile name who secret) going is too =
    absurd (omega (arith, message_not mechanism login.mechanism is.0, too.0))
alike_of login scram (MessageProfile mechanism message is_due) AnonymousProfile going is too =
    absurd (omega (arith, message_not mechanism login.mechanism is.0, too.0))
alike_of login scram (MessageProfile mechanism message is_due) ExternalProfile going is too =
    absurd (omega (arith, message_not mechanism login.mechanism is.0, too.0))
alike_of login scram (PolicyProfile selection) other going is too = absurd is
alike_of login scram (ScramProfile side) (PolicyProfile selection) going is too = absurd too
alike_of login scram (PlainProfile identity user password) (PolicyProfile selection) going is too = absurd too
alike_of login scram AnonymousProfile (PolicyProfile selection) going is too = absurd too
alike_of login scram ExternalProfile (PolicyProfile selection) going is too = absurd too
alike_of login scram (MessageProfile mechanism message is_due) (PolicyProfile selection) going is too = absurd too

-- ---- a login of the same values

module _ (base words : Words) (one : SameWords base words) where
  password_of_base : (password : PasswordText) → IsPassword words.form words.password.now password
      → IsPassword base.form base.password.now password
  password_of_base (Typed text) is = (sym one.form ∙ is.0, is.1 ∙ one.password)
  password_of_base (Prepared text) is = (sym one.form ∙ is.0, is.1 ∙ one.password)

  keys_of_base : (keys : ClientKeys) → ShowsKeys words.keys.now keys → ShowsKeys base.keys.now keys
  keys_of_base keys is = subst (λ (k : KeysStruct). ShowsKeys k keys) one.keys is

  used_of_base : secret_used base ≡ secret_used words
  used_of_base = ap (λ (n : ℕ). if n == 2 && base.keys.now.version == 0 then 0 else n) (sym one.secret)
      ∙ ap (λ (k : KeysStruct). if words.secret == 2 && k.version == 0 then 0 else words.secret) (sym one.keys)

  secret_of_base : (secret : Secret) → IsSecretOf words secret → IsSecretOf base secret
  secret_of_base (Password password) is = (used_of_base ∙ is.0, password_of_base password is.1)
  secret_of_base (Keys keys) is = (used_of_base ∙ is.0, keys_of_base keys is.1)
  secret_of_base (Both password keys) is =
      (used_of_base ∙ is.0, password_of_base password is.1, keys_of_base keys is.2)

  channel_of_base : (channel : ClientChannel) → IsChannelOf words channel → IsChannelOf base channel
  channel_of_base Absent is = sym one.channel ∙ is
  channel_of_base NotOffered is = sym one.channel ∙ is
  channel_of_base (Bound binding) is = (
    sym one.channel ∙ is.0,
    sym one.kind ∙ is.1,
    is.2 ∙ (ap (λ (n : ℕ). take n words.channel_data) one.len ∙ ap (take base.channel_data_len) one.bytes),
    subst (λ (n : ℕ). 1 ≤ n) one.len is.3,
    subst (λ (n : ℕ). n ≤ 64) one.len is.4,
  )

  named_of_base : CanBeNamed words.acts_for.now → CanBeNamed base.acts_for.now
  named_of_base is = subst CanBeNamed one.acts_for is

  pub client_of_base : (side : ClientSide) → IsClientOf words side → IsClientOf base side
  client_of_base side is = record {
    version = is.version ∙ one.version;
    user = is.user ∙ one.username;
    secret = secret_of_base side.secret is.secret;
    least = is.least ∙ one.min_iterations;
    most = is.most ∙ one.max_iterations;
    header = (
      channel_of_base side.channel is.header.0,
      is.header.1 ∙ ap (λ (name : List ℕ). identity_named (Some name)) one.acts_for,
      named_of_base is.header.2,
    );
    strict = is.strict ∙ ap is_set one.strict;
    signed = is.signed ∙ ap is_set one.signed;
  }

  strict_of_base : is_strict_plain words ≡ is_strict_plain base
  strict_of_base =
      ap (λ (name : List ℕ). is_some (identity_named (Some name)) || is_set words.strict) one.acts_for
      ∙ ap (λ (n : ℕ). is_some (identity_named (Some base.acts_for.now)) || is_set n) one.strict

  plain_of_base : (identity user password : List ℕ) → IsPlainOf words identity user password
      → IsPlainOf base identity user password
  plain_of_base identity user password is = (
    is.0 ∙ one.acts_for,
    is.1 ∙ one.username,
    is.2 ∙ one.password,
    is.3,
    subst (λ (b : Bool). CanSendWords b user password) strict_of_base is.4,
  )

-- a profile of a login is one of each login of the same values
pub of_base : (base login : Login) (scram : ScramStruct) (profile : Profile) → SameLogin base login
    → IsProfile login scram profile → IsProfile base scram profile
of_base base login scram (ScramProfile side) one is =
    (sym one.mechanism ∙ is.0, (client_of_base base.login login.login one.words side is.1.0, is.1.1))
of_base base login scram (PlainProfile identity user password) one is =
    (sym one.mechanism ∙ is.0, plain_of_base base.login login.login one.words identity user password is.1)
of_base base login scram AnonymousProfile one is = (sym one.mechanism ∙ is.0, sym one.words.acts_for ∙ is.1)
of_base base login scram ExternalProfile one is = (sym one.mechanism ∙ is.0, sym one.words.acts_for ∙ is.1)
of_base base login scram (PolicyProfile selection) one is = absurd is
of_base base login scram (MessageProfile mechanism message is_due) one is =
    (sym one.mechanism ∙ is.0, is.1 ∙ one.words.username, is.2, sym one.words.acts_for ∙ is.3)

-- and its hostname
pub one_hostname : (base login : Login) (hostname other : Option (List ℕ)) → SameLogin base login → IsHostname base hostname
    → IsHostname login other → other ≡ hostname
one_hostname base login None None one is too = refl
one_hostname base login None (Some name) one is too = absurd (too.0 (one.hostname ∙ is))
one_hostname base login (Some name) None one is too = absurd (is.0 (sym one.hostname ∙ too))
one_hostname base login (Some name) (Some other) one is too = ap Some (too.1 ∙ (one.hostname ∙ sym is.1))
