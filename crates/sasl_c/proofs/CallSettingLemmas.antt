-- The settings of a configuration are one, and those of two configurations of the same values differ by their user.
use Rattle.std.proofs.Common.{arith, refl, sym, ap, subst, inl, inr, ◌∙◌, ◌≡◌, ◌+◌, ◌*◌, ◌∷◌, ℕ, List, []}
use Rattle.std.specs.Prelude.{Bool, true, false, Option, Some}
use Rattle.fe2o3_scram.specs.ActingRights.{Rights}
use Rattle.fe2o3_scram.specs.Credentials.{VersionedRecord, versioned}
use Rattle.fe2o3_scram.specs.Mixed.{MultiRecords}
use Rattle.fe2o3_scram.specs.declared.hmac.ScramVersion.{ScramVersion}
use Rattle.fe2o3_scram.specs.declared.channel_binding.ChannelBindings.{ChannelBindings}
use Rattle.fe2o3_sasl_core.specs.MockChoices.{MockChoice}
use Rattle.fe2o3_sasl_core.specs.Servers.{ServerSettings}
use Rattle.fe2o3_sasl_core.specs.declared.server.options.Mechanisms.{Mechanisms}
use Rattle.fe2o3_sasl_core.specs.declared.plain_server.passwords.PlainPasswords.{PlainPasswords}
use Rattle.fe2o3_sasl_core.specs.declared.plain_server.passwords.PlainPasswords.TheVariants as forms
use Rattle.sasl_c.specs.declared.records.ScramRecord.{ScramRecord as Kept}
use Rattle.sasl_c.specs.declared.sasl_server.Choice.{Choice}
use Rattle.sasl_c.specs.declared.sasl_server.SaslServerConfig.{SaslServerConfig as Config}
use Rattle.sasl_c.specs.Acting.{rights_for}
use Rattle.sasl_c.specs.Client.{is_set}
use Rattle.sasl_c.specs.Records.{ShowsRecord, stored_of}
use Rattle.sasl_c.specs.Rules.{channels_of}
use Rattle.sasl_c.specs.SaslServer.{AreSettings, ShowRecords, one_where, passwords_number, flags_sum, mechanisms_for, mechanisms_sum, mock_of, plain_version_for, settings_for}
use Rattle.sasl_c.specs.ServerCalls.{OneConfiguration, SameUser}
use Rattle.sasl_c.proofs.CallStageLemmas.{over}
use Rattle.sasl_c.proofs.SaslServerLemmas.{one_number}

-- ---- one choice for a sum

-- a flag's number, by that of a bit
times : (n : ℕ) (is : Bool) → one_where is n ≡ n * one_where is 1
times n true = omega arith
times n false = omega arith

lowest : (is other : Bool) (rest others : ℕ) → one_where is 1 + 2 * rest ≡ one_where other 1 + 2 * others
    → (is ≡ other) × (rest ≡ others)
lowest true true rest others same = (refl, omega (arith, same))
lowest true false rest others same = absurd (omega (arith, same))
lowest false true rest others same = absurd (omega (arith, same))
lowest false false rest others same = (refl, omega (arith, same))

form_digit : PlainPasswords → ℕ
form_digit forms.Typed = 0
form_digit forms.Prepared = 1
form_digit forms.Saslprep = 2

form_times : (form : PlainPasswords) → passwords_number form ≡ 128 * form_digit form
unfolding form_digit
form_times forms.Typed = omega arith
form_times forms.Prepared = omega arith
form_times forms.Saslprep = omega arith

one_form : (form other : PlainPasswords) (rest others : ℕ) → form_digit form + 4 * rest ≡ form_digit other + 4 * others
    → (form ≡ other) × (rest ≡ others)
unfolding form_digit
one_form forms.Typed forms.Typed rest others same = (refl, omega (arith, same))
one_form forms.Prepared forms.Prepared rest others same = (refl, omega (arith, same))
one_form forms.Saslprep forms.Saslprep rest others same = (refl, omega (arith, same))
one_form forms.Typed forms.Prepared rest others same = absurd (omega (arith, same))
one_form forms.Typed forms.Saslprep rest others same = absurd (omega (arith, same))
one_form forms.Prepared forms.Typed rest others same = absurd (omega (arith, same))
one_form forms.Prepared forms.Saslprep rest others same = absurd (omega (arith, same))
one_form forms.Saslprep forms.Typed rest others same = absurd (omega (arith, same))
one_form forms.Saslprep forms.Prepared rest others same = absurd (omega (arith, same))

module _ (choice : Choice) where
  abbrev r11 : ℕ
  r11 = one_where choice.strict 1 + 2 * (one_where choice.reject_misplaced 1 + 2 * 0)

  abbrev r10 : ℕ
  r10 = one_where choice.signature_by_challenge 1 + 2 * r11

  abbrev r9 : ℕ
  r9 = one_where choice.initial_response_by_challenge 1 + 2 * r10

  abbrev r7 : ℕ
  r7 = form_digit choice.passwords + 4 * r9

  abbrev r6 : ℕ
  r6 = one_where choice.cbind_flag_y 1 + 2 * r7

  abbrev r5 : ℕ
  r5 = one_where choice.external 1 + 2 * r6

  abbrev r4 : ℕ
  r4 = one_where choice.anonymous 1 + 2 * r5

  abbrev r3 : ℕ
  r3 = one_where choice.plain 1 + 2 * r4

  abbrev r2 : ℕ
  r2 = one_where choice.sha_1 1 + 2 * r3

  abbrev r1 : ℕ
  r1 = one_where choice.sha_256 1 + 2 * r2

  in_bits : flags_sum choice + mechanisms_sum choice ≡ one_where choice.sha_512 1 + 2 * r1
  in_bits = omega (
    arith,
    times 2 choice.sha_256,
    times 4 choice.sha_1,
    times 8 choice.plain,
    times 16 choice.anonymous,
    times 32 choice.external,
    times 64 choice.cbind_flag_y,
    form_times choice.passwords,
    times 512 choice.initial_response_by_challenge,
    times 1024 choice.signature_by_challenge,
    times 2048 choice.strict,
    times 4096 choice.reject_misplaced,
  )

chosen : Bool → Bool → Bool → Bool → Bool → Bool → Bool → Bool → Bool → Bool → Bool → PlainPasswords → Choice
chosen sha_512 sha_256 sha_1 plain anonymous external cbind_flag_y strict reject_misplaced initial signature passwords = record {
  sha_512 = sha_512;
  sha_256 = sha_256;
  sha_1 = sha_1;
  plain = plain;
  anonymous = anonymous;
  external = external;
  cbind_flag_y = cbind_flag_y;
  strict = strict;
  reject_misplaced = reject_misplaced;
  initial_response_by_challenge = initial;
  signature_by_challenge = signature;
  passwords = passwords;
}

chosen_so : (choice : Choice) → choice ≡ chosen choice.sha_512 choice.sha_256 choice.sha_1 choice.plain choice.anonymous
    choice.external choice.cbind_flag_y choice.strict choice.reject_misplaced choice.initial_response_by_challenge
    choice.signature_by_challenge choice.passwords
unfolding chosen
chosen_so choice = refl

one_choice : (choice other : Choice) → flags_sum choice ≡ flags_sum other → mechanisms_sum choice ≡ mechanisms_sum other
    → choice ≡ other
one_choice choice other flags mechanisms =
    let same : flags_sum choice + mechanisms_sum choice ≡ flags_sum other + mechanisms_sum other = omega (
      arith,
      flags,
      mechanisms,
    ) in
    let s0 = lowest choice.sha_512 other.sha_512 (r1 choice) (r1 other) (sym (in_bits choice) ∙ (same ∙ in_bits other)) in
    let s1 = lowest choice.sha_256 other.sha_256 (r2 choice) (r2 other) s0.1 in
    let s2 = lowest choice.sha_1 other.sha_1 (r3 choice) (r3 other) s1.1 in
    let s3 = lowest choice.plain other.plain (r4 choice) (r4 other) s2.1 in
    let s4 = lowest choice.anonymous other.anonymous (r5 choice) (r5 other) s3.1 in
    let s5 = lowest choice.external other.external (r6 choice) (r6 other) s4.1 in
    let s6 = lowest choice.cbind_flag_y other.cbind_flag_y (r7 choice) (r7 other) s5.1 in
    let s7 = one_form choice.passwords other.passwords (r9 choice) (r9 other) s6.1 in
    let s9 = lowest choice.initial_response_by_challenge other.initial_response_by_challenge (r10 choice) (r10 other) s7.1 in
    let s10 = lowest choice.signature_by_challenge other.signature_by_challenge (r11 choice) (r11 other) s9.1 in
    let s11 = lowest choice.strict other.strict _ _ s10.1 in
    let s12 = lowest choice.reject_misplaced other.reject_misplaced 0 0 s11.1 in
    chosen_so choice ∙ (from s0.0 s1.0 s2.0 s3.0 s4.0 s5.0 s6.0 s11.0 s12.0 s9.0 s10.0 s7.0 ∙ sym (chosen_so other))
  where
    from : choice.sha_512 ≡ other.sha_512 → choice.sha_256 ≡ other.sha_256 → choice.sha_1 ≡ other.sha_1
        → choice.plain ≡ other.plain → choice.anonymous ≡ other.anonymous → choice.external ≡ other.external
        → choice.cbind_flag_y ≡ other.cbind_flag_y → choice.strict ≡ other.strict
        → choice.reject_misplaced ≡ other.reject_misplaced
        → choice.initial_response_by_challenge ≡ other.initial_response_by_challenge
        → choice.signature_by_challenge ≡ other.signature_by_challenge → choice.passwords ≡ other.passwords
        → chosen choice.sha_512 choice.sha_256 choice.sha_1 choice.plain choice.anonymous
        choice.external choice.cbind_flag_y choice.strict choice.reject_misplaced choice.initial_response_by_challenge
        choice.signature_by_challenge choice.passwords
        ≡ chosen other.sha_512 other.sha_256 other.sha_1 other.plain other.anonymous
        other.external other.cbind_flag_y other.strict other.reject_misplaced other.initial_response_by_challenge
        other.signature_by_challenge other.passwords
    from a b c d e f g h i j k l = cc

-- ---- the records that structs show

versioned_so : (kept : Kept) (shown other : VersionedRecord) → ShowsRecord kept shown → ShowsRecord kept other
    → shown ≡ other
versioned_so kept shown other is too =
    let hash : shown.version ≡ other.version = one_number shown.version other.version (is.0 ∙ sym too.0) in
    by hash (is.2 ∙ (ap (λ (v : ScramVersion). stored_of v kept) hash ∙ sym too.2))
  where
    by : shown.version ≡ other.version → shown.stored ≡ other.stored → shown ≡ other
    by hash same = ap (λ (v : ScramVersion). versioned v shown.stored) hash ∙ ap (versioned other.version) same

pub one_records : (user : List ℕ) (kepts : List Kept) (records others : MultiRecords) → ShowRecords user kepts records
    → ShowRecords user kepts others → records ≡ others
one_records user [] records others is too = is ∙ sym too
one_records user (kept ∷ more) records others (inl (shown, rest, shows, then, same)) (inl (other, rest', shows', then', same')) =
    let one : shown ≡ other = versioned_so kept shown other shows shows' in
    let all : rest ≡ rest' = one_records user more rest rest' then then' in
    same ∙ (ap (λ (s : VersionedRecord). (user, s) ∷ rest) one ∙ (ap (λ (r : MultiRecords). (user, other) ∷ r) all ∙ sym same'))
one_records user (kept ∷ more) records others (inl (shown, rest, shows, then, same)) (inr (none, rests)) =
    absurd (none shown shows)
one_records user (kept ∷ more) records others (inr (none, rests)) (inl (shown, rest, shows, then, same)) =
    absurd (none shown shows)
one_records user (kept ∷ more) records others (inr (none, rests)) (inr (too, rests')) =
    one_records user more records others rests rests'

-- ---- settings

meant : Choice → Option ChannelBindings → Bool → Option MockChoice → ℕ → List ℕ → MultiRecords → Rights → ScramVersion
    → ServerSettings
meant choice channels authzid mock count external records rights plain = record {
  records = records;
  mechanisms = record {
    scram_sha_512 = choice.sha_512;
    scram_sha_256 = choice.sha_256;
    scram_sha_1 = choice.sha_1;
    plain = choice.plain;
    anonymous = choice.anonymous;
    external = choice.external;
  };
  rules = record {
    accept_cbind_flag_y = choice.cbind_flag_y;
    strict = choice.strict;
    reject_misplaced = choice.reject_misplaced;
    channels = channels;
    accept_authzid = authzid;
  };
  rights = rights;
  mock = mock;
  plain_version = plain;
  plain_count = Some count;
  plain_passwords = choice.passwords;
  extra = record {
    initial_response = choice.initial_response_by_challenge;
    signature = choice.signature_by_challenge;
  };
  is_tls = true;
  external = external;
}

meant_so : (config : Config) (choice : Choice) (records : MultiRecords) → settings_for config choice records
    ≡ meant choice (channels_of config.channels) (is_set config.accept_authzid) (mock_of config) config.iterations
    config.external_authcid.now records (rights_for config.username.now config.identities.now)
    (plain_version_for (mechanisms_for choice) records)
unfolding meant
meant_so config choice records = refl

over_meant : (choice : Choice) (channels : Option ChannelBindings) (authzid : Bool) (mock other_mock : Option MockChoice)
    (count : ℕ) (external : List ℕ) (records others : MultiRecords) (rights other_rights : Rights)
    (plain other_plain : ScramVersion)
    → over records rights mock plain (meant choice channels authzid other_mock count external others other_rights other_plain)
    ≡ meant choice channels authzid mock count external records rights plain
unfolding meant
over_meant choice channels authzid mock other_mock count external records others rights other_rights plain other_plain = refl

-- the settings of a configuration of the same values, but for its user
pub over_base : (base config : Config) (settings other : ServerSettings) → OneConfiguration base config
    → AreSettings base settings → AreSettings config other
    → (records : MultiRecords) × (rights : Rights) × (plain : ScramVersion)
    × (ShowRecords config.username.now config.records.now records)
    × (rights ≡ rights_for config.username.now config.identities.now)
    × (plain ≡ plain_version_for settings.mechanisms records)
    × (other ≡ over records rights (mock_of config) plain settings)
over_base base config settings other one (choice, records, sum, shows, is) (choice', records', sum', shows', is') =
    let same : choice' ≡ choice = one_choice choice' choice (sum'.1 ∙ (one.flags ∙ sym sum.1))
    (sum'.0 ∙ (one.mechanisms ∙ sym sum.0)) in
    let rights = rights_for config.username.now config.identities.now in
    let plain = plain_version_for (mechanisms_for choice') records' in
    let mock = mock_of config in
    let made = meant_so config choice' records' ∙ by same (channels_of config.channels) (channels_of base.channels)
    (is_set config.accept_authzid) (is_set base.accept_authzid) config.iterations base.iterations
    config.external_authcid.now base.external_authcid.now mock rights plain one.channels (ap is_set one.authzid) one.iterations
    one.external in
    let meets = is ∙ meant_so base choice records in (
      records',
      rights,
      plain,
      shows',
      refl,
      ap (λ (c : Choice). plain_version_for (mechanisms_for c) records') same
          ∙ ap (λ (m : Mechanisms). plain_version_for m records') (sym (ap (λ (s : ServerSettings). s.mechanisms) is)),
      is' ∙ (made ∙ (sym (over_meant choice (channels_of base.channels) (is_set base.accept_authzid) mock (mock_of base)
          base.iterations base.external_authcid.now records' records rights _ plain _)
          ∙ sym (ap (over records' rights mock plain) meets))),
    )
  where
    by : choice' ≡ choice → (c c' : Option ChannelBindings) (a a' : Bool) (n n' : ℕ) (e e' : List ℕ)
        (mock : Option MockChoice) (rights : Rights) (plain : ScramVersion) → c ≡ c' → a ≡ a' → n ≡ n' → e ≡ e'
        → meant choice' c a mock n e records' rights plain ≡ meant choice c' a' mock n' e' records' rights plain
    by same c c' a a' n n' e e' mock rights plain channels authzid count external = cc

-- and of the same values
pub of_base : (base config : Config) (settings other : ServerSettings) → OneConfiguration base config
    → SameUser base config → AreSettings base settings → AreSettings config other → other ≡ settings
of_base base config settings other one user (choice, records, sum, shows, is) (choice', records', sum', shows', is') =
    let same : choice' ≡ choice = one_choice choice' choice (sum'.1 ∙ (one.flags ∙ sym sum.1))
    (sum'.0 ∙ (one.mechanisms ∙ sym sum.0)) in
    let moved = subst (λ (k : List Kept). ShowRecords base.username.now k records') user.records
    (subst (λ (u : List ℕ). ShowRecords u config.records.now records') user.username shows') in
    let all : records' ≡ records = one_records base.username.now base.records.now records' records moved shows in
    let rights : rights_for config.username.now config.identities.now ≡ rights_for base.username.now base.identities.now =
    ap (λ (u : List ℕ). rights_for u config.identities.now) user.username
    ∙ ap (rights_for base.username.now) user.identities in
    is' ∙ (meant_so config choice' records' ∙ (by same (channels_of config.channels) (channels_of base.channels)
    (is_set config.accept_authzid) (is_set base.accept_authzid) config.iterations base.iterations
    config.external_authcid.now base.external_authcid.now (mock_of config) (mock_of base)
    (rights_for config.username.now config.identities.now) (rights_for base.username.now base.identities.now)
    (plain_version_for (mechanisms_for choice') records') (plain_version_for (mechanisms_for choice) records) all one.channels
    (ap is_set one.authzid) one.iterations one.external one.mock rights
    (ap (λ (c : Choice). plain_version_for (mechanisms_for c) records') same
    ∙ ap (plain_version_for (mechanisms_for choice)) all)
    ∙ (sym (meant_so base choice records) ∙ sym is)))
  where
    by : choice' ≡ choice → (c c' : Option ChannelBindings) (a a' : Bool) (n n' : ℕ) (e e' : List ℕ)
        (m m' : Option MockChoice) (g g' : Rights) (v v' : ScramVersion) → records' ≡ records → c ≡ c' → a ≡ a' → n ≡ n'
        → e ≡ e' → m ≡ m' → g ≡ g' → v ≡ v'
        → meant choice' c a m n e records' g v ≡ meant choice c' a' m' n' e' records g' v'
    by same c c' a a' n n' e e' m m' g g' v v' all channels authzid count external mock rights plain = cc
