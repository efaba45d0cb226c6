-- What structs show of a server of a connection, and of which server they are (AMQP 1.0, part 5, section 5.3.2).
use Rattle.std.proofs.Common.{arith, refl, sym, ap, inl, inr, ◌∙◌, ◌≡◌, ◌≢◌, ◌≤◌, ◌<◌, ◌⊎◌, ◌+◌, ◌*◌, ◌∷◌, ◌++◌, ℕ, List, [], length}
use Rattle.std.specs.Prelude.{Bool, true, false, MatchBool, None, Err}
use Rattle.std.specs.Str.{IsUtf8}
use Rattle.std.proofs.lemmas.List.{append-nil, append_assoc}
use Rattle.fe2o3_scram.specs.declared.hmac.ScramVersion.{ScramVersion}
use Rattle.fe2o3_scram.specs.declared.hmac.ScramVersion.TheVariants as versions
use Rattle.fe2o3_scram.specs.Credentials.{VersionedRecord}
use Rattle.fe2o3_scram.specs.Mixed.{MultiRecords}
use Rattle.fe2o3_scram.specs.Readings.{IsFirst, NoneHolds}
use Rattle.fe2o3_sasl_core.specs.SavedServers.{KeptStage, kept_stage}
use Rattle.fe2o3_sasl_core.specs.Servers.{NotStarted, ServerAt, ServerStage, offers_any, settings_with}
use Rattle.fe2o3_sasl_core.specs.declared.server.options.Mechanisms.{Mechanisms}
use Rattle.fe2o3_sasl_core.specs.declared.plain_server.passwords.PlainPasswords.{PlainPasswords}
use Rattle.fe2o3_sasl_core.specs.declared.plain_server.passwords.PlainPasswords.TheVariants as forms
use Rattle.fe2o3_sasl_negotiation.specs.Sides.{ServerConnectionSide, extended_in}
use Rattle.fe2o3_sasl_negotiation.specs.declared.progress.Progress.{Progress}
use Rattle.fe2o3_sasl_negotiation.specs.declared.progress.Progress.TheVariants.{InProgress, Authenticated, Failed}
use Rattle.sasl_c.specs.declared.records.ScramRecord.{ScramRecord as Kept}
use Rattle.sasl_c.specs.declared.rejections.LoggedServer.{LoggedServer}
use Rattle.sasl_c.specs.declared.sasl_server.Choice.{Choice}
use Rattle.sasl_c.specs.declared.sasl_server.Prepared.{Prepared}
use Rattle.sasl_c.specs.declared.sasl_server.SaslServerConfig.{SaslServerConfig as Config}
use Rattle.sasl_c.specs.declared.sasl_server.SaslServer.{SaslServer as Struct}
use Rattle.sasl_c.specs.declared.server.ScramServer.{ScramServer as ScramStruct}
use Rattle.sasl_c.specs.declared.status.Status.{Status}
use Rattle.sasl_c.specs.declared.status.Status.TheVariants as statuses
use Rattle.sasl_c.specs.Records.{ShowsRecord, SpellsStruct}
use Rattle.sasl_c.specs.Rejections.{Logged, state_of}
use Rattle.sasl_c.specs.Rules.{HasLongData}
use Rattle.sasl_c.specs.SaslServer.{AddsRecord, AreSettings, HasLongSalt, HasNoServerWords, HasNone, IsChoice, IsNoConfig, IsPrepared, IsServer, RestoresStage, ServerIsReached, ShowRecords, ShowsBy, ShowsNext, ShowsProgress, ShowsSide, ShowsState, choice_tests, config_tests, flags_sum, mechanisms_sum, one_where, passwords_number, plain_version_for, side_in, side_struct, state_struct, struct_by}
use Rattle.sasl_c.specs.Server.{IsUnfinished, ShowsStage, fresh_server_struct}
use Rattle.sasl_c.specs.Status.{version_number}
use Rattle.sasl_c.proofs.ExchangeLemmas.{keeps_nothing}
use Rattle.sasl_c.proofs.ServerReplyLemmas.{Goes, Serves, kept_by, restored_so, restores}
use Rattle.sasl_c.proofs.StatusLemmas.{carried}

-- ---- which mechanisms are offered

within : (is : Bool) (n : ℕ) → one_where is n ≤ n
within true n = omega arith
within false n = omega arith

form_within : (passwords : PlainPasswords) → passwords_number passwords ≤ 256
form_within forms.Typed = omega (arith)
form_within forms.Prepared = omega (arith)
form_within forms.Saslprep = omega (arith)

-- no choice has mechanisms of a sum above 63
pub too_many : (sum : ℕ) → 63 < sum → (choice : Choice) → mechanisms_sum choice ≢ sum
too_many sum large choice same = absurd (omega (
  arith,
  large,
  same,
  within choice.sha_512 1,
  within choice.sha_256 2,
  within choice.sha_1 4,
  within choice.plain 8,
  within choice.anonymous 16,
  within choice.external 32,
))

-- a choice of mechanisms, without flags
abbrev mechanisms_only : Bool → Bool → Bool → Bool → Bool → Bool → Choice
mechanisms_only sha_512 sha_256 sha_1 plain anonymous external = record {
  sha_512 = sha_512;
  sha_256 = sha_256;
  sha_1 = sha_1;
  plain = plain;
  anonymous = anonymous;
  external = external;
  cbind_flag_y = false;
  strict = false;
  reject_misplaced = false;
  initial_response_by_challenge = false;
  signature_by_challenge = false;
  passwords = forms.Typed;
}

-- each smaller sum is that of a choice of mechanisms, so a wrong sum of flags is the first fault
pub no_flags : (sum flags r5 r4 r3 r2 r1 r0 : ℕ) (external anonymous plain sha_1 sha_256 sha_512 : Bool)
    → sum ≡ one_where external 32 + r5 → r5 ≡ one_where anonymous 16 + r4 → r4 ≡ one_where plain 8 + r3
    → r3 ≡ one_where sha_1 4 + r2 → r2 ≡ one_where sha_256 2 + r1 → r1 ≡ one_where sha_512 1 + r0 → r0 < 1
    → ((choice : Choice) → flags_sum choice ≢ flags) → IsFirst (choice_tests sum flags) statuses.NoSuchChoice
no_flags sum flags r5 r4 r3 r2 r1 r0 external anonymous plain sha_1 sha_256 sha_512 e5 e4 e3 e2 e1 e0 small none = inr (
  (λ wrong. wrong (mechanisms_only sha_512 sha_256 sha_1 plain anonymous external)
      (omega (arith, e5, e4, e3, e2, e1, e0, small))),
  inl (none, refl),
)

-- no choice has flags of a sum above 8191, or of one whose rest below 512 is above 383
pub too_large : (sum : ℕ) → 8191 < sum → (choice : Choice) → flags_sum choice ≢ sum
too_large sum large choice same = absurd (omega (
  arith,
  large,
  same,
  form_within choice.passwords,
  within choice.cbind_flag_y 64,
  within choice.reject_misplaced 4096,
  within choice.strict 2048,
  within choice.signature_by_challenge 1024,
  within choice.initial_response_by_challenge 512,
))

-- every flag is a multiple of 64, and the greatest four are multiples of 512
times_64 : (is : Bool) → one_where is 4096 ≡ 64 * one_where is 64
times_64 true = refl
times_64 false = refl

times_32 : (is : Bool) → one_where is 2048 ≡ 64 * one_where is 32
times_32 true = refl
times_32 false = refl

times_16 : (is : Bool) → one_where is 1024 ≡ 64 * one_where is 16
times_16 true = refl
times_16 false = refl

times_8 : (is : Bool) → one_where is 512 ≡ 64 * one_where is 8
times_8 true = refl
times_8 false = refl

times_1 : (is : Bool) → one_where is 64 ≡ 64 * one_where is 1
times_1 true = refl
times_1 false = refl

eight : (is : Bool) → (one_where is 64 ≡ 8 * one_where is 8) × (one_where is 32 ≡ 8 * one_where is 4)
    × (one_where is 16 ≡ 8 * one_where is 2) × (one_where is 8 ≡ 8 * one_where is 1)
eight true = (refl, refl, refl, refl)
eight false = (refl, refl, refl, refl)

form_times : (passwords : PlainPasswords) → (n : ℕ) × (passwords_number passwords ≡ 64 * n)
form_times forms.Typed = (0, refl)
form_times forms.Prepared = (2, refl)
form_times forms.Saslprep = (4, refl)

pub between : (sum stricts signs asks rest : ℕ) (rejects strict signed asked : Bool)
    → sum ≡ one_where rejects 4096 + stricts → stricts ≡ one_where strict 2048 + signs
    → signs ≡ one_where signed 1024 + asks → asks ≡ one_where asked 512 + rest → 383 < rest → rest < 512
    → (choice : Choice) → flags_sum choice ≢ sum
between sum stricts signs asks rest rejects strict signed asked first split then last large small choice same = absurd (omega (
  arith,
  first,
  split,
  then,
  last,
  large,
  small,
  same,
  form_within choice.passwords,
  within choice.cbind_flag_y 64,
  times_64 rejects,
  times_32 strict,
  times_16 signed,
  times_8 asked,
  (eight rejects).0,
  (eight strict).1,
  (eight signed).2,
  (eight asked).3,
  times_64 choice.reject_misplaced,
  times_32 choice.strict,
  times_16 choice.signature_by_challenge,
  times_8 choice.initial_response_by_challenge,
  (eight choice.reject_misplaced).0,
  (eight choice.strict).1,
  (eight choice.signature_by_challenge).2,
  (eight choice.initial_response_by_challenge).3,
))

-- or whose rest below 64 is not 0
pub unknown_flag : (sum stricts signs asks rest low unknown : ℕ) (rejects strict signed asked takes : Bool)
    (form : PlainPasswords) → sum ≡ one_where rejects 4096 + stricts → stricts ≡ one_where strict 2048 + signs
    → signs ≡ one_where signed 1024 + asks → asks ≡ one_where asked 512 + rest → rest ≡ passwords_number form + low
    → low ≡ one_where takes 64 + unknown → 0 < unknown → unknown < 64 → (choice : Choice) → flags_sum choice ≢ sum
unknown_flag sum stricts signs asks rest low unknown rejects strict signed asked takes form e5 e4 e3 e2 e1 e0 some small
    choice same =
    let of_form = form_times form in
    let of_choice = form_times choice.passwords in
    absurd (omega (
      arith,
      e5,
      e4,
      e3,
      e2,
      e1,
      e0,
      some,
      small,
      same,
      of_form.1,
      of_choice.1,
      times_64 rejects,
      times_32 strict,
      times_16 signed,
      times_8 asked,
      times_1 takes,
      times_64 choice.reject_misplaced,
      times_32 choice.strict,
      times_16 choice.signature_by_challenge,
      times_8 choice.initial_response_by_challenge,
      times_1 choice.cbind_flag_y,
    ))

-- ---- the record of a configuration's user

-- a struct that shows no record for this reason shows none
shows_none : (kept : Kept) (status : Status) (shown : VersionedRecord) → SpellsStruct kept (Err status)
    → ShowsRecord kept shown → ⊥
shows_none kept statuses.OutOfMemory shown wrong is = absurd wrong
shows_none kept statuses.NotUtf8 shown wrong is = absurd wrong
shows_none kept statuses.NoSuchVersion shown wrong is = wrong shown.version is.0
shows_none kept statuses.TooLong shown wrong is = absurd (omega (arith, wrong.1, is.1))
shows_none kept statuses.NotPrintable shown wrong is = absurd wrong
shows_none kept statuses.ZeroIterations shown wrong is = absurd wrong
shows_none kept statuses.NoSuchSecret shown wrong is = absurd wrong
shows_none kept statuses.NoKeys shown wrong is = absurd wrong
shows_none kept statuses.OtherVersion shown wrong is = absurd wrong
shows_none kept statuses.OtherPassword shown wrong is = absurd wrong
shows_none kept statuses.NoSuchMechanism shown wrong is = absurd wrong
shows_none kept statuses.Ended shown wrong is = absurd wrong
shows_none kept statuses.InvalidSnapshot shown wrong is = absurd wrong
shows_none kept statuses.NamesNoUser shown wrong is = absurd wrong
shows_none kept statuses.NeedsRecords shown wrong is = absurd wrong
shows_none kept (statuses.Client why) shown wrong is = absurd wrong
shows_none kept (statuses.Server why) shown wrong is = absurd wrong
shows_none kept (statuses.NoRecord why) shown wrong is = absurd wrong
shows_none kept statuses.LineFeedMissing shown wrong is = absurd wrong
shows_none kept statuses.SpaceMissing shown wrong is = absurd wrong
shows_none kept statuses.InvalidName shown wrong is = absurd wrong
shows_none kept statuses.NoSuchUser shown wrong is = absurd wrong
shows_none kept statuses.NotWritable shown wrong is = absurd wrong
shows_none kept statuses.ProtocolHeaderMismatch shown wrong is = absurd wrong
shows_none kept statuses.FrameSize shown wrong is = absurd wrong
shows_none kept statuses.UnexpectedFrame shown wrong is = absurd wrong
shows_none kept statuses.ReplyTooLarge shown wrong is = absurd wrong
shows_none kept statuses.MalformedFrame shown wrong is = absurd wrong
shows_none kept statuses.NoSaslFrame shown wrong is = absurd wrong
shows_none kept statuses.FrameTooLarge shown wrong is = absurd wrong
shows_none kept statuses.NotImplemented shown wrong is = absurd wrong
shows_none kept statuses.RefusedAuth shown wrong is = absurd wrong
shows_none kept statuses.RefusedSys shown wrong is = absurd wrong
shows_none kept statuses.RefusedSysPerm shown wrong is = absurd wrong
shows_none kept statuses.RefusedSysTemp shown wrong is = absurd wrong
shows_none kept statuses.UnassignedCodePoint shown wrong is = absurd wrong
shows_none kept statuses.ServerError shown wrong is = absurd wrong
shows_none kept statuses.EndOfInput shown wrong is = absurd wrong
shows_none kept statuses.ChannelDataLength shown wrong is = absurd wrong
shows_none kept statuses.NoSuchChannel shown wrong is = absurd wrong
shows_none kept statuses.EmptyPassword shown wrong is = absurd wrong
shows_none kept statuses.MixedDirections shown wrong is = absurd wrong
shows_none kept statuses.ProhibitedCharacter shown wrong is = absurd wrong
shows_none kept statuses.NoSuchChoice shown wrong is = absurd wrong

-- a number is that of one version
pub one_number : (version other : ScramVersion) → version_number version ≡ version_number other → version ≡ other
one_number versions.Sha1 versions.Sha1 same = refl
one_number versions.Sha1 versions.Sha256 same = absurd (omega (arith, same))
one_number versions.Sha1 versions.Sha512 same = absurd (omega (arith, same))
one_number versions.Sha256 versions.Sha1 same = absurd (omega (arith, same))
one_number versions.Sha256 versions.Sha256 same = refl
one_number versions.Sha256 versions.Sha512 same = absurd (omega (arith, same))
one_number versions.Sha512 versions.Sha1 same = absurd (omega (arith, same))
one_number versions.Sha512 versions.Sha256 same = absurd (omega (arith, same))
one_number versions.Sha512 versions.Sha512 same = refl

pub no_record : (kept : Kept) (status : Status) (shown : VersionedRecord) → SpellsStruct kept (Err status)
    → ¬ ShowsRecord kept shown
no_record kept status shown wrong is = shows_none kept status shown wrong is

-- the structs that are left after one that shows none, and after one that shows this record
pub skips : (user : List ℕ) (kept : Kept) (more : List Kept) (records : MultiRecords)
    → ((shown : VersionedRecord) → ¬ ShowsRecord kept shown) → ShowRecords user (kept ∷ more) records
    → ShowRecords user more records
skips user kept more records none (inl (shown, rest, is, then, same)) = absurd (none shown is)
skips user kept more records none (inr (other, then)) = then

-- the first that shows one has its hash
pub first_shown : (mechanisms : Mechanisms) (user : List ℕ) (kept : Kept) (more : List Kept) (records : MultiRecords)
    (shown : VersionedRecord) → ShowsRecord kept shown → ShowRecords user (kept ∷ more) records
    → shown.version ≡ plain_version_for mechanisms records
first_shown mechanisms user kept more records shown is (inl (other, rest, shows, then, same)) =
    one_number shown.version other.version (is.0 ∙ sym shows.0) ∙ sym (ap (plain_version_for mechanisms) same)
first_shown mechanisms user kept more records shown is (inr (none, then)) = absurd (none shown is)

-- the records so far, of the structs before those that are left
abbrev pub ShowSoFar : List ℕ → List Kept → List Kept → MultiRecords → Type 0
ShowSoFar user kepts left records =
    (rest : MultiRecords) → ShowRecords user left rest → ShowRecords user kepts (records ++ rest)

pub so_far_none : (user : List ℕ) (kepts : List Kept) → ShowSoFar user kepts kepts []
so_far_none user kepts = λ rest is. is

pub so_far_more : (user : List ℕ) (kepts left : List Kept) (kept : Kept) (before after : MultiRecords)
    → ShowSoFar user kepts (kept ∷ left) before → AddsRecord user kept before after → ShowSoFar user kepts left after
so_far_more user kepts left kept before after shows (inl (shown, is, then)) = λ rest more.
    carried (ShowRecords user kepts) (before ++ ((user, shown) ∷ rest)) (after ++ rest)
    (sym (ap (λ (a : MultiRecords). a ++ rest) then ∙ append_assoc before ((user, shown) ∷ []) rest))
    (shows ((user, shown) ∷ rest) (inl (shown, rest, is, more, refl)))
so_far_more user kepts left kept before after shows (inr (none, then)) = λ rest more.
    carried (ShowRecords user kepts) (before ++ rest) (after ++ rest)
    (sym (ap (λ (a : MultiRecords). a ++ rest) then)) (shows rest (inr (none, more)))

pub so_far_all : (user : List ℕ) (kepts : List Kept) (records : MultiRecords) → ShowSoFar user kepts [] records
    → ShowRecords user kepts records
so_far_all user kepts records shows =
    carried (ShowRecords user kepts) (records ++ []) records (append-nil records) (shows [] refl)

pub ruleset first = (no_record, skips, first_shown)

pub ruleset store = (so_far_none, so_far_more, so_far_all)

-- ---- the server of a configuration

-- the tests of a configuration after those of its choice
abbrev word_tests_of : Config → List (Status × Type 0)
word_tests_of config = (statuses.NotUtf8, ¬ IsUtf8 config.username.now)
    ∷ (statuses.NotUtf8, ¬ IsUtf8 config.external_authcid.now) ∷ (statuses.NotUtf8, ¬ IsUtf8 config.identities.now)
    ∷ (statuses.ChannelDataLength, HasLongData config.channels) ∷ (statuses.TooLong, HasLongSalt config) ∷ []

-- why there is none
pub no_choice : (config : Config) (status : Status) → IsFirst (choice_tests config.mechanisms config.flags) status
    → IsNoConfig config status
unfolding IsNoConfig
no_choice config status (inl wrong) = inl (inl wrong)
no_choice config status (inr (some, inl wrong)) = inl (inr (some, inl wrong))
no_choice config status (inr (some, inr (others, none))) = absurd none

-- a configuration with a choice, whose first fault is a later one
later : (config : Config) (choice : Choice) (status : Status) → IsChoice config.mechanisms config.flags choice
    → IsFirst (word_tests_of config) status → IsFirst (config_tests config) status
later config choice status is first = inr ((λ none. none choice is.0), inr ((λ none. none choice is.1), first))

pub no_words : (config : Config) (choice : Choice) (status : Status) → IsChoice config.mechanisms config.flags choice
    → HasNoServerWords config status → IsNoConfig config status
unfolding IsNoConfig
no_words config choice status sum (is, inl wrong) = inl (later config choice status sum (inl (wrong, is)))
no_words config choice status sum (is, inr (inl (name, wrong))) =
    inl (later config choice status sum (inr ((λ other. other name), inl (wrong, is))))
no_words config choice status sum (is, inr (inr (name, peer, wrong))) =
    inl (later config choice status sum (inr ((λ other. other name), inr ((λ other. other peer), inl (wrong, is)))))

pub no_channels : (config : Config) (choice : Choice) → IsChoice config.mechanisms config.flags choice
    → IsUtf8 config.username.now → IsUtf8 config.external_authcid.now → IsUtf8 config.identities.now
    → HasLongData config.channels → IsNoConfig config statuses.ChannelDataLength
unfolding IsNoConfig
no_channels config choice sum name peer words long = inl (later config choice statuses.ChannelDataLength sum (inr (
  (λ wrong. wrong name),
  inr ((λ wrong. wrong peer), inr ((λ wrong. wrong words), inl (long, refl))),
)))

pub no_salts : (config : Config) (choice : Choice) → IsChoice config.mechanisms config.flags choice
    → IsUtf8 config.username.now → IsUtf8 config.external_authcid.now → IsUtf8 config.identities.now
    → ¬ HasLongData config.channels → HasLongSalt config → IsNoConfig config statuses.TooLong
unfolding IsNoConfig
no_salts config choice sum name peer words short long = inl (later config choice statuses.TooLong sum (inr (
  (λ wrong. wrong name),
  inr ((λ wrong. wrong peer), inr ((λ wrong. wrong words), inr (short, inl (long, refl)))),
)))

pub no_offer : (config : Config) (prepared : Prepared) → IsPrepared config prepared → NoneHolds (config_tests config)
    → offers_any (settings_with prepared.records prepared.options prepared.transport) ≡ false
    → IsNoConfig config statuses.NoSuchMechanism
unfolding IsNoConfig
no_offer config prepared are none nothing = inr (
  none,
  refl,
  (settings_with prepared.records prepared.options prepared.transport, are, nothing),
)

pub no_test : (config : Config) (choice : Choice) → IsChoice config.mechanisms config.flags choice
    → IsUtf8 config.username.now → IsUtf8 config.external_authcid.now → IsUtf8 config.identities.now
    → ¬ HasLongData config.channels → ¬ HasLongSalt config → NoneHolds (config_tests config)
no_test config choice sum name peer words short salts = (
  (λ none. none choice sum.0),
  (
    (λ none. none choice sum.1),
    ((λ wrong. wrong name), ((λ wrong. wrong peer), ((λ wrong. wrong words), (short, (salts, tt))))),
  ),
)

pub ruleset prepared = (no_choice, no_words, no_channels, no_salts, no_test)

-- ---- the structs of a side

-- the library's server of a configuration
abbrev pub Served : Type 0
Served = LoggedServer

-- what a struct of SCRAM shows of it after a call
abbrev pub Shown : ScramStruct → Progress → Served → Type 0
Shown scram progress acceptor = ShowsNext scram progress (state_of acceptor)

-- and the one that is written for it
abbrev pub written_for : Progress → Served → ScramStruct
written_for progress acceptor = state_struct progress (state_of acceptor)

pub writes_side : (server : Struct) (next : ServerConnectionSide Served) → server ≡ struct_by state_of written_for next
    → server ≡ side_struct (extended_in next) (side_in next)
writes_side server next written = written

-- the struct that shows a server restores it
pub shows_state : (config : Config) (scram : ScramStruct) (progress : Progress) (logged : Logged) → Serves config logged
    → (progress ≡ InProgress → Goes logged) → ShowsNext scram progress logged → ShowsState scram progress logged
shows_state config scram InProgress logged serves goes shows = (
  kept_stage logged.server.stage,
  (goes refl).1,
  shows,
  restores logged.server.settings logged.server.stage serves.1,
)
shows_state config scram Authenticated logged serves goes shows = shows
shows_state config scram (Failed why) logged serves goes shows = shows

-- where no struct shows a server, none restores it
none_restores : (server : ServerAt) → ((scram : ScramStruct) → ¬ ShowsStage scram (kept_stage server.stage))
    → (scram : ScramStruct) → ¬ RestoresStage scram server
none_restores server none scram (kept, unfinished, shows, same) = go (kept_by server.settings server.stage kept same)
  where
    go : (server.stage ≡ NotStarted) ⊎ (kept ≡ kept_stage server.stage) → ⊥
    go (inl new) = none fresh_server_struct (keeps_nothing fresh_server_struct (kept_stage server.stage)
        (ap kept_stage new) refl)
    go (inr is) = none scram (carried (ShowsStage scram) kept (kept_stage server.stage) is shows)

pub no_state : (progress : Progress) (logged : Logged) → ((scram : ScramStruct) → ¬ ShowsNext scram progress logged)
    → (scram : ScramStruct) → ¬ ShowsState scram progress logged
no_state InProgress logged none scram shows = none_restores logged.server none scram shows
no_state Authenticated logged none scram shows = none scram shows
no_state (Failed why) logged none scram shows = none scram shows

-- the server of a configuration that a struct restores
pub serves_so : (config : Config) (scram : ScramStruct) (logged : Logged) → AreSettings config logged.server.settings
    → RestoresStage scram logged.server → Serves config logged
serves_so config scram logged are (kept, unfinished, shows, same) =
    (are, restored_so logged.server.settings logged.server.stage kept same)

-- it goes on
pub goes_so : (scram : ScramStruct) (logged : Logged) → logged.rejection ≡ None → RestoresStage scram logged.server
    → Goes logged
goes_so scram logged none (kept, unfinished, shows, same) =
    (none, go (kept_by logged.server.settings logged.server.stage kept same))
  where
    go : (logged.server.stage ≡ NotStarted) ⊎ (kept ≡ kept_stage logged.server.stage)
        → IsUnfinished (kept_stage logged.server.stage)
    go (inl new) = carried (λ (s : ServerStage). IsUnfinished (kept_stage s)) NotStarted logged.server.stage (sym new) tt
    go (inr is) = carried IsUnfinished kept (kept_stage logged.server.stage) is unfinished

-- each server of a configuration is one that it reaches
pub reached_by : (config : Config) (progress : Progress) (logged : Logged) → Serves config logged
    → (progress ≡ InProgress → Goes logged) → ServerIsReached config progress logged
reached_by config InProgress logged serves goes = (serves.0, (goes refl).0)
reached_by config Authenticated logged serves goes = tt
reached_by config (Failed why) logged serves goes = tt

pub is_server : (config : Config) (server : Struct) (next : ServerConnectionSide Served)
    → ShowsBy state_of Shown server next → Serves config (side_in next).state
    → ((side_in next).progress ≡ InProgress → Goes (side_in next).state) → (side_in next).limit ≡ 512
    → IsServer config server (side_in next)
unfolding IsServer ShowsSide
is_server config server next shows serves goes limit = let side = side_in next in (
  (shows.0, shows_state config server.scram side.progress side.state serves goes shows.1),
  limit,
  reached_by config side.progress side.state serves goes,
)

pub no_server : (config : Config) (next : ServerConnectionSide Served) → HasNone state_of Shown next
    → length (side_in next).held ≤ 512 → (server : Struct) → ¬ IsServer config server (side_in next)
unfolding IsServer ShowsSide
no_server config next (inl many) few server is = absurd (omega (arith, few, many))
no_server config next (inr none) few server is =
    no_state (side_in next).progress (side_in next).state none server.scram is.0.1

-- what a struct shows of a login that goes on, or is complete
pub going_on : (progress : Progress) (stage : KeptStage) (fits : Bool) (scram : ScramStruct) → progress ≡ InProgress
    → MatchBool fits (ShowsStage scram stage) ((other : ScramStruct) → ¬ ShowsStage other stage)
    → MatchBool fits (ShowsProgress scram progress stage) ((other : ScramStruct) → ¬ ShowsProgress other progress stage)
going_on progress stage fits scram is held =
    carried (λ (s : Progress). MatchBool fits (ShowsProgress scram s stage) ((other : ScramStruct)
    → ¬ ShowsProgress other s stage)) InProgress progress (sym is) held

pub logged_in : (progress : Progress) (stage : KeptStage) (fits : Bool) (scram : ScramStruct) → progress ≡ Authenticated
    → MatchBool fits (ShowsStage scram stage) ((other : ScramStruct) → ¬ ShowsStage other stage)
    → MatchBool fits (ShowsProgress scram progress stage) ((other : ScramStruct) → ¬ ShowsProgress other progress stage)
logged_in progress stage fits scram is held =
    carried (λ (s : Progress). MatchBool fits (ShowsProgress scram s stage) ((other : ScramStruct)
    → ¬ ShowsProgress other s stage)) Authenticated progress (sym is) held

pub ruleset shown = (going_on, logged_in)
