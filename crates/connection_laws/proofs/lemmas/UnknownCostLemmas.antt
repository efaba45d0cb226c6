-- A server that knows a name by its mock records makes as many HMAC values: `unknown_names_cost_alike`; and whom PLAIN logs in.
use Rattle.std.proofs.Common.{◌≡◌, ◌∙◌, ℕ, Bool, true, false, Option, Some, None, List, ap, sym, subst, refl, inl, inr}
use Rattle.std.specs.Prelude.{MatchOption, if◌then◌else◌, nat_eq}
use Rattle.std.specs.Cmp.Lexicographic.{pointwise}
use Rattle.fe2o3_sasl_wire.specs.SaslFrames as frames
use Rattle.fe2o3_sasl_wire.specs.SaslFrames.{SaslFrame}
use Rattle.fe2o3_scram.specs.ChannelBinding.{server_mechanism}
use Rattle.fe2o3_scram.specs.Credentials.{Provider, Record, record_at, with_rights}
use Rattle.fe2o3_scram.specs.Mixed.{MultiRecords, provider_for}
use Rattle.fe2o3_scram.specs.MockSettings.{MockSettings, mock_record, stored_or}
use Rattle.fe2o3_scram.specs.ScramServer.{Initial, ServerFirstSent}
use Rattle.fe2o3_sasl_core.specs.Costs.{acceptor_hmacs}
use Rattle.fe2o3_sasl_core.specs.LoginAttempts.{Attempt}
use Rattle.fe2o3_sasl_core.specs.MockChoices.{MockChoice, count_of_unknown, mock_for}
use Rattle.fe2o3_sasl_core.specs.PlainServer.{TestsPassword, count_or, plain_hmacs}
use Rattle.fe2o3_sasl_core.specs.SaslAcceptor.{ScramAcceptor}
use Rattle.fe2o3_sasl_core.specs.Servers.{ExchangeOpen, NotStarted, ResponseAsked, ServerLogin, ServerSettings, ServerStage, SignatureShown, UserAuthenticated, asked_mechanism, init_hmacs, init_where_hmacs, is_response_asked, plain_by_settings, response_hmacs, sasl_hmacs}
use Rattle.fe2o3_sasl_core.specs.declared.mechanism.Mechanism.{Mechanism}
use Rattle.fe2o3_sasl_core.specs.declared.mechanism.Mechanism.TheVariants as mechanisms
use Rattle.connection_laws.specs.ConnectionLogins.{MessagesLogIn}
use Rattle.connection_laws.specs.UnknownNames.{PlainUsersHaveRecords, UnknownNamesCostAlike, mock_known}
use Rattle.connection_laws.proofs.lemmas.ConnectionLoginLemmas.{of_login}
use Rattle.connection_laws.proofs.lemmas.UnknownNameLemmas.{OneProvider, over}
use Rattle.connection_laws.proofs.lemmas.UnknownRecordLemmas.{known_record, mock_of, one_provider}

-- ---- any records

-- PLAIN makes as many over both records
abbrev OnePlainCost : ServerSettings → MultiRecords → ℕ → Type 0
OnePlainCost settings records n = (text : List ℕ) → plain_hmacs (plain_by_settings settings) text n
    → plain_hmacs (plain_by_settings (over records settings)) text n

module _ (settings : ServerSettings) (records : MultiRecords) (one : OneProvider settings records) (n : ℕ)
    (plain : OnePlainCost settings records n) where
  init_cost : (mechanism : Mechanism) (response : Option (List ℕ)) → init_hmacs settings mechanism response n
      → init_hmacs (over records settings) mechanism response n
  init_cost (mechanisms.Scram version plus) (Some text) is = subst (λ (p : Provider). acceptor_hmacs (ScramAcceptor p Initial)
      (frames.Init (server_mechanism p.version p.rules) (Some text) None) n) (one version plus) is
  init_cost (mechanisms.Scram version plus) None is = is
  init_cost mechanisms.Plain (Some text) is = plain text is
  init_cost mechanisms.Plain None is = is
  init_cost mechanisms.Anonymous response is = is
  init_cost mechanisms.External response is = is

  found_cost : (found : Option Mechanism) (response : Option (List ℕ))
      → MatchOption found (n ≡ 0) (λ mechanism. init_hmacs settings mechanism response n)
      → MatchOption found (n ≡ 0) (λ mechanism. init_hmacs (over records settings) mechanism response n)
  found_cost None response is = is
  found_cost (Some mechanism) response is = init_cost mechanism response is

  where_cost : (asked : Bool) (name : List ℕ) (response : Option (List ℕ))
      → init_where_hmacs asked settings name response n → init_where_hmacs asked (over records settings) name response n
  where_cost true name response is = is
  where_cost false name response is = found_cost (asked_mechanism settings name) response is

  response_cost : (stage : ServerStage) (text : List ℕ) → response_hmacs settings stage text n
      → response_hmacs (over records settings) stage text n
  response_cost (ResponseAsked mechanism nonce) text is = init_cost mechanism (Some text) is
  response_cost (ExchangeOpen version plus exchange) text is = subst (λ (p : Provider). acceptor_hmacs
      (ScramAcceptor (with_rights settings.rights p) (ServerFirstSent exchange.challenge exchange.stored))
      (frames.Response text) n) (one version plus) is
  response_cost NotStarted text is = is
  response_cost (SignatureShown login) text is = is
  response_cost (UserAuthenticated login) text is = is

  cost_over : (stage : ServerStage) (last : Option Attempt)
      (frame : SaslFrame)
      → sasl_hmacs (record { settings = settings; stage = stage; last = last }) frame n
      → sasl_hmacs (record { settings = over records settings; stage = stage; last = last }) frame n
  cost_over stage last (frames.Init name response hostname) is = where_cost (is_response_asked stage) name response is
  cost_over stage last (frames.Response text) is = response_cost stage text is
  cost_over stage last (frames.Mechanisms names) is = is
  cost_over stage last (frames.Challenge text) is = is
  cost_over stage last (frames.Outcome code more) is = is

-- ---- PLAIN over mock records

-- a mock record has the count by which PLAIN answers an unknown name
one_count : (mock : MockSettings) (name user : List ℕ) (count : ℕ) (found : Option Record) → count ≡ mock.count
    → count_or count found ≡ count_or count (stored_or (mock_of mock name user) found)
one_count mock name user count (Some stored) is = kept (mock_of mock name user)
  where
    kept : (other : Option Record) → stored.count ≡ count_or count (stored_or other (Some stored))
    kept None = refl
    kept (Some another) = refl
one_count mock name user count None is = go (pointwise nat_eq name user)
  where
    go : (same : Bool)
        → count ≡ count_or count (stored_or (if same then Some (mock_record mock name) else None) None)
    go true = is
    go false = refl

module _ (settings : ServerSettings) (mock : MockChoice) (name : List ℕ)
    (one : count_of_unknown settings.plain_count settings.mock ≡ mock.count) where
  abbrev known : MultiRecords
  known = mock_known mock name settings.records

  same_count : (user : List ℕ)
      → count_or (count_of_unknown settings.plain_count settings.mock)
      (record_at (provider_for settings.plain_version settings.records).records user)
      ≡ count_or (count_of_unknown settings.plain_count settings.mock)
      (record_at (provider_for settings.plain_version known).records user)
  same_count user =
      one_count (mock_for settings.plain_version mock) name user (count_of_unknown settings.plain_count settings.mock)
      (record_at (provider_for settings.plain_version settings.records).records user) one
      ∙ ap (λ (found : Option Record). count_or (count_of_unknown settings.plain_count settings.mock) found)
      (sym (known_record settings.plain_version mock name settings.records user))

  tests_known : (text : List ℕ) (count : ℕ) → TestsPassword (plain_by_settings settings) text count
      → TestsPassword (plain_by_settings (over known settings)) text count
  tests_known text count (message, password, spells, taken, tested, is, none) =
      (message, password, spells, taken, tested, is ∙ same_count message.user, none)

  tests_unknown : (text : List ℕ) (count : ℕ) → TestsPassword (plain_by_settings (over known settings)) text count
      → TestsPassword (plain_by_settings settings) text count
  tests_unknown text count (message, password, spells, taken, tested, is, none) =
      (message, password, spells, taken, tested, is ∙ sym (same_count message.user), none)

  plain_known : (n : ℕ) → OnePlainCost settings known n
  plain_known n text (inl (count, tests, is)) = inl (count, tests_known text count tests, is)
  plain_known n text (inr (none, is)) = inr ((λ count tests. none count (tests_unknown text count tests)), is)

  plain_unknown : (n : ℕ) → OnePlainCost (over known settings) settings.records n
  plain_unknown n text (inl (count, tests, is)) = inl (count, tests_unknown text count tests, is)
  plain_unknown n text (inr (none, is)) = inr ((λ count tests. none count (tests_known text count tests)), is)

pub unknown_names_cost_alike : UnknownNamesCostAlike
unknown_names_cost_alike server mock name frame n is one =
    let settings = server.settings in
    let records = mock_known mock name settings.records in (
      cost_over settings records (one_provider settings mock name is) n (plain_known settings mock name one n) server.stage
          server.last frame,
      cost_over (over records settings) settings.records (λ version plus. sym (one_provider settings mock name is version plus))
          n (plain_unknown settings mock name one n) server.stage server.last frame,
    )

-- ---- whom PLAIN logs in

-- a user with a record
abbrev HasRecord : ServerSettings → ServerLogin → Type 0
HasRecord settings login = (user : List ℕ) × (stored : Record) × (login.user ≡ Some user)
    × (record_at (provider_for settings.plain_version settings.records).records user ≡ Some stored)

plain_record : (settings : ServerSettings) (nonce : List ℕ) (mechanism : Mechanism) (response : Option (List ℕ))
    (texts : List (List ℕ)) (login : ServerLogin) → MessagesLogIn settings mechanism nonce response texts login
    → login.mechanism ≡ mechanisms.Plain → HasRecord settings login
plain_record settings nonce mechanisms.Anonymous response texts login completes is =
    let no = sym (ap (λ (l : ServerLogin). l.mechanism) completes.1) ∙ is in absurd (cc)
plain_record settings nonce mechanisms.External response texts login completes is =
    let no = sym (ap (λ (l : ServerLogin). l.mechanism) completes.1.1) ∙ is in absurd (cc)
plain_record settings nonce (mechanisms.Scram version plus) response texts login (messages, are, scram) is =
    let no = sym (ap (λ (l : ServerLogin). l.mechanism) scram.made) ∙ is in absurd (cc)
plain_record settings nonce mechanisms.Plain response texts login (text, are, (parts, lets_in, made)) is =
    let (password, tested, (stored, found, meets)) = lets_in.2.0 in
    (parts.user, stored, ap (λ (l : ServerLogin). l.user) made, found)

pub plain_users_have_records : PlainUsersHaveRecords
plain_users_have_records settings server login some is =
    let logs = of_login settings server login some in
    plain_record settings logs.init.nonce logs.mechanism logs.response logs.texts login logs.completes is
