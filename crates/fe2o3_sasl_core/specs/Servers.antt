-- A server of SCRAM, PLAIN, ANONYMOUS and EXTERNAL over one list of records: what it offers, how far a login has come, and
-- what it answers to a frame (AMQP 1.0, part 5, sections 5.3.2 and 5.3.3).
use Rattle.std.specs.Prelude.{◌≡◌, ◌≢◌, ◌⊎◌, ◌&&◌, ◌||◌, ◌++◌, ℕ, Bool, true, false, not, is_some, if◌then◌else◌, Option, Some, None, MatchOption, List, [], ◌∷◌, Result, Ok, Err, nat_eq, option_map, string_bytes}
use Rattle.std.specs.Cmp.Lexicographic.{pointwise}
use Rattle.fe2o3_sasl_wire.specs.declared.amqp_types.SaslCode.TheVariants as outcomes
use Rattle.fe2o3_sasl_wire.specs.SaslFrames as frames
use Rattle.fe2o3_sasl_wire.specs.SaslFrames.{SaslFrame, canonical}
use Rattle.fe2o3_sasl_wire.specs.declared.sasl_frames.error.Error.{Error}
use Rattle.fe2o3_scram.specs.ActingRights.{Rights}
use Rattle.fe2o3_scram.specs.ChannelBinding.{expected_header, server_mechanism}
use Rattle.fe2o3_scram.specs.ClientFinal.{ReachesBase64, Server}
use Rattle.fe2o3_scram.specs.Credentials.{Provider, serving, with_rights}
use Rattle.fe2o3_scram.specs.Mixed.{MultiRecords, provider_for}
use Rattle.fe2o3_scram.specs.MockSettings.{mocking}
use Rattle.fe2o3_scram.specs.ScramServer.{BeginsExchange, Initial, ServerFirstSent, server_against}
use Rattle.fe2o3_scram.specs.ServerFinal.{AnswersClientFinal}
use Rattle.fe2o3_scram.specs.ServerFirst.{OpenExchange, ReachesChallenge}
use Rattle.fe2o3_scram.specs.declared.hmac.ScramVersion.{ScramVersion}
use Rattle.fe2o3_scram.specs.declared.hmac.ScramVersion.TheVariants.{Sha1, Sha256, Sha512}
use Rattle.fe2o3_scram.specs.declared.scram_messages.error.ServerScramErrorKind.{ServerScramErrorKind}
use Rattle.fe2o3_scram.specs.declared.scram_messages.server_rules.ServerRules.{ServerRules}
use Rattle.fe2o3_sasl_core.specs.Bodies.{SpellsBody, server_says}
use Rattle.fe2o3_sasl_core.specs.Costs.{acceptor_hmacs}
use Rattle.fe2o3_sasl_core.specs.ExternalServer.{AsksFor}
use Rattle.fe2o3_sasl_core.specs.LoginAttempts.{Attempt, IsInitFrame, LateAllocates, RecordsFrame, attempt_of}
use Rattle.fe2o3_sasl_core.specs.MockChoices.{MockChoice, count_of_unknown, mock_for}
use Rattle.fe2o3_sasl_core.specs.PlainServer.{MessageRejected, PlainLogsIn, PlainParts, PlainRules, PreparesPassword, asked_identity, plain_hmacs}
use Rattle.fe2o3_sasl_core.specs.Runs.{server_reply}
use Rattle.fe2o3_sasl_core.specs.SaslAcceptor.{ScramAcceptor, ends_with}
use Rattle.fe2o3_sasl_core.specs.ScramRejections.{FinalRejected, FirstRejected, KnownUsers}
use Rattle.fe2o3_sasl_core.specs.declared.events.ServerReply.{ServerReply}
use Rattle.fe2o3_sasl_core.specs.declared.rejection.Rejection.{Rejection}
use Rattle.fe2o3_sasl_core.specs.declared.rejection.Rejection.TheVariants as reasons
use Rattle.fe2o3_sasl_core.specs.declared.server.options.ExtraChallenges.{ExtraChallenges}
use Rattle.fe2o3_sasl_core.specs.declared.plain_server.passwords.PlainPasswords.{PlainPasswords}
use Rattle.fe2o3_sasl_core.specs.declared.server.options.Mechanisms.{Mechanisms}
use Rattle.fe2o3_sasl_core.specs.Mechanisms.{mechanism_symbol}
use Rattle.fe2o3_sasl_core.specs.declared.mechanism.Mechanism.{Mechanism}
use Rattle.fe2o3_sasl_core.specs.declared.mechanism.Mechanism.TheVariants as mechanisms
use Rattle.fe2o3_sasl_core.specs.declared.server.Server.{Server as Code}
use Rattle.fe2o3_sasl_core.specs.declared.server.options.ServerOptions.{ServerOptions}
use Rattle.fe2o3_sasl_core.specs.declared.server.options.Transport.{Transport}
use Rattle.fe2o3_sasl_core.specs.declared.server.stage.LoginOf.{LoginOf}
use Rattle.fe2o3_sasl_core.specs.declared.server.stage.Stage.{Stage}
use Rattle.fe2o3_sasl_core.specs.declared.server.stage.Stage.TheVariants as stages

-- ---- what a server knows of users

-- what SCRAM by this hash knows of users: its records, and those for every hash
abbrev pub known_for : MultiRecords → ScramVersion → KnownUsers
known_for records version = record {
  own = (provider_for version records).records;
  all = (provider_for Sha1 records).records ∷ (provider_for Sha256 records).records
      ∷ (provider_for Sha512 records).records ∷ [];
}

-- ---- what a server offers

-- what a server knows: its records; which mechanisms it may offer; what SCRAM accepts in a client's messages, with the data
-- of the connection's channel, if there are any; who may act as whom; the settings of mock records, if there are any; the
-- hash of the records that PLAIN tests passwords against, its iteration count for an unknown user, if one is set, and the
-- form of its passwords; which challenges it sends beyond those of the mechanisms; whether the connection is under TLS; and
-- the name that the transport authenticated, where the empty one is none
pub record ServerSettings : Type 0 where
  pub records : MultiRecords
  pub mechanisms : Mechanisms
  pub rules : ServerRules
  pub rights : Rights
  pub mock : Option MockChoice
  pub plain_version : ScramVersion
  pub plain_count : Option ℕ
  pub plain_passwords : PlainPasswords
  pub extra : ExtraChallenges
  pub is_tls : Bool
  pub external : List ℕ

-- whether SCRAM by this hash may be offered
abbrev pub has_hash : Mechanisms → ScramVersion → Bool
has_hash mechanisms Sha1 = mechanisms.scram_sha_1
has_hash mechanisms Sha256 = mechanisms.scram_sha_256
has_hash mechanisms Sha512 = mechanisms.scram_sha_512

-- whether a name is not empty
abbrev pub is_named : List ℕ → Bool
is_named [] = false
is_named (byte ∷ bytes) = true

-- whether a server offers a mechanism: with -PLUS where it has data of the channel (RFC 5802, section 6), PLAIN under TLS
-- (RFC 4616, section 5), and EXTERNAL where the transport authenticated a name (RFC 4422, appendix A)
abbrev pub is_offered_by : ServerSettings → Mechanism → Bool
is_offered_by settings (mechanisms.Scram version plus) =
    has_hash settings.mechanisms version && (not plus || is_some settings.rules.channels)
is_offered_by settings mechanisms.Plain = settings.mechanisms.plain && settings.is_tls
is_offered_by settings mechanisms.Anonymous = settings.mechanisms.anonymous
is_offered_by settings mechanisms.External = settings.mechanisms.external && is_named settings.external

-- all mechanisms, in the order in which they are offered
abbrev pub offer_order : List Mechanism
offer_order = mechanisms.Scram Sha512 true ∷ mechanisms.Scram Sha256 true ∷ mechanisms.Scram Sha1 true
    ∷ mechanisms.Scram Sha512 false ∷ mechanisms.Scram Sha256 false ∷ mechanisms.Scram Sha1 false ∷ mechanisms.Plain
    ∷ mechanisms.Anonymous ∷ mechanisms.External ∷ []

-- whether a server offers one of these mechanisms, and one of all
abbrev pub offers_among : ServerSettings → List Mechanism → Bool
offers_among settings [] = false
offers_among settings (mechanism ∷ others) = is_offered_by settings mechanism || offers_among settings others

abbrev pub offers_any : ServerSettings → Bool
offers_any settings = offers_among settings offer_order

-- these names, and then those of these mechanisms that are offered
abbrev pub name_where_offered : Bool → List ℕ → List (List ℕ)
name_where_offered true name = name ∷ []
name_where_offered false name = []

abbrev pub with_offered : ServerSettings → List (List ℕ) → List Mechanism → List (List ℕ)
with_offered settings names [] = names
with_offered settings names (mechanism ∷ others) =
    with_offered settings (names ++ name_where_offered (is_offered_by settings mechanism) (mechanism_symbol mechanism)) others

-- the names that a server offers (AMQP 1.0, part 5, section 5.3.3.1)
abbrev pub sasl_names : ServerSettings → List (List ℕ)
sasl_names settings = with_offered settings [] offer_order

-- whether this name asks for a mechanism, which is offered
abbrev pub is_asked_by : ServerSettings → List ℕ → Mechanism → Bool
is_asked_by settings name mechanism = is_offered_by settings mechanism && pointwise nat_eq name (mechanism_symbol mechanism)

-- the mechanism that a name asks for, of these and of all, if it is offered
abbrev pub asked_among : ServerSettings → List ℕ → List Mechanism → Option Mechanism
asked_among settings name [] = None
asked_among settings name (mechanism ∷ others) =
    if is_asked_by settings name mechanism then Some mechanism else asked_among settings name others

abbrev pub asked_mechanism : ServerSettings → List ℕ → Option Mechanism
asked_mechanism settings name = asked_among settings name offer_order

-- what SCRAM accepts in a client's messages: with -PLUS the channel of the connection, and otherwise none; and `y,,` only
-- where no mechanism with -PLUS is offered (RFC 5802, section 6). Beside one with -PLUS it rejects what is no extension, so
-- that nobody moves from one message to another what a client says of its channel
abbrev pub rules_by : Bool → ServerRules → ServerRules
rules_by true rules = rules
rules_by false rules = record rules {
  accept_cbind_flag_y = rules.accept_cbind_flag_y && not (is_some rules.channels);
  reject_misplaced = rules.reject_misplaced || is_some rules.channels;
  channels = None;
}

-- SCRAM by this hash, with -PLUS or without it, answers a client-first message by this
abbrev pub provider_by : ServerSettings → ScramVersion → Bool → Provider
provider_by settings version plus = mocking (option_map (mock_for version) settings.mock)
    (serving (rules_by plus settings.rules) (provider_for version settings.records))

-- and PLAIN a message by this
abbrev pub plain_by_settings : ServerSettings → PlainRules
plain_by_settings settings = record {
  provider = provider_for settings.plain_version settings.records;
  count = count_of_unknown settings.plain_count settings.mock;
  passwords = settings.plain_passwords;
  accept_authzid = settings.rules.accept_authzid;
  rights = settings.rights;
}

-- ---- how far a login has come

-- who has logged in: by this mechanism, as this user (nobody by ANONYMOUS), for this identity, or for itself
pub record ServerLogin : Type 0 where
  pub mechanism : Mechanism
  pub user : Option (List ℕ)
  pub acts_for : Option (List ℕ)

-- no init is accepted; an init of this mechanism, with this nonce, was asked for its initial response; an exchange of SCRAM
-- is open; the signature of an accepted exchange was sent in a challenge; or a user has logged in
pub data ServerStage : Type 0 where
  NotStarted : ServerStage
  ResponseAsked : (mechanism : Mechanism) → (nonce : List ℕ) → ServerStage
  ExchangeOpen : (version : ScramVersion) → (plus : Bool) → (exchange : OpenExchange) → ServerStage
  SignatureShown : (login : ServerLogin) → ServerStage
  UserAuthenticated : (login : ServerLogin) → ServerStage

-- a server: its settings, how far the login has come, and what the last init claimed
pub record ServerAt : Type 0 where
  pub settings : ServerSettings
  pub stage : ServerStage
  pub last : Option Attempt

-- who has logged in, if somebody has
abbrev pub logged_in_at : ServerStage → Option ServerLogin
logged_in_at (UserAuthenticated login) = Some login
logged_in_at stage = None

abbrev pub user_of_login : Option ServerLogin → Option (List ℕ)
user_of_login None = None
user_of_login (Some login) = login.user

abbrev pub acting_of_login : Option ServerLogin → Option (List ℕ)
acting_of_login None = None
acting_of_login (Some login) = login.acts_for

-- the user, and the identity that it acts for
abbrev pub sasl_user : ServerAt → Option (List ℕ)
sasl_user server = user_of_login (logged_in_at server.stage)

abbrev pub sasl_acting : ServerAt → Option (List ℕ)
sasl_acting server = acting_of_login (logged_in_at server.stage)

-- ---- what a server answers

-- a frame is rejected, and the stage is then this one
abbrev pub StageRejects : ServerStage → SaslFrame → ServerStage → Type 0
StageRejects kept reply next = (reply ≡ ends_with outcomes.Auth) × (next ≡ kept)

-- the frame logs somebody in
abbrev pub StageAccepts : ServerLogin → SaslFrame → ServerStage → Type 0
StageAccepts login reply next = (reply ≡ ends_with outcomes.Ok) × (next ≡ UserAuthenticated login)

-- a client-first message with this answer opens an exchange (RFC 5802, section 5), in the place of what was before; or it
-- is rejected
abbrev pub OpensScram : ScramVersion → Bool → ServerStage → Result (Option (List ℕ × OpenExchange)) ServerScramErrorKind
    → SaslFrame → ServerStage → Type 0
OpensScram version plus kept (Ok (Some opened)) reply next =
    (reply ≡ frames.Challenge opened.0) × (next ≡ ExchangeOpen version plus opened.1)
OpensScram version plus kept answer reply next = StageRejects kept reply next

-- an init of SCRAM with this client-first message
abbrev pub ScramInitAnswers : ServerSettings → ScramVersion → Bool → ServerStage → List ℕ → List ℕ → SaslFrame
    → ServerStage → Type 0
ScramInitAnswers settings version plus kept nonce text reply next =
    (answer : Result (Option (List ℕ × OpenExchange)) ServerScramErrorKind)
    × BeginsExchange (provider_by settings version plus) nonce text answer
    × OpensScram version plus kept answer reply next

-- a message of PLAIN logs its user in (RFC 4616, section 2): it is one of these parts, which is accepted for a test; it has
-- the user's password; and the user may act for the identity that it asks for
abbrev pub MessageLetsIn : ServerSettings → List ℕ → PlainParts → Type 0
MessageLetsIn settings text parts = PlainLogsIn (plain_by_settings settings) text parts

-- an init of PLAIN with this message
abbrev pub PlainInitAnswers : ServerSettings → ServerStage → List ℕ → SaslFrame → ServerStage → Type 0
PlainInitAnswers settings kept text reply next =
    ((parts : PlainParts) × MessageLetsIn settings text parts × StageAccepts
    (record { mechanism = mechanisms.Plain; user = Some parts.user; acts_for = asked_identity parts }) reply next)
    ⊎ (((parts : PlainParts) → ¬ MessageLetsIn settings text parts) × StageRejects kept reply next)

-- an init of EXTERNAL (RFC 4422, appendix A)
abbrev pub ExternalInitAnswers : ServerSettings → ServerStage → Option (List ℕ) → SaslFrame → ServerStage → Type 0
ExternalInitAnswers settings kept response reply next =
    (AsksFor settings.external response × StageAccepts
    (record { mechanism = mechanisms.External; user = Some settings.external; acts_for = None }) reply next)
    ⊎ (¬ AsksFor settings.external response × StageRejects kept reply next)

-- an init without an initial response, of a mechanism that needs one: it is asked for it by an empty challenge (RFC 4422,
-- section 5), if the server does so, and otherwise rejected
abbrev pub AsksForResponse : Bool → Mechanism → ServerStage → List ℕ → SaslFrame → ServerStage → Type 0
AsksForResponse true mechanism kept nonce reply next = (reply ≡ frames.Challenge []) × (next ≡ ResponseAsked mechanism nonce)
AsksForResponse false mechanism kept nonce reply next = StageRejects kept reply next

-- an init of this mechanism, which is offered, with this initial response
abbrev pub InitAnswers : ServerSettings → Mechanism → ServerStage → List ℕ → Option (List ℕ) → SaslFrame → ServerStage → Type 0
InitAnswers settings mechanisms.Anonymous kept nonce response reply next =
    StageAccepts (record { mechanism = mechanisms.Anonymous; user = None; acts_for = None }) reply next
InitAnswers settings mechanisms.External kept nonce response reply next =
    ExternalInitAnswers settings kept response reply next
InitAnswers settings mechanisms.Plain kept nonce None reply next =
    AsksForResponse settings.extra.initial_response mechanisms.Plain kept nonce reply next
InitAnswers settings mechanisms.Plain kept nonce (Some text) reply next = PlainInitAnswers settings kept text reply next
InitAnswers settings (mechanisms.Scram version plus) kept nonce None reply next =
    AsksForResponse settings.extra.initial_response (mechanisms.Scram version plus) kept nonce reply next
InitAnswers settings (mechanisms.Scram version plus) kept nonce (Some text) reply next =
    ScramInitAnswers settings version plus kept nonce text reply next

-- whether a server waits for the response that completes an init
abbrev pub is_response_asked : ServerStage → Bool
is_response_asked (ResponseAsked mechanism nonce) = true
is_response_asked stage = false

-- an init: it is rejected where the server waits for a response, and otherwise answered by the mechanism that it asks for
abbrev pub InitWhere : Bool → ServerSettings → ServerStage → List ℕ → List ℕ → Option (List ℕ) → SaslFrame → ServerStage
    → Type 0
InitWhere true settings stage nonce name response reply next = StageRejects NotStarted reply next
InitWhere false settings stage nonce name response reply next = MatchOption (asked_mechanism settings name)
    (StageRejects stage reply next) (λ mechanism. InitAnswers settings mechanism stage nonce response reply next)

-- who an accepted exchange logs in
abbrev pub exchange_login : ScramVersion → Bool → OpenExchange → ServerLogin
exchange_login version plus exchange = record {
  mechanism = mechanisms.Scram version plus;
  user = Some exchange.challenge.user;
  acts_for = exchange.challenge.header.acts_for;
}

-- the signature is sent in a challenge before the outcome (RFC 4422, section 5), if the server does so, or with it (RFC
-- 5802, section 5)
abbrev pub SendsSignature : Bool → ServerLogin → List ℕ → SaslFrame → ServerStage → Type 0
SendsSignature true login message reply next = (reply ≡ frames.Challenge message) × (next ≡ SignatureShown login)
SendsSignature false login message reply next =
    (reply ≡ frames.Outcome outcomes.Ok (Some message)) × (next ≡ UserAuthenticated login)

-- a client-final message with this answer logs the user of the exchange in, or is rejected
abbrev pub ClosesExchange : Bool → ScramVersion → Bool → OpenExchange → Result (List ℕ) ServerScramErrorKind → SaslFrame
    → ServerStage → Type 0
ClosesExchange signs version plus exchange (Ok message) reply next =
    SendsSignature signs (exchange_login version plus exchange) message reply next
ClosesExchange signs version plus exchange (Err fault) reply next =
    StageRejects (ExchangeOpen version plus exchange) reply next

-- what a server knows when it reads the client-final message of an exchange
abbrev pub exchange_server : ServerSettings → ScramVersion → Bool → OpenExchange → Server
exchange_server settings version plus exchange = server_against version (rules_by plus settings.rules) settings.rights
    exchange.challenge exchange.stored

-- a response to a signature that was sent in a challenge: the empty one confirms it (RFC 4422, section 5)
abbrev pub ConfirmsSignature : ServerLogin → List ℕ → SaslFrame → ServerStage → Type 0
ConfirmsSignature login [] reply next = StageAccepts login reply next
ConfirmsSignature login (byte ∷ text) reply next = StageRejects NotStarted reply next

-- a response: it completes the init that was asked for it, with the nonce of that init; is the client-final message of the
-- open exchange (RFC 5802, section 5); or confirms a signature
abbrev pub ResponseAnswers : ServerSettings → ServerStage → List ℕ → SaslFrame → ServerStage → Type 0
ResponseAnswers settings (ResponseAsked mechanism nonce) text reply next =
    InitAnswers settings mechanism NotStarted nonce (Some text) reply next
ResponseAnswers settings (ExchangeOpen version plus exchange) text reply next =
    (answer : Result (List ℕ) ServerScramErrorKind)
    × AnswersClientFinal (exchange_server settings version plus exchange) text answer
    × ClosesExchange settings.extra.signature version plus exchange answer reply next
ResponseAnswers settings (SignatureShown login) text reply next = ConfirmsSignature login text reply next
ResponseAnswers settings stage text reply next = StageRejects stage reply next

-- the reply to a frame, and the stage after it
abbrev pub StageAnswers : ServerSettings → ServerStage → List ℕ → SaslFrame → SaslFrame → ServerStage → Type 0
StageAnswers settings stage nonce (frames.Init name response hostname) reply next =
    InitWhere (is_response_asked stage) settings stage nonce name response reply next
StageAnswers settings stage nonce (frames.Response text) reply next = ResponseAnswers settings stage text reply next
StageAnswers settings stage nonce frame reply next = ⊥

-- the machine of a server: no frame changes its settings, and each init replaces the last claim
abbrev pub sasl_machine : ServerAt → List ℕ → SaslFrame → SaslFrame → ServerAt → Type 0
sasl_machine server nonce frame reply next = (next.settings ≡ server.settings)
    × StageAnswers server.settings server.stage nonce frame reply next.stage
    × RecordsFrame frame server.last next.last

-- ---- why a frame is rejected

-- an init of this mechanism, which is offered
abbrev pub InitRejects : ServerSettings → Mechanism → Option (List ℕ) → Rejection → Type 0
InitRejects settings mechanisms.Anonymous response reason = ⊥
InitRejects settings mechanisms.External response reason = reason ≡ reasons.OtherIdentity
InitRejects settings mechanisms.Plain None reason = reason ≡ reasons.NoInitialResponse
InitRejects settings mechanisms.Plain (Some text) reason = MessageRejected (plain_by_settings settings) text reason
InitRejects settings (mechanisms.Scram version plus) None reason = reason ≡ reasons.NoInitialResponse
InitRejects settings (mechanisms.Scram version plus) (Some text) reason =
    FirstRejected (known_for settings.records version).all (provider_by settings version plus) text reason

-- an init
abbrev pub InitWhereRejects : Bool → ServerSettings → List ℕ → Option (List ℕ) → Rejection → Type 0
InitWhereRejects true settings name response reason = reason ≡ reasons.UnexpectedInit
InitWhereRejects false settings name response reason = MatchOption (asked_mechanism settings name)
    (reason ≡ reasons.MechanismNotOffered) (λ mechanism. InitRejects settings mechanism response reason)

-- the client-final message of an exchange
abbrev pub FinalRejects : ServerSettings → ScramVersion → Bool → OpenExchange → List ℕ → Rejection → Type 0
FinalRejects settings version plus exchange = FinalRejected (known_for settings.records version)
    (with_rights settings.rights (provider_by settings version plus))
    (ServerFirstSent exchange.challenge exchange.stored)

-- a response
abbrev pub ResponseRejects : ServerSettings → ServerStage → List ℕ → Rejection → Type 0
ResponseRejects settings (ResponseAsked mechanism nonce) text reason = InitRejects settings mechanism (Some text) reason
ResponseRejects settings (ExchangeOpen version plus exchange) text reason =
    FinalRejects settings version plus exchange text reason
ResponseRejects settings stage text reason = reason ≡ reasons.UnexpectedResponse

-- a frame
abbrev pub sasl_reasons : ServerAt → SaslFrame → Rejection → Type 0
sasl_reasons server (frames.Init name response hostname) reason =
    InitWhereRejects (is_response_asked server.stage) server.settings name response reason
sasl_reasons server (frames.Response text) reason = ResponseRejects server.settings server.stage text reason
sasl_reasons server frame reason = ⊥

-- ---- where a server requests memory

-- an init of this mechanism: SCRAM for an escaped name or a challenge, PLAIN to prepare a password and to keep the names of
-- a login, EXTERNAL to keep its name
abbrev pub InitAllocates : ServerSettings → Mechanism → Option (List ℕ) → Type 0
InitAllocates settings mechanisms.External response = AsksFor settings.external response
InitAllocates settings mechanisms.Plain (Some text) =
    PreparesPassword (plain_by_settings settings) text ⊎ ((parts : PlainParts) × MessageLetsIn settings text parts)
InitAllocates settings (mechanisms.Scram version plus) (Some text) = ReachesChallenge (provider_by settings version plus) text
InitAllocates settings mechanism response = ⊥

-- a response
abbrev pub ResponseAllocates : ServerSettings → ServerStage → List ℕ → Type 0
ResponseAllocates settings (ResponseAsked mechanism nonce) text = InitAllocates settings mechanism (Some text)
ResponseAllocates settings (ExchangeOpen version plus exchange) text = ReachesBase64
    (expected_header (rules_by plus settings.rules).channels exchange.challenge.header) exchange.challenge.nonce text
ResponseAllocates settings stage text = ⊥

-- a frame: every init, whose claim is kept; and a response for the user that it claims, and for its answer
abbrev pub sasl_allocates : ServerAt → SaslFrame → Type 0
sasl_allocates server (frames.Response text) =
    LateAllocates server.last (frames.Response text) ⊎ ResponseAllocates server.settings server.stage text
sasl_allocates server frame = IsInitFrame frame

-- ---- how many HMAC values an answer takes (RFC 5802, section 3)

-- an init of this mechanism: as many as that of one of SCRAM or PLAIN by itself
abbrev pub init_hmacs : ServerSettings → Mechanism → Option (List ℕ) → ℕ → Type 0
init_hmacs settings (mechanisms.Scram version plus) (Some text) n = let provider = provider_by settings version plus in
    acceptor_hmacs (ScramAcceptor provider Initial)
    (frames.Init (server_mechanism provider.version provider.rules) (Some text) None) n
init_hmacs settings mechanisms.Plain (Some text) n = plain_hmacs (plain_by_settings settings) text n
init_hmacs settings mechanism response n = n ≡ 0

abbrev pub init_where_hmacs : Bool → ServerSettings → List ℕ → Option (List ℕ) → ℕ → Type 0
init_where_hmacs true settings name response n = n ≡ 0
init_where_hmacs false settings name response n =
    MatchOption (asked_mechanism settings name) (n ≡ 0) (λ mechanism. init_hmacs settings mechanism response n)

-- a response
abbrev pub response_hmacs : ServerSettings → ServerStage → List ℕ → ℕ → Type 0
response_hmacs settings (ResponseAsked mechanism nonce) text n = init_hmacs settings mechanism (Some text) n
response_hmacs settings (ExchangeOpen version plus exchange) text n = acceptor_hmacs
    (ScramAcceptor (with_rights settings.rights (provider_by settings version plus))
    (ServerFirstSent exchange.challenge exchange.stored)) (frames.Response text) n
response_hmacs settings stage text n = n ≡ 0

-- a frame
abbrev pub sasl_hmacs : ServerAt → SaslFrame → ℕ → Type 0
sasl_hmacs server (frames.Init name response hostname) n =
    init_where_hmacs (is_response_asked server.stage) server.settings name response n
sasl_hmacs server (frames.Response text) n = response_hmacs server.settings server.stage text n
sasl_hmacs server frame n = n ≡ 0

-- ---- the code's values

-- who has logged in
abbrev pub server_login : LoginOf → ServerLogin
server_login login = record {
  mechanism = login.mechanism;
  user = option_map string_bytes login.user;
  acts_for = option_map string_bytes login.acts_for;
}

-- how far the login of a value has come
abbrev pub stage_of : Stage → ServerStage
stage_of stages.Start = NotStarted
stage_of (stages.Asked mechanism nonce) = ResponseAsked mechanism nonce
stage_of (stages.Open version plus exchange) = ExchangeOpen version plus exchange
stage_of (stages.Signed login) = SignatureShown (server_login login)
stage_of (stages.Authenticated login) = UserAuthenticated (server_login login)

-- the settings of a server with these records and options at this connection
abbrev pub settings_with : MultiRecords → ServerOptions → Transport → ServerSettings
settings_with records options transport = record {
  records = records;
  mechanisms = options.mechanisms;
  rules = record {
    accept_cbind_flag_y = options.accept_cbind_flag_y;
    strict = options.strict;
    reject_misplaced = options.reject_misplaced;
    channels = transport.channels;
    accept_authzid = options.accept_authzid;
  };
  rights = options.rights;
  mock = options.mock;
  plain_version = options.plain_version;
  plain_count = options.plain_iterations;
  plain_passwords = options.plain_passwords;
  extra = options.extra_challenges;
  is_tls = transport.is_tls;
  external = transport.external.now;
}

-- those of a value
abbrev pub settings_in : Code → ServerSettings
settings_in server = settings_with server.records.now server.options.now server.transport

-- the server that a value is
abbrev pub sasl_server : Code → ServerAt
sasl_server server = record {
  settings = settings_in server;
  stage = stage_of server.stage;
  last = option_map attempt_of server.attempt;
}

-- the reason that a value keeps of its last reply, which is no part of its state
abbrev pub rejection_of_server : Code → Option Rejection
rejection_of_server server = server.rejection

-- the reason of the last reply, before and after the answer to this frame: where the reply is the outcome Auth it is one of
-- the frame's, otherwise there is none, and an error leaves it
abbrev pub KeepsReason : ServerAt → SaslFrame → Option Rejection → Option Rejection → Result ServerReply Error → Type 0
KeepsReason server frame before after (Ok says) = (reply : SaslFrame) × (body : List ℕ) × (canonical reply ≡ Some body)
    × (server_reply says ≡ server_says reply body)
    × MatchOption after (reply ≢ ends_with outcomes.Auth)
    (λ reason. (reply ≡ ends_with outcomes.Auth) × sasl_reasons server frame reason)
KeepsReason server frame before after (Err fault) = after ≡ before

-- and of the answer to a body that spells this
abbrev pub KeepsReasonOf : ServerAt → Result SaslFrame Error → Option Rejection → Option Rejection
    → Result ServerReply Error → Type 0
KeepsReasonOf server (Ok frame) before after result = KeepsReason server frame before after result
KeepsReasonOf server (Err fault) before after result = after ≡ before

abbrev pub StepKeepsReason : ServerAt → List ℕ → Option Rejection → Option Rejection → Result ServerReply Error → Type 0
StepKeepsReason server body before after result = (spelled : Result SaslFrame Error) × SpellsBody body spelled
    × KeepsReasonOf server spelled before after result
