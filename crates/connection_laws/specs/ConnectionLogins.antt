-- Whom a server of all mechanisms logs in over the bytes of a connection, by the frames that it answered (RFC 4422, sections 3
-- and 5; RFC 5802, section 5; AMQP 1.0, part 5, section 5.3.2). Each statement is the contract of a clause of
-- `server_logins::logged_in` or of `server_logins::users`.
use Rattle.std.specs.Prelude.{◌≡◌, ◌↔◌, ◌<◌, ◌^◌, ◌++◌, ℕ, Bool, true, false, Option, Some, None, List, [], ◌∷◌, Ok}
use Rattle.fe2o3_sasl_wire.specs.SaslFrames as frames
use Rattle.fe2o3_scram.specs.ActingRights.{may_act}
use Rattle.fe2o3_scram.specs.ChannelBinding.{expected_header}
use Rattle.fe2o3_scram.specs.ClientFinal.{ClientFinal, NamesClientFinal}
use Rattle.fe2o3_scram.specs.ClientFirst.{ClientFirst, ReadsClientFirst}
use Rattle.fe2o3_scram.specs.Credentials.{Record}
use Rattle.fe2o3_scram.specs.Keys.{MeetsStoredKey, auth_message}
use Rattle.fe2o3_scram.specs.ScramServer.{BeginsExchange}
use Rattle.fe2o3_scram.specs.ServerFirst.{OpenExchange, server_first_of}
use Rattle.fe2o3_scram.specs.Texts.{base64_text}
use Rattle.fe2o3_scram.specs.declared.hmac.ScramVersion.{ScramVersion}
use Rattle.fe2o3_sasl_core.specs.Bodies.{SpellsBody}
use Rattle.fe2o3_sasl_core.specs.Events.{Given}
use Rattle.fe2o3_sasl_core.specs.Mechanisms.{mechanism_symbol}
use Rattle.fe2o3_sasl_core.specs.Servers.{NotStarted, ServerAt, ServerLogin, ServerSettings, exchange_login, is_offered_by, logged_in_at, provider_by, rules_by, sasl_acting, sasl_machine, sasl_user}
use Rattle.fe2o3_sasl_core.specs.declared.mechanism.Mechanism.{Mechanism}
use Rattle.fe2o3_sasl_core.specs.declared.mechanism.Mechanism.TheVariants as mechanisms
use Rattle.fe2o3_sasl_negotiation.specs.declared.progress.Progress.TheVariants.{Authenticated}
use Rattle.fe2o3_sasl_negotiation.specs.Connections.{AreFrames, frames_of}
use Rattle.fe2o3_sasl_negotiation.specs.Framing.{sasl_header}
use Rattle.fe2o3_sasl_negotiation.specs.ServerNegotiation.{server_follows}
use Rattle.fe2o3_sasl_negotiation.specs.declared.progress.FrameKind.TheVariants as turns
use Rattle.connection_laws.specs.ServerLogins.{InitCompletes, MeetsExchange}
use Rattle.connection_laws.specs.Servers.{ServerBy}

-- ---- the frames of a login

-- the events are responses with these texts, in order
abbrev pub AreResponses : List Given → List (List ℕ) → Type 0
AreResponses [] texts = texts ≡ []
AreResponses (event ∷ events) texts = (text : List ℕ) × (others : List (List ℕ)) × (texts ≡ text ∷ others)
    × SpellsBody event.body (Ok (frames.Response text)) × AreResponses events others

-- the messages of a mechanism, by the initial response of the init and the texts of the responses after it (RFC 4422,
-- section 3): an init without an initial response is followed by it in a response, where the server asks for it
abbrev pub AreMessages : Bool → Option (List ℕ) → List (List ℕ) → List (List ℕ) → Type 0
AreMessages asks (Some first) texts messages = messages ≡ first ∷ texts
AreMessages asks None texts messages = (asks ≡ true) × (messages ≡ texts)

-- how a client answers a signature that comes in a challenge, by whether it does: by the empty response (RFC 4422, section 5)
abbrev pub confirmation : Bool → List (List ℕ)
confirmation true = [] ∷ []
confirmation false = []

-- the messages of a login by SCRAM (RFC 5802, section 5): a client-first message, which opened an exchange with this nonce; a
-- client-final message, which meets that exchange; and nothing more but the confirmation. The login is that of the exchange
pub record ScramMessages (settings : ServerSettings) (version : ScramVersion) (plus : Bool) (nonce : List ℕ)
    (messages : List (List ℕ)) (login : ServerLogin) : Type 0 where
  pub first : List ℕ
  pub final : List ℕ
  pub opened : List ℕ × OpenExchange
  pub all : messages ≡ first ∷ final ∷ confirmation settings.extra.signature
  pub begins : BeginsExchange (provider_by settings version plus) nonce first (Ok (Some opened))
  pub meets : MeetsExchange settings version plus opened.1 final
  pub made : login ≡ exchange_login version plus opened.1

-- an init of this mechanism, whose challenge has this nonce, and responses with these texts complete this login. ANONYMOUS and
-- EXTERNAL have one message, which may be left out, PLAIN has one, and SCRAM has two (`InitCompletes` says which messages the
-- three accept)
abbrev pub MessagesLogIn : ServerSettings → Mechanism → List ℕ → Option (List ℕ) → List (List ℕ) → ServerLogin → Type 0
MessagesLogIn settings mechanisms.Anonymous nonce response texts login =
    (texts ≡ []) × InitCompletes settings mechanisms.Anonymous response login
MessagesLogIn settings mechanisms.External nonce response texts login =
    (texts ≡ []) × InitCompletes settings mechanisms.External response login
MessagesLogIn settings mechanisms.Plain nonce response texts login = (text : List ℕ)
    × AreMessages settings.extra.initial_response response texts (text ∷ [])
    × InitCompletes settings mechanisms.Plain (Some text) login
MessagesLogIn settings (mechanisms.Scram version plus) nonce response texts login = (messages : List (List ℕ))
    × AreMessages settings.extra.initial_response response texts messages
    × ScramMessages settings version plus nonce messages login

-- these are all frames of a client that complete this login: an init of a mechanism that the server offers, and responses. The
-- nonce of the init is that of its call
pub record CompletesLogin (settings : ServerSettings) (events : List Given) (login : ServerLogin) : Type 0 where
  pub init : Given
  pub later : List Given
  pub mechanism : Mechanism
  pub response : Option (List ℕ)
  pub hostname : Option (List ℕ)
  pub texts : List (List ℕ)
  pub all : events ≡ init ∷ later
  pub begins : SpellsBody init.body (Ok (frames.Init (mechanism_symbol mechanism) response hostname))
  pub offered : is_offered_by settings mechanism ≡ true
  pub goes_on : AreResponses later texts
  pub completes : MessagesLogIn settings mechanism init.nonce response texts login

-- ---- who has logged in

-- a server before its first frame
abbrev pub new_server : ServerSettings → ServerAt
new_server settings = record { settings = settings; stage = NotStarted; last = None }

-- a new server has logged a client in exactly if the frames that it answered complete a login
abbrev pub ServersAuthenticateExactly : Type 0
ServersAuthenticateExactly = (settings : ServerSettings) (server : ServerBy sasl_machine (new_server settings))
    → (server.last.progress ≡ Authenticated) ↔ ((login : ServerLogin) × CompletesLogin settings server.connection.events login)

-- and the login that it has, if it has one, is the one that they complete
abbrev pub ServersHaveLoginExactly : Type 0
ServersHaveLoginExactly = (settings : ServerSettings) (server : ServerBy sasl_machine (new_server settings))
    (login : ServerLogin)
    → (logged_in_at server.last.state.stage ≡ Some login) ↔ CompletesLogin settings server.connection.events login

-- by the bytes alone: a server has this login exactly if the bytes that it has taken are the header of SASL and the frames of
-- that login, each of an allowed size and in its turn, with the nonce of the piece in which its last byte arrived (`AreFrames`).
-- So it has taken no byte after the login. The size of a frame has 32 bits (AMQP 1.0, part 2, section 2.3.1)
abbrev pub ServersLogInOnBytes : Type 0
ServersLogInOnBytes = (settings : ServerSettings) (server : ServerBy sasl_machine (new_server settings))
    (login : ServerLogin) → server.limit < 2 ^ 32
    → (logged_in_at server.last.state.stage ≡ Some login) ↔ ((events : List Given)
    × (server.taken ≡ sasl_header ++ frames_of events)
    × AreFrames server.pieces server.limit 8 server_follows turns.Init events × CompletesLogin settings events login)

-- ---- for whom

-- a user who acts for an identity at a server has the right to it (RFC 4422, section 2)
abbrev pub ActingUsersHaveRights : Type 0
ActingUsersHaveRights = (settings : ServerSettings) (server : ServerBy sasl_machine (new_server settings))
    (identity : List ℕ) → sasl_acting server.last.state ≡ Some identity
    → (user : List ℕ) × (sasl_user server.last.state ≡ Some user) × (may_act settings.rights user (Some identity) ≡ true)

-- a login by SCRAM, by what its two messages say (RFC 5802, sections 3, 5 and 7): the user of the client-first message has a
-- record; the client-final message names the nonce of both sides and the channel, and its proof meets the stored key of that
-- record; the login is that user's, for the identity of the client-first message, which the user has the right to
pub record ScramUser (settings : ServerSettings) (version : ScramVersion) (plus : Bool) (nonce first final : List ℕ)
    (login : ServerLogin) : Type 0 where
  pub client : ClientFirst
  pub stored : Record
  pub sent : ClientFinal
  pub reads : ReadsClientFirst (rules_by plus settings.rules) first (Ok client)
  pub known : (provider_by settings version plus).records client.user ≡ Some stored
  pub names : NamesClientFinal (expected_header (rules_by plus settings.rules).channels client.header)
      (client.nonce ++ base64_text nonce) final sent
  pub meets : MeetsStoredKey version stored.stored_key sent.proof
      (auth_message client.bare (server_first_of (client.nonce ++ base64_text nonce) stored) sent.without)
  pub right : may_act settings.rights client.user client.header.acts_for ≡ true
  pub user : login.user ≡ Some client.user
  pub acts_for : login.acts_for ≡ client.header.acts_for

-- the frames have the messages of such a login
pub record HasScramUser (settings : ServerSettings) (version : ScramVersion) (plus : Bool) (events : List Given)
    (login : ServerLogin) : Type 0 where
  pub logs : CompletesLogin settings events login
  pub first : List ℕ
  pub final : List ℕ
  pub messages : AreMessages settings.extra.initial_response logs.response logs.texts
      (first ∷ final ∷ confirmation settings.extra.signature)
  pub says : ScramUser settings version plus logs.init.nonce first final login

-- a server that has logged a client in by SCRAM
abbrev pub ScramUsersMeetRecords : Type 0
ScramUsersMeetRecords = (settings : ServerSettings) (server : ServerBy sasl_machine (new_server settings))
    (login : ServerLogin) (version : ScramVersion) (plus : Bool) → logged_in_at server.last.state.stage ≡ Some login
    → login.mechanism ≡ mechanisms.Scram version plus → HasScramUser settings version plus server.connection.events login
