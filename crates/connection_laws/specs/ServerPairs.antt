-- What the bytes of a SCRAM client's connection and those of a server of all mechanisms say of both (RFC 5802, sections 3, 5
-- and 6). Each law is the contract of a clause in `server_pairs`.
use Rattle.std.specs.Prelude.{◌≡◌, ◌≢◌, ◌⊎◌, ℕ, Bool, true, Option, Some, List, ◌∷◌, Ok, T, slice_get}
use Rattle.fe2o3_sasl_wire.specs.SaslFrames as frames
use Rattle.fe2o3_scram.specs.BoundChannels.{BindOne}
use Rattle.fe2o3_scram.specs.ChannelBinding.{cbind_data, expected_header, header_of, is_strict}
use Rattle.fe2o3_scram.specs.ClientFinal.{ReadsClientFinal}
use Rattle.fe2o3_scram.specs.ClientFirst.{ReadsClientFirst}
use Rattle.fe2o3_scram.specs.Credentials.{Provider, with_rights}
use Rattle.fe2o3_scram.specs.Mixed.{MultiRecords}
use Rattle.fe2o3_scram.specs.Texts.{Part, base64_text}
use Rattle.fe2o3_scram.specs.declared.channel_binding.ChannelBindings.{ChannelBindings}
use Rattle.fe2o3_scram.specs.declared.hmac.ScramVersion.{ScramVersion}
use Rattle.fe2o3_scram.specs.declared.scram_messages.client_channel.ClientChannel.TheVariants.{Absent}
use Rattle.fe2o3_sasl_core.specs.Bodies.{SpellsBody}
use Rattle.fe2o3_sasl_core.specs.ClientHistory.{Answering, AnswersAt}
use Rattle.fe2o3_sasl_core.specs.Events.{Answered, Given, IsLogin, IsSecret, Login, is_strict_login, login_header}
use Rattle.fe2o3_sasl_core.specs.Headline.{VerifierAgrees}
use Rattle.fe2o3_sasl_core.specs.Laws.{HoldsRecords}
use Rattle.fe2o3_sasl_core.specs.ServerHistory.{Accepted, final_message, full_nonce, server_at}
use Rattle.fe2o3_sasl_core.specs.Mechanisms.{mechanism_symbol}
use Rattle.fe2o3_sasl_core.specs.Servers.{ServerLogin, ServerSettings, ServerStage, SignatureShown, is_offered_by, logged_in_at, provider_by, rules_by, sasl_machine, settings_with}
use Rattle.fe2o3_sasl_core.specs.TwoSides.{MessagesCollide, ReportedAnswer, Sides, keys_at, proof_at, sides_of}
use Rattle.fe2o3_sasl_core.specs.Verdicts.{JudgesProof, Verdict}
use Rattle.fe2o3_scram.specs.declared.client_options.ClientOptions.{ClientOptions}
use Rattle.fe2o3_sasl_core.specs.declared.server.options.ServerOptions.{ServerOptions}
use Rattle.fe2o3_sasl_core.specs.declared.server.options.Transport.{Transport}
use Rattle.fe2o3_sasl_core.specs.declared.mechanism.Mechanism.TheVariants as mechanisms
use Rattle.fe2o3_sasl.specs.Agreement.{agree_on_all}
use Rattle.fe2o3_sasl_negotiation.specs.declared.progress.Progress.TheVariants.{Authenticated}
use Rattle.connection_laws.specs.ConnectionLogins.{AreMessages, AreResponses, new_server}
use Rattle.connection_laws.specs.Pairs.{BindOneOrCollide, ClientOf, IfAgreed, ReportsLast}
use Rattle.connection_laws.specs.Servers.{ServerBy}

-- ---- what a server accepted

-- what a server knows of users by SCRAM of this hash, with -PLUS or without it, and what it accepts of their messages
abbrev pub scram_of : ServerSettings → ScramVersion → Bool → Provider
scram_of settings version plus = with_rights settings.rights (provider_by settings version plus)

-- a server accepted this exchange of SCRAM (RFC 5802, section 5). It took an init of the mechanism, which it offers, and
-- responses. Their first message is a client-first message of a user who has this record. The challenge has the nonce of the
-- init. The second is a client-final message that passed each test; the last two tests are that the proof meets the stored
-- key, and that the user has the right to the identity
pub record AcceptsScram (settings : ServerSettings) (version : ScramVersion) (plus : Bool) (events : List Given)
    (accepted : Accepted) : Type 0 where
  pub init : Given
  pub later : List Given
  pub response : Option (List ℕ)
  pub hostname : Option (List ℕ)
  pub texts : List (List ℕ)
  pub first : List ℕ
  pub final : List ℕ
  pub rest : List (List ℕ)
  pub all : events ≡ init ∷ later
  pub begins : SpellsBody init.body (Ok (frames.Init (mechanism_symbol (mechanisms.Scram version plus)) response hostname))
  pub offered : is_offered_by settings (mechanisms.Scram version plus) ≡ true
  pub goes_on : AreResponses later texts
  pub messages : AreMessages settings.extra.initial_response response texts (first ∷ final ∷ rest)
  pub reads : ReadsClientFirst (rules_by plus settings.rules) first (Ok accepted.challenge.client)
  pub known : (provider_by settings version plus).records accepted.challenge.client.user ≡ Some accepted.challenge.stored
  pub nonce : accepted.challenge.nonce ≡ base64_text init.nonce
  pub meets : ReadsClientFinal (server_at (scram_of settings version plus) accepted.challenge) final (Ok accepted.final)

-- the login whose signature a server has sent: that of a client that has logged in, or that has yet to confirm it
abbrev pub signed_login : ServerStage → Option ServerLogin
signed_login (SignatureShown login) = Some login
signed_login stage = logged_in_at stage

-- a server that has sent a signature accepted an exchange, whose user and identity are those of the login
abbrev pub SignedLoginsAreAccepted : Type 0
SignedLoginsAreAccepted = (settings : ServerSettings) (server : ServerBy sasl_machine (new_server settings))
    (login : ServerLogin) (version : ScramVersion) (plus : Bool)
    → signed_login server.last.state.stage ≡ Some login → login.mechanism ≡ mechanisms.Scram version plus
    → (accepted : Accepted) × AcceptsScram settings version plus server.connection.events accepted
    × (login.user ≡ Some accepted.challenge.client.user) × (login.acts_for ≡ accepted.challenge.client.header.acts_for)

-- ---- what both sides mean

-- a client, and a server that answers by this mechanism
abbrev pub pair_of : {login : Login} {settings : ServerSettings} → ClientOf login
    → ServerBy sasl_machine (new_server settings) → ScramVersion → Bool → Sides
pair_of {login} {settings} client server version plus = sides_of login client.connection.events
    client.connection.replies (scram_of settings version plus) server.connection.events server.connection.replies

-- a client that has logged in did so on one text. If its first part is the server-final message of an exchange that the
-- server accepted, both agree, or their own differing AuthMessages share one HMAC value
abbrev pub ClientsAgreeWithServers : Type 0
ClientsAgreeWithServers = (login : Login) (settings : ServerSettings) (version : ScramVersion) (plus : Bool)
    (client : ClientOf login) (server : ServerBy sasl_machine (new_server settings))
    → HoldsRecords (scram_of settings version plus) → client.last.progress ≡ Authenticated
    → (m : ℕ) × (text : List ℕ) × ReportsLast client m text
    × ((accepted : Accepted) → AcceptsScram settings version plus server.connection.events accepted
    → Part text 0 (final_message (scram_of settings version plus) accepted)
    → VerifierAgrees (pair_of client server version plus) m accepted)

-- both sides mean one login in all that it has: hash, GS2 header and with it the identity, data of the channel, user, nonces
-- of both sides, salt and iteration count
pub record AgreeOnAll (login : Login) (provider : Provider) (answer : Answering) (accepted : Accepted) : Type 0 where
  pub version : (keys_at login answer).version ≡ provider.version
  pub header : header_of (login_header login) ≡ accepted.challenge.client.header
  pub channel : cbind_data login.channel
      ≡ cbind_data (expected_header provider.rules.channels accepted.challenge.client.header).channel
  pub user : login.user ≡ accepted.challenge.client.user
  pub nonce : answer.nonce ≡ accepted.challenge.client.nonce
  pub full_nonce : answer.first.nonce ≡ full_nonce accepted.challenge
  pub salt : answer.first.salt ≡ accepted.challenge.stored.salt
  pub count : answer.first.count ≡ accepted.challenge.stored.count

-- one side rejects an attribute of RFC 5802 in the place of an extension: it is set so, binds a channel, or names or accepts
-- an identity
abbrev pub OneRejectsMisplaced : Login → Provider → Type 0
OneRejectsMisplaced login provider = T (is_strict_login login) ⊎ T (is_strict provider.rules)

-- the options of both sides say so before a login: then one rejects them, with or without -PLUS, whatever the connection and
-- the records are
abbrev pub TestedOptionsReject : Type 0
TestedOptionsReject = (options : ServerOptions) (chosen : ClientOptions) → agree_on_all options chosen ≡ true
    → (records : MultiRecords) (transport : Transport) (login : Login) (version : ScramVersion) (plus : Bool)
    → login.strict ≡ chosen.strict → login.channel ≡ chosen.channel
    → OneRejectsMisplaced login (scram_of (settings_with records options transport) version plus)

-- where one side rejects them, both agree on all, or the AuthMessages collide
abbrev pub ClientsAgreeOnAll : Type 0
ClientsAgreeOnAll = (login : Login) (settings : ServerSettings) (version : ScramVersion) (plus : Bool)
    (client : ClientOf login) (server : ServerBy sasl_machine (new_server settings))
    → IsLogin login → HoldsRecords (scram_of settings version plus)
    → OneRejectsMisplaced login (scram_of settings version plus) → client.last.progress ≡ Authenticated
    → (m : ℕ) × (text : List ℕ) × ReportsLast client m text
    × ((accepted : Accepted) → AcceptsScram settings version plus server.connection.events accepted
    → Part text 0 (final_message (scram_of settings version plus) accepted)
    → (answer : Answering) × ReportedAnswer login client.connection.events client.connection.replies m answer
    × (AgreeOnAll login (scram_of settings version plus) answer accepted
    ⊎ MessagesCollide (pair_of client server version plus) answer accepted (keys_at login answer).server_key
    accepted.challenge.stored.server_key))

-- where the client has a channel, and the server has the data of its own, both bind one channel, or the AuthMessages collide:
-- by each mechanism that the server offers, with every option of both sides (RFC 5802, section 6)
abbrev pub ClientsBindChannelsOfServers : Type 0
ClientsBindChannelsOfServers = (login : Login) (settings : ServerSettings) (version : ScramVersion) (plus : Bool)
    (channels : ChannelBindings) (client : ClientOf login) (server : ServerBy sasl_machine (new_server settings))
    → IsLogin login → HoldsRecords (scram_of settings version plus) → login.channel ≢ Absent
    → settings.rules.channels ≡ Some channels → client.last.progress ≡ Authenticated
    → (m : ℕ) × (text : List ℕ) × ReportsLast client m text
    × ((accepted : Accepted) → AcceptsScram settings version plus server.connection.events accepted
    → Part text 0 (final_message (scram_of settings version plus) accepted)
    → (answer : Answering) × ReportedAnswer login client.connection.events client.connection.replies m answer
    × BindOneOrCollide (pair_of client server version plus) answer accepted)

-- ---- from the client to the server

-- the client's connection showed the proof of this exchange, in its answer at k
pub record ShowsProof {login : Login} (client : ClientOf login) (k : ℕ) (answer : Answering) (accepted : Accepted)
    : Type 0 where
  pub body : List ℕ
  pub answered : slice_get client.connection.replies k ≡ Some (Answered body)
  pub answers : AnswersAt login client.connection.events client.connection.replies k answer
  pub one : proof_at login answer ≡ accepted.final.proof

-- if the client's connection showed the proof that the server accepted, the proof has a verdict: both agree; or the client's
-- key is not the one whose digest the server stores; or their own differing keys have one digest, or their own differing
-- AuthMessages one HMAC value
abbrev pub ProofsAtServersAreJudged : Type 0
ProofsAtServersAreJudged = (login : Login) (settings : ServerSettings) (version : ScramVersion) (plus : Bool)
    (client : ClientOf login) (server : ServerBy sasl_machine (new_server settings)) (accepted : Accepted)
    → IsSecret login.secret → HoldsRecords (scram_of settings version plus)
    → AcceptsScram settings version plus server.connection.events accepted
    → (k : ℕ) (answer : Answering) → ShowsProof client k answer accepted
    → (verdict : Verdict) × JudgesProof (pair_of client server version plus) answer accepted verdict

-- where each side has a channel, and the verdict on the proof is that both agree, both bind one channel. So someone who has a
-- channel to each of them cannot log in by the client's proof
abbrev pub ProofsAtServersBindChannels : Type 0
ProofsAtServersBindChannels = (login : Login) (settings : ServerSettings) (version : ScramVersion) (plus : Bool)
    (channels : ChannelBindings) (client : ClientOf login) (server : ServerBy sasl_machine (new_server settings))
    (accepted : Accepted) → IsLogin login → IsSecret login.secret → HoldsRecords (scram_of settings version plus)
    → login.channel ≢ Absent → settings.rules.channels ≡ Some channels
    → AcceptsScram settings version plus server.connection.events accepted
    → (k : ℕ) (answer : Answering) → ShowsProof client k answer accepted
    → (verdict : Verdict) × JudgesProof (pair_of client server version plus) answer accepted verdict
    × IfAgreed (BindOne login.channel (scram_of settings version plus)) verdict
