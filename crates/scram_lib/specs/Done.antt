-- What a command of the program `scram` has done if it ends with status 0.
use Rattle.std.specs.Prelude.{ℕ, List, [], ◌∷◌, ◌++◌, ◌||◌, Bool, true, false, Option, Some, Result, Ok, ◌≡◌, ◌≤◌, ◌↔◌, IsSome, box_value, is_some, map, option_map, string_bytes}
use Rattle.std.specs.List.{Contains}
use Rattle.fe2o3_scram.specs.declared.hmac.ScramVersion.{ScramVersion}
use Rattle.fe2o3_scram.specs.declared.hmac.ScramVersion.TheVariants.{Sha1, Sha256, Sha512}
use Rattle.fe2o3_scram.specs.declared.scram_messages.server_rules.ServerRules.{ServerRules}
use Rattle.fe2o3_scram.specs.declared.scram_server.ScramAuthenticator.{ScramAuthenticator}
use Rattle.fe2o3_scram.specs.ChannelBinding.{mechanism_of}
use Rattle.fe2o3_scram.specs.Credentials.{Provider, Store}
use Rattle.fe2o3_scram.specs.Mixed.{MultiRecords, provider_for}
use Rattle.fe2o3_scram.specs.MultiRecordLines.{SpellsMixed}
use Rattle.fe2o3_scram.specs.ScramClient.{AnswersIn, ClientInitial, ClientSide, VerifiesIn, identity_named, started}
use Rattle.fe2o3_scram.specs.ScramServer.{ChallengesFrom, ConcludesFrom, Initial, ServerState, mock_in, provider_in, rights_in, rules_in, served_by, state_in}
use Rattle.fe2o3_sasl_core.specs.LoginAttempts.{ClaimOf}
use Rattle.fe2o3_sasl_negotiation.specs.Sides.{ServerConnectionSide, client_side, server_side}
use Rattle.fe2o3_sasl_negotiation.specs.declared.progress.Progress.TheVariants.{Authenticated, InProgress}
use Rattle.scram_base_lib.specs.Channel.{BindsOnly, SaysChannel}
use Rattle.scram_lib.specs.declared.client.Login.{Login}
use Rattle.scram_lib.specs.declared.done.Done.{Done}
use Rattle.scram_lib.specs.declared.done.Done.TheVariants as dones
use Rattle.scram_lib.specs.declared.server.Service.{Service}
use Rattle.scram_lib.specs.declared.task.Task.{Task}
use Rattle.scram_lib.specs.declared.task.Task.TheVariants as tasks
use Rattle.scram_base_lib.specs.declared.backend.Named.{Named}
use Rattle.scram_lib.specs.Acting.{AreRightsOf, words_of}
use Rattle.scram_lib.specs.OwnLines.{AreLinesFor}
use Rattle.scram_lib.specs.private.Passwords.{TellsEach}

-- a client that these arguments ask for, which has sent nothing: of the user, who acts for the identity, by the mechanism,
-- with the channel, strict if that is asked for, and with these bounds of the iteration count. It accepts the server's
-- signature in the outcome only
pub record IsClientAsked (login : Login) (client : ClientSide) : Type 0 where
  pub user : client.user ≡ login.user.now
  pub version : client.version ≡ login.version
  pub channel : SaysChannel (option_map (λ word. word.now) login.channel) login.channel_not_offered client.channel
  pub identity : client.acts_for ≡ identity_named (option_map (λ name. name.now) login.acts_for)
  pub strict : client.strict ≡ login.strict
  pub least : client.limits.min_iterations ≡ login.min_iterations
  pub most : client.limits.max_iterations ≡ login.max_iterations
  pub usable : login.min_iterations ≤ login.max_iterations
  pub signed : client.signature_by_challenge ≡ false
  pub state : client.state ≡ ClientInitial

-- a client has sent its first message, has answered a server-first message, and has verified a server-final message (RFC
-- 5802, section 5)
pub record HasVerified (client next : ClientSide) : Type 0 where
  pub nonce : List ℕ
  pub first : List ℕ
  pub answer : List ℕ
  pub answered : ClientSide
  pub final : List ℕ
  pub answers : AnswersIn (started client nonce).state (started client nonce) first (Ok answer) answered
  pub verifies : VerifiesIn answered.state answered final (Ok tt) next

-- the users of these lines for a version (RFC 5803, section 2)
abbrev pub AreUsers : ScramVersion → List ℕ → Store → Type 0
AreUsers version lines users = (all : MultiRecords) × SpellsMixed lines all × (users ≡ provider_for version all)

-- what a server accepts by these arguments: its channel and its options
pub record AreRulesOf (service : Service) (rules : ServerRules) : Type 0 where
  pub channels : BindsOnly (option_map (λ word. word.now) service.channel) rules.channels
  pub accept_y : rules.accept_cbind_flag_y ≡ service.accept_y
  pub strict : rules.strict ≡ service.strict
  pub misplaced : rules.reject_misplaced ≡ (service.reject_misplaced || is_some service.channel)
  pub accept_authzid : rules.accept_authzid ≡ service.accept_authzid

-- the rules and the secret of mock records that these arguments ask for: there is a secret unless unknown users get an error
abbrev pub AreSettingsOf : Service → ServerRules → Option (List ℕ) → Type 0
AreSettingsOf service rules secret = AreRulesOf service rules × (IsSome secret ↔ (service.tells_unknown_users ≡ false))

-- a server that these arguments ask for, which has sent nothing: of the lines of the user of a claimed name, in the text of a
-- file or of a database, and of no others; with the rights of that user; and with mock records by this secret, if any
pub record IsServerFor (service : Service) (held claimed secret : Option (List ℕ)) (server : ScramAuthenticator Store)
    : Type 0 where
  pub own : List ℕ
  pub lines : AreLinesFor service.saslprep held claimed own
  pub users : AreUsers service.version own (provider_in server)
  pub settings : AreSettingsOf service (rules_in server) secret
  pub rights : AreRightsOf service.saslprep (option_map (λ words. map (λ word. word.now) words.now) service.may_act) claimed
      (rights_in server)
  pub mock : option_map (λ mock. mock.secret) (mock_in server) ≡ secret
  pub state : state_in server ≡ Initial

-- a server that these arguments ask for, of some text and with some secret
abbrev pub IsServerAsked : Service → Option (List ℕ) → ScramAuthenticator Store → Type 0
IsServerAsked service claimed server = (held : Option (List ℕ)) × (secret : Option (List ℕ))
    × IsServerFor service held claimed secret server

-- the provider that a server of these users answers by
abbrev pub provider_of : ScramAuthenticator Store → Provider
provider_of server = served_by (λ users. users) server

-- a server in another state
abbrev pub IsSameServer : ScramAuthenticator Store → ScramAuthenticator Store → Type 0
IsSameServer server next = (provider_in next ≡ provider_in server) × (rules_in next ≡ rules_in server)
    × (mock_in next ≡ mock_in server) × (rights_in next ≡ rights_in server)

-- an answer with a message
abbrev pub IsMessage : {X F : Type 0} → Result (Option X) F → Type 0
IsMessage (Ok (Some message)) = Unit {0}
IsMessage answer = ⊥

-- a server has answered this client-first message with a challenge, and has accepted the proof of a client-final message (RFC
-- 5802, section 5)
pub record HasAccepted (first : List ℕ) (server next : ScramAuthenticator Store) : Type 0 where
  pub nonce : List ℕ
  pub challenge : List ℕ
  pub opened : ServerState
  pub final : List ℕ
  pub signature : List ℕ
  pub challenges : ChallengesFrom (state_in server) (provider_of server) nonce first (Ok (Some challenge)) opened
  pub concludes : ConcludesFrom opened (provider_of server).version (rules_in server) (rights_in server) final
      (Ok (Some signature)) (state_in next)

-- the password is that of each record of the user in this text that is asked for, and there is one
abbrev pub HasItsPassword : Named → List ℕ → List ℕ → Type 0
HasItsPassword named text password = (users : MultiRecords) × SpellsMixed text users × (answers : List (Option Bool))
    × TellsEach users named.version named.name.now password (Sha1 ∷ Sha256 ∷ Sha512 ∷ []) answers
    × ¬ Contains answers (Some false) × Contains answers (Some true)

-- what a check has done
abbrev pub HasChecked : Named → Done → Type 0
HasChecked named (dones.Check text password) = HasItsPassword named (string_bytes text) password
HasChecked named done = ⊥

-- what a login has done: a client of these arguments has verified its server, or a side of a connection has logged in
abbrev pub HasLoggedIn : Login → Done → Type 0
HasLoggedIn login (dones.Client client) = (fresh : ClientSide) × IsClientAsked login fresh × HasVerified fresh (box_value client)
HasLoggedIn login (dones.ClientOfFrames side) = (client_side (box_value side)).progress ≡ Authenticated
HasLoggedIn login done = ⊥

-- a server's side waits for its client
abbrev pub IsWaiting : ServerConnectionSide (ScramAuthenticator Store) → Type 0
IsWaiting side = (server_side (λ server. server) side).progress ≡ InProgress

-- a client-first message claims this user name, or none, to the mechanism of a server (RFC 5802, section 7)
abbrev pub IsClaim : Service → List ℕ → Option (List ℕ) → Type 0
IsClaim service first claimed = ClaimOf (mechanism_of service.version (is_some service.channel)) first claimed

-- what a server has done: a server of these arguments, of the user that a client-first message claims, has answered that
-- message and accepted a proof, or a side of a connection has logged its client in
abbrev pub HasServed : Service → Done → Type 0
HasServed service (dones.Server server) = (fresh : ScramAuthenticator Store) × (first : List ℕ)
    × (claimed : Option (List ℕ)) × IsClaim service first claimed × IsServerAsked service claimed fresh
    × HasAccepted first fresh (box_value server)
HasServed service (dones.ServerOfFrames side) = (server_side (λ server. server) (box_value side)).progress ≡ Authenticated
HasServed service done = ⊥

-- the arguments of a server with the rights of a file after theirs: with none unless clients may name identities
pub record IsWithRights (service full : Service) : Type 0 where
  pub same : full ≡ record service { may_act = full.may_act }
  pub given : List (List ℕ)
  pub rights : words_of (option_map (λ words. map (λ word. word.now) words.now) full.may_act)
      ≡ words_of (option_map (λ words. map (λ word. word.now) words.now) service.may_act) ++ given
  pub none : service.accept_authzid ≡ false → given ≡ []

-- what a task has done
abbrev pub IsDone : Task → Done → Type 0
IsDone (tasks.Client login) done = HasLoggedIn login done
IsDone (tasks.Server service) done = (full : Service) × IsWithRights service full × HasServed full done
IsDone (tasks.Check named) done = HasChecked named done
IsDone task done = Unit {0}
