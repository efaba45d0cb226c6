-- The client's side of a connection that is kept in structs of C between its calls (AMQP 1.0, part 5, section 5.3.2).
use Rattle.std.specs.Prelude.{◌≡◌, ◌≢◌, ◌<◌, ◌⊎◌, ℕ, Bool, true, false, ◌||◌, is_some, Option, Some, None, List, [], ◌∷◌, replicate, Result, Ok, Err}
use Rattle.std.specs.Str.{IsUtf8}
use Rattle.fe2o3_scram.specs.Readings.{IsFirst, NoneHolds}
use Rattle.fe2o3_scram.specs.ScramClient.{ClientSide, identity_named}
use Rattle.fe2o3_sasl_core.specs.Profiles.{Profile, ScramProfile, PlainProfile, AnonymousProfile, ExternalProfile, MessageProfile, PolicyProfile, MessageMechanism, AnonymousMessage, ExternalMessage}
use Rattle.fe2o3_sasl_core.specs.PlainWords.{ArePlainWords}
use Rattle.fe2o3_sasl_negotiation.specs.declared.progress.Progress.TheVariants.{InProgress}
use Rattle.fe2o3_sasl_negotiation.specs.ClientNegotiation.{ClientSideAnswers}
use Rattle.fe2o3_sasl_negotiation.specs.Framing.{sasl_header}
use Rattle.fe2o3_sasl_negotiation.specs.Negotiations.{Reading, Receives, Receiving, Side}
use Rattle.fe2o3_sasl_negotiation.specs.Snapshot.{client_due}
use Rattle.sasl_c.specs.declared.login.Login.{Login as Words}
use Rattle.sasl_c.specs.declared.client.ScramClient.{ScramClient as ScramStruct}
use Rattle.sasl_c.specs.declared.sasl_client.SaslClient.{SaslClient as Struct}
use Rattle.sasl_c.specs.declared.sasl_client.SaslLogin.{SaslLogin as Login}
use Rattle.sasl_c.specs.declared.status.Status.{Status}
use Rattle.sasl_c.specs.declared.status.Status.TheVariants as statuses
use Rattle.sasl_c.specs.Client.{CanBeNamed, IsClientOf, IsNoLogin, IsReached, IsSide, WritesClient, fresh_client_struct, is_set, started_struct}
use Rattle.sasl_c.specs.Plain.{word_tests}
use Rattle.sasl_c.specs.Connection.{IsSideOf, KeepsNoPartOf, accepts_extended, side_tests, connection_struct}

-- the hostname of a login: none where it is empty
abbrev pub IsHostname : Login → Option (List ℕ) → Type 0
IsHostname login None = login.hostname.now ≡ []
IsHostname login (Some name) = (login.hostname.now ≢ []) × (name ≡ login.hostname.now)

-- a login has one that cannot be sent: it is not UTF-8
abbrev pub HasNoHostname : Login → Type 0
HasNoHostname login = (login.hostname.now ≢ []) × ¬ IsUtf8 login.hostname.now

-- the number of a mechanism with its single message, which is the user name of the login
abbrev pub message_number : MessageMechanism → ℕ
message_number AnonymousMessage = 4
message_number ExternalMessage = 5

-- whether an empty challenge is due (RFC 4422, section 5): the struct says that the init was sent last
abbrev pub IsDueIn : ScramStruct → Bool → Type 0
IsDueIn scram true = scram.state ≡ 1
IsDueIn scram false = scram.state ≢ 1

-- a user name and a password that a client sends by PLAIN, by whether it is strict (RFC 4616, section 2)
abbrev pub CanSendWords : Bool → List ℕ → List ℕ → Type 0
CanSendWords false user password = Unit {0}
CanSendWords true user password = ArePlainWords user password

-- the tests of these and of the identity to act for, in their order: by a strict client, those of a message
abbrev pub client_word_tests : Bool → List ℕ → List ℕ → List ℕ → List (Status × Type 0)
client_word_tests false identity user password = (statuses.NotUtf8, ¬ IsUtf8 user ⊎ ¬ IsUtf8 password) ∷ []
client_word_tests true identity user password = word_tests identity user password

-- a client of PLAIN is strict about its words if it names an identity, or is set to
abbrev pub is_strict_plain : Words → Bool
is_strict_plain words = is_some (identity_named (Some words.acts_for.now)) || is_set words.strict

-- PLAIN of a login has this identity, which is empty if the user acts for itself, this user name and this password
abbrev pub IsPlainOf : Words → List ℕ → List ℕ → List ℕ → Type 0
IsPlainOf words identity user password = (identity ≡ words.acts_for.now) × (user ≡ words.username.now)
    × (password ≡ words.password.now) × CanBeNamed identity × CanSendWords (is_strict_plain words) user password

-- a login by ANONYMOUS or EXTERNAL names no identity besides its message: ANONYMOUS has none (RFC 4505), and the message of
-- EXTERNAL is the identity (RFC 4422, appendix A)
abbrev pub NamesNoIdentity : Words → Type 0
NamesNoIdentity words = words.acts_for.now ≡ []

-- the profile of a login; that of SCRAM has the client of the struct (RFC 4616, RFC 4505, RFC 4422, RFC 5802). A login names
-- its mechanism, so that no profile is by a policy
abbrev pub IsProfile : Login → ScramStruct → Profile → Type 0
IsProfile login scram (ScramProfile side) = (login.mechanism ≡ 0) × IsSide login.login scram side
IsProfile login scram (PlainProfile identity user password) =
    (login.mechanism ≡ 1) × IsPlainOf login.login identity user password
IsProfile login scram AnonymousProfile = (login.mechanism ≡ 2) × NamesNoIdentity login.login
IsProfile login scram ExternalProfile = (login.mechanism ≡ 3) × NamesNoIdentity login.login
IsProfile login scram (MessageProfile mechanism message is_due) = (login.mechanism ≡ message_number mechanism)
    × (message ≡ login.login.username.now) × IsDueIn scram is_due × NamesNoIdentity login.login
IsProfile login scram (PolicyProfile selection) = ⊥

-- why the words of a login give no PLAIN
abbrev pub HasNoClientWords : Words → Status → Type 0
HasNoClientWords words status =
    IsFirst (client_word_tests (is_strict_plain words) words.acts_for.now words.username.now words.password.now) status

-- the test of a login by ANONYMOUS or EXTERNAL without a message
abbrev pub none_tests : Words → List (Status × Type 0)
none_tests words = (statuses.NotImplemented, ¬ NamesNoIdentity words) ∷ []

-- the tests of one with a message, in their order
abbrev pub message_tests : Words → List (Status × Type 0)
message_tests words =
    (statuses.NotImplemented, ¬ NamesNoIdentity words) ∷ (statuses.NotUtf8, ¬ IsUtf8 words.username.now) ∷ []

-- why a login has no profile
unfoldable pub IsNoProfile : Login → Status → Type 0
IsNoProfile login status = ((login.mechanism ≡ 0) × IsNoLogin login.login status)
    ⊎ ((login.mechanism ≡ 1) × HasNoClientWords login.login status)
    ⊎ (((login.mechanism ≡ 2) ⊎ (login.mechanism ≡ 3)) × IsFirst (none_tests login.login) status)
    ⊎ ((mechanism : MessageMechanism) × (login.mechanism ≡ message_number mechanism)
    × IsFirst (message_tests login.login) status)
    ⊎ ((5 < login.mechanism) × (status ≡ statuses.NoSuchMechanism))

-- the structs are those of this side
abbrev pub IsClient : Login → Struct → Side Profile → Type 0
IsClient login client side = IsSideOf client.connection side × IsProfile login client.scram side.state

-- the struct of SCRAM that a call writes for a profile: where it is not SCRAM's all zeros, but for the state of a profile
-- of a single message after its init
abbrev pub WritesProfile : ScramStruct → Profile → Type 0
WritesProfile written (ScramProfile side) = WritesClient written side.state
WritesProfile written (PlainProfile identity user password) = written ≡ fresh_client_struct
WritesProfile written AnonymousProfile = written ≡ fresh_client_struct
WritesProfile written ExternalProfile = written ≡ fresh_client_struct
WritesProfile written (MessageProfile mechanism message true) = written ≡ started_struct (replicate 32 0)
WritesProfile written (MessageProfile mechanism message false) = written ≡ fresh_client_struct
WritesProfile written (PolicyProfile selection) = written ≡ fresh_client_struct

-- the structs that a call writes for a side, by whether it accepts extended headers
abbrev pub WritesSide : Bool → Struct → Side Profile → Type 0
WritesSide accepts written side =
    (written.connection ≡ connection_struct accepts side.progress side.expected side.held)
    × WritesProfile written.scram side.state

-- why the structs are those of no side that expects more bytes: the tests of the connection, those of the hostname and of
-- the profile, and last that what was kept is a part of what is expected
abbrev pub IsNoClient : Login → Struct → Status → Type 0
IsNoClient login client status = IsFirst (side_tests client.connection) status
    ⊎ (NoneHolds (side_tests client.connection) × (((status ≡ statuses.NotUtf8) × HasNoHostname login)
    ⊎ (¬ HasNoHostname login × (IsNoProfile login status ⊎ ((status ≡ statuses.InvalidSnapshot)
    × KeepsNoPartOf client_due client.connection × ((profile : Profile) × IsProfile login client.scram profile))))))

-- none of the tests holds that come before memory is requested: those of the connection, and that of the hostname
abbrev pub ReadsClient : Login → Struct → Type 0
ReadsClient login client = NoneHolds (side_tests client.connection) × ¬ HasNoHostname login

-- a client of SCRAM that a login reaches
abbrev pub ClientIsReached : Words → ClientSide → Type 0
ClientIsReached words side = IsClientOf words side × IsReached side.user side.state

-- the profile that a login reaches
abbrev pub ProfileIsReached : Login → Profile → Type 0
ProfileIsReached login (ScramProfile side) = (login.mechanism ≡ 0) × ClientIsReached login.login side
ProfileIsReached login (PlainProfile identity user password) =
    (login.mechanism ≡ 1) × IsPlainOf login.login identity user password
ProfileIsReached login AnonymousProfile = (login.mechanism ≡ 2) × NamesNoIdentity login.login
ProfileIsReached login ExternalProfile = (login.mechanism ≡ 3) × NamesNoIdentity login.login
ProfileIsReached login (MessageProfile mechanism message is_due) = (login.mechanism ≡ message_number mechanism)
    × (message ≡ login.login.username.now) × NamesNoIdentity login.login
ProfileIsReached login (PolicyProfile selection) = ⊥

-- the header with which a client begins
abbrev pub OpensConnection : Result (List ℕ) Status → Type 0
OpensConnection (Ok header) = header ≡ sasl_header
OpensConnection (Err status) = ⊥

-- what a side of a client makes of bytes, by whether it accepts extended headers
abbrev pub ClientTakes : Bool → Option (List ℕ) → Receiving Profile
ClientTakes accepts hostname = Receives (Reading accepts (ClientSideAnswers hostname))

-- what a call makes of bytes: between two structs, what the library's side of the connection makes of them, which accepts
-- extended headers if the struct says so
unfoldable pub ReceivesAsClient : Login → List ℕ → List ℕ → Struct → Struct → ℕ → Result (List ℕ) Status → Type 0
ReceivesAsClient login bytes nonce before after taken (Ok sent) =
    (hostname : Option (List ℕ)) × (side next : Side Profile) × IsHostname login hostname
    × IsClient login before side × (side.progress ≡ InProgress)
    × ClientTakes (accepts_extended before.connection) hostname side bytes nonce taken sent next
    × IsClient login after next × WritesSide (accepts_extended before.connection) after next
ReceivesAsClient login bytes nonce before after taken (Err status) = IsNoClient login before status
