-- Several calls over one struct of a client, which are one connection of the library's client (AMQP 1.0, part 5, section
-- 5.3.2). Each statement is the contract of a clause of `client_laws::client_calls`.
use Rattle.std.specs.Prelude.{◌≡◌, ◌≢◌, ◌⊎◌, ◌++◌, ℕ, Bool, true, false, Option, List, [], ◌∷◌, take, drop, replicate, length, OnErr, Ok, if◌then◌else◌}
use Rattle.fe2o3_scram.specs.ScramClient.{ClientInitial}
use Rattle.fe2o3_sasl_core.specs.Profiles.{Profile, ScramProfile, MessageProfile}
use Rattle.fe2o3_sasl_negotiation.specs.Connections.{fresh}
use Rattle.fe2o3_sasl_negotiation.specs.Laws.{Call, Calls}
use Rattle.fe2o3_sasl_negotiation.specs.Negotiations.{Side}
use Rattle.sasl_c.specs.declared.login.Login.{Login as Words}
use Rattle.sasl_c.specs.declared.sasl_client.SaslClient.{SaslClient as Struct}
use Rattle.sasl_c.specs.declared.sasl_client.SaslLogin.{SaslLogin as Login}
use Rattle.sasl_c.specs.Client.{fresh_client_struct}
use Rattle.sasl_c.specs.Connection.{accepts_extended}
use Rattle.sasl_c.specs.SaslClient.{ClientTakes, IsClient, IsHostname, ProfileIsReached, ReadsClient, ReceivesAsClient}
use Rattle.sasl_c.specs.Status.{AnswersText, AsksText, FillsWithin, Room, with_written}

-- a struct of zeros, whatever it says of extended headers
abbrev pub IsZeroClient : Struct → Type 0
IsZeroClient client = (client.connection ≡ record {
  progress = 0;
  why = 0;
  expected = 0;
  held_len = 0;
  held = replicate 512 0;
  extended_headers = client.connection.extended_headers;
}) × (client.scram ≡ fresh_client_struct)

-- two logins have the same user, secret, options and channel
pub record SameWords (base words : Words) : Type 0 where
  pub version : words.version ≡ base.version
  pub secret : words.secret ≡ base.secret
  pub form : words.form ≡ base.form
  pub min_iterations : words.min_iterations ≡ base.min_iterations
  pub max_iterations : words.max_iterations ≡ base.max_iterations
  pub username : words.username.now ≡ base.username.now
  pub acts_for : words.acts_for.now ≡ base.acts_for.now
  pub password : words.password.now ≡ base.password.now
  pub keys : words.keys.now ≡ base.keys.now
  pub signed : words.signature_by_challenge ≡ base.signature_by_challenge
  pub strict : words.strict ≡ base.strict
  pub channel : words.channel_use ≡ base.channel_use
  pub kind : words.channel_kind ≡ base.channel_kind
  pub len : words.channel_data_len ≡ base.channel_data_len
  pub bytes : words.channel_data ≡ base.channel_data

-- two logins have the same values
pub record SameLogin (base login : Login) : Type 0 where
  pub mechanism : login.mechanism ≡ base.mechanism
  pub hostname : login.hostname.now ≡ base.hostname.now
  pub words : SameWords base.login login.login

-- a call over a struct and a stream: the login that it is passed, of the bytes that are left as many as `handed`, a nonce, and
-- whether it returned FE2O3_OK
pub record ClientCall : Type 0 where
  pub login : Login
  pub handed : ℕ
  pub nonce : List ℕ
  pub is_answered : Bool

-- the calls that returned FE2O3_OK, as calls of a side
abbrev pub answered_by_client : List ClientCall → List Call
answered_by_client [] = []
answered_by_client (call ∷ calls) = let others = answered_by_client calls in
    if call.is_answered then record { handed = call.handed; nonce = call.nonce } ∷ others else others

-- calls over one struct and one stream, where each that returned FE2O3_OK was passed the values of this login: what they
-- send, the struct after them, and the bytes that are left. A call that returned an error has changed, taken and sent
-- nothing, whatever it was passed
abbrev pub CallsOverClient : Login → Struct → List ClientCall → List ℕ → List ℕ → Struct → List ℕ → Type 0
CallsOverClient base before [] stream sent last rest = (sent ≡ []) × (last ≡ before) × (rest ≡ stream)
CallsOverClient base before (call ∷ calls) stream sent last rest =
    ((call.is_answered ≡ true) × ((after : Struct) × (taken : ℕ) × (first later : List ℕ) × SameLogin base call.login
    × ReceivesAsClient call.login (take call.handed stream) call.nonce before after taken (Ok first)
    × CallsOverClient base after calls (drop taken stream) later last rest × (sent ≡ first ++ later)))
    ⊎ ((call.is_answered ≡ false) × CallsOverClient base before calls stream sent last rest)

-- the contract of `fe2o3_sasl_client_receive` says so by the number that it returns: with 0, FE2O3_OK, a call has written what
-- it sends, and with another number it has changed and taken nothing
abbrev pub ReturnsAreClientCalls : Type 0
ReturnsAreClientCalls = (login : Login) (bytes nonce : List ℕ) (before after : Struct) (taken_before taken number : ℕ)
    (room left : Room) → AnswersText number (λ answer.
    FillsWithin 512 (ReceivesAsClient login bytes nonce before after taken) room left answer
    × OnErr answer ((after ≡ before) × (taken ≡ taken_before)) × AsksText (ReadsClient login before) answer)
    → (number ≡ 0 → (sent : List ℕ) × ReceivesAsClient login bytes nonce before after taken (Ok sent)
    × (left.bytes ≡ with_written sent room.bytes) × (left.len ≡ length sent))
    × (number ≢ 0 → (after ≡ before) × (taken ≡ taken_before))

-- a profile has sent nothing
abbrev pub HasSentNothing : Profile → Type 0
HasSentNothing (ScramProfile client) = client.state ≡ ClientInitial
HasSentNothing (MessageProfile mechanism message is_due) = is_due ≡ false
HasSentNothing profile = Unit {0}

-- a new client of the library logs in as this login says: by its mechanism, its words, its limits and its channel
abbrev pub IsNewProfile : Login → Profile → Type 0
IsNewProfile login profile = ProfileIsReached login profile × HasSentNothing profile

-- a struct of zeros is that of a side of each new client that the login spells, which has received nothing
abbrev pub ZerosAreNewClients : Type 0
ZerosAreNewClients = (login : Login) (profile : Profile) (client : Struct) → IsNewProfile login profile → IsZeroClient client
    → IsClient login client (fresh 512 profile)

-- a login by which a call returned FE2O3_OK spells a new client
abbrev pub LoginsSpellClients : Type 0
LoginsSpellClients = (login : Login) (bytes nonce sent : List ℕ) (before after : Struct) (taken : ℕ)
    → ReceivesAsClient login bytes nonce before after taken (Ok sent)
    → (hostname : Option (List ℕ)) × (profile : Profile) × IsHostname login hostname × IsNewProfile login profile

-- calls over one struct of zeros that are all passed one login are one connection of each new client that it spells, from its
-- beginning: those that returned FE2O3_OK take the same bytes and send the same. The struct after them is that of its side: it
-- has its progress, with the reason if it failed, what is expected, the bytes that are held, and the state and the keys of its
-- profile
abbrev pub CallsWithOneLoginConnect : Type 0
CallsWithOneLoginConnect = (base : Login) (hostname : Option (List ℕ)) (profile : Profile) (before last : Struct)
    (calls : List ClientCall) (stream sent rest : List ℕ) → IsHostname base hostname → IsNewProfile base profile
    → IsZeroClient before → CallsOverClient base before calls stream sent last rest
    → (side : Side Profile) × Calls (ClientTakes (accepts_extended before.connection) hostname) (fresh 512 profile)
    (answered_by_client calls) stream sent side rest
    × IsClient base last side × (accepts_extended last.connection ≡ accepts_extended before.connection)
