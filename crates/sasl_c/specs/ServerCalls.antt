-- Several calls over one struct of a server, which are one connection of the library's server (AMQP 1.0, part 5, section
-- 5.3.2). Each statement is the contract of a clause of `server_laws::server_calls`.
use Rattle.std.specs.Prelude.{◌≡◌, ◌≢◌, ◌⊎◌, ◌↔◌, ◌++◌, ℕ, Bool, true, false, Option, None, Some, List, [], ◌∷◌, take, drop, replicate, length, OnErr, Ok}
use Rattle.fe2o3_sasl_wire.specs.SaslFrames as frames
use Rattle.fe2o3_sasl_wire.specs.SaslFrames.{SaslFrame}
use Rattle.fe2o3_scram.specs.ActingRights.{may_act}
use Rattle.fe2o3_scram.specs.Credentials.{VersionedRecord, record_at}
use Rattle.fe2o3_scram.specs.Mixed.{MultiRecords, provider_for}
use Rattle.fe2o3_scram.specs.Passwords.{PasswordText}
use Rattle.fe2o3_scram.specs.declared.hmac.ScramVersion.{ScramVersion}
use Rattle.fe2o3_sasl_core.specs.Bodies.{SpellsBody}
use Rattle.fe2o3_sasl_core.specs.PlainServer.{MeetsUser, PlainParts, SpellsPlain, TestedPassword}
use Rattle.fe2o3_sasl_core.specs.SavedServers.{kept_stage}
use Rattle.fe2o3_sasl_core.specs.Servers.{NotStarted, ServerAt, ServerSettings, is_offered_by, provider_by, sasl_machine, sasl_names}
use Rattle.fe2o3_sasl_core.specs.declared.mechanism.Mechanism.TheVariants as mechanisms
use Rattle.fe2o3_sasl_negotiation.specs.Connections.{fresh}
use Rattle.fe2o3_sasl_negotiation.specs.Laws.{Call, Calls}
use Rattle.fe2o3_sasl_negotiation.specs.Negotiations.{Completes, Side}
use Rattle.fe2o3_sasl_negotiation.specs.declared.progress.FrameKind.{FrameKind}
use Rattle.sasl_c.specs.declared.sasl_server.SaslServerConfig.{SaslServerConfig as Config}
use Rattle.sasl_c.specs.declared.sasl_server.SaslServer.{SaslServer as Struct}
use Rattle.sasl_c.specs.Acting.{rights_for}
use Rattle.sasl_c.specs.Connection.{IsSideOf, Keeps, accepts_extended}
use Rattle.sasl_c.specs.Peeks.{AnySide}
use Rattle.sasl_c.specs.Rules.{channels_of}
use Rattle.sasl_c.specs.SaslServer.{AreSettings, HasRecords, IsServer, Named, Received, ServerTakes, ShowsProgress, mock_of, plain_version_for, read_by}
use Rattle.sasl_c.specs.Server.{fresh_server_struct}
use Rattle.sasl_c.specs.ServerReceive.{NeedsNoRecords, ReceivesOrAsks}
use Rattle.sasl_c.specs.Status.{AnswersText, Room, with_written}

-- ---- the calls

-- a struct of zeros, whatever it says of extended headers
abbrev pub IsZero : Struct → Type 0
IsZero server = (server.connection ≡ record {
  progress = 0;
  why = 0;
  expected = 0;
  held_len = 0;
  held = replicate 512 0;
  extended_headers = server.connection.extended_headers;
}) × (server.scram ≡ fresh_server_struct)

-- a call over a struct and a stream: what it is passed, of the bytes that are left as many as `handed`, and whether it
-- returned FE2O3_OK
pub record StructCall : Type 0 where
  pub config : Config
  pub handed : ℕ
  pub nonce : List ℕ
  pub is_answered : Bool

-- the calls that returned FE2O3_OK, as calls of a side
abbrev pub where_answered : Bool → StructCall → List Call → List Call
where_answered true call calls = record { handed = call.handed; nonce = call.nonce } ∷ calls
where_answered false call calls = calls

abbrev pub answered_calls : List StructCall → List Call
answered_calls [] = []
answered_calls (call ∷ calls) = where_answered call.is_answered call (answered_calls calls)

-- calls over one struct and one stream, where each that returned FE2O3_OK was passed what `MayPass` allows for the struct and
-- the bytes: what they send, the struct after them, and the bytes that are left. A call that returned an error has changed,
-- taken and sent nothing, whatever it was passed
abbrev pub CallsOverStruct : (Struct → List ℕ → Config → Type 0) → Struct → List StructCall → List ℕ → List ℕ → Struct → List ℕ
    → Type 0
CallsOverStruct MayPass before [] stream sent last rest = (sent ≡ []) × (last ≡ before) × (rest ≡ stream)
CallsOverStruct MayPass before (call ∷ calls) stream sent last rest =
    ((call.is_answered ≡ true) × ((after : Struct) × (taken : ℕ) × (first later : List ℕ)
    × MayPass before (take call.handed stream) call.config
    × Received call.config (take call.handed stream) call.nonce before after taken first
    × CallsOverStruct MayPass after calls (drop taken stream) later last rest × (sent ≡ first ++ later)))
    ⊎ ((call.is_answered ≡ false) × CallsOverStruct MayPass before calls stream sent last rest)

-- a call of `fe2o3_sasl_server_receive` has written what it sends
abbrev pub WritesSent : Config → List ℕ → List ℕ → Struct → Struct → ℕ → Room → Room → Type 0
WritesSent config bytes nonce before after taken room left = (sent : List ℕ) × Received config bytes nonce before after taken sent
    × (left.bytes ≡ with_written sent room.bytes) × (left.len ≡ length sent)

-- or it has changed and taken nothing
abbrev pub StaysAsBefore : Struct → Struct → ℕ → ℕ → Type 0
StaysAsBefore before after taken_before taken = (after ≡ before) × (taken ≡ taken_before)

-- the contract of `fe2o3_sasl_server_receive` says so by the number that it returns: 0, FE2O3_OK, or another. A call that
-- returned FE2O3_OK needed no records that it was not passed
abbrev pub ReturnsAreCalls : Type 0
ReturnsAreCalls = (config : Config) (bytes nonce : List ℕ) (before after : Struct) (taken_before taken : ℕ)
    (room left : Room) (number : ℕ) → AnswersText number (λ answer.
    ReceivesOrAsks config bytes nonce before after taken room left answer
    × OnErr answer ((after ≡ before) × (taken ≡ taken_before)))
    → (number ≡ 0 → WritesSent config bytes nonce before after taken room left × NeedsNoRecords config before bytes)
    × (number ≢ 0 → StaysAsBefore before after taken_before taken)

-- ---- one connection

-- the library's server with these settings, before any init
abbrev pub server_with : ServerSettings → ServerAt
server_with settings = record { settings = settings; stage = NotStarted; last = None }

-- the names that a server offers
abbrev pub offer_of : ServerAt → List (List ℕ)
offer_of server = sasl_names server.settings

-- the struct is that of this side: it has its progress, with the reason if it failed, what is expected, and the bytes that are
-- held; and it shows how far the login has come, with the user who has logged in and the identity that it acts for
pub record StandsFor (accepts : Bool) (server : Struct) (side : Side ServerAt) : Type 0 where
  pub extended : accepts_extended server.connection ≡ accepts
  pub keeps : Keeps server.connection side.progress side.expected side.held
  pub limit : side.limit ≡ 512
  pub login : ShowsProgress server.scram side.progress (kept_stage side.state.stage)

-- the calls that returned FE2O3_OK are a connection of the library's server with these settings, from its beginning: each takes
-- the same bytes and sends the same, and the struct after them is that of its side
abbrev pub AreOneConnection : ServerSettings → Struct → List StructCall → List ℕ → List ℕ → Struct → List ℕ → Type 0
AreOneConnection settings before calls stream sent last rest = let accepts = accepts_extended before.connection in
    (side : Side ServerAt)
    × Calls (ServerTakes accepts offer_of sasl_machine) (fresh 512 (server_with settings)) (answered_calls calls) stream sent side
    rest × StandsFor accepts last side

-- ---- what a caller passes

-- two configurations have the same values, but maybe for those of a user: its name, records and identities
pub record OneConfiguration (base config : Config) : Type 0 where
  pub mechanisms : config.mechanisms ≡ base.mechanisms
  pub flags : config.flags ≡ base.flags
  pub iterations : config.iterations ≡ base.iterations
  pub mock : mock_of config ≡ mock_of base
  pub external : config.external_authcid.now ≡ base.external_authcid.now
  pub channels : channels_of config.channels ≡ channels_of base.channels
  pub authzid : config.accept_authzid ≡ base.accept_authzid

-- and those of a user too
pub record SameUser (base config : Config) : Type 0 where
  pub username : config.username.now ≡ base.username.now
  pub records : config.records.now ≡ base.records.now
  pub identities : config.identities.now ≡ base.identities.now

-- the settings are those of a configuration, but for what a store has of its users: the records of all users, the mock records
-- of unknown ones, the rights, and the hash of the records by which PLAIN tests passwords
abbrev pub AreStoreSettings : Config → ServerSettings → Type 0
AreStoreSettings base settings = (own : ServerSettings) × AreSettings base own
    × (settings ≡ record own {
      records = settings.records;
      rights = settings.rights;
      mock = settings.mock;
      plain_version = settings.plain_version;
    })

-- a frame carries this text for its mechanism
abbrev pub CarriesText : SaslFrame → List ℕ → Type 0
CarriesText (frames.Init mechanism (Some own) hostname) text = text ≡ own
CarriesText (frames.Response own) text = text ≡ own
CarriesText frame text = ⊥

-- these bytes complete a frame with a message of PLAIN of these parts
abbrev pub CompletesPlain : Struct → List ℕ → PlainParts → Type 0
CompletesPlain server bytes parts = (side : AnySide) × (turn : FrameKind) × (body : List ℕ)
    × IsSideOf server.connection side × Completes side bytes turn body
    × ((frame : SaslFrame) × (text : List ℕ) × SpellsBody (read_by server body) (Ok frame) × CarriesText frame text
    × SpellsPlain parts text)

-- a configuration has what the store of these settings has of this user: its name; for each hash that is offered, as a record or
-- as its own mock record, the one by which SCRAM answers the user; its rights; and, where PLAIN is offered, records that the
-- password of a message meets exactly if it meets the store's. So no such password meets a mock record that is passed as a record
pub record HasStoredUser (settings : ServerSettings) (server : Struct) (bytes : List ℕ) (config : Config) (user : List ℕ)
    : Type 0 where
  pub username : config.username.now ≡ user
  pub scram : (records : MultiRecords) (version : ScramVersion) (plus : Bool) → HasRecords config records
      → is_offered_by settings (mechanisms.Scram version plus) ≡ true
      → (provider_by (record settings { records = records; mock = mock_of config }) version plus).records user
      ≡ (provider_by settings version plus).records user
  pub plain : (records : MultiRecords) (parts : PlainParts) (password : PasswordText) → HasRecords config records
      → is_offered_by settings mechanisms.Plain ≡ true → CompletesPlain server bytes parts
      → TestedPassword settings.plain_passwords parts.password password
      → MeetsUser (provider_for (plain_version_for settings.mechanisms records) records) user password
      ↔ MeetsUser (provider_for settings.plain_version settings.records) user password
  pub rights : (acts_for : Option (List ℕ)) → may_act (rights_for user config.identities.now) user acts_for
      ≡ may_act settings.rights user acts_for

-- whenever these bytes complete a frame that names a user, by the claim of an init or by the challenge that the struct keeps,
-- the configuration has what the store has of this user. Otherwise it may have any user, or none. A call that is not passed
-- them asks for them (`AsksForRecords`)
abbrev pub RecordsOfOneStore : ServerSettings → Struct → List ℕ → Config → Type 0
RecordsOfOneStore settings server bytes config =
    (user : List ℕ) → Named server bytes user → HasStoredUser settings server bytes config user

-- what the calls are passed: one user and one configuration; or one configuration and one store's users
abbrev pub PassesOneUser : Config → Struct → List ℕ → Config → Type 0
PassesOneUser base server bytes config = OneConfiguration base config × SameUser base config

abbrev pub PassesOneStore : Config → ServerSettings → Struct → List ℕ → Config → Type 0
PassesOneStore base settings server bytes config =
    OneConfiguration base config × RecordsOfOneStore settings server bytes config

-- ---- the laws

-- a struct of zeros is that of a side of the library's server that has received nothing
abbrev pub ZerosAreFresh : Type 0
ZerosAreFresh = (config : Config) (settings : ServerSettings) (server : Struct) → AreSettings config settings
    → IsZero server → IsServer config server (fresh 512 (record { server = server_with settings; rejection = None }))

-- calls over one struct of zeros that are all passed one user and one configuration are one connection
abbrev pub CallsWithOneUserConnect : Type 0
CallsWithOneUserConnect = (config : Config) (settings : ServerSettings) (before last : Struct) (calls : List StructCall)
    (stream sent rest : List ℕ) → AreSettings config settings → IsZero before
    → CallsOverStruct (PassesOneUser config) before calls stream sent last rest
    → AreOneConnection settings before calls stream sent last rest

-- calls over one struct of zeros that are passed one configuration, and of each user that is named what one store has of it, are
-- one connection of the library's server with that store
abbrev pub CallsWithOneStoreConnect : Type 0
CallsWithOneStoreConnect = (base : Config) (settings : ServerSettings) (before last : Struct) (calls : List StructCall)
    (stream sent rest : List ℕ) → AreStoreSettings base settings → IsZero before
    → CallsOverStruct (PassesOneStore base settings) before calls stream sent last rest
    → AreOneConnection settings before calls stream sent last rest

-- a configuration has what a store with its mock records has of a user: its first record for each hash, of which the first of
-- all, if there is one, is of the hash by which PLAIN tests passwords, if PLAIN is offered; and its rights
abbrev pub StoredUsersAreHad : Type 0
StoredUsersAreHad = (settings : ServerSettings) (server : Struct) (bytes : List ℕ) (config : Config) (user : List ℕ)
    (records : MultiRecords) → settings.mock ≡ mock_of config → config.username.now ≡ user → HasRecords config records
    → ((version : ScramVersion) → record_at (provider_for version records).records user
    ≡ record_at (provider_for version settings.records).records user)
    → (is_offered_by settings mechanisms.Plain ≡ true → (first : List ℕ × VersionedRecord) (others : MultiRecords)
    → records ≡ first ∷ others → first.1.version ≡ settings.plain_version)
    → ((acts_for : Option (List ℕ)) → may_act (rights_for user config.identities.now) user acts_for
    ≡ may_act settings.rights user acts_for)
    → HasStoredUser settings server bytes config user
