-- Unknown names of a server of all mechanisms with mock authentication, over the bytes of a connection: what a stranger sees of
-- a server that does not know a name is what it sees of one that has the mock records of that name. RFC 5802 leaves open what a
-- server answers to an unknown user. Each statement is the contract of a clause of `server_logins::unknown_names`.
use Rattle.std.specs.Prelude.{◌≡◌, ◌↔◌, ◌++◌, ℕ, Some, List, [], ◌∷◌, codes, Ok}
use Rattle.std.specs.List.{AllByRecursion}
use Rattle.fe2o3_sasl_wire.specs.SaslFrames as frames
use Rattle.fe2o3_sasl_wire.specs.SaslFrames.{SaslFrame}
use Rattle.fe2o3_scram.specs.Credentials.{MeetsRecord, Record, VersionedRecord, record_at, versioned}
use Rattle.fe2o3_scram.specs.Mixed.{MultiRecords, provider_for}
use Rattle.fe2o3_scram.specs.MockSettings.{mock_record}
use Rattle.fe2o3_scram.specs.Passwords.{PasswordText}
use Rattle.fe2o3_scram.specs.declared.hmac.ScramVersion.{ScramVersion}
use Rattle.fe2o3_scram.specs.declared.hmac.ScramVersion.TheVariants.{Sha1, Sha256, Sha512}
use Rattle.fe2o3_sasl_core.specs.Bodies.{SpellsBody}
use Rattle.fe2o3_sasl_core.specs.Events.{Given}
use Rattle.fe2o3_sasl_core.specs.MockChoices.{MockChoice, count_of_unknown, mock_for}
use Rattle.fe2o3_sasl_core.specs.PlainServer.{PlainParts, SpellsPlain, TestedPassword}
use Rattle.fe2o3_sasl_core.specs.Servers.{ServerAt, ServerLogin, ServerSettings, logged_in_at, sasl_hmacs, sasl_machine}
use Rattle.fe2o3_sasl_core.specs.declared.mechanism.Mechanism.TheVariants as mechanisms
use Rattle.connection_laws.specs.ConnectionLogins.{new_server}
use Rattle.connection_laws.specs.Servers.{NegotiatesAs, ServerBy}

-- ---- a server that knows a name by its mock records

-- the mock record of a name for a hash, as an entry of records
abbrev pub mock_entry : MockChoice → List ℕ → ScramVersion → List ℕ × VersionedRecord
mock_entry mock name version = (name, versioned version (mock_record (mock_for version mock) name))

-- the records, and after them the mock record of a name for each hash. A record that the name has counts before these
abbrev pub mock_known : MockChoice → List ℕ → MultiRecords → MultiRecords
mock_known mock name records = records
    ++ (mock_entry mock name Sha1 ∷ mock_entry mock name Sha256 ∷ mock_entry mock name Sha512 ∷ [])

-- a server over other records
abbrev pub server_over : MultiRecords → ServerAt → ServerAt
server_over records server = record server { settings = record server.settings { records = records } }

-- ---- passwords

-- a message of PLAIN has this user and a password that meets the mock record of this name. The record is no record of a password:
-- its keys are HMAC values. So to find such a password is to find a preimage of a digest (RFC 5802, section 3)
abbrev pub MeetsMock : ServerSettings → MockChoice → List ℕ → List ℕ → Type 0
MeetsMock settings mock name text = (parts : PlainParts) × SpellsPlain parts text × (parts.user ≡ name)
    × ((password : PasswordText) × TestedPassword settings.plain_passwords parts.password password
    × MeetsRecord settings.plain_version password (mock_record (mock_for settings.plain_version mock) name))

-- the frame carries such a message
abbrev pub CarriesMock : ServerSettings → MockChoice → List ℕ → SaslFrame → Type 0
CarriesMock settings mock name (frames.Init mechanism (Some text) hostname) =
    (mechanism ≡ codes "PLAIN") × MeetsMock settings mock name text
CarriesMock settings mock name (frames.Response text) = MeetsMock settings mock name text
CarriesMock settings mock name frame = ⊥

-- no event carries one
abbrev pub NoneCarriesMock : ServerSettings → MockChoice → List ℕ → List Given → Type 0
NoneCarriesMock settings mock name events = AllByRecursion (λ (event : Given). (frame : SaslFrame)
    → SpellsBody event.body (Ok frame) → ¬ CarriesMock settings mock name frame) events

-- ---- the laws

-- each connection of a server with mock authentication is, byte for byte, one of the server that knows this name by its mock
-- records, by all its mechanisms together
abbrev pub UnknownNamesSeemKnown : Type 0
UnknownNamesSeemKnown = (state : ServerAt) (mock : MockChoice) (name : List ℕ) (server : ServerBy sasl_machine state)
    → let records = mock_known mock name state.settings.records in
    state.settings.mock ≡ Some mock → NoneCarriesMock state.settings mock name server.connection.events
    → NegotiatesAs sasl_machine state server sasl_machine (server_over records state)
    (server_over records server.last.state)

-- and each connection of the server that knows the name is one of the server that does not
abbrev pub KnownNamesSeemUnknown : Type 0
KnownNamesSeemUnknown = (state : ServerAt) (mock : MockChoice) (name : List ℕ)
    → let known = server_over (mock_known mock name state.settings.records) state in
    (server : ServerBy sasl_machine known)
    → state.settings.mock ≡ Some mock → NoneCarriesMock state.settings mock name server.connection.events
    → NegotiatesAs sasl_machine known server sasl_machine state
    (server_over state.settings.records server.last.state)

-- the answers of both take as many HMAC values (RFC 5802, section 3), if PLAIN answers an unknown name with the iteration count
-- of the mock records, as it does unless another is set
abbrev pub UnknownNamesCostAlike : Type 0
UnknownNamesCostAlike = (server : ServerAt) (mock : MockChoice) (name : List ℕ) (frame : SaslFrame) (n : ℕ)
    → server.settings.mock ≡ Some mock
    → count_of_unknown server.settings.plain_count server.settings.mock ≡ mock.count
    → sasl_hmacs server frame n
    ↔ sasl_hmacs (server_over (mock_known mock name server.settings.records) server) frame n

-- a user who has logged in by PLAIN has a record: mock records log nobody in by PLAIN
abbrev pub PlainUsersHaveRecords : Type 0
PlainUsersHaveRecords = (settings : ServerSettings) (server : ServerBy sasl_machine (new_server settings))
    (login : ServerLogin) → logged_in_at server.last.state.stage ≡ Some login → login.mechanism ≡ mechanisms.Plain
    → (user : List ℕ) × (stored : Record) × (login.user ≡ Some user)
    × (record_at (provider_for settings.plain_version settings.records).records user ≡ Some stored)
