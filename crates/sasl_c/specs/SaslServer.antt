-- The server's side of a connection that is kept in structs of C between its calls (AMQP 1.0, part 5, section 5.3.2).
use Rattle.std.specs.Prelude.{◌≡◌, ◌≢◌, ◌<◌, ◌⊎◌, ◌+◌, ℕ, Bool, true, false, if◌then◌else◌, Option, Some, None, List, [], ◌∷◌, ◌++◌, length, Result, Ok, Err}
use Rattle.std.specs.Str.{IsUtf8}
use Rattle.fe2o3_sasl_wire.specs.declared.sasl_frames.error.Error.{Error}
use Rattle.fe2o3_sasl_wire.specs.SaslFrames.{SaslFrame}
use Rattle.fe2o3_sasl_wire.specs.SaslFrames as frames
use Rattle.fe2o3_scram.specs.declared.hmac.ScramVersion.{ScramVersion}
use Rattle.fe2o3_scram.specs.Credentials.{VersionedRecord}
use Rattle.fe2o3_scram.specs.declared.hmac.ScramVersion.TheVariants.{Sha1, Sha256, Sha512}
use Rattle.fe2o3_scram.specs.Mixed.{MultiRecords}
use Rattle.fe2o3_scram.specs.Readings.{IsFirst, NoneHolds}
use Rattle.fe2o3_scram.specs.ServerFirst.{ServerChallenge}
use Rattle.fe2o3_sasl_core.specs.Bodies.{SpellsBody}
use Rattle.fe2o3_sasl_core.specs.LoginAttempts.{ClaimAllocates, ClaimIn, ClaimsUser}
use Rattle.fe2o3_sasl_core.specs.MockChoices.{MockChoice}
use Rattle.fe2o3_sasl_core.specs.declared.server.options.ExtraChallenges.{ExtraChallenges}
use Rattle.fe2o3_sasl_core.specs.SavedServers.{KeptStage, kept_stage, restored_stage}
use Rattle.fe2o3_sasl_core.specs.Mechanisms.{mechanism_symbol}
use Rattle.fe2o3_sasl_core.specs.Servers.{ServerAt, ServerSettings, offers_any, settings_with}
use Rattle.fe2o3_sasl_core.specs.declared.server.options.Mechanisms.{Mechanisms}
use Rattle.fe2o3_sasl_core.specs.declared.server.options.ServerOptions.{ServerOptions}
use Rattle.fe2o3_sasl_core.specs.declared.mechanism.Mechanism.{Mechanism}
use Rattle.fe2o3_sasl_core.specs.declared.rejection.Rejection.{Rejection}
use Rattle.fe2o3_sasl_core.specs.declared.plain_server.passwords.PlainPasswords.{PlainPasswords}
use Rattle.fe2o3_sasl_core.specs.declared.plain_server.passwords.PlainPasswords.TheVariants as forms
use Rattle.fe2o3_sasl_negotiation.specs.declared.progress.Progress.{Progress}
use Rattle.fe2o3_sasl_negotiation.specs.declared.progress.Progress.TheVariants.{InProgress, Authenticated, Failed}
use Rattle.fe2o3_sasl_negotiation.specs.declared.progress.FrameKind.{FrameKind}
use Rattle.fe2o3_sasl_negotiation.specs.declared.progress.FrameKind.TheVariants as turns
use Rattle.fe2o3_sasl_negotiation.specs.Framing.{body_read}
use Rattle.fe2o3_sasl_negotiation.specs.Negotiations.{Completes, Reading, Receives, Receiving, Side}
use Rattle.fe2o3_sasl_negotiation.specs.ServerNegotiation.{ServerSideAnswers}
use Rattle.fe2o3_sasl_negotiation.specs.Snapshot.{server_due}
use Rattle.fe2o3_sasl_negotiation.specs.Sides.{ServerConnectionSide, acceptor_in, extended_in, server_side}
use Rattle.sasl_c.specs.declared.sasl_server.Choice.{Choice}
use Rattle.sasl_c.specs.declared.sasl_server.SaslServerConfig.{SaslServerConfig as Config}
use Rattle.sasl_c.specs.declared.sasl_server.SaslServer.{SaslServer as Struct}
use Rattle.sasl_c.specs.declared.sasl_server.Prepared.{Prepared}
use Rattle.sasl_c.specs.declared.server.ScramServer.{ScramServer as ScramStruct}
use Rattle.sasl_c.specs.declared.status.Status.{Status}
use Rattle.sasl_c.specs.declared.status.Status.TheVariants as statuses
use Rattle.sasl_c.specs.Acting.{rights_for}
use Rattle.sasl_c.specs.Client.{is_set}
use Rattle.sasl_c.specs.Connection.{IsSideOf, Keeps, KeepsNoPart, accepts_extended, side_tests, connection_struct, KeepsNoPartOf}
use Rattle.sasl_c.specs.Peeks.{AnySide}
use Rattle.sasl_c.specs.Records.{ShowsRecord}
use Rattle.sasl_c.specs.Rejections.{Logged, rejection_number, server_machine, server_names, state_of}
use Rattle.sasl_c.specs.declared.rejections.LoggedServer.{LoggedServer}
use Rattle.sasl_c.specs.Rules.{HasLongData, channels_of}
use Rattle.sasl_c.specs.declared.records.ScramRecord.{ScramRecord as Kept}
use Rattle.sasl_c.specs.Server.{HasAsked, IsOpen, IsUnfinished, ShowsStage, rejected_struct, stage_struct}

-- ---- the server of a configuration

-- a number where it is so, and otherwise 0
abbrev pub one_where : Bool → ℕ → ℕ
one_where true n = n
one_where false n = 0

-- the number of a form of PLAIN's passwords (RFC 4616, section 2)
abbrev pub passwords_number : PlainPasswords → ℕ
passwords_number forms.Typed = 0
passwords_number forms.Prepared = 128
passwords_number forms.Saslprep = 256

-- the sum of the mechanisms' numbers: 1 SCRAM-SHA-512, 2 SCRAM-SHA-256, 4 SCRAM-SHA-1, 8 PLAIN, 16 ANONYMOUS, 32
-- EXTERNAL, and nothing more
abbrev pub mechanisms_sum : Choice → ℕ
mechanisms_sum choice = one_where choice.sha_512 1 + one_where choice.sha_256 2 + one_where choice.sha_1 4
    + one_where choice.plain 8 + one_where choice.anonymous 16 + one_where choice.external 32

-- the sum of the flags' numbers: 64 if SCRAM accepts the GS2 flag `y` (RFC 5802, section 6), the number of the form of PLAIN's
-- passwords, 512 if an init without an initial response is answered by a challenge, 1024 if the signature is sent in one (RFC
-- 4422, section 5), 2048 if SCRAM is strict: it reads messages by the grammar of RFC 5802, section 7, and 4096 if it rejects
-- what is no extension in the place of one, and nothing more
abbrev pub flags_sum : Choice → ℕ
flags_sum choice = one_where choice.reject_misplaced 4096 + one_where choice.strict 2048
    + one_where choice.signature_by_challenge 1024 + one_where choice.initial_response_by_challenge 512
    + passwords_number choice.passwords + one_where choice.cbind_flag_y 64

-- the choice is that of these two numbers
abbrev pub IsChoice : ℕ → ℕ → Choice → Type 0
IsChoice mechanisms flags choice = (mechanisms_sum choice ≡ mechanisms) × (flags_sum choice ≡ flags)

-- the tests of the two numbers, in their order
abbrev pub choice_tests : ℕ → ℕ → List (Status × Type 0)
choice_tests mechanisms flags = (statuses.NoSuchMechanism, (choice : Choice) → mechanisms_sum choice ≢ mechanisms)
    ∷ (statuses.NoSuchChoice, (choice : Choice) → flags_sum choice ≢ flags) ∷ []

-- the mechanisms that may be offered
abbrev pub mechanisms_for : Choice → Mechanisms
mechanisms_for choice = record {
  scram_sha_512 = choice.sha_512;
  scram_sha_256 = choice.sha_256;
  scram_sha_1 = choice.sha_1;
  plain = choice.plain;
  anonymous = choice.anonymous;
  external = choice.external;
}

-- the challenges that are sent beyond those of the mechanisms
abbrev pub extra_for : Choice → ExtraChallenges
extra_for choice = record {
  initial_response = choice.initial_response_by_challenge;
  signature = choice.signature_by_challenge;
}

-- the records that an array of structs shows, in their order, each for this user
abbrev pub ShowRecords : List ℕ → List Kept → MultiRecords → Type 0
ShowRecords user [] records = records ≡ []
ShowRecords user (kept ∷ more) records =
    ((shown : VersionedRecord) × (rest : MultiRecords) × ShowsRecord kept shown × ShowRecords user more rest
    × (records ≡ (user, shown) ∷ rest))
    ⊎ (((shown : VersionedRecord) → ¬ ShowsRecord kept shown) × ShowRecords user more records)

-- the records with that of one more struct after them, if it shows one
abbrev pub AddsRecord : List ℕ → Kept → MultiRecords → MultiRecords → Type 0
AddsRecord user kept before after =
    ((shown : VersionedRecord) × ShowsRecord kept shown × (after ≡ before ++ ((user, shown) ∷ [])))
    ⊎ (((shown : VersionedRecord) → ¬ ShowsRecord kept shown) × (after ≡ before))

-- the records of a configuration (RFC 5802, section 3)
abbrev pub HasRecords : Config → MultiRecords → Type 0
HasRecords config records = ShowRecords config.username.now config.records.now records

-- the hash by which PLAIN hashes the password of a user without records: the first of SHA-256, SHA-512 and SHA-1 by which SCRAM
-- is offered, or otherwise SHA-256
abbrev pub version_of_unknown : Mechanisms → ScramVersion
version_of_unknown mechanisms = if mechanisms.scram_sha_256 then Sha256 else (if mechanisms.scram_sha_512 then Sha512
    else (if mechanisms.scram_sha_1 then Sha1 else Sha256))

-- and that of a user with these records: the hash of the first one
abbrev pub plain_version_for : Mechanisms → MultiRecords → ScramVersion
plain_version_for mechanisms [] = version_of_unknown mechanisms
plain_version_for mechanisms (user ∷ users) = user.1.version

-- mock authentication by this secret, with salts of this length and this iteration count. By the empty secret there is none
abbrev pub mock_by : List ℕ → ℕ → ℕ → Option MockChoice
mock_by [] salt_len count = None
mock_by (byte ∷ secret) salt_len count = Some (record { secret = byte ∷ secret; salt_len = salt_len; count = count })

-- and that of a configuration
abbrev pub mock_of : Config → Option MockChoice
mock_of config = mock_by config.mock_secret.now config.mock_salt_len config.iterations

-- the salts of its mock records are longer than a digest of SHA-512
abbrev pub HasLongSalt : Config → Type 0
HasLongSalt config = (config.mock_secret.now ≢ []) × (64 < config.mock_salt_len)

-- the settings of the library's server. PLAIN is offered if the configuration says so
abbrev pub settings_for : Config → Choice → MultiRecords → ServerSettings
settings_for config choice records = record {
  records = records;
  mechanisms = mechanisms_for choice;
  rules = record {
    accept_cbind_flag_y = choice.cbind_flag_y;
    strict = choice.strict;
    reject_misplaced = choice.reject_misplaced;
    channels = channels_of config.channels;
    accept_authzid = is_set config.accept_authzid;
  };
  rights = rights_for config.username.now config.identities.now;
  mock = mock_of config;
  plain_version = plain_version_for (mechanisms_for choice) records;
  plain_count = Some config.iterations;
  plain_passwords = choice.passwords;
  extra = extra_for choice;
  is_tls = true;
  external = config.external_authcid.now;
}

-- these are the settings of a configuration
abbrev pub AreSettings : Config → ServerSettings → Type 0
AreSettings config settings = (choice : Choice) × (records : MultiRecords) × IsChoice config.mechanisms config.flags choice
    × HasRecords config records × (settings ≡ settings_for config choice records)

-- the servers that a configuration can reach while more bytes are expected: those with its settings, which have rejected
-- nothing
abbrev pub ServerIsReached : Config → Progress → Logged → Type 0
ServerIsReached config InProgress logged = AreSettings config logged.server.settings × (logged.rejection ≡ None)
ServerIsReached config Authenticated logged = Unit {0}
ServerIsReached config (Failed why) logged = Unit {0}

-- the struct of SCRAM restores how far a login has come that is not finished, with these settings
abbrev pub RestoresStage : ScramStruct → ServerAt → Type 0
RestoresStage scram server = (kept : KeptStage) × IsUnfinished kept × ShowsStage scram kept
    × (server.stage ≡ restored_stage server.settings kept)

-- the struct of SCRAM holds what a login of this progress needs: what restores the server, the authenticated user with the
-- identity that it acts for, or nothing once it is closed
abbrev pub ShowsState : ScramStruct → Progress → Logged → Type 0
ShowsState scram InProgress logged = RestoresStage scram logged.server
ShowsState scram Authenticated logged = ShowsStage scram (kept_stage logged.server.stage)
ShowsState scram (Failed why) logged = scram.state ≡ 0

-- the struct of SCRAM that a call writes for a login of this progress and stage
abbrev pub progress_struct : Progress → KeptStage → Option Rejection → ScramStruct
progress_struct (Failed why) stage rejection = rejected_struct (rejection_number rejection)
progress_struct other stage rejection = stage_struct stage

-- the struct that a call writes for a server
abbrev pub state_struct : Progress → Logged → ScramStruct
state_struct progress logged = progress_struct progress (kept_stage logged.server.stage) logged.rejection

-- the struct of SCRAM shows a login of this progress and stage, after a call
abbrev pub ShowsProgress : ScramStruct → Progress → KeptStage → Type 0
ShowsProgress scram (Failed why) stage = scram.state ≡ 0
ShowsProgress scram other stage = ShowsStage scram stage

abbrev pub ShowsNext : ScramStruct → Progress → Logged → Type 0
ShowsNext scram progress logged = ShowsProgress scram progress (kept_stage logged.server.stage)

-- the structs show a side, where this says what the one of SCRAM shows of its acceptor
abbrev pub ShowsBy : {A S : Type 0} → (A → S) → (ScramStruct → Progress → A → Type 0) → Struct → ServerConnectionSide A
    → Type 0
ShowsBy state shows server next = let side = server_side state next in
    Keeps server.connection side.progress side.expected side.held × shows server.scram side.progress (acceptor_in next)

-- the structs that a call writes for a side
abbrev pub struct_by : {A S : Type 0} → (A → S) → (Progress → A → ScramStruct) → ServerConnectionSide A → Struct
struct_by state written next = let side = server_side state next in record {
  connection = connection_struct (extended_in next) side.progress side.expected side.held;
  scram = written side.progress (acceptor_in next);
}

-- no structs do: more is held than has room in one, or none shows how far the acceptor is
abbrev pub HasNone : {A S : Type 0} → (A → S) → (ScramStruct → Progress → A → Type 0) → ServerConnectionSide A → Type 0
HasNone state shows next = let side = server_side state next in
    (512 < length side.held) ⊎ ((scram : ScramStruct) → ¬ shows scram side.progress (acceptor_in next))

-- the structs show a side of the library's acceptor
unfoldable pub ShowsSide : Struct → Side Logged → Type 0
ShowsSide server side = Keeps server.connection side.progress side.expected side.held
    × ShowsState server.scram side.progress side.state

-- the structs that a call writes for a side of the library's acceptor, by whether the side accepts extended headers
abbrev pub side_struct : Bool → Side Logged → Struct
side_struct accepts side = record {
  connection = connection_struct accepts side.progress side.expected side.held;
  scram = state_struct side.progress side.state;
}

-- the structs are those of this side, whose frames have at most 512 bytes (part 5, section 5.3.1)
unfoldable pub IsServer : Config → Struct → Side Logged → Type 0
IsServer config server side = ShowsSide server side × (side.limit ≡ 512) × ServerIsReached config side.progress side.state

-- the words of a configuration are not UTF-8: the user's name, or otherwise the peer's, or otherwise the identities
abbrev pub HasNoServerWords : Config → Status → Type 0
HasNoServerWords config status = (status ≡ statuses.NotUtf8)
    × (¬ IsUtf8 config.username.now ⊎ (IsUtf8 config.username.now × ¬ IsUtf8 config.external_authcid.now)
    ⊎ (IsUtf8 config.username.now × IsUtf8 config.external_authcid.now × ¬ IsUtf8 config.identities.now))

-- the tests of a configuration, in their order
abbrev pub config_tests : Config → List (Status × Type 0)
config_tests config = (statuses.NoSuchMechanism, (choice : Choice) → mechanisms_sum choice ≢ config.mechanisms)
    ∷ (statuses.NoSuchChoice, (choice : Choice) → flags_sum choice ≢ config.flags)
    ∷ (statuses.NotUtf8, ¬ IsUtf8 config.username.now) ∷ (statuses.NotUtf8, ¬ IsUtf8 config.external_authcid.now)
    ∷ (statuses.NotUtf8, ¬ IsUtf8 config.identities.now)
    ∷ (statuses.ChannelDataLength, HasLongData config.channels) ∷ (statuses.TooLong, HasLongSalt config) ∷ []

-- why a configuration has no server: a test that holds, or a server that would offer nothing, in place of which ANONYMOUS were
-- offered (part 5, section 5.3.3.1)
unfoldable pub IsNoConfig : Config → Status → Type 0
IsNoConfig config status = IsFirst (config_tests config) status
    ⊎ (NoneHolds (config_tests config) × (status ≡ statuses.NoSuchMechanism)
    × ((settings : ServerSettings) × AreSettings config settings × (offers_any settings ≡ false)))

-- why the structs are those of no side that expects more bytes: the tests of the connection, those of the configuration, and last
-- that what was kept is a part of what is expected
unfoldable pub IsNoServer : Config → Struct → Status → Type 0
IsNoServer config server status = IsFirst (side_tests server.connection) status
    ⊎ (NoneHolds (side_tests server.connection) × (IsNoConfig config status
    ⊎ ((status ≡ statuses.InvalidSnapshot) × KeepsNoPartOf server_due server.connection
    × ((settings : ServerSettings) × AreSettings config settings) × ((why : Status) → ¬ IsNoConfig config why))))

-- what a side of a server makes of bytes, by whether it accepts extended headers
abbrev pub ServerTakes : {S : Type 0} → Bool → (S → List (List ℕ)) → (S → List ℕ → SaslFrame → SaslFrame → S → Type 0)
    → Receiving S
ServerTakes accepts names machine = Receives (Reading accepts (ServerSideAnswers names machine))

-- a call answers bytes, if the structs and the configuration have no fault: between two structs, what the library's side of
-- the connection makes of them, which accepts extended headers if the struct says so
unfoldable pub Received : Config → List ℕ → List ℕ → Struct → Struct → ℕ → List ℕ → Type 0
Received config bytes nonce before after taken sent = ((status : Status) → ¬ IsNoServer config before status)
    × ((side next : Side Logged) × IsServer config before side × (side.progress ≡ InProgress)
    × ServerTakes (accepts_extended before.connection) server_names server_machine side bytes nonce taken sent next
    × IsServer config after next × (after ≡ side_struct (accepts_extended before.connection) next))

-- or it does not, because the structs are those of no side, or no struct is that of the side after the call
unfoldable pub NotReceived : Config → List ℕ → List ℕ → Struct → Status → Type 0
NotReceived config bytes nonce before status = IsNoServer config before status
    ⊎ ((status ≡ statuses.TooLong) × ((side next : Side Logged) × (taken : ℕ) × (sent : List ℕ)
    × IsServer config before side × (side.progress ≡ InProgress)
    × ServerTakes (accepts_extended before.connection) server_names server_machine side bytes nonce taken sent next
    × ((other : Struct) → ¬ IsServer config other next)))

-- what a call makes of bytes
abbrev pub ReceivesAsServer : Config → List ℕ → List ℕ → Struct → Struct → ℕ → Result (List ℕ) Status → Type 0
ReceivesAsServer config bytes nonce before after taken (Ok sent) = Received config bytes nonce before after taken sent
ReceivesAsServer config bytes nonce before after taken (Err status) = NotReceived config bytes nonce before status

-- ---- the user name that a frame claims

-- a response names this user: that of the challenge that is open, or, where an init was asked for its initial response,
-- the user that the initial response names
abbrev pub AnswerNames : ScramStruct → List ℕ → List ℕ → Type 0
AnswerNames scram text name = ((challenge : ServerChallenge) × IsOpen scram challenge × (name ≡ challenge.user))
    ⊎ ((mechanism : Mechanism) × (nonce : List ℕ) × HasAsked scram mechanism nonce
    × ClaimsUser (mechanism_symbol mechanism) text name)

-- a frame in turn names this user: an init, or a response
abbrev pub FrameNames : ScramStruct → FrameKind → SaslFrame → List ℕ → Type 0
FrameNames scram turns.Init (frames.Init mechanism response hostname) name = ClaimIn mechanism response (Some name)
FrameNames scram turns.Response (frames.Response text) name = AnswerNames scram text name
FrameNames scram turn frame name = ⊥

-- a body names this user
abbrev pub BodyNames : ScramStruct → FrameKind → List ℕ → List ℕ → Type 0
BodyNames scram turn body name = (frame : SaslFrame) × SpellsBody body (Ok frame) × FrameNames scram turn frame name

-- or none: it cannot be parsed, or its frame claims no user name
abbrev pub BodyNamesNoUser : ScramStruct → FrameKind → List ℕ → Type 0
BodyNamesNoUser scram turn body = ((fault : Error) × SpellsBody body (Err fault))
    ⊎ ((frame : SaslFrame) × SpellsBody body (Ok frame) × ((name : List ℕ) → ¬ FrameNames scram turn frame name))

-- where memory is requested to find the user that an initial response claims, if there is one
abbrev pub ResponseAsks : List ℕ → Option (List ℕ) → Type 0
ResponseAsks mechanism (Some text) = ClaimAllocates mechanism text
ResponseAsks mechanism None = ⊥

-- and for a response: where a challenge is open, or for an initial response
abbrev pub AnswerNeedsMemory : ScramStruct → List ℕ → Type 0
AnswerNeedsMemory scram text = ((challenge : ServerChallenge) × IsOpen scram challenge)
    ⊎ ((mechanism : Mechanism) × (nonce : List ℕ) × HasAsked scram mechanism nonce
    × ClaimAllocates (mechanism_symbol mechanism) text)

-- and for a frame in turn: an init, or a response
abbrev pub FrameAsks : ScramStruct → FrameKind → SaslFrame → Type 0
FrameAsks scram turns.Init (frames.Init mechanism response hostname) = ResponseAsks mechanism response
FrameAsks scram turns.Response (frames.Response text) = AnswerNeedsMemory scram text
FrameAsks scram turn frame = ⊥

-- and for a body
abbrev pub BodyAsks : ScramStruct → FrameKind → List ℕ → Type 0
BodyAsks scram turn body = (frame : SaslFrame) × SpellsBody body (Ok frame) × FrameAsks scram turn frame

-- the body that the side of the structs reads of a frame: without its extended header, if it accepts these
abbrev pub read_by : Struct → List ℕ → List ℕ
read_by server body = body_read (accepts_extended server.connection) body

-- the user that the frame claims which these bytes complete
unfoldable pub Named : Struct → List ℕ → List ℕ → Type 0
Named server bytes name = (side : AnySide) × (turn : FrameKind) × (body : List ℕ) × IsSideOf server.connection side
    × Completes side bytes turn body × BodyNames server.scram turn (read_by server body) name

-- or why there is none: the structs are of no side that expects more bytes, or these complete no frame, or one that
-- claims no user name
unfoldable pub NotNamed : Struct → List ℕ → Status → Type 0
NotNamed server bytes status = IsFirst (side_tests server.connection) status
    ⊎ (NoneHolds (side_tests server.connection) × (((status ≡ statuses.InvalidSnapshot) × KeepsNoPart server.connection)
    ⊎ ((status ≡ statuses.NamesNoUser) × ((side : AnySide) × IsSideOf server.connection side
    × (side.progress ≡ InProgress) × (((turn : FrameKind) (body : List ℕ) → ¬ Completes side bytes turn body)
    ⊎ ((turn : FrameKind) × (body : List ℕ) × Completes side bytes turn body
    × BodyNamesNoUser server.scram turn (read_by server body)))))))

-- ---- the code's values

-- the side that a value is
abbrev pub side_in : ServerConnectionSide LoggedServer → Side Logged
side_in server = server_side state_of server

-- the options are those of a configuration with this choice, where PLAIN tests passwords against the records of this hash,
-- unknown users have these mock records, and this user may act for these identities
abbrev pub HasOptions : Config → Choice → ScramVersion → Option MockChoice → List ℕ → List ℕ → ServerOptions → Type 0
HasOptions config choice version mock user identities options = options ≡ record {
  mechanisms = mechanisms_for choice;
  mock = mock;
  rights = rights_for user identities;
  accept_authzid = is_set config.accept_authzid;
  strict = choice.strict;
  reject_misplaced = choice.reject_misplaced;
  accept_cbind_flag_y = choice.cbind_flag_y;
  plain_version = version;
  plain_iterations = Some config.iterations;
  plain_passwords = choice.passwords;
  extra_challenges = extra_for choice;
}

-- what a server borrows is that of a configuration
abbrev pub IsPrepared : Config → Prepared → Type 0
IsPrepared config prepared = AreSettings config (settings_with prepared.records prepared.options prepared.transport)
