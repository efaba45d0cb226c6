-- A SCRAM server that is kept in a struct of C between its calls (RFC 5802, sections 3 and 5).
use Rattle.std.specs.Prelude.{true, ◌≡◌, ◌<◌, ◌≤◌, ◌⊎◌, ℕ, List, [], ◌∷◌, length, replicate, take, nat_eq, if◌then◌else◌, Option, Some, None, Result, Ok, Err}
use Rattle.std.specs.Str.{IsUtf8}
use Rattle.fe2o3_scram.specs.declared.hmac.ScramVersion.{ScramVersion}
use Rattle.fe2o3_scram.specs.declared.scram_messages.error.ServerScramErrorKind.{ServerScramErrorKind}
use Rattle.fe2o3_scram.specs.declared.scram_messages.error.ServerScramErrorKind.TheVariants.{IllegalAuthenticatorState, OutOfMemory}
use Rattle.fe2o3_scram.specs.ChannelBinding.{TakesFlag, expected_header}
use Rattle.fe2o3_scram.specs.ClientFinal.{ReachesBase64}
use Rattle.fe2o3_scram.specs.declared.channel_binding.ChannelKind.TheVariants.{TlsUnique, TlsServerEndPoint, TlsExporter}
use Rattle.fe2o3_scram.specs.ClientFirst.{ClientFirst, HasEscapes, ReadsClientFirst}
use Rattle.fe2o3_scram.specs.declared.scram_messages.server_rules.ServerRules.{ServerRules}
use Rattle.fe2o3_scram.specs.declared.scram_messages.channel_binding_flag.ChannelBindingFlag.{ChannelBindingFlag}
use Rattle.fe2o3_scram.specs.declared.scram_messages.channel_binding_flag.ChannelBindingFlag.TheVariants.{NotSupported, ClientSupports, Required}
use Rattle.fe2o3_scram.specs.Credentials.{Store, VersionedRecord, serving}
use Rattle.fe2o3_scram.specs.Hmac.{zero_filled}
use Rattle.fe2o3_scram.specs.ScramServer.{ConcludesFrom, ServerFirstSent, ServerFinalSent, server_against}
use Rattle.fe2o3_scram.specs.ServerFinal.{FinalCosts}
use Rattle.fe2o3_scram.specs.ServerFirst.{AnswersClientFirst, ServerChallenge}
use Rattle.fe2o3_scram.specs.Texts.{base64_text}
use Rattle.fe2o3_sasl_core.specs.SavedServers.{KeptStage, KeptNothing, KeptAsked, KeptOpen, KeptSignature, KeptLogin}
use Rattle.fe2o3_sasl_core.specs.Mechanisms.{mechanism_symbol}
use Rattle.fe2o3_sasl_core.specs.declared.mechanism.Mechanism.{Mechanism}
use Rattle.sasl_c.specs.Acting.{rights_for}
use Rattle.sasl_c.specs.declared.records.ScramRecord.{ScramRecord as Kept}
use Rattle.sasl_c.specs.declared.server.ScramServer.{ScramServer as Struct}
use Rattle.sasl_c.specs.declared.status.Status.{Status}
use Rattle.sasl_c.specs.declared.status.Status.TheVariants as statuses
use Rattle.sasl_c.specs.Records.{IsVersion, ShowsSomeRecord, ShowsRecord, SpellsStruct}
use Rattle.sasl_c.specs.declared.status.WriteError.{WriteError}
use Rattle.sasl_c.specs.declared.status.WriteError.TheVariants.{RoomTooSmall, Other}
use Rattle.sasl_c.specs.Status.{Lacks, Room, server_status, version_number, with_written}

-- the store of one user
abbrev pub one_user : List ℕ → VersionedRecord → Store
one_user user shown = record { version = shown.version; records = (user, shown.stored) ∷ [] }

-- the empty text where there is none
abbrev pub or_empty : Option (List ℕ) → List ℕ
or_empty None = []
or_empty (Some text) = text

-- an identity that has room in a struct, in which no bytes are none
abbrev pub IdentityHasRoom : Option (List ℕ) → Type 0
IdentityHasRoom None = Unit {0}
IdentityHasRoom (Some name) = (0 < length name) × (length name ≤ 256)

-- a challenge that has room in a struct
abbrev pub ChallengeHasRoom : ServerChallenge → Type 0
ChallengeHasRoom challenge = (length challenge.user ≤ 256) × (length challenge.bare ≤ 1024) × (length challenge.nonce ≤ 512)
    × (length challenge.first ≤ 1024) × IdentityHasRoom challenge.header.acts_for

-- no length above that of its array
abbrev pub AreLengths : Struct → Type 0
AreLengths server = (server.user_len ≤ 256) × (server.bare_len ≤ 1024) × (server.nonce_len ≤ 512)
    × (server.first_len ≤ 1024)

-- the identity that is that many bytes of an array, or none of no bytes
abbrev pub identity_in : ℕ → List ℕ → Option (List ℕ)
identity_in len array = if nat_eq len 0 then None else Some (take len array)

-- the struct holds this identity to act for, or none (RFC 5802, section 5.1)
abbrev pub HoldsIdentity : Struct → Option (List ℕ) → Type 0
HoldsIdentity server acts_for = (server.acts_for_len ≤ 256)
    × (acts_for ≡ identity_in server.acts_for_len server.acts_for) × IdentityHasRoom acts_for

-- the number of a struct that shows a challenge to a client with this GS2 header
abbrev pub open_number : ChannelBindingFlag → ℕ
open_number NotSupported = 1
open_number ClientSupports = 3
open_number (Required TlsUnique) = 7
open_number (Required TlsServerEndPoint) = 8
open_number (Required TlsExporter) = 9

-- the challenge that a struct shows, to a client with this flag
abbrev pub struct_challenge : ChannelBindingFlag → Struct → ServerChallenge
struct_challenge flag server = record {
  user = take server.user_len server.user;
  header = record { flag = flag; acts_for = identity_in server.acts_for_len server.acts_for };
  bare = take server.bare_len server.bare;
  first = take server.first_len server.first;
  nonce = take server.nonce_len server.nonce;
}

-- the struct is that of a server whose challenge is open
abbrev pub IsOpen : Struct → ServerChallenge → Type 0
IsOpen server challenge = (server.state ≡ open_number challenge.header.flag) × AreLengths server
    × (challenge ≡ struct_challenge challenge.header.flag server) × IsUtf8 challenge.user
    × HoldsIdentity server challenge.header.acts_for × IsUtf8 (or_empty challenge.header.acts_for)

-- the struct's open challenge is one for a server with these rules: a server that binds channels has the data of the
-- client's kind, and one that binds none has a client that binds none; which of `n,,` and `y,,` the server accepts, and
-- whether it accepts identities, plays no part once the challenge is open
abbrev pub IsOpenFor : ServerRules → Struct → ServerChallenge → Type 0
IsOpenFor rules server challenge = IsOpen server challenge × TakesFlag rules.channels true challenge.header.flag

-- with this hash
abbrev pub IsOpenBy : Struct → ScramVersion → ServerChallenge → Type 0
IsOpenBy server version challenge = IsVersion server.version version × IsOpen server challenge

-- the struct is that of a server that has authenticated this user
abbrev pub IsAuthenticated : Struct → List ℕ → Type 0
IsAuthenticated server user = (server.state ≡ 2) × (server.user_len ≤ 256) × (user ≡ take server.user_len server.user)

-- the struct is that of a server that has authenticated this user for this identity, or for itself
abbrev pub IsLoggedIn : Struct → List ℕ → Option (List ℕ) → Type 0
IsLoggedIn server user acts_for = IsAuthenticated server user × HoldsIdentity server acts_for

-- the struct is that of a server that has sent its signature to this user, who acts for this identity or for itself, in a
-- challenge, which is not answered yet
abbrev pub HasSigned : Struct → List ℕ → Option (List ℕ) → Type 0
HasSigned server user acts_for = (server.state ≡ 4) × (server.user_len ≤ 256) × (user ≡ take server.user_len server.user)
    × IsUtf8 user × HoldsIdentity server acts_for × IsUtf8 (or_empty acts_for)

-- the struct is that of a server that has asked an init of this mechanism, with this nonce of 32 bytes, for its initial
-- response (AMQP 1.0, part 5, section 5.3.3.2; RFC 4422, section 5)
abbrev pub HasAsked : Struct → Mechanism → List ℕ → Type 0
HasAsked server mechanism nonce = (server.state ≡ 5) × (server.nonce_len ≡ 32) × (nonce ≡ take 32 server.nonce)
    × (server.first_len ≤ 1024) × (mechanism_symbol mechanism ≡ take server.first_len server.first)

-- the struct is that of a server that has logged this user in, for this identity or for itself. ANONYMOUS has no user
abbrev pub ShowsUser : Struct → Option (List ℕ) → Option (List ℕ) → Type 0
ShowsUser server None acts_for = server.state ≡ 0
ShowsUser server (Some user) acts_for = IsLoggedIn server user acts_for

-- the struct is that of a server that has sent its signature to this user, if there is one
abbrev pub ShowsSigned : Struct → Option (List ℕ) → Option (List ℕ) → Type 0
ShowsSigned server None acts_for = ⊥
ShowsSigned server (Some user) acts_for = HasSigned server user acts_for

-- the struct shows how far a login has come. By which mechanism a signature was sent or a user logged in it does not say
abbrev pub ShowsStage : Struct → KeptStage → Type 0
ShowsStage server KeptNothing =
    ((version : ScramVersion) (challenge : ServerChallenge) → ¬ IsOpenBy server version challenge)
    × ((user : List ℕ) (acts_for : Option (List ℕ)) → ¬ HasSigned server user acts_for)
    × ((mechanism : Mechanism) (nonce : List ℕ) → ¬ HasAsked server mechanism nonce)
ShowsStage server (KeptAsked mechanism nonce) = HasAsked server mechanism nonce
ShowsStage server (KeptOpen version challenge) = IsOpenBy server version challenge
ShowsStage server (KeptSignature login) = ShowsSigned server login.user login.acts_for
ShowsStage server (KeptLogin login) = ShowsUser server login.user login.acts_for

-- nobody has logged in
abbrev pub IsUnfinished : KeptStage → Type 0
IsUnfinished (KeptLogin login) = ⊥
IsUnfinished stage = Unit {0}

-- ---- the structs that calls write: every field that a state does not name is zero, and so is each byte after a length

-- of a server with no open challenge and no authenticated user
abbrev pub fresh_server_struct : Struct
fresh_server_struct = record {
  state = 0;
  version = 0;
  user_len = 0;
  bare_len = 0;
  nonce_len = 0;
  first_len = 0;
  acts_for_len = 0;
  rejection = 0;
  user = replicate 256 0;
  bare = replicate 1024 0;
  nonce = replicate 512 0;
  first = replicate 1024 0;
  acts_for = replicate 256 0;
}

-- of one that has rejected a login, for the reason of this number
abbrev pub rejected_struct : ℕ → Struct
rejected_struct number = record fresh_server_struct { rejection = number }

-- of one whose challenge is open, by the hash of this number
abbrev pub open_struct : ℕ → ServerChallenge → Struct
open_struct version challenge = record {
  state = open_number challenge.header.flag;
  version = version;
  user_len = length challenge.user;
  bare_len = length challenge.bare;
  nonce_len = length challenge.nonce;
  first_len = length challenge.first;
  acts_for_len = length (or_empty challenge.header.acts_for);
  rejection = 0;
  user = zero_filled 256 challenge.user;
  bare = zero_filled 1024 challenge.bare;
  nonce = zero_filled 512 challenge.nonce;
  first = zero_filled 1024 challenge.first;
  acts_for = zero_filled 256 (or_empty challenge.header.acts_for);
}

-- of one that keeps only a user and an identity, each that many bytes of an array, in the state of this number
abbrev pub user_struct : ℕ → ℕ → List ℕ → ℕ → List ℕ → Struct
user_struct state len array acts_len acts_array = record {
  state = state;
  version = 0;
  user_len = len;
  bare_len = 0;
  nonce_len = 0;
  first_len = 0;
  acts_for_len = acts_len;
  rejection = 0;
  user = array;
  bare = replicate 1024 0;
  nonce = replicate 512 0;
  first = replicate 1024 0;
  acts_for = acts_array;
}

-- of one that keeps this user and this identity
abbrev pub named_struct : ℕ → List ℕ → Option (List ℕ) → Struct
named_struct state user acts_for = user_struct state (length user) (zero_filled 256 user) (length (or_empty acts_for))
    (zero_filled 256 (or_empty acts_for))

-- of one that has authenticated this user for this identity, or for itself
abbrev pub authenticated_struct : List ℕ → Option (List ℕ) → Struct
authenticated_struct user acts_for = named_struct 2 user acts_for

-- of one that has sent its signature to this user in a challenge
abbrev pub signed_struct : List ℕ → Option (List ℕ) → Struct
signed_struct user acts_for = named_struct 4 user acts_for

-- of one that has asked an init for its initial response: the mechanism's name is where the server-first message is otherwise
abbrev pub asked_struct : Mechanism → List ℕ → Struct
asked_struct mechanism nonce = record {
  state = 5;
  version = 0;
  user_len = 0;
  bare_len = 0;
  nonce_len = 32;
  first_len = length (mechanism_symbol mechanism);
  acts_for_len = 0;
  rejection = 0;
  user = replicate 256 0;
  bare = replicate 1024 0;
  nonce = zero_filled 512 nonce;
  first = zero_filled 1024 (mechanism_symbol mechanism);
  acts_for = replicate 256 0;
}

-- of one that keeps a user in the state of this number, if there is one
abbrev pub struct_where : ℕ → Option (List ℕ) → Option (List ℕ) → Struct
struct_where state None acts_for = fresh_server_struct
struct_where state (Some user) acts_for = named_struct state user acts_for

-- of one whose login has come this far
abbrev pub stage_struct : KeptStage → Struct
stage_struct KeptNothing = fresh_server_struct
stage_struct (KeptAsked mechanism nonce) = asked_struct mechanism nonce
stage_struct (KeptOpen version challenge) = open_struct (version_number version) challenge
stage_struct (KeptSignature login) = struct_where 4 login.user login.acts_for
stage_struct (KeptLogin login) = struct_where 2 login.user login.acts_for

-- ---- what the calls return (RFC 5802, section 5), and the struct after them

-- a client-first message is answered by this challenge, by a server with these rules, where the record is that of the user
-- that it claims
unfoldable pub MakesChallenge : ServerRules → Kept → List ℕ → List ℕ → ServerChallenge → Type 0
MakesChallenge rules kept nonce text challenge = (shown : VersionedRecord) × (user : List ℕ) × ShowsRecord kept shown
    × AnswersClientFirst (serving rules (one_user user shown)) (base64_text nonce) text (Ok (Some challenge))

-- why a client-first message is not answered: it is rejected; or it is read, and the struct of the record shows none; or
-- there is a challenge, and a text of it has no room in the struct
unfoldable pub NotChallenged : ServerRules → Kept → List ℕ → List ℕ → Status → Type 0
NotChallenged rules kept nonce text status =
    ((why : ServerScramErrorKind) × (status ≡ server_status why) × ReadsClientFirst rules text (Err why))
    ⊎ ((first : ClientFirst) × ReadsClientFirst rules text (Ok first) × SpellsStruct kept (Err status))
    ⊎ ((status ≡ statuses.TooLong) × ((challenge : ServerChallenge) × MakesChallenge rules kept nonce text challenge
    × ¬ ChallengeHasRoom challenge))

-- memory is requested for a client-first message: its user name has escapes, or it is read
abbrev pub ReadsFirst : ServerRules → List ℕ → Type 0
ReadsFirst rules text = HasEscapes rules text ⊎ ((first : ClientFirst) × ReadsClientFirst rules text (Ok first))

-- the server-first message
abbrev pub Challenges : ServerRules → Kept → List ℕ → List ℕ → Result (List ℕ) Status → Type 0
Challenges rules kept nonce text (Ok message) = (challenge : ServerChallenge)
    × MakesChallenge rules kept nonce text challenge × (message ≡ challenge.first)
Challenges rules kept nonce text (Err status) = NotChallenged rules kept nonce text status

-- the struct after it
abbrev pub OpensExchange : ServerRules → Kept → List ℕ → List ℕ → Struct → Struct → Result (Unit {0}) WriteError → Type 0
OpensExchange rules kept nonce text before after (Ok done) = (challenge : ServerChallenge)
    × MakesChallenge rules kept nonce text challenge × IsOpen after challenge
    × (after ≡ open_struct kept.version challenge)
OpensExchange rules kept nonce text before after (Err why) = after ≡ before

-- the message of a challenge is written, and the struct that shows the challenge; or nothing changes, since the challenge
-- has no room in the struct, or its message none where it is to be written
abbrev pub WritesChallenge : ℕ → ServerChallenge → Struct → Struct → Room → Room → Result (Unit {0}) WriteError → Type 0
WritesChallenge version challenge before after room filled (Ok done) = IsOpen after challenge
    × (after ≡ open_struct version challenge)
    × (length challenge.first ≤ length room.bytes) × (filled.bytes ≡ with_written challenge.first room.bytes)
    × (filled.len ≡ length challenge.first)
WritesChallenge version challenge before after room filled (Err RoomTooSmall) = (after ≡ before)
    × (filled.bytes ≡ room.bytes) × Lacks room filled challenge.first
WritesChallenge version challenge before after room filled (Err (Other status)) = (after ≡ before)
    × (filled.bytes ≡ room.bytes) × (filled.len ≡ room.len) × (status ≡ statuses.TooLong) × ¬ ChallengeHasRoom challenge

-- the user name that a client-first message claims, read by these rules
abbrev pub ClaimedUser : ServerRules → List ℕ → Result (List ℕ) Status → Type 0
ClaimedUser rules text (Ok name) = (first : ClientFirst) × ReadsClientFirst rules text (Ok first) × (name ≡ first.user)
ClaimedUser rules text (Err status) = (why : ServerScramErrorKind) × (status ≡ server_status why)
    × ReadsClientFirst rules text (Err why)

-- the identity that it names, or the empty text if the client acts for itself
abbrev pub ClaimedIdentity : ServerRules → List ℕ → Result (List ℕ) Status → Type 0
ClaimedIdentity rules text (Ok name) = (first : ClientFirst) × ReadsClientFirst rules text (Ok first)
    × (name ≡ or_empty first.header.acts_for)
ClaimedIdentity rules text (Err status) = (why : ServerScramErrorKind) × (status ≡ server_status why)
    × ReadsClientFirst rules text (Err why)

-- the struct's open challenge is answered by this message of a server with these rules, where the record is that of its
-- user, who may act for the identities of this text
unfoldable pub ConcludesLogin : ServerRules → List ℕ → Kept → Struct → List ℕ → List ℕ → List ℕ → Option (List ℕ)
    → Type 0
ConcludesLogin rules identities kept before text message user acts_for = (challenge : ServerChallenge)
    × (shown : VersionedRecord) × IsOpenFor rules before challenge × ShowsRecord kept shown × (user ≡ challenge.user)
    × (acts_for ≡ challenge.header.acts_for)
    × ConcludesFrom (ServerFirstSent challenge shown.stored) shown.version rules (rights_for challenge.user identities)
    text (Ok (Some message)) (ServerFinalSent user acts_for)

-- memory is requested to answer a client-final message: a challenge is open, the struct of the record shows one, and
-- the message is read as far as its first base64 text
abbrev pub FinalAsks : ServerRules → Kept → List ℕ → Struct → Type 0
FinalAsks rules kept text before = ((challenge : ServerChallenge) × IsOpenFor rules before challenge
    × ReachesBase64 (expected_header rules.channels challenge.header) challenge.nonce text) × ShowsSomeRecord kept

-- the HMAC values of an answer that is out of memory, as a meter shows them before and after: none for a message that
-- is rejected, and at most two
abbrev pub MemoryCosts : ServerRules → List ℕ → Kept → List ℕ → Struct → ℕ → ℕ → Type 0
MemoryCosts rules identities kept text before counted after = (challenge : ServerChallenge) × (shown : VersionedRecord)
    × IsOpenFor rules before challenge × ShowsRecord kept shown
    × FinalCosts {A = Unit {0}}
    (server_against shown.version rules (rights_for challenge.user identities) challenge shown.stored) text
    (Err OutOfMemory) counted after

-- the server-final message of a server with these rules, whose user may act for the identities of this text, and the struct
-- after it; or that no challenge is open for these rules, or one is and the struct of the record shows none, or it shows one
-- and the message is rejected
unfoldable pub Concludes : ServerRules → List ℕ → Kept → List ℕ → Struct → Struct → Result (List ℕ) Status → Type 0
Concludes rules identities kept text before after (Ok message) = (user : List ℕ) × (acts_for : Option (List ℕ))
    × ConcludesLogin rules identities kept before text message user acts_for × IsLoggedIn after user acts_for
    × (after ≡ authenticated_struct user acts_for)
Concludes rules identities kept text before after (Err status) =
    ((status ≡ server_status IllegalAuthenticatorState)
    × ((challenge : ServerChallenge) → ¬ IsOpenFor rules before challenge))
    ⊎ ((challenge : ServerChallenge) × IsOpenFor rules before challenge × SpellsStruct kept (Err status))
    ⊎ ((why : ServerScramErrorKind) × (status ≡ server_status why)
    × ((challenge : ServerChallenge) × (shown : VersionedRecord) × IsOpenFor rules before challenge × ShowsRecord kept shown
    × ConcludesFrom (ServerFirstSent challenge shown.stored) shown.version rules (rights_for challenge.user identities)
    text (Err why) (ServerFirstSent challenge shown.stored)))

-- the authenticated user
abbrev pub TellsUser : Struct → Result (List ℕ) Status → Type 0
TellsUser server (Ok user) = IsAuthenticated server user
TellsUser server (Err status) = (status ≡ server_status IllegalAuthenticatorState)
    × ((user : List ℕ) → ¬ IsAuthenticated server user)

-- the identity that the authenticated user acts for, or the empty text if it acts for itself
abbrev pub TellsIdentity : Struct → Result (List ℕ) Status → Type 0
TellsIdentity server (Ok name) = (user : List ℕ) × (acts_for : Option (List ℕ)) × IsLoggedIn server user acts_for
    × (name ≡ or_empty acts_for)
TellsIdentity server (Err status) = (status ≡ server_status IllegalAuthenticatorState)
    × ((user : List ℕ) (acts_for : Option (List ℕ)) → ¬ IsLoggedIn server user acts_for)
