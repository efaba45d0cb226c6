-- A SCRAM client that is kept in structs of C between its calls (RFC 5802, sections 3 and 5).
use Rattle.std.specs.Prelude.{◌≡◌, ◌≢◌, ◌<◌, ◌≤◌, ◌⊎◌, ◌+◌, ◌==◌, ◌&&◌, ℕ, Bool, true, false, nat_eq, if◌then◌else◌, List, [], ◌∷◌, ◌++◌, length, replicate, take, Option, Some, None, Result, Ok, Err}
use Rattle.std.specs.Str.{IsUtf8}
use Rattle.fe2o3_scram.specs.declared.scram_messages.client_channel.ClientChannel.{ClientChannel}
use Rattle.fe2o3_scram.specs.ChannelBinding.{ClientHeader, header_of}
use Rattle.fe2o3_scram.specs.declared.hmac.ScramVersion.{ScramVersion}
use Rattle.fe2o3_scram.specs.declared.scram_messages.error.ScramErrorKind.{ScramErrorKind}
use Rattle.fe2o3_scram.specs.declared.scram_messages.error.ScramErrorKind.TheVariants.{IllegalClientState, ServerSignatureMismatch, Utf8Error}
use Rattle.fe2o3_scram.specs.ClientFinal.{Answer}
use Rattle.fe2o3_scram.specs.ClientFirst.{client_first_bare, client_first_with}
use Rattle.fe2o3_scram.specs.ClientKeys.{ClientKeys}
use Rattle.fe2o3_scram.specs.ClientSecret.{Secret, Password, Keys, Both}
use Rattle.fe2o3_scram.specs.ScramClient.{AnswersIn, VerifiesIn, ClientSide, ClientState, ClientInitial, ClientFirstSent, ClientFinalSent, SignatureVerified, Complete, started, header_in, identity_named}
use Rattle.fe2o3_scram.specs.Hmac.{zero_filled}
use Rattle.fe2o3_scram.specs.Readings.{IsFirst, NoneHolds}
use Rattle.fe2o3_scram.specs.ServerFinal.{ReachesVerifier}
use Rattle.fe2o3_scram.specs.ServerErrors.{NamesServerError}
use Rattle.fe2o3_scram.specs.declared.scram_messages.server_error.ServerError.{ServerError}
use Rattle.fe2o3_scram.specs.Texts.{Without, base64_text}
use Rattle.sasl_c.specs.declared.client.ScramClient.{ScramClient as Struct}
use Rattle.sasl_c.specs.declared.login.Login.{Login}
use Rattle.sasl_c.specs.declared.keys.ScramKeys.{ScramKeys as KeysStruct}
use Rattle.sasl_c.specs.declared.status.Status.{Status}
use Rattle.sasl_c.specs.declared.status.Status.TheVariants as statuses
use Rattle.sasl_c.specs.declared.status.WriteError.{WriteError}
use Rattle.sasl_c.specs.Channels.{IsChannel, channel_more, channel_tests, identity_more}
use Rattle.sasl_c.specs.Keys.{KeysHaveRoom, ShowsKeys, WritesKeys, no_keys_struct}
use Rattle.sasl_c.specs.Passwords.{IsPassword, password_tests}
use Rattle.sasl_c.specs.Records.{IsVersion}
use Rattle.sasl_c.specs.Status.{client_status}

-- the number of the secret that a login uses: instead of both the password, where there are no keys yet
abbrev pub secret_used : Login → ℕ
secret_used login = if login.secret == 2 && login.keys.now.version == 0 then 0 else login.secret

-- the secret of a login: its password, its keys, or both
abbrev pub IsSecretOf : Login → Secret → Type 0
IsSecretOf login (Password password) = (secret_used login ≡ 0) × IsPassword login.form login.password.now password
IsSecretOf login (Keys keys) = (secret_used login ≡ 1) × ShowsKeys login.keys.now keys
IsSecretOf login (Both password keys) = (secret_used login ≡ 2) × IsPassword login.form login.password.now password
    × ShowsKeys login.keys.now keys

-- whether a flag is set: every number but zero sets it
abbrev pub is_set : ℕ → Bool
is_set flag = if nat_eq flag 0 then false else true

-- the number that a call writes for a flag
abbrev pub flag_number : Bool → ℕ
flag_number true = 1
flag_number false = 0

-- what a login says of its channel
abbrev pub IsChannelOf : Login → ClientChannel → Type 0
IsChannelOf login channel = IsChannel login.channel_use login.channel_kind login.channel_data_len login.channel_data channel

-- a login can name this identity (RFC 4422, section 3.4.1): it has no zero byte, and 256 bytes at most. The empty one names
-- none
abbrev pub CanBeNamed : List ℕ → Type 0
CanBeNamed name = Without 0 name × (length name ≤ 256)

-- what a login says in the header of its messages (RFC 5802, section 7): its channel, and the identity that it names
abbrev pub IsHeaderOf : Login → ClientHeader → Type 0
IsHeaderOf login header = IsChannelOf login header.channel
    × (header.acts_for ≡ identity_named (Some login.acts_for.now)) × CanBeNamed login.acts_for.now

-- a client of this login
pub record IsClientOf (login : Login) (side : ClientSide) : Type 0 where
  pub version : IsVersion login.version side.version
  pub user : side.user ≡ login.username.now
  pub secret : IsSecretOf login side.secret
  pub least : side.limits.min_iterations ≡ login.min_iterations
  pub most : side.limits.max_iterations ≡ login.max_iterations
  pub header : IsHeaderOf login (header_in side)
  pub strict : side.strict ≡ is_set login.strict
  pub signed : side.signature_by_challenge ≡ is_set login.signature_by_challenge

-- the tests of the keys of a login, in their order
abbrev pub keys_tests : Login → List (Status × Type 0)
keys_tests login = (statuses.NoKeys, (keys : ClientKeys) → ¬ ShowsKeys login.keys.now keys)
    ∷ (statuses.OtherVersion, login.keys.now.version ≢ login.version) ∷ []

-- why a login has no secret: the first test that holds of its password, of its keys, or of both in this order
unfoldable pub IsNoSecret : Login → Status → Type 0
IsNoSecret login status = ((secret_used login ≡ 0) × IsFirst (password_tests login.form login.password.now) status)
    ⊎ ((secret_used login ≡ 1) × IsFirst (keys_tests login) status)
    ⊎ ((secret_used login ≡ 2) × (IsFirst (password_tests login.form login.password.now) status
    ⊎ (NoneHolds (password_tests login.form login.password.now) × IsFirst (keys_tests login) status)))
    ⊎ ((2 < secret_used login) × (status ≡ statuses.NoSuchSecret))

-- the tests of an identity, in their order
abbrev pub identity_tests : List ℕ → List (Status × Type 0)
identity_tests name = (statuses.NotUtf8, ¬ IsUtf8 name) ∷ (statuses.ProhibitedCharacter, ¬ Without 0 name)
    ∷ (statuses.TooLong, 256 < length name) ∷ []

-- the tests of its identity and its channel, in their order
abbrev pub header_tests : Login → List (Status × Type 0)
header_tests login = identity_tests login.acts_for.now
    ++ channel_tests login.channel_use login.channel_kind login.channel_data_len

-- the tests of its version, its user, its identity and its channel, in their order
abbrev pub name_tests : Login → List (Status × Type 0)
name_tests login = (statuses.NoSuchVersion, (known : ScramVersion) → ¬ IsVersion login.version known)
    ∷ (statuses.NotUtf8, ¬ IsUtf8 login.username.now) ∷ header_tests login

-- why a login is none: the first test that holds, and the secret's are the last
abbrev pub IsNoLogin : Login → Status → Type 0
IsNoLogin login status = IsFirst (name_tests login) status ⊎ (NoneHolds (name_tests login) × IsNoSecret login status)

-- the login has a secret: it has one, and no test of it holds
unfoldable pub HasSecret : Login → Type 0
HasSecret login = ((secret : Secret) × IsSecretOf login secret) × ((status : Status) → ¬ IsNoSecret login status)

-- no test of the login holds
abbrev pub IsTestedLogin : Login → Type 0
IsTestedLogin login = NoneHolds (name_tests login) × HasSecret login

-- the struct holds no keys
abbrev pub HoldsNone : KeysStruct → Type 0
HoldsNone kept = (keys : ClientKeys) → ¬ ShowsKeys kept keys

-- the struct holds the keys of a client, where it has some that have room
abbrev pub Holds : KeysStruct → Option ClientKeys → Type 0
Holds kept None = HoldsNone kept
Holds kept (Some keys) = ShowsKeys kept keys ⊎ (¬ KeysHaveRoom keys × HoldsNone kept)

-- the struct of a client of this user in this state: what was sent last, 1 for the client-first message and 2 for the
-- client-final message; 3 is a login whose server was authenticated, 4 one whose server was authenticated by a challenge
-- and whose outcome is open, and every other number a client that has sent nothing
abbrev pub IsState : List ℕ → Struct → ClientState → Type 0
IsState user client ClientInitial = (client.state ≢ 1) × (client.state ≢ 4)
    × (client.state ≡ 2 → 64 < client.signature_len)
IsState user client (ClientFirstSent nonce bare) = (client.state ≡ 1) × (nonce ≡ base64_text client.nonce)
    × (bare ≡ client_first_bare user nonce)
IsState user client (ClientFinalSent signature keys) = (client.state ≡ 2) × (client.signature_len ≤ 64)
    × (signature ≡ take client.signature_len client.signature) × Holds client.keys keys
IsState user client (SignatureVerified keys) = (client.state ≡ 4) × Holds client.keys keys
IsState user client (Complete keys) = (client.state ≡ 3) × Holds client.keys keys

-- the struct expects a signature
abbrev pub AwaitsSignature : Struct → Type 0
AwaitsSignature client = (client.state ≡ 2) × (client.signature_len ≤ 64)

-- what holds of each state that a client reaches: its message is that of its user, and the signature that it expects has
-- room
abbrev pub IsReached : List ℕ → ClientState → Type 0
IsReached user (ClientFirstSent nonce bare) = bare ≡ client_first_bare user nonce
IsReached user (ClientFinalSent signature keys) = length signature ≤ 64
IsReached user state = Unit {0}

-- the structs are those of this client
abbrev pub IsSide : Login → Struct → ClientSide → Type 0
IsSide login client side = IsClientOf login side × IsState side.user client side.state

-- ---- the structs that calls write: every field that a state does not name is zero, and so is each byte after a length

-- of a client that has sent nothing
abbrev pub fresh_client_struct : Struct
fresh_client_struct = record {
  state = 0;
  signature_len = 0;
  nonce = replicate 32 0;
  signature = replicate 64 0;
  keys = no_keys_struct;
}

-- of one that has sent its client-first message, with this nonce
abbrev pub started_struct : List ℕ → Struct
started_struct nonce = record {
  state = 1;
  signature_len = 0;
  nonce = nonce;
  signature = replicate 64 0;
  keys = no_keys_struct;
}

-- of one that has sent its client-final message, and expects this signature
abbrev pub waiting_struct : List ℕ → KeysStruct → Struct
waiting_struct signature keys = record {
  state = 2;
  signature_len = length signature;
  nonce = replicate 32 0;
  signature = zero_filled 64 signature;
  keys = keys;
}

-- of one whose login is complete
abbrev pub complete_struct : KeysStruct → Struct
complete_struct keys = record {
  state = 3;
  signature_len = 0;
  nonce = replicate 32 0;
  signature = replicate 64 0;
  keys = keys;
}

-- of one whose server was authenticated by a challenge, and whose outcome is open
abbrev pub verified_struct : KeysStruct → Struct
verified_struct keys = record {
  state = 4;
  signature_len = 0;
  nonce = replicate 32 0;
  signature = replicate 64 0;
  keys = keys;
}

-- the struct that a call writes for a client in this state
abbrev pub WritesClient : Struct → ClientState → Type 0
WritesClient written ClientInitial = written ≡ fresh_client_struct
WritesClient written (ClientFirstSent nonce bare) = (bytes : List ℕ) × (nonce ≡ base64_text bytes)
    × (written ≡ started_struct bytes)
WritesClient written (ClientFinalSent signature keys) = (kept : KeysStruct) × WritesKeys kept keys
    × (written ≡ waiting_struct signature kept)
WritesClient written (SignatureVerified keys) = (kept : KeysStruct) × WritesKeys kept keys
    × (written ≡ verified_struct kept)
WritesClient written (Complete keys) = (kept : KeysStruct) × WritesKeys kept keys × (written ≡ complete_struct kept)

-- ---- what the calls return (RFC 5802, section 5), and the struct after them

-- the client-first message, if no test of the login holds
abbrev pub Starts : Login → List ℕ → Result (List ℕ) Status → Type 0
Starts login nonce (Ok message) = (side : ClientSide) × IsClientOf login side
    × (message ≡ client_first_with (header_of (header_in side)) side.user (base64_text nonce)) × IsTestedLogin login
Starts login nonce (Err status) = IsNoLogin login status

-- the struct after it
abbrev pub StartsClient : Login → List ℕ → Struct → Struct → Result (Unit {0}) WriteError → Type 0
StartsClient login nonce before after (Ok done) = ((side : ClientSide) × IsClientOf login side
    × IsSide login after (started side nonce)) × (after ≡ started_struct nonce)
StartsClient login nonce before after (Err why) = after ≡ before

-- an error of the library for the client of a struct
abbrev pub Refuses : Login → Struct → (ClientSide → ScramErrorKind → Type 0) → Status → Type 0
Refuses login before Because status = (why : ScramErrorKind) × (status ≡ client_status why)
    × ((side : ClientSide) × IsSide login before side × Because side why)

-- the struct's client answers a server-first message by this one, and is this client then
unfoldable pub AnswersByMessage : Login → Struct → List ℕ → List ℕ → ClientSide → Type 0
AnswersByMessage login before text message next = (side : ClientSide) × IsSide login before side
    × AnswersIn side.state side text (Ok message) next

-- an answer to a text: its message is the one by which the struct's client answers, and its signature and its keys are
-- those of the client after it
abbrev pub IsAnswer : Login → Struct → List ℕ → Answer → Type 0
IsAnswer login before text answer = (next : ClientSide) × AnswersByMessage login before text answer.message next
    × (next.state ≡ ClientFinalSent answer.signature (Some answer.keys))

-- why a text is not answered: there is no such login, or its client rejects the text
unfoldable pub NotAnswered : Login → Struct → List ℕ → Status → Type 0
NotAnswered login before text status = IsNoLogin login status
    ⊎ Refuses login before (λ side why. AnswersIn side.state side text (Err why) side) status

-- the client-final message, if no test of the login holds; bytes that are not UTF-8 are rejected first
unfoldable pub Responds : Login → List ℕ → Struct → Struct → Result (List ℕ) Status → Type 0
Responds login text before after (Ok message) = (next : ClientSide) × AnswersByMessage login before text message next
    × IsSide login after next × WritesClient after next.state × IsTestedLogin login
Responds login text before after (Err status) = ((status ≡ client_status Utf8Error) × ¬ IsUtf8 text)
    ⊎ (IsUtf8 text × NotAnswered login before text status)

-- how many bytes more than the server-first message the room for its answer has
abbrev pub answer_more : Login → ℕ
answer_more login = channel_more login.channel_use + identity_more login.acts_for.now

-- memory is requested to answer a server-first message: the message is UTF-8, the login is one, and its client-first
-- message was sent last
abbrev pub AnswerAsks : Login → List ℕ → Struct → Type 0
AnswerAsks login text before = IsUtf8 text × IsTestedLogin login × (before.state ≡ 1)

-- memory is requested to verify a server-final message: the login is one, its client waits for a signature, and the
-- message is read as far as its own
abbrev pub VerifyAsks : Login → List ℕ → Struct → Type 0
VerifyAsks login text before = IsTestedLogin login × AwaitsSignature before × ReachesVerifier text

-- the status of why a client rejects a server-final message: an error of the server in the place of its signature (RFC
-- 5802, section 7) has its own
abbrev pub IsVerifyStatus : List ℕ → ScramErrorKind → Status → Type 0
IsVerifyStatus text ServerSignatureMismatch status =
    ((status ≡ statuses.ServerError) × ((error : ServerError) × NamesServerError text error))
    ⊎ ((status ≡ client_status ServerSignatureMismatch) × ((error : ServerError) → ¬ NamesServerError text error))
IsVerifyStatus text why status = status ≡ client_status why

-- a server-final message is rejected by the client of a struct, with this status
abbrev pub NotVerified : Login → Struct → List ℕ → Status → Type 0
NotVerified login before text status = (why : ScramErrorKind) × IsVerifyStatus text why status
    × ((side : ClientSide) × IsSide login before side × VerifiesIn side.state side text (Err why) side)

-- the server is authenticated, and no test of the login holds; or it is not
unfoldable pub Verifies : Login → List ℕ → Struct → Struct → Result (Unit {0}) Status → Type 0
Verifies login text before after (Ok done) = (side next : ClientSide) × IsSide login before side
    × VerifiesIn side.state side text (Ok done) next × IsSide login after next × (after ≡ complete_struct before.keys)
    × IsTestedLogin login
Verifies login text before after (Err status) = (after ≡ before) × (status ≢ statuses.OutOfMemory
    → IsNoLogin login status ⊎ NotVerified login before text status)

-- the keys of a login whose server was authenticated, and of no other
abbrev pub HandsOut : Struct → Result KeysStruct Status → Type 0
HandsOut client (Ok keys) = (client.state ≡ 3) × (keys ≡ client.keys) × (keys.version ≢ 0)
HandsOut client (Err statuses.NoKeys) = (client.state ≡ 3) × (client.keys.version ≡ 0)
HandsOut client (Err status) = (client.state ≢ 3) × (status ≡ client_status IllegalClientState)
