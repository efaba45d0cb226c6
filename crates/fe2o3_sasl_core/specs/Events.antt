-- What the two sides receive and answer, as plain data (AMQP 1.0, part 5, section 5.3), and what the code always holds
-- of it.
use Rattle.std.specs.Prelude.{◌≡◌, ℕ, Bool, ◌<◌, ◌^◌, List, length, slice_get, Option, Some, ◌||◌}
use Rattle.std.specs.Str.{IsUtf8}
use Rattle.fe2o3_sasl_wire.specs.SaslFrames.{IsBytes}
use Rattle.fe2o3_sasl_wire.specs.declared.amqp_types.SaslCode.{SaslCode}
use Rattle.fe2o3_sasl_wire.specs.declared.sasl_frames.error.Error.{Error}
use Rattle.fe2o3_scram.specs.ChannelBinding.{is_bound, mechanism_of, ClientHeader, HoldsHeaderBytes, needs_strict, authzid_text}
use Rattle.fe2o3_scram.specs.declared.scram_messages.client_channel.ClientChannel.{ClientChannel}
use Rattle.fe2o3_scram.specs.declared.hmac.ScramVersion.{ScramVersion}
use Rattle.fe2o3_scram.specs.declared.scram_messages.error.ScramErrorKind.{ScramErrorKind}
use Rattle.fe2o3_scram.specs.declared.scram_messages.error.ScramErrorKind.TheVariants as kinds
use Rattle.fe2o3_scram.specs.declared.client_secret.IterationLimits.{IterationLimits}
use Rattle.fe2o3_sasl_core.specs.declared.sasl_profile.error.ProfileError.{ProfileError}
use Rattle.fe2o3_sasl_core.specs.declared.sasl_profile.error.ProfileError.TheVariants.{Scram, StaleKeys}
use Rattle.fe2o3_scram.specs.ClientKeys.{AreSized}
use Rattle.fe2o3_scram.specs.ClientSecret.{Secret, Password, Keys, Both}
use Rattle.fe2o3_scram.specs.Credentials.{Record}

-- an event: the body of a frame as received, and 32 bytes, the nonce of an answer that needs one
pub record Given : Type 0 where
  pub body : List ℕ
  pub nonce : List ℕ

-- what a client logs in with: user name, secret and version, the iteration counts that it accepts, what it says of its
-- channel (RFC 5802, section 6), whom it acts for, or none if it acts for itself, whether it is set to be strict (it
-- rejects an attribute that RFC 5802 defines in the place of an extension), whether it accepts the server's signature
-- in a challenge too (RFC 4422, section 5), and the hostname that its init carries, if any (AMQP 1.0, part 5, section
-- 5.3.3.2)
pub record Login : Type 0 where
  pub user : List ℕ
  pub secret : Secret
  pub version : ScramVersion
  pub limits : IterationLimits
  pub channel : ClientChannel
  pub acts_for : Option (List ℕ)
  pub strict : Bool
  pub signature_by_challenge : Bool
  pub hostname : Option (List ℕ)

-- the mechanism that a login selects (RFC 5802, section 6)
abbrev pub login_mechanism : Login → List ℕ
login_mechanism login = mechanism_of login.version (is_bound login.channel)

-- the header of a login's messages (RFC 5802, section 7)
abbrev pub login_header : Login → ClientHeader
login_header login = record { channel = login.channel; acts_for = login.acts_for }

-- a login is strict if it binds a channel or sends an authorization identity, or is set to
abbrev pub is_strict_login : Login → Bool
is_strict_login login = needs_strict (login_header login) || login.strict

-- a reply of a server: the body of a challenge, the code and the body of an outcome, or an error
pub data ServerSays : Type 0 where
  Challenged : (body : List ℕ) → ServerSays
  Concluded : (code : SaslCode) → (body : List ℕ) → ServerSays
  Failed : (fault : Error) → ServerSays

-- the error for an error of a SCRAM client
abbrev pub scram_fault : ScramErrorKind → ProfileError
scram_fault kinds.StaleKeys = StaleKeys
scram_fault kind = Scram kind

-- a reply of a client: the body of an init, the body of a response, an outcome that it reports, or an error: a frame
-- that it does not expect, an error of SCRAM, stale keys, a body that is not read or not written, no memory
pub data ClientSays : Type 0 where
  Started : (body : List ℕ) → ClientSays
  Answered : (body : List ℕ) → ClientSays
  Reported : (code : SaslCode) → (more : Option (List ℕ)) → ClientSays
  Refused : (fault : ProfileError) → ClientSays

-- what the code holds of an event: bytes, and a nonce of 32
pub record IsGiven (event : Given) : Type 0 where
  pub body : IsBytes event.body
  pub nonce : IsBytes event.nonce
  pub length : length event.nonce ≡ 32

-- each event is one that the code holds
abbrev pub AreGiven : List Given → Type 0
AreGiven events = (k : ℕ) (event : Given) → slice_get events k ≡ Some event → IsGiven event

-- what the code holds of a login: texts in UTF-8, a limit of 32 bits, and a header that is bytes
pub record IsLogin (login : Login) : Type 0 where
  pub user : IsUtf8 login.user
  pub limit : login.limits.max_iterations < 2 ^ 32
  pub channel : HoldsHeaderBytes (login_header login)
  pub identity : IsUtf8 (authzid_text login.acts_for)
  pub hostname : (text : List ℕ) → login.hostname ≡ Some text → IsUtf8 text

-- what the code holds of a secret: its keys are as long as a digest (RFC 5802, section 3)
abbrev pub IsSecret : Secret → Type 0
IsSecret (Password password) = Unit {0}
IsSecret (Keys keys) = AreSized keys
IsSecret (Both password keys) = AreSized keys

-- what the code holds of a record: bytes, and a count of 32 bits
pub record IsRecord (stored : Record) : Type 0 where
  pub salt : IsBytes stored.salt
  pub count : stored.count < 2 ^ 32
  pub stored_key : IsBytes stored.stored_key
  pub server_key : IsBytes stored.server_key
