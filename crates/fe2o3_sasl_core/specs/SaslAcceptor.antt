-- What an acceptor answers to one frame (AMQP 1.0, part 5, section 5.3.2).
use Rattle.std.specs.Prelude.{◌≡◌, ◌≢◌, ◌⊎◌, ℕ, Bool, true, Option, Some, None, MatchOption, List, [], ◌∷◌, codes, slice_get, string_bytes, Result, Ok}
use Rattle.std.specs.List.{AllByRecursion, join_with_byte}
use Rattle.fe2o3_sasl_wire.specs.declared.amqp_types.SaslCode.{SaslCode}
use Rattle.fe2o3_sasl_wire.specs.declared.amqp_types.SaslCode.TheVariants as outcomes
use Rattle.fe2o3_sasl_wire.specs.AmqpTypes.{challenge_frame, outcome_frame}
use Rattle.fe2o3_sasl_wire.specs.SaslFrames as frames
use Rattle.fe2o3_sasl_wire.specs.SaslFrames.{SaslFrame}
use Rattle.fe2o3_sasl_core.specs.ScramRejections.{FinalRejected, FirstRejected, KnownUsers}
use Rattle.fe2o3_sasl_core.specs.declared.rejection.Rejection.{Rejection}
use Rattle.fe2o3_sasl_core.specs.declared.rejection.Rejection.TheVariants as reasons
use Rattle.fe2o3_sasl_core.specs.declared.sasl_acceptor.SaslPlainMechanism.{SaslPlainMechanism}
use Rattle.fe2o3_sasl_core.specs.declared.sasl_acceptor.SaslServerFrame.{SaslServerFrame}
use Rattle.fe2o3_sasl_core.specs.declared.sasl_acceptor.SaslServerFrame.TheVariants as server_frames
use Rattle.fe2o3_scram.specs.declared.scram_messages.error.ServerScramErrorKind.{ServerScramErrorKind}
use Rattle.fe2o3_scram.specs.Credentials.{Provider}
use Rattle.fe2o3_scram.specs.ChannelBinding.{server_mechanism}
use Rattle.fe2o3_scram.specs.ScramServer.{ServerState, logged_in_for, logged_in, ChallengesFrom, ConcludesFrom, ReachesBase64In}
use Rattle.fe2o3_scram.specs.ServerFirst.{ReachesChallenge}

-- the acceptors, each with all that its answers depend on: SCRAM over a provider, in a state; PLAIN for one user, with
-- whether it has accepted; and ANONYMOUS, which keeps nothing
pub data Acceptor : Type 0 where
  ScramAcceptor : (provider : Provider) → (state : ServerState) → Acceptor
  PlainAcceptor : (user password : List ℕ) → (accepted : Bool) → Acceptor
  AnonymousAcceptor : Acceptor

-- the user who has logged in, from an outcome Ok on and up to the next challenge (AMQP 1.0, part 5, sections 5.3.2 and
-- 5.3.3.5; RFC 5802, section 5; RFC 4616, section 2); ANONYMOUS does not ask (RFC 4505, section 2)
abbrev pub acceptor_user : Acceptor → Option (List ℕ)
acceptor_user (ScramAcceptor provider state) = logged_in state
acceptor_user (PlainAcceptor user password true) = Some user
acceptor_user acceptor = None

-- the identity that this user acts for, if it named one (RFC 4422, section 2; RFC 5802, section 5.1)
abbrev pub acceptor_acting : Acceptor → Option (List ℕ)
acceptor_acting (ScramAcceptor provider state) = logged_in_for state
acceptor_acting acceptor = None

-- the names of an acceptor's mechanisms
abbrev pub acceptor_names : Acceptor → List (List ℕ)
acceptor_names (ScramAcceptor provider state) = server_mechanism provider.version provider.rules ∷ []
acceptor_names (PlainAcceptor user password accepted) = codes "PLAIN" ∷ []
acceptor_names AnonymousAcceptor = codes "ANONYMOUS" ∷ []

-- the names that a server offers: ANONYMOUS if it has none (AMQP 1.0, part 5, section 5.3.3.1)
abbrev pub offered : List (List ℕ) → List (List ℕ)
offered [] = codes "ANONYMOUS" ∷ []
offered names = names

-- no byte of the text is zero
abbrev pub NoZero : List ℕ → Type 0
NoZero text = AllByRecursion (λ byte. byte ≢ 0) text

-- split at its zero bytes, the text has this part at place k, counted from 0
abbrev pub ZeroPart : List ℕ → ℕ → List ℕ → Type 0
ZeroPart text k part = (parts : List (List ℕ)) × AllByRecursion NoZero parts × (join_with_byte 0 parts ≡ text)
    × (slice_get parts k ≡ Some part)

-- a message of PLAIN (RFC 4616, section 2) names this user and this password; its first part and those after the third
-- are ignored
abbrev pub NamesPlain : List ℕ → List ℕ → List ℕ → Type 0
NamesPlain user password text = ZeroPart text 1 user × ZeroPart text 2 password

-- an outcome without data
abbrev pub ends_with : SaslCode → SaslFrame
ends_with code = frames.Outcome code None

-- the frame of a SCRAM server's answer: Auth unless it is a message
abbrev pub server_frame : (List ℕ → SaslFrame) → Result (Option (List ℕ)) ServerScramErrorKind → SaslFrame
server_frame frame (Ok (Some message)) = frame message
server_frame frame answer = ends_with outcomes.Auth

-- the machine of an acceptor: from a nonce and an init or a response to a reply and the acceptor after it
abbrev pub acceptor_machine : Acceptor → List ℕ → SaslFrame → SaslFrame → Acceptor → Type 0
acceptor_machine (ScramAcceptor provider state) nonce (frames.Init mechanism (Some text) hostname) reply next =
    ((mechanism ≢ server_mechanism provider.version provider.rules) × (reply ≡ ends_with outcomes.Auth)
    × (next ≡ ScramAcceptor provider state))
    ⊎ ((mechanism ≡ server_mechanism provider.version provider.rules)
    × ((answer : Result (Option (List ℕ)) ServerScramErrorKind) × (after : ServerState)
    × ChallengesFrom state provider nonce text answer after
    × (reply ≡ server_frame (λ message. frames.Challenge message) answer) × (next ≡ ScramAcceptor provider after)))
acceptor_machine (ScramAcceptor provider state) nonce (frames.Response text) reply next =
    (answer : Result (Option (List ℕ)) ServerScramErrorKind) × (after : ServerState)
    × ConcludesFrom state provider.version provider.rules provider.rights text answer after
    × (reply ≡ server_frame (λ message. frames.Outcome outcomes.Ok (Some message)) answer)
    × (next ≡ ScramAcceptor provider after)
acceptor_machine (PlainAcceptor user password accepted) nonce (frames.Init mechanism (Some text) hostname) reply next =
    (NamesPlain user password text × (reply ≡ ends_with outcomes.Ok) × (next ≡ PlainAcceptor user password true))
    ⊎ (¬ NamesPlain user password text × (reply ≡ ends_with outcomes.Auth)
    × (next ≡ PlainAcceptor user password accepted))
acceptor_machine (PlainAcceptor user password accepted) nonce (frames.Response text) reply next =
    (reply ≡ ends_with outcomes.Sys) × (next ≡ PlainAcceptor user password accepted)
acceptor_machine AnonymousAcceptor nonce (frames.Init mechanism response hostname) reply next =
    (reply ≡ ends_with outcomes.Ok) × (next ≡ AnonymousAcceptor)
acceptor_machine AnonymousAcceptor nonce (frames.Response text) reply next =
    (reply ≡ ends_with outcomes.Ok) × (next ≡ AnonymousAcceptor)
acceptor_machine acceptor nonce (frames.Init mechanism None hostname) reply next =
    (reply ≡ ends_with outcomes.Auth) × (next ≡ acceptor)
acceptor_machine acceptor nonce frame reply next = ⊥

-- ---- why a frame is rejected

-- an init is rejected by the acceptor of one mechanism: for the name of another mechanism, then for no initial
-- response, and then for a fault of its text
abbrev pub InitRejected : List ℕ → (List ℕ → Rejection → Type 0) → List ℕ → Option (List ℕ) → Rejection → Type 0
InitRejected name Faults mechanism response reason =
    ((mechanism ≢ name) × (reason ≡ reasons.MechanismNotOffered))
    ⊎ ((mechanism ≡ name) × MatchOption response (reason ≡ reasons.NoInitialResponse) (λ text. Faults text reason))

-- the acceptor of PLAIN for one user rejects a message (RFC 4616, section 2) that has no third part, and every other
-- that does not name the user and the password
abbrev pub PlainRejected : List ℕ → List ℕ → List ℕ → Rejection → Type 0
PlainRejected user password text reasons.InvalidMessage = (part : List ℕ) → ¬ ZeroPart text 2 part
PlainRejected user password text reasons.WrongPassword =
    ((part : List ℕ) × ZeroPart text 2 part) × ¬ NamesPlain user password text
PlainRejected user password text reason = ⊥

-- why an acceptor rejects a frame, by what it knows of users
abbrev pub acceptor_reasons : KnownUsers → Acceptor → SaslFrame → Rejection → Type 0
acceptor_reasons known (ScramAcceptor provider state) (frames.Init mechanism response hostname) reason =
    InitRejected (server_mechanism provider.version provider.rules) (FirstRejected known.all provider) mechanism response
    reason
acceptor_reasons known (ScramAcceptor provider state) (frames.Response text) reason =
    FinalRejected known provider state text reason
acceptor_reasons known (PlainAcceptor user password accepted) (frames.Init mechanism response hostname) reason =
    MatchOption response (reason ≡ reasons.NoInitialResponse) (λ text. PlainRejected user password text reason)
acceptor_reasons known acceptor frame reason = ⊥

-- what an acceptor knows that has no records
abbrev pub no_users : KnownUsers
no_users = record { own = []; all = [] }

-- where an acceptor allocates before it has its reply to a frame (AMQP 1.0, part 5, section 5.3.2): SCRAM at an init
-- with its own name if it reaches an escaped user name or a user with a record (RFC 5802, section 5.1), and at a
-- response if it reaches a base64 text (RFC 5802, section 7); the others never
abbrev pub acceptor_allocates : Acceptor → SaslFrame → Type 0
acceptor_allocates (ScramAcceptor provider state) (frames.Init mechanism (Some text) hostname) =
    (mechanism ≡ server_mechanism provider.version provider.rules) × ReachesChallenge provider text
acceptor_allocates (ScramAcceptor provider state) (frames.Response text) = ReachesBase64In state provider.rules text
acceptor_allocates acceptor frame = ⊥

-- the acceptor of PLAIN that a value is
abbrev pub plain_acceptor : SaslPlainMechanism → Acceptor
plain_acceptor mechanism =
    PlainAcceptor (string_bytes mechanism.username) mechanism.password mechanism.accepted

-- the frame that an acceptor sends
abbrev pub sent_frame : SaslServerFrame → SaslFrame
sent_frame (server_frames.Challenge challenge) = challenge_frame challenge
sent_frame (server_frames.Outcome outcome) = outcome_frame outcome
sent_frame (server_frames.Rejected reason) = ends_with outcomes.Auth

-- the reason that it keeps, if the frame is a rejection
abbrev pub reason_in : SaslServerFrame → Option Rejection
reason_in (server_frames.Rejected reason) = Some reason
reason_in frame = None

-- a reply of Auth has a reason, and it is one of these; no other reply has any
abbrev pub HasReason : (Rejection → Type 0) → SaslServerFrame → Type 0
HasReason Reasons reply = MatchOption (reason_in reply) (sent_frame reply ≢ ends_with outcomes.Auth) Reasons
