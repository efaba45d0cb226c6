-- What a SCRAM client answers to a list of frame bodies (RFC 5802, section 5; AMQP 1.0, part 5, section 5.3.2). Nothing
-- here is a state: what is expected and what is open are positions in the list.
use Rattle.std.specs.Prelude.{◌≡◌, ◌⊎◌, ℕ, Bool, true, false, Option, Some, None, List, [], length, slice_get, Result, Ok, Err}
use Rattle.std.specs.List.{Contains}
use Rattle.std.specs.Str.{IsUtf8}
use Rattle.fe2o3_sasl_wire.specs.declared.amqp_types.SaslCode.TheVariants as outcomes
use Rattle.fe2o3_sasl_wire.specs.declared.sasl_frames.error.Error.{Error}
use Rattle.fe2o3_sasl_wire.specs.declared.sasl_frames.error.Error.TheVariants as faults
use Rattle.fe2o3_sasl_wire.specs.SaslFrames.{canonical, SaslFrame}
use Rattle.fe2o3_sasl_wire.specs.SaslFrames as frames
use Rattle.fe2o3_scram.specs.declared.scram_messages.error.ScramErrorKind.{ScramErrorKind}
use Rattle.fe2o3_scram.specs.declared.scram_messages.error.ScramErrorKind.TheVariants.{Utf8Error, IllegalClientState, ServerSignatureMismatch}
use Rattle.fe2o3_scram.specs.Texts.{base64_text}
use Rattle.fe2o3_scram.specs.ClientFinal.{Answer, answer_of}
use Rattle.fe2o3_scram.specs.ClientFirst.{client_first_bare, client_first_with}
use Rattle.fe2o3_sasl_core.specs.Events.{is_strict_login, Given, Login, login_mechanism, ClientSays, Started, Answered, Reported, Refused, scram_fault, login_header}
use Rattle.fe2o3_scram.specs.ChannelBinding.{header_of}
use Rattle.fe2o3_sasl_core.specs.Positions.{OpenBy}
use Rattle.fe2o3_scram.specs.ServerFinal.{ReadsServerFinal}
use Rattle.fe2o3_scram.specs.ServerFirst.{Client, ServerFirst, ReadsServerFirst, client_of}
use Rattle.fe2o3_sasl_core.specs.Bodies.{carried, SpellsBody}
use Rattle.fe2o3_sasl_core.specs.declared.sasl_profile.error.ProfileError.TheVariants.{NotImplemented, Frame, OutOfMemory}

-- what an answer is made of: the client's nonce, the server-first message, and the values that it names
pub record Answering : Type 0 where
  pub nonce : List ℕ
  pub text : List ℕ
  pub first : ServerFirst

-- what a client knows when it reads a challenge against this nonce of its own
abbrev pub client_at : Login → List ℕ → Client
client_at login nonce = client_of nonce login.secret login.limits (login_header login) login.strict

-- the answer of a client to a server-first message (RFC 5802, section 5)
abbrev pub answer_at : Login → Answering → Answer
answer_at login answer = answer_of login.version login.secret (login_header login)
    (client_first_bare login.user answer.nonce) answer.text answer.first

-- the reply of a start: an init with the client-first message (AMQP 1.0, part 5, section 5.3.3.2)
abbrev pub says_start : Login → Given → ClientSays
says_start login event =
    carried (Refused (Frame faults.TooLarge)) (λ body. Started body)
    (canonical (frames.Init (login_mechanism login)
    (Some (client_first_with (header_of (login_header login)) login.user (base64_text event.nonce))) login.hostname))

-- the reply to a signature that came in a challenge: an empty response (RFC 4422, section 5)
abbrev pub says_verified : ClientSays
says_verified = carried (Refused (Frame faults.TooLarge)) (λ body. Answered body) (canonical (frames.Response []))

-- the reply of an answer: a response with the client-final message
abbrev pub says_answer : Login → Answering → ClientSays
says_answer login answer = carried (Refused (Frame faults.TooLarge)) (λ body. Answered body)
    (canonical (frames.Response (answer_at login answer).message))

-- a challenge is read in this order: it is UTF-8, a challenge is expected, and then every test of a server-first
-- message
abbrev pub ReadsChallenge : Login → (List ℕ → Type 0) → List ℕ → Result Answering ScramErrorKind → Type 0
ReadsChallenge login Due text (Ok answer) = IsUtf8 text × (answer.text ≡ text) × Due answer.nonce
    × ReadsServerFirst (client_at login answer.nonce) text (Ok answer.first)
ReadsChallenge login Due text (Err kind) =
    (¬ IsUtf8 text × (kind ≡ Utf8Error))
    ⊎ ((IsUtf8 text × ((nonce : List ℕ) → ¬ Due nonce) × (kind ≡ IllegalClientState))
    ⊎ (IsUtf8 text × ((nonce : List ℕ) × Due nonce × ReadsServerFirst (client_at login nonce) text (Err kind))))

-- the signature of this answer may come in a challenge (RFC 4422, section 5): the answer is open, and the login accepts
-- the signature there
abbrev pub MaySign : Login → (Answering → Type 0) → Answering → Type 0
MaySign login IsOpen answer = (login.signature_by_challenge ≡ true) × IsOpen answer

-- a challenge is read as the server-final message of an open answer: by every test of a server-final message
abbrev pub ReadsSigning : Login → (Answering → Type 0) → List ℕ → Result (Unit {0}) ScramErrorKind → Type 0
ReadsSigning login IsOpen text result = (answer : Answering) × MaySign login IsOpen answer
    × ReadsServerFinal (is_strict_login login) (answer_at login answer).signature text result

-- an outcome Ok without data is accepted if the signature of an answer has come in a challenge. The data is read in this
-- order: an answer is open, and then every test of a server-final message
abbrev pub ReadsOutcome : Login → (Answering → Type 0) → (Answering → Type 0) → Option (List ℕ)
    → Result (Unit {0}) ScramErrorKind → Type 0
ReadsOutcome login IsOpen IsVerified None (Ok verified) = (answer : Answering) × IsVerified answer
ReadsOutcome login IsOpen IsVerified None (Err kind) =
    ((answer : Answering) → ¬ IsVerified answer) × (kind ≡ ServerSignatureMismatch)
ReadsOutcome login IsOpen IsVerified (Some text) (Ok verified) = (answer : Answering) × IsOpen answer
    × ReadsServerFinal (is_strict_login login) (answer_at login answer).signature text (Ok verified)
ReadsOutcome login IsOpen IsVerified (Some text) (Err kind) =
    (((answer : Answering) → ¬ IsOpen answer) × (kind ≡ IllegalClientState))
    ⊎ ((answer : Answering) × IsOpen answer
    × ReadsServerFinal (is_strict_login login) (answer_at login answer).signature text (Err kind))

-- the reply to a body that spells this, where a challenge is expected for these nonces, these answers are open, and the
-- signature of these has come in a challenge
abbrev pub ClientAnswers : Login → (List ℕ → Type 0) → (Answering → Type 0) → (Answering → Type 0) → Given
    → Result SaslFrame Error → ClientSays → Type 0
ClientAnswers login Due IsOpen IsVerified event (Err fault) says = says ≡ Refused (Frame fault)
ClientAnswers login Due IsOpen IsVerified event (Ok (frames.Mechanisms names)) says =
    (Contains names (login_mechanism login) × (says ≡ says_start login event))
    ⊎ (¬ Contains names (login_mechanism login) × (says ≡ Refused NotImplemented))
ClientAnswers login Due IsOpen IsVerified event (Ok (frames.Challenge text)) says =
    (ReadsSigning login IsOpen text (Ok tt) × (says ≡ says_verified))
    ⊎ ((kind : ScramErrorKind) × ReadsSigning login IsOpen text (Err kind) × (says ≡ Refused (scram_fault kind)))
    ⊎ (((answer : Answering) → ¬ MaySign login IsOpen answer)
    × (((answer : Answering) × ReadsChallenge login Due text (Ok answer) × (says ≡ says_answer login answer))
    ⊎ ((kind : ScramErrorKind) × ReadsChallenge login Due text (Err kind) × (says ≡ Refused (scram_fault kind)))))
ClientAnswers login Due IsOpen IsVerified event (Ok (frames.Outcome outcomes.Ok more)) says =
    (ReadsOutcome login IsOpen IsVerified more (Ok tt) × (says ≡ Reported outcomes.Ok more))
    ⊎ ((kind : ScramErrorKind) × ReadsOutcome login IsOpen IsVerified more (Err kind)
    × (says ≡ Refused (scram_fault kind)))
ClientAnswers login Due IsOpen IsVerified event (Ok (frames.Outcome code more)) says = says ≡ Reported code more
ClientAnswers login Due IsOpen IsVerified event (Ok frame) says = says ≡ Refused NotImplemented

-- the replies at which the client may run out of memory: those to a mechanisms list with the name, to a challenge in
-- UTF-8, and to an outcome with data, which in one of code Ok are UTF-8
abbrev pub ClientAllocates : Login → Result SaslFrame Error → Type 0
ClientAllocates login (Ok (frames.Mechanisms names)) = Contains names (login_mechanism login)
ClientAllocates login (Ok (frames.Challenge text)) = IsUtf8 text
ClientAllocates login (Ok (frames.Outcome outcomes.Ok (Some text))) = IsUtf8 text
ClientAllocates login (Ok (frames.Outcome code (Some text))) = Unit {0}
ClientAllocates login spelled = ⊥

-- whether a reply is a start
abbrev pub is_start : ClientSays → Bool
is_start (Started body) = true
is_start says = false

-- whether a reply is an answer
abbrev pub is_answer : ClientSays → Bool
is_answer (Answered body) = true
is_answer says = false

-- whether a reply is a new start, or a reported outcome of code Ok
abbrev pub ends_answer : ClientSays → Bool
ends_answer (Started body) = true
ends_answer (Reported outcomes.Ok more) = true
ends_answer says = false

-- this is the nonce text of the event at k
abbrev pub NonceAt : List Given → ℕ → List ℕ → Type 0
NonceAt events k nonce = (event : Given) × (slice_get events k ≡ Some event) × (nonce ≡ base64_text event.nonce)

-- a challenge at k is expected for this nonce: that of the last start before k, if no answer is between
abbrev pub IsDue : List Given → List ClientSays → ℕ → List ℕ → Type 0
IsDue events replies k nonce = OpenBy is_start is_answer (NonceAt events) replies k nonce

-- the answer to the challenge at k
abbrev pub AnswersAt : Login → List Given → List ClientSays → ℕ → Answering → Type 0
AnswersAt login events replies k answer =
    (event : Given) × (text : List ℕ) × (slice_get events k ≡ Some event)
    × SpellsBody event.body (Ok (frames.Challenge text))
    × ReadsChallenge login (IsDue events replies k) text (Ok answer)

-- the answer that is open at k: the last one before k, if neither a start nor a reported Ok is between
abbrev pub OpenAnswer : Login → List Given → List ClientSays → ℕ → Answering → Type 0
OpenAnswer login events replies k answer = OpenBy is_answer ends_answer
    (AnswersAt login events replies) replies k answer

-- the challenge at k has the signature of this answer, which is open there, and the login accepts it in a challenge
abbrev pub SignsAt : Login → List Given → List ClientSays → ℕ → Answering → Type 0
SignsAt login events replies k answer =
    (event : Given) × (text : List ℕ) × (slice_get events k ≡ Some event)
    × SpellsBody event.body (Ok (frames.Challenge text)) × MaySign login (OpenAnswer login events replies k) answer
    × ReadsServerFinal (is_strict_login login) (answer_at login answer).signature text (Ok tt)

-- the answer whose signature came in a challenge before k, which the client answered last, if neither a start nor a
-- reported Ok is between
abbrev pub VerifiedAnswer : Login → List Given → List ClientSays → ℕ → Answering → Type 0
VerifiedAnswer login events replies k answer = OpenBy is_answer ends_answer
    (SignsAt login events replies) replies k answer

-- a reply for each event: that of the table, or running out of memory where that may happen
pub record ClientHistory (login : Login) (events : List Given) (replies : List ClientSays) : Type 0 where
  pub count : length replies ≡ length events
  pub each : (k : ℕ) (event : Given) (says : ClientSays) → slice_get events k ≡ Some event
      → slice_get replies k ≡ Some says
      → (spelled : Result SaslFrame Error) × SpellsBody event.body spelled
      × ((ClientAllocates login spelled × (says ≡ Refused OutOfMemory))
      ⊎ ClientAnswers login (IsDue events replies k) (OpenAnswer login events replies k)
      (VerifiedAnswer login events replies k) event spelled says)
