-- What a client and a server have in common, by their two lists (RFC 5802, section 3, for keys, proofs and signatures).
use Rattle.std.specs.Prelude.{◌≡◌, ◌≢◌, ◌⊎◌, ℕ, Option, Some, None, List, length, slice_get, Ok}
use Rattle.fe2o3_sasl_wire.specs.declared.amqp_types.SaslCode.TheVariants as outcomes
use Rattle.fe2o3_sasl_wire.specs.SaslFrames as frames
use Rattle.fe2o3_sasl_core.specs.Bodies.{SpellsBody}
use Rattle.fe2o3_sasl_core.specs.Positions.{OpenBy}
use Rattle.fe2o3_scram.specs.ClientFinal.{keys_for, without_proof_with}
use Rattle.fe2o3_scram.specs.ChannelBinding.{cbind_data, HoldsHeaderBytes, header_of, expected_header}
use Rattle.fe2o3_scram.specs.ClientFirst.{client_first_bare}
use Rattle.fe2o3_sasl_core.specs.ClientHistory.{Answering, AnswersAt, ClientHistory, OpenAnswer, VerifiedAnswer, is_answer, ends_answer}
use Rattle.fe2o3_scram.specs.Credentials.{Provider}
use Rattle.fe2o3_sasl_core.specs.Events.{Given, Login, ServerSays, Concluded, ClientSays, Answered, Reported, login_header}
use Rattle.fe2o3_scram.specs.Extensions.{NoneMisplaced}
use Rattle.fe2o3_scram.specs.Hmac.{hmac_of}
use Rattle.fe2o3_scram.specs.ClientKeys.{ClientKeys}
use Rattle.fe2o3_scram.specs.Keys.{auth_message, client_proof}
use Rattle.fe2o3_sasl_core.specs.ServerHistory.{Accepted, AcceptsAt, ServerHistory, first_message, full_nonce, final_message}
use Rattle.fe2o3_scram.specs.Texts.{Part, Parts}

-- AuthMessage of the messages as the client has them (RFC 5802, section 3)
abbrev pub client_message : Login → Answering → List ℕ
client_message login answer = auth_message (client_first_bare login.user answer.nonce) answer.text
    (without_proof_with (login_header login) answer.first.nonce)

-- AuthMessage of the messages as the server has them (RFC 5802, section 3)
abbrev pub server_message : Accepted → List ℕ
server_message accepted = auth_message accepted.challenge.client.bare
    (first_message accepted.challenge) accepted.final.without

-- the keys that the client answers by: those of its password with the salt and the count that the server-first message
-- names, or its own
abbrev pub keys_at : Login → Answering → ClientKeys
keys_at login answer = keys_for login.version login.secret answer.first

-- the ClientProof of an answer
abbrev pub proof_at : Login → Answering → List ℕ
proof_at login answer =
    client_proof (keys_at login answer).version (keys_at login answer).client_key (client_message login answer)

-- a login, what a client received and replied, a provider, and what a server received and replied
pub record Sides : Type 0 where
  pub login : Login
  pub client_events : List Given
  pub client_replies : List ClientSays
  pub provider : Provider
  pub server_events : List Given
  pub server_replies : List ServerSays

-- two sides of these lists
abbrev pub sides_of : Login → List Given → List ClientSays → Provider → List Given → List ServerSays → Sides
sides_of login client_events client_replies provider server_events server_replies = record {
  login = login;
  client_events = client_events;
  client_replies = client_replies;
  provider = provider;
  server_events = server_events;
  server_replies = server_replies;
}

-- the replies of both sides are histories
pub record Histories (sides : Sides) : Type 0 where
  pub client : ClientHistory sides.login sides.client_events sides.client_replies
  pub server : ServerHistory sides.provider sides.server_events sides.server_replies

-- the server answered Ok at n to this response
pub record OkAt (sides : Sides) (n : ℕ) (accepted : Accepted) : Type 0 where
  pub body : List ℕ
  pub says : slice_get sides.server_replies n ≡ Some (Concluded outcomes.Ok body)
  pub accepts : AcceptsAt sides.provider sides.server_events sides.server_replies n accepted

-- the event at k is a challenge with this text
abbrev pub ChallengeAt : List Given → ℕ → List ℕ → Type 0
ChallengeAt events k text =
    (event : Given) × (slice_get events k ≡ Some event) × SpellsBody event.body (Ok (frames.Challenge text))

-- the text of the server-final message that the client has at m: this data of an outcome, or without data the challenge
-- that it answered last
abbrev pub VerifierText : List Given → List ClientSays → ℕ → Option (List ℕ) → List ℕ → Type 0
VerifierText events replies m (Some given) text = text ≡ given
VerifierText events replies m None text = OpenBy is_answer ends_answer (ChallengeAt events) replies m text

-- the client reported Ok at m on the verifier that the server gave at n
pub record Takes (sides : Sides) (m n : ℕ) (accepted : Accepted) : Type 0 where
  pub more : Option (List ℕ)
  pub text : List ℕ
  pub reported : slice_get sides.client_replies m ≡ Some (Reported outcomes.Ok more)
  pub verifier : VerifierText sides.client_events sides.client_replies m more text
  pub ok : OkAt sides n accepted
  pub one : Part text 0 (final_message sides.provider accepted)

-- the answer on whose signature an outcome Ok with this data is reported at m: the open one, or without data the one
-- whose signature came in the challenge that was answered last
abbrev pub SignedAnswer : Login → List Given → List ClientSays → ℕ → Option (List ℕ) → Answering → Type 0
SignedAnswer login events replies m (Some text) answer = OpenAnswer login events replies m answer
SignedAnswer login events replies m None answer = VerifiedAnswer login events replies m answer

-- the answer on whose signature the client reported Ok at m
abbrev pub ReportedAnswer : Login → List Given → List ClientSays → ℕ → Answering → Type 0
ReportedAnswer login events replies m answer = (more : Option (List ℕ))
    × (slice_get replies m ≡ Some (Reported outcomes.Ok more)) × SignedAnswer login events replies m more answer

-- the server accepted at n the proof that the client's answer at k showed
pub record Shows (sides : Sides) (k n : ℕ) (answer : Answering) (accepted : Accepted) : Type 0 where
  pub body : List ℕ
  pub answered : slice_get sides.client_replies k ≡ Some (Answered body)
  pub answers : AnswersAt sides.login sides.client_events sides.client_replies k answer
  pub ok : OkAt sides n accepted
  pub one : proof_at sides.login answer ≡ accepted.final.proof

-- the text has that many parts, as commas cut it (RFC 5802, section 7)
abbrev pub HasParts : List ℕ → ℕ → Type 0
HasParts text n = (parts : List (List ℕ)) × Parts text parts × (length parts ≡ n)

-- the init that was answered had exactly two parts, the user name and the nonce
abbrev pub IsPlainInit : Accepted → Type 0
IsPlainInit accepted = HasParts accepted.challenge.client.bare 2

-- one of the two sides received no attribute of RFC 5802 in the place of an extension
abbrev pub NoneMisplacedIn : Answering → Accepted → Type 0
NoneMisplacedIn answer accepted = NoneMisplaced answer.text accepted.challenge.client.bare accepted.final.without

-- both sides mean one login: one version of keys, user name and client nonce. Where the init was plain, or one side
-- received no misplaced attribute, also one full nonce, salt and count; in the second case also one GS2 header and the
-- data of one channel
pub record Agree (login : Login) (provider : Provider) (answer : Answering) (accepted : Accepted) : Type 0 where
  pub version : (keys_at login answer).version ≡ provider.version
  pub header : HoldsHeaderBytes (login_header login) → NoneMisplacedIn answer accepted
      → header_of (login_header login) ≡ accepted.challenge.client.header
  pub channel : HoldsHeaderBytes (login_header login) → NoneMisplacedIn answer accepted
      → cbind_data login.channel
      ≡ cbind_data (expected_header provider.rules.channels accepted.challenge.client.header).channel
  pub user : login.user ≡ accepted.challenge.client.user
  pub nonce : answer.nonce ≡ accepted.challenge.client.nonce
  pub full_nonce : IsPlainInit accepted ⊎ NoneMisplacedIn answer accepted
      → answer.first.nonce ≡ full_nonce accepted.challenge
  pub salt : IsPlainInit accepted ⊎ NoneMisplacedIn answer accepted
      → answer.first.salt ≡ accepted.challenge.stored.salt
  pub count : IsPlainInit accepted ⊎ NoneMisplacedIn answer accepted
      → answer.first.count ≡ accepted.challenge.stored.count

-- at one version the AuthMessages differ, and have one HMAC value, each under its key: a collision
pub record MessagesCollide (sides : Sides) (answer : Answering) (accepted : Accepted) (client_key server_key : List ℕ)
    : Type 0 where
  pub version : (keys_at sides.login answer).version ≡ sides.provider.version
  pub differ : client_message sides.login answer ≢ server_message accepted
  pub one : hmac_of (keys_at sides.login answer).version client_key (client_message sides.login answer)
      ≡ hmac_of (keys_at sides.login answer).version server_key (server_message accepted)
