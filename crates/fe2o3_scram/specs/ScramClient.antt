-- A SCRAM client from message to message (RFC 5802, section 5).
use Rattle.std.specs.Prelude.{ℕ, Bool, true, false, ◌&&◌, ◌||◌, List, [], ◌∷◌, Option, Some, None, ◌≡◌, Result, Ok, Err}
use Rattle.fe2o3_scram.specs.declared.client_options.ClientOptions.{ClientOptions}
use Rattle.fe2o3_scram.specs.declared.client_secret.IterationLimits.{IterationLimits}
use Rattle.fe2o3_scram.specs.declared.hmac.ScramVersion.{ScramVersion}
use Rattle.fe2o3_scram.specs.declared.scram_client.ScramClientState.{ScramClientState}
use Rattle.fe2o3_scram.specs.declared.scram_client.ScramClientState.TheVariants.{Initial as CodeInitial, ClientFirstSent as CodeClientFirstSent, ClientFinalSent as CodeClientFinalSent, SignatureVerified as CodeSignatureVerified, Complete as CodeComplete}
use Rattle.fe2o3_scram.specs.declared.scram_messages.error.ScramErrorKind.{ScramErrorKind}
use Rattle.fe2o3_scram.specs.declared.scram_messages.error.ScramErrorKind.TheVariants.{IllegalClientState, ServerSignatureMismatch}
use Rattle.fe2o3_scram.specs.declared.scram_messages.client_channel.ClientChannel.{ClientChannel}
use Rattle.fe2o3_scram.specs.declared.scram_messages.client_channel.ClientChannel.TheVariants.{Absent}
use Rattle.fe2o3_scram.specs.ChannelBinding.{ClientHeader, needs_strict}
use Rattle.fe2o3_scram.specs.Texts.{base64_text}
use Rattle.fe2o3_scram.specs.ClientFinal.{Answer}
use Rattle.fe2o3_scram.specs.ClientKeys.{ClientKeys}
use Rattle.fe2o3_scram.specs.ClientSecret.{Secret, no_limit, up_to}
use Rattle.fe2o3_scram.specs.ServerFirstAnswers.{AnswersServerFirst, AnswerCosts}
use Rattle.fe2o3_scram.specs.ClientFirst.{client_first_bare}
use Rattle.fe2o3_scram.specs.ServerFirst.{Client, client_of, ReachesSalt, ReadsServerFirst}
use Rattle.fe2o3_scram.specs.ServerFinal.{ReachesVerifier, ReadsServerFinal}

-- what a client has sent last, and what it waits for (RFC 5802, section 5): after a challenge with the server's signature
-- it waits for an outcome without data (RFC 4422, section 5). The keys are those of its answer, if it still has them
pub data ClientState : Type 0 where
  ClientInitial : ClientState
  ClientFirstSent : (nonce : List ℕ) → (bare : List ℕ) → ClientState
  ClientFinalSent : (signature : List ℕ) → (keys : Option ClientKeys) → ClientState
  SignatureVerified : (keys : Option ClientKeys) → ClientState
  Complete : (keys : Option ClientKeys) → ClientState

-- a client (RFC 5802, section 5): its user and its secret, its version, the counts that it accepts, what it says of its
-- channel, whom it acts for, or none if it acts for itself, whether it rejects an attribute that RFC 5802 defines in
-- the place of an extension without a channel too, whether it accepts the server's signature in a challenge too (RFC
-- 4422, section 5), and its state
pub record ClientSide : Type 0 where
  pub user : List ℕ
  pub secret : Secret
  pub version : ScramVersion
  pub limits : IterationLimits
  pub channel : ClientChannel
  pub acts_for : Option (List ℕ)
  pub strict : Bool
  pub signature_by_challenge : Bool
  pub state : ClientState

-- a client of the user by this secret, which has sent nothing, accepts every count and has no channel
abbrev pub fresh_client : List ℕ → ScramVersion → Secret → ClientSide
fresh_client user version secret = record {
  user = user;
  secret = secret;
  version = version;
  limits = up_to no_limit;
  channel = Absent;
  acts_for = None;
  strict = false;
  signature_by_challenge = false;
  state = ClientInitial;
}

-- a client in another state
abbrev pub with_state : ClientSide → ClientState → ClientSide
with_state side state = record side { state = state }

-- a client with these options
abbrev pub with_options : ClientSide → ClientOptions → ClientSide
with_options side options = record {
  user = side.user;
  secret = side.secret;
  version = side.version;
  limits = options.limits;
  channel = options.channel;
  acts_for = side.acts_for;
  strict = options.strict;
  signature_by_challenge = options.signature_by_challenge;
  state = side.state;
}

-- a client with another maximum of the counts that it accepts
abbrev pub with_maximum : ClientSide → ℕ → ClientSide
with_maximum side limit = record side {
  limits = record { min_iterations = side.limits.min_iterations; max_iterations = limit };
}

-- the identity that a client names: none if it is empty, which means the user itself (RFC 4422, section 2)
abbrev pub identity_named : Option (List ℕ) → Option (List ℕ)
identity_named None = None
identity_named (Some []) = None
identity_named (Some (byte ∷ name)) = Some (byte ∷ name)

-- a client that acts for this identity, or for itself
abbrev pub acting_for : ClientSide → Option (List ℕ) → ClientSide
acting_for side acts_for = record side { acts_for = identity_named acts_for }

-- the header of a client (RFC 5802, section 7)
abbrev pub header_in : ClientSide → ClientHeader
header_in side = record { channel = side.channel; acts_for = side.acts_for }

-- a client after its first message, with this nonce
abbrev pub started : ClientSide → List ℕ → ClientSide
started side nonce = with_state side (ClientFirstSent (base64_text nonce)
    (client_first_bare side.user (base64_text nonce)))

-- a client is strict if it binds a channel or sends an authorization identity, or is set to
abbrev pub is_strict_client : ClientSide → Bool
is_strict_client side = needs_strict (header_in side) || side.strict

-- what a client knows when it reads a server-first message
abbrev pub holding : ClientSide → List ℕ → Client
holding side nonce = client_of nonce side.secret side.limits (header_in side) side.strict

-- what a client in this state answers to a server-first message (RFC 5802, section 5), and the client after it: one
-- that has sent its first message answers it, any other rejects it unread, and an error changes nothing
abbrev pub AnswersIn : ClientState → ClientSide → List ℕ → Result (List ℕ) ScramErrorKind → ClientSide → Type 0
AnswersIn (ClientFirstSent nonce bare) side text (Ok message) next =
    (answer : Answer) × AnswersServerFirst side.version (holding side nonce) bare text (Ok answer)
    × (message ≡ answer.message) × (next ≡ with_state side (ClientFinalSent answer.signature (Some answer.keys)))
AnswersIn (ClientFirstSent nonce bare) side text (Err fault) next =
    ReadsServerFirst (holding side nonce) text (Err fault) × (next ≡ side)
AnswersIn state side text (Ok message) next = ⊥
AnswersIn state side text (Err fault) next = (fault ≡ IllegalClientState) × (next ≡ side)

-- a client in this state allocates for its answer (RFC 5802, section 5): one that has sent its first message does if it
-- reaches the salt, any other never
abbrev pub ReachesSaltIn : ClientState → List ℕ → Type 0
ReachesSaltIn (ClientFirstSent nonce bare) text = ReachesSalt nonce text
ReachesSaltIn state text = ⊥

-- the HMAC values of a client's answer (RFC 5802, section 3), as a meter shows them before and after the call: those of
-- the answer if the client has sent its first message, and none in another state
abbrev pub AnswerCostsIn : {A F : Type 0} → ClientState → ClientSide → List ℕ → Result A F → ℕ → ℕ → Type 0
AnswerCostsIn (ClientFirstSent nonce bare) side text result before after =
    AnswerCosts (holding side nonce) text result before after
AnswerCostsIn state side text result before after = after ≡ before

-- the result of a server-final message for a client in this state (RFC 5802, section 5), and the client after it: one
-- that has answered tests it, any other rejects it unread, and an error changes nothing
abbrev pub VerifiesIn : ClientState → ClientSide → List ℕ → Result (Unit {0}) ScramErrorKind → ClientSide → Type 0
VerifiesIn (ClientFinalSent signature keys) side text (Ok verified) next =
    ReadsServerFinal (is_strict_client side) signature text (Ok verified) × (next ≡ with_state side (Complete keys))
VerifiesIn (ClientFinalSent signature keys) side text (Err fault) next =
    ReadsServerFinal (is_strict_client side) signature text (Err fault) × (next ≡ side)
VerifiesIn state side text (Ok verified) next = ⊥
VerifiesIn state side text (Err fault) next = (fault ≡ IllegalClientState) × (next ≡ side)

-- whether a client in this state waits for the server's signature (RFC 5802, section 5)
abbrev pub is_unsigned : ClientState → Bool
is_unsigned (ClientFinalSent signature keys) = true
is_unsigned state = false

-- whether a client takes the next challenge as the server-final message (RFC 4422, section 5)
abbrev pub expects_signature : ClientSide → Bool
expects_signature side = side.signature_by_challenge && is_unsigned side.state

-- the result of a server-final message in a challenge for a client in this state (RFC 4422, section 5), and the client
-- after it: one that has answered tests it, and then waits for the outcome; any other rejects it unread, and an error
-- changes nothing
abbrev pub ChecksSignatureIn : ClientState → ClientSide → List ℕ → Result (Unit {0}) ScramErrorKind → ClientSide → Type 0
ChecksSignatureIn (ClientFinalSent signature keys) side text (Ok verified) next =
    ReadsServerFinal (is_strict_client side) signature text (Ok verified) × (next ≡ with_state side (SignatureVerified keys))
ChecksSignatureIn (ClientFinalSent signature keys) side text (Err fault) next =
    ReadsServerFinal (is_strict_client side) signature text (Err fault) × (next ≡ side)
ChecksSignatureIn state side text (Ok verified) next = ⊥
ChecksSignatureIn state side text (Err fault) next = (fault ≡ IllegalClientState) × (next ≡ side)

-- the result of an outcome without data for a client in this state (RFC 4422, section 5), and the client after it: one
-- whose server was verified by a challenge has logged in; for any other the signature is missing
abbrev pub ConcludesIn : ClientState → ClientSide → Result (Unit {0}) ScramErrorKind → ClientSide → Type 0
ConcludesIn (SignatureVerified keys) side (Ok verified) next = next ≡ with_state side (Complete keys)
ConcludesIn (SignatureVerified keys) side (Err fault) next = ⊥
ConcludesIn state side (Ok verified) next = ⊥
ConcludesIn state side (Err fault) next = (fault ≡ ServerSignatureMismatch) × (next ≡ side)

-- a client in this state allocates to verify a server-final message (RFC 5802, section 5): one that has answered does
-- if it reaches the signature, any other never
abbrev pub ReachesVerifierIn : ClientState → List ℕ → Type 0
ReachesVerifierIn (ClientFinalSent signature keys) text = ReachesVerifier text
ReachesVerifierIn state text = ⊥

-- the state that the code's state and keys are
abbrev pub client_state_of : ScramClientState → Option ClientKeys → ClientState
client_state_of CodeInitial keys = ClientInitial
client_state_of (CodeClientFirstSent nonce bare) keys = ClientFirstSent (base64_text nonce) bare.items
client_state_of (CodeClientFinalSent signature) keys = ClientFinalSent signature.items keys
client_state_of CodeSignatureVerified keys = SignatureVerified keys
client_state_of CodeComplete keys = Complete keys

-- whether the server was verified, and the exchange has ended (RFC 5802, section 5)
abbrev pub is_complete : ClientState → Bool
is_complete (Complete keys) = true
is_complete state = false

-- whether the server was verified by a challenge, and the outcome is open (RFC 4422, section 5)
abbrev pub is_signature_verified : ClientState → Bool
is_signature_verified (SignatureVerified keys) = true
is_signature_verified state = false

-- the keys of an exchange that has ended with a verified server (RFC 5802, section 5), and of no other
abbrev pub login_keys : ClientState → Option ClientKeys
login_keys (Complete keys) = keys
login_keys state = None

-- the keys of an answer whose exchange has not ended yet, and of no other
abbrev pub answer_keys : ClientState → Option ClientKeys
answer_keys (ClientFinalSent signature keys) = keys
answer_keys (SignatureVerified keys) = keys
answer_keys state = None
