-- The client-final message (RFC 5802, section 7), as the client writes it and as the server reads it.
use Rattle.std.specs.Prelude.{ℕ, List, [], ◌∷◌, ◌++◌, ◌≡◌, codes, Result, Ok, Err, ◌≢◌, ◌⊎◌, length, Bool, true, false, ◌&&◌, ◌||◌, if◌then◌else◌, nat_eq, T}
use Rattle.std.specs.Cmp.Lexicographic.{pointwise}
use Rattle.fe2o3_scram.specs.declared.scram_messages.client_final.ClientAnswer.{ClientAnswer}
use Rattle.fe2o3_scram.specs.declared.hmac.ScramVersion.{ScramVersion}
use Rattle.fe2o3_scram.specs.ChannelBinding.{ClientHeader, cbind_input, has_more_than_flag, needs_strict, plain_header}
use Rattle.fe2o3_scram.specs.Texts.{base64_text, joined, Part, LastPart, HasBase64}
use Rattle.fe2o3_scram.specs.Keys.{auth_message, client_proof, server_signature, recovered_client_key, MeetsStoredKey}
use Rattle.fe2o3_scram.specs.ClientKeys.{ClientKeys, keys_of}
use Rattle.fe2o3_scram.specs.ClientSecret.{Secret, Password, Keys, Both}
use Rattle.fe2o3_scram.specs.Passwords.{password_bytes}
use Rattle.fe2o3_scram.specs.ServerFirst.{ServerFirst}
use Rattle.std.specs.Str.{IsUtf8}
use Rattle.base64.specs.GeneralPurpose.{IsBytes}
use Rattle.fe2o3_scram.specs.declared.scram_messages.error.ServerScramErrorKind.{ServerScramErrorKind}
use Rattle.fe2o3_scram.specs.declared.scram_messages.error.ServerScramErrorKind.TheVariants.{Utf8Error, CannotParseClientFinalMessage, Base64DecodeError, InvalidChannelBinding, IncorrectClientFinalNonce, ProofNotFoundInClientFinal, XorLengthMismatch, AuthenticationFailed, MisplacedAttribute}
use Rattle.fe2o3_scram.specs.declared.scram_messages.client_final_reading.ClientFinal.{ClientFinal as CodeClientFinal}
use Rattle.fe2o3_scram.specs.Credentials.{Record}
use Rattle.fe2o3_scram.specs.Grammar.{HasMisplacedFrom}
use Rattle.fe2o3_scram.specs.Hmac.{digest_len}
use Rattle.fe2o3_scram.specs.Readings.{IsFirst, NoneHolds, Reads}

-- client-final-message-without-proof (RFC 5802, section 7): the channel binding in base64, and the nonce of both sides
abbrev pub without_proof_with : ClientHeader → List ℕ → List ℕ
without_proof_with header nonce =
    joined ((codes "c=" ++ base64_text (cbind_input header)) ∷ (codes "r=" ++ nonce) ∷ [])

-- client-final-message-without-proof of a client that binds no channel and acts for itself (RFC 5802, section 7)
abbrev pub without_proof : List ℕ → List ℕ
without_proof nonce = without_proof_with plain_header nonce

-- client-final-message (RFC 5802, section 7): the text before the proof, and the proof
abbrev pub client_final_of : List ℕ → List ℕ → List ℕ
client_final_of without proof = joined (without ∷ (codes "p=" ++ base64_text proof) ∷ [])

-- an answer of the client (RFC 5802, section 5): the client-final message, the signature that it waits for, and the
-- keys that it was made by
pub record Answer : Type 0 where
  pub message : List ℕ
  pub signature : List ℕ
  pub keys : ClientKeys

-- the answer that the code's value is
abbrev pub answer_values : ClientAnswer → Answer
answer_values answer = record {
  message = answer.message.items;
  signature = answer.signature.items;
  keys = answer.keys;
}

-- the answer by these keys (RFC 5802, section 3); the proof is over the messages as they were sent
abbrev pub answer_by : ClientKeys → List ℕ → List ℕ → List ℕ → Answer
answer_by keys bare text without =
    let auth = auth_message bare text without in
    record {
      message = client_final_of without (client_proof keys.version keys.client_key auth);
      signature = server_signature keys.version keys.server_key auth;
      keys = keys;
    }

-- the keys are of the salt and the count that a message names (RFC 5802, section 3)
abbrev pub fit : ClientKeys → ServerFirst → Bool
fit keys first = pointwise nat_eq first.salt keys.salt && nat_eq first.count keys.count

-- the keys that a client answers by (RFC 5802, section 3)
abbrev pub keys_for : ScramVersion → Secret → ServerFirst → ClientKeys
keys_for version (Password password) first = keys_of version (password_bytes password) first.salt first.count
keys_for version (Keys keys) first = keys
keys_for version (Both password keys) first =
    if fit keys first then keys else keys_of version (password_bytes password) first.salt first.count

-- the answer to a server-first message with these values (RFC 5802, section 5)
abbrev pub answer_of : ScramVersion → Secret → ClientHeader → List ℕ → List ℕ → ServerFirst → Answer
answer_of version secret header bare text first =
    answer_by (keys_for version secret first) bare text (without_proof_with header first.nonce)

-- what a client-final message names (RFC 5802, section 7): the proof, and the text before it
pub record ClientFinal : Type 0 where
  pub without : List ℕ
  pub proof : List ℕ

-- the values that the code's value holds
abbrev pub client_final_values : CodeClientFinal → ClientFinal
client_final_values final = record { without = final.without_proof.now; proof = final.proof.items }

-- what a server knows when it reads a client-final message (RFC 5802, section 5): its version, the header that it
-- expects, whether it is strict, the two messages before, the nonce of both sides, the user's record, and whether the user
-- may act for the identity of the header
pub record Server : Type 0 where
  pub version : ScramVersion
  pub header : ClientHeader
  pub strict : Bool
  pub bare : List ℕ
  pub first : List ℕ
  pub nonce : List ℕ
  pub stored : Record
  pub may_act : Bool

-- a server with these values; one that expects a channel or an identity is strict
abbrev pub server_of : ScramVersion → ClientHeader → Bool → List ℕ → List ℕ → List ℕ → Record → Bool → Server
server_of version header strict bare first nonce stored may_act = record {
  version = version;
  header = header;
  strict = needs_strict header || strict;
  bare = bare;
  first = first;
  nonce = nonce;
  stored = stored;
  may_act = may_act;
}

-- the last part is this proof, and this is the text before it (RFC 5802, section 5.1)
abbrev pub HasProof : List ℕ → ClientFinal → Type 0
HasProof text final = IsBytes final.proof × LastPart text final.without (codes "p=" ++ base64_text final.proof)

-- the ClientKey that a server recovers from the proof (RFC 5802, section 3)
abbrev pub recovered_key : Server → ClientFinal → List ℕ
recovered_key server final = recovered_client_key server.version server.stored.stored_key final.proof
    (auth_message server.bare server.first final.without)

-- the proof meets the stored key (RFC 5802, section 3)
abbrev pub Meets : Server → ClientFinal → Type 0
Meets server final = MeetsStoredKey server.version server.stored.stored_key final.proof
    (auth_message server.bare server.first final.without)

-- the message has this channel binding (the header and the data of the channel), and names the nonce of both sides and
-- these values (RFC 5802, section 5.1)
pub record NamesClientFinal (header : ClientHeader) (both text : List ℕ) (final : ClientFinal) : Type 0 where
  pub binding : HasBase64 text 0 (codes "c=") (cbind_input header)
  pub nonce : Part text 1 (codes "r=" ++ both)
  pub proof : HasProof text final

-- the server's tests before it reads the proof, in order (RFC 5802, section 5.1; UTF-8: RFC 3629, section 3): of the
-- channel binding, and of the nonce
abbrev pub before_proof_tests : ClientHeader → List ℕ → List ℕ → List (ServerScramErrorKind × Type 0)
before_proof_tests header nonce text =
    (Utf8Error, ¬ IsUtf8 text)
    ∷ (CannotParseClientFinalMessage, (rest : List ℕ) → ¬ Part text 0 (codes "c=" ++ rest))
    ∷ (Base64DecodeError, (binding : List ℕ) → ¬ HasBase64 text 0 (codes "c=") binding)
    ∷ (InvalidChannelBinding, ¬ HasBase64 text 0 (codes "c=") (cbind_input header))
    ∷ (CannotParseClientFinalMessage, (rest : List ℕ) → ¬ Part text 1 (codes "r=" ++ rest))
    ∷ (IncorrectClientFinalNonce, ¬ Part text 1 (codes "r=" ++ nonce))
    ∷ []

-- the message has in the place of an extension a part that is none: between the nonce and the proof (RFC 5802, section 7)
abbrev pub HasMisplacedBeforeProof : List ℕ → Type 0
HasMisplacedBeforeProof text = (before : List ℕ) × (rest : List ℕ) × LastPart text before (codes "p=" ++ rest)
    × HasMisplacedFrom 2 before

-- the server's tests of the text, in order (RFC 5802, sections 5.1 and 7): those before the proof, of how the proof is
-- spelled, and of a strict server, of the parts between the nonce and the proof
abbrev pub final_text_tests : ClientHeader → Bool → List ℕ → List ℕ → List (ServerScramErrorKind × Type 0)
final_text_tests header strict nonce text = before_proof_tests header nonce text ++
    ((ProofNotFoundInClientFinal, (before rest : List ℕ) → ¬ LastPart text before (codes "p=" ++ rest))
    ∷ (Base64DecodeError, (final : ClientFinal) → ¬ HasProof text final)
    ∷ (MisplacedAttribute, T strict × HasMisplacedBeforeProof text)
    ∷ [])

-- the server reaches a channel binding for which it allocates (RFC 5802, section 5.1): any, if it expects a channel or an
-- identity, and otherwise one that is not the client's GS2 header
abbrev pub ReachesBinding : ClientHeader → List ℕ → Type 0
ReachesBinding header text = ((rest : List ℕ) × Part text 0 (codes "c=" ++ rest))
    × (has_more_than_flag header ≡ false → ¬ HasBase64 text 0 (codes "c=") (cbind_input header))

-- the server reaches the proof, for which it allocates: the tests up to that of the nonce have passed, and the last
-- part is a proof (RFC 5802, section 5.1)
abbrev pub ReachesProof : ClientHeader → List ℕ → List ℕ → Type 0
ReachesProof header nonce text = NoneHolds (before_proof_tests header nonce text)
    × ((before : List ℕ) × (rest : List ℕ) × LastPart text before (codes "p=" ++ rest))

-- the server reaches an allocation (RFC 5802, section 5.1), expecting this channel and this nonce of both sides
abbrev pub ReachesBase64 : ClientHeader → List ℕ → List ℕ → Type 0
ReachesBase64 header nonce text = IsUtf8 text × (ReachesBinding header text ⊎ ReachesProof header nonce text)

-- what the server reads before it tests its keys (RFC 5802, section 5.1): the first error that applies, or the values
-- that are named; extensions between the nonce and the proof stay in the text before the proof
unfoldable pub ReadsFinalText : ClientHeader → Bool → List ℕ → List ℕ → Result ClientFinal ServerScramErrorKind
    → Type 0
ReadsFinalText header strict nonce text answer =
    Reads (final_text_tests header strict nonce text) (NamesClientFinal header nonce text) answer

-- the login is accepted: the proof meets the stored key (RFC 5802, section 3), and the user may act for the identity (RFC
-- 4422, section 2)
abbrev pub IsAccepted : Server → ClientFinal → Type 0
IsAccepted server final = Meets server final × (server.may_act ≡ true)

-- the server's tests of the proof that was read, in order (RFC 5802, section 3); the second is one test of the proof and of
-- the identity (RFC 4422, section 2), so that a client does not learn which of both is wrong
abbrev pub proof_tests : Server → ClientFinal → List (ServerScramErrorKind × Type 0)
proof_tests server final =
    (XorLengthMismatch, length final.proof ≢ digest_len server.version)
    ∷ (AuthenticationFailed, ¬ IsAccepted server final)
    ∷ []

-- what the server reads (RFC 5802, section 5): the first error of the text, otherwise of its proof and of the identity, or
-- the values of a text whose proof meets the stored key, of a user who may act for the identity
unfoldable pub ReadsClientFinal : Server → List ℕ → Result ClientFinal ServerScramErrorKind → Type 0
ReadsClientFinal server text (Ok final) = ReadsFinalText server.header server.strict server.nonce text (Ok final)
    × (length final.proof ≡ digest_len server.version) × IsAccepted server final
ReadsClientFinal server text (Err fault) = ReadsFinalText server.header server.strict server.nonce text (Err fault)
    ⊎ ((final : ClientFinal) × ReadsFinalText server.header server.strict server.nonce text (Ok final)
    × IsFirst (proof_tests server final) fault)
