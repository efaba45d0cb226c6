-- The server-final message (RFC 5802, section 7), as the server writes it and as the client reads it.
use Rattle.std.specs.Prelude.{ℕ, List, [], ◌∷◌, ◌++◌, ◌≡◌, ◌≢◌, ◌⊎◌, ◌≤◌, ◌+◌, codes, Result, Ok, Err, Bool, T}
use Rattle.std.specs.Str.{IsUtf8}
use Rattle.fe2o3_scram.specs.declared.scram_messages.error.ServerScramErrorKind.{ServerScramErrorKind}
use Rattle.fe2o3_scram.specs.declared.scram_messages.error.ServerScramErrorKind.TheVariants.{AuthenticationFailed, OutOfMemory}
use Rattle.fe2o3_scram.specs.Texts.{base64_text, Part, HasBase64}
use Rattle.fe2o3_scram.specs.ClientFinal.{Server, ClientFinal, ReadsClientFinal}
use Rattle.fe2o3_scram.specs.Keys.{auth_message, server_signature}
use Rattle.fe2o3_scram.specs.Readings.{Reads}
use Rattle.fe2o3_scram.specs.declared.scram_messages.error.ScramErrorKind.{ScramErrorKind}
use Rattle.fe2o3_scram.specs.declared.scram_messages.error.ScramErrorKind.TheVariants.{Utf8Error, Base64DecodeError, MisplacedAttribute, ServerSignatureMismatch}
use Rattle.fe2o3_scram.specs.Grammar.{HasMisplacedFrom}

-- server-final-message (RFC 5802, section 7): the ServerSignature
abbrev pub server_final_of : Server → ClientFinal → List ℕ
server_final_of server final = codes "v=" ++ base64_text
    (server_signature server.version server.stored.server_key (auth_message server.bare server.first final.without))

-- what the server answers to a client-final message (RFC 5802, section 5): the first error, or the server-final message
abbrev pub AnswersClientFinal : Server → List ℕ → Result (List ℕ) ServerScramErrorKind → Type 0
AnswersClientFinal server text (Ok message) = (final : ClientFinal) × ReadsClientFinal server text (Ok final)
    × (message ≡ server_final_of server final)
AnswersClientFinal server text (Err fault) = ReadsClientFinal server text (Err fault)

-- the HMAC values of the answer (RFC 5802, section 3), as a meter shows them before and after: two if the proof is
-- accepted, one if only it is rejected, none for another error; if memory ran out none for a text that is rejected, and
-- from none to two for one that is accepted
abbrev pub FinalCosts : {A : Type 0} → Server → List ℕ → Result A ServerScramErrorKind → ℕ → ℕ → Type 0
FinalCosts server text (Ok message) before after = after ≡ before + 2
FinalCosts server text (Err AuthenticationFailed) before after = after ≡ before + 1
FinalCosts server text (Err OutOfMemory) before after = (before ≤ after) × (after ≤ before + 2)
    × ((fault : ServerScramErrorKind) → ReadsClientFinal server text (Err fault) → after ≡ before)
FinalCosts server text (Err fault) before after = after ≡ before

-- the client's tests of the text, in order (RFC 5802, section 5.1; UTF-8: RFC 3629, section 3); the last is that of a
-- strict client, of the parts after the signature (RFC 5802, section 7)
abbrev pub server_final_tests : Bool → List ℕ → List (ScramErrorKind × Type 0)
server_final_tests strict text =
    (Utf8Error, ¬ IsUtf8 text)
    ∷ (ServerSignatureMismatch, (rest : List ℕ) → ¬ Part text 0 (codes "v=" ++ rest))
    ∷ (Base64DecodeError, (signature : List ℕ) → ¬ HasBase64 text 0 (codes "v=") signature)
    ∷ (MisplacedAttribute, T strict × HasMisplacedFrom 1 text)
    ∷ []

-- the client reaches the signature, for which it allocates (RFC 5802, section 5.1)
abbrev pub ReachesVerifier : List ℕ → Type 0
ReachesVerifier text = IsUtf8 text × ((rest : List ℕ) × Part text 0 (codes "v=" ++ rest))

-- what the client reads before it compares the signature that it waits for (RFC 5802, section 5.1): the first error
-- that applies, or the signature that is named; extensions after it are ignored
unfoldable pub ReadsSignature : Bool → List ℕ → Result (List ℕ) ScramErrorKind → Type 0
ReadsSignature strict text answer = Reads (server_final_tests strict text) (HasBase64 text 0 (codes "v=")) answer

-- what the client reads (RFC 5802, section 5): the first error of the text, that its signature is another one, or that
-- it is this one
unfoldable pub ReadsServerFinal : Bool → List ℕ → List ℕ → Result (Unit {0}) ScramErrorKind → Type 0
ReadsServerFinal strict signature text (Ok verified) = ReadsSignature strict text (Ok signature)
ReadsServerFinal strict signature text (Err fault) = ReadsSignature strict text (Err fault)
    ⊎ ((other : List ℕ) × ReadsSignature strict text (Ok other) × (other ≢ signature) × (fault ≡ ServerSignatureMismatch))
