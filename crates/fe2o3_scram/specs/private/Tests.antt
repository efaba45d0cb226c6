-- The tests of messages in parts, as the code makes them: each list is a piece of `client_first_tests`, of
-- `server_first_tests` or of `final_text_tests`. No public clause cites this file.
use Rattle.std.specs.Prelude.{ℕ, List, [], ◌∷◌, ◌++◌, ◌<◌, ◌≡◌, Bool, false, T, codes}
use Rattle.fe2o3_scram.specs.declared.client_secret.IterationLimits.{IterationLimits}
use Rattle.fe2o3_scram.specs.declared.scram_messages.error.ScramErrorKind.{ScramErrorKind}
use Rattle.fe2o3_scram.specs.declared.scram_messages.error.ScramErrorKind.TheVariants as kinds
use Rattle.fe2o3_scram.specs.declared.scram_messages.error.ServerScramErrorKind.{ServerScramErrorKind}
use Rattle.fe2o3_scram.specs.declared.scram_messages.error.ServerScramErrorKind.TheVariants as server_kinds
use Rattle.fe2o3_scram.specs.ClientFinal.{ClientFinal, HasMisplacedBeforeProof, HasProof}
use Rattle.fe2o3_scram.specs.declared.scram_messages.server_rules.ServerRules.{ServerRules}
use Rattle.fe2o3_scram.specs.ChannelBinding.{ClientHeader, cbind_input, is_strict}
use Rattle.fe2o3_scram.specs.ClientFirst.{ClientFirst}
use Rattle.fe2o3_scram.specs.Grammar.{HasMisplacedFrom, is_nonce, is_value}
use Rattle.fe2o3_scram.specs.ServerFirst.{AddsNoNonce, HasCount, HasPlainCount}
use Rattle.fe2o3_scram.specs.Texts.{HasBase64, LastPart, Part}

-- the server's tests of the grammar, of what a client-first message names
abbrev pub bare_grammar_tests : ServerRules → ClientFirst → List (ServerScramErrorKind × Type 0)
bare_grammar_tests rules first =
    (server_kinds.CannotParseUsername, T rules.strict × (is_value first.user ≡ false))
    ∷ (server_kinds.CannotParseClientNonce, T rules.strict × (is_nonce first.nonce ≡ false))
    ∷ (server_kinds.MisplacedAttribute, T (is_strict rules) × HasMisplacedFrom 2 first.bare)
    ∷ []

-- the client's tests of the salt
abbrev pub salt_tests : List ℕ → List (ScramErrorKind × Type 0)
salt_tests text =
    (kinds.SaltNotFound, (rest : List ℕ) → ¬ Part text 1 (codes "s=" ++ rest))
    ∷ (kinds.Base64DecodeError, (salt : List ℕ) → ¬ HasBase64 text 1 (codes "s=") salt)
    ∷ []

-- the client's tests of the iteration count
abbrev pub count_tests : IterationLimits → List ℕ → List (ScramErrorKind × Type 0)
count_tests limits text =
    (kinds.IterationCountNotFound, (rest : List ℕ) → ¬ Part text 2 (codes "i=" ++ rest))
    ∷ (kinds.IterationCountParseError, (count : ℕ) → ¬ HasCount text count)
    ∷ (kinds.IterationCountTooSmall, (count : ℕ) × HasCount text count × (count < limits.min_iterations))
    ∷ (kinds.IterationCountTooLarge, (count : ℕ) × HasCount text count × (limits.max_iterations < count))
    ∷ []

-- the client's tests of the grammar
abbrev pub text_grammar_tests : Bool → Bool → List ℕ → List ℕ → List (ScramErrorKind × Type 0)
text_grammar_tests strict rejects_misplaced client_nonce text =
    (kinds.ClientNonceMismatch, T strict × AddsNoNonce client_nonce text)
    ∷ (kinds.IterationCountParseError, T strict × ((count : ℕ) → ¬ HasPlainCount text count))
    ∷ (kinds.MisplacedAttribute, T rejects_misplaced × HasMisplacedFrom 3 text)
    ∷ []

-- the server's tests of the channel binding
abbrev pub binding_tests : ClientHeader → List ℕ → List (ServerScramErrorKind × Type 0)
binding_tests header text =
    (server_kinds.CannotParseClientFinalMessage, (rest : List ℕ) → ¬ Part text 0 (codes "c=" ++ rest))
    ∷ (server_kinds.Base64DecodeError, (binding : List ℕ) → ¬ HasBase64 text 0 (codes "c=") binding)
    ∷ (server_kinds.InvalidChannelBinding, ¬ HasBase64 text 0 (codes "c=") (cbind_input header))
    ∷ []

-- the server's tests of the nonce
abbrev pub final_nonce_tests : List ℕ → List ℕ → List (ServerScramErrorKind × Type 0)
final_nonce_tests nonce text =
    (server_kinds.CannotParseClientFinalMessage, (rest : List ℕ) → ¬ Part text 1 (codes "r=" ++ rest))
    ∷ (server_kinds.IncorrectClientFinalNonce, ¬ Part text 1 (codes "r=" ++ nonce))
    ∷ []

-- the server's tests of how the proof is spelled, and of the parts before it
abbrev pub spelling_tests : Bool → List ℕ → List (ServerScramErrorKind × Type 0)
spelling_tests strict text =
    (server_kinds.ProofNotFoundInClientFinal, (before rest : List ℕ) → ¬ LastPart text before (codes "p=" ++ rest))
    ∷ (server_kinds.Base64DecodeError, (final : ClientFinal) → ¬ HasProof text final)
    ∷ (server_kinds.MisplacedAttribute, T strict × HasMisplacedBeforeProof text)
    ∷ []
