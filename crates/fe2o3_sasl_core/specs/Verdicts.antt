-- The findings of two lists of frame bodies, and their verdicts: the project's own terms, over the keys of RFC 5802,
-- section 3.
use Rattle.std.specs.Prelude.{◌≡◌, ◌≢◌, ◌⊎◌, ℕ, ◌<◌, Option, Some, None, List, [], ◌∷◌, ◌++◌, map}
use Rattle.std.specs.List.{AllByRecursion, Contains}
use Rattle.fe2o3_sasl_core.specs.ClientHistory.{Answering}
use Rattle.fe2o3_sasl_core.specs.Events.{Given, Login, ClientSays, ServerSays}
use Rattle.fe2o3_scram.specs.Credentials.{Provider}
use Rattle.fe2o3_scram.specs.declared.hmac.ScramVersion.{ScramVersion}
use Rattle.fe2o3_scram.specs.ClientFinal.{recovered_key}
use Rattle.fe2o3_scram.specs.Hmac.{digest}
use Rattle.fe2o3_sasl_core.specs.Complete.{ServerComplete, ClientComplete}
use Rattle.fe2o3_sasl_core.specs.ServerHistory.{Accepted, full_nonce, server_at}
use Rattle.fe2o3_sasl_core.specs.TwoSides.{Sides, sides_of, Histories, ReportedAnswer, Takes, Shows, Agree, IsPlainInit, MessagesCollide, client_message, server_message, keys_at}

-- the nonce of both sides, the salt and the iteration count
pub record Parameters : Type 0 where
  pub full_nonce : List ℕ
  pub salt : List ℕ
  pub iterations : ℕ

-- both sides mean one login, of which these are the values; or two texts or keys of the sides themselves
-- collide; or the proof was made with another key
pub data Verdict : Type 0 where
  Agreed : (user client_nonce : List ℕ) → (parameters : Option Parameters) → Verdict
  SameMac : (client_key client_text server_key server_text : List ℕ) → Verdict
  SameHash : (client_key recovered : List ℕ) → Verdict
  OtherKey : Verdict

-- the parameters are given exactly if the init was plain
abbrev pub AreParameters : Accepted → Option Parameters → Type 0
AreParameters accepted None = ¬ IsPlainInit accepted
AreParameters accepted (Some parameters) =
    IsPlainInit accepted × (parameters.full_nonce ≡ full_nonce accepted.challenge)
    × (parameters.salt ≡ accepted.challenge.stored.salt) × (parameters.iterations ≡ accepted.challenge.stored.count)

-- the AuthMessages are equal, the two sides agree, and these are the values
abbrev pub AreAgreed : Sides → Answering → Accepted → List ℕ → List ℕ → Option Parameters → Type 0
AreAgreed sides answer accepted user nonce parameters =
    (client_message sides.login answer ≡ server_message accepted) × Agree sides.login sides.provider answer accepted
    × (user ≡ accepted.challenge.client.user) × (nonce ≡ accepted.challenge.client.nonce)
    × AreParameters accepted parameters

-- the verdict on a verifier that the client took: both agree, or the AuthMessages collide under the server keys
-- of the two sides
abbrev pub JudgesVerifier : Sides → Answering → Accepted → Verdict → Type 0
JudgesVerifier sides answer accepted (Agreed user nonce parameters) =
    AreAgreed sides answer accepted user nonce parameters
JudgesVerifier sides answer accepted (SameMac client_key client_text server_key server_text) =
    (client_key ≡ (keys_at sides.login answer).server_key) × (client_text ≡ client_message sides.login answer)
    × (server_key ≡ accepted.challenge.stored.server_key) × (server_text ≡ server_message accepted)
    × MessagesCollide sides answer accepted client_key server_key
JudgesVerifier sides answer accepted verdict = ⊥

-- the key that the server recovered from the proof
abbrev pub recovered_at : Provider → Accepted → List ℕ
recovered_at provider accepted = recovered_key (server_at provider accepted.challenge) accepted.final

-- two keys that differ have one digest: a collision
pub record HashCollision (version : ScramVersion) (key other_key : List ℕ) : Type 0 where
  pub differ : key ≢ other_key
  pub one : digest version key ≡ digest version other_key

-- the client's key is the one whose digest the server stores
abbrev pub IsStoredKey : Sides → Answering → Accepted → Type 0
IsStoredKey sides answer accepted =
    let keys = keys_at sides.login answer in
    digest keys.version keys.client_key ≡ accepted.challenge.stored.stored_key

-- the verdict on a proof that the server accepted: the key was another; or both agree; or the client's key and the
-- recovered one collide; or the AuthMessages do under the stored key
abbrev pub JudgesProof : Sides → Answering → Accepted → Verdict → Type 0
JudgesProof sides answer accepted OtherKey = ¬ IsStoredKey sides answer accepted
JudgesProof sides answer accepted (Agreed user nonce parameters) =
    IsStoredKey sides answer accepted × AreAgreed sides answer accepted user nonce parameters
JudgesProof sides answer accepted (SameHash client_key recovered) =
    IsStoredKey sides answer accepted × (client_message sides.login answer ≢ server_message accepted)
    × (client_key ≡ (keys_at sides.login answer).client_key) × (recovered ≡ recovered_at sides.provider accepted)
    × ((keys_at sides.login answer).version ≡ sides.provider.version)
    × HashCollision (keys_at sides.login answer).version client_key recovered
JudgesProof sides answer accepted (SameMac client_key client_text server_key server_text) =
    IsStoredKey sides answer accepted
    × ((keys_at sides.login answer).client_key ≡ recovered_at sides.provider accepted)
    × (client_key ≡ accepted.challenge.stored.stored_key) × (client_text ≡ client_message sides.login answer)
    × (server_key ≡ accepted.challenge.stored.stored_key) × (server_text ≡ server_message accepted)
    × MessagesCollide sides answer accepted client_key server_key

-- a finding is of a verifier that the client took, or of a proof that it showed
pub data FindingKind : Type 0 where
  OfVerifier : FindingKind
  OfProof : FindingKind

-- a finding: its kind, a position of the client, a position of the server, and the verdict
pub record Finding : Type 0 where
  pub kind : FindingKind
  pub client : ℕ
  pub server : ℕ
  pub verdict : Verdict

-- the two positions of a finding
abbrev pub place_of : Finding → ℕ × ℕ
place_of finding = (finding.client, finding.server)

-- the order by the first position, and then by the second
abbrev pub Before : ℕ × ℕ → ℕ × ℕ → Type 0
Before left right = (left.0 < right.0) ⊎ ((left.0 ≡ right.0) × (left.1 < right.1))

-- each pair is before all later ones
abbrev pub Ascending : List (ℕ × ℕ) → Type 0
Ascending [] = Unit {0}
Ascending (place ∷ places) = AllByRecursion (Before place) places × Ascending places

-- exactly the pairs of the relation, each once, in order
pub record Lists (R : ℕ → ℕ → Type 0) (places : List (ℕ × ℕ)) : Type 0 where
  pub each : AllByRecursion (λ place. R place.0 place.1) places
  pub every : (m n : ℕ) → R m n → Contains places (m, n)
  pub ordered : Ascending places

-- a verifier that the client took, with its verdict
abbrev pub IsVerifierFinding : Sides → Finding → Type 0
IsVerifierFinding sides finding =
    (finding.kind ≡ OfVerifier) × ((answer : Answering) × (accepted : Accepted)
    × Takes sides finding.client finding.server accepted
    × ReportedAnswer sides.login sides.client_events sides.client_replies finding.client answer
    × JudgesVerifier sides answer accepted finding.verdict)

-- a proof that the client showed, with its verdict
abbrev pub IsProofFinding : Sides → Finding → Type 0
IsProofFinding sides finding =
    (finding.kind ≡ OfProof) × ((answer : Answering) × (accepted : Accepted)
    × Shows sides finding.client finding.server answer accepted × JudgesProof sides answer accepted finding.verdict)

-- what an audit lists: of two histories without running out of memory exactly the pairs of `Takes`, and then exactly
-- those of `Shows`, each once, in order, and with its verdict
pub record Audits (sides : Sides) (findings : List Finding) : Type 0 where
  pub verifiers : List Finding
  pub proofs : List Finding
  pub whole : findings ≡ verifiers ++ proofs
  pub histories : Histories sides
  pub client_complete : ClientComplete sides.client_replies
  pub server_complete : ServerComplete sides.server_replies
  pub takes : Lists (λ m n. (accepted : Accepted) × Takes sides m n accepted) (map place_of verifiers)
  pub shows : Lists (λ k n. (answer : Answering) × (accepted : Accepted) × Shows sides k n answer accepted)
      (map place_of proofs)
  pub verifier_verdicts : AllByRecursion (IsVerifierFinding sides) verifiers
  pub proof_verdicts : AllByRecursion (IsProofFinding sides) proofs

-- what an audit lists of these events: what it lists of two histories of them
abbrev pub AuditsEvents : Login → List Given → Provider → List Given → List Finding → Type 0
AuditsEvents login client_events provider server_events findings =
    (client_replies : List ClientSays) × (server_replies : List ServerSays)
    × Audits (sides_of login client_events client_replies provider server_events server_replies) findings
