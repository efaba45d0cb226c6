-- The receipts of an audit, as plain data. Only contracts of private functions cite this.
use Rattle.std.specs.Prelude.{◌≡◌, ◌⊎◌, ℕ, ◌<◌, Option, Some, List, [], ◌∷◌, slice_get}
use Rattle.std.specs.List.{AllByRecursion}
use Rattle.fe2o3_sasl_wire.specs.declared.amqp_types.SaslCode.TheVariants as outcomes
use Rattle.fe2o3_scram.specs.Credentials.{Provider}
use Rattle.fe2o3_scram.specs.Hmac.{digest}
use Rattle.fe2o3_scram.specs.Texts.{Part}
use Rattle.fe2o3_sasl_core.specs.Verdicts.{Parameters, AreParameters, recovered_at}
use Rattle.fe2o3_sasl_core.specs.ClientHistory.{Answering, AnswersAt}
use Rattle.fe2o3_sasl_core.specs.Events.{Given, Login, IsRecord, ServerSays, Concluded, ClientSays, Answered, Reported}
use Rattle.fe2o3_sasl_core.specs.ServerHistory.{Accepted, AcceptsAt, final_message}
use Rattle.fe2o3_sasl_core.specs.TwoSides.{VerifierText, SignedAnswer, client_message, server_message, keys_at, proof_at}

-- the receipt of a position of the client: what it showed or took there, and the AuthMessage and the keys of its answer
pub record ClientReceipt : Type 0 where
  pub place : ℕ
  pub shown : List ℕ
  pub message : List ℕ
  pub client_key : List ℕ
  pub stored_key : List ℕ
  pub server_key : List ℕ

-- the receipt of a position where the server answered Ok: the verifier that it gave, the proof that it accepted, and
-- the values of both
pub record ServerReceipt : Type 0 where
  pub place : ℕ
  pub verifier : List ℕ
  pub proof : List ℕ
  pub message : List ℕ
  pub user : List ℕ
  pub nonce : List ℕ
  pub parameters : Option Parameters
  pub stored_key : List ℕ
  pub server_key : List ℕ
  pub recovered : List ℕ

-- the receipt is of this answer
pub record OfAnswer (login : Login) (answer : Answering) (receipt : ClientReceipt) : Type 0 where
  pub message : receipt.message ≡ client_message login answer
  pub client_key : receipt.client_key ≡ (keys_at login answer).client_key
  pub stored_key : receipt.stored_key ≡ digest (keys_at login answer).version (keys_at login answer).client_key
  pub server_key : receipt.server_key ≡ (keys_at login answer).server_key

-- the receipt is of this accepted response
pub record OfAccepted (provider : Provider) (accepted : Accepted) (receipt : ServerReceipt) : Type 0 where
  pub kept : IsRecord accepted.challenge.stored
  pub verifier : receipt.verifier ≡ final_message provider accepted
  pub proof : receipt.proof ≡ accepted.final.proof
  pub message : receipt.message ≡ server_message accepted
  pub user : receipt.user ≡ accepted.challenge.client.user
  pub nonce : receipt.nonce ≡ accepted.challenge.client.nonce
  pub parameters : AreParameters accepted receipt.parameters
  pub stored_key : receipt.stored_key ≡ accepted.challenge.stored.stored_key
  pub server_key : receipt.server_key ≡ accepted.challenge.stored.server_key
  pub recovered : receipt.recovered ≡ recovered_at provider accepted

-- the receipt of a response of the client to a server-first message, with the proof that it showed
abbrev pub IsShownReceipt : Login → List Given → List ClientSays → ClientReceipt → Type 0
IsShownReceipt login events replies receipt =
    (body : List ℕ) × (answer : Answering) × (slice_get replies receipt.place ≡ Some (Answered body))
    × AnswersAt login events replies receipt.place answer × (receipt.shown ≡ proof_at login answer)
    × OfAnswer login answer receipt

-- the receipt of a reported Ok, with the verifier that the client took
abbrev pub IsTakenReceipt : Login → List Given → List ClientSays → ClientReceipt → Type 0
IsTakenReceipt login events replies receipt =
    (more : Option (List ℕ)) × (text : List ℕ) × (answer : Answering)
    × (slice_get replies receipt.place ≡ Some (Reported outcomes.Ok more))
    × SignedAnswer login events replies receipt.place more answer
    × VerifierText events replies receipt.place more text × Part text 0 receipt.shown
    × OfAnswer login answer receipt

-- the receipt of an Ok of the server
abbrev pub IsOkReceipt : Provider → List Given → List ServerSays → ServerReceipt → Type 0
IsOkReceipt provider events replies receipt =
    (body : List ℕ) × (accepted : Accepted)
    × (slice_get replies receipt.place ≡ Some (Concluded outcomes.Ok body))
    × AcceptsAt provider events replies receipt.place accepted × OfAccepted provider accepted receipt

-- the reply at this position is a response to a server-first message
abbrev pub ProvesAt : Login → List Given → List ClientSays → ℕ → Type 0
ProvesAt login events replies k = (body : List ℕ) × (answer : Answering)
    × (slice_get replies k ≡ Some (Answered body)) × AnswersAt login events replies k answer

-- the reply at this position is a reported Ok
abbrev pub ReportsAt : List ClientSays → ℕ → Type 0
ReportsAt replies k = (more : Option (List ℕ)) × (slice_get replies k ≡ Some (Reported outcomes.Ok more))

-- the reply at this position is an Ok of the server
abbrev pub ConcludesAt : List ServerSays → ℕ → Type 0
ConcludesAt replies k = (body : List ℕ) × (slice_get replies k ≡ Some (Concluded outcomes.Ok body))

-- the item is in the list
abbrev pub Member : {X : Type 0} → X → List X → Type 0
Member item [] = ⊥
Member item (first ∷ items) = (first ≡ item) ⊎ Member item items

-- the positions rise
abbrev pub Rising : {X : Type 0} → (X → ℕ) → List X → Type 0
Rising place [] = Unit {0}
Rising place (first ∷ items) = AllByRecursion (λ item. place first < place item) items × Rising place items

-- exactly those positions before i of which At holds have a receipt, one each, in order
pub record Covers {X : Type 0} (Is : X → Type 0) (place : X → ℕ) (At : ℕ → Type 0) (i : ℕ) (receipts : List X)
    : Type 0 where
  pub each : AllByRecursion Is receipts
  pub below : AllByRecursion (λ receipt. place receipt < i) receipts
  pub rising : Rising place receipts
  pub every : (k : ℕ) → k < i → At k → (receipt : X) × Member receipt receipts × (place receipt ≡ k)
