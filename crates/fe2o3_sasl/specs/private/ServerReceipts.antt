-- What the pass over a server's run knows and keeps. Only contracts of private functions cite this.
use Rattle.std.specs.Prelude.{◌≡◌, ℕ, Option, Some, List, [], ◌∷◌, ◌++◌, Ok, string_bytes}
use Rattle.fe2o3_sasl_wire.specs.declared.amqp_types.SaslCode.TheVariants as outcomes
use Rattle.fe2o3_sasl_wire.specs.declared.sasl_frames.error.Error.TheVariants as faults
use Rattle.fe2o3_sasl_wire.specs.SaslFrames as frames
use Rattle.fe2o3_scram.specs.ClientFinal.{ClientFinal, HasProof}
use Rattle.fe2o3_scram.specs.ClientFirst.{ReadsClientFirst, client_first_values}
use Rattle.fe2o3_scram.specs.Credentials.{Provider, kept}
use Rattle.fe2o3_scram.specs.ServerFirst.{challenge_of, challenge_values}
use Rattle.fe2o3_scram.specs.Texts.{base64_text}
use Rattle.fe2o3_sasl.specs.declared.audit.server_receipts.challenges.Opened.{Opened}
use Rattle.fe2o3_sasl_core.specs.Events.{Given, ServerSays, Challenged, Concluded, Failed}
use Rattle.fe2o3_sasl_core.specs.Positions.{IsLastOpen}
use Rattle.fe2o3_sasl_core.specs.Bodies.{SpellsBody}
use Rattle.fe2o3_sasl_core.specs.ServerHistory.{Challenging, is_challenge, is_ok}
use Rattle.fe2o3_sasl.specs.private.Receipts.{ServerReceipt, OfAccepted, Covers, IsOkReceipt, ConcludesAt}

-- memory ran out
abbrev pub no_memory : ServerSays
no_memory = Failed faults.OutOfMemory

-- what is known at position i: the receipts so far, and the challenge that can be open
pub record ServerSoFar (provider : Provider) (events : List Given) (replies : List ServerSays) (i challenge : ℕ)
    (oks : List ServerReceipt) : Type 0 where
  pub concludes : Covers (IsOkReceipt provider events replies) (λ receipt. receipt.place) (ConcludesAt replies) i oks
  pub challenged : (j : ℕ) → IsLastOpen is_challenge is_ok replies i j → challenge ≡ j

-- the challenge that a value holds
abbrev pub opened_challenge : Opened → Challenging
opened_challenge opened = record {
  client = client_first_values opened.client_first;
  nonce = string_bytes opened.server_nonce;
  stored = kept opened.stored_password;
}

-- the server-first message of a value is that of its challenge
abbrev pub HoldsMessage : Opened → Type 0
HoldsMessage opened =
    let challenge = opened_challenge opened in
    challenge_values opened.server_first ≡ challenge_of challenge.client challenge.nonce challenge.stored

-- the challenge to the init in this event
pub record OpenedFor (provider : Provider) (init : Given) (challenge : Challenging) : Type 0 where
  pub mechanism : List ℕ
  pub text : List ℕ
  pub hostname : Option (List ℕ)
  pub spells : SpellsBody init.body (Ok (frames.Init mechanism (Some text) hostname))
  pub reads : ReadsClientFirst provider.rules text (Ok challenge.client)
  pub known : provider.records challenge.client.user ≡ Some challenge.stored
  pub nonce : challenge.nonce ≡ base64_text init.nonce

-- a receipt made of the body of a response to this challenge
pub record OkFor (provider : Provider) (position : ℕ) (challenge : Challenging) (body : List ℕ)
    (receipt : ServerReceipt) : Type 0 where
  pub place : receipt.place ≡ position
  pub text : List ℕ
  pub final : ClientFinal
  pub spells : SpellsBody body (Ok (frames.Response text))
  pub proof : HasProof text final
  pub accepted : OfAccepted provider (record { challenge = challenge; final = final }) receipt

-- an Ok adds its receipt
abbrev pub KeepsOk : Provider → ℕ → Given → Given → List ServerReceipt → List ServerReceipt → Type 0
KeepsOk provider place init event oks oks' =
    (opened : Challenging) × (receipt : ServerReceipt) × OpenedFor provider init opened
    × OkFor provider place opened event.body receipt × (oks' ≡ oks ++ receipt ∷ [])

-- what the reply at a position leaves: the position of the last challenge, and the receipts of Oks so far
abbrev pub ServerKeeps : Provider → ℕ → Given → Given → ServerSays → ℕ → ℕ → List ServerReceipt
    → List ServerReceipt → Type 0
ServerKeeps provider place init event (Challenged body) challenge next oks oks' = (next ≡ place) × (oks' ≡ oks)
ServerKeeps provider place init event (Concluded outcomes.Ok body) challenge next oks oks' =
    (next ≡ challenge) × KeepsOk provider place init event oks oks'
ServerKeeps provider place init event (Concluded code body) challenge next oks oks' =
    (next ≡ challenge) × (oks' ≡ oks)
ServerKeeps provider place init event (Failed fault) challenge next oks oks' = (next ≡ challenge) × (oks' ≡ oks)
