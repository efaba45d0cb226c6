-- The headline theorem, over every list of frame bodies: what every history has. Every run of `scram_server_run` and of
-- `scram_client_run` has it by contract. `headline` in `laws` of `fe2o3_sasl` states it of the definitions.
use Rattle.std.specs.Prelude.{◌≡◌, ◌≢◌, ℕ, ◌<◌, false, Option, Some, None, List, slice_get, Ok}
use Rattle.fe2o3_sasl_wire.specs.declared.amqp_types.SaslCode.TheVariants as outcomes
use Rattle.fe2o3_sasl_wire.specs.declared.sasl_frames.error.Error.TheVariants as faults
use Rattle.fe2o3_sasl_wire.specs.SaslFrames as frames
use Rattle.fe2o3_sasl_core.specs.ClientHistory.{Answering, answer_at, OpenAnswer, VerifiedAnswer}
use Rattle.fe2o3_scram.specs.Credentials.{Provider}
use Rattle.fe2o3_sasl_core.specs.Events.{is_strict_login, Given, Login, IsRecord, ServerSays, Concluded, Failed, ClientSays, Reported, Refused}
use Rattle.fe2o3_sasl_core.specs.Positions.{IsLastOpen}
use Rattle.fe2o3_scram.specs.ServerFinal.{ReadsServerFinal}
use Rattle.fe2o3_sasl_core.specs.Bodies.{SpellsBody}
use Rattle.fe2o3_sasl_core.specs.ServerHistory.{Accepted, AcceptsAt, ServerHistory, is_challenge, is_ok, says_ok}
use Rattle.fe2o3_sasl_core.specs.TwoSides.{Sides, ReportedAnswer, Takes, Agree, MessagesCollide, client_message, server_message, keys_at}
use Rattle.fe2o3_sasl_core.specs.declared.sasl_profile.error.ProfileError.TheVariants.{OutOfMemory}

-- what a server answers Ok to, exactly
pub record AnswersOkExactly (provider : Provider) (events : List Given) (replies : List ServerSays) : Type 0 where
  -- Ok answers only a response that fits its open challenge, whose proof meets the stored key, and whose user may act for
  -- the identity that the init named
  pub only : (n : ℕ) (body : List ℕ) → slice_get replies n ≡ Some (Concluded outcomes.Ok body)
      → (accepted : Accepted) × AcceptsAt provider events replies n accepted
      × (Concluded outcomes.Ok body ≡ says_ok provider accepted)
  -- an Ok closes the challenge: no later position finds it open, by the definition of what is open
  pub closes : (n j k : ℕ) (body : List ℕ) → slice_get replies n ≡ Some (Concluded outcomes.Ok body)
      → IsLastOpen is_challenge is_ok replies n j → n < k → ¬ IsLastOpen is_challenge is_ok replies k j
  -- every such response is answered by Ok, except if memory runs out or the outcome is too large, as `says_ok` says
  pub wherever : (n : ℕ) (accepted : Accepted) (says : ServerSays) → AcceptsAt provider events replies n accepted
      → slice_get replies n ≡ Some says → says ≢ Failed faults.OutOfMemory → says ≡ says_ok provider accepted

-- the event at m is an outcome Ok with this data, which is the signature that the open answer waits for; or without data,
-- and that signature came in the challenge that the client answered last
abbrev pub SignedAt : Login → List Given → List ClientSays → ℕ → Option (List ℕ) → Type 0
SignedAt login events replies m (Some text) = (event : Given) × (answer : Answering) × (slice_get events m ≡ Some event)
    × SpellsBody event.body (Ok (frames.Outcome outcomes.Ok (Some text)))
    × OpenAnswer login events replies m answer
    × ReadsServerFinal (is_strict_login login) (answer_at login answer).signature text (Ok tt)
SignedAt login events replies m None = (event : Given) × (answer : Answering) × (slice_get events m ≡ Some event)
    × SpellsBody event.body (Ok (frames.Outcome outcomes.Ok None)) × VerifiedAnswer login events replies m answer

-- what a client reports Ok on, exactly
pub record ReportsOkExactly (login : Login) (events : List Given) (replies : List ClientSays) : Type 0 where
  -- Ok is reported only on the signature of the open answered challenge, however it came
  pub only : (m : ℕ) (more : Option (List ℕ)) → slice_get replies m ≡ Some (Reported outcomes.Ok more)
      → SignedAt login events replies m more
  -- a client that does not accept the signature in a challenge reports Ok only with data
  pub with_data : login.signature_by_challenge ≡ false → (m : ℕ) (more : Option (List ℕ))
      → slice_get replies m ≡ Some (Reported outcomes.Ok more) → (text : List ℕ) × (more ≡ Some text)
  -- every outcome Ok with such a signature is reported, except if memory runs out
  pub wherever : (m : ℕ) (more : Option (List ℕ)) (says : ClientSays) → SignedAt login events replies m more
      → slice_get replies m ≡ Some says → says ≢ Refused OutOfMemory → says ≡ Reported outcomes.Ok more

-- of a verifier that the client took at m: both sides agree if their AuthMessages are equal, and otherwise these share
-- one HMAC value under the two sides' own server keys
pub record VerifierAgrees (sides : Sides) (m : ℕ) (accepted : Accepted) : Type 0 where
  pub answer : Answering
  pub opened : ReportedAnswer sides.login sides.client_events sides.client_replies m answer
  pub agrees : client_message sides.login answer ≡ server_message accepted
      → Agree sides.login sides.provider answer accepted
  pub collides : client_message sides.login answer ≢ server_message accepted → MessagesCollide sides answer accepted
      (keys_at sides.login answer).server_key accepted.challenge.stored.server_key

-- of the verifiers that the client took: each that a server issued, of any provider and history
abbrev pub TakenVerifiersAgree : Login → List Given → List ClientSays → Type 0
TakenVerifiersAgree login events replies = (sides : Sides) (m n : ℕ) (accepted : Accepted) → sides.login ≡ login
    → sides.client_events ≡ events → sides.client_replies ≡ replies
    → ServerHistory sides.provider sides.server_events sides.server_replies → IsRecord accepted.challenge.stored
    → Takes sides m n accepted → VerifierAgrees sides m accepted
