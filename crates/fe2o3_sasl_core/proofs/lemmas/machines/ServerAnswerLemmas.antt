-- What the parts of a server's answer say of its machine.
use Rattle.std.proofs.Common.{◌≡◌, ◌≢◌, inl, inr, ℕ, Bool, List, Option, Some, Result, Ok, Err, sym, subst, refl}
use Rattle.std.specs.Prelude.{IsAscii, codes}
use Rattle.fe2o3_sasl_core.proofs.lemmas.frames.SpellingLemmas.{IsAscii-mechanism_of}
use Rattle.fe2o3_sasl_wire.proofs.lemmas.reading.TextLemmas.{IsAscii-from_is_ascii}
use Rattle.fe2o3_sasl_wire.specs.SaslFrames.{SaslFrame, canonical}
use Rattle.fe2o3_sasl_wire.specs.declared.sasl_frames.error.Error.{Error}
use Rattle.fe2o3_sasl_wire.specs.declared.sasl_frames.error.Error.TheVariants as faults
use Rattle.fe2o3_sasl_core.specs.Bodies.{server_says}
use Rattle.fe2o3_sasl_core.specs.Events.{Failed, ServerSays}
use Rattle.fe2o3_sasl_core.specs.Runs.{AcceptorAnswers, SendsCanonical, server_reply}
use Rattle.std.specs.Prelude.{Vec}
use Rattle.std.specs.declared.alloc.Global.{Global}
use Rattle.fe2o3_scram.specs.ClientFinal.{Server}
use Rattle.fe2o3_scram.specs.Credentials.{with_rights}
use Rattle.fe2o3_scram.specs.Readings.{Gives}
use Rattle.fe2o3_scram.specs.ScramServer.{ServerFirstSent, ServerFinalSent}
use Rattle.fe2o3_scram.specs.ServerFinal.{AnswersClientFinal, FinalCosts}
use Rattle.fe2o3_scram.specs.ServerFirst.{OpenExchange}
use Rattle.fe2o3_scram.specs.declared.hmac.ScramVersion.{ScramVersion}
use Rattle.fe2o3_scram.specs.declared.scram_messages.error.ServerScramErrorKind.{ServerScramErrorKind}
use Rattle.fe2o3_scram.specs.declared.scram_messages.error.ServerScramErrorKind.TheVariants.{AuthenticationFailed, OutOfMemory}
use Rattle.fe2o3_sasl_core.specs.Mechanisms.{mechanism_symbol}
use Rattle.fe2o3_sasl_core.specs.Servers.{ExchangeOpen, NotStarted, ServerSettings, ServerStage, provider_by, response_hmacs, exchange_server}
use Rattle.fe2o3_sasl_core.specs.declared.server.stage.Move.{Move}
use Rattle.fe2o3_sasl_core.specs.declared.server.stage.Move.TheVariants as moves
use Rattle.fe2o3_sasl_core.specs.private.ServerMoves.{TakesAtMost, TakesExactly, after, restarted}
use Rattle.fe2o3_sasl_core.proofs.lemmas.machines.ResponseCostLemmas.{exactly_from, response_costs}
use Rattle.fe2o3_sasl_core.specs.declared.events.ServerReply.{ServerReply}
use Rattle.fe2o3_sasl_core.specs.private.Writing.{Writes}
use Rattle.fe2o3_sasl_core.specs.declared.mechanism.Mechanism.{Mechanism}
use Rattle.fe2o3_sasl_core.specs.declared.mechanism.Mechanism.TheVariants as mechanisms

-- the name of a mechanism is ASCII
pub IsAscii-mechanism_symbol : (mechanism : Mechanism) → IsAscii (mechanism_symbol mechanism)
IsAscii-mechanism_symbol (mechanisms.Scram version plus) = IsAscii-mechanism_of version plus
IsAscii-mechanism_symbol mechanisms.Plain = IsAscii-from_is_ascii (codes "PLAIN") refl
IsAscii-mechanism_symbol mechanisms.Anonymous = IsAscii-from_is_ascii (codes "ANONYMOUS") refl
IsAscii-mechanism_symbol mechanisms.External = IsAscii-from_is_ascii (codes "EXTERNAL") refl

-- a reply that is written is that of the machine
pub written_answer : {S : Type 0} (machine : S → List ℕ → SaslFrame → SaslFrame → S → Type 0) (state moved next : S)
    (nonce : List ℕ) (frame reply : SaslFrame) (says : ServerSays) → machine state nonce frame reply moved
    → (body : List ℕ) × (canonical reply ≡ Some body) × (says ≡ server_says reply body) → next ≡ moved
    → AcceptorAnswers machine state nonce frame says next
written_answer machine state moved next nonce frame reply says made spelled same = inr (
  reply,
  moved,
  made,
  subst (λ (b : Option (List ℕ)). SendsCanonical (Failed faults.TooLarge) (server_says reply) b state moved says next)
      (sym spelled.1) (spelled.2, same),
)

-- one that is not written changes nothing
pub unwritten_answer : {S : Type 0} (machine : S → List ℕ → SaslFrame → SaslFrame → S → Type 0) (state moved : S)
    (nonce : List ℕ) (frame reply : SaslFrame) (fault : Error) → machine state nonce frame reply moved
    → Writes {X = ServerReply} server_reply (server_says reply) (canonical reply) (Err fault)
    → AcceptorAnswers machine state nonce frame (Failed fault) state
unwritten_answer machine state moved nonce frame reply faults.TooLarge made none = inr (
  reply,
  moved,
  made,
  subst (λ (b : Option (List ℕ)). SendsCanonical (Failed faults.TooLarge) (server_says reply) b state moved
      (Failed faults.TooLarge) state) (sym none) (refl, refl),
)
unwritten_answer machine state moved nonce frame reply faults.OutOfMemory made none = inl (refl, refl)
unwritten_answer machine state moved nonce frame reply faults.DecodeError made none = absurd none
unwritten_answer machine state moved nonce frame reply faults.NotImplemented made none = absurd none

-- ---- exchanges

-- what the client-final message of an exchange costs
pub exchange_costs : (R : Type 0) (settings : ServerSettings) (version : ScramVersion) (plus : Bool)
    (exchange : OpenExchange) (text : List ℕ) (result : Result (Vec ℕ Global) ServerScramErrorKind) (before after : ℕ)
    → Gives OutOfMemory R (λ (message : Vec ℕ Global). message.items) result
    (AnswersClientFinal (exchange_server settings version plus exchange) text)
    → FinalCosts (exchange_server settings version plus exchange) text result before after
    → TakesAtMost (response_hmacs settings (ExchangeOpen version plus exchange) text) before after
exchange_costs R settings version plus exchange text (Ok message) before after gives costs =
    response_costs R (λ (message : Vec ℕ Global). Some message.items)
    (with_rights settings.rights (provider_by settings version plus))
    (ServerFirstSent exchange.challenge exchange.stored)
    (ServerFinalSent exchange.challenge.user exchange.challenge.header.acts_for) text (Ok message) before after
    (gives, refl) costs
exchange_costs R settings version plus exchange text (Err kind) before after gives costs =
    response_costs R (λ (message : Vec ℕ Global). Some message.items)
    (with_rights settings.rights (provider_by settings version plus))
    (ServerFirstSent exchange.challenge exchange.stored) (ServerFirstSent exchange.challenge exchange.stored) text
    (Err kind) before after (gives.0, λ other. (gives.1 other, refl)) costs

-- and exactly, where memory does not run out
pub exchange_takes : (settings : ServerSettings) (version : ScramVersion) (plus : Bool) (exchange : OpenExchange)
    (text : List ℕ) (message : Vec ℕ Global) (before after : ℕ)
    → AnswersClientFinal (exchange_server settings version plus exchange) text (Ok message.items)
    → FinalCosts (exchange_server settings version plus exchange) text (Ok message) before after
    → TakesExactly (response_hmacs settings (ExchangeOpen version plus exchange) text) before after
exchange_takes settings version plus exchange text message before after answers costs = λ n takes.
    exactly_from (Unit {0}) (λ (message : Vec ℕ Global). Some message.items)
    (with_rights settings.rights (provider_by settings version plus))
    (ServerFirstSent exchange.challenge exchange.stored)
    (ServerFinalSent exchange.challenge.user exchange.challenge.header.acts_for) text (Ok message) before after n
    (λ e. absurd (cc)) (answers, refl) costs takes

-- (an error but for memory costs the same whichever server it is of)
costs_of_any : (server other : Server) (text : List ℕ) (kind : ServerScramErrorKind) (before after : ℕ)
    → kind ≢ OutOfMemory → FinalCosts {A = Vec ℕ Global} other text (Err kind) before after
    → FinalCosts {A = Vec ℕ Global} server text (Err kind) before after
costs_of_any server other text AuthenticationFailed before after told costs = costs
costs_of_any server other text OutOfMemory before after told costs = absurd (told refl)
costs_of_any server other text kind before after told costs = costs

pub rejected_takes : (settings : ServerSettings) (version : ScramVersion) (plus : Bool) (exchange : OpenExchange)
    (server : Server) (text : List ℕ) (kind : ServerScramErrorKind) (before after : ℕ) → kind ≢ OutOfMemory
    → AnswersClientFinal (exchange_server settings version plus exchange) text (Err kind)
    → FinalCosts {A = Vec ℕ Global} server text (Err kind) before after
    → TakesExactly (response_hmacs settings (ExchangeOpen version plus exchange) text) before after
rejected_takes settings version plus exchange server text kind before after other answers costs = λ n takes.
    exactly_from {V = Vec ℕ Global} (Unit {0}) (λ (message : Vec ℕ Global). Some message.items)
    (with_rights settings.rights (provider_by settings version plus))
    (ServerFirstSent exchange.challenge exchange.stored) (ServerFirstSent exchange.challenge exchange.stored) text
    (Err kind) before after n (λ e. other (told kind e)) ((λ is. tt), λ _. (answers, refl))
    (costs_of_any (exchange_server settings version plus exchange) server text kind before after other costs) takes
  where
    told : (kind : ServerScramErrorKind) → ◌≡◌ {A = Result (Vec ℕ Global) ServerScramErrorKind} (Err kind) (Err OutOfMemory)
        → kind ≡ OutOfMemory
    told kind e = cc

-- ---- moves

-- where a server restarts unless it moves to a stage, it is as if it had not started
pub after_restart : (stage : ServerStage) (move : Move) → after stage (restarted move) ≡ after NotStarted move
after_restart stage moves.Stay = refl
after_restart stage (moves.To next) = refl
after_restart stage moves.Sign = refl
after_restart stage moves.Authenticate = refl
