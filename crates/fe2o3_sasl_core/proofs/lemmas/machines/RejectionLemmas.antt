-- The reason for a user without a record, who is read in a client-first message, and for an error.
use Rattle.std.proofs.Common.{◌≡◌, ◌≢◌, ◌∙◌, ℕ, Option, Some, List, ap, inl, inr, Result, Ok, Err}
use Rattle.std.specs.Prelude.{IfOk}
use Rattle.fe2o3_sasl_wire.specs.declared.amqp_types.SaslCode.TheVariants as outcomes
use Rattle.fe2o3_sasl_wire.specs.SaslFrames as frames
use Rattle.fe2o3_scram.specs.declared.scram_messages.error.ServerScramErrorKind.{ServerScramErrorKind}
use Rattle.fe2o3_scram.specs.declared.scram_messages.error.ServerScramErrorKind.TheVariants.{OutOfMemory}
use Rattle.fe2o3_scram.specs.declared.scram_messages.server_rules.ServerRules.{ServerRules}
use Rattle.fe2o3_scram.specs.ChannelBinding.{server_mechanism}
use Rattle.fe2o3_scram.specs.ClientFirst.{ClientFirst, ReadsClientFirst}
use Rattle.fe2o3_scram.specs.Credentials.{Provider, Records}
use Rattle.fe2o3_scram.specs.Readings.{Gives}
use Rattle.fe2o3_scram.specs.ScramServer.{ChallengesFrom, ServerState}
use Rattle.fe2o3_scram.proofs.lemmas.messages.ClientFirstLemmas.{one_client_first}
use Rattle.fe2o3_scram.proofs.lemmas.messages.OneValueLemmas.{one_client_first_value}
use Rattle.fe2o3_sasl_core.specs.SaslAcceptor.{HasReason, ScramAcceptor, acceptor_reasons, ends_with, reason_in, sent_frame}
use Rattle.fe2o3_sasl_core.specs.ScramRejections.{KnownUsers, reason_of_first, reason_of_unknown}
use Rattle.fe2o3_sasl_core.specs.declared.rejection.Rejection.{Rejection}
use Rattle.fe2o3_sasl_core.specs.declared.sasl_acceptor.SaslServerFrame.{SaslServerFrame}

-- the reason for the user of one reading is that for the user of every reading
pub same_reason : (all : List Records) (rules : ServerRules) (text : List ℕ) (read : ClientFirst) (reason : Rejection)
    → ReadsClientFirst rules text (Ok read) → reason ≡ reason_of_unknown all read.user
    → (client : ClientFirst) → ReadsClientFirst rules text (Ok client) → reason ≡ reason_of_unknown all client.user
same_reason all rules text read reason reads is client other =
    is ∙ ap (λ (first : ClientFirst). reason_of_unknown all first.user)
    (one_client_first_value rules text read client reads other)

-- a text is not read and rejected
pub not_both : {A : Type 0} (rules : ServerRules) (text : List ℕ) (kind : ServerScramErrorKind) (client : ClientFirst)
    → ReadsClientFirst rules text (Err kind) → ReadsClientFirst rules text (Ok client) → A
not_both rules text kind client rejects reads =
    let clash = one_client_first rules text (Err kind) (Ok client) rejects reads in absurd cc

-- an init that is rejected with an error has the reason for that error
pub first_rejected : {V E Allocates : Type 0} (view : V → Option (List ℕ)) (known : KnownUsers) (provider : Provider)
    (state next : ServerState) (nonce mechanism text : List ℕ) (hostname : Option (List ℕ)) (kind : ServerScramErrorKind)
    (reason : Rejection) (result : Result SaslServerFrame E)
    → mechanism ≡ server_mechanism provider.version provider.rules
    → Gives OutOfMemory Allocates view (Err kind) (λ answer. ChallengesFrom state provider nonce text answer next)
    → reason ≡ reason_of_first provider.rules text kind
    → IfOk result (λ frame. (kind ≢ OutOfMemory) × (sent_frame frame ≡ ends_with outcomes.Auth))
    → IfOk result (λ frame. reason_in frame ≡ Some reason)
    → IfOk result (λ reply. HasReason (acceptor_reasons known (ScramAcceptor provider state)
    (frames.Init mechanism (Some text) hostname)) reply)
first_rejected view known provider state next nonce mechanism text hostname kind reason (Ok frame) name from is sent has =
    rw has (inr (name, inl (kind, (from.1 sent.0).0, is)))
first_rejected view known provider state next nonce mechanism text hostname kind reason (Err fault) name from is sent has =
    tt
