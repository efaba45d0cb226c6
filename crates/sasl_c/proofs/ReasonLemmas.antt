-- The reason that a server keeps is that of its last reply.
use Rattle.std.proofs.Common.{◌≡◌, ℕ, List, Option, refl, sym, Result, Ok, Err}
use Rattle.std.specs.Prelude.{IfOk}
use Rattle.fe2o3_sasl_wire.specs.SaslFrames.{SaslFrame}
use Rattle.fe2o3_sasl_core.specs.SaslAcceptor.{HasReason, reason_in, sent_frame}
use Rattle.fe2o3_sasl_core.specs.Servers.{sasl_machine, sasl_reasons}
use Rattle.fe2o3_sasl_core.specs.declared.rejection.Rejection.{Rejection}
use Rattle.fe2o3_sasl_core.specs.declared.sasl_acceptor.SaslServerFrame.{SaslServerFrame}
use Rattle.fe2o3_sasl_core.specs.declared.sasl_acceptor.SaslServerFrame.TheVariants as replies
use Rattle.sasl_c.specs.Rejections.{IsReasonOf, Logged, server_machine}
use Rattle.sasl_c.proofs.StatusLemmas.{carried}

is_reason : (Reasons : Rejection → Type 0) (reply : SaslServerFrame) (kept : Option Rejection) → HasReason Reasons reply
    → kept ≡ reason_in reply → IsReasonOf Reasons (sent_frame reply) kept
is_reason Reasons (replies.Rejected reason) kept has same =
    carried (IsReasonOf Reasons (sent_frame (replies.Rejected reason))) _ kept (sym same) (refl, has)
is_reason Reasons (replies.Challenge it) kept has same =
    carried (IsReasonOf Reasons (sent_frame (replies.Challenge it))) _ kept (sym same) has
is_reason Reasons (replies.Outcome it) kept has same =
    carried (IsReasonOf Reasons (sent_frame (replies.Outcome it))) _ kept (sym same) has

-- a reply to a response, with any nonce
pub responds : {E : Type 0} (server next : Logged) (frame : SaslFrame) (result : Result SaslServerFrame E)
    → IfOk result (λ reply. (nonce : List ℕ)
    → sasl_machine server.server nonce frame (sent_frame reply) next.server)
    → IfOk result (λ reply. HasReason (sasl_reasons server.server frame) reply)
    → IfOk result (λ reply. next.rejection ≡ reason_in reply)
    → IfOk result (λ reply. (nonce : List ℕ) → server_machine server nonce frame (sent_frame reply) next)
responds server next frame (Ok reply) answers has same =
    λ nonce. (answers nonce, is_reason (sasl_reasons server.server frame) reply next.rejection has same)
responds server next frame (Err fault) answers has same = tt
