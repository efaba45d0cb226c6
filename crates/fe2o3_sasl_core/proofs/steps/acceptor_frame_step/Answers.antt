use Rattle.std.proofs.Common.{◌≡◌, Bool, true, false}
use Rattle.fe2o3_sasl_wire.specs.FrameView.{viewed_frame}
use Rattle.fe2o3_sasl_core.specs.Runs.{server_answer}
use Rattle.fe2o3_sasl_core.proofs.lemmas.steps.CostLemmas.{no_hmacs}
use Rattle.fe2o3_sasl_core.proofs.lemmas.steps.WrittenStepLemmas.{unexpected, uncopied, requested}
use Rattle.fe2o3_sasl_core.proofs.steps.acceptor_frame_step.Goals as goal

pub returns-then-not-is_request-clause-step : goal.returns-then-not-is_request-clause-step
returns-then-not-is_request-clause-step g c = λ body spells.
    let m = g.A.SaslAcceptor in
    unexpected m.machine (m.state c.args.acceptor.now) (record { body = body; nonce = c.args.nonce.now })
    (viewed_frame c.args.view) spells.0 spells.1
    (λ is. apart c.is_request.result (c.is_request.ensures.1 is) c.if-not-is_request.true)
  where
    apart : (b : Bool) → b ≡ true → b ≡ false → ⊥
    apart b is_true is_false = cc

pub returns-in-Ok-clause-step : goal.returns-in-Ok-clause-step
returns-in-Ok-clause-step g c = λ body spells.
    let m = g.A.SaslAcceptor in
    requested m.machine (m.state c.args.acceptor.now) (record { body = body; nonce = c.args.nonce.now })
    (viewed_frame c.args.view) spells.0 (server_answer c.answer.result) (m.state c.answer.new.acceptor)
    spells.1 (c.is_request.ensures.0 c.if-not-is_request.false) (rw c.in-Ok.ensures.ok at c.answer.ensures.answer)

pub returns-in-Err-clause-step : goal.returns-in-Err-clause-step
returns-in-Err-clause-step g c = λ body spells.
    let m = g.A.SaslAcceptor in
    uncopied m.machine (m.state c.args.acceptor.now) (record { body = body; nonce = c.args.nonce.now })
    (viewed_frame c.args.view) spells.0 c.in-Err.fault spells.1 (c.is_request.ensures.0 c.if-not-is_request.false)
    c.in-Err.ensures.err

pub returns-then-not-is_request-clause-cost : goal.returns-then-not-is_request-clause-cost
returns-then-not-is_request-clause-cost g c =
    let m = g.A.SaslAcceptor in no_hmacs m.hmacs (m.state c.args.acceptor.now) (viewed_frame c.args.view) c.args.meter.now

pub returns-in-Ok-clause-cost : goal.returns-in-Ok-clause-cost
returns-in-Ok-clause-cost g c = rw c.in-Ok.ensures.ok at c.answer.ensures.cost

pub returns-in-Err-clause-cost : goal.returns-in-Err-clause-cost
returns-in-Err-clause-cost g c =
    let m = g.A.SaslAcceptor in no_hmacs m.hmacs (m.state c.args.acceptor.now) (viewed_frame c.args.view) c.args.meter.now
