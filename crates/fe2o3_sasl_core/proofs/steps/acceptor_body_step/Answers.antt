use Rattle.fe2o3_sasl_core.specs.Events.{Given}
use Rattle.fe2o3_sasl_wire.specs.FrameView.{viewed_frame}
use Rattle.fe2o3_sasl_core.proofs.lemmas.steps.CostLemmas.{acceptor_step_costs, unread_acceptor_costs}
use Rattle.fe2o3_sasl_core.proofs.lemmas.steps.WrittenStepLemmas.{unreadable}
use Rattle.fe2o3_sasl_core.proofs.steps.acceptor_body_step.Goals as goal

pub returns-in-Err-clause-step : goal.returns-in-Err-clause-step
returns-in-Err-clause-step g c =
    let m = g.A.SaslAcceptor in
    let event : Given = record { body = c.args.body.now; nonce = c.args.nonce.now } in
    unreadable m.machine (m.state c.args.acceptor.now) event c.in-Err.fault c.in-Err.ensures.reads

pub returns-in-Err-clause-cost : goal.returns-in-Err-clause-cost
returns-in-Err-clause-cost g c =
    let m = g.A.SaslAcceptor in
    let event : Given = record { body = c.args.body.now; nonce = c.args.nonce.now } in
    unread_acceptor_costs m.hmacs (m.state c.args.acceptor.now) event c.in-Err.fault c.args.meter.now c.in-Err.ensures.reads

pub returns-in-Ok-clause-cost : goal.returns-in-Ok-clause-cost
returns-in-Ok-clause-cost g c =
    let m = g.A.SaslAcceptor in
    let event : Given = record { body = c.args.body.now; nonce = c.args.nonce.now } in
    acceptor_step_costs m.hmacs (m.state c.args.acceptor.now) event (viewed_frame c.in-Ok.view) c.in-Ok.field-0-1
    c.args.meter.now c.acceptor_frame_step.new.meter c.in-Ok.ensures.reads c.acceptor_frame_step.ensures.cost
