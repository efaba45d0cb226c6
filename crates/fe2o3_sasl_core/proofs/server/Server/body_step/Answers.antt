use Rattle.std.proofs.Common.{refl, Ok, Err}
use Rattle.fe2o3_sasl_wire.specs.FrameView.{viewed_frame}
use Rattle.fe2o3_sasl_core.specs.Events.{Given}
use Rattle.fe2o3_sasl_core.specs.Servers.{sasl_hmacs, sasl_machine, sasl_server}
use Rattle.fe2o3_sasl_core.proofs.lemmas.steps.CostLemmas.{acceptor_step_costs, step_costs_exactly, unread_acceptor_costs}
use Rattle.fe2o3_sasl_core.proofs.lemmas.steps.WrittenStepLemmas.{unreadable}
use Rattle.fe2o3_sasl_core.proofs.server.Server.body_step.Goals as goal

pub returns-in-Err-clause-step : goal.returns-in-Err-clause-step
returns-in-Err-clause-step c =
    let event : Given = record { body = c.args.body.now; nonce = c.args.nonce.now } in
    unreadable sasl_machine (sasl_server c.args.self.now) event c.in-Err.fault c.in-Err.ensures.reads

pub returns-in-Err-clause-cost : goal.returns-in-Err-clause-cost
returns-in-Err-clause-cost c =
    let event : Given = record { body = c.args.body.now; nonce = c.args.nonce.now } in
    unread_acceptor_costs sasl_hmacs (sasl_server c.args.self.now) event c.in-Err.fault c.args.meter.now
    c.in-Err.ensures.reads

pub returns-in-Err-clause-reason : goal.returns-in-Err-clause-reason
returns-in-Err-clause-reason c = (Err c.in-Err.fault, c.in-Err.ensures.reads, refl)

pub returns-in-Ok-clause-cost : goal.returns-in-Ok-clause-cost
returns-in-Ok-clause-cost c =
    let event : Given = record { body = c.args.body.now; nonce = c.args.nonce.now } in
    acceptor_step_costs sasl_hmacs (sasl_server c.args.self.now) event (viewed_frame c.in-Ok.view) c.in-Ok.field-0-1
    c.args.meter.now c.frame_step.new.meter c.in-Ok.ensures.reads c.frame_step.ensures.cost

pub returns-in-Ok-clause-reason : goal.returns-in-Ok-clause-reason
returns-in-Ok-clause-reason c = (
  Ok (viewed_frame c.in-Ok.view),
  (c.in-Ok.field-0-1, c.in-Ok.ensures.reads),
  c.frame_step.ensures.reason,
)

pub returns-in-Ok-clause-exactly : goal.returns-in-Ok-clause-exactly
returns-in-Ok-clause-exactly c =
    step_costs_exactly sasl_hmacs (sasl_server c.args.self.now) c.args.body.now (viewed_frame c.in-Ok.view)
    c.frame_step.result c.args.meter.now c.frame_step.new.meter (c.in-Ok.field-0-1, c.in-Ok.ensures.reads)
    c.frame_step.ensures.exactly
