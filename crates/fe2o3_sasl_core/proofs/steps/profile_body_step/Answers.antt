use Rattle.std.proofs.Common.{ℕ, List}
use Rattle.fe2o3_sasl_core.specs.Events.{Given}
use Rattle.fe2o3_sasl_wire.specs.FrameView.{shown, viewed_frame}
use Rattle.fe2o3_sasl_core.specs.SaslProfile.{profile_of}
use Rattle.fe2o3_sasl_core.specs.Runs.{client_answer}
use Rattle.fe2o3_sasl_core.proofs.lemmas.steps.CostLemmas.{profile_step_costs, unread_profile_costs}
use Rattle.fe2o3_sasl_core.proofs.lemmas.steps.WrittenStepLemmas.{profile_unreadable, profile_reads}
use Rattle.fe2o3_sasl_core.proofs.steps.profile_body_step.Goals as goal

abbrev event_of : List ℕ → List ℕ → Given
event_of body nonce = record { body = body; nonce = nonce }

pub returns-in-Err-clause-step : goal.returns-in-Err-clause-step
returns-in-Err-clause-step c =
    profile_unreadable (shown c.args.hostname) (profile_of c.args.profile.now)
    (event_of c.args.body.now c.args.nonce.now) c.in-Err.fault
    c.in-Err.ensures.reads

pub returns-clause-step : goal.returns-clause-step
returns-clause-step c =
    profile_reads (shown c.args.hostname) (profile_of c.args.profile.now) (event_of c.args.body.now c.args.nonce.now)
    (viewed_frame c.in-Ok.read.0) c.in-Ok.read.1 (client_answer c.profile_frame_step.result)
    (profile_of c.profile_frame_step.new.profile) c.in-Ok.ensures.reads
    c.profile_frame_step.ensures.answer

pub returns-in-Err-clause-cost : goal.returns-in-Err-clause-cost
returns-in-Err-clause-cost c =
    unread_profile_costs (profile_of c.args.profile.now) (event_of c.args.body.now c.args.nonce.now) c.in-Err.fault _
    c.args.meter.now
    c.in-Err.ensures.reads

pub returns-clause-cost : goal.returns-clause-cost
returns-clause-cost c =
    profile_step_costs (profile_of c.args.profile.now) (event_of c.args.body.now c.args.nonce.now)
    (viewed_frame c.in-Ok.read.0)
    c.in-Ok.read.1 c.profile_frame_step.result c.args.meter.now c.profile_frame_step.new.meter
    c.in-Ok.ensures.reads c.profile_frame_step.ensures.cost
