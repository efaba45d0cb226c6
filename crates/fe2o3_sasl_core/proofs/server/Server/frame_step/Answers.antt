use Rattle.fe2o3_sasl_wire.specs.FrameView.{shown}
use Rattle.fe2o3_sasl_wire.specs.SaslFrames as frames
use Rattle.fe2o3_sasl_core.specs.Runs.{server_answer}
use Rattle.fe2o3_sasl_core.specs.Servers.{sasl_machine, sasl_server}
use Rattle.fe2o3_sasl_core.proofs.lemmas.steps.WrittenStepLemmas.{requested, unexpected}
use Rattle.fe2o3_sasl_core.proofs.server.Server.frame_step.Goals as goal

pub returns-in-Init-clause-step : goal.returns-in-Init-clause-step
returns-in-Init-clause-step c = rw c.in-Init.is (λ body spells.
    requested sasl_machine (sasl_server c.args.self.now) (record { body = body; nonce = c.args.nonce.now })
    (frames.Init c.in-Init.mechanism.now (shown c.in-Init.initial_response) (shown c.in-Init.hostname)) spells.0
    (server_answer c.init_step.result) (sasl_server c.init_step.new.self) spells.1 tt c.init_step.ensures.answer)

pub returns-in-Response-clause-step : goal.returns-in-Response-clause-step
returns-in-Response-clause-step c = rw c.in-Response.is (λ body spells.
    requested sasl_machine (sasl_server c.args.self.now) (record { body = body; nonce = c.args.nonce.now })
    (frames.Response c.in-Response.text.now) spells.0
    (server_answer c.response_step.result) (sasl_server c.response_step.new.self) spells.1 tt
    c.response_step.ensures.answer)

pub returns-in-Mechanisms-clause-step : goal.returns-in-Mechanisms-clause-step
returns-in-Mechanisms-clause-step c = rw c.in-Mechanisms.is (λ body spells.
    unexpected sasl_machine (sasl_server c.args.self.now) (record { body = body; nonce = c.args.nonce.now }) _ spells.0
    spells.1 (λ is. is))

pub returns-in-Challenge-clause-step : goal.returns-in-Challenge-clause-step
returns-in-Challenge-clause-step c = rw c.in-Challenge.is (λ body spells.
    unexpected sasl_machine (sasl_server c.args.self.now) (record { body = body; nonce = c.args.nonce.now }) _ spells.0
    spells.1 (λ is. is))

pub returns-in-Outcome-clause-step : goal.returns-in-Outcome-clause-step
returns-in-Outcome-clause-step c = rw c.in-Outcome.is (λ body spells.
    unexpected sasl_machine (sasl_server c.args.self.now) (record { body = body; nonce = c.args.nonce.now }) _ spells.0
    spells.1 (λ is. is))
