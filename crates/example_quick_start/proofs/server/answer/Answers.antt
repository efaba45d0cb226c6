use Rattle.std.proofs.Common.{◌≡◌, ap, ◌∙◌, subst}
use Rattle.fe2o3_sasl_wire.specs.declared.amqp_types.SaslCode.{SaslCode}
use Rattle.fe2o3_sasl_wire.specs.declared.amqp_types.SaslCode.TheVariants.{Ok as OkCode}
use Rattle.fe2o3_scram.specs.ScramServer.{served_by, state_in}
use Rattle.fe2o3_sasl_core.specs.Events.{ServerSays, Concluded}
use Rattle.fe2o3_sasl_core.specs.Runs.{AcceptorSteps, given, server_reply}
use Rattle.fe2o3_sasl_core.specs.SaslAcceptor.{ScramAcceptor, acceptor_machine, acceptor_user}
use Rattle.fe2o3_sasl_core.proofs.lemmas.steps.StepLawLemmas.{oks_log_in}
use Rattle.example_quick_start.proofs.server.answer.Goals as goal

pub returns-in-Outcome : goal.returns-in-Outcome
returns-in-Outcome c is_ok =
    let provider = served_by (λ store. store) c.args.server.now in
    let state = state_in c.args.server.now in
    let after = ScramAcceptor (served_by (λ store. store) c.acceptor_step.new.acceptor)
    (state_in c.acceptor_step.new.acceptor) in
    let code : c.in-Outcome.code ≡ OkCode = cc in
    let says = ap server_reply c.in-Outcome.is ∙ ap (λ (code : SaslCode). Concluded code c.in-Outcome.body.items) code in
    let step = subst (λ (says : ServerSays). AcceptorSteps acceptor_machine (ScramAcceptor provider state)
    (given c.args.event.now) says after) says c.in_ok-body.ensures in
    let logs = oks_log_in provider state (given c.args.event.now) c.in-Outcome.body.items after step in
    (logs.0, logs.1, logs.2, ap acceptor_user logs.3)
