use Rattle.std.proofs.Common.{IfOk, map, subst}
use Rattle.fe2o3_sasl_core.specs.Headline.{TakenVerifiersAgree}
use Rattle.fe2o3_sasl_core.specs.Runs.{given, client_answer}
use Rattle.fe2o3_sasl_core.specs.UnalteredRuns.{ClientLogsIn}
use Rattle.fe2o3_sasl_core.proofs.lemmas.steps.OptionLemmas.{limited_login}
use Rattle.fe2o3_sasl_core.proofs.whole_runs.scram_client_run_limited.Goals as goal

pub returns-clause-agreement : goal.returns-clause-agreement
returns-clause-agreement c =
    let events = map given c.args.events.now in
    subst (λ login. IfOk c.scram_client_run_with_options.result
    (λ replies. TakenVerifiersAgree login events (map client_answer replies.items)))
    (limited_login c.new.result c.up_to.result c.args.limit c.new.ensures c.up_to.ensures c.args.version
    c.args.user.now c.args.password.now) c.scram_client_run_with_options.ensures.agreement

pub returns-clause-unaltered : goal.returns-clause-unaltered
returns-clause-unaltered c =
    let events = map given c.args.events.now in
    subst (λ login. IfOk c.scram_client_run_with_options.result
    (λ replies. ClientLogsIn login events (map client_answer replies.items)))
    (limited_login c.new.result c.up_to.result c.args.limit c.new.ensures c.up_to.ensures c.args.version
    c.args.user.now c.args.password.now) c.scram_client_run_with_options.ensures.unaltered
