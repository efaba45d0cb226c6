use Rattle.std.proofs.Common.{map, subst}
use Rattle.std.specs.Prelude.{IfOk}
use Rattle.fe2o3_scram.specs.declared.scram_messages.server_rules.ServerRules.{ServerRules}
use Rattle.fe2o3_scram.specs.Credentials.{serving}
use Rattle.fe2o3_sasl_core.specs.Runs.{given, server_answer}
use Rattle.fe2o3_sasl_core.specs.UnalteredRuns.{ServerLogsIn}
use Rattle.fe2o3_sasl_core.proofs.whole_runs.scram_server_run.Goals as goal

-- the default rules are those of the run
pub returns-clause-unaltered : goal.returns-clause-unaltered
returns-clause-unaltered g c =
    let m = g.C.ScramCredentialProvider in
    subst (λ (rules : ServerRules). IfOk c.scram_server_run_with_rules.result (λ replies. ServerLogsIn
    (serving rules (m.meaning c.args.credentials.now)) (map given c.args.events.now) (map server_answer replies.items)))
    c.new.ensures c.scram_server_run_with_rules.ensures.unaltered
