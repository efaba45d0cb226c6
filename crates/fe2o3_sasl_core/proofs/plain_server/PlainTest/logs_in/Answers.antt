use Rattle.std.proofs.lemmas.Result.{IfOk-weaker}
use Rattle.fe2o3_sasl_core.specs.PlainServer.{parts_of, plain_rules}
use Rattle.fe2o3_sasl_core.proofs.lemmas.machines.PlainServerLemmas.{cost_of_test, logs_in_where}
use Rattle.fe2o3_sasl_core.proofs.plain_server.PlainTest.logs_in.Goals as goal

pub returns-in-Some-clause-verdict : goal.returns-in-Some-clause-verdict
returns-in-Some-clause-verdict g c = IfOk-weaker c.lets_in.result _ _
    (λ is verdict. logs_in_where (plain_rules g.C.ScramCredentialProvider.meaning c.args.self.now) c.args.text.now
    (parts_of c.in-Some.message) is c.in-Some.ensures.0 c.in-Some.ensures.1 verdict) c.lets_in.ensures.verdict

pub returns-in-Some-clause-cost : goal.returns-in-Some-clause-cost
returns-in-Some-clause-cost g c = IfOk-weaker c.lets_in.result _ _
    (λ is costs. cost_of_test (plain_rules g.C.ScramCredentialProvider.meaning c.args.self.now) c.args.text.now
    (parts_of c.in-Some.message) c.args.meter.now c.lets_in.new.meter c.in-Some.ensures.0 c.in-Some.ensures.1 costs)
    c.lets_in.ensures.cost
