use Rattle.std.proofs.lemmas.Result.{IfOk-weaker}
use Rattle.fe2o3_sasl_core.proofs.server.Server.answer_mechanism.Goals as goal

pub returns-in-External-default-clause-ok : goal.returns-in-External-default-clause-ok
returns-in-External-default-clause-ok c = rw c.in-External-default.is-0 (IfOk-weaker c.answer_external.result _ _
    (λ made answers kept. answers kept c.args.nonce.now) c.answer_external.ensures.ok)

pub returns-in-Plain-Some-clause-ok : goal.returns-in-Plain-Some-clause-ok
returns-in-Plain-Some-clause-ok c = rw (c.in-Plain-Some.is-0, c.in-Plain-Some.is-1) (IfOk-weaker c.answer_plain.result _ _
    (λ made answers kept. answers kept c.args.nonce.now) c.answer_plain.ensures.ok)

pub returns-in-Plain-Some-clause-cost : goal.returns-in-Plain-Some-clause-cost
returns-in-Plain-Some-clause-cost c =
    rw (c.in-Plain-Some.is-0, c.in-Plain-Some.is-1) c.answer_plain.ensures.cost

pub returns-in-Scram-Some-clause-cost : goal.returns-in-Scram-Some-clause-cost
returns-in-Scram-Some-clause-cost c =
    rw (c.in-Scram-Some.is-0, c.in-Scram-Some.is-1) c.answer_scram.ensures.cost

pub returns-in-Plain-Some-clause-exactly : goal.returns-in-Plain-Some-clause-exactly
returns-in-Plain-Some-clause-exactly c =
    rw (c.in-Plain-Some.is-0, c.in-Plain-Some.is-1) c.answer_plain.ensures.exactly

pub returns-in-Scram-Some-clause-exactly : goal.returns-in-Scram-Some-clause-exactly
returns-in-Scram-Some-clause-exactly c =
    rw (c.in-Scram-Some.is-0, c.in-Scram-Some.is-1) c.answer_scram.ensures.exactly
