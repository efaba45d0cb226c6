use Rattle.std.proofs.Common.{refl, Ok, Err}
use Rattle.fe2o3_sasl_core.specs.Servers.{settings_in}
use Rattle.fe2o3_sasl_core.proofs.lemmas.machines.PlainServerLemmas.{err_where}
use Rattle.fe2o3_sasl_core.proofs.lemmas.machines.ServerAnswerLemmas.{exchange_costs, exchange_takes, rejected_takes}
use Rattle.fe2o3_sasl_core.proofs.server.Server.conclude.Goals as goal

pub returns-in_err-refusal-in-Err-clause-memory : goal.returns-in_err-refusal-in-Err-clause-memory
returns-in_err-refusal-in-Err-clause-memory c =
    let answers = rw (
      c.rules-rules.ensures,
      c.may_act-may_act.ensures,
      c.username.ensures,
      c.acts_for.ensures,
    ) at c.in-Err.ensures.answer in
    err_where c.from_residual.result (answers.0 c.in_err-refusal-in-Err.ensures.memory)

pub returns-then-self-clause-ok : goal.returns-then-self-clause-ok
returns-then-self-clause-ok c =
    let answers = rw (
      c.rules-rules.ensures,
      c.may_act-may_act.ensures,
      c.username.ensures,
      c.acts_for.ensures,
    ) at c.in-Ok.ensures.answer in
    (Ok c.in-Ok.message.items, answers, rw c.if-self.true (c.challenge.ensures.frame, refl))

pub returns-else-self-clause-ok : goal.returns-else-self-clause-ok
returns-else-self-clause-ok c =
    let answers = rw (
      c.rules-rules.ensures,
      c.may_act-may_act.ensures,
      c.username.ensures,
      c.acts_for.ensures,
    ) at c.in-Ok.ensures.answer in
    (Ok c.in-Ok.message.items, answers, rw c.if-self.false (c.conclusion.ensures.frame, refl))

pub returns-in_ok-refusal-in-Err-clause-ok : goal.returns-in_ok-refusal-in-Err-clause-ok
returns-in_ok-refusal-in-Err-clause-ok c =
    let answers = rw (
      c.rules-rules.ensures,
      c.may_act-may_act.ensures,
      c.username.ensures,
      c.acts_for.ensures,
    ) at c.in-Err.ensures.answer in
    let auth = c.in_ok-refusal-in-Err.ensures.auth in
    (Err c.in-Err.kind, answers.1 auth.0, (auth.1, refl))

pub returns-then-self-clause-cost : goal.returns-then-self-clause-cost
returns-then-self-clause-cost c =
    let answers = rw (
      c.rules-rules.ensures,
      c.may_act-may_act.ensures,
      c.username.ensures,
      c.acts_for.ensures,
    ) at c.conclude.ensures.answer in
    let costs = rw (
      c.rules-rules.ensures,
      c.may_act-may_act.ensures,
      c.username.ensures,
      c.acts_for.ensures,
    ) at c.conclude.ensures.cost in
    exchange_costs _ (settings_in c.args.self.now) c.args.version c.args.plus c.args.exchange.now c.args.text.now
    c.conclude.result c.args.meter.now c.conclude.new.meter answers costs

pub returns-else-self-clause-cost : goal.returns-else-self-clause-cost
returns-else-self-clause-cost c =
    let answers = rw (
      c.rules-rules.ensures,
      c.may_act-may_act.ensures,
      c.username.ensures,
      c.acts_for.ensures,
    ) at c.conclude.ensures.answer in
    let costs = rw (
      c.rules-rules.ensures,
      c.may_act-may_act.ensures,
      c.username.ensures,
      c.acts_for.ensures,
    ) at c.conclude.ensures.cost in
    exchange_costs _ (settings_in c.args.self.now) c.args.version c.args.plus c.args.exchange.now c.args.text.now
    c.conclude.result c.args.meter.now c.conclude.new.meter answers costs

pub returns-in_ok-refusal-in-Err-clause-cost : goal.returns-in_ok-refusal-in-Err-clause-cost
returns-in_ok-refusal-in-Err-clause-cost c =
    let answers = rw (
      c.rules-rules.ensures,
      c.may_act-may_act.ensures,
      c.username.ensures,
      c.acts_for.ensures,
    ) at c.conclude.ensures.answer in
    let costs = rw (
      c.rules-rules.ensures,
      c.may_act-may_act.ensures,
      c.username.ensures,
      c.acts_for.ensures,
    ) at c.conclude.ensures.cost in
    exchange_costs _ (settings_in c.args.self.now) c.args.version c.args.plus c.args.exchange.now c.args.text.now
    c.conclude.result c.args.meter.now c.conclude.new.meter answers costs

pub returns-then-self-clause-exactly : goal.returns-then-self-clause-exactly
returns-then-self-clause-exactly c =
    let answers = rw (
      c.rules-rules.ensures,
      c.may_act-may_act.ensures,
      c.username.ensures,
      c.acts_for.ensures,
    ) at c.in-Ok.ensures.answer in
    exchange_takes (settings_in c.args.self.now) c.args.version c.args.plus c.args.exchange.now c.args.text.now
    c.in-Ok.message c.args.meter.now c.conclude.new.meter answers c.in-Ok.ensures.cost

pub returns-else-self-clause-exactly : goal.returns-else-self-clause-exactly
returns-else-self-clause-exactly c =
    let answers = rw (
      c.rules-rules.ensures,
      c.may_act-may_act.ensures,
      c.username.ensures,
      c.acts_for.ensures,
    ) at c.in-Ok.ensures.answer in
    exchange_takes (settings_in c.args.self.now) c.args.version c.args.plus c.args.exchange.now c.args.text.now
    c.in-Ok.message c.args.meter.now c.conclude.new.meter answers c.in-Ok.ensures.cost

pub returns-in_ok-refusal-in-Err-clause-exactly : goal.returns-in_ok-refusal-in-Err-clause-exactly
returns-in_ok-refusal-in-Err-clause-exactly c =
    let answers = rw (
      c.rules-rules.ensures,
      c.may_act-may_act.ensures,
      c.username.ensures,
      c.acts_for.ensures,
    ) at c.in-Err.ensures.answer in
    let auth = c.in_ok-refusal-in-Err.ensures.auth in
    rejected_takes (settings_in c.args.self.now) c.args.version c.args.plus c.args.exchange.now _ c.args.text.now
    c.in-Err.kind c.args.meter.now c.conclude.new.meter auth.0 (answers.1 auth.0) c.in-Err.ensures.cost
