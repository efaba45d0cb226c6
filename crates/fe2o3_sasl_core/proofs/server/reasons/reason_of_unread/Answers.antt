use Rattle.std.proofs.Common.{rules}
use Rattle.fe2o3_scram.specs.ClientFirst.{client_first_values}
use Rattle.fe2o3_scram.specs.declared.hmac.ScramVersion.TheVariants.{Sha1}
use Rattle.fe2o3_sasl_core.specs.Servers.{known_for}
use Rattle.fe2o3_sasl_core.proofs.lemmas.machines.RejectionLemmas.{not_both, same_reason}
use Rattle.fe2o3_sasl_core.proofs.server.reasons.reason_of_unread.Goals as goal

pub returns-in-Ok-clause-ok : goal.returns-in-Ok-clause-ok
returns-in-Ok-clause-ok c = same_reason (known_for c.args.records.now Sha1).all c.args.rules c.args.client_first.now
    (client_first_values c.in-Ok.client) c.unknown.result c.in-Ok.ensures.answer
    (rw c.deref.ensures.value at c.unknown.ensures)

pub returns-in-Err : goal.returns-in-Err
returns-in-Err c = record {
  ok = λ client. not_both c.args.rules c.args.client_first.now c.in-Err.field-0 client
      (c.in-Err.ensures.answer.1 (search rules));
  memory = tt;
}
