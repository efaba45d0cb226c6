use Rattle.fe2o3_sasl.proofs.lemmas.two_sides.OneAuditLemmas.{one_audit_each}
use Rattle.fe2o3_sasl.proofs.laws.one_audit_each.Goals as goal

pub returns : goal.returns
returns c = one_audit_each
