use Rattle.std.proofs.Common.{arith}
use Rattle.fe2o3_sasl.specs.Audit.{finding_kind}
use Rattle.fe2o3_sasl.specs.private.Findings.{compared_by}
use Rattle.fe2o3_sasl.proofs.lemmas.audit.IndexLemmas.{row_more}
use Rattle.fe2o3_sasl.proofs.audit.matching.index_of.Goals as goal

pub loop-server-preserved : goal.loop-server-preserved
loop-server-preserved c = λ bytes.
    row_more (compared_by (finding_kind c.args.kind)) bytes c.compared_bytes.result.now c.args.oks.now
    c.loop-server.server-index
    c.server-item.result _ _ (omega arith) c.server-item.is c.compared_bytes.ensures (c.loop-server.invariant bytes)
    (c.in_ok-put.ensures bytes)
