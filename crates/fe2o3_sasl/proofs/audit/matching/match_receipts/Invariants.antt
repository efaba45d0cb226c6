use Rattle.std.proofs.Common.{◌≡◌, ◌++◌, map, take}
use Rattle.fe2o3_sasl.specs.Audit.{finding_of, finding_kind}
use Rattle.fe2o3_sasl.specs.private.Findings.{client_receipt, server_receipt, findings_of, meets_on, finding_on}
use Rattle.fe2o3_sasl.proofs.audit.matching.match_receipts.Given as goal

abbrev pub invariant-loop-client : goal.invariant-loop-client
invariant-loop-client l =
    map finding_of l.findings.items ≡ map finding_of l.fn.findings.items
    ++ findings_of (meets_on (finding_kind l.kind)) (finding_on (finding_kind l.kind))
    (map client_receipt (take l.client-index l.clients)) (map server_receipt l.oks)
