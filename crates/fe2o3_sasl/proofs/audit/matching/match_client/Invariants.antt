use Rattle.std.proofs.Common.{◌≡◌, ◌++◌, map, take}
use Rattle.fe2o3_sasl.specs.Audit.{finding_of, finding_kind}
use Rattle.fe2o3_sasl.specs.private.Findings.{client_receipt, server_receipt, finding_on}
use Rattle.fe2o3_sasl.proofs.audit.matching.match_client.Given as goal

abbrev pub invariant-loop-server : goal.invariant-loop-server
invariant-loop-server l =
    map finding_of l.findings.items ≡ map finding_of l.fn.findings.items
    ++ map (finding_on (finding_kind l.kind) (client_receipt l.client))
    (map (λ server. server_receipt server.now) (take l.server-index l.server-items))
