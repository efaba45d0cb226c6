use Rattle.std.proofs.Common.{◌≡◌, ℕ, List, take, map, filter}
use Rattle.fe2o3_sasl.specs.Audit.{finding_kind}
use Rattle.fe2o3_sasl.specs.private.Findings.{server_receipt, same, compared_by, row_at}
use Rattle.fe2o3_sasl.proofs.audit.matching.index_of.Given as goal

abbrev pub invariant-loop-server : goal.invariant-loop-server
invariant-loop-server l =
    (bytes : List ℕ) → row_at l.index bytes
    ≡ filter (λ server. same bytes (compared_by (finding_kind l.kind) server))
    (map server_receipt (take l.server-index l.oks))
