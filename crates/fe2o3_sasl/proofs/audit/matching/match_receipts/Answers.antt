use Rattle.std.proofs.Common.{◌++◌, ◌∙◌, map, ap, arith}
use Rattle.std.specs.List.{flat_map}
use Rattle.fe2o3_sasl.specs.Audit.{finding_of, finding_kind}
use Rattle.fe2o3_sasl.specs.private.Findings.{client_receipt, server_receipt, found, meets_on, finding_on}
use Rattle.fe2o3_sasl.proofs.lemmas.audit.FoundLemmas.{adds_more}
use Rattle.fe2o3_sasl.proofs.lemmas.audit.IndexLemmas.{row_found}
use Rattle.fe2o3_sasl.proofs.audit.matching.match_receipts.Goals as goal

pub loop-client-preserved : goal.loop-client-preserved
loop-client-preserved c =
    let kind = finding_kind c.args.kind in
    let client = client_receipt c.client-item.result in
    let now = map finding_of c.loop-client.findings.items in
    let oks = map server_receipt c.args.oks.now in
    let rows = c.in_ok-index.ensures client.shown in
    let row = ap (map (finding_on kind client)) rows ∙ row_found (meets_on kind) (finding_on kind) client oks in
    adds_more (λ left. flat_map (found (meets_on kind) (finding_on kind) left) oks) client_receipt c.args.clients.now
    c.loop-client.client-index c.client-item.result (map finding_of c.args.findings.now.items) now _ (omega arith)
    c.client-item.is c.loop-client.invariant (c.in_ok-match_client.ensures ∙ ap (λ found. now ++ found) row)
