use Rattle.std.proofs.Common.{ap, map, ◌∙◌}
use Rattle.std.proofs.lemmas.List.{map-append}
use Rattle.fe2o3_sasl.specs.private.Findings.{server_receipt}
use Rattle.fe2o3_sasl.specs.private.ServerReceipts.{opened_challenge}
use Rattle.fe2o3_sasl.proofs.audit.server_receipts.keep_ok.Goals as goal

pub returns : goal.returns
returns g c = (
  opened_challenge c.in_ok-opened.opened,
  server_receipt c.in_ok-receipt.receipt,
  c.in_ok-opened.ensures.opened,
  rw c.deref.ensures.value at c.in_ok-receipt.ensures,
  ap (map server_receipt) c.in_ok-push.ensures.items ∙ map-append server_receipt _ _,
)
