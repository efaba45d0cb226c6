use Rattle.fe2o3_scram.specs.ClientFinal.{client_final_values}
use Rattle.fe2o3_sasl.specs.private.Findings.{server_receipt}
use Rattle.fe2o3_sasl.specs.private.ServerReceipts.{opened_challenge}
use Rattle.fe2o3_sasl.proofs.lemmas.audit.ServerReceiptLemmas.{receipt_for}
use Rattle.fe2o3_sasl.proofs.audit.server_receipts.accepted.ok_receipt.Goals as goal

pub returns : goal.returns
returns g c =
    receipt_for server_receipt (g.C.ScramCredentialProvider.meaning c.args.credentials.now) c.args.rules c.args.place
    (opened_challenge c.args.opened.now) c.args.body.now c.in_ok-client_final.ensures.0
    (client_final_values c.in_ok-client_final.client_final) c.receipt_of.result c.in_ok-client_final.ensures.1
    c.in_ok-client_final.ensures.2 c.receipt_of.ensures.place c.receipt_of.ensures.accepted
