use Rattle.std.proofs.Common.{false}
use Rattle.fe2o3_scram.specs.ClientFinal.{client_final_values}
use Rattle.fe2o3_sasl.proofs.lemmas.audit.ServerReceiptLemmas.{proof_again}
use Rattle.fe2o3_sasl.proofs.audit.server_receipts.accepted.response_again.Goals as goal

pub returns : goal.returns
returns c =
    let response = c.in-Ok-Response-default in (
      response.text.now,
      (response.field-0-1, rw response.field-0-0-is at response.ensures.reads),
      proof_again c.args.header.now false c.args.client_server_nonce.now response.text.now
          (client_final_values c.in-Ok.client_final)
          c.in-Ok.ensures,
    )
