use Rattle.std.proofs.Common.{◌∙◌}
use Rattle.std.proofs.lemmas.Result.{IfOk-weaker}
use Rattle.fe2o3_scram.proofs.lemmas.texts.Base64Lemmas.{encode_of-standard}
use Rattle.fe2o3_sasl.proofs.audit.client_receipts.base64_of.Goals as goal

pub returns : goal.returns
returns c = IfOk-weaker c.encode.result _ _ (λ text is. is ∙ encode_of-standard c.args.bytes.now) c.encode.ensures.text
