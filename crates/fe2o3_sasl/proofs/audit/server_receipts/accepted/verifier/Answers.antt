use Rattle.std.proofs.Common.{◌++◌, ◌∙◌, ap, ℕ}
use Rattle.std.specs.Prelude.{Vec}
use Rattle.std.specs.declared.alloc.Global.{Global}
use Rattle.fe2o3_scram.specs.Texts.{base64_text}
use Rattle.fe2o3_scram.proofs.lemmas.texts.Base64Lemmas.{encode_of-standard}
use Rattle.fe2o3_sasl.proofs.audit.server_receipts.accepted.verifier.Goals as goal

pub returns : goal.returns
returns c =
    let spelled = encode_of-standard c.as_slice.result.now
    ∙ ap base64_text (c.as_slice.ensures ∙ c.compute_server_signature-signature.ensures.signature) in
    ap (λ (text : Vec ℕ Global). text.items) c.into_bytes.ensures.value
    ∙ (c.in_ok-encode_string.ensures.ok ∙ (λ i. c.in_ok-text.ensures.ok i ++ spelled i))
