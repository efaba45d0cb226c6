use Rattle.std.proofs.Common.{◌∙◌, sym}
use Rattle.fe2o3_scram.proofs.lemmas.texts.Base64Lemmas.{encode_of-standard, IsStrict-standard, none_spelled}
use Rattle.fe2o3_scram.proofs.texts.bytes_of.Goals as goal

pub returns-in-Ok : goal.returns-in-Ok
returns-in-Ok c = (
  c.in-Ok.ensures.bytes,
  sym c.as_bytes.ensures.value ∙ c.in-Ok.ensures.exact IsStrict-standard
      ∙ encode_of-standard _,
)

pub returns-in-Err-DecodeError : goal.returns-in-Err-DecodeError
returns-in-Err-DecodeError c =
    λ bytes is.
    none_spelled c.as_bytes.result.now c.in-Err-DecodeError.field-0-0
    (rw c.in-Err-DecodeError.field-0-is at c.in-Err-DecodeError.ensures.err) bytes
    (is.0, c.as_bytes.ensures.value ∙ is.1)
