use Rattle.std.proofs.lemmas.Result.{err_from_is_err_and}
use Rattle.fe2o3_scram.specs.RecordText.{Fields, fields_values}
use Rattle.fe2o3_scram.proofs.lemmas.messages.RecordTextLemmas.{head_refused, not_the_head, parts_refused, values_given}
use Rattle.fe2o3_scram.proofs.credentials.scram_record.ScramRecord.parse.Goals as goal

pub returns-in_default : goal.returns-in_default
returns-in_default c = (λ wrong. absurd (cc), λ _. parts_refused c.args.text.now c.in_default.ensures)

pub returns-in_err-scram_version : goal.returns-in_err-scram_version
returns-in_err-scram_version c =
    let fields : Fields = fields_values c.in-Some.fields in
    let from = err_from_is_err_and c.from_residual.result c.from_residual.ensures.1 in
    rw (from.1, from.2) (
      λ memory. absurd (not_the_head fields (rw memory at c.in_err-scram_version.ensures.err)),
      λ _. head_refused c.args.text.now fields c.in_err-scram_version.field-0.0 c.in-Some.ensures
          c.in_err-scram_version.ensures.err,
    )

pub returns : goal.returns
returns c =
    let fields : Fields = fields_values c.in-Some.fields in
    values_given c.args.text.now fields c.read_values.result c.in-Some.ensures c.in_ok-scram_version.ensures.tested
    c.read_values.ensures.tested c.read_values.ensures.named c.read_values.ensures.err
