use Rattle.std.proofs.lemmas.Result.{err_from_is_err_and}
use Rattle.fe2o3_scram.proofs.lemmas.messages.SomeUsersLemmas.{head_fault}
use Rattle.fe2o3_scram.proofs.lemmas.texts.CutLemmas.{without-uncut}
use Rattle.fe2o3_scram.proofs.credentials.record_lines.read_head.Goals as goal

pub returns-in_default-clause-err : goal.returns-in_default-clause-err
returns-in_default-clause-err c = λ _ _. (c.requires, without-uncut 10 c.args.text.now c.in_default.ensures)

pub returns-in_err-username-clause-err : goal.returns-in_err-username-clause-err
returns-in_err-username-clause-err c =
    let from = err_from_is_err_and c.from_residual.result c.from_residual.ensures.1 in
    rw (from.1, from.2)
    (λ other version. head_fault version c.args.text.now c.in-Some.line.now c.in-Some.rest.now
    c.in_err-username.field-0.0 c.in-Some.ensures (c.in_err-username.ensures.err other version))
