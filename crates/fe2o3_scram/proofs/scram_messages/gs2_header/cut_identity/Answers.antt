use Rattle.std.proofs.Common.{rules, inl, refl}
use Rattle.std.proofs.lemmas.Result.{err_from_is_err_and}
use Rattle.std.specs.Cow.{cow_str_bytes}
use Rattle.fe2o3_scram.proofs.lemmas.messages.HeaderLemmas.{identity_error, none_ended, none_valued}
use Rattle.fe2o3_scram.proofs.scram_messages.gs2_header.cut_identity.Goals as goal

pub returns-in_default-cut-clause-err : goal.returns-in_default-cut-clause-err
returns-in_default-cut-clause-err c = inl (
  refl,
  none_ended c.args.accept c.args.text.now c.in-Some-after.named.now c.in_default.ensures c.in-Some-after.ensures
      c.in_default-cut.ensures,
)

pub returns-in_err-name-clause-err : goal.returns-in_err-name-clause-err
returns-in_err-name-clause-err c =
    let from = err_from_is_err_and c.from_residual.result c.from_residual.ensures.1 in
    rw (from.1, from.2) (identity_error c.args.accept c.args.text.now c.in-Some-after.named.now c.in_default.ensures
    c.in-Some-after.ensures c.in-Some-cut.escaped.now c.in-Some-cut.rest.now c.in-Some-cut.ensures
    c.in_err-name.field-0.0 (search rules) c.in_err-name.ensures.err c.in_err-name.ensures.spells)

pub returns-clause-err : goal.returns-clause-err
returns-clause-err c = inl (
  refl,
  none_valued c.args.accept c.args.text.now c.in-Some-after.named.now c.in_default.ensures c.in-Some-after.ensures
      c.in-Some-cut.escaped.now c.in-Some-cut.rest.now c.in-Some-cut.ensures (cow_str_bytes c.in_ok-name.name)
      c.in_ok-name.ensures.ok (search rules),
)
