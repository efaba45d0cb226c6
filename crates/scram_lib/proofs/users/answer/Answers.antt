use Rattle.std.proofs.Common.{sym, ap, ◌∙◌}
use Rattle.fe2o3_scram.specs.Credentials.{Store, kept, record_at}
use Rattle.scram_lib.proofs.users.answer.Goals as goal

pub returns : goal.returns
returns c =
    let known = ap (λ (store : Store). record_at store.records c.args.name.now) (sym c.for_version.ensures)
    ∙ sym c.in_ok-kept.ensures in
    (c.is_asked.ensures.0 c.if-not-is_asked.false, (kept c.in_ok-kept.kept, known, c.verify_password.ensures.verdict))
