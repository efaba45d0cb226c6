use Rattle.std.proofs.Common.{rules, ◌≡◌, Some, subst, sym}
use Rattle.fe2o3_scram.specs.Escape.{escaped}
use Rattle.fe2o3_scram.specs.RecordLines.{LastCut}
use Rattle.fe2o3_scram.proofs.lemmas.texts.CutLemmas.{last_cut_from}
use Rattle.scram_lib.proofs.users.import.line_of.Goals as goal

pub returns-in-Ok-line_of : goal.returns-in-Ok-line_of
returns-in-Ok-line_of c =
    let cut = last_cut_from 32 c.args.line.now (Some (c.in-Some.name, c.in-Some.record)) (search rules)
    c.in-Some.ensures.cases in
    let same : escaped c.deref.result.now ≡ c.in-Some.name.now = search rules in (
      c.deref.result.now,
      c.in-Ok-record_of.record,
      (
        c.in-Some.record.now,
        subst (λ before. LastCut 32 c.args.line.now before c.in-Some.record.now) (sym same) cut,
        c.in-Ok-record_of.ensures,
      ),
      c.in-Ok-line_of.ensures,
    )
