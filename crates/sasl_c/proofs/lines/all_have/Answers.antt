use Rattle.std.proofs.Common.{ap, refl, ◌∙◌, ◌≡◌}
use Rattle.std.specs.Prelude.{Err}
use Rattle.fe2o3_scram.specs.MultiRecordLines.{ReadsMixed, UpToMixed}
use Rattle.fe2o3_scram.specs.RecordLines.{ReachesUser}
use Rattle.sasl_c.specs.declared.lines.NotFound.{NotFound}
use Rattle.sasl_c.proofs.LineLemmas.{all_asks, no_text, passed_on, untold}
use Rattle.sasl_c.proofs.StatusLemmas.{carried}
use Rattle.sasl_c.proofs.lines.all_have.Goals as goal

pub returns-in-Err-clause-err : goal.returns-in-Err-clause-err
returns-in-Err-clause-err c = λ other.
    untold c.args.lines.now c.args.version c.in-Err.fault.line c.in-Some.version c.in-Err.fault c.of_line.result
    c.in-Some.ensures c.in_ok-lines.ensures.1
    (λ kept. carried (λ text. ReadsMixed text (Err c.in-Err.fault)) c.in_ok-lines.lines.now c.args.lines.now
    c.in_ok-lines.ensures.0 (c.in-Err.ensures.err kept))
    refl c.of_line.ensures other

pub returns-in-Err-clause-memory : goal.returns-in-Err-clause-memory
returns-in-Err-clause-memory c = λ memory.
    all_asks c.args.lines.now c.args.version c.in-Some.version c.in-Err.fault c.of_line.result
    c.in-Some.ensures c.in_ok-lines.ensures.1
    (λ other. carried (λ text. ReadsMixed text (Err c.in-Err.fault)) c.in_ok-lines.lines.now c.args.lines.now
    c.in_ok-lines.ensures.0 (c.in-Err.ensures.err other))
    (λ is. carried (λ text. UpToMixed text c.in-Err.fault.line ReachesUser) c.in_ok-lines.lines.now c.args.lines.now
    c.in_ok-lines.ensures.0 (c.in-Err.ensures.memory is))
    c.of_line.ensures memory

pub returns-in_err-lines-clause-err : goal.returns-in_err-lines-clause-err
returns-in_err-lines-clause-err c = passed_on c.from_residual.result _ _ (λ none gives other.
    let same : none ≡ record { why = c.in_err-lines.field-0.0; line = 0 } = gives in
    no_text c.args.lines.now c.args.version none.line c.in-Some.version none.why
    (ap (λ (n : NotFound). n.line) same) (ap (λ (n : NotFound). n.why) same ∙ c.in_err-lines.ensures.0)
    c.in-Some.ensures c.in_err-lines.ensures.1) c.from_residual.ensures.1
