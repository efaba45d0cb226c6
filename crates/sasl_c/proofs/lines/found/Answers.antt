use Rattle.std.proofs.Common.{ap, refl, ◌∙◌, ◌≡◌}
use Rattle.std.specs.Prelude.{Err}
use Rattle.fe2o3_scram.specs.MultiRecordLines.{ReadsMixed, SpellsMixed, UpToMixed}
use Rattle.fe2o3_scram.specs.RecordLines.{ReachesUser}
use Rattle.sasl_c.specs.declared.lines.NotFound.{NotFound}
use Rattle.sasl_c.specs.Lines.{Chosen}
use Rattle.sasl_c.proofs.LineLemmas.{asks, found, no_lines, no_name, passed_on, unread}
use Rattle.sasl_c.proofs.StatusLemmas.{carried}
use Rattle.sasl_c.proofs.lines.found.Goals as goal

pub returns-in-Ok-chosen-clause-ok : goal.returns-in-Ok-chosen-clause-ok
returns-in-Ok-chosen-clause-ok c =
    let spells = carried (λ text. SpellsMixed text c.in-Ok.users) c.in_ok-lines.lines.now c.args.lines.now
    c.in_ok-lines.ensures.0 c.in-Ok.ensures.ok in
    let chosen = carried (λ name. Chosen c.in-Ok.users name c.in-Some.known c.in-Ok-chosen.made)
    c.in_ok-username.username.now c.args.username.now c.in_ok-username.ensures.0 c.in-Ok-chosen.ensures.ok in
    found c.args.lines.now c.args.username.now c.args.version c.in-Ok-chosen.made c.in-Some.known c.in-Ok.users
    c.in-Some.ensures c.in_ok-username.ensures.1 c.in_ok-lines.ensures.1 spells chosen

pub returns-in-Err-clause-memory : goal.returns-in-Err-clause-memory
returns-in-Err-clause-memory c = λ memory.
    asks c.args.lines.now c.args.username.now c.args.version c.in-Some.known c.in-Err.error c.of_line.result
    c.in-Some.ensures c.in_ok-username.ensures.1 c.in_ok-lines.ensures.1
    (λ other. carried (λ text. ReadsMixed text (Err c.in-Err.error)) c.in_ok-lines.lines.now c.args.lines.now
    c.in_ok-lines.ensures.0 (c.in-Err.ensures.err other))
    (λ is. carried (λ text. UpToMixed text c.in-Err.error.line ReachesUser) c.in_ok-lines.lines.now c.args.lines.now
    c.in_ok-lines.ensures.0 (c.in-Err.ensures.memory is))
    c.of_line.ensures memory

pub returns-in-Err-clause-err : goal.returns-in-Err-clause-err
returns-in-Err-clause-err c = λ other.
    unread c.args.lines.now c.args.username.now c.args.version c.in-Err.error.line c.in-Some.known c.in-Err.error
    c.of_line.result c.in-Some.ensures c.in_ok-username.ensures.1 c.in_ok-lines.ensures.1
    (λ kept. carried (λ text. ReadsMixed text (Err c.in-Err.error)) c.in_ok-lines.lines.now c.args.lines.now
    c.in_ok-lines.ensures.0 (c.in-Err.ensures.err kept))
    refl c.of_line.ensures other

pub returns-in_err-username-clause-err : goal.returns-in_err-username-clause-err
returns-in_err-username-clause-err c = passed_on c.from_residual.result _ _ (λ none gives other.
    let same : none ≡ record { why = c.in_err-username.field-0.0; line = 0 } = gives in
    no_name c.args.lines.now c.args.username.now c.args.version none.line c.in-Some.known none.why
    (ap (λ (n : NotFound). n.line) same) (ap (λ (n : NotFound). n.why) same ∙ c.in_err-username.ensures.0)
    c.in-Some.ensures c.in_err-username.ensures.1) c.from_residual.ensures.1

pub returns-in_err-lines-clause-err : goal.returns-in_err-lines-clause-err
returns-in_err-lines-clause-err c = passed_on c.from_residual-in_err-lines.result _ _ (λ none gives other.
    let same : none ≡ record { why = c.in_err-lines.field-0.0; line = 0 } = gives in
    no_lines c.args.lines.now c.args.username.now c.args.version none.line c.in-Some.known none.why
    (ap (λ (n : NotFound). n.line) same) (ap (λ (n : NotFound). n.why) same ∙ c.in_err-lines.ensures.0)
    c.in-Some.ensures c.in_ok-username.ensures.1 c.in_err-lines.ensures.1) c.from_residual-in_err-lines.ensures.1
