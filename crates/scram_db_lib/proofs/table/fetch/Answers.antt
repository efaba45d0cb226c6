use Rattle.sqlite_record.specs.Record.{decode}
use Rattle.scram_db_lib.proofs.Fetch.{fails, given}
use Rattle.scram_db_lib.proofs.table.fetch.Goals as goal

pub returns-in-Ok-true-clause-found : goal.returns-in-Ok-true-clause-found
returns-in-Ok-true-clause-found g c = λ clean rows t.
    let found = c.in-Ok-true.ensures.found clean rows t in
    let hit = c.in-Ok-true.field-0-test in
    rw (rw hit at found) (given g.P.Pages c.args.pages.now c.seek.new.pages (decode c.seek.new.row.items) c.user_of.result
    c.some.result (rw c.as_slice.ensures.value at c.user_of.ensures) c.some.ensures)

pub returns-in-Ok-false-clause-found : goal.returns-in-Ok-false-clause-found
returns-in-Ok-false-clause-found g c = λ clean rows t.
    let found = c.in-Ok-false.ensures.found clean rows t in
    let miss = c.in-Ok-false.field-0-test in
    rw (rw miss at found) tt

pub returns-clause-found : goal.returns-clause-found
returns-clause-found g c = λ clean rows t.
    rw c.of_pages.ensures (fails g.P.Pages _ _ _ _ (c.in-Err.ensures.found clean rows t))
