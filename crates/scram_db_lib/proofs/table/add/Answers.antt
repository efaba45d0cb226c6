use Rattle.scram_db_lib.proofs.table.add.Goals as goal

pub returns-in-Ok : goal.returns-in-Ok
returns-in-Ok g c =
    let key = c.in_ok-key.ensures in
    (c.as_slice.result.now, rw c.as_slice.ensures.value c.in_ok-bytes.ensures.row, rw key at c.in-Ok.ensures.done)
