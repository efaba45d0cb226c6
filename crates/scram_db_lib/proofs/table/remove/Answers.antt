use Rattle.scram_db_lib.proofs.table.remove.Goals as goal

pub returns : goal.returns
returns g c = let key = c.in_ok-key.ensures in rw key at c.remove.ensures.done
