use Rattle.sqlite_record.proofs.AffinityLemmas.{widen-zero}
use Rattle.scram_db_lib.proofs.row.row_of.Goals as goal

pub returns : goal.returns
returns c = rw (c.in_ok-decode_into.ensures, c.new-row.ensures) (widen-zero _)
