use Rattle.std.proofs.Common.{sym}
use Rattle.std.proofs.lemmas.Result.{MatchResult-weaker}
use Rattle.sqlite_btree.proofs.ViewLemmas.{ascends_records}
use Rattle.scram_db_lib.specs.Users.{by_key}
use Rattle.scram_db_lib.proofs.Keys.{strict, probe, finds}
use Rattle.scram_db_lib.proofs.table.seek.Goals as goal

pub returns-clause-found : goal.returns-clause-found
returns-clause-found g c = λ clean rows t.
    let key = c.in_ok-key.ensures in
    rw (sym t.read) (MatchResult-weaker c.get.result
    (c.get.ensures.done clean by_key t.layout t.records strict (rw key (probe _ _)) t.laid t.index)
    (λ found h. finds _ _ t.records _ found (ascends_records t.index) (rw key at h)) (λ e h. h))
