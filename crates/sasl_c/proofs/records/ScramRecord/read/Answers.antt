use Rattle.sasl_c.proofs.RecordLemmas.{shows_some}
use Rattle.sasl_c.proofs.StatusLemmas.{asks_so}
use Rattle.sasl_c.proofs.records.ScramRecord.read.Goals as goal

pub returns-in_err-to_vec-clause-memory : goal.returns-in_err-to_vec-clause-memory
returns-in_err-to_vec-clause-memory c = asks_so _ _ (shows_some c.args.self.now _ c.in_ok-version.ensures.ok)

pub returns-in_err-to_vec-2-clause-memory : goal.returns-in_err-to_vec-2-clause-memory
returns-in_err-to_vec-2-clause-memory c = asks_so _ _ (shows_some c.args.self.now _ c.in_ok-version.ensures.ok)

pub returns-in_err-to_vec-3-clause-memory : goal.returns-in_err-to_vec-3-clause-memory
returns-in_err-to_vec-3-clause-memory c = asks_so _ _ (shows_some c.args.self.now _ c.in_ok-version.ensures.ok)
