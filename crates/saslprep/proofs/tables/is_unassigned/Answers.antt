use Rattle.saslprep.proofs.lemmas.TableLemmas.{UNASSIGNED-set}
use Rattle.saslprep.proofs.tables.is_unassigned.Goals as goal

pub contains-requires : goal.contains-requires
contains-requires c = UNASSIGNED-set.partition

pub returns : goal.returns
returns c = c.contains.ensures _ UNASSIGNED-set
