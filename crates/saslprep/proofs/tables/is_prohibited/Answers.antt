use Rattle.saslprep.proofs.lemmas.TableLemmas.{PROHIBITED-set}
use Rattle.saslprep.proofs.tables.is_prohibited.Goals as goal

pub contains-requires : goal.contains-requires
contains-requires c = PROHIBITED-set.partition

pub returns : goal.returns
returns c = c.contains.ensures _ PROHIBITED-set
