use Rattle.saslprep.proofs.lemmas.TableLemmas.{RIGHT_TO_LEFT-set}
use Rattle.saslprep.proofs.tables.is_right_to_left.Goals as goal

pub contains-requires : goal.contains-requires
contains-requires c = RIGHT_TO_LEFT-set.partition

pub returns : goal.returns
returns c = c.contains.ensures _ RIGHT_TO_LEFT-set
