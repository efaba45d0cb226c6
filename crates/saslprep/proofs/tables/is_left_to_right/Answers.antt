use Rattle.saslprep.proofs.lemmas.TableLemmas.{LEFT_TO_RIGHT-set}
use Rattle.saslprep.proofs.tables.is_left_to_right.Goals as goal

pub contains-requires : goal.contains-requires
contains-requires c = LEFT_TO_RIGHT-set.partition

pub returns : goal.returns
returns c = c.contains.ensures _ LEFT_TO_RIGHT-set
