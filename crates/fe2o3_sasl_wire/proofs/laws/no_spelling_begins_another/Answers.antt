use Rattle.fe2o3_sasl_wire.proofs.lemmas.frames.PrefixLemmas.{no_spelling_begins_another}
use Rattle.fe2o3_sasl_wire.proofs.laws.no_spelling_begins_another.Goals as goal

pub returns : goal.returns
returns c = no_spelling_begins_another
