use Rattle.fe2o3_sasl_wire.proofs.lemmas.frames.LawLemmas.{equal_values_are_one}
use Rattle.fe2o3_sasl_wire.proofs.laws.equal_values_are_one.Goals as goal

pub returns : goal.returns
returns c = equal_values_are_one
