use Rattle.fe2o3_sasl_core.proofs.lemmas.two_sides.StrictSideLemmas.{one_strict_side_is_enough}
use Rattle.fe2o3_sasl.proofs.laws.strict_sides.Goals as goal

pub returns : goal.returns
returns c = one_strict_side_is_enough
