use Rattle.fe2o3_sasl_wire.proofs.lemmas.frames.LawLemmas.{bodies_have_one_answer}
use Rattle.fe2o3_sasl_wire.proofs.laws.bodies_have_one_answer.Goals as goal

pub returns : goal.returns
returns c = bodies_have_one_answer
