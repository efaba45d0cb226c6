use Rattle.fe2o3_sasl_wire.proofs.lemmas.frames.LawLemmas.{written_bodies_are_read}
use Rattle.fe2o3_sasl_wire.proofs.laws.written_bodies_are_read.Goals as goal

pub returns : goal.returns
returns c = written_bodies_are_read
