use Rattle.fe2o3_sasl_wire.proofs.lemmas.frames.LawLemmas.{spelled_mechanisms_are_ascii}
use Rattle.fe2o3_sasl_wire.proofs.laws.spelled_mechanisms_are_ascii.Goals as goal

pub returns : goal.returns
returns c = spelled_mechanisms_are_ascii
