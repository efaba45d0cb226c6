use Rattle.fe2o3_sasl_wire.proofs.lemmas.frames.LawLemmas.{spellings_have_one_frame}
use Rattle.fe2o3_sasl_wire.proofs.laws.a_spelling_has_one_frame.Goals as goal

pub returns : goal.returns
returns c = spellings_have_one_frame
