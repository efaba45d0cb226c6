use Rattle.fe2o3_scram.proofs.lemmas.texts.PartsLemmas.{pieces, Parts-pieces, one_list_of_parts}
use Rattle.fe2o3_scram.proofs.laws.parts.Goals as goal

pub returns-clause-some : goal.returns-clause-some
returns-clause-some c = λ text. (pieces text, Parts-pieces text)

pub returns-clause-one : goal.returns-clause-one
returns-clause-one c = one_list_of_parts
