use Rattle.fe2o3_scram.proofs.lemmas.hashes.NameLemmas.{one_version}
use Rattle.fe2o3_scram.proofs.laws.mechanism_names.Goals as goal

pub returns : goal.returns
returns c = one_version
