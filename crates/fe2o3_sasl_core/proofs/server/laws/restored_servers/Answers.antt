use Rattle.fe2o3_sasl_core.proofs.lemmas.machines.SavedServerLemmas.{restored_stages}
use Rattle.fe2o3_sasl_core.proofs.server.laws.restored_servers.Goals as goal

pub returns : goal.returns
returns c = restored_stages
