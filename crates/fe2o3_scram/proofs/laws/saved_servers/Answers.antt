use Rattle.fe2o3_scram.proofs.lemmas.messages.SavedServerLemmas.{states_are_reported}
use Rattle.fe2o3_scram.proofs.laws.saved_servers.Goals as goal

pub returns : goal.returns
returns c = states_are_reported
