use Rattle.fe2o3_sasl_core.proofs.lemmas.machines.OfferedScramLemmas.{offered_scrams_keep_channels}
use Rattle.fe2o3_sasl_core.proofs.server.laws.offered_scrams.Goals as goal

pub returns : goal.returns
returns c = offered_scrams_keep_channels
