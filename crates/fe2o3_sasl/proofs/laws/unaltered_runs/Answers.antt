use Rattle.fe2o3_sasl_core.proofs.lemmas.unaltered.UnalteredRunLemmas.{clients_log_in, servers_log_in}
use Rattle.fe2o3_sasl.proofs.laws.unaltered_runs.Goals as goal

pub returns-clause-client : goal.returns-clause-client
returns-clause-client c = clients_log_in

pub returns-clause-server : goal.returns-clause-server
returns-clause-server c = servers_log_in
