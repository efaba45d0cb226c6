use Rattle.fe2o3_sasl_core.proofs.lemmas.machines.SomeRunLemmas.{some_server_history, some_client_history}
use Rattle.fe2o3_sasl.proofs.laws.histories_exist.Goals as goal

pub returns-clause-server : goal.returns-clause-server
returns-clause-server c = some_server_history

pub returns-clause-client : goal.returns-clause-client
returns-clause-client c = some_client_history
