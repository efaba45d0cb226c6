use Rattle.fe2o3_sasl_core.proofs.lemmas.histories.OneClientHistoryLemmas.{one_client_history}
use Rattle.fe2o3_sasl_core.proofs.lemmas.histories.OneServerHistoryLemmas.{one_server_history}
use Rattle.fe2o3_sasl.proofs.laws.one_history_each.Goals as goal

pub returns-clause-server : goal.returns-clause-server
returns-clause-server c = one_server_history

pub returns-clause-client : goal.returns-clause-client
returns-clause-client c = one_client_history
