use Rattle.fe2o3_sasl_negotiation.proofs.lemmas.ClientCostLemmas.{clients_retry}
use Rattle.fe2o3_sasl_negotiation.proofs.lemmas.ServerCostLemmas.{servers_retry}
use Rattle.fe2o3_sasl_negotiation.proofs.retries.retries.Goals as goal

pub returns-clause-server : goal.returns-clause-server
returns-clause-server c = servers_retry

pub returns-clause-client : goal.returns-clause-client
returns-clause-client c = clients_retry
