use Rattle.fe2o3_sasl_negotiation.proofs.lemmas.ClientCostLemmas.{clients_cost}
use Rattle.fe2o3_sasl_negotiation.proofs.lemmas.ServerCostLemmas.{servers_cost}
use Rattle.fe2o3_sasl_negotiation.proofs.laws.costs.Goals as goal

pub returns-clause-server : goal.returns-clause-server
returns-clause-server c = servers_cost

pub returns-clause-client : goal.returns-clause-client
returns-clause-client c = clients_cost
