use Rattle.fe2o3_sasl_core.proofs.lemmas.machines.RunCostLemmas.{server_runs_cost, client_runs_cost}
use Rattle.fe2o3_sasl.proofs.laws.run_costs.Goals as goal

pub returns-clause-server : goal.returns-clause-server
returns-clause-server c = server_runs_cost

pub returns-clause-client : goal.returns-clause-client
returns-clause-client c = client_runs_cost
