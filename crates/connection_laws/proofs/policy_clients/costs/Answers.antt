use Rattle.connection_laws.proofs.lemmas.PolicyCostLemmas.{policy_clients_cost, policy_clients_retry}
use Rattle.connection_laws.proofs.policy_clients.costs.Goals as goal

pub returns-clause-answered : goal.returns-clause-answered
returns-clause-answered c = policy_clients_cost

pub returns-clause-retried : goal.returns-clause-retried
returns-clause-retried c = policy_clients_retry
