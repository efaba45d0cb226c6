use Rattle.connection_laws.proofs.lemmas.ServerHmacLemmas.{server_connections_cost}
use Rattle.connection_laws.proofs.lemmas.ServerRetryLemmas.{server_connections_retry}
use Rattle.connection_laws.proofs.server_logins.costs.Goals as goal

pub returns-clause-answered : goal.returns-clause-answered
returns-clause-answered c = server_connections_cost

pub returns-clause-retried : goal.returns-clause-retried
returns-clause-retried c = server_connections_retry
