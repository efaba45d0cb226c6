use Rattle.connection_laws.proofs.lemmas.CutConnectionLemmas.{functions_end_equally, servers_end_equally, clients_end_equally}
use Rattle.connection_laws.proofs.cuts.one_connection.Goals as goal

pub returns-clause-functions : goal.returns-clause-functions
returns-clause-functions g c = functions_end_equally g.A.SaslAcceptor.names g.A.SaslAcceptor.machine

pub returns-clause-acceptors : goal.returns-clause-acceptors
returns-clause-acceptors g c = servers_end_equally

pub returns-clause-clients : goal.returns-clause-clients
returns-clause-clients g c = clients_end_equally
