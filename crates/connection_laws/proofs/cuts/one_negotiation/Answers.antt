use Rattle.connection_laws.proofs.lemmas.CutStepLemmas.{functions_negotiate_equally, servers_negotiate_equally, clients_negotiate_equally}
use Rattle.connection_laws.proofs.cuts.one_negotiation.Goals as goal

pub returns-clause-functions : goal.returns-clause-functions
returns-clause-functions g c = functions_negotiate_equally g.A.SaslAcceptor.machine

pub returns-clause-acceptors : goal.returns-clause-acceptors
returns-clause-acceptors g c = servers_negotiate_equally

pub returns-clause-clients : goal.returns-clause-clients
returns-clause-clients g c = clients_negotiate_equally
