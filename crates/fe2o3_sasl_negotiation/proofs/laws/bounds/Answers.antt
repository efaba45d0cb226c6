use Rattle.fe2o3_sasl_negotiation.proofs.lemmas.BoundLemmas.{clients_are_bounded}
use Rattle.fe2o3_sasl_negotiation.proofs.lemmas.ServerBoundLemmas.{servers_are_bounded, servers_of_are_bounded}
use Rattle.fe2o3_sasl_negotiation.proofs.laws.bounds.Goals as goal

pub returns-clause-server : goal.returns-clause-server
returns-clause-server g c = servers_are_bounded

pub returns-clause-servers : goal.returns-clause-servers
returns-clause-servers g c = servers_of_are_bounded g.A.SaslAcceptor.names g.A.SaslAcceptor.machine

pub returns-clause-client : goal.returns-clause-client
returns-clause-client g c = clients_are_bounded
