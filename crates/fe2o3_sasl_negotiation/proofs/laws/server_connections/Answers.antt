use Rattle.fe2o3_sasl_negotiation.proofs.lemmas.LoginLemmas.{servers_log_in, scram_servers_serve}
use Rattle.fe2o3_sasl_negotiation.proofs.lemmas.ServerConnectionLemmas.{servers_connect}
use Rattle.fe2o3_sasl_negotiation.proofs.laws.server_connections.Goals as goal

pub returns-clause-connects : goal.returns-clause-connects
returns-clause-connects g c = servers_connect g.A.SaslAcceptor.names g.A.SaslAcceptor.machine

pub returns-clause-logged_in : goal.returns-clause-logged_in
returns-clause-logged_in g c = servers_log_in g.A.SaslAcceptor.machine

pub returns-clause-scram : goal.returns-clause-scram
returns-clause-scram g c = scram_servers_serve
