use Rattle.fe2o3_sasl_negotiation.proofs.lemmas.NonceLemmas.{clients_ignore_nonces, servers_ignore_nonces}
use Rattle.fe2o3_sasl_negotiation.proofs.nonces.unused_nonces.Goals as goal

pub returns-clause-server : goal.returns-clause-server
returns-clause-server g c = servers_ignore_nonces g.A.SaslAcceptor.names g.A.SaslAcceptor.machine

pub returns-clause-client : goal.returns-clause-client
returns-clause-client g c = clients_ignore_nonces
