use Rattle.fe2o3_sasl_negotiation.proofs.lemmas.ResponseNonceLemmas.{acceptors_ignore_nonces, servers_ignore_response_nonces}
use Rattle.fe2o3_sasl_negotiation.proofs.nonces.response_nonces.Goals as goal

pub returns-clause-acceptors : goal.returns-clause-acceptors
returns-clause-acceptors c = acceptors_ignore_nonces

pub returns-clause-server : goal.returns-clause-server
returns-clause-server c = servers_ignore_response_nonces
