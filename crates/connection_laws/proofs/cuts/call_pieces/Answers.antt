use Rattle.connection_laws.proofs.lemmas.CallPieceLemmas.{client_calls_connect, server_calls_connect}
use Rattle.connection_laws.proofs.cuts.call_pieces.Goals as goal

pub returns-clause-servers : goal.returns-clause-servers
returns-clause-servers g c = server_calls_connect g.A.SaslAcceptor.names g.A.SaslAcceptor.machine

pub returns-clause-clients : goal.returns-clause-clients
returns-clause-clients g c = client_calls_connect
