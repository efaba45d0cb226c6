use Rattle.connection_laws.proofs.lemmas.CutCallLemmas.{function_calls_end_equally, server_calls_end_equally, client_calls_end_equally}
use Rattle.connection_laws.proofs.cuts.one_result.Goals as goal

pub returns-clause-functions : goal.returns-clause-functions
returns-clause-functions g c = function_calls_end_equally g.A.SaslAcceptor.names g.A.SaslAcceptor.machine

pub returns-clause-acceptors : goal.returns-clause-acceptors
returns-clause-acceptors g c = server_calls_end_equally

pub returns-clause-clients : goal.returns-clause-clients
returns-clause-clients g c = client_calls_end_equally
