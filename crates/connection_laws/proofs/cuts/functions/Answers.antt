use Rattle.fe2o3_sasl_core.proofs.lemmas.machines.OneReplyLemmas.{one_acceptor_reply}
use Rattle.connection_laws.proofs.lemmas.ServerFunctionLemmas.{server_is_function}
use Rattle.connection_laws.proofs.cuts.functions.Goals as goal

pub returns-clause-acceptors : goal.returns-clause-acceptors
returns-clause-acceptors c = one_acceptor_reply

pub returns-clause-server : goal.returns-clause-server
returns-clause-server c = server_is_function
