use Rattle.fe2o3_sasl.proofs.lemmas.examples.ExampleMemoryLemmas.{acceptors_ask_for_none, owned_ask_for_none, steps_ask_for_none, servers_want_none, clients_want_none}
use Rattle.fe2o3_sasl.proofs.laws.no_want_of_memory.Goals as goal

pub returns-clause-acceptors : goal.returns-clause-acceptors
returns-clause-acceptors c = acceptors_ask_for_none

pub returns-clause-owned : goal.returns-clause-owned
returns-clause-owned c = owned_ask_for_none

pub returns-clause-steps : goal.returns-clause-steps
returns-clause-steps c = steps_ask_for_none

pub returns-clause-servers : goal.returns-clause-servers
returns-clause-servers c = servers_want_none

pub returns-clause-clients : goal.returns-clause-clients
returns-clause-clients c = clients_want_none
