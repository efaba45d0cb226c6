use Rattle.fe2o3_sasl_core.proofs.lemmas.machines.MemoryLemmas.{servers_want_memory, clients_want_memory, profiles_want_memory}
use Rattle.fe2o3_sasl.proofs.laws.want_of_memory.Goals as goal

pub returns-clause-server : goal.returns-clause-server
returns-clause-server c = servers_want_memory

pub returns-clause-client : goal.returns-clause-client
returns-clause-client c = clients_want_memory

pub returns-clause-profile : goal.returns-clause-profile
returns-clause-profile c = profiles_want_memory
