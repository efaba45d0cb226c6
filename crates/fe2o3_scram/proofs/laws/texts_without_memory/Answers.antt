use Rattle.fe2o3_scram.proofs.lemmas.examples.MemoryExampleLemmas.{answered_clients_allocate_nothing, commas_allocate_nothing, errors_allocate_nothing, other_nonces_allocate_nothing, missing_bindings_allocate_nothing, unknown_mechanisms_allocate_nothing, unknown_users_allocate_nothing}
use Rattle.fe2o3_scram.proofs.laws.texts_without_memory.Goals as goal

pub returns-clause-errors : goal.returns-clause-errors
returns-clause-errors c = errors_allocate_nothing

pub returns-clause-answered : goal.returns-clause-answered
returns-clause-answered c = answered_clients_allocate_nothing

pub returns-clause-unknown_users : goal.returns-clause-unknown_users
returns-clause-unknown_users c = unknown_users_allocate_nothing

pub returns-clause-other_nonces : goal.returns-clause-other_nonces
returns-clause-other_nonces c = other_nonces_allocate_nothing

pub returns-clause-missing_bindings : goal.returns-clause-missing_bindings
returns-clause-missing_bindings c = missing_bindings_allocate_nothing

pub returns-clause-unknown_mechanisms : goal.returns-clause-unknown_mechanisms
returns-clause-unknown_mechanisms c = unknown_mechanisms_allocate_nothing

pub returns-clause-commas : goal.returns-clause-commas
returns-clause-commas c = commas_allocate_nothing
