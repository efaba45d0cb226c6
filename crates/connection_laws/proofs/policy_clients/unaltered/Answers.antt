use Rattle.connection_laws.proofs.lemmas.PolicyUnalteredLemmas.{joined_policy_sides_exist, unaltered_policy_clients_log_in}
use Rattle.connection_laws.proofs.policy_clients.unaltered.Goals as goal

pub returns-clause-log_in : goal.returns-clause-log_in
returns-clause-log_in c = unaltered_policy_clients_log_in

pub returns-clause-exist : goal.returns-clause-exist
returns-clause-exist c = joined_policy_sides_exist
