use Rattle.fe2o3_sasl.proofs.lemmas.examples.ExampleClientLemmas.{keys_log_in, stale_keys_log_in_later}
use Rattle.fe2o3_sasl.proofs.laws.worked_clients.Goals as goal

pub returns-clause-keys : goal.returns-clause-keys
returns-clause-keys c = keys_log_in

pub returns-clause-stale_keys : goal.returns-clause-stale_keys
returns-clause-stale_keys c = stale_keys_log_in_later
