use Rattle.fe2o3_sasl.proofs.lemmas.histories.RepeatedNonceLemmas.{repeated_client_positions, repeated_server_positions}
use Rattle.fe2o3_sasl.proofs.laws.repeated_nonces.Goals as goal

pub returns-clause-client : goal.returns-clause-client
returns-clause-client c = repeated_client_positions

pub returns-clause-server : goal.returns-clause-server
returns-clause-server c = repeated_server_positions
