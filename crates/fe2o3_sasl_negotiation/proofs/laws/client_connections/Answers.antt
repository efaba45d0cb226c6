use Rattle.fe2o3_sasl_negotiation.proofs.lemmas.ClientConnectionLemmas.{clients_connect}
use Rattle.fe2o3_sasl_negotiation.proofs.lemmas.LoginLemmas.{clients_log_in, scram_clients_report}
use Rattle.fe2o3_sasl_negotiation.proofs.laws.client_connections.Goals as goal

pub returns-clause-connects : goal.returns-clause-connects
returns-clause-connects c = clients_connect

pub returns-clause-logged_in : goal.returns-clause-logged_in
returns-clause-logged_in c = clients_log_in

pub returns-clause-scram : goal.returns-clause-scram
returns-clause-scram c = scram_clients_report
