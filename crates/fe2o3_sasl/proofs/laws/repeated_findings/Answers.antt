use Rattle.fe2o3_sasl.proofs.lemmas.audit.RepeatedFindingLemmas.{repeated_client_findings, repeated_server_findings}
use Rattle.fe2o3_sasl.proofs.laws.repeated_findings.Goals as goal

pub returns-clause-client : goal.returns-clause-client
returns-clause-client c = repeated_client_findings

pub returns-clause-server : goal.returns-clause-server
returns-clause-server c = repeated_server_findings
