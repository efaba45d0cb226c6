use Rattle.connection_laws.proofs.lemmas.PolicyLoginLemmas.{logins_meet_premises}
use Rattle.connection_laws.proofs.lemmas.PolicyScramLemmas.{scram_clients_report_selected}
use Rattle.connection_laws.proofs.policy_clients.scram.Goals as goal

pub returns-clause-reports : goal.returns-clause-reports
returns-clause-reports c = scram_clients_report_selected

pub returns-clause-premises : goal.returns-clause-premises
returns-clause-premises c = logins_meet_premises
