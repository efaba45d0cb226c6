use Rattle.connection_laws.proofs.lemmas.ConnectionUserLemmas.{acting_users_have_rights, scram_users_meet_records}
use Rattle.connection_laws.proofs.server_logins.users.Goals as goal

pub returns-clause-rights : goal.returns-clause-rights
returns-clause-rights c = acting_users_have_rights

pub returns-clause-scram : goal.returns-clause-scram
returns-clause-scram c = scram_users_meet_records
