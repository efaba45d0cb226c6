use Rattle.connection_laws.proofs.lemmas.UnknownCostLemmas.{plain_users_have_records, unknown_names_cost_alike}
use Rattle.connection_laws.proofs.lemmas.UnknownNameLemmas.{known_names_seem_unknown, unknown_names_seem_known}
use Rattle.connection_laws.proofs.server_logins.unknown_names.Goals as goal

pub returns-clause-seem_known : goal.returns-clause-seem_known
returns-clause-seem_known c = unknown_names_seem_known

pub returns-clause-seem_unknown : goal.returns-clause-seem_unknown
returns-clause-seem_unknown c = known_names_seem_unknown

pub returns-clause-cost : goal.returns-clause-cost
returns-clause-cost c = unknown_names_cost_alike

pub returns-clause-plain : goal.returns-clause-plain
returns-clause-plain c = plain_users_have_records
