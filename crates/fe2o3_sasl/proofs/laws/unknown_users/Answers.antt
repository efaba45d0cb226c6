use Rattle.fe2o3_sasl_core.proofs.lemmas.machines.UnknownUserLemmas.{mock_record_is_met, salt_texts_differ, unknown_costs_as_mock, unknown_is_mock}
use Rattle.fe2o3_sasl.proofs.laws.unknown_users.Goals as goal

pub returns-clause-one : goal.returns-clause-one
returns-clause-one c = unknown_is_mock

pub returns-clause-salts : goal.returns-clause-salts
returns-clause-salts c = salt_texts_differ

pub returns-clause-cost : goal.returns-clause-cost
returns-clause-cost c = unknown_costs_as_mock

pub returns-clause-met : goal.returns-clause-met
returns-clause-met c = mock_record_is_met
