use Rattle.fe2o3_sasl.proofs.lemmas.audit.RepeatedFindingLemmas.{agreed_users_are_named}
use Rattle.fe2o3_sasl_core.proofs.lemmas.machines.ServerMachineLemmas.{acceptor_runs_name_users}
use Rattle.fe2o3_sasl.proofs.lemmas.machines.PlainRunLemmas.{plain_runs_name_users}
use Rattle.fe2o3_sasl.proofs.laws.users.Goals as goal

pub returns-clause-runs : goal.returns-clause-runs
returns-clause-runs c = acceptor_runs_name_users

pub returns-clause-agreed : goal.returns-clause-agreed
returns-clause-agreed c = agreed_users_are_named

pub returns-clause-plain : goal.returns-clause-plain
returns-clause-plain c = plain_runs_name_users
