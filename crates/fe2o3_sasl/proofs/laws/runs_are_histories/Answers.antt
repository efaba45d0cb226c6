use Rattle.fe2o3_sasl_core.proofs.lemmas.machines.ClientMachineLemmas.{profile_runs_are_histories}
use Rattle.fe2o3_sasl_core.proofs.lemmas.machines.ServerMachineLemmas.{acceptor_runs_are_histories}
use Rattle.fe2o3_sasl.proofs.laws.runs_are_histories.Goals as goal

pub returns-clause-acceptor : goal.returns-clause-acceptor
returns-clause-acceptor c = acceptor_runs_are_histories

pub returns-clause-profile : goal.returns-clause-profile
returns-clause-profile c = profile_runs_are_histories
