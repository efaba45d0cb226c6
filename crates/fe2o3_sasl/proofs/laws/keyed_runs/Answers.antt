use Rattle.fe2o3_sasl.proofs.lemmas.machines.KeyedRunLemmas.{keyed_runs_are_runs, keyed_runs_are_histories}
use Rattle.fe2o3_sasl.proofs.laws.keyed_runs.Goals as goal

pub returns-clause-runs : goal.returns-clause-runs
returns-clause-runs c = keyed_runs_are_runs

pub returns-clause-histories : goal.returns-clause-histories
returns-clause-histories c = keyed_runs_are_histories
