use Rattle.fe2o3_sasl_core.proofs.lemmas.machines.LastAnsweredInitLemmas.{last_answered_init_is_kept}
use Rattle.fe2o3_sasl_core.proofs.login_attempts.laws.last_answered_init.Goals as goal

pub returns : goal.returns
returns c = last_answered_init_is_kept
