use Rattle.std.proofs.Common.{refl}
use Rattle.std.proofs.lemmas.Result.{IfErr-weaker}
use Rattle.fe2o3_sasl_core.proofs.login_attempts.LoginAttempt.late_user.Goals as goal

pub returns-in-None-clause-ok : goal.returns-in-None-clause-ok
returns-in-None-clause-ok c = rw c.in-None.is (rw c.as_str.ensures.value at c.claimed_user.ensures.ok)

pub returns-in-None-clause-memory : goal.returns-in-None-clause-memory
returns-in-None-clause-memory c = rw c.in-None.is (IfErr-weaker c.claimed_user.result _ _ (λ _ claim. (refl, claim))
    (rw c.as_str.ensures.value at c.claimed_user.ensures.memory))
