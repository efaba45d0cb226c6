use Rattle.fe2o3_sasl_core.proofs.login_attempts.user_of_init.Goals as goal

pub returns-in-Some : goal.returns-in-Some
returns-in-Some c = rw c.in-Some.is c.claimed_user.ensures.ok
