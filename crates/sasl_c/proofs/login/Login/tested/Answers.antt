use Rattle.sasl_c.proofs.LoginLemmas.{has_no_secret, no_name}
use Rattle.sasl_c.proofs.login.Login.tested.Goals as goal

pub returns-in-Err-has_secret-clause-err : goal.returns-in-Err-has_secret-clause-err
returns-in-Err-has_secret-clause-err c = has_no_secret c.args.self.now c.in-Err-has_secret.status c.in-Ok.ensures.0
    c.in-Err-has_secret.ensures.tested

pub returns-in-Err-clause-err : goal.returns-in-Err-clause-err
returns-in-Err-clause-err c = no_name c.args.self.now c.in-Err.status c.in-Err.ensures
