use Rattle.sasl_c.proofs.LoginLemmas.{has_no_secret}
use Rattle.sasl_c.proofs.login.Login.client.Goals as goal

pub returns-in-Err-by_secret-clause-err : goal.returns-in-Err-by_secret-clause-err
returns-in-Err-by_secret-clause-err c = λ other. has_no_secret c.args.self.now c.in-Err-by_secret.status
    c.in-Ok.ensures.ok.1.0 (c.in-Err-by_secret.ensures.err other)
