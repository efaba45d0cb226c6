use Rattle.std.proofs.Common.{rules}
use Rattle.sasl_c.proofs.LoginLemmas.{no_header}
use Rattle.sasl_c.proofs.login.Login.named_version.Goals as goal

pub returns-in-Err : goal.returns-in-Err
returns-in-Err c = no_header c.args.self.now c.in_ok-version.version c.in-Err.status (search rules) (search rules)
    c.in-Err.ensures.tested
