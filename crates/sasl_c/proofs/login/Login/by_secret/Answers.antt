use Rattle.std.proofs.Common.{rules, sym, ◌∙◌}
use Rattle.sasl_c.proofs.LoginLemmas.{neither_keys, no_keys}
use Rattle.sasl_c.proofs.login.Login.by_secret.Goals as goal

pub returns-in-Err-clause-err : goal.returns-in-Err-clause-err
returns-in-Err-clause-err c = λ other.
    no_keys c.args.self.now c.in-Err.status (sym c.secret_used.ensures ∙ c.in-1.is) (c.in-Err.ensures.err other)

pub returns-in_err-keys-in-2-clause-err : goal.returns-in_err-keys-in-2-clause-err
returns-in_err-keys-in-2-clause-err c = search (rules, neither_keys)
