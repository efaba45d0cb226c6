use Rattle.std.proofs.Common.{arith, rules}
use Rattle.fe2o3_scram.specs.Passwords.{password_of}
use Rattle.sasl_c.proofs.RecordLemmas.{not_made}
use Rattle.sasl_c.proofs.keys.compute_keys.Goals as goal

pub returns : goal.returns
returns c = not_made c.args.version c.args.form c.args.password.now c.args.salt.now c.args.iterations
    c.in_ok-version.version (password_of c.in_ok-password.password) c.in-Err.why c.from.result (search rules)
    c.in_ok-password.ensures.tested.0 c.in_ok-password.ensures.tested.1 (omega arith) c.in-Err.ensures.keys
    c.from.ensures
