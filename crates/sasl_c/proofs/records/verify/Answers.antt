use Rattle.std.proofs.Common.{refl, ◌≡◌, true, false}
use Rattle.fe2o3_scram.specs.Credentials.{kept}
use Rattle.fe2o3_scram.specs.Passwords.{password_of}
use Rattle.sasl_c.proofs.RecordLemmas.{not_tested, other_password, verified}
use Rattle.sasl_c.proofs.records.verify.Goals as goal

pub returns-in-Err : goal.returns-in-Err
returns-in-Err c = not_tested c.args.kept.now c.args.form c.args.password.now c.in_ok-version.version
    (kept c.in_ok-version.stored) c.in-Err.status c.in_ok-version.ensures.ok c.in-Err.ensures.tested

pub returns-then-verify_password : goal.returns-then-verify_password
returns-then-verify_password c = verified c.args.kept.now c.args.form c.args.password.now c.in_ok-version.version
    (kept c.in_ok-version.stored) (password_of c.in-Ok.password) c.in_ok-version.ensures.ok c.in-Ok.ensures.tested.0
    (c.if-verify_password.ensures.verdict.0 refl)

pub returns-else-verify_password : goal.returns-else-verify_password
returns-else-verify_password c = other_password c.args.kept.now c.args.form c.args.password.now
    c.in_ok-version.version (kept c.in_ok-version.stored) (password_of c.in-Ok.password) c.in_ok-version.ensures.ok
    c.in-Ok.ensures.tested.0 c.in-Ok.ensures.tested.1
    (λ meets. let wrong : false ≡ true = c.if-verify_password.ensures.verdict.1 meets in absurd (cc))
