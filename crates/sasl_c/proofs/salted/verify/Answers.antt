use Rattle.std.proofs.Common.{arith, refl, ◌≡◌, true, false}
use Rattle.fe2o3_scram.specs.Credentials.{kept}
use Rattle.sasl_c.proofs.SaltedLemmas.{no_count, odd_length, other_salted, same_salted}
use Rattle.sasl_c.proofs.salted.verify.Goals as goal

pub returns-then-salted-digest_len : goal.returns-then-salted-digest_len
returns-then-salted-digest_len c = odd_length c.args.kept.now c.args.salted.now c.in_ok-version.version
    (kept c.in_ok-version.stored) c.in_ok-version.ensures.ok (λ same. absurd (omega (arith, same)))

pub returns-then-stored-eq0 : goal.returns-then-stored-eq0
returns-then-stored-eq0 c = no_count c.args.kept.now c.args.salted.now c.in_ok-version.version
    (kept c.in_ok-version.stored) c.in_ok-version.ensures.ok (omega arith) (omega arith)

pub returns-then-verify_salted_password : goal.returns-then-verify_salted_password
returns-then-verify_salted_password c = same_salted c.args.kept.now c.args.salted.now c.in_ok-version.version
    (kept c.in_ok-version.stored) c.in_ok-version.ensures.ok (omega arith) (λ none. absurd (omega (arith, none)))
    (c.if-verify_salted_password.ensures.same.0 refl)

pub returns-else-verify_salted_password : goal.returns-else-verify_salted_password
returns-else-verify_salted_password c = other_salted c.args.kept.now c.args.salted.now c.in_ok-version.version
    (kept c.in_ok-version.stored) c.in_ok-version.ensures.ok (omega arith)
    (λ meets. let wrong : false ≡ true = c.if-verify_salted_password.ensures.same.1 meets in absurd (cc))
