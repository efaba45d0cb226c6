use Rattle.std.proofs.Common.{refl, rules}
use Rattle.sasl_c.proofs.PlainLemmas.{rejected}
use Rattle.sasl_c.proofs.plain_verify.verify.Goals as goal

pub returns-in-Ok-false : goal.returns-in-Ok-false
returns-in-Ok-false c = (
  (λ memory. absurd (cc)),
  λ other. rejected c.args.form c.args.iterations c.args.accept_authzid c.args.identities.now c.args.records.now
      c.args.message.now
      (record {
        passwords = c.in-Some.passwords;
        count = c.args.iterations;
        accepts = c.is_set.result;
        identities = c.in-Ok.identities.now;
      }) (c.in-Some.ensures, refl, c.is_set.ensures, c.in-Ok.ensures.0) c.in-Ok.ensures.1
      (λ has. let yes = c.in-Ok-false.ensures.ok.1 has in let no = c.in-Ok-false.field-0-test in absurd (cc)),
)

pub returns-in-Ok-true : goal.returns-in-Ok-true
returns-in-Ok-true c = (
  record {
    passwords = c.in-Some.passwords;
    count = c.args.iterations;
    accepts = c.is_set.result;
    identities = c.in-Ok.identities.now;
  },
  (c.in-Some.ensures, refl, c.is_set.ensures, c.in-Ok.ensures.0),
  c.in-Ok-true.ensures.ok.0 (search rules),
)
