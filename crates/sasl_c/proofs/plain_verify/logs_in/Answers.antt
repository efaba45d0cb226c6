use Rattle.std.proofs.Common.{◌≡◌, ap, subst, sym}
use Rattle.fe2o3_sasl_core.specs.PlainServer.{PlainRules, plain_hmacs}
use Rattle.sasl_c.specs.Acting.{rights_for}
use Rattle.sasl_c.specs.Plain.{PlainTerms, plain_rules_of}
use Rattle.sasl_c.proofs.plain_verify.logs_in.Goals as goal

pub returns-in-Ok-logs_in-clause-cost : goal.returns-in-Ok-logs_in-clause-cost
returns-in-Ok-logs_in-clause-cost c = λ n makes.
    let user = c.args.username.now in
    let inside = c.terms.inside in
    let viewed : PlainRules = record {
      provider = c.args.store.now;
      count = inside.iterations;
      passwords = inside.passwords;
      accept_authzid = inside.accept_authzid;
      rights = rights_for user inside.identities.now;
    } in
    let made : PlainRules = record viewed { rights = c.in-Ok.rights } in
    let by_terms : plain_rules_of c.args.terms.now user c.args.store.now ≡ viewed =
    ap (λ (terms : PlainTerms). plain_rules_of terms user c.args.store.now) (sym c.terms.view_is) in
    let by_rights : viewed ≡ made = λ i. record viewed { rights = sym c.in-Ok.ensures.ok i } in
    c.in-Ok-logs_in.ensures.cost n (subst (λ (rules : PlainRules). plain_hmacs rules c.args.message.now n) by_rights
    (subst (λ (rules : PlainRules). plain_hmacs rules c.args.message.now n) by_terms makes))
