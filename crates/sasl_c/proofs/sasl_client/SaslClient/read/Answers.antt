use Rattle.fe2o3_sasl_core.specs.SaslProfile.{profile_of}
use Rattle.sasl_c.proofs.SaslClientLemmas.{is_not_kept, no_profile}
use Rattle.sasl_c.proofs.sasl_client.SaslClient.read.Goals as goal

pub returns-in-Err-clause-err : goal.returns-in-Err-clause-err
returns-in-Err-clause-err c = λ other.
    no_profile c.args.login.now c.args.self.now c.in_ok-kept.kept c.in-Err.status c.in_ok-kept.ensures.kept
    c.in_ok-kept.ensures.wanting.0 c.in_ok-hostname.ensures.utf8 (c.in-Err.ensures.err other)

pub returns-in-Err-InvalidSnapshot-clause-err : goal.returns-in-Err-InvalidSnapshot-clause-err
returns-in-Err-InvalidSnapshot-clause-err c = λ _.
    let is = c.in-Err-InvalidSnapshot.field-0-is in
    is_not_kept c.args.login.now c.args.self.now c.in_ok-kept.kept (profile_of c.in-Ok.profile)
    c.in_ok-kept.ensures.kept c.in_ok-kept.ensures.wanting.0 c.in_ok-kept.ensures.wanting.1
    c.in_ok-kept.ensures.mock c.in_ok-hostname.ensures.utf8 c.in-Ok.ensures.ok
    (c.in-Err-InvalidSnapshot.ensures.refused is)
