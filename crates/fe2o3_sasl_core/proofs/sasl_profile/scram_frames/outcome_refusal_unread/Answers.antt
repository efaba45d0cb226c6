use Rattle.std.proofs.Common.{◌≡◌, rules}
use Rattle.fe2o3_sasl_wire.specs.declared.amqp_types.SaslCode.TheVariants as outcomes
use Rattle.fe2o3_sasl_core.proofs.lemmas.steps.ProfileReplyLemmas.{undue_outcome, outcome_not_text}
use Rattle.fe2o3_sasl_core.proofs.sasl_profile.scram_frames.outcome_refusal_unread.Goals as goal

pub returns-in-None : goal.returns-in-None
returns-in-None c =
    let ok : c.args.code ≡ outcomes.Ok = search rules in
    rw ok (rw c.in-Some.is (undue_outcome c.args.client.now c.in-Some.data.now c.in-None.ensures))

pub returns-in-Err : goal.returns-in-Err
returns-in-Err c =
    let ok : c.args.code ≡ outcomes.Ok = search rules in
    let answered = c.in-Some-server_signature.ensures in
    rw ok (rw c.in-Some.is (outcome_not_text c.args.client.now c.in-Some.data.now c.in-Err.ensures.cases.0
    (c.in-Some-server_signature.field-0.now, answered.0, answered.1)))
