use Rattle.std.proofs.Common.{sym, ◌∙◌, inr}
use Rattle.fe2o3_sasl_core.proofs.lemmas.steps.ProfileReplyLemmas.{undue_challenge}
use Rattle.fe2o3_sasl_core.proofs.sasl_profile.scram_frames.refusal_unread.Goals as goal

pub returns-then-expects_signature : goal.returns-then-expects_signature
returns-then-expects_signature c =
    (c.in-Ok.ensures.cases.1, inr (sym c.expects_signature.ensures ∙ c.if-expects_signature.true))

pub returns-in-None : goal.returns-in-None
returns-in-None c = undue_challenge c.args.client.now c.args.challenge.now c.in-Ok.ensures.cases.1
    (sym c.expects_signature.ensures ∙ c.if-expects_signature.false) c.in-None.ensures
