use Rattle.std.proofs.Common.{refl, inr, Err}
use Rattle.fe2o3_sasl_wire.specs.FrameView.{shown}
use Rattle.fe2o3_sasl_wire.specs.SaslFrames as frames
use Rattle.fe2o3_sasl_core.specs.SaslProfile.{profile_of}
use Rattle.fe2o3_sasl_core.proofs.lemmas.steps.WrittenReplyLemmas.{refused_unread}
use Rattle.fe2o3_sasl_core.specs.declared.sasl_profile.error.ProfileError.TheVariants.{NotImplemented}
use Rattle.fe2o3_sasl_core.proofs.steps.profile_frame_step.Goals as goal

pub returns-in-Some-clause-answer : goal.returns-in-Some-clause-answer
returns-in-Some-clause-answer c =
    rw c.in-Challenge.is (refused_unread (shown c.args.hostname) (profile_of c.args.profile.now) c.args.nonce.now
    (frames.Challenge c.in-Challenge.challenge.now) c.in-Some.fault c.in-Some.ensures)

pub returns-in_default-clause-answer : goal.returns-in_default-clause-answer
returns-in_default-clause-answer c =
    rw c.in-Challenge.is (c.respond.ensures.answer (shown c.args.hostname) c.args.nonce.now)

pub returns-in-Outcome-clause-answer : goal.returns-in-Outcome-clause-answer
returns-in-Outcome-clause-answer c = rw c.in-Outcome.is (c.report.ensures (shown c.args.hostname) c.args.nonce.now)

pub returns-in-Init-clause-answer : goal.returns-in-Init-clause-answer
returns-in-Init-clause-answer c =
    rw c.in-Init.is (inr (Err NotImplemented, profile_of c.args.profile.now, (refl, refl), (refl, refl)))

pub returns-in-Response-clause-answer : goal.returns-in-Response-clause-answer
returns-in-Response-clause-answer c =
    rw c.in-Response.is (inr (Err NotImplemented, profile_of c.args.profile.now, (refl, refl), (refl, refl)))
