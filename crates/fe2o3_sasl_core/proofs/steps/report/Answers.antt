use Rattle.std.proofs.Common.{subst, refl}
use Rattle.std.specs.Prelude.{option_map}
use Rattle.fe2o3_sasl_wire.specs.AmqpTypes.{binary_bytes, outcome_frame}
use Rattle.fe2o3_sasl_wire.specs.FrameView.{shown}
use Rattle.fe2o3_sasl_wire.specs.SaslFrames as frames
use Rattle.fe2o3_sasl_wire.specs.SaslFrames.{SaslFrame}
use Rattle.fe2o3_sasl_core.specs.Events.{Reported, Refused}
use Rattle.fe2o3_sasl_core.specs.Runs.{ProfileReplies}
use Rattle.fe2o3_sasl_core.specs.SaslProfile.{profile_of}
use Rattle.fe2o3_sasl_core.proofs.lemmas.steps.WrittenReplyLemmas.{reported, refusal_replies, refused_unread}
use Rattle.fe2o3_sasl_core.proofs.steps.report.Goals as goal

pub returns-in-Ok-conclude : goal.returns-in-Ok-conclude
returns-in-Ok-conclude c = λ hostname nonce.
    let code = c.in-Ok.outcome.code in
    let more = option_map binary_bytes c.in-Ok.outcome.additional_data in
    subst (λ (f : SaslFrame). ProfileReplies hostname (profile_of c.args.profile.now) nonce f (Reported code more)
    (profile_of c.conclude.new.self)) c.in-Ok.ensures.ok
    (reported hostname (profile_of c.args.profile.now) (profile_of c.conclude.new.self) nonce
    (outcome_frame c.in-Ok.outcome) code more refl (c.in-Ok-conclude.ensures.answer hostname nonce))

pub returns-in-Err-conclude : goal.returns-in-Err-conclude
returns-in-Err-conclude c = λ hostname nonce.
    subst (λ (f : SaslFrame). ProfileReplies hostname (profile_of c.args.profile.now) nonce f
    (Refused c.in-Err-conclude.fault) (profile_of c.conclude.new.self)) c.in-Ok.ensures.ok
    (refusal_replies hostname (profile_of c.args.profile.now) nonce (outcome_frame c.in-Ok.outcome)
    c.in-Err-conclude.fault (profile_of c.conclude.new.self)
    (c.in-Err-conclude.ensures.answer hostname nonce))

pub returns-in-Some : goal.returns-in-Some
returns-in-Some c = λ hostname nonce.
    refused_unread hostname (profile_of c.args.profile.now) nonce
    (frames.Outcome c.args.code (shown c.args.additional_data)) c.in-Some.fault c.in-Some.ensures.1
