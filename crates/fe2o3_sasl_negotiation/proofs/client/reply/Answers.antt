use Rattle.std.proofs.Common.{drop, Ok}
use Rattle.std.proofs.lemmas.List.{take_rest}
use Rattle.fe2o3_sasl_core.specs.Events.{Given}
use Rattle.fe2o3_sasl_core.specs.Runs.{client_reply}
use Rattle.fe2o3_sasl_core.specs.SaslProfile.{profile_of}
use Rattle.fe2o3_sasl_wire.specs.FrameView.{shown, viewed_frame}
use Rattle.fe2o3_sasl_negotiation.specs.declared.progress.Expected.TheVariants.{Frame}
use Rattle.fe2o3_sasl_negotiation.specs.ClientNegotiation.{ClientReplies}
use Rattle.fe2o3_sasl_negotiation.proofs.lemmas.ReceivingLemmas.{closed_appends, on_error}
use Rattle.fe2o3_sasl_negotiation.proofs.lemmas.ClientAnswerLemmas.{screened, asked, asked_in_vain, asked_costs}
use Rattle.fe2o3_sasl_negotiation.proofs.lemmas.RefusalLemmas.{step_refused}
use Rattle.fe2o3_sasl_negotiation.proofs.client.reply.Goals as goal

pub returns-in-Err-clause-ok : goal.returns-in-Err-clause-ok
returns-in-Err-clause-ok c =
    let hostname = shown c.args.hostname in
    let profile = profile_of c.args.profile.now in
    let event : Given = record { body = drop 4 c.args.unit.now; nonce = c.args.nonce.now } in
    closed_appends (λ answer. ClientReplies hostname c.args.turn profile event answer profile) c.args.out.now.items
    c.in-Err.why (Frame c.args.turn) c.closed.result c.closed.ensures
    (screened hostname c.args.turn profile event c.in-Err.why (rw take_rest at c.in-Err.ensures))

pub returns-in-Ok-profile_frame_step-clause-ok : goal.returns-in-Ok-profile_frame_step-clause-ok
returns-in-Ok-profile_frame_step-clause-ok c =
    let event : Given = record { body = drop 4 c.args.unit.now; nonce = c.args.nonce.now } in
    let frame = viewed_frame c.in-Ok.view in
    let spells = rw take_rest at c.in-Ok.ensures in
    asked (shown c.args.hostname) c.args.turn (profile_of c.args.profile.now) (profile_of c.profile_frame_step.new.profile)
    event (client_reply c.in-Ok-profile_frame_step.reply) c.args.out.now.items c.send_reply.new.out.items
    c.send_reply.result (frame, spells.0, spells.1)
    (Ok frame, spells.0, rw c.in-Ok-profile_frame_step.is at c.profile_frame_step.ensures.answer)
    (rw (c.in_ok-reserve.ensures.items, c.accepts_signature_by_challenge-signs.ensures) at c.send_reply.ensures)

pub returns-in-Ok-profile_frame_step-clause-cost : goal.returns-in-Ok-profile_frame_step-clause-cost
returns-in-Ok-profile_frame_step-clause-cost c =
    let event : Given = record { body = drop 4 c.args.unit.now; nonce = c.args.nonce.now } in
    let frame = viewed_frame c.in-Ok.view in
    let spells = rw take_rest at c.in-Ok.ensures in
    asked_costs c.args.turn (profile_of c.args.profile.now) event c.profile_frame_step.result c.args.meter.now
    c.profile_frame_step.new.meter (frame, spells.0, spells.1) (Ok frame, spells.0, c.profile_frame_step.ensures.cost)

pub returns-in-Err-profile_frame_step-clause-ok : goal.returns-in-Err-profile_frame_step-clause-ok
returns-in-Err-profile_frame_step-clause-ok c =
    let event : Given = record { body = drop 4 c.args.unit.now; nonce = c.args.nonce.now } in
    let frame = viewed_frame c.in-Ok.view in
    let spells = rw take_rest at c.in-Ok.ensures in
    rw c.in_ok-reserve.ensures.items
    (asked_in_vain (shown c.args.hostname) c.args.turn (profile_of c.args.profile.now)
    (profile_of c.profile_frame_step.new.profile) event c.in-Err-profile_frame_step.fault c.args.out.now.items
    c.refuse.result (frame, spells.0, spells.1)
    (Ok frame, spells.0, rw c.in-Err-profile_frame_step.is at c.profile_frame_step.ensures.answer) c.refuse.ensures.ok)

pub returns-in-Err-profile_frame_step-clause-cost : goal.returns-in-Err-profile_frame_step-clause-cost
returns-in-Err-profile_frame_step-clause-cost c =
    let event : Given = record { body = drop 4 c.args.unit.now; nonce = c.args.nonce.now } in
    let frame = viewed_frame c.in-Ok.view in
    let spells = rw take_rest at c.in-Ok.ensures in
    asked_costs c.args.turn (profile_of c.args.profile.now) event c.profile_frame_step.result c.args.meter.now
    c.profile_frame_step.new.meter (frame, spells.0, spells.1) (Ok frame, spells.0, c.profile_frame_step.ensures.cost)

pub returns-in-Err-profile_frame_step-clause-unchanged : goal.returns-in-Err-profile_frame_step-clause-unchanged
returns-in-Err-profile_frame_step-clause-unchanged c =
    let event : Given = record { body = drop 4 c.args.unit.now; nonce = c.args.nonce.now } in
    let frame = viewed_frame c.in-Ok.view in
    let spells = rw take_rest at c.in-Ok.ensures in
    on_error c.refuse.result
    (step_refused (shown c.args.hostname) (profile_of c.args.profile.now) (profile_of c.profile_frame_step.new.profile)
    event c.in-Err-profile_frame_step.fault
    (Ok frame, spells.0, rw c.in-Err-profile_frame_step.is at c.profile_frame_step.ensures.answer))
