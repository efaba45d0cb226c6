use Rattle.std.proofs.Common.{drop, inr, Ok}
use Rattle.std.proofs.lemmas.List.{take_rest}
use Rattle.fe2o3_sasl_core.specs.Events.{Given}
use Rattle.fe2o3_sasl_core.specs.Runs.{server_reply}
use Rattle.fe2o3_sasl_wire.specs.FrameView.{viewed_frame}
use Rattle.fe2o3_sasl_negotiation.specs.declared.progress.Expected.TheVariants.{Frame}
use Rattle.fe2o3_sasl_negotiation.specs.ServerNegotiation.{ServerReplies}
use Rattle.fe2o3_sasl_negotiation.proofs.lemmas.ReceivingLemmas.{closed_appends, on_error}
use Rattle.fe2o3_sasl_negotiation.proofs.lemmas.RefusalLemmas.{acceptor_refused}
use Rattle.fe2o3_sasl_negotiation.proofs.lemmas.ServerAnswerLemmas.{screened, asked, asked_in_vain}
use Rattle.fe2o3_sasl_negotiation.proofs.server.reply.Goals as goal

pub returns-in-Err-clause-ok : goal.returns-in-Err-clause-ok
returns-in-Err-clause-ok g c =
    let m = g.A.SaslAcceptor in
    let state = m.state c.args.acceptor.now in
    let event : Given = record { body = drop 4 c.args.unit.now; nonce = c.args.nonce.now } in
    closed_appends (λ answer. ServerReplies m.machine c.args.turn state event answer state) c.args.out.now.items
    c.in-Err.why (Frame c.args.turn) c.closed.result c.closed.ensures
    (screened m.machine c.args.turn state event c.in-Err.why (rw take_rest at c.in-Err.ensures))

pub returns-in-Ok-acceptor_frame_step-clause-ok : goal.returns-in-Ok-acceptor_frame_step-clause-ok
returns-in-Ok-acceptor_frame_step-clause-ok g c =
    let m = g.A.SaslAcceptor in
    let event : Given = record { body = drop 4 c.args.unit.now; nonce = c.args.nonce.now } in
    let spells = rw take_rest at c.in-Ok.ensures in
    asked m.machine c.args.turn (m.state c.args.acceptor.now) (m.state c.acceptor_frame_step.new.acceptor) event
    (server_reply c.in-Ok-acceptor_frame_step.reply) c.args.out.now.items c.send_reply.new.out.items c.send_reply.result
    (viewed_frame c.in-Ok.view, spells.0, spells.1)
    (rw c.in-Ok-acceptor_frame_step.is at (c.acceptor_frame_step.ensures.step event.body spells.0))
    (rw c.in_ok-reserve.ensures.items at c.send_reply.ensures)

pub returns-in-Ok-acceptor_frame_step-clause-cost : goal.returns-in-Ok-acceptor_frame_step-clause-cost
returns-in-Ok-acceptor_frame_step-clause-cost g c =
    let frame = viewed_frame c.in-Ok.view in
    let spells = rw take_rest at c.in-Ok.ensures in
    inr (frame, spells.0, spells.1, (Ok frame, spells.0, c.acceptor_frame_step.ensures.cost))

pub returns-in-Err-acceptor_frame_step-clause-ok : goal.returns-in-Err-acceptor_frame_step-clause-ok
returns-in-Err-acceptor_frame_step-clause-ok g c =
    let m = g.A.SaslAcceptor in
    let event : Given = record { body = drop 4 c.args.unit.now; nonce = c.args.nonce.now } in
    let spells = rw take_rest at c.in-Ok.ensures in
    rw c.in_ok-reserve.ensures.items
    (asked_in_vain m.machine c.args.turn (m.state c.args.acceptor.now) (m.state c.acceptor_frame_step.new.acceptor) event
    c.in-Err-acceptor_frame_step.fault c.args.out.now.items c.refuse.result (viewed_frame c.in-Ok.view, spells.0, spells.1)
    (rw c.in-Err-acceptor_frame_step.is at (c.acceptor_frame_step.ensures.step event.body spells.0)) c.refuse.ensures.ok)

pub returns-in-Err-acceptor_frame_step-clause-unchanged : goal.returns-in-Err-acceptor_frame_step-clause-unchanged
returns-in-Err-acceptor_frame_step-clause-unchanged g c =
    let m = g.A.SaslAcceptor in
    let event : Given = record { body = drop 4 c.args.unit.now; nonce = c.args.nonce.now } in
    let spells = rw take_rest at c.in-Ok.ensures in
    on_error c.refuse.result
    (acceptor_refused m.machine (m.state c.args.acceptor.now) (m.state c.acceptor_frame_step.new.acceptor) event
    c.in-Err-acceptor_frame_step.fault
    (rw c.in-Err-acceptor_frame_step.is at (c.acceptor_frame_step.ensures.step event.body spells.0)))

pub returns-in-Err-acceptor_frame_step-clause-cost : goal.returns-in-Err-acceptor_frame_step-clause-cost
returns-in-Err-acceptor_frame_step-clause-cost g c =
    let frame = viewed_frame c.in-Ok.view in
    let spells = rw take_rest at c.in-Ok.ensures in
    inr (frame, spells.0, spells.1, (Ok frame, spells.0, c.acceptor_frame_step.ensures.cost))
