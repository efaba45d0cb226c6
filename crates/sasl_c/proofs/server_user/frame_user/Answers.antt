use Rattle.std.proofs.Common.{ap}
use Rattle.std.specs.Prelude.{string_bytes}
use Rattle.fe2o3_sasl_wire.specs.FrameView.{viewed_frame}
use Rattle.sasl_c.proofs.ServerUserLemmas.{frame_answers}
use Rattle.sasl_c.proofs.server_user.frame_user.Goals as goal

pub returns-in-Response-Response-clause-ok : goal.returns-in-Response-Response-clause-ok
returns-in-Response-Response-clause-ok c = let arm = c.in-Response-Response in
    frame_answers string_bytes c.args.scram.now c.args.turn (viewed_frame c.args.frame.now) arm.text.now c.answer_user.result
    arm.is-0 (ap viewed_frame arm.is-1) c.answer_user.ensures.ok
