use Rattle.std.proofs.Common.{ap, Err}
use Rattle.std.proofs.lemmas.Result.{err_from_is_err_and}
use Rattle.fe2o3_sasl_wire.proofs.lemmas.frames.BodyAnswerLemmas.{refused_body}
use Rattle.fe2o3_sasl_wire.proofs.lemmas.frames.FrameTextLemmas.{spelled_has_texts}
use Rattle.fe2o3_sasl_wire.proofs.sasl_frames.FrameCodec.decode.Goals as goal

pub returns-in_err-view-clause-err : goal.returns-in_err-view-clause-err
returns-in_err-view-clause-err c =
    let p = err_from_is_err_and c.from_residual.result c.from_residual.ensures.1 in
    rw (p.1, p.2, ← c.as_slice.ensures)
    (refused_body c.as_slice.result.now _ c.in_err-view.ensures.reads
    (λ e. c.in_err-view.ensures.not_out_of_memory (ap Err e)))

pub returns-clause-texts : goal.returns-clause-texts
returns-clause-texts c = rw c.in_ok-frame.ensures.ok (spelled_has_texts _ _ c.in_ok-view.ensures.reads.spelled)
