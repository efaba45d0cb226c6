use Rattle.std.proofs.Common.{sym, ap, ◌∙◌, arith}
use Rattle.fe2o3_sasl_wire.specs.FrameView.{viewed_frame}
use Rattle.fe2o3_sasl_wire.specs.private.Reading.{value_at}
use Rattle.fe2o3_sasl_wire.proofs.lemmas.frames.BodyAnswerLemmas.{StartsSoundly, begins_read, rest_within, refuses_short, refuses_type, refuses_offset, refuses_value}
use Rattle.fe2o3_sasl_wire.proofs.sasl_frames.frame_view.view_frame.Goals as goal

pub returns-then-bytes-lt4-clause-reads : goal.returns-then-bytes-lt4-clause-reads
returns-then-bytes-lt4-clause-reads c = refuses_short c.args.bytes.now c.if-bytes-lt4.true

pub returns-then-bytes-ne-FRAME_TYPE_SASL-clause-reads : goal.returns-then-bytes-ne-FRAME_TYPE_SASL-clause-reads
returns-then-bytes-ne-FRAME_TYPE_SASL-clause-reads c =
    refuses_type c.args.bytes.now c.if-bytes-lt4.false c.if-bytes-ne-FRAME_TYPE_SASL.true

pub returns-then-bytes-ne-DATA_OFFSET-clause-reads : goal.returns-then-bytes-ne-DATA_OFFSET-clause-reads
returns-then-bytes-ne-DATA_OFFSET-clause-reads c =
    let kind = c.if-bytes-ne-FRAME_TYPE_SASL.false in
    refuses_offset c.args.bytes.now c.if-bytes-lt4.false kind c.if-bytes-ne-DATA_OFFSET.true

pub overflow_sub-result : goal.overflow_sub-result
overflow_sub-result c =
    let read = ap value_at (sym c.split_at.ensures.back) ∙ sym c.in-Some.ensures in
    let within = rest_within c.args.bytes.now (viewed_frame c.in-Some.frame) c.in-Some.rest.now
    (λ i. omega (arith, c.type_inv.bytes i)) c.if-bytes-lt4.false read in
    omega (arith, within)

pub returns-in-Some-clause-reads : goal.returns-in-Some-clause-reads
returns-in-Some-clause-reads c =
    let start : StartsSoundly c.args.bytes.now = record {
      long = c.if-bytes-lt4.false;
      kind = c.if-bytes-ne-FRAME_TYPE_SASL.false;
      offset = c.if-bytes-ne-DATA_OFFSET.false;
    } in
    let read = ap value_at (sym c.split_at.ensures.back) ∙ sym c.in-Some.ensures in
    begins_read c.args.bytes.now (viewed_frame c.in-Some.frame) c.in-Some.rest.now
    (λ i. omega (arith, c.type_inv.bytes i)) start read

pub returns-in-None-clause-reads : goal.returns-in-None-clause-reads
returns-in-None-clause-reads c =
    let start : StartsSoundly c.args.bytes.now = record {
      long = c.if-bytes-lt4.false;
      kind = c.if-bytes-ne-FRAME_TYPE_SASL.false;
      offset = c.if-bytes-ne-DATA_OFFSET.false;
    } in
    refuses_value c.args.bytes.now start (ap value_at (sym c.split_at.ensures.back) ∙ sym c.in-None.ensures)
