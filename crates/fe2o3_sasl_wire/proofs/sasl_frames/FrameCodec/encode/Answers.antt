use Rattle.std.proofs.Common.{◌≡◌, ◌+◌, ◌++◌, length, ap, refl, ◌∙◌, arith}
use Rattle.std.specs.List.{flat_map}
use Rattle.std.proofs.lemmas.Result.{err_from_is_err_and}
use Rattle.fe2o3_sasl_wire.specs.private.Writing.{width, items_of}
use Rattle.fe2o3_sasl_wire.specs.SaslFrames.{number, canonical_field}
use Rattle.fe2o3_sasl_wire.specs.Owned.{owned_frame}
use Rattle.fe2o3_sasl_wire.proofs.lemmas.writing.BodyPartsLemmas.{Keeps, kept_fields, kept_count, kept_len, no_body, body_in_parts, has_body, appends}
use Rattle.fe2o3_sasl_wire.proofs.lemmas.frames.FrameTextLemmas.{kept_texts}
use Rattle.fe2o3_sasl_wire.proofs.sasl_frames.FrameCodec.encode.Goals as goal

pub returns-then-len-gt-MAX_ITEMS_LEN-clause-err : goal.returns-then-len-gt-MAX_ITEMS_LEN-clause-err
returns-then-len-gt-MAX_ITEMS_LEN-clause-err c =
    let frame = owned_frame c.args.item in
    let keeps : Keeps frame c.fields_of-fields.result c.count_of.result = record {
      fields = c.fields_of-fields.ensures;
      count = c.count_of.ensures.count;
    } in
    let len = kept_len c.items_len-len.result keeps c.items_len-len.ensures.len in
    no_body frame (length (items_of frame)) refl (omega (arith, len, c.if-len-gt-MAX_ITEMS_LEN.true))

pub returns-in_err-reserve-clause-err : goal.returns-in_err-reserve-clause-err
returns-in_err-reserve-clause-err c =
    let fault = err_from_is_err_and c.from_residual.result c.from_residual.ensures.1 in
    let frame = owned_frame c.args.item in
    let keeps : Keeps frame c.fields_of-fields.result c.count_of.result = record {
      fields = c.fields_of-fields.ensures;
      count = c.count_of.ensures.count;
    } in
    let len = kept_len c.items_len-len.result keeps c.items_len-len.ensures.len in
    let short = has_body frame (length (items_of frame)) refl (omega (arith, len, c.if-len-gt-MAX_ITEMS_LEN.false)) in
    rw (fault.1, fault.2) short

pub returns-clause-ok : goal.returns-clause-ok
returns-clause-ok c =
    let frame = owned_frame c.args.item in
    let keeps : Keeps frame c.fields_of-fields.result c.count_of.result = record {
      fields = c.fields_of-fields.ensures;
      count = c.count_of.ensures.count;
    } in
    let form = c.shortest-form.result in
    let n = c.items_len-len.result in
    let len = kept_len n keeps c.items_len-len.ensures.len in
    let size = c.width-2.result + n in
    let len_is : n ≡ length (items_of frame) = omega (arith, len, c.if-len-gt-MAX_ITEMS_LEN.false) in
    let size_is : size ≡ width form + n = ap (λ k. k + n) c.width-2.ensures in
    let fits = c.if-len-gt-MAX_ITEMS_LEN.false in
    let body = body_in_parts frame form n size len_is (omega (arith, fits)) c.shortest-form.ensures size_is in
    let sized = c.put_number.new.out.items in
    let counted = c.put_number-2.new.out.items in
    appends frame c.args.dst.now.items c.put_start.new.out.items sized counted c.put_items.new.out.items form size body
    (rw (c.put_start.ensures.items, c.in_ok-reserve.ensures.items, c.code_of.ensures) refl)
    c.put_number.ensures.items
    (c.put_number-2.ensures.items ∙ ap (λ count. sized ++ number form count) (kept_count keeps))
    (c.put_items.ensures.items ∙ ap (λ fields. counted ++ flat_map canonical_field fields) (kept_fields keeps))

pub returns-then-len-gt-MAX_ITEMS_LEN-clause-texts : goal.returns-then-len-gt-MAX_ITEMS_LEN-clause-texts
returns-then-len-gt-MAX_ITEMS_LEN-clause-texts c =
    let frame = owned_frame c.args.item in
    let keeps : Keeps frame c.fields_of-fields.result c.count_of.result = record {
      fields = c.fields_of-fields.ensures;
      count = c.count_of.ensures.count;
    } in
    kept_texts keeps c.items_len-len.ensures.texts

pub returns-in_err-reserve-clause-texts : goal.returns-in_err-reserve-clause-texts
returns-in_err-reserve-clause-texts c =
    let frame = owned_frame c.args.item in
    let keeps : Keeps frame c.fields_of-fields.result c.count_of.result = record {
      fields = c.fields_of-fields.ensures;
      count = c.count_of.ensures.count;
    } in
    kept_texts keeps c.items_len-len.ensures.texts

pub returns-clause-texts : goal.returns-clause-texts
returns-clause-texts c =
    let frame = owned_frame c.args.item in
    let keeps : Keeps frame c.fields_of-fields.result c.count_of.result = record {
      fields = c.fields_of-fields.ensures;
      count = c.count_of.ensures.count;
    } in
    kept_texts keeps c.items_len-len.ensures.texts
