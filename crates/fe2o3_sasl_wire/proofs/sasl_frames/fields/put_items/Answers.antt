use Rattle.std.proofs.Common.{length, arith, ap}
use Rattle.fe2o3_sasl_wire.specs.SaslFrames.{canonical_field}
use Rattle.fe2o3_sasl_wire.specs.private.Fields.{shown_field}
use Rattle.fe2o3_sasl_wire.proofs.lemmas.writing.RoomLemmas.{item_room}
use Rattle.fe2o3_sasl_wire.proofs.sasl_frames.fields.put_items.Goals as goal

pub put_field-requires-clause-fits : goal.put_field-requires-clause-fits
put_field-requires-clause-fits c =
    let here = item_room c.args.fields.now c.loop-field.field-index c.field-item.result c.loop-field-test.true in
    let same = ap (λ field. length (canonical_field (shown_field field))) c.field-item.is in
    omega (arith, here, same, c.requires.fits)

pub put_field-requires-clause-room : goal.put_field-requires-clause-room
put_field-requires-clause-room c =
    let here = item_room c.args.fields.now c.loop-field.field-index c.field-item.result c.loop-field-test.true in
    let same = ap (λ field. length (canonical_field (shown_field field))) c.field-item.is in
    omega (arith, here, same, c.requires.room, c.loop-field.invariant.1)
