use Rattle.std.proofs.Common.{arith, ap, length, ◌∙◌}
use Rattle.fe2o3_sasl_wire.proofs.lemmas.writing.RoomLemmas.{room_for}
use Rattle.fe2o3_sasl_wire.proofs.sasl_frames.writing.put_elements.Goals as goal

pub put_content-requires-clause-room : goal.put_content-requires-clause-room
put_content-requires-clause-room c =
    let here =
    room_for c.args.form c.args.symbols.now c.loop-symbol.symbol-index c.symbol-item.result c.loop-symbol-test.true in
    let same = ap length (c.as_bytes.ensures.value ∙ c.as_str.ensures.text ∙ c.symbol-item.is) in
    omega (arith, here, same, c.requires.room, c.loop-symbol.invariant.1)
