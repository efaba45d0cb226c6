use Rattle.fe2o3_sasl_wire.proofs.lemmas.reading.ElementLoopLemmas.{rest_read, rest_unread, rest_goes_on, rest_stops, rest_at_end}
use Rattle.fe2o3_sasl_wire.proofs.sasl_frames.symbols_view.elements_rest.Goals as goal

pub returns-in_err-after : goal.returns-in_err-after
returns-in_err-after c =
    rw c.from_residual.ensures (rest_stops c.loop-test.true (rest_unread _ c.in_err-after.ensures) c.loop.invariant)

pub loop-preserved : goal.loop-preserved
loop-preserved c = rest_goes_on c.loop-test.true (rest_read _ c.in_ok-after.ensures).1 c.loop.invariant

pub returns : goal.returns
returns c = rest_at_end c.loop-test.false c.loop.invariant
