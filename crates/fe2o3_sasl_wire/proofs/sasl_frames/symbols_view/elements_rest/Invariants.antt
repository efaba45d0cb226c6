use Rattle.std.proofs.Common.{◌-◌}
use Rattle.fe2o3_sasl_wire.specs.private.Reading.{elements_at}
use Rattle.fe2o3_sasl_wire.proofs.lemmas.reading.ElementLoopLemmas.{rest_of, Leaves}
use Rattle.fe2o3_sasl_wire.proofs.sasl_frames.symbols_view.elements_rest.Given as goal

abbrev pub invariant-loop : goal.invariant-loop
invariant-loop l = Leaves l.form (l.count - l.counter) l.rest (rest_of (elements_at l.form l.count l.bytes))
