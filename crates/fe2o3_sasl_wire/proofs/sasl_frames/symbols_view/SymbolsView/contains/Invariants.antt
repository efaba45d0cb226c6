use Rattle.std.proofs.Common.{◌-◌}
use Rattle.fe2o3_sasl_wire.proofs.lemmas.reading.ElementLoopLemmas.{Seeks}
use Rattle.fe2o3_sasl_wire.proofs.sasl_frames.symbols_view.SymbolsView.contains.Given as goal

abbrev pub invariant-loop : goal.invariant-loop
invariant-loop l = Seeks l.self-inside.form (l.self-inside.count - l.counter) l.rest l.name l.self
