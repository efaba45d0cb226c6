use Rattle.std.proofs.Common.{◌-◌, ◌≤◌, slice_get}
use Rattle.fe2o3_sasl_wire.proofs.lemmas.reading.ElementLoopLemmas.{Finds}
use Rattle.fe2o3_sasl_wire.proofs.sasl_frames.symbols_view.SymbolsView.get.Given as goal

abbrev pub invariant-loop-at : goal.invariant-loop-at
invariant-loop-at l =
    (l.at ≤ l.index) × Finds l.self-inside.form (l.self-inside.count - l.at) l.rest (l.index - l.at)
    (slice_get l.self l.index)
