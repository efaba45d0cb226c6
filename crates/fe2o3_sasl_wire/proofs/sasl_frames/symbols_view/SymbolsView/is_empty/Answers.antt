use Rattle.fe2o3_sasl_wire.proofs.lemmas.reading.ElementLoopLemmas.{no_names}
use Rattle.fe2o3_sasl_wire.proofs.sasl_frames.symbols_view.SymbolsView.is_empty.Goals as goal

pub returns : goal.returns
returns c = rw (← c.self.view_is)
    (no_names c.self.inside.form c.self.inside.count c.self.inside.elements.now c.self.invariant)
