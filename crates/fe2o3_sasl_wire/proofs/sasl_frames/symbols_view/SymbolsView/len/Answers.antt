use Rattle.std.proofs.Common.{sym, ap, ◌∙◌, length}
use Rattle.fe2o3_sasl_wire.proofs.lemmas.reading.ElementLoopLemmas.{length_names}
use Rattle.fe2o3_sasl_wire.proofs.sasl_frames.symbols_view.SymbolsView.len.Goals as goal

pub returns : goal.returns
returns c =
    sym (length_names c.self.inside.form c.self.inside.count c.self.inside.elements.now c.self.invariant)
    ∙ ap length c.self.view_is
