use Rattle.fe2o3_sasl_wire.proofs.lemmas.reading.ElementLoopLemmas.{ascii_names}
use Rattle.fe2o3_sasl_wire.proofs.sasl_frames.symbols_view.SymbolsView.iter.Goals as goal

pub returns-clause-ascii : goal.returns-clause-ascii
returns-clause-ascii c =
    rw (← c.self.view_is) (ascii_names c.self.inside.form c.self.inside.count c.self.inside.elements.now)
