use Rattle.std.proofs.Common.{sym, arith, ◌<◌}
use Rattle.fe2o3_sasl_wire.proofs.lemmas.reading.ElementLoopLemmas.{finds_more, finds_here, finds_stops, finds_nothing}
use Rattle.fe2o3_sasl_wire.proofs.sasl_frames.symbols_view.SymbolsView.get.Goals as goal

pub returns-in_err-symbol-clause-value : goal.returns-in_err-symbol-clause-value
returns-in_err-symbol-clause-value c =
    absurd (finds_stops _ c.loop-at-test.true (sym c.in_err-symbol.ensures.value) c.loop-at.invariant.1)

pub returns-then-at-index-clause-value : goal.returns-then-at-index-clause-value
returns-then-at-index-clause-value c =
    let read = sym c.in_ok-symbol.ensures.value in
    finds_here c.loop-at-test.true c.if-at-index.true read c.loop-at.invariant.1

pub loop-at-preserved : goal.loop-at-preserved
loop-at-preserved c =
    let far : c.loop-at.at < c.args.index = omega arith in
    let read = sym c.in_ok-symbol.ensures.value in
    (omega arith, finds_more c.loop-at-test.true far read c.loop-at.invariant.1)

pub returns-clause-value : goal.returns-clause-value
returns-clause-value c = finds_nothing _ c.loop-at-test.false c.loop-at.invariant.1
