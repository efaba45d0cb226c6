use Rattle.std.proofs.Common.{◌≡◌, ◌∙◌, Bool, true, false, sym, refl}
use Rattle.std.proofs.lemmas.Slice.Eq.{bytes_eq-Decides}
use Rattle.fe2o3_sasl_wire.proofs.lemmas.reading.ElementLoopLemmas.{seeks_more, seeks_here, seeks_stops, seeks_nothing}
use Rattle.fe2o3_sasl_wire.proofs.sasl_frames.symbols_view.SymbolsView.contains.Goals as goal

pub unreachable-requires : goal.unreachable-requires
unreachable-requires c = seeks_stops c.loop-test.true (sym c.in_default.ensures.value) c.loop.invariant

pub returns-then-eq : goal.returns-then-eq
returns-then-eq c =
    let same = (bytes_eq-Decides c.in-Some.symbol.now c.args.name.now).0 (sym c.eq.ensures ∙ c.if-eq.true) in
    let found = seeks_here c.loop-test.true same (sym c.in-Some.ensures.value) c.loop.invariant in
    (λ _. found, λ _. refl)

pub loop-preserved : goal.loop-preserved
loop-preserved c =
    let decided = bytes_eq-Decides c.in-Some.symbol.now c.args.name.now in
    let other : c.in-Some.symbol.now ≡ c.args.name.now → ⊥ =
    λ same. absurd (apart c.eq.result (c.eq.ensures ∙ decided.1 same) c.if-eq.false) in
    seeks_more c.loop-test.true other (sym c.in-Some.ensures.value) c.loop.invariant
  where
    apart : (b : Bool) → b ≡ true → b ≡ false → ⊥
    apart b is_true is_false = cc

pub returns : goal.returns
returns c = (λ no. absurd cc, λ there. absurd (seeks_nothing c.loop-test.false c.loop.invariant there))
