use Rattle.std.proofs.Common.{length, sym, ap, ◌∙◌, rules}
use Rattle.fe2o3_sasl_wire.proofs.lemmas.reading.ElementLoopLemmas.{walk_reads, walk_yields, walk_goes_on, walk_ends}
use Rattle.fe2o3_sasl_wire.proofs.sasl_frames.symbols_view.SymbolsIterIterator.next.Goals as goal

pub returns-then-self-eq0-clause-steps : goal.returns-then-self-eq0-clause-steps
returns-then-self-eq0-clause-steps c =
    let left = c.self.inside in
    let none = sym c.self.view_is ∙ walk_ends left.form left.count left.elements.now c.if-self-eq0.true in
    (none, none)

pub unreachable-requires : goal.unreachable-requires
unreachable-requires c =
    let left = c.self.inside in
    let read = sym c.in_default.ensures.value in
    walk_goes_on left.form left.count left.elements.now c.if-self-eq0.false read c.self.invariant

pub invariant_of-self : goal.invariant_of-self
invariant_of-self c =
    let left = c.self.inside in
    let read = sym c.in-Some.ensures.value in
    walk_reads left.form left.count left.elements.now c.if-self-eq0.false read c.self.invariant

pub returns-clause-steps : goal.returns-clause-steps
returns-clause-steps c =
    let left = c.self.inside in
    let read = sym c.in-Some.ensures.value in
    sym c.self.view_is ∙ walk_yields left.form left.count left.elements.now c.if-self-eq0.false read c.self.invariant

pub returns-clause-goes : goal.returns-clause-goes
returns-clause-goes c =
    let left = c.self.inside in
    let read = sym c.in-Some.ensures.value in
    let yielded = walk_yields left.form left.count left.elements.now c.if-self-eq0.false read c.self.invariant in
    let shorter = ap length (sym c.self.view_is ∙ yielded) in
    search rules
