use Rattle.std.proofs.Common.{◌-◌, length, min, ap, ◌∙◌, arith}
use Rattle.fe2o3_sasl_negotiation.proofs.lemmas.FramingLemmas.{kept, appended}
use Rattle.fe2o3_sasl_negotiation.proofs.framing.keep.Goals as goal

pub returns-clause-ok : goal.returns-clause-ok
returns-clause-ok c =
    let old = c.args.held.now in
    appended c.extend_from_slice.result c.extend_from_slice.new.self.items old.items _ _
    c.extend_from_slice.ensures.items
    (kept old.items c.args.bytes.now c.args.n c.min-missing.result (let l = old.ok.0 in omega arith)
    (c.min-missing.ensures ∙ ap (λ n. min (c.args.n - n) (length c.args.bytes.now)) (c.len.ensures ∙ old.ok.0)))
