use Rattle.std.proofs.Common.{◌≡◌, ◌∙◌, Bool, true, false}
use Rattle.std.proofs.lemmas.Slice.Eq.{bytes_eq-Decides}
use Rattle.fe2o3_sasl_core.proofs.lemmas.steps.ProfileReplyLemmas.{not_among_more, not_among_all}
use Rattle.fe2o3_sasl_core.proofs.offer.has_name.Goals as goal

pub loop-symbol-preserved : goal.loop-symbol-preserved
loop-symbol-preserved c =
    not_among_more c.args.mechanisms.now.sasl_server_mechanisms.0.items c.loop-symbol.symbol-index c.symbol-item.result
    c.args.name.now (rw c.deref-symbol-items.ensures.value at c.loop-symbol-test.true)
    (rw c.deref-symbol-items.ensures.value at c.symbol-item.is)
    (λ same. apart c.eq.result
    (c.eq.ensures ∙ (bytes_eq-Decides c.as_str.result.now c.args.name.now).1 (c.as_str.ensures.text ∙ same))
    c.if-eq.false) c.loop-symbol.invariant
  where
    apart : (b : Bool) → b ≡ true → b ≡ false → ⊥
    apart b is_true is_false = cc

pub returns : goal.returns
returns c = (
  λ no. absurd cc,
  λ there. absurd (not_among_all c.args.mechanisms.now.sasl_server_mechanisms.0.items c.loop-symbol.symbol-index
      c.args.name.now (rw c.deref-symbol-items.ensures.value at c.loop-symbol-test.false) c.loop-symbol.invariant
      there),
)
