use Rattle.std.proofs.Common.{rules, tests, eqb}
use Rattle.std.specs.Prelude.{nat_eq}
use Rattle.std.specs.Cmp.Lexicographic.{pointwise}
use Rattle.std.proofs.lemmas.Iterator.Search.{any_from_yields_List}
use Rattle.std.proofs.lemmas.Iterator.Splits.{YieldsList-from_slice_split}
use Rattle.sasl_c.proofs.acting.has_identity.Goals as goal

pub returns : goal.returns
returns c = any_from_yields_List (λ identity. pointwise nat_eq identity c.args.name.now) _ _ c.any.result c.any.ensures.ran
    (YieldsList-from_slice_split _ (λ byte. eqb byte 0) c.args.identities.now c.split.ensures.rest c.split.ensures.done
    c.split.ensures.closure (λ x r q k. search (rules, tests))) (λ x b q k. search (rules, tests))
