use Rattle.std.proofs.Common.{Bor, List, ℕ, ◌++◌}
use Rattle.fe2o3_scram.proofs.lemmas.texts.PartsLemmas.{attribute_from_part}
use Rattle.fe2o3_scram.proofs.texts.attribute.Goals as goal

pub returns : goal.returns
returns c = attribute_from_part (λ (rest : Bor (List ℕ)). rest.now) c.args.text.now c.args.key.now
    c.in_ok-part.field-0.now c.args.k c.after.result c.in_ok-part.ensures c.after.ensures

pub returns-in_err-part : goal.returns-in_err-part
returns-in_err-part c = rw c.from_residual.ensures (λ rest. c.in_err-part.ensures (c.args.key.now ++ rest))
