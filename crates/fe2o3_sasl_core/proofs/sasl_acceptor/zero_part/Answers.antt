use Rattle.std.proofs.Common.{rules, tests, Bor, List, ℕ, eqb}
use Rattle.std.proofs.lemmas.Iterator.Consumers.{nth_from_yields_List}
use Rattle.std.proofs.lemmas.Iterator.Splits.{YieldsList-from_slice_split}
use Rattle.fe2o3_sasl_core.proofs.lemmas.machines.ZeroPartLemmas.{zero_part_found}
use Rattle.fe2o3_sasl_core.proofs.sasl_acceptor.zero_part.Goals as goal

pub returns : goal.returns
returns c =
    zero_part_found (λ (part : Bor (List ℕ)). part.now) c.args.bytes.now c.args.k c.nth.result
    (nth_from_yields_List _ _ c.args.k c.nth.ensures.ran
    (YieldsList-from_slice_split _ (λ byte. eqb byte 0) c.args.bytes.now c.split.ensures.rest c.split.ensures.done
    c.split.ensures.closure (λ x r q k. search (rules, tests))))
