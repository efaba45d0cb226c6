use Rattle.std.proofs.Common.{lit<, Bor, List, ℕ}
use Rattle.std.proofs.lemmas.Iterator.Consumers.{nth_from_yields_List}
use Rattle.std.proofs.lemmas.Iterator.Splits.{YieldsList-from_str_split}
use Rattle.fe2o3_scram.proofs.lemmas.texts.PartsLemmas.{part_from_pieces}
use Rattle.fe2o3_sasl.proofs.audit.client_receipts.verifiers.first_part.Goals as goal

pub returns : goal.returns
returns c =
    part_from_pieces (λ (part : Bor (List ℕ)). part.now) c.args.text.now 0 c.nth.result
    (nth_from_yields_List _ _ 0 c.nth.ensures.ran (YieldsList-from_str_split 44 c.args.text.now
    (lit< tt) c.split.ensures.text c.split.ensures.has_more c.split.ensures.pattern))
