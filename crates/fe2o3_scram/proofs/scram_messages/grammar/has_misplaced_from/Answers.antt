use Rattle.std.proofs.Common.{lit<, rules, tests}
use Rattle.std.proofs.lemmas.Iterator.Adapters.{YieldsList-from_skip}
use Rattle.std.proofs.lemmas.Iterator.Search.{any_from_yields_List}
use Rattle.std.proofs.lemmas.Iterator.Splits.{YieldsList-from_str_split}
use Rattle.fe2o3_scram.proofs.lemmas.texts.GrammarLemmas.{is_other, misplaced_from}
use Rattle.fe2o3_scram.proofs.scram_messages.grammar.has_misplaced_from.Goals as goal

pub returns : goal.returns
returns c = misplaced_from c.args.text.now c.args.from c.any.result (any_from_yields_List is_other _ _ _ c.any.ensures.ran
    (YieldsList-from_skip c.args.from (YieldsList-from_str_split 44 c.args.text.now (lit< tt)
    (search rules) (search rules) (search rules)) (search rules)) (λ x b q k. search (rules, tests)))
