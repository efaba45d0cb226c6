use Rattle.std.proofs.Common.{lit<}
use Rattle.std.proofs.lemmas.Str.Pattern.{split_parts}
use Rattle.fe2o3_scram.proofs.lemmas.texts.EscapingLemmas.{no_equals-index, MatchOption-weaker}
use Rattle.fe2o3_scram.proofs.scram_messages.escape.at_equals.Goals as goal

pub returns : goal.returns
returns c =
    MatchOption-weaker c.split_once.result _ _ _ _ (λ none. no_equals-index c.args.text.now none)
    (λ both cut. (no_equals-index both.0.now cut.1, cut.0))
    (split_parts 61 c.args.text.now c.split_once.result c.split_once.ensures.cases (lit< tt))
