use Rattle.std.proofs.Common.{lit<}
use Rattle.fe2o3_scram.proofs.lemmas.texts.CutLemmas.{cut_from}
use Rattle.sasl_c.proofs.zeros.cut_at_zero.Goals as goal

pub returns : goal.returns
returns c = cut_from 0 c.args.text.now c.split_once.result (lit< tt) c.split_once.ensures.cases
