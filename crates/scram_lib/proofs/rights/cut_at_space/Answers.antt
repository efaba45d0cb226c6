use Rattle.std.proofs.Common.{lit<}
use Rattle.fe2o3_scram.proofs.lemmas.texts.CutLemmas.{cut_from}
use Rattle.scram_lib.proofs.rights.cut_at_space.Goals as goal

pub returns : goal.returns
returns c = cut_from 32 c.args.line.now c.split_once.result (lit< tt) c.split_once.ensures.cases
