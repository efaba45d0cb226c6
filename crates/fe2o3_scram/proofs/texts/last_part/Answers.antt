use Rattle.std.proofs.Common.{lit<}
use Rattle.fe2o3_scram.proofs.lemmas.texts.CutLemmas.{last_cut_from}
use Rattle.fe2o3_scram.proofs.texts.last_part.Goals as goal

pub returns : goal.returns
returns c = last_cut_from 44 c.args.text.now c.rsplit_once.result (lit< tt) c.rsplit_once.ensures.cases
