use Rattle.fe2o3_scram.proofs.lemmas.texts.CutLemmas.{cut_from}
use Rattle.fe2o3_scram.proofs.texts.cut.Goals as goal

pub returns : goal.returns
returns c = cut_from c.args.separator c.args.text.now c.split_once.result c.requires c.split_once.ensures.cases
