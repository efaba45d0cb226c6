use Rattle.fe2o3_scram.proofs.lemmas.texts.CutLemmas.{last_cut_from}
use Rattle.fe2o3_scram.proofs.credentials.record_lines.last_cut.Goals as goal

pub returns : goal.returns
returns c =
    last_cut_from c.args.separator c.args.text.now c.rsplit_once.result c.requires c.rsplit_once.ensures.cases
