use Rattle.fe2o3_scram.proofs.lemmas.texts.CountLemmas.{plain_count_from}
use Rattle.fe2o3_scram.proofs.texts.plain_count_of.Goals as goal

pub returns : goal.returns
returns c = plain_count_from c.args.text.now c.count_of.result c.in_default.ensures c.in_default-after.ensures
    c.count_of.ensures
