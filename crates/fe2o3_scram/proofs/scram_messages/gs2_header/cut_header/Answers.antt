use Rattle.std.proofs.Common.{inl, refl}
use Rattle.fe2o3_scram.proofs.lemmas.messages.HeaderLemmas.{no_flag}
use Rattle.fe2o3_scram.proofs.scram_messages.gs2_header.cut_header.Goals as goal

pub returns-in_default-clause-err : goal.returns-in_default-clause-err
returns-in_default-clause-err c = inl (refl, no_flag c.args.rules c.args.text.now c.in_default.ensures)
