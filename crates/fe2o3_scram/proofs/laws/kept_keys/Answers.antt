use Rattle.fe2o3_scram.proofs.lemmas.messages.KeptKeyLemmas.{keys_stand, keys_answer, both_answer}
use Rattle.fe2o3_scram.proofs.laws.kept_keys.Goals as goal

pub returns-clause-stand : goal.returns-clause-stand
returns-clause-stand c = keys_stand

pub returns-clause-answer : goal.returns-clause-answer
returns-clause-answer c = keys_answer

pub returns-clause-both : goal.returns-clause-both
returns-clause-both c = both_answer
