use Rattle.fe2o3_scram.proofs.lemmas.messages.RecordLawLemmas.{made_is_readable, one_record, one_spelling, read_again, some_record}
use Rattle.fe2o3_scram.proofs.laws.record_texts.Goals as goal

pub returns-clause-again : goal.returns-clause-again
returns-clause-again c = read_again

pub returns-clause-spelling : goal.returns-clause-spelling
returns-clause-spelling c = one_spelling

pub returns-clause-one : goal.returns-clause-one
returns-clause-one c = one_record

pub returns-clause-some : goal.returns-clause-some
returns-clause-some c = some_record

pub returns-clause-made : goal.returns-clause-made
returns-clause-made c = made_is_readable
