use Rattle.fe2o3_scram.proofs.lemmas.messages.RecordLinesLawLemmas.{mixed_read_again, no_mismatch, one_mixed_answer, written_back}
use Rattle.fe2o3_scram.proofs.lemmas.messages.SomeUsersLemmas.{some_mixed_answer}
use Rattle.fe2o3_scram.proofs.laws.mixed_texts.Goals as goal

pub returns-clause-again : goal.returns-clause-again
returns-clause-again c = mixed_read_again

pub returns-clause-back : goal.returns-clause-back
returns-clause-back c = written_back

pub returns-clause-version : goal.returns-clause-version
returns-clause-version c = no_mismatch

pub returns-clause-one : goal.returns-clause-one
returns-clause-one c = one_mixed_answer

pub returns-clause-some : goal.returns-clause-some
returns-clause-some c = some_mixed_answer
