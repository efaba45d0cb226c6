use Rattle.fe2o3_scram.proofs.lemmas.messages.RecordLinesLawLemmas.{one_users_answer, users_read_again}
use Rattle.fe2o3_scram.proofs.lemmas.messages.SomeUsersLemmas.{some_users_answer}
use Rattle.fe2o3_scram.proofs.laws.users_texts.Goals as goal

pub returns-clause-again : goal.returns-clause-again
returns-clause-again c = users_read_again

pub returns-clause-one : goal.returns-clause-one
returns-clause-one c = one_users_answer

pub returns-clause-some : goal.returns-clause-some
returns-clause-some c = some_users_answer
