use Rattle.fe2o3_scram.proofs.lemmas.messages.PreparedLemmas.{one_record_of_password, one_answer_of_password}
use Rattle.fe2o3_scram.proofs.laws.printable_passwords.Goals as goal

pub returns-clause-record : goal.returns-clause-record
returns-clause-record c = one_record_of_password

pub returns-clause-answer : goal.returns-clause-answer
returns-clause-answer c = one_answer_of_password
