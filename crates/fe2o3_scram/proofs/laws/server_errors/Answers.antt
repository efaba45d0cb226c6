use Rattle.fe2o3_scram.proofs.lemmas.messages.ServerErrorLemmas.{errors_are_no_signature, errors_are_read_again, one_server_error}
use Rattle.fe2o3_scram.proofs.laws.server_errors.Goals as goal

pub returns-clause-again : goal.returns-clause-again
returns-clause-again c = errors_are_read_again

pub returns-clause-one : goal.returns-clause-one
returns-clause-one c = one_server_error

pub returns-clause-rejected : goal.returns-clause-rejected
returns-clause-rejected c = errors_are_no_signature
