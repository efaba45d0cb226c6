use Rattle.fe2o3_scram.proofs.lemmas.messages.LoginLemmas.{accepted_texts_log_in, verified_texts_are_signed}
use Rattle.fe2o3_scram.proofs.lemmas.messages.AgreementLemmas.{verified_texts_agree}
use Rattle.fe2o3_scram.proofs.lemmas.messages.StrictSideLemmas.{one_strict_side_of_texts_is_enough}
use Rattle.fe2o3_scram.proofs.laws.accepted_messages.Goals as goal

pub returns-clause-server : goal.returns-clause-server
returns-clause-server c = accepted_texts_log_in

pub returns-clause-client : goal.returns-clause-client
returns-clause-client c = verified_texts_are_signed

pub returns-clause-agreement : goal.returns-clause-agreement
returns-clause-agreement c = verified_texts_agree

pub returns-clause-strict : goal.returns-clause-strict
returns-clause-strict c = one_strict_side_of_texts_is_enough
