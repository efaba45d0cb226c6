use Rattle.fe2o3_scram.proofs.lemmas.messages.ClientFinalLemmas.{one_client_final, one_final_text}
use Rattle.fe2o3_scram.proofs.lemmas.messages.ClientFirstLemmas.{one_client_first}
use Rattle.fe2o3_scram.proofs.lemmas.messages.ServerFinalLemmas.{one_server_final, one_signature}
use Rattle.fe2o3_scram.proofs.lemmas.messages.ServerFirstLemmas.{one_server_first}
use Rattle.fe2o3_scram.proofs.laws.one_answer_each.Goals as goal

pub returns-clause-server_first : goal.returns-clause-server_first
returns-clause-server_first c = one_server_first

pub returns-clause-server_final : goal.returns-clause-server_final
returns-clause-server_final c = one_server_final

pub returns-clause-signature : goal.returns-clause-signature
returns-clause-signature c = one_signature

pub returns-clause-client_first : goal.returns-clause-client_first
returns-clause-client_first c = one_client_first

pub returns-clause-client_final : goal.returns-clause-client_final
returns-clause-client_final c = one_client_final

pub returns-clause-final_text : goal.returns-clause-final_text
returns-clause-final_text c = one_final_text
