use Rattle.fe2o3_scram.proofs.lemmas.messages.SomeReadingLemmas.{some_client_first, some_server_first, some_client_final, some_server_final}
use Rattle.fe2o3_scram.proofs.laws.each_text_is_read.Goals as goal

pub returns-clause-client_first : goal.returns-clause-client_first
returns-clause-client_first c = some_client_first

pub returns-clause-server_first : goal.returns-clause-server_first
returns-clause-server_first c = some_server_first

pub returns-clause-client_final : goal.returns-clause-client_final
returns-clause-client_final c = some_client_final

pub returns-clause-server_final : goal.returns-clause-server_final
returns-clause-server_final c = some_server_final
