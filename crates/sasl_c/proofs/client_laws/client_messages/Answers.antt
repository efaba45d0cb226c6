use Rattle.sasl_c.proofs.ClientMessageLemmas.{final_calls_return, first_calls_return, messages_are_of_client, messages_spell_clients, verify_calls_return}
use Rattle.sasl_c.proofs.client_laws.client_messages.Goals as goal

pub returns-clause-first : goal.returns-clause-first
returns-clause-first c = first_calls_return

pub returns-clause-last : goal.returns-clause-last
returns-clause-last c = final_calls_return

pub returns-clause-verify : goal.returns-clause-verify
returns-clause-verify c = verify_calls_return

pub returns-clause-spelled : goal.returns-clause-spelled
returns-clause-spelled c = messages_spell_clients

pub returns-clause-one_login : goal.returns-clause-one_login
returns-clause-one_login c = messages_are_of_client
