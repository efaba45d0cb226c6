use Rattle.sasl_c.proofs.ServerMessageLemmas.{challenges_return, messages_are_of_server, outcomes_return}
use Rattle.sasl_c.proofs.server_laws.server_messages.Goals as goal

pub returns-clause-first : goal.returns-clause-first
returns-clause-first c = challenges_return

pub returns-clause-last : goal.returns-clause-last
returns-clause-last c = outcomes_return

pub returns-clause-one_store : goal.returns-clause-one_store
returns-clause-one_store c = messages_are_of_server
