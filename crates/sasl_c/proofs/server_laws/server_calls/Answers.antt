use Rattle.sasl_c.proofs.CallLemmas.{calls_with_one_user, zeros_are_fresh}
use Rattle.sasl_c.proofs.CallNumberLemmas.{returns_are_calls}
use Rattle.sasl_c.proofs.CallStoreLemmas.{calls_with_one_store, stored_users_are_had}
use Rattle.sasl_c.proofs.server_laws.server_calls.Goals as goal

pub returns-clause-returns : goal.returns-clause-returns
returns-clause-returns c = returns_are_calls

pub returns-clause-fresh : goal.returns-clause-fresh
returns-clause-fresh c = zeros_are_fresh

pub returns-clause-one_user : goal.returns-clause-one_user
returns-clause-one_user c = calls_with_one_user

pub returns-clause-one_store : goal.returns-clause-one_store
returns-clause-one_store c = calls_with_one_store

pub returns-clause-stored : goal.returns-clause-stored
returns-clause-stored c = stored_users_are_had
