use Rattle.sasl_c.proofs.ClientCallLemmas.{calls_connect, logins_spell_clients, returns_are_calls, zeros_are_fresh}
use Rattle.sasl_c.proofs.client_laws.client_calls.Goals as goal

pub returns-clause-returns : goal.returns-clause-returns
returns-clause-returns c = returns_are_calls

pub returns-clause-fresh : goal.returns-clause-fresh
returns-clause-fresh c = zeros_are_fresh

pub returns-clause-spelled : goal.returns-clause-spelled
returns-clause-spelled c = logins_spell_clients

pub returns-clause-one_login : goal.returns-clause-one_login
returns-clause-one_login c = calls_connect
