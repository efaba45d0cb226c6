use Rattle.connection_laws.proofs.lemmas.ConnectionLoginLemmas.{servers_authenticate_exactly, servers_have_login_exactly}
use Rattle.connection_laws.proofs.lemmas.LoginByteLemmas.{servers_log_in_on_bytes}
use Rattle.connection_laws.proofs.server_logins.logged_in.Goals as goal

pub returns-clause-login : goal.returns-clause-login
returns-clause-login c = servers_have_login_exactly

pub returns-clause-authenticated : goal.returns-clause-authenticated
returns-clause-authenticated c = servers_authenticate_exactly

pub returns-clause-bytes : goal.returns-clause-bytes
returns-clause-bytes c = servers_log_in_on_bytes
