use Rattle.connection_laws.proofs.lemmas.ServerByteLemmas.{server_connections_are_bounded}
use Rattle.connection_laws.proofs.server_logins.bounds.Goals as goal

pub returns : goal.returns
returns c = server_connections_are_bounded
