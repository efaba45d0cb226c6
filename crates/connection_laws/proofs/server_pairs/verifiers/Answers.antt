use Rattle.connection_laws.proofs.lemmas.ServerPairLemmas.{clients_agree_on_all, clients_agree_with_servers, clients_bind_channels_of_servers}
use Rattle.connection_laws.proofs.lemmas.SignedLoginLemmas.{signed_logins_are_accepted}
use Rattle.connection_laws.proofs.server_pairs.verifiers.Goals as goal

pub returns-clause-accepted : goal.returns-clause-accepted
returns-clause-accepted c = signed_logins_are_accepted

pub returns-clause-agree : goal.returns-clause-agree
returns-clause-agree c = clients_agree_with_servers

pub returns-clause-on_all : goal.returns-clause-on_all
returns-clause-on_all c = clients_agree_on_all

pub returns-clause-channels : goal.returns-clause-channels
returns-clause-channels c = clients_bind_channels_of_servers
