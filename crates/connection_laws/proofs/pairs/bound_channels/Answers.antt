use Rattle.connection_laws.proofs.lemmas.BoundPairLemmas.{logged_in_clients_bind_one_channel, accepted_proofs_bind_one_channel}
use Rattle.connection_laws.proofs.pairs.bound_channels.Goals as goal

pub returns-clause-verified : goal.returns-clause-verified
returns-clause-verified c = logged_in_clients_bind_one_channel

pub returns-clause-shown : goal.returns-clause-shown
returns-clause-shown c = accepted_proofs_bind_one_channel
