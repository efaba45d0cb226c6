use Rattle.connection_laws.proofs.lemmas.PolicySelectedLemmas.{unselected_clients_send_nothing}
use Rattle.connection_laws.proofs.policy_clients.unselected.Goals as goal

pub returns : goal.returns
returns c = unselected_clients_send_nothing
