use Rattle.connection_laws.proofs.lemmas.PolicySelectedLemmas.{offered_clients_select, one_is_selected, selected_clients_act_as_profile, selected_profiles_act_as_client}
use Rattle.connection_laws.proofs.policy_clients.selected.Goals as goal

pub returns-clause-acts : goal.returns-clause-acts
returns-clause-acts c = selected_clients_act_as_profile

pub returns-clause-reverse : goal.returns-clause-reverse
returns-clause-reverse c = selected_profiles_act_as_client

pub returns-clause-one : goal.returns-clause-one
returns-clause-one c = one_is_selected

pub returns-clause-offered : goal.returns-clause-offered
returns-clause-offered c = offered_clients_select
