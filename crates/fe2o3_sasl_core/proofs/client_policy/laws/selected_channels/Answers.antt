use Rattle.fe2o3_sasl_core.proofs.lemmas.machines.ChannelPolicyLemmas.{offered_channel_is_bound, required_channel_is_bound, selected_scram_has_channel, selection_keeps_channel, unoffered_channel_is_said}
use Rattle.fe2o3_sasl_core.proofs.client_policy.laws.selected_channels.Goals as goal

pub returns-clause-keeps : goal.returns-clause-keeps
returns-clause-keeps c = selection_keeps_channel

pub returns-clause-offered : goal.returns-clause-offered
returns-clause-offered c = offered_channel_is_bound

pub returns-clause-unoffered : goal.returns-clause-unoffered
returns-clause-unoffered c = unoffered_channel_is_said

pub returns-clause-required : goal.returns-clause-required
returns-clause-required c = required_channel_is_bound

pub returns-clause-scram : goal.returns-clause-scram
returns-clause-scram c = selected_scram_has_channel
