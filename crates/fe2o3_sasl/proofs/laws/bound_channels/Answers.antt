use Rattle.fe2o3_sasl_core.proofs.lemmas.two_sides.BoundSideLemmas.{equal_messages_bind_one_channel}
use Rattle.fe2o3_sasl.proofs.laws.bound_channels.Goals as goal

pub returns : goal.returns
returns c = equal_messages_bind_one_channel
