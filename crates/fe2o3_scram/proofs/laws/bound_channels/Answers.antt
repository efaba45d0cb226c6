use Rattle.fe2o3_scram.proofs.lemmas.messages.BoundChannelLemmas.{equal_texts_bind_one_channel, foreign_clients_bind_one_channel, foreign_servers_expect_this, unoffered_texts_differ, shown_texts_agree, shown_texts_bind_one_channel, verified_texts_bind_one_channel}
use Rattle.fe2o3_scram.proofs.lemmas.examples.MovedChannelLemmas.{moved_channels_pass, moved_firsts_are_refused}
use Rattle.fe2o3_scram.proofs.lemmas.messages.StrictSideLemmas.{set_servers_reject}
use Rattle.fe2o3_scram.proofs.laws.bound_channels.Goals as goal

pub returns-clause-equal : goal.returns-clause-equal
returns-clause-equal c = equal_texts_bind_one_channel

pub returns-clause-foreign_client : goal.returns-clause-foreign_client
returns-clause-foreign_client c = foreign_clients_bind_one_channel

pub returns-clause-set_server : goal.returns-clause-set_server
returns-clause-set_server c = set_servers_reject

pub returns-clause-foreign_server : goal.returns-clause-foreign_server
returns-clause-foreign_server c = foreign_servers_expect_this

pub returns-clause-unoffered : goal.returns-clause-unoffered
returns-clause-unoffered c = unoffered_texts_differ

pub returns-clause-verified : goal.returns-clause-verified
returns-clause-verified c = verified_texts_bind_one_channel

pub returns-clause-shown : goal.returns-clause-shown
returns-clause-shown c = shown_texts_agree

pub returns-clause-shown_channel : goal.returns-clause-shown_channel
returns-clause-shown_channel c = shown_texts_bind_one_channel

pub returns-clause-moved : goal.returns-clause-moved
returns-clause-moved c = moved_channels_pass

pub returns-clause-refused : goal.returns-clause-refused
returns-clause-refused c = moved_firsts_are_refused
