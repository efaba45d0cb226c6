use Rattle.fe2o3_sasl.proofs.lemmas.machines.SomeReplyLemmas.{some_acceptor_reply, some_profile_reply}
use Rattle.fe2o3_sasl.proofs.laws.replies.Goals as goal

pub returns-clause-acceptors : goal.returns-clause-acceptors
returns-clause-acceptors c = some_acceptor_reply

pub returns-clause-profiles : goal.returns-clause-profiles
returns-clause-profiles c = some_profile_reply
