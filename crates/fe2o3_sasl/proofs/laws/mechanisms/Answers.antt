use Rattle.fe2o3_sasl.proofs.lemmas.machines.MechanismLemmas.{offers_agree, plain_identities_agree, plain_lets_in, plain_refuses, anonymous_lets_in, something_is_offered, names_differ}
use Rattle.fe2o3_sasl_core.proofs.lemmas.machines.OneReplyLemmas.{one_acceptor_reply, one_profile_reply}
use Rattle.fe2o3_sasl.proofs.laws.mechanisms.Goals as goal

pub returns-clause-one_acceptor_reply : goal.returns-clause-one_acceptor_reply
returns-clause-one_acceptor_reply c = one_acceptor_reply

pub returns-clause-one_profile_reply : goal.returns-clause-one_profile_reply
returns-clause-one_profile_reply c = one_profile_reply

pub returns-clause-offers_agree : goal.returns-clause-offers_agree
returns-clause-offers_agree c = offers_agree

pub returns-clause-plain_lets_in : goal.returns-clause-plain_lets_in
returns-clause-plain_lets_in c = plain_lets_in

pub returns-clause-plain_refuses : goal.returns-clause-plain_refuses
returns-clause-plain_refuses c = plain_refuses

pub returns-clause-plain_identities : goal.returns-clause-plain_identities
returns-clause-plain_identities c = plain_identities_agree

pub returns-clause-anonymous_lets_in : goal.returns-clause-anonymous_lets_in
returns-clause-anonymous_lets_in c = anonymous_lets_in

pub returns-clause-something_is_offered : goal.returns-clause-something_is_offered
returns-clause-something_is_offered c = something_is_offered

pub returns-clause-names_differ : goal.returns-clause-names_differ
returns-clause-names_differ c = names_differ
