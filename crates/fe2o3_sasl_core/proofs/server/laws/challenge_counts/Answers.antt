use Rattle.fe2o3_sasl_core.proofs.lemmas.machines.ChallengeCountLemmas.{bounds_hold, servers_are_bounded, servers_have_few_challenges}
use Rattle.fe2o3_sasl_core.proofs.server.laws.challenge_counts.Goals as goal

pub returns-clause-counted : goal.returns-clause-counted
returns-clause-counted g c = bounds_hold g.A.SaslAcceptor.machine

pub returns-clause-bounds : goal.returns-clause-bounds
returns-clause-bounds g c = servers_are_bounded

pub returns-clause-server : goal.returns-clause-server
returns-clause-server g c = servers_have_few_challenges
