use Rattle.fe2o3_sasl_core.specs.SaslProfile.{profile_of}
use Rattle.sasl_c.proofs.SaslClientLemmas.{shows_scram, writes_scram}
use Rattle.sasl_c.proofs.sasl_client.scram_of.Goals as goal

pub returns-in-Some-clause-state : goal.returns-in-Some-clause-state
returns-in-Some-clause-state c = λ login comes.
    shows_scram login (profile_of c.args.profile.now) c.in-Some.machine.now c.of.result c.in-Some.ensures.side comes
    c.of.ensures.state

pub returns-in-Some-clause-writes : goal.returns-in-Some-clause-writes
returns-in-Some-clause-writes c =
    writes_scram (profile_of c.args.profile.now) c.in-Some.machine.now c.of.result c.in-Some.ensures.side
    c.of.ensures.writes
