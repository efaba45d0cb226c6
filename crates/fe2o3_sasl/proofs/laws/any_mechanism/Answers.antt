use Rattle.fe2o3_sasl_core.proofs.lemmas.machines.AnyMechanismLemmas.{any_mechanism_runs}
use Rattle.fe2o3_sasl.proofs.laws.any_mechanism.Goals as goal

pub returns : goal.returns
returns g c = any_mechanism_runs g.A.SaslAcceptor.names g.B.SaslAcceptor.names
    g.A.SaslAcceptor.machine g.B.SaslAcceptor.machine
