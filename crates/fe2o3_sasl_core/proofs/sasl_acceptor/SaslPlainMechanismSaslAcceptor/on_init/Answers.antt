use Rattle.fe2o3_sasl_core.proofs.sasl_acceptor.SaslPlainMechanismSaslAcceptor.on_init.Goals as goal

pub returns-in-Some-rejection_of-clause-reason : goal.returns-in-Some-rejection_of-clause-reason
returns-in-Some-rejection_of-clause-reason c =
    let rejected = rw c.deref.ensures.value at c.in-Some-rejection_of.ensures.reason in rw c.in-Some.is rejected
