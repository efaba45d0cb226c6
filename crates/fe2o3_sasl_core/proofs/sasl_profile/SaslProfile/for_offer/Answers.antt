use Rattle.fe2o3_sasl_core.proofs.sasl_profile.SaslProfile.for_offer.Goals as goal

pub returns-in-ByPolicy-clause-err : goal.returns-in-ByPolicy-clause-err
returns-in-ByPolicy-clause-err g c = rw c.in-ByPolicy.is (rw c.deref.ensures at c.selected.ensures.err)
