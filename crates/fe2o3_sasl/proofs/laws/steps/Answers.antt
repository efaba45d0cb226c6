use Rattle.fe2o3_sasl_core.proofs.lemmas.steps.SignatureStepLemmas.{verified_on_signature}
use Rattle.fe2o3_sasl_core.proofs.lemmas.steps.StepLawLemmas.{oks_log_in, reported_oks_are_signed}
use Rattle.fe2o3_sasl.proofs.laws.steps.Goals as goal

pub returns-clause-server : goal.returns-clause-server
returns-clause-server c = oks_log_in

pub returns-clause-client : goal.returns-clause-client
returns-clause-client c = reported_oks_are_signed

pub returns-clause-verified : goal.returns-clause-verified
returns-clause-verified c = verified_on_signature
