use Rattle.fe2o3_sasl_negotiation.proofs.lemmas.FrameSizeLemmas.{inits_fit, scram_inits_fit, texts_fit, outcomes_fit}
use Rattle.fe2o3_sasl_negotiation.proofs.frame_sizes.frame_sizes.Goals as goal

pub returns-clause-inits : goal.returns-clause-inits
returns-clause-inits c = inits_fit

pub returns-clause-texts : goal.returns-clause-texts
returns-clause-texts c = texts_fit

pub returns-clause-outcomes : goal.returns-clause-outcomes
returns-clause-outcomes c = outcomes_fit

pub returns-clause-scram_inits : goal.returns-clause-scram_inits
returns-clause-scram_inits c = scram_inits_fit
