use Rattle.fe2o3_sasl_negotiation.proofs.lemmas.PolicyLawLemmas.{selects_at_offer, waits_for_offer}
use Rattle.fe2o3_sasl_negotiation.proofs.lemmas.PolicyInitLemmas.{nothing_below_policy}
use Rattle.fe2o3_sasl_negotiation.proofs.policy_laws.policy_clients.Goals as goal

pub returns-clause-before : goal.returns-clause-before
returns-clause-before c = waits_for_offer

pub returns-clause-selects : goal.returns-clause-selects
returns-clause-selects c = selects_at_offer

pub returns-clause-allowed : goal.returns-clause-allowed
returns-clause-allowed c = nothing_below_policy
