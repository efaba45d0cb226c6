use Rattle.fe2o3_sasl_core.proofs.lemmas.histories.ServerLawLemmas.{oks_within_challenges, repeated_responses_are_refused, one_response_one_nonce}
use Rattle.fe2o3_sasl.proofs.laws.servers.Goals as goal

pub returns-clause-oks : goal.returns-clause-oks
returns-clause-oks c = oks_within_challenges

pub returns-clause-repeated : goal.returns-clause-repeated
returns-clause-repeated c = repeated_responses_are_refused

pub returns-clause-one_nonce : goal.returns-clause-one_nonce
returns-clause-one_nonce c = one_response_one_nonce
