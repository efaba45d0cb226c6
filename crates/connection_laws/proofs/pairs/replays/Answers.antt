use Rattle.connection_laws.proofs.lemmas.PairLemmas.{repeated_responses_mean_one_nonce, replays_are_rejected}
use Rattle.connection_laws.proofs.pairs.replays.Goals as goal

pub returns-clause-one_nonce : goal.returns-clause-one_nonce
returns-clause-one_nonce c = repeated_responses_mean_one_nonce

pub returns-clause-rejected : goal.returns-clause-rejected
returns-clause-rejected c = replays_are_rejected
