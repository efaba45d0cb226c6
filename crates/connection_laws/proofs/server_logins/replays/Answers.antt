use Rattle.connection_laws.proofs.lemmas.ServerReplayLemmas.{repeated_finals_mean_one_nonce, replayed_finals_are_rejected}
use Rattle.connection_laws.proofs.server_logins.replays.Goals as goal

pub returns-clause-one_nonce : goal.returns-clause-one_nonce
returns-clause-one_nonce c = repeated_finals_mean_one_nonce

pub returns-clause-rejected : goal.returns-clause-rejected
returns-clause-rejected c = replayed_finals_are_rejected
