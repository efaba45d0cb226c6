use Rattle.connection_laws.proofs.lemmas.PairLemmas.{logged_in_clients_agree}
use Rattle.connection_laws.proofs.pairs.verifiers.Goals as goal

pub returns : goal.returns
returns c = logged_in_clients_agree
