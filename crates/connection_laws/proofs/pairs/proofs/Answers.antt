use Rattle.connection_laws.proofs.lemmas.PairLemmas.{logged_in_servers_accept, accepted_proofs_are_judged}
use Rattle.connection_laws.proofs.pairs.proofs.Goals as goal

pub returns-clause-response : goal.returns-clause-response
returns-clause-response c = logged_in_servers_accept

pub returns-clause-judged : goal.returns-clause-judged
returns-clause-judged c = accepted_proofs_are_judged
