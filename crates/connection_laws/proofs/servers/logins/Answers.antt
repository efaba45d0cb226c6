use Rattle.connection_laws.proofs.lemmas.ServerLoginLemmas as lemma
use Rattle.connection_laws.proofs.servers.logins.Goals as goal

pub returns-clause-lets_in : goal.returns-clause-lets_in
returns-clause-lets_in c = lemma.lets_in

pub returns-clause-only : goal.returns-clause-only
returns-clause-only c = lemma.only_lets_in

pub returns-clause-signatures : goal.returns-clause-signatures
returns-clause-signatures c = lemma.follows_proof
