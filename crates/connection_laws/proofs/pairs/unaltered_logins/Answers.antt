use Rattle.connection_laws.proofs.lemmas.UnalteredPairLemmas.{unaltered_connections_agree}
use Rattle.connection_laws.proofs.pairs.unaltered_logins.Goals as goal

pub returns : goal.returns
returns c = unaltered_connections_agree
