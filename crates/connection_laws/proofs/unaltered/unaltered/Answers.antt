use Rattle.connection_laws.proofs.lemmas.NegotiationAgreeLemmas.{negotiations_agree}
use Rattle.connection_laws.proofs.lemmas.UnalteredLemmas.{unaltered_sides_log_in}
use Rattle.connection_laws.proofs.unaltered.unaltered.Goals as goal

pub returns-clause-log_in : goal.returns-clause-log_in
returns-clause-log_in c = unaltered_sides_log_in

pub returns-clause-agree : goal.returns-clause-agree
returns-clause-agree c = negotiations_agree
