use Rattle.std.proofs.Common.{Option, List, ℕ}
use Rattle.fe2o3_sasl_negotiation.specs.ClientNegotiation.{ClientSideAnswers}
use Rattle.fe2o3_sasl_negotiation.specs.ServerNegotiation.{ServerSideAnswers}
use Rattle.fe2o3_sasl_negotiation.proofs.lemmas.CutLemmas.{cuts_with_nonces}
use Rattle.fe2o3_sasl_negotiation.proofs.laws.cuts.Goals as goal

pub returns-clause-server : goal.returns-clause-server
returns-clause-server g c = cuts_with_nonces (ServerSideAnswers g.A.SaslAcceptor.names g.A.SaslAcceptor.machine)

pub returns-clause-client : goal.returns-clause-client
returns-clause-client g c = λ (hostname : Option (List ℕ)). cuts_with_nonces (ClientSideAnswers hostname)
