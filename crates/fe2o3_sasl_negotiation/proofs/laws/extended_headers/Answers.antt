use Rattle.std.proofs.Common.{Option, List, ℕ}
use Rattle.fe2o3_sasl_negotiation.specs.ClientNegotiation.{ClientSideAnswers}
use Rattle.fe2o3_sasl_negotiation.specs.ServerNegotiation.{ServerSideAnswers}
use Rattle.fe2o3_sasl_negotiation.proofs.lemmas.ExtendedLawLemmas.{ignores_extended_headers}
use Rattle.fe2o3_sasl_negotiation.proofs.laws.extended_headers.Goals as goal

pub returns-clause-server : goal.returns-clause-server
returns-clause-server g c =
    ignores_extended_headers (ServerSideAnswers g.A.SaslAcceptor.names g.A.SaslAcceptor.machine)

pub returns-clause-client : goal.returns-clause-client
returns-clause-client g c = λ (hostname : Option (List ℕ)). ignores_extended_headers (ClientSideAnswers hostname)
