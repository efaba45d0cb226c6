-- A connection of a server of all mechanisms sends few challenges: `server_connections_are_bounded`.
use Rattle.std.proofs.Common.{arith}
use Rattle.fe2o3_sasl_core.proofs.lemmas.machines.ChallengeCountLemmas.{servers_are_bounded}
use Rattle.fe2o3_sasl_core.specs.ChallengeCounts.{challenges_left, challenges_most}
use Rattle.fe2o3_sasl_core.specs.Servers.{sasl_machine}
use Rattle.fe2o3_sasl_negotiation.proofs.lemmas.ServerBoundLemmas.{servers_of_are_bounded}
use Rattle.connection_laws.specs.ServerBytes.{ServerConnectionsAreBounded}
use Rattle.connection_laws.specs.ServerHmacs.{offered_by_server}

pub server_connections_are_bounded : ServerConnectionsAreBounded
server_connections_are_bounded server limit calls stream sent rest last made =
    let whole = servers_of_are_bounded offered_by_server sasl_machine challenges_left challenges_most servers_are_bounded server
    limit calls stream sent rest last made in
    let few = whole.0 in
    (omega (arith, few), whole.1)
