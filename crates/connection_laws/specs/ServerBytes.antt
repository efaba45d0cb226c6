-- How many bytes a connection of a server of all mechanisms sends and holds, whatever its bytes are. The statement is the
-- contract of `server_logins::bounds`.
use Rattle.std.specs.Prelude.{◌+◌, ◌*◌, ℕ, List}
use Rattle.fe2o3_sasl_core.specs.ChallengeCounts.{one_if}
use Rattle.fe2o3_sasl_core.specs.Servers.{ServerAt, sasl_machine}
use Rattle.fe2o3_sasl_negotiation.specs.Connections.{fresh}
use Rattle.fe2o3_sasl_negotiation.specs.CostLaws.{Bounded}
use Rattle.fe2o3_sasl_negotiation.specs.Laws.{Call, Calls}
use Rattle.fe2o3_sasl_negotiation.specs.Negotiations.{Side}
use Rattle.fe2o3_sasl_negotiation.specs.ServerNegotiation.{ServerReceives}
use Rattle.connection_laws.specs.ServerHmacs.{offered_by_server}

-- a server sends its header, its mechanisms, one challenge and one outcome at most, and one frame more for each extra challenge
-- that it may send (RFC 4422, section 5), each frame of at most 512 bytes (AMQP 1.0, part 5, section 5.3.1). It holds less than
-- a header, or less than its limit of a frame
abbrev pub ServerConnectionsAreBounded : Type 0
ServerConnectionsAreBounded = (server : ServerAt) (limit : ℕ) (calls : List Call) (stream sent rest : List ℕ)
    (last : Side ServerAt)
    → Calls (ServerReceives offered_by_server sasl_machine) (fresh limit server) calls stream sent last rest
    → Bounded (8 + (one_if server.settings.extra.initial_response + one_if server.settings.extra.signature + 3) * 512) limit
    sent last
