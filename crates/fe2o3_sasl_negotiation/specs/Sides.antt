-- The sides of a connection that the code's values are.
use Rattle.std.specs.Prelude.{Bool, Option, option_map, string_bytes, List, ℕ}
use Rattle.fe2o3_sasl_negotiation.specs.declared.client.ClientEndpoint.{ClientEndpoint}
use Rattle.fe2o3_sasl_negotiation.specs.declared.client.ClientRole.{ClientRole}
use Rattle.fe2o3_sasl_negotiation.specs.declared.server.ServerRole.{ServerRole}
use Rattle.fe2o3_sasl_negotiation.specs.declared.side.ConnectionSide.{ConnectionSide}
use Rattle.fe2o3_sasl_negotiation.specs.declared.side.Role.{Ghosts}
use Rattle.fe2o3_sasl_core.specs.Profiles.{Profile}
use Rattle.fe2o3_sasl_core.specs.SaslProfile.{profile_of}
use Rattle.fe2o3_sasl_negotiation.specs.Negotiations.{Side}
use Rattle.fe2o3_sasl_negotiation.specs.Snapshot.{server_fits, client_fits}

-- the endpoint that answers for a side
abbrev pub endpoint_in : {E R : Type 0} {role : Ghosts R} → ConnectionSide E R role → E
endpoint_in side = side.endpoint

-- whether a side accepts extended headers
abbrev pub extended_in : {E R : Type 0} {role : Ghosts R} → ConnectionSide E R role → Bool
extended_in side = side.extended_headers

-- the side that a value is, by the state of its endpoint
abbrev pub connection_side : {E R S : Type 0} {role : Ghosts R} → (E → S) → ConnectionSide E R role → Side S
connection_side state side = record {
  progress = side.progress;
  expected = side.expected;
  limit = side.limit;
  held = side.held.items;
  state = state side.endpoint;
}

-- the type of `ServerNegotiation`; the next one is that of `ClientNegotiation`
abbrev pub ServerConnectionSide : Type 0 → Type 0
ServerConnectionSide A = ConnectionSide A ServerRole (record { fits = server_fits })

abbrev pub ClientConnectionSide : Type 0
ClientConnectionSide = ConnectionSide ClientEndpoint ClientRole (record { fits = client_fits })

-- the acceptor that a server logs in by
abbrev pub acceptor_in : {A : Type 0} → ServerConnectionSide A → A
acceptor_in server = endpoint_in server

-- the side that a server is, by the state of its acceptor
abbrev pub server_side : {A S : Type 0} → (A → S) → ServerConnectionSide A → Side S
server_side state server = connection_side state server

-- the profile that a client logs in by, and the hostname that its init carries, if any
abbrev pub endpoint_profile : ClientEndpoint → Profile
endpoint_profile client = profile_of client.profile

abbrev pub endpoint_hostname : ClientEndpoint → Option (List ℕ)
endpoint_hostname client = option_map string_bytes client.hostname

abbrev pub hostname_in : ClientConnectionSide → Option (List ℕ)
hostname_in client = endpoint_hostname (endpoint_in client)

-- the side that a client is, by the profile that its value is
abbrev pub client_side : ClientConnectionSide → Side Profile
client_side client = connection_side endpoint_profile client
