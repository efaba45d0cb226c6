-- The calls over a stream make a connection of the pieces that they took.
use Rattle.std.proofs.Common.{ℕ, List, [], refl}
use Rattle.fe2o3_sasl_core.specs.AnyMechanismLaws.{Machine}
use Rattle.fe2o3_sasl_core.specs.Runs.{ProfileSteps}
use Rattle.fe2o3_sasl_negotiation.specs.ClientNegotiation.{ClientSideAnswers}
use Rattle.fe2o3_sasl_negotiation.specs.Connections.{ClientConnection, ServerConnection, fresh}
use Rattle.fe2o3_sasl_negotiation.specs.ServerNegotiation.{ServerSideAnswers}
use Rattle.fe2o3_sasl_negotiation.proofs.lemmas.ClientConnectionLemmas.{client_call, client_fresh}
use Rattle.fe2o3_sasl_negotiation.proofs.lemmas.ServerConnectionLemmas.{server_call, server_fresh}
use Rattle.connection_laws.specs.CallPieces.{ClientCallsConnect, ServerCallsConnect}
use Rattle.connection_laws.specs.Cuts.{pieces_of}
use Rattle.connection_laws.proofs.lemmas.CutCallLemmas.{covers, in_calls}

pub server_calls_connect : {S : Type 0} (names : S → List (List ℕ)) (machine : Machine S)
    → ServerCallsConnect names machine
server_calls_connect names machine limit state stream over are_bytes =
    let pieces = pieces_of (ServerSideAnswers names machine) (fresh limit state) stream over in (
      covers (ServerSideAnswers names machine) (fresh limit state) over.calls stream over.sent over.last over.rest over.made,
      in_calls (ServerSideAnswers names machine) pieces
          (λ taken sent side. ServerConnection names machine limit state pieces taken sent side)
          (λ taken out side next bytes nonce more k is fine known receives.
          server_call names machine limit state pieces taken out side next bytes nonce more k is fine known receives)
          over.calls [] (fresh limit state) over.last stream [] over.sent over.rest over.made refl
          (server_fresh names machine limit state pieces) are_bytes,
    )

pub client_calls_connect : ClientCallsConnect
client_calls_connect hostname limit profile stream over are_bytes =
    let pieces = pieces_of (ClientSideAnswers hostname) (fresh limit profile) stream over in (
      covers (ClientSideAnswers hostname) (fresh limit profile) over.calls stream over.sent over.last over.rest over.made,
      in_calls (ClientSideAnswers hostname) pieces
          (λ taken sent side. ClientConnection (ProfileSteps hostname) limit profile pieces taken sent side)
          (λ taken out side next bytes nonce more k is fine known receives.
          client_call hostname limit profile pieces taken out side next bytes nonce more k is fine known receives)
          over.calls [] (fresh limit profile) over.last stream [] over.sent over.rest over.made refl
          (client_fresh hostname limit profile pieces) are_bytes,
    )
