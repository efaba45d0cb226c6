-- In which call each byte of a connection arrived (AMQP 1.0, part 5, section 5.3.2). Each law is the contract of a clause of
-- `cuts::call_pieces`.
use Rattle.std.specs.Prelude.{◌≡◌, ◌++◌, ℕ, Option, List}
use Rattle.fe2o3_sasl_wire.specs.SaslFrames.{IsBytes}
use Rattle.fe2o3_sasl_core.specs.AnyMechanismLaws.{Machine}
use Rattle.fe2o3_sasl_core.specs.Profiles.{Profile}
use Rattle.fe2o3_sasl_core.specs.Runs.{ProfileSteps}
use Rattle.fe2o3_sasl_negotiation.specs.ClientNegotiation.{ClientSideAnswers}
use Rattle.fe2o3_sasl_negotiation.specs.Connections.{ClientConnection, ServerConnection, bytes_of, fresh}
use Rattle.fe2o3_sasl_negotiation.specs.ServerNegotiation.{ServerSideAnswers}
use Rattle.connection_laws.specs.Cuts.{CallsOver, pieces_of}

-- the calls of a server over a stream make a connection whose pieces are the bytes that each call took, with its nonce. So each
-- frame has the nonce of the call in which its last byte arrived (`AreFrames`)
abbrev pub ServerCallsConnect : {S : Type 0} → (S → List (List ℕ)) → Machine S → Type 0
ServerCallsConnect {S} names machine = (limit : ℕ) (state : S) (stream : List ℕ)
    (over : CallsOver (ServerSideAnswers names machine) (fresh limit state) stream) → IsBytes stream
    → let pieces = pieces_of (ServerSideAnswers names machine) (fresh limit state) stream over in
    (stream ≡ bytes_of pieces ++ over.rest)
    × ServerConnection names machine limit state pieces (bytes_of pieces) over.sent over.last

-- and so do the calls of a client
abbrev pub ClientCallsConnect : Type 0
ClientCallsConnect = (hostname : Option (List ℕ)) (limit : ℕ) (profile : Profile) (stream : List ℕ)
    (over : CallsOver (ClientSideAnswers hostname) (fresh limit profile) stream) → IsBytes stream
    → let pieces = pieces_of (ClientSideAnswers hostname) (fresh limit profile) stream over in
    (stream ≡ bytes_of pieces ++ over.rest)
    × ClientConnection (ProfileSteps hostname) limit profile pieces (bytes_of pieces) over.sent over.last
