-- What two divisions of one stream of bytes into calls have in common (AMQP 1.0, part 5, section 5.3.2). Each law is the
-- contract of a clause in `cuts`.
use Rattle.std.specs.Prelude.{◌≡◌, ◌≢◌, ◌⊎◌, ℕ, ◌+◌, ◌<◌, ◌^◌, Option, List, [], ◌∷◌, ◌++◌, length, take, drop, flat_map}
use Rattle.fe2o3_sasl_wire.specs.SaslFrames.{SaslFrame, IsBytes}
use Rattle.fe2o3_sasl_core.specs.AnyMechanismLaws.{Machine}
use Rattle.fe2o3_sasl_core.specs.Profiles.{Profile}
use Rattle.fe2o3_sasl_core.specs.Runs.{ProfileSteps}
use Rattle.fe2o3_sasl_negotiation.specs.declared.progress.Expected.{Expected}
use Rattle.fe2o3_sasl_negotiation.specs.declared.progress.Progress.TheVariants.{InProgress}
use Rattle.fe2o3_sasl_negotiation.specs.ClientNegotiation.{ClientSideAnswers}
use Rattle.fe2o3_sasl_negotiation.specs.Connections.{Piece, PieceNonceAt, ServerNegotiated, ClientNegotiated, ServerConnection, ClientConnection, fresh}
use Rattle.fe2o3_sasl_negotiation.specs.Framing.{sasl_header, framed}
use Rattle.fe2o3_sasl_negotiation.specs.Laws.{Call, Calls}
use Rattle.fe2o3_sasl_negotiation.specs.Negotiations.{Side, SideOutput, Receives}
use Rattle.fe2o3_sasl_negotiation.specs.ServerNegotiation.{ServerSideAnswers}

-- the machine has at most one reply to each frame, and one state after it
abbrev pub IsFunction : {S : Type 0} → Machine S → Type 0
IsFunction {S} machine = (state : S) (nonce : List ℕ) (frame reply other : SaslFrame) (next last : S)
    → machine state nonce frame reply next → machine state nonce frame other last → (reply ≡ other) × (next ≡ last)

-- byte number n of the stream, counted from 0, is the last byte of a frame: before it are the header of SASL, whole frames
-- and the other bytes of that frame (part 2, section 2.3.1)
abbrev pub EndsFrame : List ℕ → ℕ → Type 0
EndsFrame stream n = (bodies : List (List ℕ)) × (body : List ℕ) × (tail : List ℕ)
    × (stream ≡ sasl_header ++ (flat_map framed bodies ++ (framed body ++ tail)))
    × (n ≡ 8 + (length (flat_map framed bodies) + (length body + 3)))

-- the calls in which the last byte of a frame arrives have one nonce in both divisions of the stream
abbrev pub HaveOneNonceEach : List Piece → List Piece → List ℕ → Type 0
HaveOneNonceEach pieces others stream = (n : ℕ) (nonce other : List ℕ) → EndsFrame stream n → PieceNonceAt pieces n nonce
    → PieceNonceAt others n other → nonce ≡ other

-- two sides have sent the same bytes and have one progress: both wait, both have logged in, or both have closed for one
-- reason. Their machines have one state. While they wait, the sides are equal, also in the part of a frame that they hold
pub record EndEqually {S : Type 0} (sent out : List ℕ) (last end : Side S) : Type 0 where
  pub sends : sent ≡ out
  pub progress : last.progress ≡ end.progress
  pub state : last.state ≡ end.state
  pub waits : last.progress ≡ InProgress → last ≡ end

-- ---- after the other side's header

-- two connections of servers from one state over the same bytes, after the client's header, in any two divisions: they
-- answer the same frames by the same replies, and end equally. The size of a frame has 32 bits (part 2, section 2.3.1)
abbrev pub ServersNegotiateEqually : {S : Type 0} → Machine S → Type 0
ServersNegotiateEqually {S} machine = (limit : ℕ) (state : S) (pieces others : List Piece) (taken sent out : List ℕ)
    (last end : Side S) → limit < 2 ^ 32 → (first : ServerNegotiated machine limit state pieces taken sent last)
    (second : ServerNegotiated machine limit state others taken out end)
    → HaveOneNonceEach pieces others taken
    → (first.events ≡ second.events) × (first.replies ≡ second.replies) × EndEqually sent out last end

-- every two connections of a server whose machine is a function negotiate equally
abbrev pub FunctionsNegotiateEqually : {S : Type 0} → Machine S → Type 0
FunctionsNegotiateEqually machine = IsFunction machine → ServersNegotiateEqually machine

-- every two connections of clients from one state over the same bytes, after the server's header, negotiate equally
abbrev pub ClientsNegotiateEqually : Type 0
ClientsNegotiateEqually = (hostname : Option (List ℕ)) (limit : ℕ) (profile : Profile) (pieces others : List Piece)
    (taken sent out : List ℕ) (last end : Side Profile) → limit < 2 ^ 32
    → (first : ClientNegotiated (ProfileSteps hostname) limit profile pieces taken sent last)
    (second : ClientNegotiated (ProfileSteps hostname) limit profile others taken out end)
    → HaveOneNonceEach pieces others taken
    → (first.events ≡ second.events) × (first.replies ≡ second.replies) × EndEqually sent out last end

-- ---- from the first byte

-- two connections of servers from one fresh side over the same bytes, in any two divisions, end equally. The law
-- `server_connections` of `fe2o3_sasl_negotiation` says that calls make such connections
abbrev pub ServersEndEqually : {S : Type 0} → (S → List (List ℕ)) → Machine S → Type 0
ServersEndEqually {S} names machine = (limit : ℕ) (state : S) (pieces others : List Piece) (taken sent out : List ℕ)
    (last end : Side S) → limit < 2 ^ 32 → ServerConnection names machine limit state pieces taken sent last
    → ServerConnection names machine limit state others taken out end → HaveOneNonceEach pieces others taken
    → EndEqually sent out last end

-- every two connections of a server whose machine is a function end equally
abbrev pub FunctionsEndEqually : {S : Type 0} → (S → List (List ℕ)) → Machine S → Type 0
FunctionsEndEqually names machine = IsFunction machine → ServersEndEqually names machine

-- every two connections of clients end equally
abbrev pub ClientsEndEqually : Type 0
ClientsEndEqually = (hostname : Option (List ℕ)) (limit : ℕ) (profile : Profile) (pieces others : List Piece)
    (taken sent out : List ℕ) (last end : Side Profile) → limit < 2 ^ 32
    → ClientConnection (ProfileSteps hostname) limit profile pieces taken sent last
    → ClientConnection (ProfileSteps hostname) limit profile others taken out end → HaveOneNonceEach pieces others taken
    → EndEqually sent out last end

-- ---- of calls

-- calls over a stream, from this side on: what they send, how the side ends, and the bytes that they leave
pub record CallsOver {S : Type 0} (Answers : Expected → S → List ℕ → List ℕ → SideOutput → S → Type 0) (side : Side S)
    (stream : List ℕ) : Type 0 where
  pub calls : List Call
  pub sent : List ℕ
  pub last : Side S
  pub rest : List ℕ
  pub made : Calls (Receives Answers) side calls stream sent last rest

-- the bytes that each call took, with its nonce
abbrev pub taken_pieces : {S : Type 0} (Answers : Expected → S → List ℕ → List ℕ → SideOutput → S → Type 0) (side : Side S)
    (calls : List Call) (stream sent : List ℕ) (last : Side S) (rest : List ℕ)
    → Calls (Receives Answers) side calls stream sent last rest → List Piece
taken_pieces Answers side [] stream sent last rest made = []
taken_pieces Answers side (call ∷ calls) stream sent last rest (taken, first, next, later, receives, made, all) =
    record { bytes = take taken (take call.handed stream); nonce = call.nonce }
    ∷ taken_pieces Answers next calls (drop taken stream) later last rest made

-- the bytes that each of such calls took, with its nonce
abbrev pub pieces_of : {S : Type 0} (Answers : Expected → S → List ℕ → List ℕ → SideOutput → S → Type 0) (side : Side S)
    (stream : List ℕ) → CallsOver Answers side stream → List Piece
pieces_of Answers side stream over =
    taken_pieces Answers side over.calls stream over.sent over.last over.rest over.made

-- calls that were made until the side ended or the stream did
abbrev pub HaveFinished : {S : Type 0} {Answers : Expected → S → List ℕ → List ℕ → SideOutput → S → Type 0} {side : Side S}
    {stream : List ℕ} → CallsOver Answers side stream → Type 0
HaveFinished over = (over.last.progress ≢ InProgress) ⊎ (over.rest ≡ [])

-- what two lists of calls over one stream of bytes have in common, where the calls in which the last byte of a frame
-- arrives have one nonce
pub record HaveOneResult {S : Type 0} {Answers : Expected → S → List ℕ → List ℕ → SideOutput → S → Type 0} {side : Side S}
    {stream : List ℕ} (first second : CallsOver Answers side stream) : Type 0 where
  -- where both have finished, they leave the same rest of the stream and end equally
  pub finished : HaveFinished first → HaveFinished second
      → (first.rest ≡ second.rest) × EndEqually first.sent second.sent first.last second.last
  -- where they leave the same rest, they end equally, also while both wait for more
  pub same_rest : first.rest ≡ second.rest → EndEqually first.sent second.sent first.last second.last
  -- where one list leaves more than the other, its side waits for more
  pub waits : length second.rest < length first.rest → first.last.progress ≡ InProgress

-- any two lists of calls over one stream of bytes, in any two divisions
abbrev pub CallsEndEqually : {S : Type 0} → (Expected → S → List ℕ → List ℕ → SideOutput → S → Type 0) → S → Type 0
CallsEndEqually {S} Answers state = (limit : ℕ) (stream : List ℕ) → limit < 2 ^ 32 → IsBytes stream
    → (first second : CallsOver Answers (fresh limit state) stream)
    → HaveOneNonceEach (pieces_of Answers (fresh limit state) stream first)
    (pieces_of Answers (fresh limit state) stream second) stream
    → HaveOneResult first second

-- the calls of a server end equally, from each state
abbrev pub ServerCallsEndEqually : {S : Type 0} → (S → List (List ℕ)) → Machine S → Type 0
ServerCallsEndEqually {S} names machine = (state : S) → CallsEndEqually (ServerSideAnswers names machine) state

-- the calls of every server whose machine is a function end equally
abbrev pub FunctionCallsEndEqually : {S : Type 0} → (S → List (List ℕ)) → Machine S → Type 0
FunctionCallsEndEqually names machine = IsFunction machine → ServerCallsEndEqually names machine

-- the calls of a client end equally
abbrev pub ClientCallsEndEqually : Type 0
ClientCallsEndEqually = (hostname : Option (List ℕ)) (profile : Profile)
    → CallsEndEqually (ClientSideAnswers hostname) profile
