-- What a side of a connection does with the bytes that arrive, in any pieces (AMQP 1.0, part 5, section 5.3.2). Each
-- law is the contract of a clause of `laws::server_connections` or of `laws::client_connections`.
use Rattle.std.specs.Prelude.{◌≡◌, ◌≢◌, ◌⊎◌, ◌↔◌, ℕ, ◌+◌, ◌<◌, ◌≤◌, Option, Some, List, [], ◌∷◌, ◌++◌, length, replicate, flat_map, slice_get, Result, Ok, Err}
use Rattle.fe2o3_sasl_wire.specs.declared.amqp_types.SaslCode.TheVariants as outcomes
use Rattle.fe2o3_sasl_wire.specs.declared.sasl_frames.error.Error.{Error}
use Rattle.fe2o3_sasl_wire.specs.SaslFrames.{SaslFrame, IsBytes}
use Rattle.fe2o3_sasl_core.specs.Bodies.{SpellsBody}
use Rattle.fe2o3_sasl_core.specs.Events.{Given, ServerSays, Concluded, ClientSays, Reported}
use Rattle.fe2o3_sasl_core.specs.Profiles.{Profile, accepts_signature_by_challenge}
use Rattle.fe2o3_sasl_core.specs.Runs.{Runs, AcceptorSteps}
use Rattle.fe2o3_sasl_negotiation.specs.declared.progress.CloseReason.{CloseReason}
use Rattle.fe2o3_sasl_negotiation.specs.declared.progress.CloseReason.TheVariants.{FrameSize, ProtocolHeaderMismatch, UnexpectedFrame, ReplyTooLarge, MalformedFrame}
use Rattle.fe2o3_sasl_negotiation.specs.declared.progress.Expected.TheVariants.{Header, Frame}
use Rattle.fe2o3_sasl_negotiation.specs.declared.progress.Progress.{Progress}
use Rattle.fe2o3_sasl_negotiation.specs.declared.progress.Progress.TheVariants.{InProgress, Authenticated, Failed}
use Rattle.fe2o3_sasl_negotiation.specs.declared.progress.FrameKind.{FrameKind}
use Rattle.fe2o3_sasl_negotiation.specs.declared.progress.FrameKind.TheVariants as turns
use Rattle.fe2o3_sasl_negotiation.specs.ClientNegotiation as of_client
use Rattle.fe2o3_sasl_negotiation.specs.Framing.{sasl_header, framed, size_of, Fits, IsPart}
use Rattle.fe2o3_sasl_negotiation.specs.Laws.{Call, Calls}
use Rattle.fe2o3_sasl_negotiation.specs.Negotiations.{Side, SideOutput, IsInTurn, Receiving}
use Rattle.fe2o3_sasl_negotiation.specs.ServerNegotiation.{offer_body}
use Rattle.fe2o3_sasl_negotiation.specs.ServerNegotiation as of_server

-- ---- the bytes that arrive

-- some bytes of a stream, and a nonce
pub record Piece : Type 0 where
  pub bytes : List ℕ
  pub nonce : List ℕ

-- all bytes of these pieces, in order
abbrev pub bytes_of : List Piece → List ℕ
bytes_of pieces = flat_map (λ (piece : Piece). piece.bytes) pieces

-- the nonce of the piece in which byte number n arrives, counted from 0
abbrev pub PieceNonceAt : List Piece → ℕ → List ℕ → Type 0
PieceNonceAt pieces n nonce =
    slice_get (flat_map (λ (piece : Piece). replicate (length piece.bytes) piece.nonce) pieces) n ≡ Some nonce

-- the frames of these bodies, one after the other (part 2, section 2.3.1)
abbrev pub frames_of : List Given → List ℕ
frames_of events = flat_map (λ (event : Given). framed event.body) events

-- the body spells a frame of this turn
abbrev pub SpellsTurn : FrameKind → List ℕ → Type 0
SpellsTurn turn body = (frame : SaslFrame) × SpellsBody body (Ok frame) × IsInTurn turn frame

-- bodies of frames, in order, the first of this turn and after `at` bytes of the stream, and each later one of the turn
-- that follows: each frame has an allowed size and is of its turn, and its nonce is that of the piece in which its last
-- byte arrives
abbrev pub AreFrames : List Piece → ℕ → ℕ → (FrameKind → FrameKind) → FrameKind → List Given → Type 0
AreFrames pieces limit at follows turn [] = Unit {0}
AreFrames pieces limit at follows turn (event ∷ events) = let size = length event.body + 4 in
    Fits limit size × SpellsTurn turn event.body × PieceNonceAt pieces (at + (length event.body + 3)) event.nonce
    × AreFrames pieces limit (at + size) follows (follows turn) events

-- why a body is not answered where a frame of this turn is expected: it is malformed, or its frame is out of turn
abbrev pub Unanswered : FrameKind → Result SaslFrame Error → CloseReason → Type 0
Unanswered turn (Err fault) why = why ≡ MalformedFrame fault
Unanswered turn (Ok frame) why = ¬ IsInTurn turn frame × (why ≡ UnexpectedFrame)

-- bytes after the last answered frame, where one of this turn is expected: the side waits while they are a part of a
-- frame, and closes at a size that is not allowed, and at a whole frame that is not answered
abbrev pub LeftOver : FrameKind → ℕ → List ℕ → Progress → Type 0
LeftOver turn limit tail progress =
    (IsPart (Frame turn) limit tail × (progress ≡ InProgress))
    ⊎ ((length tail ≡ 4) × ¬ Fits limit (size_of tail) × (progress ≡ Failed FrameSize))
    ⊎ ((body : List ℕ) × (spelled : Result SaslFrame Error) × (why : CloseReason) × (tail ≡ framed body)
    × Fits limit (length body + 4) × SpellsBody body spelled × Unanswered turn spelled why × (progress ≡ Failed why))

-- ---- what is sent

-- what a side sends with these replies, the first in this turn, and each later one in the turn that follows, and how the
-- last reply leaves it. `Says` gives that for one reply. Before the first reply the side waits for a frame of this turn,
-- and every reply but the last is sent and leaves it waiting
abbrev pub Replied : {A : Type 0} → (A → FrameKind → SideOutput → Type 0) → (FrameKind → FrameKind) → FrameKind → List A
    → SideOutput → Type 0
Replied Says follows turn [] answer = answer ≡ record { sent = []; progress = InProgress; expected = Frame turn }
Replied Says follows turn (says ∷ []) answer = Says says turn answer
Replied Says follows turn (says ∷ next ∷ replies) answer =
    (first : SideOutput) × (rest : SideOutput) × Says says turn first × (first.progress ≡ InProgress)
    × Replied Says follows (follows turn) (next ∷ replies) rest × (answer ≡ record rest { sent = first.sent ++ rest.sent })

-- a side after the header of the other side, over all bytes that it has taken: every frame up to the one that ended the
-- negotiation is answered, in a run over the bodies. The first frame is of this turn, and `follows` has the turn after
-- each
pub record Negotiated {S A : Type 0} (Steps : S → Given → A → S → Type 0) (Says : A → FrameKind → SideOutput → Type 0)
    (follows : FrameKind → FrameKind) (turn : FrameKind) (limit : ℕ) (state : S) (pieces : List Piece)
    (taken sent : List ℕ) (last : Side S) : Type 0
  where
    pub events : List Given
    pub replies : List A
    pub answer : SideOutput
    pub tail : List ℕ
    pub carried : taken ≡ sasl_header ++ (frames_of events ++ tail)
    pub frames : AreFrames pieces limit 8 follows turn events
    pub run : Runs Steps state events replies last.state
    pub replied : Replied Says follows turn replies answer
    pub sends : sent ≡ answer.sent
    -- the last reply leaves the side waiting for a frame, or has ended it, and then nothing after that frame is taken
    pub ends : ((next : FrameKind) × (answer.progress ≡ InProgress) × (answer.expected ≡ Frame next)
        × LeftOver next limit tail last.progress)
        ⊎ ((answer.progress ≢ InProgress) × (last.progress ≡ answer.progress) × (tail ≡ []))
    -- while the side waits it holds the part of a frame that has arrived
    pub waits : last.progress ≡ InProgress → last
        ≡ record { progress = InProgress; expected = answer.expected; limit = limit; held = tail; state = last.state }

-- a server after the client's header: an init is expected, and after each challenge a response
abbrev pub ServerNegotiated : {S : Type 0} → (S → List ℕ → SaslFrame → SaslFrame → S → Type 0) → ℕ → S → List Piece
    → List ℕ → List ℕ → Side S → Type 0
ServerNegotiated machine limit state pieces taken sent last =
    Negotiated (AcceptorSteps machine) of_server.ServerOutputs of_server.server_follows turns.Init limit state pieces taken
    sent last

-- a client after the server's header: a list of mechanisms is expected, then a challenge or at once an outcome, and
-- after the answer to a challenge an outcome. Before that outcome a client that accepts it may receive the server's
-- signature in a challenge
abbrev pub ClientNegotiated : (Profile → Given → ClientSays → Profile → Type 0) → ℕ → Profile → List Piece → List ℕ
    → List ℕ → Side Profile → Type 0
ClientNegotiated Steps limit profile pieces taken sent last =
    Negotiated Steps (of_client.ClientOutputs (accepts_signature_by_challenge profile))
    (of_client.client_follows (accepts_signature_by_challenge profile)) turns.Mechanisms limit profile pieces taken sent
    last

-- ---- from the first byte

-- a side before its first byte
abbrev pub fresh : {S : Type 0} → ℕ → S → Side S
fresh limit state = record { progress = InProgress; expected = Header; limit = limit; held = []; state = state }

-- less than a header has arrived, and is held (part 2, section 2.2)
abbrev pub IsHeaderPart : {S : Type 0} → ℕ → S → List ℕ → List ℕ → Side S → Type 0
IsHeaderPart limit state taken sent last = (length taken < 8) × (sent ≡ []) × (last ≡ record (fresh limit state) { held = taken })

-- the side has closed at a header of another protocol or version
abbrev pub IsOtherHeader : {S : Type 0} → S → List ℕ → Side S → Type 0
IsOtherHeader state taken last = (length taken ≡ 8) × (taken ≢ sasl_header)
    × (last.progress ≡ Failed (ProtocolHeaderMismatch taken)) × (last.state ≡ state)

-- the list of mechanisms does not fit in a frame of 512 bytes
abbrev pub OffersNone : List (List ℕ) → Type 0
OffersNone names = (body : List ℕ) → offer_body names ≡ Some body → 512 < length body + 4

-- a server's side, from a new one of this limit whose acceptor has these names and this machine and is in this state:
-- it has taken these bytes, which arrived in these pieces, and sent these. It answers the header of SASL by its own and
-- its mechanisms, and another by its own
abbrev pub ServerConnection : {S : Type 0} → (S → List (List ℕ)) → (S → List ℕ → SaslFrame → SaslFrame → S → Type 0)
    → ℕ → S → List Piece → List ℕ → List ℕ → Side S → Type 0
ServerConnection names machine limit state pieces taken sent last =
    IsHeaderPart limit state taken sent last
    ⊎ (IsOtherHeader state taken last × (sent ≡ sasl_header))
    ⊎ ((taken ≡ sasl_header) × OffersNone (names state) × (sent ≡ sasl_header)
    × (last.progress ≡ Failed ReplyTooLarge) × (last.state ≡ state))
    ⊎ ((offer : List ℕ) × (out : List ℕ) × (offer_body (names state) ≡ Some offer) × (length offer + 4 ≤ 512)
    × (sent ≡ sasl_header ++ (framed offer ++ out)) × ServerNegotiated machine limit state pieces taken out last)

-- a client's side, from a new one whose profile takes these steps and is in this state: what it sends follows its own
-- header, and nothing is sent for the server's
abbrev pub ClientConnection : (Profile → Given → ClientSays → Profile → Type 0) → ℕ → Profile → List Piece → List ℕ
    → List ℕ → Side Profile → Type 0
ClientConnection Steps limit profile pieces taken sent last =
    IsHeaderPart limit profile taken sent last
    ⊎ (IsOtherHeader profile taken last × (sent ≡ []))
    ⊎ ClientNegotiated Steps limit profile pieces taken sent last

-- ---- the laws

-- the pieces that calls take: each at most as long as what its call was passed, with the nonce of that call
abbrev pub ArePieces : List Call → List Piece → Type 0
ArePieces [] [] = Unit {0}
ArePieces (call ∷ calls) (piece ∷ pieces) =
    (length piece.bytes ≤ call.handed) × (piece.nonce ≡ call.nonce) × ArePieces calls pieces
ArePieces calls pieces = ⊥

-- every server, of any acceptor, limit, calls and bytes. The contract of `ServerNegotiation::receive` says what one
-- call does
abbrev pub ServersConnect : {S : Type 0} → (S → List (List ℕ)) → (S → List ℕ → SaslFrame → SaslFrame → S → Type 0)
    → Receiving S → Type 0
ServersConnect {S} names machine OneCall = (limit : ℕ) (state : S) (calls : List Call) (stream sent rest : List ℕ)
    (last : Side S) → IsBytes stream
    → Calls OneCall (fresh limit state) calls stream sent last rest
    → (pieces : List Piece) × ArePieces calls pieces × (stream ≡ bytes_of pieces ++ rest)
    × ServerConnection names machine limit state pieces (bytes_of pieces) sent last

-- every client, of any profile, hostname, limit, calls and bytes. The contract of `ClientNegotiation::receive` says
-- what one call does
abbrev pub ClientsConnect : (Option (List ℕ) → Profile → Given → ClientSays → Profile → Type 0)
    → (Option (List ℕ) → Receiving Profile) → Type 0
ClientsConnect Steps OneCall = (hostname : Option (List ℕ)) (limit : ℕ) (profile : Profile) (calls : List Call)
    (stream sent rest : List ℕ) (last : Side Profile) → IsBytes stream
    → Calls (OneCall hostname) (fresh limit profile) calls stream sent last rest
    → (pieces : List Piece) × ArePieces calls pieces × (stream ≡ bytes_of pieces ++ rest)
    × ClientConnection (Steps hostname) limit profile pieces (bytes_of pieces) sent last

-- this holds of the last of the replies
abbrev pub LastReply : {A : Type 0} → (A → Type 0) → List A → Type 0
LastReply Is [] = ⊥
LastReply Is (says ∷ []) = Is says
LastReply Is (says ∷ next ∷ replies) = LastReply Is (next ∷ replies)

-- a server's reply is an outcome Ok, in a frame of at most 512 bytes (part 5, section 5.3.1)
abbrev pub IsOkSent : ServerSays → Type 0
IsOkSent says = (body : List ℕ) × (says ≡ Concluded outcomes.Ok body) × (length body + 4 ≤ 512)

-- a client's reply is an outcome Ok that it reports
abbrev pub IsOkReported : ClientSays → Type 0
IsOkReported says = (more : Option (List ℕ)) × (says ≡ Reported outcomes.Ok more)

-- a server has logged its client in exactly if its last reply is an Ok that it sent
abbrev pub ServerConnectionsLogIn : {S : Type 0} → (S → List ℕ → SaslFrame → SaslFrame → S → Type 0) → Type 0
ServerConnectionsLogIn {S} machine = (limit : ℕ) (state : S) (pieces : List Piece) (taken sent : List ℕ) (last : Side S)
    (negotiated : ServerNegotiated machine limit state pieces taken sent last)
    → (last.progress ≡ Authenticated) ↔ LastReply IsOkSent negotiated.replies

-- a client has logged in exactly if its last reply reports an Ok
abbrev pub ClientConnectionsLogIn : (Option (List ℕ) → Profile → Given → ClientSays → Profile → Type 0) → Type 0
ClientConnectionsLogIn Steps = (hostname : Option (List ℕ)) (limit : ℕ) (profile : Profile) (pieces : List Piece)
    (taken sent : List ℕ) (last : Side Profile)
    (negotiated : ClientNegotiated (Steps hostname) limit profile pieces taken sent last)
    → (last.progress ≡ Authenticated) ↔ LastReply IsOkReported negotiated.replies
