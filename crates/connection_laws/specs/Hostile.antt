-- Connections that do not exist. Each definition is what a wrong implementation would do, or what a weak reading of the
-- laws of connections would allow (AMQP 1.0, part 5, section 5.3.2). `hostile::no_server_misbehaves` states that there
-- are none.
use Rattle.std.specs.Prelude.{◌≡◌, ◌≢◌, ℕ, ◌+◌, ◌<◌, ◌≤◌, ◌^◌, true, Option, Some, None, List, [], ◌∷◌, ◌++◌, length, flat_map, Ok}
use Rattle.std.specs.List.{AllByRecursion}
use Rattle.fe2o3_sasl_wire.specs.SaslFrames as frames
use Rattle.fe2o3_sasl_core.specs.declared.any_mechanism.Selected.{Selected}
use Rattle.fe2o3_sasl_core.specs.Bodies.{SpellsBody}
use Rattle.fe2o3_sasl_core.specs.Events.{Given, ServerSays, Challenged, Concluded, Failed}
use Rattle.fe2o3_sasl_core.specs.AnyMechanism.{BothStates, both_names, has_name}
use Rattle.fe2o3_sasl_core.specs.AnyMechanismLaws.{Machine, Splits}
use Rattle.fe2o3_sasl_negotiation.specs.declared.progress.FrameKind.{FrameKind}
use Rattle.fe2o3_sasl_negotiation.specs.declared.progress.FrameKind.TheVariants as turns
use Rattle.fe2o3_sasl_negotiation.specs.Connections.{Piece, PieceNonceAt, SpellsTurn, AreFrames, ServerNegotiated, ServerConnection}
use Rattle.fe2o3_sasl_negotiation.specs.Framing.{sasl_header, framed, Fits}
use Rattle.fe2o3_sasl_negotiation.specs.Negotiations.{Side}
use Rattle.fe2o3_sasl_negotiation.specs.ServerNegotiation.{offer_body}

-- a server's negotiation over the client's header and these bytes. A frame's size has 32 bits (part 2, section 2.3.1)
pub record ServedOver {S : Type 0} (machine : Machine S) (bytes : List ℕ) : Type 0 where
  pub limit : ℕ
  pub state : S
  pub pieces : List Piece
  pub sent : List ℕ
  pub last : Side S
  pub small : limit < 2 ^ 32
  pub negotiated : ServerNegotiated machine limit state pieces (sasl_header ++ bytes) sent last

-- ---- which frames are answered

-- a whole init in turn and of an allowed size arrives, and no frame is answered: a server that ignores what it receives
abbrev pub IgnoresInit : {S : Type 0} → Machine S → Type 0
IgnoresInit machine = (body : List ℕ) × (more : List ℕ) × (served : ServedOver machine (framed body ++ more))
    × Fits served.limit (length body + 4) × SpellsTurn turns.Init body × (served.negotiated.events ≡ [])

-- an init is answered by a challenge, a whole response in turn and of an allowed size arrives after it, and only the init
-- is answered: a server that ignores what it receives
abbrev pub IgnoresResponse : {S : Type 0} → Machine S → Type 0
IgnoresResponse machine = (init : List ℕ) × (body : List ℕ) × (more : List ℕ) × (challenge : List ℕ) × (event : Given)
    × (served : ServedOver machine (framed init ++ (framed body ++ more))) × Fits served.limit (length init + 4)
    × Fits served.limit (length body + 4) × SpellsTurn turns.Response body × (served.negotiated.events ≡ event ∷ [])
    × (served.negotiated.replies ≡ Challenged challenge ∷ []) × (length challenge + 4 ≤ 512)

-- a frame arrives first, and the first answered body is another: a server that answers what was not sent
abbrev pub AnswersOther : {S : Type 0} → Machine S → Type 0
AnswersOther machine = (body : List ℕ) × (more : List ℕ) × (event : Given) × (events : List Given)
    × (served : ServedOver machine (framed body ++ more)) × Fits served.limit (length body + 4)
    × (served.negotiated.events ≡ event ∷ events) × (event.body ≢ body)

-- only the header arrives, and a frame is answered: a server that answers before it was asked
abbrev pub AnswersHeader : {S : Type 0} → Machine S → Type 0
AnswersHeader machine = (served : ServedOver machine []) × (served.negotiated.events ≢ [])

-- an answered frame has a body of less than 4 bytes: a reading in which an empty body is a frame
abbrev pub HasShortFrame : Type 0
HasShortFrame = (pieces : List Piece) × (limit : ℕ) × (at : ℕ) × (follows : FrameKind → FrameKind) × (turn : FrameKind)
    × (event : Given) × (events : List Given) × AreFrames pieces limit at follows turn (event ∷ events)
    × (length event.body < 4)

-- ---- where frames go

-- the first frame is an init of a mechanism that a server of two acceptors offers, and no frame went to either acceptor: a
-- reading in which the server rejects everything
abbrev pub MarksNothing : {S T : Type 0} → (S → List (List ℕ)) → (T → List (List ℕ)) → Machine S → Machine T → Type 0
MarksNothing {S} {T} names others machine other = (parts : BothStates S T) × (last : BothStates S T) × (event : Given)
    × (events : List Given) × (replies : List ServerSays) × (marks : List (Option Selected)) × (mechanism : List ℕ)
    × (response : Option (List ℕ)) × (hostname : Option (List ℕ))
    × Splits names others machine other parts (event ∷ events) replies last marks
    × SpellsBody event.body (Ok (frames.Init mechanism response hostname))
    × (has_name (both_names (names parts.first) (others parts.second)) mechanism ≡ true)
    × AllByRecursion (λ mark. mark ≡ None) marks

-- ---- which nonces are used

-- one byte of a stream has two nonces: a reading in which any nonce of the connection serves
abbrev pub HasTwoNonces : Type 0
HasTwoNonces = (pieces : List Piece) × (n : ℕ) × (nonce : List ℕ) × (other : List ℕ) × PieceNonceAt pieces n nonce
    × PieceNonceAt pieces n other × (nonce ≢ other)

-- the last bytes of an init and of a response arrive with two nonces, and both frames are answered with one: a server that
-- keeps the nonce of its first call
abbrev pub ReusesNonce : {S : Type 0} → Machine S → Type 0
ReusesNonce machine = (bytes : List ℕ) × (served : ServedOver machine bytes) × (first : Given) × (second : Given)
    × (nonce : List ℕ) × (other : List ℕ) × (served.negotiated.events ≡ first ∷ second ∷ [])
    × PieceNonceAt served.pieces (8 + (length first.body + 3)) nonce
    × PieceNonceAt served.pieces (8 + (length first.body + 4) + (length second.body + 3)) other × (nonce ≢ other)
    × (first.nonce ≡ second.nonce)

-- ---- what is sent

-- a whole header arrives, the list of mechanisms fits in a frame, and what is sent does not begin with the server's header
-- and that list: a server that is silent, or offers nothing
abbrev pub HidesOffer : {S : Type 0} → (S → List (List ℕ)) → Machine S → Type 0
HidesOffer {S} names machine = (limit : ℕ) × (state : S) × (pieces : List Piece) × (bytes : List ℕ) × (sent : List ℕ)
    × (last : Side S) × (offer : List ℕ)
    × ServerConnection names machine limit state pieces (sasl_header ++ bytes) sent last
    × (offer_body (names state) ≡ Some offer) × (length offer + 4 ≤ 512)
    × ((more : List ℕ) → sent ≢ sasl_header ++ (framed offer ++ more))

-- only the header arrives, and more than the server's header and its list of mechanisms is sent: a server that challenges
-- a client before its init
abbrev pub SendsBeyondOffer : {S : Type 0} → (S → List (List ℕ)) → Machine S → Type 0
SendsBeyondOffer {S} names machine = (limit : ℕ) × (state : S) × (pieces : List Piece) × (sent : List ℕ)
    × (last : Side S) × (offer : List ℕ) × (more : List ℕ)
    × ServerConnection names machine limit state pieces sasl_header sent last
    × (offer_body (names state) ≡ Some offer) × (sent ≡ sasl_header ++ (framed offer ++ more)) × (more ≢ [])

-- the bodies of a server's replies, in order. An error has none
abbrev pub said : List ServerSays → List (List ℕ)
said [] = []
said (Challenged body ∷ replies) = body ∷ said replies
said (Concluded code body ∷ replies) = body ∷ said replies
said (Failed fault ∷ replies) = said replies

-- each reply fits in a frame, and what is sent is not exactly the frames of the replies: a server that sends a reply
-- twice, not at all, or what it never said
abbrev pub SendsOther : {S : Type 0} → Machine S → Type 0
SendsOther machine = (bytes : List ℕ) × (served : ServedOver machine bytes)
    × AllByRecursion (λ body. length body + 4 ≤ 512) (said served.negotiated.replies)
    × (served.sent ≢ flat_map framed (said served.negotiated.replies))
