-- The user name that a frame claims to a server (RFC 5802, section 7; RFC 4616, section 2).
use Rattle.std.proofs.Common.{arith, ap, Bool, refl, sym, inl, inr, ◌∙◌, ◌≡◌, ◌≢◌, ℕ, List}
use Rattle.std.specs.Prelude.{IfOk, MatchOption, Option, Some, Result, Ok, Err}
use Rattle.fe2o3_sasl_wire.specs.declared.sasl_frames.error.Error.{Error}
use Rattle.fe2o3_sasl_wire.specs.SaslFrames as frames
use Rattle.fe2o3_sasl_wire.specs.SaslFrames.{SaslFrame, ReadsBody}
use Rattle.fe2o3_scram.specs.declared.channel_binding.ChannelKind.TheVariants.{TlsUnique, TlsServerEndPoint, TlsExporter}
use Rattle.fe2o3_scram.specs.declared.scram_messages.channel_binding_flag.ChannelBindingFlag.{ChannelBindingFlag}
use Rattle.fe2o3_scram.specs.declared.scram_messages.channel_binding_flag.ChannelBindingFlag.TheVariants.{NotSupported, ClientSupports, Required}
use Rattle.fe2o3_scram.specs.ServerFirst.{ServerChallenge}
use Rattle.fe2o3_scram.specs.Readings.{IsFirst}
use Rattle.fe2o3_sasl_core.specs.Mechanisms.{mechanism_symbol}
use Rattle.fe2o3_sasl_core.specs.LoginAttempts.{ClaimAllocates, ClaimIn, ClaimsUser}
use Rattle.fe2o3_sasl_core.specs.declared.mechanism.Mechanism.{Mechanism}
use Rattle.fe2o3_sasl_negotiation.specs.declared.snapshot.Snapshot.{Snapshot}
use Rattle.fe2o3_sasl_negotiation.specs.declared.progress.Expected.{Expected}
use Rattle.fe2o3_sasl_negotiation.specs.declared.progress.Expected.TheVariants.{Frame}
use Rattle.fe2o3_sasl_negotiation.specs.declared.progress.Progress.TheVariants.{InProgress}
use Rattle.fe2o3_sasl_negotiation.specs.declared.progress.FrameKind.{FrameKind}
use Rattle.fe2o3_sasl_negotiation.specs.declared.progress.FrameKind.TheVariants as turns
use Rattle.fe2o3_sasl_negotiation.specs.Framing.{body_read}
use Rattle.fe2o3_sasl_negotiation.specs.Negotiations.{Completes}
use Rattle.fe2o3_sasl_negotiation.specs.Snapshot.{IsKept, side_kept}
use Rattle.sasl_c.specs.declared.sasl_server.SaslServer.{SaslServer as Struct}
use Rattle.sasl_c.specs.declared.server.ScramServer.{ScramServer as ScramStruct}
use Rattle.sasl_c.specs.declared.status.Status.{Status}
use Rattle.sasl_c.specs.declared.status.Status.TheVariants as statuses
use Rattle.sasl_c.specs.Connection.{Keeps, accepts_extended, side_tests}
use Rattle.sasl_c.specs.SaslServer.{AnswerNeedsMemory, AnswerNames, BodyAsks, BodyNames, BodyNamesNoUser, FrameAsks, FrameNames, Named, NotNamed, ResponseAsks, read_by}
use Rattle.sasl_c.specs.Peeks.{AwaitsFrame}
use Rattle.sasl_c.specs.Server.{HasAsked, IsOpen, open_number}
use Rattle.sasl_c.proofs.PeekLemmas.{awaits}
use Rattle.sasl_c.proofs.ServerCallLemmas.{keeps_no_part, none_holds}
use Rattle.sasl_c.proofs.StatusLemmas.{carried}

-- ---- an initial response

-- the initial response of an init claims what its message claims
pub response_claims : (mechanism text name : List ℕ) (response : Option (List ℕ)) → response ≡ Some text
    → ClaimsUser mechanism text name → ClaimIn mechanism response (Some name)
response_claims mechanism text name response is claims =
    carried (λ r. ClaimIn mechanism r (Some name)) (Some text) response (sym is) claims

pub response_claims_none : (mechanism text : List ℕ) (response : Option (List ℕ)) → response ≡ Some text
    → ((name : List ℕ) → ¬ ClaimsUser mechanism text name) → (name : List ℕ) → ¬ ClaimIn mechanism response (Some name)
response_claims_none mechanism text response is none name claims =
    none name (carried (λ r. ClaimIn mechanism r (Some name)) response (Some text) is claims)

pub response_asks : (mechanism text : List ℕ) (response : Option (List ℕ)) → response ≡ Some text
    → ClaimAllocates mechanism text → ResponseAsks mechanism response
response_asks mechanism text response is asks =
    carried (λ r. ResponseAsks mechanism r) (Some text) response (sym is) asks

pub ruleset response_user = (response_claims, response_claims_none, response_asks)

-- ---- a response

-- a struct in which a challenge is open shows no init that was asked
other_states : (scram : ScramStruct) (challenge : ServerChallenge) (mechanism : Mechanism) (nonce : List ℕ)
    → IsOpen scram challenge
    → HasAsked scram mechanism nonce → ⊥
other_states scram challenge mechanism nonce shows asked = differ challenge.header.flag shows.0
  where
    differ : (header : ChannelBindingFlag) → scram.state ≡ open_number header → ⊥
    differ NotSupported is = absurd (omega (arith, is, asked.0))
    differ ClientSupports is = absurd (omega (arith, is, asked.0))
    differ (Required TlsUnique) is = absurd (omega (arith, is, asked.0))
    differ (Required TlsServerEndPoint) is = absurd (omega (arith, is, asked.0))
    differ (Required TlsExporter) is = absurd (omega (arith, is, asked.0))

-- the response is the initial response of an init that was asked, by a mechanism of this name
pub answer_completes : (scram : ScramStruct) (mechanism : Mechanism) (nonce text name : List ℕ)
    → HasAsked scram mechanism nonce → ClaimsUser (mechanism_symbol mechanism) text name → AnswerNames scram text name
answer_completes scram mechanism nonce text name asked names = inr (
  mechanism,
  nonce,
  asked,
  names,
)

pub completes_no_user : (scram : ScramStruct) (mechanism : Mechanism) (nonce text : List ℕ)
    → HasAsked scram mechanism nonce → ((name : List ℕ) → ¬ ClaimsUser (mechanism_symbol mechanism) text name)
    → (name : List ℕ) → ¬ AnswerNames scram text name
completes_no_user scram mechanism nonce text asked none name (inl (challenge, shows, same)) =
    other_states scram challenge mechanism nonce shows asked
completes_no_user scram mechanism nonce text asked none name (inr (other, then, too, names)) =
    none name (carried (λ (m : List ℕ). ClaimsUser m text name) (mechanism_symbol other) (mechanism_symbol mechanism)
    (too.4 ∙ sym asked.4) names)

pub completing_asks : (scram : ScramStruct) (mechanism : Mechanism) (nonce text : List ℕ)
    → HasAsked scram mechanism nonce → ClaimAllocates (mechanism_symbol mechanism) text
    → AnswerNeedsMemory scram text
completing_asks scram mechanism nonce text asked asks = inr (
  mechanism,
  nonce,
  asked,
  asks,
)

-- or it answers the open challenge
pub answer_opens : (scram : ScramStruct) (challenge : ServerChallenge) (text name : List ℕ) → IsOpen scram challenge
    → name ≡ challenge.user → AnswerNames scram text name
answer_opens scram challenge text name shows same = inl (challenge, shows, same)

pub opens_no_user : (scram : ScramStruct) (text : List ℕ)
    → ((mechanism : Mechanism) (nonce : List ℕ) → ¬ HasAsked scram mechanism nonce)
    → ((challenge : ServerChallenge) → ¬ IsOpen scram challenge) → (name : List ℕ) → ¬ AnswerNames scram text name
opens_no_user scram text none closed name (inl (challenge, shows, same)) = closed challenge shows
opens_no_user scram text none closed name (inr (mechanism, nonce, asked, names)) = none mechanism nonce asked

pub opening_asks : (scram : ScramStruct) (text : List ℕ) → ((challenge : ServerChallenge) × IsOpen scram challenge)
    → AnswerNeedsMemory scram text
opening_asks scram text shows = inl shows

-- a frame that is a response in turn names whom the response names
pub frame_answers : {A : Type 0} (items : A → List ℕ) (scram : ScramStruct) (turn : FrameKind) (frame : SaslFrame)
    (text : List ℕ) (result : Result (Option A) Status) → turn ≡ turns.Response → frame ≡ frames.Response text
    → IfOk result (λ user. MatchOption user ((name : List ℕ) → ¬ AnswerNames scram text name)
    (λ user. AnswerNames scram text (items user)))
    → IfOk result (λ user. MatchOption user ((name : List ℕ) → ¬ FrameNames scram turn frame name)
    (λ user. FrameNames scram turn frame (items user)))
frame_answers items scram turn frame text result is response held =
    carried (λ (t : FrameKind). IfOk result (λ user. MatchOption user ((name : List ℕ) → ¬ FrameNames scram t frame name)
    (λ user. FrameNames scram t frame (items user)))) turns.Response turn (sym is)
    (carried (λ (f : SaslFrame). IfOk result (λ user. MatchOption user
    ((name : List ℕ) → ¬ FrameNames scram turns.Response f name)
    (λ user. FrameNames scram turns.Response f (items user)))) (frames.Response text) frame (sym response) held)

pub ruleset answer_user =
    (answer_completes, completes_no_user, completing_asks, answer_opens, opens_no_user, opening_asks)

pub body_asks : (scram : ScramStruct) (turn : FrameKind) (body : List ℕ) (frame : SaslFrame) (taken : ℕ)
    → ReadsBody body (Ok (frame, taken)) → FrameAsks scram turn frame → BodyAsks scram turn body
body_asks scram turn body frame taken reads asks = (frame, (taken, reads), asks)

-- a body
pub body_names : (scram : ScramStruct) (turn : FrameKind) (body name : List ℕ) (frame : SaslFrame) (taken : ℕ)
    → ReadsBody body (Ok (frame, taken)) → FrameNames scram turn frame name → BodyNames scram turn body name
body_names scram turn body name frame taken reads names = (frame, (taken, reads), names)

pub body_names_no_user : (scram : ScramStruct) (turn : FrameKind) (body : List ℕ) (frame : SaslFrame) (taken : ℕ)
    → ReadsBody body (Ok (frame, taken)) → ((name : List ℕ) → ¬ FrameNames scram turn frame name)
    → BodyNamesNoUser scram turn body
body_names_no_user scram turn body frame taken reads none = inr (frame, (taken, reads), none)

pub body_unread : (scram : ScramStruct) (turn : FrameKind) (body : List ℕ) (fault : Error) → ReadsBody body (Err fault)
    → BodyNamesNoUser scram turn body
body_unread scram turn body fault reads = inl (fault, reads)

pub ruleset body_user = (body_asks, body_names, body_names_no_user, body_unread)

-- ---- the user name that bytes claim

one_turn : (expected : Expected) (turn other : FrameKind) → expected ≡ Frame turn → expected ≡ Frame other → turn ≡ other
one_turn expected turn other is too = let same : Frame turn ≡ Frame other = sym is ∙ too in cc

-- the body that a side reads, by what the struct says of extended headers
read_body : (server : Struct) (kept : Snapshot) (received body : List ℕ)
    → kept.extended_headers ≡ accepts_extended server.connection → body ≡ body_read kept.extended_headers received
    → body ≡ read_by server received
read_body server kept received body flag reads = reads ∙ ap (λ (b : Bool). body_read b received) flag

pub bytes_name : (server : Struct) (kept : Snapshot) (bytes received body name : List ℕ) (turn other : FrameKind)
    → Keeps server.connection kept.progress kept.expected kept.held.now → kept.limit ≡ 512
    → kept.extended_headers ≡ accepts_extended server.connection → kept.expected ≡ Frame turn
    → Completes (side_kept kept) bytes other received → body ≡ body_read kept.extended_headers received
    → BodyNames server.scram turn body name → Named server bytes name
unfolding Named
bytes_name server kept bytes received body name turn other keeps limit flag expected done reads names = (
  side_kept kept,
  other,
  received,
  (keeps, limit),
  done,
  carried (λ (t : FrameKind). BodyNames server.scram t (read_by server received) name) turn other
      (one_turn kept.expected turn other expected done.1)
      (carried (λ (b : List ℕ). BodyNames server.scram turn b name) body (read_by server received)
      (read_body server kept received body flag reads) names),
)

pub no_connection : (server : Struct) (bytes : List ℕ) (status : Status)
    → IsFirst (side_tests server.connection) status → NotNamed server bytes status
unfolding NotNamed
no_connection server bytes status wrong = inl wrong

pub not_kept : (server : Struct) (kept : Snapshot) (bytes : List ℕ)
    → Keeps server.connection kept.progress kept.expected kept.held.now → kept.progress ≡ InProgress → kept.limit ≡ 512
    → ¬ IsKept kept → NotNamed server bytes statuses.InvalidSnapshot
unfolding NotNamed
not_kept server kept bytes keeps wants limit wrong = inr (
  none_holds server.connection kept keeps wants,
  inl (refl, keeps_no_part server.connection kept keeps wants limit wrong),
)

pub completes_none : (server : Struct) (kept : Snapshot) (bytes : List ℕ)
    → Keeps server.connection kept.progress kept.expected kept.held.now → kept.progress ≡ InProgress → kept.limit ≡ 512
    → ((turn : FrameKind) (body : List ℕ) → ¬ Completes (side_kept kept) bytes turn body)
    → NotNamed server bytes statuses.NamesNoUser
unfolding NotNamed
completes_none server kept bytes keeps wants limit none = inr (
  none_holds server.connection kept keeps wants,
  inr (refl, (side_kept kept, (keeps, limit), wants, inl none)),
)

pub names_no_user : (server : Struct) (kept : Snapshot) (bytes received body : List ℕ) (turn other : FrameKind)
    → Keeps server.connection kept.progress kept.expected kept.held.now → kept.progress ≡ InProgress → kept.limit ≡ 512
    → kept.extended_headers ≡ accepts_extended server.connection → kept.expected ≡ Frame turn
    → Completes (side_kept kept) bytes other received → body ≡ body_read kept.extended_headers received
    → BodyNamesNoUser server.scram turn body → NotNamed server bytes statuses.NamesNoUser
unfolding NotNamed
names_no_user server kept bytes received body turn other keeps wants limit flag expected done reads mock = inr (
  none_holds server.connection kept keeps wants,
  inr (
    refl,
    (
      side_kept kept,
      (keeps, limit),
      wants,
      inr (
        other,
        received,
        done,
        carried (λ (t : FrameKind). BodyNamesNoUser server.scram t (read_by server received)) turn other
            (one_turn kept.expected turn other expected done.1)
            (carried (λ (b : List ℕ). BodyNamesNoUser server.scram turn b) body (read_by server received)
            (read_body server kept received body flag reads) mock),
      ),
    ),
  ),
)

-- only a frame is completed
pub never_header : (server : Struct) (kept : Snapshot) (bytes body : List ℕ) (turn : FrameKind) (status : Status)
    → ((other : FrameKind) → kept.expected ≢ Frame other) → Completes (side_kept kept) bytes turn body
    → NotNamed server bytes status
never_header server kept bytes body turn status header done = absurd (header turn done.1)

-- memory is requested where a frame is expected
pub awaits_body : (server : Struct) (kept : Snapshot) (bytes body : List ℕ) (turn other : FrameKind)
    → Keeps server.connection kept.progress kept.expected kept.held.now → kept.progress ≡ InProgress → kept.limit ≡ 512
    → IsKept kept → kept.expected ≡ Frame turn → AwaitsFrame server.connection
awaits_body server kept bytes body turn other keeps wants limit is expected =
    awaits server.connection kept keeps wants limit is (λ header. absurd (cc))

pub ruleset named = (awaits, awaits_body, bytes_name, no_connection, not_kept, completes_none, names_no_user, never_header)
