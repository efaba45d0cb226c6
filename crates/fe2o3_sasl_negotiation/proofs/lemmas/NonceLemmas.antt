-- A call that uses no nonce does the same with every nonce.
use Rattle.std.proofs.Common.{◌≡◌, ℕ, true, false, Option, Some, None, List, [], ◌∷◌, drop, refl, subst, inl, inr, Result, Ok, Err}
use Rattle.fe2o3_sasl_wire.specs.declared.amqp_types.SaslCode.{SaslCode}
use Rattle.fe2o3_sasl_wire.specs.declared.amqp_types.SaslCode.TheVariants as outcomes
use Rattle.fe2o3_sasl_wire.specs.declared.sasl_frames.error.Error.{Error}
use Rattle.fe2o3_sasl_wire.specs.SaslFrames as frames
use Rattle.fe2o3_sasl_wire.specs.SaslFrames.{SaslFrame}
use Rattle.fe2o3_sasl_core.specs.AnyMechanismLaws.{Machine}
use Rattle.fe2o3_sasl_core.specs.Bodies.{SpellsBody}
use Rattle.fe2o3_sasl_core.specs.Events.{ClientSays, Given, ServerSays}
use Rattle.fe2o3_sasl_core.specs.Profiles.{Profile, ScramProfile, PlainProfile, AnonymousProfile, ExternalProfile, MessageProfile, PolicyProfile}
use Rattle.fe2o3_sasl_core.specs.ProfileMachine.{profile_machine}
use Rattle.fe2o3_sasl_core.specs.Runs.{AcceptorGives, ProfileGives}
use Rattle.fe2o3_sasl_core.specs.declared.sasl_profile.error.ProfileError.{ProfileError}
use Rattle.fe2o3_sasl_core.proofs.lemmas.frames.SpellingLemmas.{one_spelling}
use Rattle.fe2o3_sasl_negotiation.specs.ClientNegotiation.{AsksProfile, ClientSideAnswers}
use Rattle.fe2o3_sasl_negotiation.specs.Negotiations.{AnswersTo, IsInTurn, ReceivesAt, Side, SideOutput}
use Rattle.fe2o3_sasl_negotiation.specs.Nonces.{ClientsIgnoreNonces, IgnoresResponseNonce, ServersIgnoreNonces, client_nonce_at, server_nonce_at}
use Rattle.fe2o3_sasl_negotiation.specs.ServerNegotiation.{AsksAcceptor, ServerSideAnswers}
use Rattle.fe2o3_sasl_negotiation.specs.declared.progress.Expected.{Expected}
use Rattle.fe2o3_sasl_negotiation.specs.declared.progress.Expected.TheVariants.{Frame, Header}
use Rattle.fe2o3_sasl_negotiation.specs.declared.progress.FrameKind.{FrameKind}
use Rattle.fe2o3_sasl_negotiation.specs.declared.progress.FrameKind.TheVariants as turns
use Rattle.fe2o3_sasl_negotiation.specs.declared.progress.Progress.{Progress}
use Rattle.fe2o3_sasl_negotiation.specs.declared.progress.Progress.TheVariants.{Authenticated, Failed, InProgress}

-- an event with this body and this nonce
abbrev pub event_of : List ℕ → List ℕ → Given
event_of body nonce = record { body = body; nonce = nonce }

-- ---- any side

-- a call is the same with two nonces if the answer to a unit is
receives_alike : {S : Type 0} (Answers : Expected → S → List ℕ → List ℕ → SideOutput → S → Type 0) (nonce other : List ℕ)
    (progress : Progress) (side next : Side S) (bytes sent : List ℕ) (taken : ℕ)
    → (progress ≡ InProgress → (unit : List ℕ) (answer : SideOutput) (state : S)
    → Answers side.expected side.state nonce unit answer state → Answers side.expected side.state other unit answer state)
    → ReceivesAt progress Answers side bytes nonce taken sent next
    → ReceivesAt progress Answers side bytes other taken sent next
receives_alike Answers nonce other InProgress side next bytes sent taken alike (inl waits) = inl waits
receives_alike Answers nonce other InProgress side next bytes sent taken alike (inr (inl refused)) = inr (inl refused)
receives_alike Answers nonce other InProgress side next bytes sent taken alike (inr (inr (answer, state, whole, answers, ends))) =
    inr (inr (answer, state, whole, alike refl _ answer state answers, ends))
receives_alike Answers nonce other Authenticated side next bytes sent taken alike rests = rests
receives_alike Answers nonce other (Failed why) side next bytes sent taken alike rests = rests

-- an answer to a body is the same in two ways if it is for a frame in turn
answers_alike : {S : Type 0} (Asks Others : SideOutput → S → Type 0) (turn : FrameKind) (state next : S)
    (spelled : Result SaslFrame Error) (answer : SideOutput)
    → ((frame : SaslFrame) → spelled ≡ Ok frame → IsInTurn turn frame → Asks answer next → Others answer next)
    → AnswersTo Asks turn state spelled answer next → AnswersTo Others turn state spelled answer next
answers_alike Asks Others turn state next (Err fault) answer alike closes = closes
answers_alike Asks Others turn state next (Ok frame) answer alike (inl out) = inl out
answers_alike Asks Others turn state next (Ok frame) answer alike (inr (in_turn, asks)) =
    inr (in_turn, alike frame refl in_turn asks)

-- ---- servers

module _ {S : Type 0} (names : S → List (List ℕ)) (machine : Machine S) (same : IgnoresResponseNonce machine)
    (nonce other : List ℕ) where
  -- what an acceptor does with a frame that is no init
  gives_alike : (turn : FrameKind) (frame : SaslFrame) → server_nonce_at InProgress (Frame turn) ≡ false → IsInTurn turn frame
      → (state next : S) (body : List ℕ) (says : ServerSays)
      → AcceptorGives machine state (event_of body nonce) (Ok frame) says next
      → AcceptorGives machine state (event_of body other) (Ok frame) says next
  gives_alike turn (frames.Mechanisms list) unused in_turn state next body says gives = gives
  gives_alike turn (frames.Challenge text) unused in_turn state next body says gives = gives
  gives_alike turn (frames.Outcome code more) unused in_turn state next body says gives = gives
  gives_alike turn (frames.Response text) unused in_turn state next body says (inl memory) = inl memory
  gives_alike turn (frames.Response text) unused in_turn state next body says (inr (reply, moved, replies, sends)) =
      inr (reply, moved, same state moved nonce other text reply replies, sends)
  gives_alike turns.Init (frames.Init mechanism response hostname) unused in_turn state next body says gives = absurd (cc)
  gives_alike turns.Mechanisms (frames.Init mechanism response hostname) unused in_turn state next body says gives =
      absurd in_turn
  gives_alike turns.Challenge (frames.Init mechanism response hostname) unused in_turn state next body says gives = absurd in_turn
  gives_alike turns.Response (frames.Init mechanism response hostname) unused in_turn state next body says gives = absurd in_turn
  gives_alike turns.Outcome (frames.Init mechanism response hostname) unused in_turn state next body says gives = absurd in_turn
  gives_alike turns.SignatureChallenge (frames.Init mechanism response hostname) unused in_turn state next body says gives =
      absurd in_turn

  asks_alike : (turn : FrameKind) (frame : SaslFrame) → server_nonce_at InProgress (Frame turn) ≡ false → IsInTurn turn frame
      → (state next : S) (body : List ℕ) (answer : SideOutput) → SpellsBody body (Ok frame)
      → AsksAcceptor machine turn state (event_of body nonce) answer next
      → AsksAcceptor machine turn state (event_of body other) answer next
  asks_alike turn frame unused in_turn state next body answer spells (says, (spelled, is, gives), outputs) =
      let one = one_spelling body spelled (Ok frame) is spells in (
        says,
        (
          Ok frame,
          spells,
          gives_alike turn frame unused in_turn state next body says
              (subst (λ (s : Result SaslFrame Error). AcceptorGives machine state (event_of body nonce) s says next) one gives),
        ),
        outputs,
      )

  answer_alike : (expected : Expected) → server_nonce_at InProgress expected ≡ false → (unit : List ℕ) (answer : SideOutput)
      (state next : S) → ServerSideAnswers names machine expected state nonce unit answer next
      → ServerSideAnswers names machine expected state other unit answer next
  answer_alike Header unused unit answer state next answers = answers
  answer_alike (Frame turn) unused unit answer state next (spelled, spells, answers) = (
    spelled,
    spells,
    answers_alike (AsksAcceptor machine turn state (event_of (drop 4 unit) nonce))
        (AsksAcceptor machine turn state (event_of (drop 4 unit) other)) turn state next spelled answer
        (λ frame is in_turn asks. asks_alike turn frame unused in_turn state next (drop 4 unit) answer
        (subst (λ (s : Result SaslFrame Error). SpellsBody (drop 4 unit) s) is spells) asks) answers,
  )

pub servers_ignore_nonces : {S : Type 0} (names : S → List (List ℕ)) (machine : Machine S)
    → ServersIgnoreNonces names machine
servers_ignore_nonces names machine same side next bytes nonce other sent taken unused receives =
    receives_alike (ServerSideAnswers names machine) nonce other side.progress side next bytes sent taken
    (λ going unit answer state answers. answer_alike names machine same nonce other side.expected
    (subst (λ (p : Progress). server_nonce_at p side.expected ≡ false) going unused) unit answer side.state state answers)
    receives

-- ---- clients

module _ (hostname : Option (List ℕ)) (nonce other : List ℕ) where
  -- what a profile replies to a frame that is no list of mechanisms
  replies_alike : (turn : FrameKind) (frame : SaslFrame) → client_nonce_at InProgress (Frame turn) ≡ false → IsInTurn turn frame
      → (profile next : Profile) (reply : Result SaslFrame ProfileError)
      → profile_machine profile hostname nonce frame reply next
      → profile_machine profile hostname other frame reply next
  replies_alike turn (frames.Init mechanism response host) unused in_turn profile next reply replies = by profile replies
    where
      by : (profile : Profile) → profile_machine profile hostname nonce (frames.Init mechanism response host) reply next
          → profile_machine profile hostname other (frames.Init mechanism response host) reply next
      by (ScramProfile client) replies = replies
      by (PlainProfile identity user password) replies = replies
      by AnonymousProfile replies = replies
      by ExternalProfile replies = replies
      by (MessageProfile mechanism message true) replies = replies
      by (MessageProfile mechanism message false) replies = replies
      by (PolicyProfile selection) replies = replies
  replies_alike turn (frames.Response text) unused in_turn profile next reply replies = by profile replies
    where
      by : (profile : Profile) → profile_machine profile hostname nonce (frames.Response text) reply next
          → profile_machine profile hostname other (frames.Response text) reply next
      by (ScramProfile client) replies = replies
      by (PlainProfile identity user password) replies = replies
      by AnonymousProfile replies = replies
      by ExternalProfile replies = replies
      by (MessageProfile mechanism message true) replies = replies
      by (MessageProfile mechanism message false) replies = replies
      by (PolicyProfile selection) replies = replies
  replies_alike turn (frames.Challenge text) unused in_turn profile next reply replies = by profile text replies
    where
      by : (profile : Profile) (text : List ℕ) → profile_machine profile hostname nonce (frames.Challenge text) reply next
          → profile_machine profile hostname other (frames.Challenge text) reply next
      by (ScramProfile client) text replies = replies
      by (PlainProfile identity user password) text replies = replies
      by AnonymousProfile text replies = replies
      by ExternalProfile text replies = replies
      by (MessageProfile mechanism message true) [] replies = replies
      by (MessageProfile mechanism message true) (byte ∷ text) replies = replies
      by (MessageProfile mechanism message false) text replies = replies
      by (PolicyProfile selection) text replies = replies
  replies_alike turn (frames.Outcome code more) unused in_turn profile next reply replies = by profile code more replies
    where
      by : (profile : Profile) (code : SaslCode) (more : Option (List ℕ))
          → profile_machine profile hostname nonce (frames.Outcome code more) reply next
          → profile_machine profile hostname other (frames.Outcome code more) reply next
      by (ScramProfile client) outcomes.Ok None replies = replies
      by (ScramProfile client) outcomes.Ok (Some text) replies = replies
      by (ScramProfile client) outcomes.Auth more replies = replies
      by (ScramProfile client) outcomes.Sys more replies = replies
      by (ScramProfile client) outcomes.SysPerm more replies = replies
      by (ScramProfile client) outcomes.SysTemp more replies = replies
      by (PlainProfile identity user password) code more replies = replies
      by AnonymousProfile code more replies = replies
      by ExternalProfile code more replies = replies
      by (MessageProfile mechanism message true) code more replies = replies
      by (MessageProfile mechanism message false) code more replies = replies
      by (PolicyProfile selection) code more replies = replies
  replies_alike turns.Mechanisms (frames.Mechanisms list) unused in_turn profile next reply replies = absurd (cc)
  replies_alike turns.Init (frames.Mechanisms list) unused in_turn profile next reply replies = absurd in_turn
  replies_alike turns.Challenge (frames.Mechanisms list) unused in_turn profile next reply replies = absurd in_turn
  replies_alike turns.Response (frames.Mechanisms list) unused in_turn profile next reply replies = absurd in_turn
  replies_alike turns.Outcome (frames.Mechanisms list) unused in_turn profile next reply replies = absurd in_turn
  replies_alike turns.SignatureChallenge (frames.Mechanisms list) unused in_turn profile next reply replies = absurd in_turn

  profile_gives_alike : (turn : FrameKind) (frame : SaslFrame) → client_nonce_at InProgress (Frame turn) ≡ false
      → IsInTurn turn frame → (profile next : Profile) (body : List ℕ) (says : ClientSays)
      → ProfileGives hostname profile (event_of body nonce) (Ok frame) says next
      → ProfileGives hostname profile (event_of body other) (Ok frame) says next
  profile_gives_alike turn frame unused in_turn profile next body says (inl memory) = inl memory
  profile_gives_alike turn frame unused in_turn profile next body says (inr (reply, moved, replies, rest)) =
      inr (reply, moved, replies_alike turn frame unused in_turn profile moved reply replies, rest)

  client_asks_alike : (turn : FrameKind) (frame : SaslFrame) → client_nonce_at InProgress (Frame turn) ≡ false
      → IsInTurn turn frame → (profile next : Profile) (body : List ℕ) (answer : SideOutput) → SpellsBody body (Ok frame)
      → AsksProfile hostname turn profile (event_of body nonce) answer next
      → AsksProfile hostname turn profile (event_of body other) answer next
  client_asks_alike turn frame unused in_turn profile next body answer spells (says, (spelled, is, gives), outputs) =
      let one = one_spelling body spelled (Ok frame) is spells in (
        says,
        (
          Ok frame,
          spells,
          profile_gives_alike turn frame unused in_turn profile next body says
              (subst (λ (s : Result SaslFrame Error). ProfileGives hostname profile (event_of body nonce) s says next) one gives),
        ),
        outputs,
      )

  client_answer_alike : (expected : Expected) → client_nonce_at InProgress expected ≡ false → (unit : List ℕ)
      (answer : SideOutput) (profile next : Profile) → ClientSideAnswers hostname expected profile nonce unit answer next
      → ClientSideAnswers hostname expected profile other unit answer next
  client_answer_alike Header unused unit answer profile next answers = answers
  client_answer_alike (Frame turn) unused unit answer profile next (spelled, spells, answers) = (
    spelled,
    spells,
    answers_alike (AsksProfile hostname turn profile (event_of (drop 4 unit) nonce))
        (AsksProfile hostname turn profile (event_of (drop 4 unit) other)) turn profile next spelled answer
        (λ frame is in_turn asks. client_asks_alike turn frame unused in_turn profile next (drop 4 unit) answer
        (subst (λ (s : Result SaslFrame Error). SpellsBody (drop 4 unit) s) is spells) asks) answers,
  )

pub clients_ignore_nonces : ClientsIgnoreNonces
clients_ignore_nonces hostname side next bytes nonce other sent taken unused receives =
    receives_alike (ClientSideAnswers hostname) nonce other side.progress side next bytes sent taken
    (λ going unit answer state answers. client_answer_alike hostname nonce other side.expected
    (subst (λ (p : Progress). client_nonce_at p side.expected ≡ false) going unused) unit answer side.state state answers)
    receives
