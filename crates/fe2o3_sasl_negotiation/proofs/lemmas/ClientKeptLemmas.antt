-- A client's progress and what is expected to it, after an answer to a unit.
use Rattle.std.proofs.Common.{◌≡◌, ◌≢◌, ℕ, Bool, true, false, Option, Some, None, List, [], drop, IsTrue, refl, sym, ◌∙◌, subst, inl, inr, Result, Ok, Err, IfOk}
use Rattle.fe2o3_sasl_wire.specs.declared.amqp_types.SaslCode.{SaslCode}
use Rattle.fe2o3_sasl_wire.specs.declared.amqp_types.SaslCode.TheVariants as outcomes
use Rattle.fe2o3_sasl_wire.specs.declared.sasl_frames.error.Error.{Error}
use Rattle.fe2o3_sasl_wire.specs.declared.sasl_frames.error.Error.TheVariants as faults
use Rattle.fe2o3_sasl_wire.specs.SaslFrames.{SaslFrame, canonical}
use Rattle.fe2o3_sasl_wire.specs.SaslFrames as frames
use Rattle.fe2o3_sasl_core.specs.Bodies.{SpellsBody, carried}
use Rattle.fe2o3_sasl_core.specs.Events.{Given, ClientSays, Started, Answered, Reported, Refused as ClientRefused}
use Rattle.fe2o3_sasl_core.specs.Profiles.{Profile, accepts_signature_by_challenge}
use Rattle.fe2o3_sasl_core.specs.Runs.{ProfileSteps, ProfileGives, Replies as ProfileSays}
use Rattle.fe2o3_sasl_core.specs.declared.sasl_profile.error.ProfileError.{ProfileError}
use Rattle.fe2o3_sasl_core.proofs.lemmas.frames.SpellingLemmas.{one_spelling}
use Rattle.fe2o3_sasl_core.proofs.lemmas.machines.OfferLemmas.{Viewed, offer_view}
use Rattle.fe2o3_sasl_negotiation.specs.declared.framing.Step.{Step}
use Rattle.fe2o3_sasl_negotiation.specs.declared.progress.CloseReason.TheVariants.{ProtocolHeaderMismatch, UnexpectedFrame, ReplyTooLarge, MalformedFrame, Refused, Mechanism as ProfileRefused}
use Rattle.fe2o3_sasl_negotiation.specs.declared.progress.Expected.{Expected}
use Rattle.fe2o3_sasl_negotiation.specs.declared.progress.Expected.TheVariants.{Header, Frame}
use Rattle.fe2o3_sasl_negotiation.specs.declared.progress.Progress.TheVariants.{InProgress, Authenticated, Failed}
use Rattle.fe2o3_sasl_negotiation.specs.declared.progress.FrameKind.{FrameKind}
use Rattle.fe2o3_sasl_negotiation.specs.declared.progress.FrameKind.TheVariants as turns
use Rattle.fe2o3_sasl_negotiation.specs.Negotiations.{SideOutput, closes, Sends, IsInTurn}
use Rattle.fe2o3_sasl_negotiation.specs.ClientNegotiation.{ClientOpens, ClientOutputs, ClientReplies, ClientSideAnswers}
use Rattle.fe2o3_sasl_negotiation.specs.Snapshot.{client_due, outcome_due, client_fits}
use Rattle.fe2o3_sasl_negotiation.specs.private.Units.{Appends}
use Rattle.fe2o3_sasl_negotiation.proofs.lemmas.KeptLemmas.{other_fits, unread_is_no_memory}
use Rattle.fe2o3_sasl_core.specs.declared.sasl_profile.error.ProfileError.TheVariants.{NotImplemented, Scram, StaleKeys, Frame as FrameFault, OutOfMemory}

-- where an answer is this one
pub at_client : (answer other : SideOutput) → answer ≡ other → IsTrue (client_fits other.progress other.expected)
    → IsTrue (client_fits answer.progress answer.expected)
at_client answer other is holds = subst (λ (a : SideOutput). IsTrue (client_fits a.progress a.expected)) (sym is) holds

sent_at_client : (body : List ℕ) (expected : Expected) (answer : SideOutput) → IsTrue (client_due expected)
    → IsTrue (outcome_due expected)
    → Sends body InProgress expected answer → IsTrue (client_fits answer.progress answer.expected)
sent_at_client body expected answer holds after (inl (fits, is)) =
    at_client answer (record { sent = _; progress = InProgress; expected = expected }) is holds
sent_at_client body expected answer holds after (inr (long, is)) = at_client answer (closes ReplyTooLarge expected) is after

-- a client that has had a header
pub opened_at_client : (header out : List ℕ) (step : Step) → Appends (ClientOpens header) out out step
    → IsTrue (client_fits step.progress step.expected)
opened_at_client header out step (sent, appended, inl (other, is)) =
    at_client (record { sent = sent; progress = step.progress; expected = step.expected })
    (closes (ProtocolHeaderMismatch header) Header) is (other_fits header other)
opened_at_client header out step (sent, appended, inr (sasl, is)) =
    at_client (record { sent = sent; progress = step.progress; expected = step.expected })
    (record { sent = []; progress = InProgress; expected = Frame turns.Mechanisms }) is refl

-- a client that closes at a frame for a fault of its body
pub unread_at_client : (fault : Error) (turn : FrameKind) → fault ≢ faults.OutOfMemory → IsTrue (client_due (Frame turn))
    → IsTrue (client_fits (Failed (MalformedFrame fault)) (Frame turn))
unread_at_client faults.DecodeError turn other unit = unit
unread_at_client faults.NotImplemented turn other unit = unit
unread_at_client faults.TooLarge turn other unit = unit
unread_at_client faults.OutOfMemory turn other unit = absurd (other refl)

-- a profile reports no outcome of a list of mechanisms
init_is_no_report : (code : SaslCode) (more : Option (List ℕ)) (body : Option (List ℕ))
    → Reported code more ≡ carried (ClientRefused (FrameFault faults.TooLarge)) (λ b. Started b) body → ⊥
init_is_no_report code more None same = absurd (cc)
init_is_no_report code more (Some body) same = absurd (cc)

offer_is_no_report : (hostname : Option (List ℕ)) (profile moved next : Profile) (nonce : List ℕ)
    (names : List (List ℕ)) (reply : Result SaslFrame ProfileError) (code : SaslCode) (more : Option (List ℕ))
    → Viewed profile hostname nonce names reply moved → ProfileSays profile moved reply (Reported code more) next → ⊥
offer_is_no_report hostname profile moved next nonce names reply code more (inl (chosen, begins, is, after)) says =
    init_is_no_report code more _
    (subst (λ (r : Result SaslFrame ProfileError). ProfileSays profile moved r (Reported code more) next) is says).0
offer_is_no_report hostname profile moved next nonce names reply code more (inr (none, is, after)) says =
    let apart = (subst (λ (r : Result SaslFrame ProfileError). ProfileSays profile moved r (Reported code more)
    next) is says).0 in absurd (cc)

no_report : (hostname : Option (List ℕ)) (profile next : Profile) (event : Given) (names : List (List ℕ))
    (code : SaslCode) (more : Option (List ℕ)) → SpellsBody event.body (Ok (frames.Mechanisms names))
    → ProfileSteps hostname profile event (Reported code more) next → ⊥
no_report hostname profile next event names code more spells (spelled, other, gives) =
    go (subst (λ (s : Result SaslFrame Error). ProfileGives hostname profile event s (Reported code more) next)
    (one_spelling event.body spelled (Ok (frames.Mechanisms names)) other spells) gives)
  where
    go : ProfileGives hostname profile event (Ok (frames.Mechanisms names)) (Reported code more) next → ⊥
    go (inl (allocates, says, same)) = absurd (cc)
    go (inr (reply, moved, answers, says)) = offer_is_no_report hostname profile moved next event.nonce names reply code more
        (offer_view profile hostname event.nonce names reply moved answers) says

-- so an outcome comes after the mechanisms
after_mechanisms : (hostname : Option (List ℕ)) (turn : FrameKind) (profile next : Profile) (event : Given)
    (frame : SaslFrame) (code : SaslCode) (more : Option (List ℕ)) → IsTrue (client_due (Frame turn))
    → SpellsBody event.body (Ok frame) → IsInTurn turn frame
    → ProfileSteps hostname profile event (Reported code more) next → IsTrue (outcome_due (Frame turn))
after_mechanisms hostname turns.Challenge profile next event frame code more unit spells in_turn steps = refl
after_mechanisms hostname turns.Outcome profile next event frame code more unit spells in_turn steps = refl
after_mechanisms hostname turns.SignatureChallenge profile next event frame code more unit spells in_turn steps = refl
after_mechanisms hostname turns.Init profile next event frame code more unit spells in_turn steps = absurd (cc)
after_mechanisms hostname turns.Response profile next event frame code more unit spells in_turn steps = absurd (cc)
after_mechanisms hostname turns.Mechanisms profile next event (frames.Mechanisms names) code more unit spells in_turn
    steps = absurd (no_report hostname profile next event names code more spells steps)
after_mechanisms hostname turns.Mechanisms profile next event (frames.Init mechanism response host) code more unit spells
    in_turn steps = absurd in_turn
after_mechanisms hostname turns.Mechanisms profile next event (frames.Challenge text) code more unit spells in_turn
    steps = absurd in_turn
after_mechanisms hostname turns.Mechanisms profile next event (frames.Response text) code more unit spells in_turn
    steps = absurd in_turn
after_mechanisms hostname turns.Mechanisms profile next event (frames.Outcome other extra) code more unit spells in_turn
    steps = absurd in_turn

refused_at_client : (signs : Bool) (fault : ProfileError) (turn : FrameKind) (answer : SideOutput)
    → IsTrue (client_due (Frame turn)) → ClientOutputs signs (ClientRefused fault) turn answer
    → IsTrue (client_fits answer.progress answer.expected)
refused_at_client signs OutOfMemory turn answer unit says = absurd says
refused_at_client signs NotImplemented turn answer unit is =
    at_client answer (closes (ProfileRefused NotImplemented) (Frame turn)) is unit
refused_at_client signs (Scram why) turn answer unit is =
    at_client answer (closes (ProfileRefused (Scram why)) (Frame turn)) is unit
refused_at_client signs StaleKeys turn answer unit is =
    at_client answer (closes (ProfileRefused StaleKeys) (Frame turn)) is unit
refused_at_client signs (FrameFault fault) turn answer unit is =
    at_client answer (closes (ProfileRefused (FrameFault fault)) (Frame turn)) is unit

started_at_client : (signs : Bool) (body : List ℕ) (turn : FrameKind) (answer : SideOutput)
    → IsTrue (client_due (Frame turn)) → ClientOutputs signs (Started body) turn answer
    → IsTrue (client_fits answer.progress answer.expected)
started_at_client signs body turns.Mechanisms answer unit says =
    sent_at_client body (Frame turns.Challenge) answer refl refl says
started_at_client signs body turns.Challenge answer unit says =
    at_client answer (closes UnexpectedFrame (Frame turns.Challenge)) says refl
started_at_client signs body turns.SignatureChallenge answer unit says =
    at_client answer (closes UnexpectedFrame (Frame turns.SignatureChallenge)) says refl
started_at_client signs body turns.Outcome answer unit says =
    at_client answer (closes UnexpectedFrame (Frame turns.Outcome)) says refl
started_at_client signs body turns.Init answer unit says = absurd (cc)
started_at_client signs body turns.Response answer unit says = absurd (cc)

answered_says_at_client : (signs : Bool) (body : List ℕ) (turn : FrameKind) (answer : SideOutput)
    → IsTrue (client_due (Frame turn)) → ClientOutputs signs (Answered body) turn answer
    → IsTrue (client_fits answer.progress answer.expected)
answered_says_at_client true body turns.Challenge answer unit says =
    sent_at_client body (Frame turns.SignatureChallenge) answer refl refl says
answered_says_at_client false body turns.Challenge answer unit says =
    sent_at_client body (Frame turns.Outcome) answer refl refl says
answered_says_at_client signs body turns.SignatureChallenge answer unit says =
    sent_at_client body (Frame turns.Outcome) answer refl refl says
answered_says_at_client signs body turns.Mechanisms answer unit says =
    at_client answer (closes UnexpectedFrame (Frame turns.Mechanisms)) says refl
answered_says_at_client signs body turns.Outcome answer unit says =
    at_client answer (closes UnexpectedFrame (Frame turns.Outcome)) says refl
answered_says_at_client signs body turns.Init answer unit says = absurd (cc)
answered_says_at_client signs body turns.Response answer unit says = absurd (cc)

says_at_client : (signs : Bool) (says : ClientSays) (turn : FrameKind) (answer : SideOutput)
    → IsTrue (client_due (Frame turn))
    → ((code : SaslCode) (more : Option (List ℕ)) → says ≡ Reported code more → IsTrue (outcome_due (Frame turn)))
    → ClientOutputs signs says turn answer → IsTrue (client_fits answer.progress answer.expected)
says_at_client signs (Started body) turn answer unit reports says = started_at_client signs body turn answer unit says
says_at_client signs (Answered body) turn answer unit reports says =
    answered_says_at_client signs body turn answer unit says
says_at_client signs (Reported outcomes.Ok more) turn answer unit reports says =
    at_client answer (record { sent = []; progress = Authenticated; expected = Frame turn }) says (reports outcomes.Ok more refl)
says_at_client signs (Reported outcomes.Auth more) turn answer unit reports says =
    at_client answer (closes (Refused outcomes.Auth) (Frame turn)) says (reports outcomes.Auth more refl)
says_at_client signs (Reported outcomes.Sys more) turn answer unit reports says =
    at_client answer (closes (Refused outcomes.Sys) (Frame turn)) says (reports outcomes.Sys more refl)
says_at_client signs (Reported outcomes.SysPerm more) turn answer unit reports says =
    at_client answer (closes (Refused outcomes.SysPerm) (Frame turn)) says (reports outcomes.SysPerm more refl)
says_at_client signs (Reported outcomes.SysTemp more) turn answer unit reports says =
    at_client answer (closes (Refused outcomes.SysTemp) (Frame turn)) says (reports outcomes.SysTemp more refl)
says_at_client signs (ClientRefused fault) turn answer unit reports says =
    refused_at_client signs fault turn answer unit says

module _ (hostname : Option (List ℕ)) where
  pub replied_at_client : (turn : FrameKind) (profile next : Profile) (event : Given) (answer : SideOutput)
      → IsTrue (client_due (Frame turn)) → ClientReplies hostname turn profile event answer next
      → IsTrue (client_fits answer.progress answer.expected)
  replied_at_client turn profile next event answer unit (Err fault, spells, (is, same)) =
      at_client answer (closes (MalformedFrame fault) (Frame turn)) is
      (unread_at_client fault turn (λ wants. unread_is_no_memory event.body (sym spells.0 ∙ wants)) unit)
  replied_at_client turn profile next event answer unit (Ok frame, spells, inl (out, is, same)) =
      at_client answer (closes UnexpectedFrame (Frame turn)) is unit
  replied_at_client turn profile next event answer unit (Ok frame, spells, inr (in_turn, (says, steps, holds))) =
      says_at_client (accepts_signature_by_challenge profile) says turn answer unit
      (λ code more is. after_mechanisms hostname turn profile next event frame code more unit spells in_turn
      (subst (λ (s : ClientSays). ProfileSteps hostname profile event s next) is steps)) holds

  -- what a client answers to a unit leaves it as a client can be
  answered_at_client : (expected : Expected) (profile next : Profile) (nonce unit : List ℕ) (answer : SideOutput)
      → IsTrue (client_due expected) → ClientSideAnswers hostname expected profile nonce unit answer next
      → IsTrue (client_fits answer.progress answer.expected)
  answered_at_client Header profile next nonce unit answer is (inl (other, same), after) =
      at_client answer (closes (ProtocolHeaderMismatch unit) Header) same (other_fits unit other)
  answered_at_client Header profile next nonce unit answer is (inr (sasl, same), after) =
      at_client answer (record { sent = []; progress = InProgress; expected = Frame turns.Mechanisms }) same refl
  answered_at_client (Frame turn) profile next nonce unit answer is answers =
      replied_at_client turn profile next (record { body = drop 4 unit; nonce = nonce }) answer is answers

  -- and so does what it appends
  pub client_stays : {E : Type 0} (expected : Expected) (profile next : Profile) (nonce unit old new : List ℕ)
      (result : Result Step E)
      → IfOk result (λ step.
      Appends (λ answer. ClientSideAnswers hostname expected profile nonce unit answer next) old new step)
      → IfOk result (λ step. IsTrue (client_fits InProgress expected) → IsTrue (client_fits step.progress step.expected))
  client_stays expected profile next nonce unit old new (Ok step) (sent, appended, answers) = λ fits.
      answered_at_client expected profile next nonce unit
      (record { sent = sent; progress = step.progress; expected = step.expected }) fits answers
  client_stays expected profile next nonce unit old new (Err fault) appends = tt
