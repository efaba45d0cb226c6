-- A side's progress and what is expected to it, after an answer to a unit.
use Rattle.std.proofs.Common.{◌≡◌, ◌≢◌, ℕ, Option, Some, None, List, length, drop, nat_lt, slice_index, ◌==◌, ◌&&◌, if◌then◌else◌, Bool, true, false, not, IsTrue, refl, sym, ◌∙◌, subst, inl, inr, Result, Ok, Err, IfOk}
use Rattle.std.specs.Cmp.Lexicographic.{same_text}
use Rattle.fe2o3_sasl_wire.specs.declared.amqp_types.SaslCode.TheVariants as outcomes
use Rattle.fe2o3_sasl_wire.specs.declared.sasl_frames.error.Error.{Error}
use Rattle.fe2o3_sasl_wire.specs.declared.sasl_frames.error.Error.TheVariants as faults
use Rattle.fe2o3_sasl_wire.specs.SaslFrames.{SaslFrame, fault_of}
use Rattle.fe2o3_sasl_core.specs.Events.{Given, ServerSays, Challenged, Concluded, Failed}
use Rattle.fe2o3_sasl_negotiation.specs.declared.framing.Step.{Step}
use Rattle.fe2o3_sasl_negotiation.specs.declared.progress.CloseReason.TheVariants.{UnexpectedFrame, ReplyTooLarge, MalformedFrame, Refused}
use Rattle.fe2o3_sasl_negotiation.specs.declared.progress.Expected.{Expected}
use Rattle.fe2o3_sasl_negotiation.specs.declared.progress.Expected.TheVariants.{Header, Frame}
use Rattle.fe2o3_sasl_negotiation.specs.declared.progress.Progress.{Progress}
use Rattle.fe2o3_sasl_negotiation.specs.declared.progress.Progress.TheVariants.{InProgress, Authenticated, Failed as HasFailed}
use Rattle.fe2o3_sasl_negotiation.specs.declared.progress.FrameKind.{FrameKind}
use Rattle.fe2o3_sasl_negotiation.specs.declared.progress.FrameKind.TheVariants as turns
use Rattle.fe2o3_sasl_negotiation.specs.Framing.{sasl_header, is_sasl_header}
use Rattle.fe2o3_sasl_negotiation.specs.Negotiations.{SideOutput, closes, Sends}
use Rattle.fe2o3_sasl_negotiation.specs.ServerNegotiation.{offer_body, ServerOpens, Offers, ServerOutputs, ServerReplies, ServerSideAnswers}
use Rattle.fe2o3_sasl_negotiation.specs.Snapshot.{server_due, server_fits}
use Rattle.fe2o3_sasl_negotiation.specs.private.Units.{Appends}

-- a header other than that of SASL is none that it is
pub other_fits : (header : List ℕ) → header ≢ sasl_header → IsTrue (not (is_sasl_header header))
other_fits header other = go (is_sasl_header header) refl
  where
    go : (is : Bool) → is ≡ is_sasl_header header → IsTrue (not is)
    go true same = absurd (other (same_text header sasl_header same))
    go false same = refl

-- a body of which no beginning spells a frame is not out of memory
pub unread_is_no_memory : (body : List ℕ) → fault_of body ≢ faults.OutOfMemory
unfolding fault_of
unread_is_no_memory body = first (nat_lt (length body) 4)
  where
    second : (b : Bool) → (if b then faults.DecodeError else faults.NotImplemented) ≢ faults.OutOfMemory
    second true same = absurd (cc)
    second false same = absurd (cc)

    first : (a : Bool) → (if a then faults.DecodeError
        else (if slice_index body 1 == 1 && (slice_index body 0 == 2) then faults.DecodeError
        else faults.NotImplemented)) ≢ faults.OutOfMemory
    first true same = absurd (cc)
    first false same = second (slice_index body 1 == 1 && (slice_index body 0 == 2)) same

-- where an answer is this one
at_server : (answer other : SideOutput) → answer ≡ other → IsTrue (server_fits other.progress other.expected)
    → IsTrue (server_fits answer.progress answer.expected)
at_server answer other is holds = subst (λ (a : SideOutput). IsTrue (server_fits a.progress a.expected)) (sym is) holds

sent_at_server : (body : List ℕ) (progress : Progress) (expected : Expected) (answer : SideOutput)
    → IsTrue (server_fits progress expected) → IsTrue (server_due expected) → Sends body progress expected answer
    → IsTrue (server_fits answer.progress answer.expected)
sent_at_server body progress expected answer holds unit (inl (fits, is)) =
    at_server answer (record { sent = _; progress = progress; expected = expected }) is holds
sent_at_server body progress expected answer holds unit (inr (long, is)) =
    at_server answer (closes ReplyTooLarge expected) is unit

-- a server that closes at a frame for a fault of its body or of its answer
unread_at_server : (fault : Error) (turn : FrameKind) → fault ≢ faults.OutOfMemory → IsTrue (server_due (Frame turn))
    → IsTrue (server_fits (HasFailed (MalformedFrame fault)) (Frame turn))
unread_at_server faults.DecodeError turn other unit = unit
unread_at_server faults.NotImplemented turn other unit = unit
unread_at_server faults.TooLarge turn other unit = unit
unread_at_server faults.OutOfMemory turn other unit = absurd (other refl)

says_at_server : (says : ServerSays) (turn : FrameKind) (answer : SideOutput) → IsTrue (server_due (Frame turn))
    → ServerOutputs says turn answer → IsTrue (server_fits answer.progress answer.expected)
says_at_server (Challenged body) turn answer unit says =
    sent_at_server body InProgress (Frame turns.Response) answer refl refl says
says_at_server (Concluded outcomes.Ok body) turn answer unit says =
    sent_at_server body Authenticated (Frame turn) answer unit unit says
says_at_server (Concluded outcomes.Auth body) turn answer unit says =
    sent_at_server body (HasFailed (Refused outcomes.Auth)) (Frame turn) answer unit unit says
says_at_server (Concluded outcomes.Sys body) turn answer unit says =
    sent_at_server body (HasFailed (Refused outcomes.Sys)) (Frame turn) answer unit unit says
says_at_server (Concluded outcomes.SysPerm body) turn answer unit says =
    sent_at_server body (HasFailed (Refused outcomes.SysPerm)) (Frame turn) answer unit unit says
says_at_server (Concluded outcomes.SysTemp body) turn answer unit says =
    sent_at_server body (HasFailed (Refused outcomes.SysTemp)) (Frame turn) answer unit unit says
says_at_server (Failed faults.OutOfMemory) turn answer unit says = absurd says
says_at_server (Failed faults.DecodeError) turn answer unit says =
    at_server answer (closes (MalformedFrame faults.DecodeError) (Frame turn)) says unit
says_at_server (Failed faults.NotImplemented) turn answer unit says =
    at_server answer (closes (MalformedFrame faults.NotImplemented) (Frame turn)) says unit
says_at_server (Failed faults.TooLarge) turn answer unit says =
    at_server answer (closes (MalformedFrame faults.TooLarge) (Frame turn)) says unit

offered_at_server : (body : Option (List ℕ)) (answer : SideOutput) → Offers body answer
    → IsTrue (server_fits answer.progress answer.expected)
offered_at_server (Some body) answer offers =
    sent_at_server body InProgress (Frame turns.Init) answer refl refl offers
offered_at_server None answer offers = at_server answer (closes ReplyTooLarge Header) offers refl

opened_at_server : (names : List (List ℕ)) (header : List ℕ) (answer : SideOutput) → ServerOpens names header answer
    → IsTrue (server_fits answer.progress answer.expected)
opened_at_server names header answer (inl (other, is)) =
    at_server answer _ is (other_fits header other)
opened_at_server names header answer (inr (sasl, (first, offers, is))) =
    at_server answer _ is (offered_at_server (offer_body names) first offers)

module _ {S : Type 0} (names : S → List (List ℕ)) (machine : S → List ℕ → SaslFrame → SaslFrame → S → Type 0) where
  replied_at_server : (turn : FrameKind) (state next : S) (event : Given) (answer : SideOutput) → IsTrue (server_due (Frame turn))
      → ServerReplies machine turn state event answer next → IsTrue (server_fits answer.progress answer.expected)
  replied_at_server turn state next event answer unit (Err fault, spells, (is, same)) =
      at_server answer (closes (MalformedFrame fault) (Frame turn)) is
      (unread_at_server fault turn (λ wants. unread_is_no_memory event.body (sym spells.0 ∙ wants)) unit)
  replied_at_server turn state next event answer unit (Ok frame, spells, inl (out, is, same)) =
      at_server answer (closes UnexpectedFrame (Frame turn)) is unit
  replied_at_server turn state next event answer unit (Ok frame, spells, inr (in_turn, (says, steps, holds))) =
      says_at_server says turn answer unit holds

  -- what a server answers to a unit leaves it as a server can be
  pub answered_at_server : (expected : Expected) (state next : S) (nonce unit : List ℕ) (answer : SideOutput)
      → IsTrue (server_due expected) → ServerSideAnswers names machine expected state nonce unit answer next
      → IsTrue (server_fits answer.progress answer.expected)
  answered_at_server Header state next nonce unit answer is answers =
      opened_at_server (names state) unit answer answers.0
  answered_at_server (Frame turn) state next nonce unit answer is answers =
      replied_at_server turn state next (record { body = drop 4 unit; nonce = nonce }) answer is answers

  -- and so does what it appends
  pub server_stays : {E : Type 0} (expected : Expected) (state next : S) (nonce unit old new : List ℕ) (result : Result Step E)
      → IfOk result (λ step.
      Appends (λ answer. ServerSideAnswers names machine expected state nonce unit answer next) old new step)
      → IfOk result (λ step. IsTrue (server_fits InProgress expected) → IsTrue (server_fits step.progress step.expected))
  server_stays expected state next nonce unit old new (Ok step) (sent, appended, answers) = λ fits.
      answered_at_server expected state next nonce unit
      (record { sent = sent; progress = step.progress; expected = step.expected }) fits answers
  server_stays expected state next nonce unit old new (Err fault) appends = tt
