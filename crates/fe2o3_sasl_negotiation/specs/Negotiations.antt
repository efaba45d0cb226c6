-- What one call does to a side of a connection, for any machine.
use Rattle.std.specs.Prelude.{◌≡◌, ◌⊎◌, ℕ, ◌+◌, ◌-◌, ◌<◌, ◌≤◌, Bool, true, false, List, [], ◌++◌, length, take, drop, Result, Ok, Err}
use Rattle.fe2o3_sasl_wire.specs.declared.sasl_frames.error.Error.{Error}
use Rattle.fe2o3_sasl_wire.specs.SaslFrames.{SaslFrame}
use Rattle.fe2o3_sasl_wire.specs.SaslFrames as frames
use Rattle.fe2o3_sasl_negotiation.specs.declared.progress.CloseReason.{CloseReason}
use Rattle.fe2o3_sasl_negotiation.specs.declared.progress.CloseReason.TheVariants.{EndOfInput, FrameSize, UnexpectedFrame, ReplyTooLarge, MalformedFrame}
use Rattle.fe2o3_sasl_negotiation.specs.declared.progress.Expected.{Expected}
use Rattle.fe2o3_sasl_negotiation.specs.declared.progress.Expected.TheVariants.{Frame}
use Rattle.fe2o3_sasl_negotiation.specs.declared.progress.FrameKind.{FrameKind}
use Rattle.fe2o3_sasl_negotiation.specs.declared.progress.FrameKind.TheVariants as turns
use Rattle.fe2o3_sasl_negotiation.specs.declared.progress.Progress.{Progress}
use Rattle.fe2o3_sasl_negotiation.specs.declared.progress.Progress.TheVariants.{InProgress, Authenticated, Failed}
use Rattle.fe2o3_sasl_negotiation.specs.Framing.{framed, size_of, unextended, unit_size, unit_read, IsPart, IsRefused, IsWhole}

-- a side of a connection: its progress, the expected unit, the maximum size of a frame, what has arrived of that unit,
-- and the state of its machine
pub record Side (S : Type 0) : Type 0 where
  pub progress : Progress
  pub expected : Expected
  pub limit : ℕ
  pub held : List ℕ
  pub state : S

-- what one call does: from a side, the bytes that the call is passed and its nonce to how many of the bytes it takes,
-- what it sends, and the side after it
abbrev pub Receiving : Type 0 → Type 1
Receiving S = Side S → List ℕ → List ℕ → ℕ → List ℕ → Side S → Type 0

-- what a side answers to a unit: the bytes that it sends, its progress then, and what is expected then
pub record SideOutput : Type 0 where
  pub sent : List ℕ
  pub progress : Progress
  pub expected : Expected

-- the side sends nothing and closes
abbrev pub closes : CloseReason → Expected → SideOutput
closes why expected = record { sent = []; progress = Failed why; expected = expected }

-- the side sends a body as a frame of at most 512 bytes (part 5, section 5.3.1), or closes if the frame would be longer
abbrev pub Sends : List ℕ → Progress → Expected → SideOutput → Type 0
Sends body progress expected answer =
    ((length body + 4 ≤ 512) × (answer ≡ record { sent = framed body; progress = progress; expected = expected }))
    ⊎ ((512 < length body + 4) × (answer ≡ closes ReplyTooLarge expected))

-- the frame is the expected one: to an init a server may answer by a challenge, or at once by an outcome, and to a
-- response by its signature in a challenge, where the client accepts that, or by an outcome
abbrev pub IsInTurn : FrameKind → SaslFrame → Type 0
IsInTurn turns.Mechanisms (frames.Mechanisms names) = Unit {0}
IsInTurn turns.Init (frames.Init mechanism response hostname) = Unit {0}
IsInTurn turns.Challenge (frames.Challenge text) = Unit {0}
IsInTurn turns.Challenge (frames.Outcome code more) = Unit {0}
IsInTurn turns.Response (frames.Response text) = Unit {0}
IsInTurn turns.Outcome (frames.Outcome code more) = Unit {0}
IsInTurn turns.SignatureChallenge (frames.Challenge text) = Unit {0}
IsInTurn turns.SignatureChallenge (frames.Outcome code more) = Unit {0}
IsInTurn turn frame = ⊥

-- what a side answers to a body that spells this: no frame, and a frame out of turn, close it before the machine is
-- asked
abbrev pub AnswersTo : {S : Type 0} → (SideOutput → S → Type 0) → FrameKind → S → Result SaslFrame Error → SideOutput → S → Type 0
AnswersTo Asks turn state (Err fault) answer next = (answer ≡ closes (MalformedFrame fault) (Frame turn)) × (next ≡ state)
AnswersTo Asks turn state (Ok frame) answer next =
    (¬ IsInTurn turn frame × (answer ≡ closes UnexpectedFrame (Frame turn)) × (next ≡ state))
    ⊎ (IsInTurn turn frame × Asks answer next)

-- what a side answers to a unit that has arrived: its answers to the unit that it reads, by whether it accepts extended
-- headers
abbrev pub Reading : {S : Type 0} → Bool → (Expected → S → List ℕ → List ℕ → SideOutput → S → Type 0)
    → Expected → S → List ℕ → List ℕ → SideOutput → S → Type 0
Reading false Answers = Answers
Reading true Answers = λ expected state nonce unit answer next.
    Answers expected state nonce (unit_read true expected unit) answer next

-- a call keeps every byte and needs more
abbrev pub Waits : {S : Type 0} → Side S → List ℕ → ℕ → List ℕ → Side S → Type 0
Waits side bytes taken sent next =
    (taken ≡ length bytes) × (sent ≡ []) × (next ≡ record side { held = side.held ++ bytes })

-- a call takes the missing bytes of a unit of n bytes, and leaves the bytes after it
abbrev pub Ends : {S : Type 0} → Side S → ℕ → SideOutput → S → ℕ → List ℕ → Side S → Type 0
Ends side n answer state taken sent next =
    (taken ≡ n - length side.held) × (sent ≡ answer.sent)
    × (next ≡ record { progress = answer.progress; expected = answer.expected; limit = side.limit; held = []; state = state })

-- a call takes nothing and changes nothing
abbrev pub Rests : {S : Type 0} → Side S → ℕ → List ℕ → Side S → Type 0
Rests side taken sent next = (taken ≡ 0) × (sent ≡ []) × (next ≡ side)

-- what a call does with the bytes that it is passed, by the side's progress: they follow those that have arrived of the
-- unit
abbrev pub ReceivesAt : {S : Type 0} → Progress → (Expected → S → List ℕ → List ℕ → SideOutput → S → Type 0) → Side S → List ℕ
    → List ℕ → ℕ → List ℕ → Side S → Type 0
ReceivesAt {S} InProgress Answers side bytes nonce taken sent next = let come = side.held ++ bytes in
    (IsPart side.expected side.limit come × Waits side bytes taken sent next)
    ⊎ (IsRefused side.expected side.limit come × Ends side 4 (closes FrameSize side.expected) side.state taken sent next)
    ⊎ ((answer : SideOutput) × (state : S) × IsWhole side.expected side.limit come
    × Answers side.expected side.state nonce (take (unit_size side.expected come) come) answer state
    × Ends side (unit_size side.expected come) answer state taken sent next)
ReceivesAt Authenticated Answers side bytes nonce taken sent next = Rests side taken sent next
ReceivesAt (Failed why) Answers side bytes nonce taken sent next = Rests side taken sent next

-- what a call does with the bytes that it is passed
abbrev pub Receives : {S : Type 0} → (Expected → S → List ℕ → List ℕ → SideOutput → S → Type 0) → Side S → List ℕ → List ℕ → ℕ
    → List ℕ → Side S → Type 0
Receives Answers side bytes nonce taken sent next = ReceivesAt side.progress Answers side bytes nonce taken sent next

-- a side after the other side has ended its stream, by its progress before: a side in progress fails, and what had
-- arrived of the unit is dropped (AMQP 1.0, part 5, section 5.3.2: no outcome has been sent or received)
abbrev pub ended_at : {S : Type 0} → Progress → Side S → Side S
ended_at InProgress side = record side { progress = Failed EndOfInput; held = [] }
ended_at Authenticated side = side
ended_at (Failed why) side = side

abbrev pub after_end_of_input : {S : Type 0} → Side S → Side S
after_end_of_input side = ended_at side.progress side

-- these bytes complete a frame of this body
abbrev pub Completes : {S : Type 0} → Side S → List ℕ → FrameKind → List ℕ → Type 0
Completes side bytes turn body = let come = side.held ++ bytes in
    (side.progress ≡ InProgress) × (side.expected ≡ Frame turn) × IsWhole (Frame turn) side.limit come
    × (body ≡ drop 4 (take (size_of come) come))

-- these bytes complete a frame, and this holds of the side that holds nothing and the bytes of that frame without its
-- extended header
abbrev pub CompletesRead : {S : Type 0} → (Side S → List ℕ → Type 0) → Side S → List ℕ → Type 0
CompletesRead Holds side bytes = (turn : FrameKind) × (body : List ℕ) × Completes side bytes turn body
    × Holds (record side { held = [] }) (framed (unextended body))

-- where a call allocates, by whether the side accepts extended headers: where a call with these bytes would, or one with
-- the whole frame that the side reads
abbrev pub AsksReading : {S : Type 0} → Bool → (ℕ → Side S → List ℕ → Type 0) → ℕ → Side S → List ℕ → Type 0
AsksReading false Asks = Asks
AsksReading true Asks = λ room side bytes. Asks room side bytes ⊎ CompletesRead (Asks room) side bytes

-- what a call costs, by whether the side accepts extended headers: what a call with these bytes would, or one with the
-- whole frame that the side reads
abbrev pub CostsReading : {S : Type 0} → Bool → (Side S → List ℕ → List ℕ → ℕ → ℕ → Type 0) → Side S → List ℕ → List ℕ
    → ℕ → ℕ → Type 0
CostsReading false Costs = Costs
CostsReading true Costs = λ side bytes nonce before after. Costs side bytes nonce before after
    ⊎ CompletesRead (λ read body. Costs read body nonce before after) side bytes
