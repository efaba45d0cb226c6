-- What private contracts cite: the bytes that are taken of a unit, and what a function appends.
use Rattle.std.specs.Prelude.{◌≡◌, ◌⊎◌, ℕ, List, ◌++◌, take, Result, Ok, Err}
use Rattle.fe2o3_sasl_wire.specs.declared.sasl_frames.error.Error.{Error}
use Rattle.fe2o3_sasl_wire.specs.FrameView.{viewed_frame}
use Rattle.fe2o3_sasl_wire.specs.SaslFrames.{SaslFrame}
use Rattle.fe2o3_sasl_wire.specs.declared.sasl_frames.frame_view.FrameView.{FrameView}
use Rattle.fe2o3_sasl_core.specs.Bodies.{SpellsBody}
use Rattle.fe2o3_sasl_negotiation.specs.declared.framing.Arrived.{Arrived}
use Rattle.fe2o3_sasl_negotiation.specs.declared.framing.Arrived.TheVariants.{Part, Refused, Whole}
use Rattle.fe2o3_sasl_negotiation.specs.declared.framing.Step.{Step}
use Rattle.fe2o3_sasl_negotiation.specs.declared.progress.Expected.{Expected}
use Rattle.fe2o3_sasl_negotiation.specs.declared.progress.CloseReason.{CloseReason}
use Rattle.fe2o3_sasl_negotiation.specs.declared.progress.CloseReason.TheVariants.{UnexpectedFrame, MalformedFrame}
use Rattle.fe2o3_sasl_negotiation.specs.declared.progress.FrameKind.{FrameKind}
use Rattle.fe2o3_sasl_negotiation.specs.declared.progress.Progress.TheVariants.{InProgress}
use Rattle.fe2o3_sasl_negotiation.specs.Framing.{unit_size, IsPart, IsRefused, IsWhole}
use Rattle.fe2o3_sasl_negotiation.specs.Negotiations.{Side, SideOutput, IsInTurn}

-- what has arrived of the expected unit, and what of it is kept
abbrev pub TakesUnit : Expected → ℕ → List ℕ → Arrived → List ℕ → Type 0
TakesUnit expected limit come Part kept = IsPart expected limit come × (kept ≡ come)
TakesUnit expected limit come Refused kept = IsRefused expected limit come × (kept ≡ take 4 come)
TakesUnit expected limit come Whole kept = IsWhole expected limit come × (kept ≡ take (unit_size expected come) come)

-- an answer is appended to the bytes to send
abbrev pub Appends : (SideOutput → Type 0) → List ℕ → List ℕ → Step → Type 0
Appends Answers old new step = (sent : List ℕ) × (new ≡ old ++ sent)
    × Answers (record { sent = sent; progress = step.progress; expected = step.expected })

-- a body whose frame is of this turn is read, and another closes the negotiation
abbrev pub ReadsExpected : FrameKind → List ℕ → Result FrameView CloseReason → Type 0
ReadsExpected turn body (Ok view) = SpellsBody body (Ok (viewed_frame view)) × IsInTurn turn (viewed_frame view)
ReadsExpected turn body (Err why) = ((fault : Error) × SpellsBody body (Err fault) × (why ≡ MalformedFrame fault))
    ⊎ ((frame : SaslFrame) × SpellsBody body (Ok frame) × ¬ IsInTurn turn frame × (why ≡ UnexpectedFrame))

-- these bytes complete this unit, with those that have arrived of it
abbrev pub CompletesUnit : {S : Type 0} → Side S → List ℕ → Expected → List ℕ → Type 0
CompletesUnit side bytes expected unit = let come = side.held ++ bytes in
    (side.progress ≡ InProgress) × (side.expected ≡ expected) × IsWhole expected side.limit come
    × (unit ≡ take (unit_size expected come) come)
