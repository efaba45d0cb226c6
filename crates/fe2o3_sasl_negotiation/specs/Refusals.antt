-- The additional data of an outcome by which a server rejects a login (AMQP 1.0, part 5, section 5.3.3.6).
use Rattle.std.specs.Prelude.{◌≡◌, ◌⊎◌, ℕ, Bool, Option, None, List, Result, Ok, Err}
use Rattle.fe2o3_sasl_wire.specs.declared.amqp_types.SaslCode.TheVariants as outcomes
use Rattle.fe2o3_sasl_wire.specs.declared.sasl_frames.error.Error.{Error}
use Rattle.fe2o3_sasl_wire.specs.SaslFrames.{SaslFrame}
use Rattle.fe2o3_sasl_wire.specs.SaslFrames as frames
use Rattle.fe2o3_sasl_core.specs.Bodies.{SpellsBody}
use Rattle.fe2o3_sasl_negotiation.specs.declared.progress.FrameKind.{FrameKind}
use Rattle.fe2o3_sasl_negotiation.specs.Framing.{body_read}
use Rattle.fe2o3_sasl_negotiation.specs.Negotiations.{Completes, IsInTurn, Side}

-- the additional data of a frame that rejects a login: an outcome with another code than Ok
abbrev pub rejection_data : SaslFrame → Option (List ℕ)
rejection_data (frames.Outcome outcomes.Ok more) = None
rejection_data (frames.Outcome code more) = more
rejection_data frame = None

-- the additional data by which a body that spells this rejects a login, where a frame of this turn is expected: a body
-- that spells no frame rejects none, and neither does a frame that is out of turn
abbrev pub RejectsBy : FrameKind → Result SaslFrame Error → Option (List ℕ) → Type 0
RejectsBy turn (Err fault) more = more ≡ None
RejectsBy turn (Ok frame) more =
    (IsInTurn turn frame × (more ≡ rejection_data frame)) ⊎ (¬ IsInTurn turn frame × (more ≡ None))

-- and by which a body does
abbrev pub RejectsWith : FrameKind → List ℕ → Option (List ℕ) → Type 0
RejectsWith turn body more = (spelled : Result SaslFrame Error) × SpellsBody body spelled × RejectsBy turn spelled more

-- the additional data by which the frame rejects a login that these bytes complete, read by whether the side accepts
-- extended headers; none if they complete no frame
abbrev pub CompletesRefusal : {S : Type 0} → Bool → Side S → List ℕ → Option (List ℕ) → Type 0
CompletesRefusal accepts side bytes more = ((turn : FrameKind) × (body : List ℕ) × Completes side bytes turn body
    × RejectsWith turn (body_read accepts body) more)
    ⊎ (((turn : FrameKind) (body : List ℕ) → ¬ Completes side bytes turn body) × (more ≡ None))
