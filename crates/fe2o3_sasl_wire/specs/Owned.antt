-- The frames that owned values hold, and which views have such a frame (AMQP 1.0, part 5, section 5.3).
use Rattle.std.specs.Prelude.{IsAscii}
use Rattle.fe2o3_sasl_wire.specs.declared.sasl_frames.Frame.{Frame}
use Rattle.fe2o3_sasl_wire.specs.declared.sasl_frames.Frame.TheVariants as frames
use Rattle.fe2o3_sasl_wire.specs.declared.sasl_frames.error.Error.{Error}
use Rattle.fe2o3_sasl_wire.specs.declared.sasl_frames.error.Error.TheVariants as faults
use Rattle.fe2o3_sasl_wire.specs.SaslFrames.{SaslFrame, Init}
use Rattle.fe2o3_sasl_wire.specs.AmqpTypes.{mechanisms_frame, init_frame, challenge_frame, response_frame, outcome_frame}

-- the frame that a value holds (part 5, section 5.3.3)
abbrev pub owned_frame : Frame → SaslFrame
owned_frame (frames.Mechanisms mechanisms) = mechanisms_frame mechanisms
owned_frame (frames.Init init) = init_frame init
owned_frame (frames.Challenge challenge) = challenge_frame challenge
owned_frame (frames.Response response) = response_frame response
owned_frame (frames.Outcome outcome) = outcome_frame outcome

-- the mechanism of an init is ASCII, as symbols are (part 1, section 1.6.21)
abbrev pub HasAsciiMechanism : SaslFrame → Type 0
HasAsciiMechanism (Init mechanism response hostname) = IsAscii mechanism
HasAsciiMechanism _ = Unit {0}

-- why a view has no owned frame: the mechanism is not ASCII (part 1, section 1.6.21); or allocation fails, and then it
-- is
abbrev pub RefusesView : SaslFrame → Error → Type 0
RefusesView frame faults.DecodeError = ¬ (HasAsciiMechanism frame)
RefusesView frame faults.OutOfMemory = HasAsciiMechanism frame
RefusesView frame _ = ⊥
