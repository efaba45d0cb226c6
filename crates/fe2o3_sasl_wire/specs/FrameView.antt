-- What borrowed views show (AMQP 1.0, part 5, section 5.3).
use Rattle.std.specs.Prelude.{ℕ, List, Option, option_map, Result, Ok, Err}
use Rattle.std.specs.Borrow.{Bor}
use Rattle.fe2o3_sasl_wire.specs.declared.sasl_frames.error.Error.{Error}
use Rattle.fe2o3_sasl_wire.specs.declared.sasl_frames.frame_view.FrameView.{FrameView}
use Rattle.fe2o3_sasl_wire.specs.declared.sasl_frames.frame_view.FrameView.TheVariants as views
use Rattle.fe2o3_sasl_wire.specs.SaslFrames.{SaslFrame, Mechanisms, Init, Challenge, Response, Outcome}

-- the list that a borrowed binary or text shows (part 1, sections 1.6.19 and 1.6.20)
abbrev pub shown : Option (Bor (List ℕ)) → Option (List ℕ)
shown slice = option_map (λ x. x.now) slice

-- the frame that a view shows (part 5, section 5.3.3)
abbrev pub viewed_frame : FrameView → SaslFrame
viewed_frame (views.Mechanisms symbols) = Mechanisms symbols
viewed_frame (views.Init mechanism response hostname) = Init mechanism.now (shown response) (shown hostname)
viewed_frame (views.Challenge bytes) = Challenge bytes.now
viewed_frame (views.Response bytes) = Response bytes.now
viewed_frame (views.Outcome code bytes) = Outcome code (shown bytes)

-- the frame that a view shows with the length that was read, or the error (part 5, section 5.3.1)
abbrev pub viewed_answer : Result (FrameView × ℕ) Error → Result (SaslFrame × ℕ) Error
viewed_answer (Ok answer) = Ok (viewed_frame answer.0, answer.1)
viewed_answer (Err fault) = Err fault
