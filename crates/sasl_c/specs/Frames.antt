-- What a struct of C shows of a frame that is read in place (AMQP 1.0, part 5, section 5.3.3).
use Rattle.std.specs.Prelude.{◌≡◌, ℕ, Option, Some, None, List, [], length, Result, Ok, Err}
use Rattle.std.specs.List.{Contains}
use Rattle.std.specs.Str.{IsUtf8}
use Rattle.fe2o3_sasl_wire.specs.declared.amqp_types.SaslCode.{SaslCode}
use Rattle.fe2o3_sasl_wire.specs.declared.amqp_types.SaslCode.TheVariants as outcomes
use Rattle.fe2o3_sasl_wire.specs.declared.sasl_frames.error.Error.{Error}
use Rattle.fe2o3_sasl_wire.specs.SaslFrames.{ReadsBody, SaslFrame}
use Rattle.fe2o3_sasl_wire.specs.SaslFrames as frames
use Rattle.sasl_c.specs.declared.frames.SaslFrameView.{SaslFrameView as Struct}
use Rattle.sasl_c.specs.declared.status.Status.{Status}
use Rattle.sasl_c.specs.declared.status.Status.TheVariants as statuses
use Rattle.sasl_c.specs.Connection.{frame_status}

-- the number of an outcome's code (part 5, section 5.3.3.6)
abbrev pub code_number : SaslCode → ℕ
code_number outcomes.Ok = 0
code_number outcomes.Auth = 1
code_number outcomes.Sys = 2
code_number outcomes.SysPerm = 3
code_number outcomes.SysTemp = 4

-- bytes that are given, or that are not
abbrev pub GivenBytes : ℕ → List ℕ → Option (List ℕ) → Type 0
GivenBytes has bytes None = (has ≡ 0) × (bytes ≡ [])
GivenBytes has bytes (Some given) = (has ≡ 1) × (bytes ≡ given)

-- the fields of a struct
abbrev pub ShowsFields : Struct → ℕ → ℕ → ℕ → List ℕ → Option (List ℕ) → Option (List ℕ) → Type 0
ShowsFields view kind code count mechanism message hostname = (view.kind ≡ kind) × (view.code ≡ code)
    × (view.count ≡ count) × (view.mechanism.now ≡ mechanism) × GivenBytes view.has_message view.message.now message
    × GivenBytes view.has_hostname view.hostname.now hostname

-- the struct shows this frame, its kind by the code of its descriptor
abbrev pub ShowsFrame : Struct → SaslFrame → Type 0
ShowsFrame view (frames.Mechanisms names) = ShowsFields view 64 0 (length names) [] None None
ShowsFrame view (frames.Init mechanism response hostname) = ShowsFields view 65 0 0 mechanism response hostname
ShowsFrame view (frames.Challenge text) = ShowsFields view 66 0 0 [] (Some text) None
ShowsFrame view (frames.Response text) = ShowsFields view 67 0 0 [] (Some text) None
ShowsFrame view (frames.Outcome code more) = ShowsFields view 68 (code_number code) 0 [] more None

-- the struct after a call: that of the frame that the body has, or the one before it
abbrev pub Views : List ℕ → Struct → Struct → Result (Unit {0}) Status → Type 0
Views body before after (Ok done) = (frame : SaslFrame) × ReadsBody body (Ok (frame, after.taken))
    × ShowsFrame after frame
Views body before after (Err status) = (fault : Error) × ReadsBody body (Err fault)
    × (status ≡ frame_status fault) × (after ≡ before)

-- whether the body is a list of mechanisms with this name (part 5, section 5.3.3.1); the name is tested first
abbrev pub OffersName : List ℕ → List ℕ → Result (Unit {0}) Status → Type 0
OffersName body name (Ok done) = IsUtf8 name × ((names : List (List ℕ)) × (taken : ℕ)
    × ReadsBody body (Ok (frames.Mechanisms names, taken)) × Contains names name)
OffersName body name (Err statuses.NotUtf8) = ¬ IsUtf8 name
OffersName body name (Err statuses.NotImplemented) = IsUtf8 name × ((names : List (List ℕ)) × (taken : ℕ)
    × ReadsBody body (Ok (frames.Mechanisms names, taken)) × ¬ Contains names name)
OffersName body name (Err statuses.UnexpectedFrame) = IsUtf8 name × ((frame : SaslFrame) × (taken : ℕ)
    × ReadsBody body (Ok (frame, taken))
    × ((names : List (List ℕ)) → ◌≡◌ {A = SaslFrame} frame (frames.Mechanisms names) → ⊥))
OffersName body name (Err status) = IsUtf8 name × ((fault : Error) × ReadsBody body (Err fault)
    × (status ≡ frame_status fault))
