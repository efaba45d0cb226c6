-- Bodies of frames in both histories and runs: what a body spells, and the reply that carries a frame.
use Rattle.std.specs.Prelude.{ℕ, Option, Some, None, List, Result, Ok, Err}
use Rattle.fe2o3_sasl_wire.specs.declared.sasl_frames.error.Error.{Error}
use Rattle.fe2o3_sasl_wire.specs.declared.sasl_frames.error.Error.TheVariants as faults
use Rattle.fe2o3_sasl_wire.specs.SaslFrames as frames
use Rattle.fe2o3_sasl_wire.specs.SaslFrames.{ReadsBody, SaslFrame, canonical}
use Rattle.fe2o3_sasl_core.specs.Events.{ServerSays, Challenged, Concluded, Failed}

-- what a body spells: the frame that a prefix of it spells, or the error of a body of which none does
abbrev pub SpellsBody : List ℕ → Result SaslFrame Error → Type 0
SpellsBody body (Ok frame) = (n : ℕ) × ReadsBody body (Ok (frame, n))
SpellsBody body (Err fault) = ReadsBody body (Err fault)

-- the reply that carries a frame in its canonical body; the frame is too large if it has none
abbrev pub carried : {A : Type 0} → A → (List ℕ → A) → Option (List ℕ) → A
carried too_large says None = too_large
carried too_large says (Some body) = says body

-- a server's reply with a frame in this body
abbrev pub server_says : SaslFrame → List ℕ → ServerSays
server_says (frames.Outcome code more) body = Concluded code body
server_says frame body = Challenged body

-- a server's reply with a frame in its canonical body; it fails if there is none
abbrev pub says_frame : SaslFrame → ServerSays
says_frame frame = carried (Failed faults.TooLarge) (server_says frame) (canonical frame)
