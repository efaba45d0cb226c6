-- The errors of a profile's calls, and the results of those calls, as a frame or an error.
use Rattle.std.specs.Prelude.{Result, Ok, Err}
use Rattle.fe2o3_sasl_wire.specs.declared.sasl_frames.error.Error.{Error}
use Rattle.fe2o3_sasl_wire.specs.declared.sasl_frames.error.Error.TheVariants as wire_faults
use Rattle.fe2o3_sasl_wire.specs.SaslFrames.{SaslFrame}
use Rattle.fe2o3_scram.specs.declared.scram_messages.error.ScramErrorKind.{ScramErrorKind}
use Rattle.fe2o3_scram.specs.declared.scram_messages.error.ScramErrorKind.TheVariants as kinds
use Rattle.fe2o3_sasl_core.specs.declared.sasl_profile.error.ProfileError.{ProfileError}
use Rattle.fe2o3_sasl_core.specs.declared.sasl_profile.error.ProfileError.TheVariants as faults

-- the result of a call, as a frame or an error
abbrev pub answered : {A : Type 0} → (A → SaslFrame) → Result A ProfileError → Result SaslFrame ProfileError
answered frame (Ok value) = Ok (frame value)
answered frame (Err fault) = Err fault

-- the error for an error of SCRAM: neither running out of memory nor stale keys are inside another error
abbrev pub fault_of_kind : ScramErrorKind → ProfileError
fault_of_kind kinds.OutOfMemory = faults.OutOfMemory
fault_of_kind kinds.StaleKeys = faults.StaleKeys
fault_of_kind kind = faults.Scram kind

-- the error for a frame that is not read or not written; running out of memory is not inside another error
abbrev pub fault_of_frame : Error → ProfileError
fault_of_frame wire_faults.OutOfMemory = faults.OutOfMemory
fault_of_frame fault = faults.Frame fault
