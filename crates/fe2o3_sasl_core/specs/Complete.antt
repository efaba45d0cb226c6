-- Histories that never ran out of memory.
use Rattle.std.specs.Prelude.{◌≢◌, ℕ, Some, List, slice_get}
use Rattle.fe2o3_sasl_wire.specs.declared.sasl_frames.error.Error.TheVariants as faults
use Rattle.fe2o3_sasl_core.specs.Events.{ServerSays, Failed, ClientSays, Refused}
use Rattle.fe2o3_sasl_core.specs.declared.sasl_profile.error.ProfileError.TheVariants.{OutOfMemory}

-- no reply of a server is running out of memory
abbrev pub ServerComplete : List ServerSays → Type 0
ServerComplete replies = (k : ℕ) → slice_get replies k ≢ Some (Failed faults.OutOfMemory)

-- no reply of a client is running out of memory
abbrev pub ClientComplete : List ClientSays → Type 0
ClientComplete replies = (k : ℕ) → slice_get replies k ≢ Some (Refused OutOfMemory)
