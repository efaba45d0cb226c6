use Rattle.std.proofs.Common.{◌≢◌, ℕ, Some, map, take}
use Rattle.std.specs.Prelude.{slice_get}
use Rattle.fe2o3_sasl_core.specs.Events.{Refused}
use Rattle.fe2o3_sasl_core.specs.Runs.{client_answer}
use Rattle.fe2o3_sasl_core.specs.declared.sasl_profile.error.ProfileError.TheVariants.{OutOfMemory}
use Rattle.fe2o3_sasl.proofs.audit.client_receipts.client_is_complete.Given as goal

abbrev pub invariant-loop-reply : goal.invariant-loop-reply
invariant-loop-reply l = (k : ℕ)
    → slice_get (map client_answer (take l.reply-index l.replies)) k ≢ Some (Refused OutOfMemory)
