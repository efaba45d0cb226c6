use Rattle.std.proofs.Common.{◌≢◌, ℕ, Some, map, take}
use Rattle.std.specs.Prelude.{slice_get}
use Rattle.fe2o3_sasl.specs.private.ServerReceipts.{no_memory}
use Rattle.fe2o3_sasl_core.specs.Runs.{server_answer}
use Rattle.fe2o3_sasl.proofs.audit.server_receipts.server_is_complete.Given as goal

abbrev pub invariant-loop-reply : goal.invariant-loop-reply
invariant-loop-reply l =
    (k : ℕ) → slice_get (map server_answer (take l.reply-index l.replies)) k ≢ Some no_memory
