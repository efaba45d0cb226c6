use Rattle.std.proofs.Common.{length, ◌-◌, ◌≤◌}
use Rattle.example_quick_start.proofs.connection.pass.Given as goal

abbrev pub invariant-loop-taken : goal.invariant-loop-taken
invariant-loop-taken g l = l.taken ≤ length l.input

abbrev pub decreases-loop-taken : goal.decreases-loop-taken
decreases-loop-taken g l = length l.input - l.taken
