use Rattle.std.proofs.Common.{take}
use Rattle.std.specs.List.{AllByRecursion}
use Rattle.fe2o3_scram.specs.MultiRecordLines.{IsMixedWritable}
use Rattle.fe2o3_scram.proofs.credentials.multi_record_lines.are_writable.Given as goal

abbrev pub invariant-loop-user : goal.invariant-loop-user
invariant-loop-user l = AllByRecursion IsMixedWritable (take l.user-index l.users)
