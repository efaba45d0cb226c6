use Rattle.std.proofs.Common.{take}
use Rattle.std.specs.List.{AllByRecursion}
use Rattle.fe2o3_scram.specs.RecordLines.{IsWritable}
use Rattle.fe2o3_scram.proofs.credentials.record_lines.are_writable.Given as goal

abbrev pub invariant-loop-user : goal.invariant-loop-user
invariant-loop-user l = AllByRecursion (IsWritable l.scram_version) (take l.user-index l.users)
