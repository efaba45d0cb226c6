use Rattle.std.proofs.Common.{◌≡◌, ◌++◌, take}
use Rattle.fe2o3_scram.specs.MultiRecordLines.{mixed_text}
use Rattle.fe2o3_scram.proofs.credentials.multi_record_lines.push_users.Given as goal

abbrev pub invariant-loop-user : goal.invariant-loop-user
invariant-loop-user l = l.text.items ≡ l.fn.text.items ++ mixed_text (take l.user-index l.users)
