use Rattle.std.proofs.Common.{◌≡◌, ◌++◌, take}
use Rattle.fe2o3_scram.specs.RecordLines.{users_text}
use Rattle.fe2o3_scram.proofs.credentials.record_lines.push_users.Given as goal

abbrev pub invariant-loop-user : goal.invariant-loop-user
invariant-loop-user l = l.text.items ≡ l.fn.text.items ++ users_text l.scram_version (take l.user-index l.users)
