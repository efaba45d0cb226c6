use Rattle.std.proofs.Common.{◌≡◌, false, take}
use Rattle.std.specs.Prelude.{is_some}
use Rattle.fe2o3_scram.specs.Credentials.{record_at}
use Rattle.fe2o3_scram.proofs.credentials.users.put_first.Given as goal

abbrev pub invariant-loop-user : goal.invariant-loop-user
invariant-loop-user l = record {
  same : l.users ≡ l.fn.users;
  mock : is_some (record_at (take l.user-index l.users) l.username) ≡ false;
}
