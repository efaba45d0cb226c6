use Rattle.std.proofs.Common.{◌≡◌, take}
use Rattle.std.specs.Borrow.{Bor}
use Rattle.std.specs.Prelude.{map}
use Rattle.fe2o3_scram.specs.Credentials.{VersionedRecord}
use Rattle.fe2o3_scram.specs.Mixed.{records_named}
use Rattle.fe2o3_scram.proofs.credentials.multi_record_store.MultiRecordStore.records.Given as goal

abbrev pub invariant-loop-user : goal.invariant-loop-user
invariant-loop-user l = map (λ (kept : Bor VersionedRecord). kept.now) l.found.items
    ≡ records_named (take l.user-index l.self) l.username
