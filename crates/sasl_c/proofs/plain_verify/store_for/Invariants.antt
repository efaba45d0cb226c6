use Rattle.std.proofs.Common.{drop}
use Rattle.std.specs.Prelude.{Option}
use Rattle.fe2o3_scram.specs.Credentials.{VersionedRecord}
use Rattle.sasl_c.specs.Plain.{FirstShown}
use Rattle.sasl_c.proofs.plain_verify.store_for.Given as goal

-- the structs so far show none
abbrev pub invariant-loop-kept : goal.invariant-loop-kept
invariant-loop-kept l = (found : Option VersionedRecord) → FirstShown (drop l.kept-index l.records) found
    → FirstShown l.records found
