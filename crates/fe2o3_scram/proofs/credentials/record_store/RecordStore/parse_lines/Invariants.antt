use denote.Shadow.{shadow}
use denote.Text.{Utf8}
use Rattle.std.proofs.Common.{◌≡◌, ◌++◌, length}
use Rattle.std.specs.List.{AllByRecursion}
use Rattle.fe2o3_scram.specs.RecordLines.{IsLineReadable, users_text}
use Rattle.fe2o3_scram.proofs.credentials.record_store.RecordStore.parse_lines.Given as goal

abbrev pub invariant-loop-rest : goal.invariant-loop-rest
invariant-loop-rest l = record {
  version : l.store.version ≡ l.fn.scram_version;
  readable : AllByRecursion (IsLineReadable l.fn.scram_version) l.store.records;
  read : l.text ≡ users_text l.fn.scram_version l.store.records ++ l.rest;
  utf8 : shadow (Utf8 l.rest);
}

abbrev pub decreases-loop-rest : goal.decreases-loop-rest
decreases-loop-rest l = length l.rest
