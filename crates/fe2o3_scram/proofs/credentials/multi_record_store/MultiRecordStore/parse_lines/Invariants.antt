use denote.Shadow.{shadow}
use denote.Text.{Utf8}
use Rattle.std.proofs.Common.{◌≡◌, ◌++◌, length}
use Rattle.std.specs.List.{AllByRecursion}
use Rattle.fe2o3_scram.specs.MultiRecordLines.{IsMixedReadable, mixed_text}
use Rattle.fe2o3_scram.proofs.credentials.multi_record_store.MultiRecordStore.parse_lines.Given as goal

abbrev pub invariant-loop-rest : goal.invariant-loop-rest
invariant-loop-rest l = record {
  readable : AllByRecursion IsMixedReadable l.store;
  read : l.text ≡ mixed_text l.store ++ l.rest;
  utf8 : shadow (Utf8 l.rest);
}

abbrev pub decreases-loop-rest : goal.decreases-loop-rest
decreases-loop-rest l = length l.rest
