use Rattle.std.proofs.Common.{◌≡◌}
use Rattle.fe2o3_scram.proofs.lemmas.hashes.SameBytesLemmas.{SameTo}
use Rattle.fe2o3_scram.proofs.same_bytes.turned_bits.Given as goal

abbrev pub invariant-loop-at : goal.invariant-loop-at
invariant-loop-at l = record {
  same : l.turned ≡ 0 → SameTo l.left l.right l.at;
  none : l.left ≡ l.right → l.turned ≡ 0;
}
