use Rattle.std.proofs.Common.{◌≡◌}
use Rattle.fe2o3_scram.proofs.lemmas.hashes.PadLoopLemmas.{pad_after}
use Rattle.fe2o3_scram.proofs.hmac.keyed.pad_taken.Given as goal

abbrev pub invariant-loop-at : goal.invariant-loop-at
invariant-loop-at g l = l.pad ≡ pad_after l.mask 128 l.key l.at
