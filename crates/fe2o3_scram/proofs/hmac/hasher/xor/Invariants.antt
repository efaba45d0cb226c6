use Rattle.std.proofs.Common.{◌≡◌}
use Rattle.fe2o3_scram.proofs.lemmas.hashes.XorLoopLemmas.{xored_to}
use Rattle.fe2o3_scram.proofs.hmac.hasher.xor.Given as goal

abbrev pub invariant-loop-at : goal.invariant-loop-at
invariant-loop-at l = l.lhs ≡ xored_to l.fn.lhs l.rhs l.at
