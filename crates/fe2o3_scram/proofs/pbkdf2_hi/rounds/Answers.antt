use Rattle.std.proofs.Common.{arith}
use Rattle.fe2o3_scram.proofs.lemmas.hashes.HiRoundLemmas.{next_round, next_salted}
use Rattle.fe2o3_scram.proofs.pbkdf2_hi.rounds.Goals as goal

pub loop-done-preserved : goal.loop-done-preserved
loop-done-preserved g c =
    let from = c.loop-done.auto._done in
    record {
      round = λ key is. next_round g.H.Hasher.hash key c.args.salt.now c.loop-done.round c.mac_one-round.result
          c.loop-done._done from (c.loop-done.invariant.round key is) (c.mac_one-round.ensures.value key is);
      salted = λ key is.
          let round = next_round g.H.Hasher.hash key c.args.salt.now c.loop-done.round c.mac_one-round.result
          c.loop-done._done from (c.loop-done.invariant.round key is) (c.mac_one-round.ensures.value key is) in
          next_salted g.H.Hasher.hash key c.args.salt.now c.loop-done.sum c.mac_one-round.result
          c.xor.new.lhs c.loop-done._done from (c.loop-done.invariant.salted key is) round c.xor.ensures;
      counted = omega (arith, c.mac_one-round.ensures.counted, c.loop-done.invariant.counted);
    }
