use Rattle.std.proofs.Common.{arith}
use Rattle.fe2o3_scram.proofs.lemmas.hashes.SameBytesLemmas.{same_next, none_next, same_all}
use Rattle.fe2o3_scram.proofs.same_bytes.turned_bits.Goals as goal

pub loop-at-preserved : goal.loop-at-preserved
loop-at-preserved c = record {
  same = same_next c.args.left.now c.args.right.now c.loop-at.at c.loop-at.turned c.loop-at.invariant.same;
  none = none_next c.args.left.now c.args.right.now c.loop-at.at c.loop-at.turned c.loop-at.invariant.none;
}

pub returns : goal.returns
returns c = (
  λ none. same_all c.args.left.now c.args.right.now c.loop-at.at c.requires (omega (arith, c.loop-at-test.false))
      (c.loop-at.invariant.same none),
  λ same. c.loop-at.invariant.none same,
)
