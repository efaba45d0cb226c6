use Rattle.std.proofs.Common.{◌∙◌, arith}
use Rattle.fe2o3_scram.proofs.lemmas.hashes.XorLoopLemmas.{xored_to-zero, xored_to-next, xored_to-all}
use Rattle.fe2o3_scram.proofs.hmac.hasher.xor.Goals as goal

pub loop-at-init : goal.loop-at-init
loop-at-init c = xored_to-zero c.args.lhs.now c.args.rhs.now

pub loop-at-preserved : goal.loop-at-preserved
loop-at-preserved c = xored_to-next c.loop-at.at c.args.lhs.now c.args.rhs.now c.loop-at.lhs c.loop-at-test.true
    c.requires c.loop-at.invariant

pub returns : goal.returns
returns c =
    let all = c.loop-at.auto in
    c.loop-at.invariant ∙ xored_to-all c.loop-at.at c.args.lhs.now c.args.rhs.now
    (omega (arith, c.loop-at-test.false, all.at-end)) (omega (arith, c.loop-at-test.false, all.at-end, c.requires))
