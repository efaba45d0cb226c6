use Rattle.std.proofs.Common.{[], subst}
use Rattle.fe2o3_scram.proofs.lemmas.hashes.PadLoopLemmas.{pad_after-next, take-pad}
use Rattle.fe2o3_scram.proofs.hmac.keyed.pad_taken.Goals as goal

pub loop-at-preserved : goal.loop-at-preserved
loop-at-preserved g c = pad_after-next g.H.Hasher.hash c.args.mask c.loop-at.at c.args.key.now c.loop-at.pad
    c.loop-at-test.true c.requires c.loop-at.invariant

pub returns : goal.returns
returns g c =
    let taken = rw (c.block_len.ensures, c.version.ensures) at (c.take_in.ensures [] c.start-hasher.ensures) in
    subst (g.H.Hasher.has_taken c.take_in.new.self)
    (take-pad g.H.Hasher.hash c.args.mask c.loop-at.at c.args.key.now c.loop-at.pad c.loop-at-test.false
    c.loop-at.auto.at-end c.requires c.loop-at.invariant)
    taken
