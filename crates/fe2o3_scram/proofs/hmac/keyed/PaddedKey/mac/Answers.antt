use Rattle.std.proofs.Common.{[], subst}
use Rattle.fe2o3_scram.specs.Hmac.{masked, key_block}
use Rattle.fe2o3_scram.proofs.lemmas.hashes.PieceLemmas.{whole-more}
use Rattle.fe2o3_scram.proofs.hmac.keyed.PaddedKey.mac.Goals as goal

pub loop-piece-preserved : goal.loop-piece-preserved
loop-piece-preserved g c = λ key is.
    subst (g.H.Hasher.has_taken c.take_in.new.self)
    (whole-more (masked 0x36 (key_block g.H.Hasher.hash key)) c.args.message.now c.loop-piece.piece-index
    (record { ref_ptr = (0, 0); now = [] }) c.loop-piece-test.true)
    (c.take_in.ensures _ (c.loop-piece.invariant key is))
