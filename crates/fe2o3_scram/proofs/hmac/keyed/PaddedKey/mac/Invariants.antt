use Rattle.std.proofs.Common.{ℕ, List, take, ◌++◌}
use Rattle.fe2o3_scram.specs.Hmac.{masked, key_block}
use Rattle.fe2o3_scram.specs.private.Hashers.{HasPads}
use Rattle.fe2o3_scram.specs.private.Pieces.{whole}
use Rattle.fe2o3_scram.proofs.hmac.keyed.PaddedKey.mac.Given as goal

-- the hasher has taken in the inner pad and the pieces so far
abbrev pub invariant-loop-piece : goal.invariant-loop-piece
invariant-loop-piece g l = (key : List ℕ)
    → HasPads g.H.Hasher.has_taken g.H.Hasher.hash l.self.inner l.self.outer key
    → g.H.Hasher.has_taken l.inner (masked 0x36 (key_block g.H.Hasher.hash key) ++ whole (take l.piece-index l.message))
