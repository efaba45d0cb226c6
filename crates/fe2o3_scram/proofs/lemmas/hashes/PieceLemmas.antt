-- Texts that come in pieces, as a loop over the pieces meets them.
use Rattle.std.proofs.Common.{◌≡◌, ◌<◌, ◌≤◌, ◌+◌, Bor, ℕ, List, [], ◌∷◌, ◌++◌, length, take, map, get_or, refl, sym, ap, ◌∙◌, append_assoc, arith}
use Rattle.std.proofs.lemmas.List.{take_more, map-append, append-nil}
use Rattle.std.proofs.lemmas.List.Folds.{concat-append}
use Rattle.fe2o3_scram.specs.private.Pieces.{whole}

-- one more piece
pub whole-more : (before : List ℕ) (pieces : List (Bor (List ℕ))) (k : ℕ) (none : Bor (List ℕ)) → k < length pieces
    → (before ++ whole (take k pieces)) ++ (get_or pieces k none).now ≡ before ++ whole (take (k + 1) pieces)
whole-more before pieces k none below =
    append_assoc before (whole (take k pieces)) (get_or pieces k none).now
    ∙ ap (λ text. before ++ text) (sym next)
  where
    next : whole (take (k + 1) pieces) ≡ whole (take k pieces) ++ (get_or pieces k none).now
    next = rw (take_more pieces k none below, map-append, concat-append, append-nil) refl

pub ruleset pieces = (append-nil)
