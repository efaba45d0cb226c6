-- Texts in pieces. No public clause cites this file.
use Rattle.std.specs.Prelude.{ℕ, List, map}
use Rattle.std.specs.List.{concat}
use Rattle.std.specs.Borrow.{Bor}

-- the concatenated pieces
abbrev pub whole : List (Bor (List ℕ)) → List ℕ
whole pieces = concat (map (λ piece. piece.now) pieces)
