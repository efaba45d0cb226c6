-- What the initial response of EXTERNAL asks for (RFC 4422, appendix A).
use Rattle.std.specs.Prelude.{◌≡◌, ◌⊎◌, ℕ, Option, Some, None, List, []}

-- an initial response asks for this name: by no identity or the empty one, or by the name itself
abbrev pub AsksFor : List ℕ → Option (List ℕ) → Type 0
AsksFor user None = Unit {0}
AsksFor user (Some identity) = (identity ≡ []) ⊎ (identity ≡ user)
