-- Who may act as whom (RFC 4422, section 2): a user who is authenticated may act for another identity, if the server allows
-- it.
use Rattle.std.specs.Prelude.{ℕ, List, [], Bool, true, ◌&&◌, ◌||◌, Option, Some, None, nat_eq}
use Rattle.std.specs.Cmp.Lexicographic.{pointwise}
use Rattle.std.specs.List.{list_any}

-- pairs of a user (the authentication identity) and an identity that the user may act for (the authorization identity)
abbrev pub Rights : Type 0
Rights = List (List ℕ × List ℕ)

-- whether a user may act for an identity, or for itself if none is named (RFC 4422, section 2): the identity is the user's
-- own name, or one that the user has a right to
abbrev pub may_act : Rights → List ℕ → Option (List ℕ) → Bool
may_act rights user None = true
may_act rights user (Some name) = pointwise nat_eq user name
    || list_any (λ (right : List ℕ × List ℕ). pointwise nat_eq right.0 user && pointwise nat_eq right.1 name) rights

-- the rights that there are, or none
abbrev pub some_rights : Option Rights → Rights
some_rights None = []
some_rights (Some rights) = rights
