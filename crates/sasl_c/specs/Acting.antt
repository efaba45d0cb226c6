-- Whom a user may act for, as a text of C (RFC 4422, section 2).
use Rattle.std.specs.Prelude.{ℕ, List, map, nat_eq}
use Rattle.std.specs.List.{slice_split}
use Rattle.fe2o3_scram.specs.ActingRights.{Rights}

-- the identities of a text, with a zero byte after each. What follows the last zero byte is one too: the empty text, which
-- no client can name, if the text ends with a zero byte
abbrev pub identities_in : List ℕ → List (List ℕ)
identities_in text = slice_split (λ byte. nat_eq byte 0) text

-- the right of a user to each identity of a text
abbrev pub rights_for : List ℕ → List ℕ → Rights
rights_for user text = map (λ identity. (user, identity)) (identities_in text)
