-- Who may act as whom at `scram server` (RFC 4422, section 2), by its arguments `--may-act USER:IDENTITY` and by the lines
-- `USER IDENTITY` of `FILE.rights`: the project's own spelling.
use Rattle.std.specs.Prelude.{◌≡◌, ◌==◌, ◌&&◌, ◌<◌, ◌++◌, ◌∷◌, ℕ, Bool, List, [], Option, None, Some, flat_map, length, nat_eq, nat_lt, if◌then◌else◌}
use Rattle.std.specs.Cmp.Lexicographic.{pointwise}
use Rattle.std.specs.List.{Contains, after_first, before_first}
use Rattle.fe2o3_scram.specs.ActingRights.{Rights}
use Rattle.fe2o3_scram.specs.Escape.{escaped}
use Rattle.fe2o3_scram.specs.Texts.{Cut}
use Rattle.scram_lib.specs.Names.{IsLookedUp}

-- the user that an argument names: the text before the first colon (58), which is all of it if there is none
abbrev pub right_user : List ℕ → List ℕ
right_user word = before_first (λ b. b == 58) word

-- the identity that an argument names: the text after the first colon, which is empty if there is none
abbrev pub right_identity : List ℕ → List ℕ
right_identity word = after_first (λ b. b == 58) word

-- whether an argument names a user and an identity
abbrev pub names_both : List ℕ → Bool
names_both word = nat_lt 0 (length (right_user word)) && nat_lt 0 (length (right_identity word))

-- the right that an argument gives to the user whose records have this name, and who sends another one or the same
abbrev pub right_by : List ℕ → List ℕ → List ℕ → Rights
right_by sent name word = if pointwise nat_eq (right_user word) name then (sent, right_identity word) ∷ [] else []

-- the rights of the user whose records have this name: to act for that name, and for each identity that the arguments give
-- to it, if there are any
abbrev pub rights_by : Option (List (List ℕ)) → List ℕ → List ℕ → Rights
rights_by None sent name = (sent, name) ∷ []
rights_by (Some words) sent name = (sent, name) ∷ flat_map (right_by sent name) words

-- the rights of the user who sends a name, by the name of its records: none if no record can have the name
abbrev pub AreRightsOfName : Option (List (List ℕ)) → List ℕ → Option (List ℕ) → Rights → Type 0
AreRightsOfName words sent None rights = rights ≡ []
AreRightsOfName words sent (Some name) rights = rights ≡ rights_by words sent name

-- the rights at a server of a client that claims a name, if any, by whether the server prepares names
abbrev pub AreRightsOf : Bool → Option (List (List ℕ)) → Option (List ℕ) → Rights → Type 0
AreRightsOf saslprep words None rights = rights ≡ []
AreRightsOf saslprep words (Some sent) rights =
    (name : Option (List ℕ)) × IsLookedUp saslprep sent name × AreRightsOfName words sent name rights

-- the rights of arguments, if there are any
abbrev pub words_of : Option (List (List ℕ)) → List (List ℕ)
words_of None = []
words_of (Some words) = words

-- a line of `FILE.rights` gives this right, as an argument would: before its first space (32) is the user, who has no colon
-- (58), and after it the identity, both escaped (RFC 5802, section 5.1), and neither is empty
pub record GivesRight (line word : List ℕ) : Type 0 where
  pub user : List ℕ
  pub identity : List ℕ
  pub cut : Cut 32 line (escaped user) (escaped identity)
  pub some_user : 0 < length user
  pub some_identity : 0 < length identity
  pub no_colon : ¬ Contains user 58
  pub spelled : word ≡ user ++ (58 ∷ identity)
