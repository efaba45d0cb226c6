-- What `scram server` prints of a login: the project's own.
use Rattle.std.specs.Prelude.{◌++◌, ◌∷◌, ℕ, List, [], Option, None, Some, codes, nat_eq, if◌then◌else◌}
use Rattle.std.specs.Cmp.Lexicographic.{pointwise}
use Rattle.scram_base_lib.specs.Channel.{name_in}
use Rattle.scram_base_lib.specs.Shown.{shown_as}

-- the user who sent a name, by the name of its records, or as sent if no record can have the name
abbrev pub user_named : List ℕ → Option (List ℕ) → List ℕ
user_named sent None = sent
user_named sent (Some name) = name

-- the name that is printed of an identity: that of the user if the identity is the name that the client sent
abbrev pub identity_printed : List ℕ → List ℕ → List ℕ → List ℕ
identity_printed user sent identity = if pointwise nat_eq identity sent then user else identity

-- the line of a user who sent this name, and acts for an identity or for itself; 10 is the line feed
abbrev pub login_line : List ℕ → List ℕ → Option (List ℕ) → List ℕ
login_line user sent None = ((codes "scram: " ++ shown_as user) ++ codes " logged in") ++ (10 ∷ [])
login_line user sent (Some identity) = ((((codes "scram: " ++ shown_as user) ++ codes " logged in")
    ++ codes ", acts for ") ++ shown_as (identity_printed user sent identity)) ++ (10 ∷ [])

-- the channel of a server, by its argument KIND:HEX: its kind, or that there is none
abbrev pub channel_said : Option (List ℕ) → List ℕ
channel_said None = codes "none"
channel_said (Some word) = name_in word

-- what is said of the user of a login that is rejected: the name that the client claims, or that there is none
abbrev pub user_said : Option (List ℕ) → List ℕ
user_said None = codes "no user"
user_said (Some name) = codes "user " ++ shown_as name

-- the line of a login that is rejected: the user, the mechanism and the kind of the channel of the server, and the reason;
-- 10 is the line feed
abbrev pub rejected_line : Option (List ℕ) → List ℕ → List ℕ → List ℕ → List ℕ
rejected_line claimed mechanism kind reason = (((((((codes "scram: login rejected: " ++ user_said claimed) ++ codes ", ")
    ++ mechanism) ++ codes ", channel ") ++ kind) ++ codes ": ") ++ reason) ++ (10 ∷ [])
