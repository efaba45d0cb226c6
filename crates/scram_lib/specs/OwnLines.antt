-- The lines that `scram server` uses: those of the user that a client claims, and no others (RFC 5802, section 5.1; RFC 5803,
-- section 2).
use Rattle.std.specs.Prelude.{◌≡◌, ◌++◌, ◌==◌, ◌&&◌, ◌∷◌, ℕ, Bool, List, [], Option, None, Some, drop, flat_map, length, nat_eq, not, string_bytes, take, if◌then◌else◌}
use Rattle.std.specs.Cmp.Lexicographic.{pointwise}
use Rattle.std.specs.List.{concat, list_any}
use Rattle.fe2o3_scram.specs.Escape.{escaped}
use Rattle.scram_lib.specs.declared.server.source.Source.{Source}
use Rattle.scram_lib.specs.declared.server.source.Source.TheVariants as sources
use Rattle.scram_lib.specs.Names.{IsLookedUp}

-- how the lines of a user begin: with the name, escaped, and a space (32)
abbrev pub head_of : List ℕ → List ℕ
head_of name = escaped name ++ (32 ∷ [])

-- a line with another start in place of a user's, if it is one of the user: it has the user's start, and no space after that
abbrev pub line_as : List ℕ → List ℕ → List ℕ → List ℕ
line_as user other line = if pointwise nat_eq (take (length user) line) user
    && not (list_any (λ b. b == 32) (drop (length user) line)) then other ++ drop (length user) line else []

-- the lines of a user in a text, in order, with another name in place of the user's
abbrev pub AreLinesAs : List ℕ → List ℕ → List ℕ → List ℕ → Type 0
AreLinesAs text name other own = (lines : List (List ℕ)) × (text ≡ concat lines)
    × (own ≡ flat_map (line_as (head_of name) (head_of other)) lines)

-- the text of the file of lines that a source is; none for a database
abbrev pub source_text : {D : Type 0} → Source D → Option (List ℕ)
source_text (sources.Text text) = Some (string_bytes text)
source_text (sources.Database db) = None

-- the text of a file of lines, or one that a database gives for a name
abbrev pub IsHeld : Option (List ℕ) → List ℕ → Type 0
IsHeld None text = Unit {0}
IsHeld (Some held) text = text ≡ held

-- the lines of the user who sends a name, by the name of its records: none if no record can have the name
abbrev pub AreLinesOfName : Option (List ℕ) → List ℕ → Option (List ℕ) → List ℕ → Type 0
AreLinesOfName held sent None own = own ≡ []
AreLinesOfName held sent (Some name) own = (text : List ℕ) × IsHeld held text × AreLinesAs text name sent own

-- the lines for a client that claims a name, if any, with the name as sent, by whether the server prepares names
abbrev pub AreLinesFor : Bool → Option (List ℕ) → Option (List ℕ) → List ℕ → Type 0
AreLinesFor saslprep held None own = own ≡ []
AreLinesFor saslprep held (Some sent) own =
    (name : Option (List ℕ)) × IsLookedUp saslprep sent name × AreLinesOfName held sent name own
