-- That a number which is that of no status has the text of an unknown one.
use Rattle.std.proofs.Common.{refl, ap, ◌∙◌, ◌≡◌, ◌≢◌, ◌∷◌, ℕ, List, []}
use Rattle.std.specs.Prelude.{Bool, true, false, codes, nat_eq, if◌then◌else◌}
use Rattle.std.proofs.lemmas.Bool.Decides.{Decides-eqb}
use Rattle.sasl_c.specs.Texts.{text_in}

-- the number is that of none of these rows, of which the last was looked at last
abbrev pub IsNoneOf : List (ℕ × List ℕ) → ℕ → Type 0
IsNoneOf [] number = Unit {0}
IsNoneOf (row ∷ rows) number = IsNoneOf rows number × (number ≢ row.0)

-- rows that are turned round, and others after them
abbrev pub turned : List (ℕ × List ℕ) → List (ℕ × List ℕ) → List (ℕ × List ℕ)
turned [] after = after
turned (row ∷ rows) after = turned rows (row ∷ after)

passed : (row : ℕ × List ℕ) (rows : List (ℕ × List ℕ)) (number : ℕ) → number ≢ row.0
    → text_in (row ∷ rows) number ≡ text_in rows number
passed row rows number other = go (nat_eq number row.0) refl
  where
    go : (same : Bool) → nat_eq number row.0 ≡ same → text_in (row ∷ rows) number ≡ text_in rows number
    go true is = absurd (other ((Decides-eqb number row.0).0 is))
    go false is = ap (λ (same : Bool). if same then row.1 else text_in rows number) is

pub unknown : (rows after : List (ℕ × List ℕ)) (number : ℕ) → IsNoneOf rows number
    → text_in after number ≡ codes "Unknown status" → text_in (turned rows after) number ≡ codes "Unknown status"
unknown [] after number none is = is
unknown (row ∷ rows) after number none is =
    unknown rows (row ∷ after) number none.0 (passed row after number none.1 ∙ is)
