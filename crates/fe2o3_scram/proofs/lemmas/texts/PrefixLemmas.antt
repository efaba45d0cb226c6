-- Bytes that begin with others, as `strip_prefix` and `==` say it of slices.
use Rattle.std.proofs.Common.{◌≡◌, ℕ, List, refl, true, false, Bool}
use Rattle.std.specs.Prelude.{◌↔◌, nat_eq}
use Rattle.std.specs.Cmp.Lexicographic.{pointwise}
use Rattle.std.proofs.lemmas.Slice.Eq.{slice_eq-Decides}
use Rattle.std.proofs.lemmas.Bool.{eqb-false, eqb-true}

same_number : (a b : ℕ) → (nat_eq a b ≡ true → a ≡ b) × (a ≡ b → nat_eq a b ≡ true)
same_number a b = (λ same. eqb-true a b same, λ is. go (nat_eq a b) refl is)
  where
    go : (same : Bool) → nat_eq a b ≡ same → a ≡ b → same ≡ true
    go true known is = refl
    go false known is = absurd (eqb-false a b known is)

pub same_rest : (rest others : List ℕ) (same : Bool) → same ≡ pointwise nat_eq rest others
    → (same ≡ true) ↔ (rest ≡ others)
same_rest rest others same is =
    let d = slice_eq-Decides same_number rest others same is in (λ yes. d.0 yes, λ one. d.1 one)
