-- What lines of `FILE.rights` give.
use Rattle.std.proofs.Common.{◌≡◌, ◌≢◌, ◌⊎◌, ◌∙◌, ℕ, List, arith, ap, inl, inr, length, subst, sym}
use Rattle.std.specs.List.{Contains}
use Rattle.fe2o3_scram.specs.Escape.{escaped}
use Rattle.fe2o3_scram.specs.Texts.{Cut}
use Rattle.fe2o3_scram.proofs.lemmas.texts.CutLemmas.{one_cut}
use Rattle.fe2o3_scram.proofs.lemmas.texts.EscapingLemmas.{one_escaped}
use Rattle.scram_lib.specs.Acting.{GivesRight}

-- ---- one line

-- one without a space gives none
pub no_space : (line : List ℕ) → ((before rest : List ℕ) → ¬ Cut 32 line before rest) → (word : List ℕ)
    → ¬ GivesRight line word
no_space line none word gives = none (escaped gives.user) (escaped gives.identity) gives.cut

-- one whose first part is no escaped name gives none, nor does one whose second part is none
pub no_user : (line first second : List ℕ) → Cut 32 line first second → ((plain : List ℕ) → escaped plain ≢ first)
    → (word : List ℕ) → ¬ GivesRight line word
no_user line first second cut none word gives =
    none gives.user (one_cut 32 line (escaped gives.user) (escaped gives.identity) first second gives.cut cut).0

pub no_identity : (line first second : List ℕ) → Cut 32 line first second → ((plain : List ℕ) → escaped plain ≢ second)
    → (word : List ℕ) → ¬ GivesRight line word
no_identity line first second cut none word gives =
    none gives.identity (one_cut 32 line (escaped gives.user) (escaped gives.identity) first second gives.cut cut).1

-- one whose user or identity is empty, or whose user has a colon, gives none
pub not_so : (line first second user identity : List ℕ) → Cut 32 line first second → escaped user ≡ first
    → escaped identity ≡ second → (length user ≡ 0) ⊎ (length identity ≡ 0) ⊎ Contains user 58 → (word : List ℕ)
    → ¬ GivesRight line word
not_so line first second user identity cut user_is identity_is none word gives = go none
  where
    both : (escaped gives.user ≡ first) × (escaped gives.identity ≡ second)
    both = one_cut 32 line (escaped gives.user) (escaped gives.identity) first second gives.cut cut

    users : gives.user ≡ user
    users = one_escaped gives.user user (both.0 ∙ sym user_is)

    identities : gives.identity ≡ identity
    identities = one_escaped gives.identity identity (both.1 ∙ sym identity_is)

    go : (length user ≡ 0) ⊎ (length identity ≡ 0) ⊎ Contains user 58 → ⊥
    go (inl empty) = let some = gives.some_user in omega (arith, some, ap length users, empty)
    go (inr (inl empty)) = let some = gives.some_identity in omega (arith, some, ap length identities, empty)
    go (inr (inr colon)) = gives.no_colon (subst (λ (u : List ℕ). Contains u 58) (sym users) colon)
