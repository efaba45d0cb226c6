-- Lists of replies without a fault, and what arrives of a reply.
use Rattle.std.proofs.Common.{◌≢◌, ℕ, zero, suc, Option, Some, None, List, [], ◌∷◌, refl}
use Rattle.std.specs.Prelude.{slice_get}
use Rattle.std.proofs.lemmas.Option.{same_Some}
use Rattle.fe2o3_sasl_core.specs.UnalteredRuns.{Arrives}

-- no reply of the list is this one
abbrev pub NoneIs : {A : Type 0} → A → List A → Type 0
NoneIs other [] = Unit {0}
NoneIs other (reply ∷ replies) = (reply ≢ other) × NoneIs other replies

pub none_at : {A : Type 0} (other : A) (replies : List A) → NoneIs other replies → (k : ℕ)
    → slice_get replies k ≢ Some other
none_at other [] none k at = cc
none_at other (reply ∷ replies) none zero at = none.0 (same_Some reply other at)
none_at other (reply ∷ replies) none (suc k) at = none_at other replies none.1 k at

-- what arrives of a reply, if it sends a body
pub arriving : (sent : Option (List ℕ)) → (body : List ℕ) × Arrives sent body
arriving None = ([], tt)
arriving (Some body) = (body, refl)
