-- Laws of SASLprep, for every text.
use Rattle.std.specs.Prelude.{◌≡◌, ◌↔◌, ◌-◌, ℕ, true, false, List, ◌++◌, length, All, Any, IsSomeAnd, None, slice_get}
use Rattle.saslprep.specs.Saslprep.{prepared, refusal, is_prohibited, is_right_to_left, is_left_to_right, is_unassigned}
use Rattle.saslprep.specs.declared.Unassigned.{Unassigned}
use Rattle.saslprep.specs.declared.Unassigned.TheVariants.{Refused}

-- RFC 3454, section 6: beside a right-to-left character there is no left-to-right one, and both ends are right-to-left
pub record IsOneWay (out : List ℕ) : Type 0 where
  pub no_left : All (λ c. is_left_to_right c ≡ false) out
  pub first : IsSomeAnd (slice_get out 0) (λ c. is_right_to_left c ≡ true)
  pub last : IsSomeAnd (slice_get out (length out - 1)) (λ c. is_right_to_left c ≡ true)

-- the rules of RFC 4013, sections 2.3 to 2.5, pass a text that is prepared to `out`
pub record IsFit (unassigned : Unassigned) (cs out : List ℕ) : Type 0 where
  pub clean : All (λ c. is_prohibited c ≡ false) out
  pub one_way : Any (λ c. is_right_to_left c ≡ true) out → IsOneWay out
  pub assigned : unassigned ≡ Refused → All (λ c. is_unassigned c ≡ false) (cs ++ out)

-- a text is accepted exactly if the rules pass it (RFC 4013, section 2)
abbrev pub FitTextsAreAccepted : Type 0
FitTextsAreAccepted =
    (unassigned : Unassigned) (cs : List ℕ) → (refusal unassigned cs ≡ None) ↔ IsFit unassigned cs (prepared cs)

-- the prepared form of an accepted text is accepted, and prepared to itself
abbrev pub PreparedIsKept : Type 0
PreparedIsKept =
    (unassigned : Unassigned) (cs : List ℕ) → refusal unassigned cs ≡ None →
    (refusal unassigned (prepared cs) ≡ None) × (prepared (prepared cs) ≡ prepared cs)
