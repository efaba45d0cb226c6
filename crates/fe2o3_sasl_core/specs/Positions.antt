-- What is open at a position of a list of replies. Positions count from 0. These terms are the project's; they replace
-- the states of RFC 5802, section 5. By these definitions alone, of any list: at most one position is open at a time; a
-- position that was closed is open at no later one, so two that close never have the same one open; and a reply that
-- neither opens nor closes leaves open what was open (`positions` in `laws`).
use Rattle.std.specs.Prelude.{◌≡◌, ℕ, ◌<◌, Bool, true, false, Option, Some, None, List, slice_get}

-- the reply exists, and passes the test
abbrev pub test_at : {A : Type 0} → (A → Bool) → Option A → Bool
test_at test None = false
test_at test (Some reply) = test reply

-- j is the last position before k whose reply opens, and no reply between the two closes
pub record IsLastOpen {A : Type 0} (opens closes : A → Bool) (replies : List A) (k j : ℕ) : Type 0 where
  pub before : j < k
  pub opened : test_at opens (slice_get replies j) ≡ true
  pub last : (i : ℕ) → j < i → i < k → test_at opens (slice_get replies i) ≡ false
  pub kept : (i : ℕ) → j < i → i < k → test_at closes (slice_get replies i) ≡ false

-- the value is at the position that is open at k
abbrev pub OpenBy : {A X : Type 0} → (A → Bool) → (A → Bool) → (ℕ → X → Type 0) → List A → ℕ → X → Type 0
OpenBy opens closes At replies k value = (j : ℕ) × IsLastOpen opens closes replies k j × At j value
