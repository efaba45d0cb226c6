-- Positions of lists, and what is open at them.
use Rattle.std.proofs.Common.{◌≡◌, ◌⊎◌, ℕ, zero, suc, ◌<◌, Bool, true, false, true≢false, Some, List, [], ◌∷◌, ◌++◌, length, refl, sym, ap, ◌∙◌, arith, ⊎_elim}
use Rattle.std.specs.Prelude.{slice_get}
use Rattle.fe2o3_sasl_core.specs.ClientHistory.{is_start, is_answer, ends_answer}
use Rattle.fe2o3_sasl_core.specs.Laws.{CloseApart, PositionsAreUsedOnce}
use Rattle.fe2o3_sasl_core.specs.Positions.{test_at, IsLastOpen}
use Rattle.fe2o3_sasl_core.specs.ServerHistory.{is_challenge, is_ok}

-- ---- positions of lists

pub below_or_at : (i k : ℕ) → i < suc k → (i < k) ⊎ (i ≡ k)
below_or_at i k h = grind arith

pub some_at : {A : Type 0} (xs : List A) (k : ℕ) → k < length xs → (x : A) × (slice_get xs k ≡ Some x)
some_at [] k h = absurd (omega arith)
some_at (x ∷ xs) zero h = (x, refl)
some_at (x ∷ xs) (suc k) h = some_at xs k (omega arith)

-- what is in front stays where it is
pub slice_get-front : {A : Type 0} (xs ys : List A) (k : ℕ) → k < length xs → slice_get (xs ++ ys) k ≡ slice_get xs k
slice_get-front [] ys k h = absurd (omega arith)
slice_get-front (x ∷ xs) ys zero h = refl
slice_get-front (x ∷ xs) ys (suc k) h = slice_get-front xs ys k (omega arith)

pub slice_get-behind : {A : Type 0} (xs : List A) (y : A) (ys : List A) → slice_get (xs ++ y ∷ ys) (length xs) ≡ Some y
slice_get-behind [] y ys = refl
slice_get-behind (x ∷ xs) y ys = slice_get-behind xs y ys

-- positions that agree make one list
pub same_list : {A : Type 0} (xs ys : List A) → length xs ≡ length ys
    → ((k : ℕ) → k < length xs → slice_get xs k ≡ slice_get ys k) → xs ≡ ys
same_list [] [] e h = refl
same_list [] (y ∷ ys) e h = absurd (omega arith)
same_list (x ∷ xs) [] e h = absurd (omega arith)
same_list (x ∷ xs) (y ∷ ys) e h =
    let head : Some x ≡ Some y = h 0 (omega arith) in
    let tail = same_list xs ys (omega arith) (λ k l. h (suc k) (omega arith)) in
    cc

-- ---- what is open

module _ {A : Type 0} (opens closes : A → Bool) where
  -- what is open stays open over a reply that neither opens nor closes
  pub stays_open : (replies : List A) (k j : ℕ) → test_at opens (slice_get replies k) ≡ false
      → test_at closes (slice_get replies k) ≡ false → IsLastOpen opens closes replies k j
      → IsLastOpen opens closes replies (suc k) j
  stays_open replies k j o c h = record {
    before = omega (arith, h.before);
    opened = h.opened;
    last = λ i a b. ⊎_elim (λ (l : i < k). h.last i a l) (λ (e : i ≡ k). rw e o) (below_or_at i k b);
    kept = λ i a b. ⊎_elim (λ (l : i < k). h.kept i a l) (λ (e : i ≡ k). rw e c) (below_or_at i k b);
  }

  -- and was open before it
  pub was_open : (replies : List A) (k j : ℕ) → test_at opens (slice_get replies k) ≡ false
      → IsLastOpen opens closes replies (suc k) j → IsLastOpen opens closes replies k j
  was_open replies k j o h = record {
    before = ⊎_elim (λ (l : j < k). l) (λ (e : j ≡ k). absurd
        (true≢false (sym h.opened ∙ (ap (λ (z : ℕ). test_at opens (slice_get replies z)) e ∙ o))))
        (below_or_at j k h.before);
    opened = h.opened;
    last = λ i a b. h.last i a (omega arith);
    kept = λ i a b. h.kept i a (omega arith);
  }

  -- a reply that opens is open after it
  pub opens_here : (replies : List A) (k : ℕ) → test_at opens (slice_get replies k) ≡ true
      → IsLastOpen opens closes replies (suc k) k
  opens_here replies k o = record {
    before = omega arith;
    opened = o;
    last = λ i a b. absurd (omega arith);
    kept = λ i a b. absurd (omega arith);
  }

  -- one position is open at most
  pub one_open : (replies : List A) (k i j : ℕ) → IsLastOpen opens closes replies k i
      → IsLastOpen opens closes replies k j → i ≡ j
  one_open replies k i j p q =
      ⊎_elim (λ (l : i < j). absurd (true≢false (sym q.opened ∙ p.last j l q.before)))
      (⊎_elim (λ (e : i ≡ j). e) (λ (l : j < i). absurd (true≢false (sym p.opened ∙ q.last i l p.before))))
      (three i j)
    where
      three : (i j : ℕ) → (i < j) ⊎ ((i ≡ j) ⊎ (j < i))
      three i j = grind arith

  -- what is open at k depends only on the replies before k
  pub open_agree : (replies others : List A) (k j : ℕ) → ((i : ℕ) → i < k → slice_get replies i ≡ slice_get others i)
      → IsLastOpen opens closes replies k j → IsLastOpen opens closes others k j
  open_agree replies others k j e h = record {
    before = h.before;
    opened = ap (test_at opens) (sym (e j h.before)) ∙ h.opened;
    last = λ i a b. ap (test_at opens) (sym (e i b)) ∙ h.last i a b;
    kept = λ i a b. ap (test_at closes) (sym (e i b)) ∙ h.kept i a b;
  }

  -- two positions that close have not the same one open
  pub close_apart : CloseApart opens closes
  close_apart replies j m n p q c d =
      ⊎_elim (λ (l : m < n). absurd (true≢false (sym c ∙ q.kept m p.before l)))
      (⊎_elim (λ (e : m ≡ n). e) (λ (l : n < m). absurd (true≢false (sym d ∙ p.kept n q.before l))))
      (three m n)
    where
      three : (i j : ℕ) → (i < j) ⊎ ((i ≡ j) ⊎ (j < i))
      three i j = grind arith

pub positions_are_used_once : PositionsAreUsedOnce
positions_are_used_once = (
  close_apart is_challenge is_ok,
  close_apart is_answer ends_answer,
  close_apart is_start is_answer,
)
