-- Receipts that are made position by position.
use Rattle.std.proofs.Common.{◌≡◌, ◌≢◌, ℕ, zero, suc, ◌<◌, ◌+◌, Some, List, [], ◌∷◌, ◌++◌, map, length, take, get_or, sym, ap, ◌∙◌, subst, arith, ◌⊎◌, inl, inr, ⊎_elim}
use Rattle.std.specs.Prelude.{slice_get}
use Rattle.std.specs.List.{AllByRecursion}
use Rattle.std.proofs.lemmas.List.{map-append, take_more}
use Rattle.std.proofs.lemmas.Option.{same_Some}
use Rattle.fe2o3_sasl.specs.private.Receipts.{Member, Rising, Covers}
use Rattle.fe2o3_sasl_core.proofs.lemmas.lists.EachLemmas.{each_append, each_weaker}
use Rattle.fe2o3_sasl.proofs.lemmas.lists.MemberLemmas.{member_front, member_last, member_each}
use Rattle.fe2o3_sasl_core.proofs.lemmas.positions.PositionLemmas.{below_or_at}

-- ---- one position more

module _ {X : Type 0} (Is : X → Type 0) (place : X → ℕ) (At : ℕ → Type 0) where
  rising_push : (i : ℕ) (xs : List X) (y : X) → place y ≡ i → AllByRecursion (λ x. place x < i) xs → Rising place xs
      → Rising place (xs ++ y ∷ [])
  rising_push i [] y at below rises = (tt, tt)
  rising_push i (x ∷ xs) y at below rises = (
    each_append (λ z. place x < place z) xs (y ∷ []) rises.0 (omega (arith, at, below.0), tt),
    rising_push i xs y at below.1 rises.1,
  )

  pub covers_skip : (i : ℕ) (xs : List X) → Covers Is place At i xs → ¬ At i → Covers Is place At (suc i) xs
  covers_skip i xs covers none = record {
    each = covers.each;
    below = each_weaker (λ x. place x < i) (λ x. place x < suc i) xs (λ x b. omega arith) covers.below;
    rising = covers.rising;
    every = λ k l at. ⊎_elim (λ (b : k < i). covers.every k b at)
        (λ (e : k ≡ i). absurd (none (subst At e at))) (below_or_at k i l);
  }

  pub covers_push : (i : ℕ) (xs : List X) (y : X) → Covers Is place At i xs → Is y → place y ≡ i
      → Covers Is place At (suc i) (xs ++ y ∷ [])
  covers_push i xs y covers is here = record {
    each = each_append Is xs (y ∷ []) covers.each (is, tt);
    below = each_append (λ x. place x < suc i) xs (y ∷ [])
        (each_weaker (λ x. place x < i) (λ x. place x < suc i) xs (λ x b. omega arith) covers.below)
        (omega arith, tt);
    rising = rising_push i xs y here covers.below covers.rising;
    every = λ k l at. ⊎_elim
        (λ (b : k < i). let m = covers.every k b at in (m.0, member_front m.0 xs (y ∷ []) m.1, m.2))
        (λ (e : k ≡ i). (y, member_last xs y, here ∙ sym e)) (below_or_at k i l);
  }

-- ---- the last one

-- a member is the last one, or one in front of it
last_or_front : {X : Type 0} (xs : List X) (y x : X) → Member x (xs ++ y ∷ []) → (y ≡ x) ⊎ Member x xs
last_or_front [] y x (inl e) = inl e
last_or_front [] y x (inr m) = absurd m
last_or_front (z ∷ xs) y x (inl e) = inr (inl e)
last_or_front (z ∷ xs) y x (inr m) =
    ⊎_elim (λ (e : y ≡ x). inl e) (λ (f : Member x xs). inr (inr f)) (last_or_front xs y x m)

-- those in front are of earlier positions
front_before : {X : Type 0} (place : X → ℕ) (xs : List X) (y x : X) → Rising place (xs ++ y ∷ []) → Member x xs
    → place x < place y
front_before place [] y x rises m = absurd m
front_before place (z ∷ xs) y x rises (inl e) =
    subst (λ (w : _). place w < place y) e
    (member_each (λ w. place z < place w) (xs ++ y ∷ []) y rises.0 (member_last xs y))
front_before place (z ∷ xs) y x rises (inr m) = front_before place xs y x rises.1 m

module _ {X : Type 0} (Is : X → Type 0) (place : X → ℕ) (At : ℕ → Type 0) where
  -- the last receipt is of the last position of which At holds
  pub covers_last : (i k : ℕ) (xs : List X) (y : X) → ((x : X) → Is x → At (place x))
      → Covers Is place At i (xs ++ y ∷ []) → k < i → At k → ((m : ℕ) → k < m → m < i → ¬ At m) → place y ≡ k
  covers_last i k xs y of covers within at none =
      let found = covers.every k within at in
      ⊎_elim (λ (e : y ≡ found.0). ap place e ∙ found.2)
      (λ (front : Member found.0 xs). absurd (none (place y)
      (omega (arith, found.2, front_before place xs y found.0 covers.rising front))
      (member_each (λ x. place x < i) (xs ++ y ∷ []) y covers.below (member_last xs y))
      (of y (member_each Is (xs ++ y ∷ []) y covers.each (member_last xs y)))))
      (last_or_front xs y found.0 found.1)

-- ---- what a loop over a slice knows

pub at_index : {A B : Type 0} (g : A → B) (xs : List A) (i : ℕ) (x : A) → i < length xs → x ≡ get_or xs i x
    → slice_get (map g xs) i ≡ Some (g x)
at_index g [] i x l is = absurd (omega arith)
at_index g (y ∷ xs) zero x l is = ap (λ z. Some (g z)) (sym is)
at_index g (y ∷ xs) (suc i) x l is = at_index g xs i x (omega arith) is

behind : {A : Type 0} (xs : List A) (y bad : A) (k : ℕ) → y ≢ bad → ((k : ℕ) → slice_get xs k ≢ Some bad)
    → slice_get (xs ++ y ∷ []) k ≢ Some bad
behind [] y bad zero apart none is = apart (same_Some y bad is)
behind [] y bad (suc k) apart none is = none k is
behind (x ∷ xs) y bad zero apart none is = none 0 is
behind (x ∷ xs) y bad (suc k) apart none is = behind xs y bad k apart (λ j. none (suc j)) is

-- a loop that met no bad item
pub none_more : {A B : Type 0} (g : A → B) (xs : List A) (i : ℕ) (x : A) (bad : B) → i < length xs
    → x ≡ get_or xs i x → g x ≢ bad → ((k : ℕ) → slice_get (map g (take i xs)) k ≢ Some bad)
    → (k : ℕ) → slice_get (map g (take (i + 1) xs)) k ≢ Some bad
none_more g xs i x bad l is apart none k =
    let one : map g (get_or xs i x ∷ []) ≡ g x ∷ [] = ap (λ y. g y ∷ []) (sym is) in
    let items : map g (take (i + 1) xs) ≡ map g (take i xs) ++ g x ∷ [] =
    ap (map g) (take_more xs i x l) ∙ (map-append g (take i xs) (get_or xs i x ∷ [])
    ∙ ap (λ ys. map g (take i xs) ++ ys) one) in
    rw items (behind (map g (take i xs)) (g x) bad k apart none)
