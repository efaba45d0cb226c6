-- What is found of two lists of receipts, in order.
use Rattle.std.proofs.Common.{◌≡◌, ℕ, ◌<◌, ◌+◌, Bool, true, false, true≢false, cond, List, [], ◌∷◌, ◌++◌, map, length, take, get_or, refl, sym, ap, ◌∙◌, subst, arith, inl, inr, append_assoc}
use Rattle.std.specs.List.{AllByRecursion, flat_map}
use Rattle.std.proofs.lemmas.Grind.{flat_map-append}
use Rattle.std.proofs.lemmas.List.{map-append, take_more, append-nil}
use Rattle.fe2o3_sasl.specs.private.Findings.{found, findings_of}
use Rattle.fe2o3_sasl.specs.private.Receipts.{Member, Rising}
use Rattle.fe2o3_sasl_core.specs.Verdicts.{Before, Ascending, Lists}
use Rattle.fe2o3_sasl_core.proofs.lemmas.lists.EachLemmas.{each_append, each_weaker, each_map}
use Rattle.fe2o3_sasl.proofs.lemmas.lists.MemberLemmas.{member_front, member_behind, member_each, member_contains}

-- ---- pairs of positions

-- two ascending lists, where the first is before the second
ascending_append : (P Q : ℕ × ℕ → Type 0) (xs ys : List (ℕ × ℕ)) → ((p q : ℕ × ℕ) → P p → Q q → Before p q)
    → AllByRecursion P xs → AllByRecursion Q ys → Ascending xs → Ascending ys → Ascending (xs ++ ys)
ascending_append P Q [] ys b h k a c = c
ascending_append P Q (x ∷ xs) ys b h k a c = (
  each_append (Before x) xs ys a.0 (each_weaker Q (Before x) ys (λ q. b x q h.0) k),
  ascending_append P Q xs ys b h.1 k a.1 c,
)

-- ---- what is found

module _ {A B F : Type 0} (meets : A → B → Bool) (finding : A → B → F) where
  -- what is found of one receipt on the left, and of all
  abbrev row : A → List B → List F
  row left rights = flat_map (found meets finding left) rights

  abbrev rows : List A → List B → List F
  rows lefts rights = findings_of meets finding lefts rights

  -- each finding is that of two receipts that meet
  row_each : (P : F → Type 0) (left : A) (rights : List B) → ((right : B) → Member right rights
      → meets left right ≡ true → P (finding left right)) → AllByRecursion P (row left rights)
  row_each P left [] h = tt
  row_each P left (right ∷ rights) h = each_append P (found meets finding left right) (row left rights)
      (go (meets left right) refl) (row_each P left rights (λ r m. h r (inr m)))
    where
      go : (v : Bool) → meets left right ≡ v → AllByRecursion P (cond v (finding left right ∷ []) [])
      go true e = (h right (inl refl) e, tt)
      go false e = tt

  pub each_found : (P : F → Type 0) (lefts : List A) (rights : List B)
      → ((left : A) (right : B) → Member left lefts → Member right rights → meets left right ≡ true
      → P (finding left right)) → AllByRecursion P (findings_of meets finding lefts rights)
  each_found P [] rights h = tt
  each_found P (left ∷ lefts) rights h =
      each_append P (row left rights) (rows lefts rights) (row_each P left rights
      (λ right m. h left right (inl refl) m)) (each_found P lefts rights (λ l r m. h l r (inr m)))

  module _ (at : A → ℕ) (by : B → ℕ) (place : F → ℕ × ℕ) (places : (left : A) (right : B)
      → place (finding left right) ≡ (at left, by right)) where
    row_every : (left : A) (right : B) (rights : List B) → Member right rights → meets left right ≡ true
        → Member (at left, by right) (map place (row left rights))
    row_every left right [] m e = absurd m
    row_every left right (first ∷ rights) m e = rw (map-append place (found meets finding left first)
        (row left rights)) (go (λ m. row_every left right rights m e) (meets left first) refl m)
      where
        go : (Member right rights → Member (at left, by right) (map place (row left rights))) → (v : Bool)
            → meets left first ≡ v → Member right (first ∷ rights)
            → Member (at left, by right) (map place (cond v (finding left first ∷ []) []) ++ map place
            (row left rights))
        go ih true t (inl s) = inl (places left first ∙ ap (λ (r : B). let q : ℕ × ℕ = (at left, by r) in q) s)
        go ih false t (inl s) = absurd (true≢false (sym e ∙ (ap (meets left) (sym s) ∙ t)))
        go ih true t (inr m) = inr (ih m)
        go ih false t (inr m) = ih m

    every_found : (left : A) (right : B) (lefts : List A) (rights : List B) → Member left lefts → Member right rights
        → meets left right ≡ true → Member (at left, by right) (map place (rows lefts rights))
    every_found left right [] rights m n e = absurd m
    every_found left right (first ∷ lefts) rights m n e = rw (map-append place (row first rights) (rows lefts rights))
        (go (λ m. every_found left right lefts rights m n e) m)
      where
        go : (Member left lefts → Member (at left, by right) (map place (rows lefts rights)))
            → Member left (first ∷ lefts) → Member (at left, by right)
            (map place (row first rights) ++ map place (rows lefts rights))
        go ih (inl s) = member_front (at left, by right) (map place (row first rights)) (map place (rows lefts rights))
            (subst (λ (l : A). Member (at left, by right) (map place (row l rights))) (sym s)
            (row_every left right rights n e))
        go ih (inr m) = member_behind (at left, by right) (map place (row first rights)) (map place (rows lefts rights))
            (ih m)

    row_ordered : (left : A) (rights : List B) → Rising by rights → Ascending (map place (row left rights))
    row_ordered left [] h = tt
    row_ordered left (right ∷ rights) h = rw (map-append place (found meets finding left right) (row left rights))
        (go (row_ordered left rights h.1) (meets left right))
      where
        later : AllByRecursion (Before (place (finding left right))) (map place (row left rights))
        later = each_map (Before (place (finding left right))) place (row left rights)
            (row_each (λ f. Before (place (finding left right)) (place f)) left rights
            (λ r m e. rw (places left right, places left r) (inr
            (refl, member_each (λ item. by right < by item) rights r h.0 m))))

        go : Ascending (map place (row left rights)) → (v : Bool)
            → Ascending (map place (cond v (finding left right ∷ []) []) ++ map place (row left rights))
        go ih true = (later, ih)
        go ih false = ih

    ordered_found : (lefts : List A) (rights : List B) → Rising at lefts → Rising by rights
        → Ascending (map place (rows lefts rights))
    ordered_found [] rights h k = tt
    ordered_found (left ∷ lefts) rights h k = rw (map-append place (row left rights) (rows lefts rights))
        (ascending_append (λ q. q.0 ≡ at left) (λ q. at left < q.0) (map place (row left rights))
        (map place (rows lefts rights)) (λ p q e l. inl (omega (arith, e, l)))
        (each_map (λ q. q.0 ≡ at left) place (row left rights)
        (row_each (λ f. (place f).0 ≡ at left) left rights (λ r m e. ap (λ (q : ℕ × ℕ). q.0) (places left r))))
        (each_map (λ q. at left < q.0) place (rows lefts rights)
        (each_found (λ f. at left < (place f).0) lefts rights
        (λ l r m n e. rw (places l r) (member_each (λ item. at left < at item) lefts l h.0 m))))
        (row_ordered left rights k) (ordered_found lefts rights h.1 k))

-- receipts that rise give exactly the pairs that meet, each once, in order
pub found_pairs : {A B F : Type 0} (at : A → ℕ) (by : B → ℕ) (place : F → ℕ × ℕ) (meets : A → B → Bool)
    (finding : A → B → F) (R : ℕ → ℕ → Type 0) (lefts : List A) (rights : List B)
    → ((left : A) (right : B) → place (finding left right) ≡ (at left, by right))
    → ((left : A) (right : B) → Member left lefts → Member right rights → meets left right ≡ true
    → R (at left) (by right))
    → ((m n : ℕ) → R m n → (left : A) × (right : B) × Member left lefts × Member right rights ×
    (meets left right ≡ true) × (at left ≡ m) × (by right ≡ n))
    → Rising at lefts → Rising by rights → Lists R (map place (findings_of meets finding lefts rights))
found_pairs at by place meets finding R lefts rights places sound complete rises rise =
    record {
      each = each_map (λ q. R q.0 q.1) place (findings_of meets finding lefts rights)
          (each_found meets finding (λ f. R (place f).0 (place f).1) lefts rights
          (λ left right m n e. rw (places left right) (sound left right m n e)));
      every = λ m n r. let w = complete m n r in
          member_contains (m, n) (map place (findings_of meets finding lefts rights))
          (subst (λ (q : ℕ × ℕ). Member q (map place (findings_of meets finding lefts rights))) (λ i. (w.5 i, w.6 i))
          (every_found meets finding at by place places w.0 w.1 lefts rights w.2 w.3 w.4));
      ordered = ordered_found meets finding at by place places lefts rights rises rise;
    }

-- a loop that adds what each item gives
pub adds_more : {A B C : Type 0} (f : B → List C) (g : A → B) (xs : List A) (i : ℕ) (x : A) (front now new : List C)
    → i < length xs → x ≡ get_or xs i x →
    now ≡ front ++ flat_map f (map g (take i xs)) → new ≡ now ++ f (g x)
    → new ≡ front ++ flat_map f (map g (take (i + 1) xs))
adds_more f g xs i x front now new below is h e =
    let items : map g (take (i + 1) xs) ≡ map g (take i xs) ++ g x ∷ [] =
    ap (map g) (take_more xs i x below) ∙ (map-append g (take i xs) (get_or xs i x ∷ []) ∙ ap
    (λ y. map g (take i xs) ++ g y ∷ []) (sym is)) in
    let more : flat_map f (map g (take (i + 1) xs)) ≡ flat_map f (map g (take i xs)) ++ f (g x) =
    ap (flat_map f) items ∙ (flat_map-append f (map g (take i xs)) (g x ∷ []) ∙ ap
    (λ z. flat_map f (map g (take i xs)) ++ z) (append-nil (f (g x)))) in
    e ∙ (ap (λ z. z ++ f (g x)) h ∙ (append_assoc front (flat_map f (map g (take i xs))) (f (g x)) ∙ ap
    (λ z. front ++ z) (sym more)))
