-- A search by the key's columns is a search in the table's order.
use Rattle.std.proofs.Common.{◌≡◌, ℕ, true, false, Bool, List, [], ◌∷◌, None, refl, sym, ap, ◌∙◌, take, map, Ordering, Less, Equal, Greater, is_lt, is_eq, is_gt}
use Rattle.std.specs.Ordering.{ordering_reverse}
use Rattle.std.proofs.lemmas.Cmp.{tied_itself}
use Rattle.sqlite_value.specs.declared.value.Value.{Value}
use Rattle.sqlite_value.specs.Order.{Row}
use Rattle.sqlite_value.specs.declared.keys.Order.{Order}
use Rattle.sqlite_value.specs.Keys.{plain, entry_cmp, prefix_cmp}
use Rattle.sqlite_value.proofs.KeyLemmas.{entry_cmp_total}
use Rattle.sqlite_record.specs.Record.{decode}
use Rattle.sqlite_btree.specs.Stored.{IsStrict, IsProbe}
use Rattle.sqlite_btree.specs.Cut.{Each, Ascends}
use Rattle.sqlite_btree.specs.Batch.{IsFound}
use Rattle.scram_db_lib.specs.Users.{by_key, row_with, IsRowFound}

less : (o : Ordering) → is_lt o ≡ true → o ≡ Less
less Less h = refl
less Equal h = absurd (cc)
less Greater h = absurd (cc)

by_order : (P : Type 0) (o : Ordering) → (o ≡ Less → P) → (o ≡ Equal → P) → (o ≡ Greater → P) → P
by_order P Less a b c = a refl
by_order P Equal a b c = b refl
by_order P Greater a b c = c refl

-- of a key of two columns, the first two of the row are compared
pub prefix_is : (o : Order) (row : Row) (a b : Value) → prefix_cmp o row (a ∷ b ∷ []) ≡ entry_cmp o (take 2 row) (a ∷ b ∷ [])
prefix_is o [] a b = refl
prefix_is o (x ∷ []) a b = refl
prefix_is o (x ∷ y ∷ []) a b = refl
prefix_is o (x ∷ y ∷ z ∷ row) a b = refl

pub strict : IsStrict by_key
strict = record {
  strict = λ x. ap is_lt (tied_itself (entry_cmp_total plain) (take 2 (decode x)));
  trans = λ x y z a b. ap is_lt ((entry_cmp_total plain).trans (take 2 (decode x)) (take 2 (decode y))
      (take 2 (decode z)) (less _ a) (less _ b));
}

-- what is below a row that is not above the key is below the key
under : (a b key : Row) → entry_cmp plain a b ≡ Less → (o : Ordering) → entry_cmp plain b key ≡ o → is_gt o ≡ false
    → entry_cmp plain a key ≡ Less
under a b key h Less e p = (entry_cmp_total plain).trans a b key h e
under a b key h Equal e p =
    (entry_cmp_total plain).antisymm a key
    ∙ ap ordering_reverse (sym ((entry_cmp_total plain).congr b key a e) ∙ (entry_cmp_total plain).antisymm b a
    ∙ ap ordering_reverse h)
under a b key h Greater e p = absurd (cc)

abbrev pub key_side : Value → Value → List ℕ → Ordering
key_side a b bytes = prefix_cmp plain (decode bytes) (a ∷ b ∷ [])

pub probe : (a b : Value) → IsProbe by_key (key_side a b)
probe a b x y h p =
    ap is_lt (prefix_is plain (decode x) a b)
    ∙ ap is_lt (under (take 2 (decode x)) (take 2 (decode y)) (a ∷ b ∷ []) (less _ h) _ refl
    (sym (ap is_gt (prefix_is plain (decode y) a b)) ∙ p))

-- a record after one that is not below the key is not at it
past : (a b : Value) (x y : List ℕ) → is_lt (key_side a b x) ≡ false → by_key x y ≡ true → is_eq (key_side a b y) ≡ false
past a b x y low above = by_order _ (key_side a b y) (λ e. ap is_eq e)
    (λ e. absurd (let below = probe a b x y above (ap is_gt e) in let x = sym low ∙ below in cc))
    (λ e. ap is_eq e)

none_later : (a b : Value) (x : List ℕ) (xs : List (List ℕ)) → is_lt (key_side a b x) ≡ false → Each (λ y. by_key x y ≡ true) xs
    → row_with (a ∷ b ∷ []) (map decode xs) ≡ None
none_later a b x [] low all = refl
none_later a b x (y ∷ ys) low all = rw (past a b x y low all.0) (none_later a b x ys low all.1)

-- the search in the tree finds the first row with the key
pub finds : (a b : Value) (xs : List (List ℕ)) (out : List ℕ) (found : Bool) → Ascends by_key xs
    → IsFound (key_side a b) xs out found → IsRowFound (map decode xs) (a ∷ b ∷ []) (decode out) found
finds a b [] out true up h = absurd (let e = h.0 in cc)
finds a b [] out false up h = refl
finds a b (y ∷ ys) out true up h = by_order _ (key_side a b y) (λ e. rw e (finds a b ys out true up.1 (rw e at h)))
    (λ e. let parts = (rw e at h).1.1 in let is : y ≡ out = cc in rw (e, is) refl)
    (λ e. absurd (let hit = (rw e at h).0 in cc))
finds a b (y ∷ ys) out false up h = by_order _ (key_side a b y) (λ e. rw e (finds a b ys out false up.1 (rw e at h)))
    (λ e. absurd (let hit = rw e at h in cc)) (λ e. rw e (none_later a b y ys (ap is_lt e) up.0))
