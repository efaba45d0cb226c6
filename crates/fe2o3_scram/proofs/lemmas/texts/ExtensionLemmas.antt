-- Equal lists of parts of two sides, of which one side's have no attribute of RFC 5802 in the place of extensions.
use Rattle.std.proofs.Common.{◌≡◌, ◌<◌, true, ℕ, suc, Some, List, [], ◌∷◌, ◌++◌, length, drop, get_or, refl, sym, ap, ◌∙◌, subst, arith, codes, append_assoc}
use Rattle.std.proofs.lemmas.List.{length-append}
use Rattle.std.proofs.lemmas.Option.{slice_get_within}
use Rattle.std.specs.Prelude.{slice_get}
use Rattle.std.specs.List.{AllByRecursion}
use Rattle.fe2o3_scram.specs.Texts.{Parts, StartsWith}
use Rattle.fe2o3_scram.specs.Extensions.{HasAttributeFrom, is_attribute}
use Rattle.fe2o3_scram.specs.Grammar.{HasMisplacedFrom}
use Rattle.fe2o3_scram.proofs.lemmas.texts.PartsLemmas.{one_list_of_parts}

-- ---- the parts after those that are known

-- no part is such an attribute
abbrev pub NoAttributes : List (List ℕ) → Type 0
NoAttributes parts = AllByRecursion (λ part. ¬ (is_attribute part ≡ true)) parts

none_at : (parts : List (List ℕ)) → ((j : ℕ) (part : List ℕ) → slice_get parts j ≡ Some part → ¬ (is_attribute part ≡ true))
    → NoAttributes parts
none_at [] none = tt
none_at (x ∷ parts) none = (none 0 x refl, none_at parts (λ j part at. none (suc j) part at))

pub none_after_two : (text p q : List ℕ) (more : List (List ℕ)) → Parts text (p ∷ q ∷ more)
    → ¬ HasAttributeFrom 2 text → NoAttributes more
none_after_two text p q more are none = none_at more
    (λ j part at is. none (suc (suc j), part, omega arith, (p ∷ q ∷ more, are, at), is))

pub none_after_three : (text p q r : List ℕ) (more : List (List ℕ)) → Parts text (p ∷ q ∷ r ∷ more)
    → ¬ HasAttributeFrom 3 text → NoAttributes more
none_after_three text p q r more are none = none_at more
    (λ j part at is. none (suc (suc (suc j)), part, omega arith, (p ∷ q ∷ r ∷ more, are, at), is))

-- a text in k parts has none after them, misplaced or not
pub none_after_all : (k : ℕ) (text : List ℕ) (parts : List (List ℕ)) → Parts text parts → length parts ≡ k
    → ¬ HasMisplacedFrom k text
none_after_all k text parts are all has =
    let same = one_list_of_parts text has.3.0 parts has.3.1 are in
    let within : has.0 < length has.3.0 = slice_get_within has.3.0 has.0 has.1 has.3.2 in
    omega (arith, within, has.2, ap length same, all)

-- ---- a mark that occurs once

abbrev AllNot : (List ℕ → Type 0) → List (List ℕ) → Type 0
AllNot P parts = AllByRecursion (λ part. ¬ P part) parts

not_in : (P : List ℕ → Type 0) (us vs : List (List ℕ)) (q : List ℕ) → P q → AllNot P (us ++ q ∷ vs) → ⊥
not_in P [] vs q has none = none.0 has
not_in P (u ∷ us) vs q has none = not_in P us vs q has none.1

-- where one list has a mark nowhere but perhaps at p, and the other has a mark at q, both are cut at the same place
one_mark : (P : List ℕ → Type 0) (xs ys us vs : List (List ℕ)) (p q : List ℕ) → P q → AllNot P xs → AllNot P ys
    → xs ++ p ∷ ys ≡ us ++ q ∷ vs → (xs ≡ us) × (p ≡ q) × (ys ≡ vs)
one_mark P [] ys [] vs p q has none after same = (refl, cc, cc)
one_mark P [] ys (u ∷ us) vs p q has none after same =
    let tail : ys ≡ us ++ q ∷ vs = cc in absurd (not_in P us vs q has (subst (AllNot P) tail after))
one_mark P (x ∷ xs) ys [] vs p q has none after same =
    let first : x ≡ q = cc in absurd (none.0 (subst P (sym first) has))
one_mark P (x ∷ xs) ys (u ∷ us) vs p q has none after same =
    let first : x ≡ u = cc in
    let tail : xs ++ p ∷ ys ≡ us ++ q ∷ vs = cc in
    let rest = one_mark P xs ys us vs p q has none.1 after tail in
    let front : xs ≡ us = rest.0 in
    (cc, rest.1, rest.2)

-- ---- attributes

-- the part is a channel binding
abbrev pub IsBinding : List ℕ → Type 0
IsBinding part = StartsWith part (codes "c=")

-- it is an iteration count
abbrev IsCounting : List ℕ → Type 0
IsCounting part = StartsWith part (codes "i=")

-- both are attributes that RFC 5802 defines
no_bindings : (parts : List (List ℕ)) → NoAttributes parts → AllNot IsBinding parts
no_bindings [] none = tt
no_bindings (x ∷ parts) none =
    (λ has. none.0 (ap is_attribute has.1), no_bindings parts none.1)

no_countings : (parts : List (List ℕ)) → NoAttributes parts → AllNot IsCounting parts
no_countings [] none = tt
no_countings (x ∷ parts) none =
    (λ has. none.0 (ap is_attribute has.1), no_countings parts none.1)

-- a part that begins with another letter is neither; 114, 115, 105 and 99 are r, s, i and c, and 61 is =
other_letter : (letter mark : ℕ) (value : List ℕ) → (letter ≡ mark → ⊥) → ¬ StartsWith (letter ∷ 61 ∷ value) (mark ∷ 61 ∷ [])
other_letter letter mark value apart has =
    let first : letter ≡ mark = ap (λ (z : List ℕ). get_or z 0 0) has.1 in apart first

all_not-append : (P : List ℕ → Type 0) (xs ys : List (List ℕ)) → AllNot P xs → AllNot P ys → AllNot P (xs ++ ys)
all_not-append P [] ys one two = two
all_not-append P (x ∷ xs) ys one two = (one.0, all_not-append P xs ys one.1 two)

-- two parts are equal to others followed by two parts only where there are no others
none_before : (p q r s : List ℕ) (extra : List (List ℕ)) → p ∷ q ∷ [] ≡ extra ++ r ∷ s ∷ [] → extra ≡ []
none_before p q r s [] same = refl
none_before p q r s (x ∷ extra) same =
    absurd (omega (arith, ap length same, length-append (x ∷ extra) (r ∷ s ∷ [])))

-- ---- the two lists

-- the parts of a client's AuthMessage after its first two, and those of a server's
abbrev pub of_client : List ℕ → List ℕ → List ℕ → List ℕ → List (List ℕ) → List (List ℕ)
of_client f s i c more =
    ((114 ∷ 61 ∷ f) ∷ (115 ∷ 61 ∷ s) ∷ (105 ∷ 61 ∷ i) ∷ more) ++ ((99 ∷ 61 ∷ c) ∷ (114 ∷ 61 ∷ f) ∷ [])

abbrev pub of_server : List ℕ → List ℕ → List ℕ → List ℕ → List (List ℕ) → List (List ℕ) → List (List ℕ)
of_server f s i c extra middle = extra ++ (((114 ∷ 61 ∷ f) ∷ (115 ∷ 61 ∷ s) ∷ (105 ∷ 61 ∷ i) ∷ [])
    ++ ((99 ∷ 61 ∷ c) ∷ (114 ∷ 61 ∷ f) ∷ middle))

-- there are no extensions
abbrev pub AreNone : List (List ℕ) → List (List ℕ) → List (List ℕ) → Type 0
AreNone more extra middle = (more ≡ []) × (extra ≡ []) × (middle ≡ [])

-- there are none where the lists are equal and the client's has no attribute of RFC 5802 in their place
pub none_of_client : (f s i c f' s' i' c' : List ℕ) (more extra middle : List (List ℕ)) → NoAttributes more
    → of_client f s i c more ≡ of_server f' s' i' c' extra middle → AreNone more extra middle
none_of_client f s i c f' s' i' c' more extra middle plain same =
    let nonce = 114 ∷ 61 ∷ f in
    let salt = 115 ∷ 61 ∷ s in
    let its_nonce = 114 ∷ 61 ∷ f' in
    let its_salt = 115 ∷ 61 ∷ s' in
    let its_count = 105 ∷ 61 ∷ i' in
    let its_binding = 99 ∷ 61 ∷ c' in
    let cut = one_mark IsBinding (nonce ∷ salt ∷ (105 ∷ 61 ∷ i) ∷ more) (nonce ∷ [])
    (extra ++ its_nonce ∷ its_salt ∷ its_count ∷ []) (its_nonce ∷ middle) (99 ∷ 61 ∷ c) its_binding (c', refl) (
      other_letter 114 99 f (λ e. omega (arith, e)),
      (
        other_letter 115 99 s (λ e. omega (arith, e)),
        (other_letter 105 99 i (λ e. omega (arith, e)), no_bindings more plain),
      ),
    )
    (other_letter 114 99 f (λ e. omega (arith, e)), tt)
    (same ∙ sym (append_assoc extra (its_nonce ∷ its_salt ∷ its_count ∷ []) (its_binding ∷ its_nonce ∷ middle))) in
    let end : nonce ∷ [] ≡ its_nonce ∷ middle = cut.2 in
    let counted = one_mark IsCounting (nonce ∷ salt ∷ []) more (extra ++ its_nonce ∷ its_salt ∷ []) [] (105 ∷ 61 ∷ i)
    its_count (i', refl)
    (other_letter 114 105 f (λ e. omega (arith, e)), (other_letter 115 105 s (λ e. omega (arith, e)), tt))
    (no_countings more plain)
    (cut.0 ∙ sym (append_assoc extra (its_nonce ∷ its_salt ∷ []) (its_count ∷ []))) in
    (counted.2, none_before nonce salt its_nonce its_salt extra counted.0, sym (ap (λ (z : List (List ℕ)). drop 1 z) end))

-- and where the server's has none
pub none_of_server : (f s i c f' s' i' c' : List ℕ) (more extra middle : List (List ℕ)) → NoAttributes extra
    → NoAttributes middle → of_client f s i c more ≡ of_server f' s' i' c' extra middle → AreNone more extra middle
none_of_server f s i c f' s' i' c' more extra middle plain too same =
    let nonce = 114 ∷ 61 ∷ f in
    let salt = 115 ∷ 61 ∷ s in
    let count = 105 ∷ 61 ∷ i in
    let its_nonce = 114 ∷ 61 ∷ f' in
    let its_salt = 115 ∷ 61 ∷ s' in
    let its_count = 105 ∷ 61 ∷ i' in
    let its_binding = 99 ∷ 61 ∷ c' in
    let three = its_nonce ∷ its_salt ∷ its_count ∷ [] in
    let cut = one_mark IsBinding (extra ++ three) (its_nonce ∷ middle) (nonce ∷ salt ∷ count ∷ more) (nonce ∷ [])
    its_binding (99 ∷ 61 ∷ c) (c, refl)
    (all_not-append IsBinding extra three (no_bindings extra plain) (
      other_letter 114 99 f' (λ e. omega (arith, e)),
      (
        other_letter 115 99 s' (λ e. omega (arith, e)),
        (other_letter 105 99 i' (λ e. omega (arith, e)), tt),
      ),
    ))
    (other_letter 114 99 f' (λ e. omega (arith, e)), no_bindings middle too)
    (append_assoc extra three (its_binding ∷ its_nonce ∷ middle) ∙ sym same) in
    let end : its_nonce ∷ middle ≡ nonce ∷ [] = cut.2 in
    let counted = one_mark IsCounting (extra ++ its_nonce ∷ its_salt ∷ []) [] (nonce ∷ salt ∷ []) more its_count count
    (i, refl)
    (all_not-append IsCounting extra (its_nonce ∷ its_salt ∷ []) (no_countings extra plain)
    (other_letter 114 105 f' (λ e. omega (arith, e)), (other_letter 115 105 s' (λ e. omega (arith, e)), tt)))
    tt
    (append_assoc extra (its_nonce ∷ its_salt ∷ []) (its_count ∷ []) ∙ cut.0) in (
      sym counted.2,
      none_before nonce salt its_nonce its_salt extra (sym counted.0),
      ap (λ (z : List (List ℕ)). drop 1 z) end,
    )

-- ---- the one channel binding

-- a server's AuthMessage that has no attribute of RFC 5802 in the place of extensions has one channel binding, however
-- somebody else cuts it
pub binding_of_server : (u n f s i c : List ℕ) (extra middle us vs : List (List ℕ)) (q : List ℕ) → IsBinding q
    → NoAttributes extra → NoAttributes middle
    → (110 ∷ 61 ∷ u) ∷ (114 ∷ 61 ∷ n) ∷ of_server f s i c extra middle ≡ us ++ q ∷ vs → 99 ∷ 61 ∷ c ≡ q
binding_of_server u n f s i c extra middle us vs q has plain too same =
    let three = (114 ∷ 61 ∷ f) ∷ (115 ∷ 61 ∷ s) ∷ (105 ∷ 61 ∷ i) ∷ [] in
    let rest = (114 ∷ 61 ∷ f) ∷ middle in
    let nonce = other_letter 114 99 f (λ e. omega (arith, e)) in
    (one_mark IsBinding ((110 ∷ 61 ∷ u) ∷ (114 ∷ 61 ∷ n) ∷ (extra ++ three)) rest us vs (99 ∷ 61 ∷ c) q has (
      other_letter 110 99 u (λ e. omega (arith, e)),
      (
        other_letter 114 99 n (λ e. omega (arith, e)),
        all_not-append IsBinding extra three (no_bindings extra plain) (
          nonce,
          (other_letter 115 99 s (λ e. omega (arith, e)), (other_letter 105 99 i (λ e. omega (arith, e)), tt)),
        ),
      ),
    )
    (nonce, no_bindings middle too)
    (ap (λ (z : List (List ℕ)). (110 ∷ 61 ∷ u) ∷ (114 ∷ 61 ∷ n) ∷ z)
    (append_assoc extra three ((99 ∷ 61 ∷ c) ∷ rest)) ∙ same)).1

-- and so has a client's
pub binding_of_client : (u n f s i c : List ℕ) (more us vs : List (List ℕ)) (q : List ℕ) → IsBinding q
    → NoAttributes more → (110 ∷ 61 ∷ u) ∷ (114 ∷ 61 ∷ n) ∷ of_client f s i c more ≡ us ++ q ∷ vs
    → 99 ∷ 61 ∷ c ≡ q
binding_of_client u n f s i c more us vs q has plain same =
    let nonce = other_letter 114 99 f (λ e. omega (arith, e)) in
    (one_mark IsBinding
    ((110 ∷ 61 ∷ u) ∷ (114 ∷ 61 ∷ n) ∷ (114 ∷ 61 ∷ f) ∷ (115 ∷ 61 ∷ s) ∷ (105 ∷ 61 ∷ i) ∷ more)
    ((114 ∷ 61 ∷ f) ∷ []) us vs (99 ∷ 61 ∷ c) q has (
      other_letter 110 99 u (λ e. omega (arith, e)),
      (
        other_letter 114 99 n (λ e. omega (arith, e)),
        (
          nonce,
          (
            other_letter 115 99 s (λ e. omega (arith, e)),
            (other_letter 105 99 i (λ e. omega (arith, e)), no_bindings more plain),
          ),
        ),
      ),
    )
    (nonce, tt) same).1
