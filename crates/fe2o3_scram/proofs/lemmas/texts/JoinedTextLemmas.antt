-- The parts of joined texts.
use Rattle.std.proofs.Common.{◌≡◌, ℕ, zero, suc, Some, List, [], ◌∷◌, ◌++◌, refl, sym, ap, ◌∙◌, subst, arith, append_assoc}
use Rattle.std.specs.Prelude.{slice_get}
use Rattle.std.specs.List.{AllByRecursion}
use Rattle.std.proofs.lemmas.Option.{none-some, same_Some}
use Rattle.fe2o3_scram.specs.Texts.{NoComma, Parts, Part, joined}
use Rattle.fe2o3_scram.proofs.lemmas.messages.ExchangeLemmas.{only_part}
use Rattle.fe2o3_scram.proofs.lemmas.texts.PartsLemmas.{one_list_of_parts}

-- equal texts have equal parts
pub same_parts : (text other : List ℕ) (parts others : List (List ℕ)) → text ≡ other → Parts text parts
    → Parts other others → parts ≡ others
same_parts text other parts others same are too = one_list_of_parts other parts others
    (subst (λ (z : List ℕ). Parts z parts) same are) too

-- the part at a place, in any list of the parts
pub part_in : (text : List ℕ) (parts : List (List ℕ)) (k : ℕ) (part : List ℕ) → Parts text parts → Part text k part
    → slice_get parts k ≡ Some part
part_in text parts k part are is = ap (λ (z : List (List ℕ)). slice_get z k)
    (one_list_of_parts text parts is.0 are is.1) ∙ is.2

plain_at : (parts : List (List ℕ)) (k : ℕ) (part : List ℕ) → AllByRecursion NoComma parts
    → slice_get parts k ≡ Some part → NoComma part
plain_at [] k part apart at = absurd (none-some part at)
plain_at (x ∷ parts) zero part apart at = subst NoComma (same_Some x part at) apart.0
plain_at (x ∷ parts) (suc k) part apart at = plain_at parts k part apart.1 at

-- a part holds no comma
pub no_comma-part : (text : List ℕ) (k : ℕ) (part : List ℕ) → Part text k part → NoComma part
no_comma-part text k part is = plain_at is.0 k part is.1.apart is.2

part_before : (part text : List ℕ) (parts : List (List ℕ)) → NoComma part → Parts text parts
    → Parts (part ++ 44 ∷ text) (part ∷ parts)
part_before part text [] plain are = absurd (omega (arith, are.some))
part_before part text (next ∷ more) plain are = record {
  some = omega arith;
  apart = (plain, are.apart);
  whole =
      ap (λ (rest : List ℕ). part ++ 44 ∷ rest) are.whole;
}

-- two texts with a comma between them have the parts of both
pub two_joined : (front back : List ℕ) (parts others : List (List ℕ)) → Parts front parts → Parts back others
    → Parts (front ++ 44 ∷ back) (parts ++ others)
two_joined front back [] others are too = absurd (omega (arith, are.some))
two_joined front back (part ∷ []) others are too = subst
    (λ (z : List ℕ). Parts (z ++ 44 ∷ back) (part ∷ others)) are.whole (part_before part back others are.apart.0 too)
two_joined front back (part ∷ next ∷ more) others are too =
    let rest : Parts (joined (next ∷ more)) (next ∷ more) =
    record { some = omega arith; apart = are.apart.1; whole = refl } in
    let both = two_joined (joined (next ∷ more)) back (next ∷ more) others rest too in
    subst (λ (z : List ℕ). Parts z ((part ∷ next ∷ more) ++ others))
    (sym (append_assoc part (44 ∷ joined (next ∷ more)) (44 ∷ back))
    ∙ ap (λ (z : List ℕ). z ++ 44 ∷ back) are.whole)
    (part_before part (joined (next ∷ more) ++ 44 ∷ back) ((next ∷ more) ++ others) are.apart.0 both)

-- and so do three
pub three_joined : (x y z : List ℕ) (xs ys zs : List (List ℕ)) → Parts x xs → Parts y ys → Parts z zs
    → Parts (joined (x ∷ y ∷ z ∷ [])) (xs ++ (ys ++ zs))
three_joined x y z xs ys zs p q r = two_joined x (y ++ 44 ∷ z) xs (ys ++ zs) p (two_joined y z ys zs q r)

-- the list of parts, of which two are known
pub first_two : (text p q : List ℕ) → Part text 0 p → Part text 1 q → (more : List (List ℕ)) × Parts text (p ∷ q ∷ more)
first_two text p q is too = go is.0 is.1 is.2 (part_in text is.0 1 q is.1 too)
  where
    go : (parts : List (List ℕ)) → Parts text parts → slice_get parts 0 ≡ Some p → slice_get parts 1 ≡ Some q
        → (more : List (List ℕ)) × Parts text (p ∷ q ∷ more)
    go [] are at next = absurd (none-some p at)
    go (x ∷ []) are at next = absurd (none-some q next)
    go (x ∷ y ∷ more) are at next = (
      more,
      subst (λ (w : List ℕ). Parts text (w ∷ q ∷ more)) (same_Some x p at)
          (subst (λ (w : List ℕ). Parts text (x ∷ w ∷ more)) (same_Some y q next) are),
    )

-- of which three are known
pub first_three : (text p q r : List ℕ) → Part text 0 p → Part text 1 q → Part text 2 r
    → (more : List (List ℕ)) × Parts text (p ∷ q ∷ r ∷ more)
first_three text p q r is too also = let two = first_two text p q is too in
    go two.0 two.1 (part_in text (p ∷ q ∷ two.0) 2 r two.1 also)
  where
    go : (more : List (List ℕ)) → Parts text (p ∷ q ∷ more) → slice_get (p ∷ q ∷ more) 2 ≡ Some r
        → (others : List (List ℕ)) × Parts text (p ∷ q ∷ r ∷ others)
    go [] are at = absurd (none-some r at)
    go (y ∷ others) are at = (others, subst (λ (w : List ℕ). Parts text (p ∷ q ∷ w ∷ others)) (same_Some y r at) are)

-- the parts of a text before its last part, and that part
pub with_last : (text before last : List ℕ) (parts : List (List ℕ)) → NoComma last → text ≡ joined (before ∷ last ∷ [])
    → Parts before parts → Parts text (parts ++ (last ∷ []))
with_last text before last parts plain whole are = subst (λ (z : List ℕ). Parts z (parts ++ (last ∷ []))) (sym whole)
    (two_joined before last parts (last ∷ []) are (only_part last plain))
