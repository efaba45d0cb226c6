-- The parts of a message of PLAIN are the pieces between its zero bytes, and no others.
use Rattle.std.proofs.Common.{◌≡◌, ◌≢◌, ℕ, Bool, true, false, eqb, cond, List, [], ◌∷◌, ◌++◌, refl, sym, ◌∙◌, ap, subst, inl, inr}
use Rattle.std.specs.Prelude.{slice_get, Option, None, Some, option_map, MatchOption}
use Rattle.std.specs.List.{slice_split, onto_first, join_with_byte, AllByRecursion}
use Rattle.std.proofs.lemmas.Bool.{ne_eqb, eqb-false}
use Rattle.std.proofs.lemmas.List.Elements.{All-from_recursion}
use Rattle.std.proofs.lemmas.List.Splits.{join_with_byte-slice_split, slice_split_at, slice_split_none}
use Rattle.std.proofs.lemmas.Option.{none-some, same_Some}
use Rattle.fe2o3_scram.proofs.lemmas.texts.DecisionLemmas.{Decided, same_or}
use Rattle.fe2o3_sasl_core.specs.SaslAcceptor.{NoZero, ZeroPart, NamesPlain}

-- the pieces between zero bytes
abbrev pub between : List ℕ → List (List ℕ)
between text = slice_split (λ byte. eqb byte 0) text

passes-none : (part : List ℕ) → NoZero part → AllByRecursion (λ byte. eqb byte 0 ≡ false) part
passes-none [] plain = tt
passes-none (x ∷ part) plain = (ne_eqb x 0 plain.0, passes-none part plain.1)

-- parts are the pieces, but where there is no part
parts_are : (part : List ℕ) (parts : List (List ℕ)) → AllByRecursion NoZero (part ∷ parts)
    → between (join_with_byte 0 (part ∷ parts)) ≡ part ∷ parts
parts_are part [] apart = slice_split_none (λ byte. eqb byte 0) part
    (All-from_recursion _ part (passes-none part apart.0))
parts_are part (next ∷ more) apart =
    slice_split_at (λ byte. eqb byte 0) part 0 (join_with_byte 0 (next ∷ more))
    (All-from_recursion _ part (passes-none part apart.0)) refl
    ∙ ap (λ (rest : List (List ℕ)). part ∷ rest) (parts_are next more apart.1)

-- a part that a text has is among the pieces
pub among : (text part : List ℕ) (k : ℕ) → ZeroPart text k part → slice_get (between text) k ≡ Some part
among text part k has = go has.0 has.1 has.2 has.3
  where
    go : (parts : List (List ℕ)) → AllByRecursion NoZero parts → join_with_byte 0 parts ≡ text
        → slice_get parts k ≡ Some part → slice_get (between text) k ≡ Some part
    go [] apart whole at = absurd (none-some part at)
    go (first ∷ more) apart whole at = ap (λ (some : List ℕ). slice_get (between some) k) (sym whole)
        ∙ (ap (λ (parts : List (List ℕ)). slice_get parts k) (parts_are first more apart) ∙ at)

-- a text has one part at a place
pub one_zero_part : (text : List ℕ) (k : ℕ) (part other : List ℕ) → ZeroPart text k part → ZeroPart text k other
    → part ≡ other
one_zero_part text k part other is too = same_Some part other (sym (among text part k is) ∙ among text other k too)

-- a user and a password in words without zero bytes are named by their message, whatever parts follow
pub names_both : (user password : List ℕ) → NoZero user → NoZero password
    → NamesPlain user password (0 ∷ user ++ 0 ∷ password)
names_both user password plain too =
    let parts : List (List ℕ) = [] ∷ user ∷ password ∷ [] in
    let apart : AllByRecursion NoZero parts = (tt, (plain, (too, tt))) in
    ((parts, apart, refl, refl), (parts, apart, refl, refl))

-- and no others
pub names_no_other : (user password other secret : List ℕ) → NoZero other → NoZero secret
    → NamesPlain user password (0 ∷ other ++ 0 ∷ secret) → (user ≡ other) × (password ≡ secret)
names_no_other user password other secret plain too names =
    let text : List ℕ = 0 ∷ other ++ 0 ∷ secret in
    let own = names_both other secret plain too in
    (one_zero_part text 1 user other names.0 own.0, one_zero_part text 2 password secret names.1 own.1)

-- ---- a search among the pieces

apart-onto_first : (x : ℕ) (parts : List (List ℕ)) → x ≢ 0 → AllByRecursion NoZero parts
    → AllByRecursion NoZero (onto_first x parts)
apart-onto_first x [] plain apart = ((plain, tt), tt)
apart-onto_first x (part ∷ parts) plain apart = ((plain, apart.0), apart.1)

apart-step : (x : ℕ) (parts : List (List ℕ)) (zero : Bool) → eqb x 0 ≡ zero → AllByRecursion NoZero parts
    → AllByRecursion NoZero (cond zero ([] ∷ parts) (onto_first x parts))
apart-step x parts true is apart = (tt, apart)
apart-step x parts false is apart = apart-onto_first x parts (eqb-false x 0 is) apart

apart-between : (text : List ℕ) → AllByRecursion NoZero (between text)
apart-between [] = (tt, tt)
apart-between (x ∷ text) = apart-step x (between text) (eqb x 0) refl (apart-between text)

-- what was found at a place is the part there
pub zero_part_found : {A : Type 0} (now : A → List ℕ) (text : List ℕ) (k : ℕ) (found : Option A)
    → option_map now found ≡ slice_get (between text) k
    → MatchOption found ((part : List ℕ) → ¬ ZeroPart text k part) (λ part. ZeroPart text k (now part))
zero_part_found now text k None is = λ part has. none-some part (is ∙ among text part k has)
zero_part_found now text k (Some part) is =
    (between text, apart-between text, join_with_byte-slice_split 0 text, sym is)

-- it is the one that is wanted exactly where both are the same text
pub wanted_part : (text : List ℕ) (k : ℕ) (part wanted : List ℕ) (same : Bool) → ZeroPart text k part
    → (same ≡ true → part ≡ wanted) × (part ≡ wanted → same ≡ true)
    → (same ≡ true → ZeroPart text k wanted) × (ZeroPart text k wanted → same ≡ true)
wanted_part text k part wanted same is both =
    (λ yes. subst (ZeroPart text k) (both.0 yes) is, λ has. both.1 (one_zero_part text k part wanted is has))

-- ---- a text has a part at a place or it has not

zero_part_or : (text : List ℕ) (k : ℕ) (part : List ℕ) → Decided (ZeroPart text k part)
zero_part_or text k part = go (slice_get (between text) k) refl
  where
    same : (other : List ℕ) → slice_get (between text) k ≡ Some other → Decided (other ≡ part)
        → Decided (ZeroPart text k part)
    same other is (inl equal) =
        inl (between text, apart-between text, join_with_byte-slice_split 0 text, is ∙ ap Some equal)
    same other is (inr differs) = inr (λ has. differs (same_Some other part (sym is ∙ among text part k has)))

    go : (found : Option (List ℕ)) → slice_get (between text) k ≡ found → Decided (ZeroPart text k part)
    go None is = inr (λ has. none-some part (sym is ∙ among text part k has))
    go (Some other) is = same other is (same_or other part)

-- likewise its user and its password
pub names_plain_or : (user password text : List ℕ) → Decided (NamesPlain user password text)
names_plain_or user password text = go (zero_part_or text 1 user) (zero_part_or text 2 password)
  where
    go : Decided (ZeroPart text 1 user) → Decided (ZeroPart text 2 password) → Decided (NamesPlain user password text)
    go (inl one) (inl two) = inl (one, two)
    go (inl one) (inr two) = inr (λ names. two names.1)
    go (inr one) more = inr (λ names. one names.0)
