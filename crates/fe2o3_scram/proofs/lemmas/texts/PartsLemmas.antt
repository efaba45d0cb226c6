-- The parts of a text are what `split` gives at its commas, and no others.
use Rattle.std.proofs.Common.{◌≡◌, ◌≢◌, ℕ, Bool, true, false, eqb, cond, List, [], ◌∷◌, ◌++◌, refl, sym, ◌∙◌, ap, arith}
use Rattle.std.specs.Prelude.{slice_get, Option, None, Some, option_map, MatchOption}
use Rattle.std.specs.List.{slice_split, onto_first, join_with_byte, AllByRecursion}
use Rattle.std.proofs.lemmas.Bool.{eqb-false, ne_eqb}
use Rattle.std.proofs.lemmas.List.{append_cancel_left}
use Rattle.std.proofs.lemmas.List.Elements.{All-from_recursion}
use Rattle.std.proofs.lemmas.List.Splits.{join_with_byte-slice_split, slice_split_at, slice_split_none, length-slice_split}
use Rattle.std.proofs.lemmas.Option.{none-some, same_Some}
use Rattle.fe2o3_scram.specs.Texts.{NoComma, Parts, Part, StartsWith}

-- the pieces between commas
abbrev pub pieces : List ℕ → List (List ℕ)
pieces text = slice_split (λ byte. eqb byte 44) text

apart-onto_first : (x : ℕ) (parts : List (List ℕ)) → x ≢ 44 → AllByRecursion NoComma parts
    → AllByRecursion NoComma (onto_first x parts)
apart-onto_first x [] plain apart = ((plain, tt), tt)
apart-onto_first x (part ∷ parts) plain apart = ((plain, apart.0), apart.1)

apart-step : (x : ℕ) (parts : List (List ℕ)) (comma : Bool) → eqb x 44 ≡ comma → AllByRecursion NoComma parts
    → AllByRecursion NoComma (cond comma ([] ∷ parts) (onto_first x parts))
apart-step x parts true is apart = (tt, apart)
apart-step x parts false is apart = apart-onto_first x parts (eqb-false x 44 is) apart

apart-pieces : (text : List ℕ) → AllByRecursion NoComma (pieces text)
apart-pieces [] = (tt, tt)
apart-pieces (x ∷ text) = apart-step x (pieces text) (eqb x 44) refl (apart-pieces text)

pub Parts-pieces : (text : List ℕ) → Parts text (pieces text)
Parts-pieces text = record {
  some = omega (arith, length-slice_split (λ byte. eqb byte 44) text);
  apart = apart-pieces text;
  whole = join_with_byte-slice_split 44 text;
}

-- no byte passes the test for a comma
passes-none : (part : List ℕ) → NoComma part → AllByRecursion (λ byte. eqb byte 44 ≡ false) part
passes-none [] plain = tt
passes-none (x ∷ part) plain = (ne_eqb x 44 plain.0, passes-none part plain.1)

-- parts are the pieces
parts_are : (text : List ℕ) (parts : List (List ℕ)) → Parts text parts → parts ≡ pieces text
parts_are text [] are = absurd (omega (arith, are.some))
parts_are text (part ∷ []) are =
    sym (slice_split_none (λ byte. eqb byte 44) part (All-from_recursion _ part (passes-none part are.apart.0)))
    ∙ ap pieces are.whole
parts_are text (part ∷ next ∷ more) are =
    let others : Parts (join_with_byte 44 (next ∷ more)) (next ∷ more) =
    record { some = omega arith; apart = are.apart.1; whole = refl } in
    ap (λ (rest : List (List ℕ)). part ∷ rest) (parts_are (join_with_byte 44 (next ∷ more)) (next ∷ more) others)
    ∙ sym (slice_split_at (λ byte. eqb byte 44) part 44 (join_with_byte 44 (next ∷ more))
    (All-from_recursion _ part (passes-none part are.apart.0)) refl)
    ∙ ap pieces are.whole

-- a text has one list of parts
pub one_list_of_parts : (text : List ℕ) (parts others : List (List ℕ)) → Parts text parts → Parts text others
    → parts ≡ others
one_list_of_parts text parts others are too = parts_are text parts are ∙ sym (parts_are text others too)

-- a text has one part at a place
pub one_part : (text : List ℕ) (k : ℕ) (part other : List ℕ) → Part text k part → Part text k other → part ≡ other
one_part text k part other is too =
    same_Some part other (sym is.2
    ∙ (ap (λ (parts : List (List ℕ)). slice_get parts k) (one_list_of_parts text is.0 too.0 is.1 too.1) ∙ too.2))

-- and one text after a key of it
pub one_behind : (text : List ℕ) (k : ℕ) (key rest other : List ℕ) → Part text k (key ++ rest)
    → Part text k (key ++ other) → rest ≡ other
one_behind text k key rest other is too =
    append_cancel_left key rest other (one_part text k (key ++ rest) (key ++ other) is too)

-- what a search among the pieces found
pub part_from_pieces : {A : Type 0} (now : A → List ℕ) (text : List ℕ) (k : ℕ) (found : Option A)
    → option_map now found ≡ slice_get (pieces text) k
    → MatchOption found ((part : List ℕ) → ¬ Part text k part) (λ part. Part text k (now part))
part_from_pieces now text k None is =
    λ part has. none-some part (is
    ∙ (ap (λ (parts : List (List ℕ)). slice_get parts k) (sym (parts_are text has.0 has.1)) ∙ has.2))
part_from_pieces now text k (Some part) is = (pieces text, Parts-pieces text, sym is)

-- the rest of a part, after a key
pub attribute_from_part : {A : Type 0} (now : A → List ℕ) (text key part : List ℕ) (k : ℕ) (found : Option A)
    → Part text k part → MatchOption found (¬ StartsWith part key) (λ rest. part ≡ key ++ now rest)
    → MatchOption found ((rest : List ℕ) → ¬ Part text k (key ++ rest)) (λ rest. Part text k (key ++ now rest))
attribute_from_part now text key part k None is none =
    λ rest has. none (rest, one_part text k part (key ++ rest) is has)
attribute_from_part now text key part k (Some rest) is some = (is.0, is.1, is.2 ∙ ap Some some)
