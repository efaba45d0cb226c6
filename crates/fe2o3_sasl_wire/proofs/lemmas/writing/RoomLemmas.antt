-- Canonical bodies, part by part.
use Rattle.std.proofs.Common.{◌≡◌, ℕ, zero, suc, ◌+◌, ◌^◌, ◌<◌, ◌≤◌, List, [], ◌∷◌, length, take, get_or, refl, arith, Bool, true, false, ltb, cond, map, inl, inr}
use Rattle.std.specs.List.{flat_map, AllByRecursion}
use Rattle.std.proofs.lemmas.Bool.{lt-ltb, le-ltb, ltb-true, cases_lt, and_parts}
use Rattle.std.proofs.lemmas.List.{length-append}
use Rattle.fe2o3_sasl_wire.specs.declared.sasl_frames.forms.Form.{Form}
use Rattle.fe2o3_sasl_wire.specs.declared.sasl_frames.forms.Form.TheVariants.{Eight, ThirtyTwo}
use Rattle.fe2o3_sasl_wire.specs.declared.sasl_frames.fields.Field.{Field as HeldField}
use Rattle.fe2o3_sasl_wire.specs.private.Writing.{width, elements, all_short, array_form, canonical_array}
use Rattle.fe2o3_sasl_wire.specs.SaslFrames.{limit, content, shortest, inner_form, canonical_field}
use Rattle.fe2o3_sasl_wire.specs.private.Fields.{shown_field}
use Rattle.fe2o3_sasl_wire.proofs.lemmas.writing.CanonicalSpellsLemmas.{length-content, few_names, small_array}

-- room for one more element
pub room_for : (form : Form) (names : List (List ℕ)) (i : ℕ) (d : List ℕ) → i < length names
    → length (elements form (take i names)) + (width form + length (get_or names i d)) ≤ length (elements form names)
room_for form [] i d lt = absurd (omega arith)
room_for form (name ∷ names) zero d lt =
    omega (arith, length-append (content form name) (elements form names), length-content form name)
room_for form (name ∷ names) (suc i) d lt =
    omega (
      arith,
      room_for form names i d (omega arith),
      length-append (content form name) (elements form names),
      length-append (content form name) (elements form (take i names)),
    )

-- ---- arrays

-- an array that fits leaves room for its elements
pub elements_fit : (names : List (List ℕ)) → length (canonical_array names) < 2 ^ 32
    → length (elements (inner_form names) names) + 9 < 2 ^ 32
elements_fit names lt = small_array (array_form names) (inner_form names) names refl lt

-- the count has room in the form of the array
pub count_fits : (names : List (List ℕ)) (n : ℕ) → length (canonical_array names) < 2 ^ 32
    → n ≡ length (elements (inner_form names) names) → length names < limit (shortest (2 + n))
count_fits names n lt e =
    let few = few_names (inner_form names) names in
    let fit = elements_fit names lt in
    elim (cases_lt (2 + n) 256) [
      | inl h ↦ rw (lt-ltb (2 + n) 256 h) (omega arith)
      | inr h ↦ rw (le-ltb (2 + n) 256 h) (omega arith)
    ]

short_names : (names : List (List ℕ)) → all_short names ≡ true
    → AllByRecursion (λ name. length name < limit Eight) names
short_names [] e = tt
short_names (name ∷ names) e =
    let p = and_parts (ltb (length name) 256) (all_short names) e in
    (ltb-true (length name) 256 p.0, short_names names p.1)

long_names : (names : List (List ℕ)) → length (elements ThirtyTwo names) < 2 ^ 32
    → AllByRecursion (λ name. length name < limit ThirtyTwo) names
long_names [] lt = tt
long_names (name ∷ names) lt =
    let len = length-append (content ThirtyTwo name) (elements ThirtyTwo names) in
    let first = length-content ThirtyTwo name in
    (omega arith, long_names names (omega arith))

each_fits_in : (names : List (List ℕ)) (inner : Form) (short : Bool) → all_short names ≡ short
    → inner ≡ cond short Eight ThirtyTwo → length (elements inner names) < 2 ^ 32
    → AllByRecursion (λ name. length name < limit inner) names
each_fits_in names inner true e f lt = rw f (short_names names e)
each_fits_in names inner false e f lt = rw f (long_names names (rw f at lt))

-- each symbol has room in the form of the elements
pub each_fits : (names : List (List ℕ)) → length (canonical_array names) < 2 ^ 32
    → AllByRecursion (λ name. length name < limit (inner_form names)) names
each_fits names lt =
    each_fits_in names (inner_form names) (all_short names) refl refl (omega (arith, elements_fit names lt))

-- ---- items

-- the fields that were written, and the next one, are within all of them
pub item_room : (fields : List HeldField) (i : ℕ) (d : HeldField) → i < length fields
    → length (flat_map canonical_field (map shown_field (take i fields))) + length
    (canonical_field (shown_field (get_or fields i d))) ≤ length (flat_map canonical_field (map shown_field fields))
item_room [] i d lt = absurd (omega arith)
item_room (field ∷ fields) zero d lt =
    omega (
      arith,
      length-append (canonical_field (shown_field field))
          (flat_map canonical_field (map shown_field fields)),
    )
item_room (field ∷ fields) (suc i) d lt =
    omega (
      arith,
      item_room fields i d (omega arith),
      length-append (canonical_field (shown_field field)) (flat_map canonical_field (map shown_field fields)),
      length-append (canonical_field (shown_field field)) (flat_map canonical_field (map shown_field (take i fields))),
    )
