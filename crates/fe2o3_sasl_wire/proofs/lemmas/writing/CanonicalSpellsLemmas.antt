-- What is written is a spelling.
use Rattle.std.proofs.Common.{◌≡◌, ℕ, suc, ◌+◌, ◌^◌, ◌<◌, ◌≤◌, Bool, true, false, cond, ltb, List, [], ◌∷◌, ◌++◌, length, Some, refl, sym, ap, ◌∙◌, arith, inl, inr}
use Rattle.std.specs.Prelude.{IsAscii}
use Rattle.std.specs.List.{flat_map, AllByRecursion}
use Rattle.std.proofs.lemmas.Bool.{ltb-true, cases_lt, lt-ltb, le-ltb, and_parts}
use Rattle.std.proofs.lemmas.List.{length-append}
use Rattle.fe2o3_sasl_wire.specs.declared.sasl_frames.forms.Form.{Form}
use Rattle.fe2o3_sasl_wire.specs.declared.sasl_frames.forms.Form.TheVariants.{Eight, ThirtyTwo}
use Rattle.fe2o3_sasl_wire.specs.private.Fields.{AllNull}
use Rattle.fe2o3_sasl_wire.specs.private.Writing.{width, elements, all_short, array_form, list_form, canonical_variable, canonical_array, items_of, count_of, canonical_list}
use Rattle.fe2o3_sasl_wire.proofs.lemmas.frames.ValueLemmas.{code_is, spells_with}
use Rattle.fe2o3_sasl_wire.specs.SaslFrames.{descriptor_of, limit, number, choice, content, SpellsVariable, array_body, SpellsArray, list_body, SpellsSized, SaslFrame, Field, Null, Ubyte, Binary, Text, Symbol, Symbols, fields_of, SpellsField, SpellsItems, Spells, shortest, inner_form, canonical_field, with_field, written, canonical, IsText, HasTexts}
use Rattle.fe2o3_sasl_wire.specs.private.Kinds.{IsElement, kind_of, code_of, SpellsValue}
use Rattle.fe2o3_sasl_wire.proofs.lemmas.reading.StepLemmas.{when_some, some_is}

length-number : (form : Form) (n : ℕ) → length (number form n) ≡ width form
length-number Eight n = refl
length-number ThirtyTwo n = refl

-- how long a length and that many bytes are
pub length-content : (form : Form) (bytes : List ℕ) → length (content form bytes) ≡ width form + length bytes
length-content form bytes =
    length-append (number form (length bytes)) bytes ∙ ap (λ (n : ℕ). n + length bytes)
    (length-number form (length bytes))

-- the shortest form that holds n holds it
pub shortest_fits : (n : ℕ) → n < 2 ^ 32 → n < limit (shortest n)
shortest_fits n lt = elim (cases_lt n 256) [ inl h ↦ rw (lt-ltb n 256 h) h | inr h ↦ rw (le-ltb n 256 h) lt ]

variable_spells : (short long : ℕ) (bytes : List ℕ) → length bytes < 2 ^ 32
    → SpellsVariable short long bytes (canonical_variable short long bytes)
variable_spells short long bytes lt =
    record { form = shortest (length bytes); fits = shortest_fits (length bytes) lt; whole = refl }

length-variable : (short long : ℕ) (bytes : List ℕ) → length bytes ≤ length (canonical_variable short long bytes)
length-variable short long bytes = omega (arith, length-content (shortest (length bytes)) bytes)

-- ---- arrays

short_elements : (names : List (List ℕ)) → AllByRecursion IsAscii names → all_short names ≡ true
    → AllByRecursion (IsElement Eight) names
short_elements [] ascii e = tt
short_elements (name ∷ names) ascii e =
    let p = and_parts (ltb (length name) 256) (all_short names) e in
    ((ascii.0, ltb-true (length name) 256 p.0), short_elements names ascii.1 p.1)

long_elements : (names : List (List ℕ)) → AllByRecursion IsAscii names → length (elements ThirtyTwo names) < 2 ^ 32
    → AllByRecursion (IsElement ThirtyTwo) names
long_elements [] ascii lt = tt
long_elements (name ∷ names) ascii lt =
    let len = length-append (content ThirtyTwo name) (elements ThirtyTwo names) in
    let first = length-content ThirtyTwo name in
    ((ascii.0, omega arith), long_elements names ascii.1 (omega arith))

-- there are no more names than bytes of their elements
pub few_names : (inner : Form) (names : List (List ℕ)) → length names ≤ length (elements inner names)
few_names inner [] = omega arith
few_names inner (name ∷ names) =
    let len = length-append (content inner name) (elements inner names) in
    let first = length-content inner name in
    let wide : 1 ≤ width inner = at_least inner in
    let more = few_names inner names in
    omega arith
  where
    at_least : (form : Form) → 1 ≤ width form
    at_least Eight = omega arith
    at_least ThirtyTwo = omega arith

length-array_body : (form inner : Form) (names : List (List ℕ))
    → length (array_body form inner names) ≡ width form + (1 + length (elements inner names))
length-array_body form inner names =
    length-append (number form (length names)) (choice 0xa3 0xb3 inner ∷ elements inner names)
    ∙ omega (arith, length-number form (length names))

inner_elements : (names : List (List ℕ)) (inner : Form) → (short : Bool) → all_short names ≡ short
    → inner ≡ cond short Eight ThirtyTwo → AllByRecursion IsAscii names → length (elements inner names) < 2 ^ 32
    → AllByRecursion (IsElement inner) names
inner_elements names inner true e f ascii lt = rw f (short_elements names ascii e)
inner_elements names inner false e f ascii lt = rw f (long_elements names ascii (rw f at lt))

array_in : (form inner : Form) (names : List (List ℕ)) → AllByRecursion (IsElement inner) names
    → form ≡ shortest (length (array_body Eight inner names)) → length (array_body ThirtyTwo inner names) < 2 ^ 32
    → SpellsArray names (choice 0xe0 0xf0 form ∷ content form (array_body form inner names))
array_in Eight inner names each e lt =
    let b = length-array_body Eight inner names in
    let small : length (array_body Eight inner names) < 256 =
    elim (cases_lt (length (array_body Eight inner names)) 256) [
      | inl h ↦ h
      | inr h ↦ absurd (apart (rw (le-ltb _ 256 h) at e))
    ] in
    record {
      form = Eight;
      inner = inner;
      each = each;
      size = small;
      count = omega (arith, few_names inner names);
      whole = refl;
    }
  where
    apart : Eight ≡ ThirtyTwo → ⊥
    apart h = cc
array_in ThirtyTwo inner names each e lt =
    let b = length-array_body ThirtyTwo inner names in
    record {
      form = ThirtyTwo;
      inner = inner;
      each = each;
      size = lt;
      count = omega (arith, few_names inner names);
      whole = refl;
    }

-- the elements of an array that can be written leave room for what precedes them
pub small_array : (form inner : Form) (names : List (List ℕ))
    → form ≡ shortest (length (array_body Eight inner names))
    → length (choice 0xe0 0xf0 form ∷ content form (array_body form inner names)) < 2 ^ 32
    → length (elements inner names) + 9 < 2 ^ 32
small_array Eight inner names e lt =
    elim (cases_lt (length (array_body Eight inner names)) 256) [
      | inl h ↦ omega (arith, length-array_body Eight inner names)
      | inr h ↦ absurd (apart (rw (le-ltb _ 256 h) at e))
    ]
  where
    apart : Eight ≡ ThirtyTwo → ⊥
    apart h = cc
small_array ThirtyTwo inner names e lt =
    omega (arith, length-array_body ThirtyTwo inner names, length-content ThirtyTwo (array_body ThirtyTwo inner names))

array_spells : (names : List (List ℕ)) → AllByRecursion IsAscii names → length (canonical_array names) < 2 ^ 32
    → SpellsArray names (canonical_array names)
array_spells names ascii lt =
    let small = small_array (array_form names) (inner_form names) names refl lt in
    array_in (array_form names) (inner_form names) names
    (inner_elements names (inner_form names) (all_short names) refl refl ascii (omega arith)) refl
    (omega (arith, length-array_body ThirtyTwo (inner_form names) names))

-- ---- fields and items

field_spells : (field : Field) → IsText field → length (canonical_field field) < 2 ^ 32
    → SpellsField field (canonical_field field)
field_spells Null text lt = refl
field_spells (Ubyte n) text lt = refl
field_spells (Binary bytes) text lt = variable_spells 0xa0 0xb0 bytes (omega (arith, length-variable 0xa0 0xb0 bytes))
field_spells (Text bytes) text lt =
    (text, variable_spells 0xa1 0xb1 bytes (omega (arith, length-variable 0xa1 0xb1 bytes)))
field_spells (Symbol bytes) text lt =
    (text, variable_spells 0xa3 0xb3 bytes (omega (arith, length-variable 0xa3 0xb3 bytes)))
field_spells (Symbols names) text lt = inr (array_spells names text lt)

field_length : (field : Field) → 1 ≤ length (canonical_field field)
field_length Null = omega arith
field_length (Ubyte n) = omega arith
field_length (Binary bytes) = omega arith
field_length (Text bytes) = omega arith
field_length (Symbol bytes) = omega arith
field_length (Symbols names) = omega arith

few_items : (fields : List Field) → length fields ≤ length (flat_map canonical_field fields)
few_items [] = omega arith
few_items (field ∷ fields) =
    omega (
      arith,
      few_items fields,
      field_length field,
      length-append (canonical_field field)
          (flat_map canonical_field fields),
    )

none_step : (field : Field) (fields ws : List Field) → (ws ≡ [] → AllNull fields) → with_field field ws ≡ []
    → AllNull (field ∷ fields)
none_step Null fields [] h f = (refl, h refl)
none_step Null fields (w ∷ ws) h f = absurd cc
none_step (Ubyte n) fields ws h f = absurd cc
none_step (Binary n) fields ws h f = absurd cc
none_step (Text n) fields ws h f = absurd cc
none_step (Symbol n) fields ws h f = absurd cc
none_step (Symbols n) fields ws h f = absurd cc

none_written : (fields : List Field) → written fields ≡ [] → AllNull fields
none_written [] e = tt
none_written (field ∷ fields) e = none_step field fields (written fields) (none_written fields) e

-- the first field that is written spells itself
first_spells : (field : Field) (ws : List Field) → IsText field
    → length (canonical_field field ++ flat_map canonical_field ws) < 2 ^ 32 → SpellsField field (canonical_field field)
first_spells field ws text lt =
    field_spells field text (omega (arith, length-append (canonical_field field) (flat_map canonical_field ws)))

-- a field before those that are written
item_before : (field : Field) (fields ws : List Field) → SpellsField field (canonical_field field)
    → SpellsItems fields (length ws) (flat_map canonical_field ws)
    → SpellsItems (field ∷ fields) (suc (length ws)) (canonical_field field ++ flat_map canonical_field ws)
item_before field fields ws spelled others =
    inr (length ws, canonical_field field, flat_map canonical_field ws, refl, refl, spelled, others)

-- what is written of a field and the fields after it
item_step : (field : Field) (fields ws : List Field) → IsText field → (ws ≡ [] → AllNull fields)
    → SpellsItems fields (length ws) (flat_map canonical_field ws)
    → length (flat_map canonical_field (with_field field ws)) < 2 ^ 32
    → SpellsItems (field ∷ fields) (length (with_field field ws)) (flat_map canonical_field (with_field field ws))
item_step Null fields [] text none s lt = inl ((refl, none refl), refl, refl)
item_step Null fields (w ∷ ws) text none s lt = item_before Null fields (w ∷ ws) refl s
item_step (Ubyte n) fields ws text none s lt =
    item_before (Ubyte n) fields ws (first_spells (Ubyte n) ws text lt) s
item_step (Binary n) fields ws text none s lt =
    item_before (Binary n) fields ws (first_spells (Binary n) ws text lt) s
item_step (Text n) fields ws text none s lt =
    item_before (Text n) fields ws (first_spells (Text n) ws text lt) s
item_step (Symbol n) fields ws text none s lt =
    item_before (Symbol n) fields ws (first_spells (Symbol n) ws text lt) s
item_step (Symbols n) fields ws text none s lt =
    item_before (Symbols n) fields ws (first_spells (Symbols n) ws text lt) s

length-with_field : (field : Field) (ws : List Field)
    → length (flat_map canonical_field ws) ≤ length (flat_map canonical_field (with_field field ws))
length-with_field Null [] = omega arith
length-with_field Null (w ∷ ws) =
    omega (arith, length-append (canonical_field Null) (flat_map canonical_field (w ∷ ws)))
length-with_field (Ubyte n) ws = omega (arith, length-append (canonical_field (Ubyte n)) (flat_map canonical_field ws))
length-with_field (Binary n) ws =
    omega (arith, length-append (canonical_field (Binary n)) (flat_map canonical_field ws))
length-with_field (Text n) ws = omega (arith, length-append (canonical_field (Text n)) (flat_map canonical_field ws))
length-with_field (Symbol n) ws =
    omega (arith, length-append (canonical_field (Symbol n)) (flat_map canonical_field ws))
length-with_field (Symbols n) ws =
    omega (arith, length-append (canonical_field (Symbols n)) (flat_map canonical_field ws))

items_spell : (fields : List Field) → AllByRecursion IsText fields
    → length (flat_map canonical_field (written fields)) < 2 ^ 32
    → SpellsItems fields (length (written fields)) (flat_map canonical_field (written fields))
items_spell [] texts lt = (refl, refl)
items_spell (field ∷ fields) texts lt =
    item_step field fields (written fields) texts.0 (none_written fields)
    (items_spell fields texts.1 (omega (arith, length-with_field field (written fields)))) lt

-- ---- the list

-- how long the count and the items of a list are
pub length-list_body : (form : Form) (count : ℕ) (items : List ℕ)
    → length (list_body form count items) ≡ width form + length items
length-list_body form count items =
    length-append (number form count) items ∙ ap (λ (n : ℕ). n + length items) (length-number form count)

sized_in : (form : Form) (count : ℕ) (items : List ℕ) → form ≡ shortest (length (list_body Eight count items))
    → length (list_body ThirtyTwo count items) < 2 ^ 32 → count ≤ length items
    → SpellsSized count items (choice 0xc0 0xd0 form ∷ content form (list_body form count items))
sized_in Eight count items e lt few =
    let b = length-list_body Eight count items in
    let small : length (list_body Eight count items) < 256 =
    elim (cases_lt (length (list_body Eight count items)) 256) [
      | inl h ↦ h
      | inr h ↦ absurd (apart (rw (le-ltb _ 256 h) at e))
    ] in
    record { form = Eight; size = small; few = omega arith; whole = refl }
  where
    apart : Eight ≡ ThirtyTwo → ⊥
    apart h = cc
sized_in ThirtyTwo count items e lt few =
    record { form = ThirtyTwo; size = lt; few = omega (arith, length-list_body ThirtyTwo count items); whole = refl }

-- the canonical body of a frame with texts spells that frame
pub canonical_spells : (frame : SaslFrame) (b : List ℕ) → HasTexts frame → canonical frame ≡ Some b → Spells frame b
unfolding canonical
canonical_spells frame b texts e =
    let count = count_of frame in
    let items = items_of frame in
    let value : List ℕ = 0 ∷ (0x53 ∷ code_of (kind_of frame) ∷ []) ++ canonical_list count items in
    let g = when_some (ltb (length (list_body ThirtyTwo count items)) (2 ^ 32))
    (Some (2 ∷ 1 ∷ 0 ∷ 0 ∷ 0 ∷ 0x53 ∷ (descriptor_of frame).0 ∷ canonical_list count items)) b e in
    let lt : length (list_body ThirtyTwo count items) < 2 ^ 32 = ltb-true _ _ g.0 in
    let body = length-list_body ThirtyTwo count items in
    let spelled : SpellsValue frame value = record {
      descriptor = 0x53 ∷ code_of (kind_of frame) ∷ [];
      count = count;
      items = items;
      fields = canonical_list count items;
      described = inl refl;
      each = items_spell (fields_of frame) texts (omega arith);
      listed = inr (sized_in (list_form count items) count items refl lt (few_items (written (fields_of frame))));
      whole = refl;
    } in
    let code = ap (λ (n : ℕ). 2 ∷ 1 ∷ 0 ∷ 0 ∷ 0 ∷ 0x53 ∷ n ∷ canonical_list count items) (code_is frame) in
    spells_with frame 0 0 value b spelled
    (sym (some_is (2 ∷ 1 ∷ 0 ∷ 0 ∷ 0 ∷ 0x53 ∷ (descriptor_of frame).0 ∷ canonical_list count items) b g.1) ∙ code)
