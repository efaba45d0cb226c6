-- A canonical body as the encoder writes it.
use Rattle.std.proofs.Common.{◌≡◌, ℕ, zero, suc, ◌+◌, ◌-◌, ◌^◌, ◌<◌, ◌≤◌, List, [], ◌∷◌, ◌++◌, length, take, map, Some, None, refl, sym, ap, ◌∙◌, append_assoc, arith, min}
use Rattle.std.specs.Prelude.{IsSome}
use Rattle.std.specs.List.{flat_map}
use Rattle.std.proofs.lemmas.Bool.{lt-ltb, le-ltb}
use Rattle.fe2o3_sasl_wire.specs.declared.sasl_frames.forms.Form.{Form}
use Rattle.fe2o3_sasl_wire.specs.declared.sasl_frames.forms.Form.TheVariants.{Eight, ThirtyTwo}
use Rattle.fe2o3_sasl_wire.specs.declared.sasl_frames.fields.Field.{Field as HeldField}
use Rattle.fe2o3_sasl_wire.specs.private.Writing.{width, list_form, items_of, count_of, canonical_list}
use Rattle.fe2o3_sasl_wire.proofs.lemmas.frames.ValueLemmas.{code_is}
use Rattle.fe2o3_sasl_wire.specs.SaslFrames.{number, choice, list_body, SaslFrame, fields_of, Field, Null, Ubyte, Binary, Text, Symbol, Symbols, shortest, canonical_field, with_field, written, canonical, AppendsCanonical}
use Rattle.fe2o3_sasl_wire.specs.private.Kinds.{kind_of, code_of}
use Rattle.fe2o3_sasl_wire.specs.private.Fields.{shown_field, filled}
use Rattle.fe2o3_sasl_wire.proofs.lemmas.writing.CanonicalSpellsLemmas.{length-list_body}

-- ---- the fields that are written

take-with_field : (field : Field) (fields ws : List Field) → take (length ws) fields ≡ ws
    → take (length (with_field field ws)) (field ∷ fields) ≡ with_field field ws
take-with_field Null fields [] e = refl
take-with_field Null fields (w ∷ ws) e = ap (λ rest. Null ∷ rest) e
take-with_field (Ubyte n) fields ws e = ap (λ rest. Ubyte n ∷ rest) e
take-with_field (Binary n) fields ws e = ap (λ rest. Binary n ∷ rest) e
take-with_field (Text n) fields ws e = ap (λ rest. Text n ∷ rest) e
take-with_field (Symbol n) fields ws e = ap (λ rest. Symbol n ∷ rest) e
take-with_field (Symbols n) fields ws e = ap (λ rest. Symbols n ∷ rest) e

-- the written fields begin the fields, whatever follows
take-written : (fields others : List Field) → take (length (written fields)) (fields ++ others) ≡ written fields
take-written [] others = refl
take-written (field ∷ fields) others =
    take-with_field field (fields ++ others) (written fields) (take-written fields others)

map-take : (n : ℕ) (fields : List HeldField) → map shown_field (take n fields) ≡ take n (map shown_field fields)
map-take zero fields = refl
map-take (suc n) [] = refl
map-take (suc n) (field ∷ fields) = ap (λ rest. shown_field field ∷ rest) (map-take n fields)

-- the encoder holds the fields of a frame and keeps as many as are written
pub record Keeps (frame : SaslFrame) (held : List HeldField) (n : ℕ) : Type 0 where
  pub fields : map shown_field held ≡ filled (fields_of frame)
  pub count : n ≡ count_of frame

-- the fields that the encoder keeps are those that are written
pub kept_fields : {frame : SaslFrame} {held : List HeldField} {n : ℕ} → Keeps frame held n
    → map shown_field (take n held) ≡ written (fields_of frame)
kept_fields {frame} {held} {n} keeps =
    map-take n held ∙ ap (take n) keeps.fields ∙ ap (λ k. take k (filled (fields_of frame))) keeps.count
    ∙ take-written (fields_of frame) _

-- how many fields the encoder keeps
pub kept_count : {frame : SaslFrame} {held : List HeldField} {n : ℕ} → Keeps frame held n
    → length (take n held) ≡ count_of frame
kept_count {frame} {held} {n} keeps = sym (length-shown (take n held)) ∙ ap length (kept_fields keeps)
  where
    length-shown : (fields : List HeldField) → length (map shown_field fields) ≡ length fields
    length-shown [] = refl
    length-shown (field ∷ fields) = ap suc (length-shown fields)

-- how long the fields are that the encoder keeps
pub kept_len : {frame : SaslFrame} {held : List HeldField} {n : ℕ} (len : ℕ) → Keeps frame held n
    → len ≡ min (length (flat_map canonical_field (map shown_field (take n held)))) (2 ^ 64 - 1)
    → len ≡ min (length (items_of frame)) (2 ^ 64 - 1)
kept_len len keeps len_is =
    len_is ∙ ap (λ fields. min (length (flat_map canonical_field fields)) (2 ^ 64 - 1)) (kept_fields keeps)

-- ---- the body

-- items that are too long have no body
pub no_body : (frame : SaslFrame) (n : ℕ) → n ≡ length (items_of frame) → 2 ^ 32 ≤ 4 + n → canonical frame ≡ None
unfolding canonical
no_body frame n e le =
    let body = length-list_body ThirtyTwo (count_of frame) (items_of frame) in
    rw (le-ltb (length (list_body ThirtyTwo (count_of frame) (items_of frame))) (2 ^ 32) (omega arith)) refl

list_parts : (form : Form) (count size : ℕ) (items : List ℕ) → list_form count items ≡ form
    → size ≡ width form + length items
    → canonical_list count items ≡ choice 0xc0 0xd0 form ∷ (number form size ++ (number form count ++ items))
list_parts form count size items form_is size_is =
    let len : length (list_body form count items) ≡ size = length-list_body form count items ∙ sym size_is in
    rw (form_is, len) refl

-- the body as it is written: eight bytes, the size, the count and the items
abbrev pub body_parts : SaslFrame → Form → ℕ → ℕ → List ℕ
body_parts frame form size count =
    2 ∷ 1 ∷ 0 ∷ 0 ∷ 0 ∷ 0x53 ∷ code_of (kind_of frame) ∷ choice 0xc0 0xd0 form
    ∷ (number form size ++ (number form count ++ items_of frame))

-- the canonical body is its parts, with the form and the size that its items ask for
pub body_in_parts : (frame : SaslFrame) (form : Form) (n size : ℕ) → n ≡ length (items_of frame) → 4 + n < 2 ^ 32
    → form ≡ shortest (1 + n) → size ≡ width form + n
    → canonical frame ≡ Some (body_parts frame form size (count_of frame))
unfolding canonical
body_in_parts frame form n size len_is fits form_is size_is =
    let items = items_of frame in
    let count = count_of frame in
    let wide = length-list_body ThirtyTwo count items in
    let written_so = lt-ltb (length (list_body ThirtyTwo count items)) (2 ^ 32) (omega (arith, wide)) in
    let small : length (list_body Eight count items) ≡ 1 + n = omega (arith, length-list_body Eight count items) in
    let list_form_is : list_form count items ≡ form = ap shortest small ∙ sym form_is in
    let parts = list_parts form count size items list_form_is (omega arith) in
    rw (written_so, parts, code_is frame) refl

-- a frame whose items fit in a list has a canonical body
pub has_body : (frame : SaslFrame) (n : ℕ) → n ≡ length (items_of frame) → 4 + n < 2 ^ 32 → IsSome (canonical frame)
has_body frame n e lt = rw (body_in_parts frame (shortest (1 + n)) n (width (shortest (1 + n)) + n) e lt refl refl) refl

-- the four writes append the body
pub appends : (frame : SaslFrame) (old headed sized counted new : List ℕ) (form : Form) (size : ℕ)
    → canonical frame ≡ Some (body_parts frame form size (count_of frame))
    → headed ≡ old ++ 2 ∷ 1 ∷ 0 ∷ 0 ∷ 0 ∷ 0x53 ∷ code_of (kind_of frame) ∷ choice 0xc0 0xd0 form ∷ []
    → sized ≡ headed ++ number form size → counted ≡ sized ++ number form (count_of frame)
    → new ≡ counted ++ items_of frame → AppendsCanonical frame old new
appends frame old headed sized counted new form size body head_is size_is count_is items_are =
    (body_parts frame form size (count_of frame), body, rw (items_are, count_is, size_is, head_is) (simp append_assoc))
