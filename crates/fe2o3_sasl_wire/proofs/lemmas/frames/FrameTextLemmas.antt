-- Each frame that is spelled, and each that the encoder holds, has texts.
use Rattle.std.proofs.Common.{◌≡◌, ℕ, List, [], ◌∷◌, take, map, subst, sym, inl, inr}
use Rattle.std.specs.Prelude.{IsAscii}
use Rattle.std.specs.List.{AllByRecursion}
use Rattle.fe2o3_sasl_wire.specs.declared.sasl_frames.forms.Form.{Form}
use Rattle.fe2o3_sasl_wire.specs.declared.sasl_frames.fields.Field.{Field as HeldField}
use Rattle.fe2o3_sasl_wire.specs.SaslFrames.{SaslFrame, Field, Null, Ubyte, Binary, Text, Symbol, Symbols, fields_of, with_field, written, SpellsField, SpellsItems, Spells, IsText, HasTexts}
use Rattle.fe2o3_sasl_wire.specs.private.Kinds.{IsElement}
use Rattle.fe2o3_sasl_wire.specs.private.Fields.{shown_field}
use Rattle.fe2o3_sasl_wire.proofs.lemmas.writing.BodyPartsLemmas.{Keeps, kept_fields}

-- ---- frames that are spelled

ascii_elements : (form : Form) (names : List (List ℕ)) → AllByRecursion (IsElement form) names
    → AllByRecursion IsAscii names
ascii_elements form [] each = tt
ascii_elements form (name ∷ names) each = (each.0.0, ascii_elements form names each.1)

spelled_text : (field : Field) (item : List ℕ) → SpellsField field item → IsText field
spelled_text Null item s = tt
spelled_text (Ubyte n) item s = tt
spelled_text (Binary bytes) item s = tt
spelled_text (Text bytes) item s = s.0
spelled_text (Symbol bytes) item s = s.0
spelled_text (Symbols names) item s =
    elim s [
      | inl one ↦ subst (AllByRecursion IsAscii) (sym one.1) (one.2.0, tt)
      | inr array ↦ ascii_elements array.inner names array.each
    ]

null_text : (field : Field) → field ≡ Null → IsText field
null_text field null = subst IsText (sym null) tt

null_texts : (fields : List Field) → AllByRecursion (λ absent. absent ≡ Null) fields → AllByRecursion IsText fields
null_texts [] nulls = tt
null_texts (field ∷ fields) nulls = (null_text field nulls.0, null_texts fields nulls.1)

spelled_items : (fields : List Field) (count : ℕ) (items : List ℕ) → SpellsItems fields count items
    → AllByRecursion IsText fields
spelled_items [] count items s = tt
spelled_items (field ∷ fields) count items s =
    elim s [
      | inl none ↦ null_texts (field ∷ fields) none.0
      | inr some ↦ (spelled_text field some.1 some.5, spelled_items fields some.0 some.2 some.6)
    ]

-- a frame that a body spells has texts
pub spelled_has_texts : (frame : SaslFrame) (body : List ℕ) → Spells frame body → HasTexts frame
spelled_has_texts frame body s = spelled_items (fields_of frame) s.count s.items s.each

-- ---- frames that are written

texts-with_field : (field : Field) (fields others : List Field)
    → (AllByRecursion IsText others → AllByRecursion IsText fields)
    → AllByRecursion IsText (with_field field others) → AllByRecursion IsText (field ∷ fields)
texts-with_field Null fields [] all texts = (tt, all tt)
texts-with_field Null fields (other ∷ others) all texts = (tt, all texts.1)
texts-with_field (Ubyte n) fields others all texts = (tt, all texts.1)
texts-with_field (Binary bytes) fields others all texts = (tt, all texts.1)
texts-with_field (Text bytes) fields others all texts = (texts.0, all texts.1)
texts-with_field (Symbol bytes) fields others all texts = (texts.0, all texts.1)
texts-with_field (Symbols names) fields others all texts = (texts.0, all texts.1)

texts-written : (fields : List Field) → AllByRecursion IsText (written fields) → AllByRecursion IsText fields
texts-written [] texts = tt
texts-written (field ∷ fields) texts = texts-with_field field fields (written fields) (texts-written fields) texts

-- a frame has texts where the fields do that the encoder keeps of it
pub kept_texts : {frame : SaslFrame} {held : List HeldField} {n : ℕ} → Keeps frame held n
    → AllByRecursion IsText (map shown_field (take n held)) → HasTexts frame
kept_texts {frame} keeps texts =
    texts-written (fields_of frame) (subst (AllByRecursion IsText) (kept_fields keeps) texts)
