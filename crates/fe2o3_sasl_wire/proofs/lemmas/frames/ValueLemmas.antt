-- A body that spells a frame is four bytes and a described list.
use Rattle.std.proofs.Common.{◌≡◌, ℕ, List, ◌∷◌, ◌++◌, refl, sym, subst, ◌∙◌, ap}
use Rattle.fe2o3_sasl_wire.specs.SaslFrames.{SaslFrame, Mechanisms, Init, Challenge, Response, Outcome, descriptor_of, SpellsDescriptor, Spells}
use Rattle.fe2o3_sasl_wire.specs.private.Kinds.{kind_of, code_of, name_of, SpellsValue}

-- the descriptor of a frame is that of its kind
abbrev by_kind : SaslFrame → ℕ × List ℕ
by_kind frame = (code_of (kind_of frame), name_of (kind_of frame))

descriptor_is : (frame : SaslFrame) → descriptor_of frame ≡ by_kind frame
descriptor_is (Mechanisms names) = refl
descriptor_is (Init mechanism response hostname) = refl
descriptor_is (Challenge bytes) = refl
descriptor_is (Response bytes) = refl
descriptor_is (Outcome code bytes) = refl

-- and so is its code
pub code_is : (frame : SaslFrame) → (descriptor_of frame).0 ≡ code_of (kind_of frame)
code_is frame = ap (λ (both : ℕ × List ℕ). both.0) (descriptor_is frame)

-- the bytes after the first four
abbrev pub value_of : (frame : SaslFrame) (b : List ℕ) → Spells frame b → List ℕ
value_of frame b s = 0 ∷ s.descriptor ++ s.fields

pub spelled_value : (frame : SaslFrame) (b : List ℕ) (s : Spells frame b) → SpellsValue frame (value_of frame b s)
spelled_value frame b s = record {
  descriptor = s.descriptor;
  count = s.count;
  items = s.items;
  fields = s.fields;
  described = subst (λ (both : ℕ × List ℕ). SpellsDescriptor both s.descriptor) (descriptor_is frame) s.described;
  each = s.each;
  listed = s.listed;
  whole = refl;
}

-- and back
pub spells_with : (frame : SaslFrame) (third fourth : ℕ) (value b : List ℕ) → SpellsValue frame value
    → b ≡ 2 ∷ 1 ∷ third ∷ fourth ∷ value → Spells frame b
spells_with frame third fourth value b v same = record {
  third = third;
  fourth = fourth;
  descriptor = v.descriptor;
  count = v.count;
  items = v.items;
  fields = v.fields;
  described = subst (λ (both : ℕ × List ℕ). SpellsDescriptor both v.descriptor) (sym (descriptor_is frame)) v.described;
  each = v.each;
  listed = v.listed;
  whole = same ∙ ap (λ (more : List ℕ). 2 ∷ 1 ∷ third ∷ fourth ∷ more) v.whole;
}
