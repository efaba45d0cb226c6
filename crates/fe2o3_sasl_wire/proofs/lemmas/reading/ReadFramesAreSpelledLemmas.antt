-- What is read as a frame is spelled so.
use Rattle.std.proofs.Common.{◌≡◌, ℕ, zero, suc, ◌-◌, ◌<◌, ◌≤◌, Bool, true, false, cond, ltb, eqb, ◌&&◌, List, [], ◌∷◌, ◌++◌, length, take, drop, Option, Some, None, refl, sym, ap, subst, ◌∙◌, append_assoc, arith, inl, inr}
use Rattle.std.specs.Int.{w64, to_be_bytes, from_be_bytes}
use Rattle.std.specs.Prelude.{bytes_eq}
use Rattle.std.proofs.lemmas.Slice.Eq.{bytes_eq-Decides}
use Rattle.std.proofs.lemmas.Bool.{ltb-false, eqb-true, eqb-false, and_parts}
use Rattle.std.proofs.lemmas.List.{take-append-drop, length-take, nil_from_length}
use Rattle.std.proofs.lemmas.Nat.{be_bytes_8}
use Rattle.fe2o3_sasl_wire.specs.declared.sasl_frames.forms.Kind.{Kind}
use Rattle.fe2o3_sasl_wire.specs.declared.sasl_frames.forms.Kind.TheVariants as kinds
use Rattle.fe2o3_sasl_wire.specs.SaslFrames.{IsBytes, limit, choice, content, SpellsSymbol, list_body, SpellsList, SaslFrame, Mechanisms, Init, Challenge, Response, Outcome, outcome_code, Field, Null, Ubyte, Binary, Text, Symbol, Symbols, optional, fields_of, SpellsField, SpellsItems}
use Rattle.fe2o3_sasl_wire.specs.private.Kinds.{kind_of, code_of, name_of, SpellsValue, SpellsKind}
use Rattle.fe2o3_sasl_wire.specs.private.Fields.{AllNull}
use Rattle.fe2o3_sasl_wire.specs.private.Reading.{◌>>=◌, byte_at, eight_at, number_at, content_at, form_at, symbol_at, string_at, symbols_at, code_at, Items, required, null_at, unless_null, optional_at, ended, binary_at, fields_at, sized_at, list_at, kind_of_code, kind_of_name, descriptor_at, value_at}
use Rattle.fe2o3_sasl_wire.proofs.lemmas.reading.StepLemmas.{IsBytes-drop, IsBytes-take, IsBytes-tail, bind_some, unless_some, when_some, chosen, first_passed, some_is, Reads}
use Rattle.fe2o3_sasl_wire.proofs.lemmas.reading.ReadValuesAreSpelledLemmas.{number_takes, content_takes, form_takes, byte_takes, binary_takes, string_takes, symbol_takes, symbols_take, code_takes}

-- ---- items

-- a reader of a field
abbrev pub IsReader : {A : Type 0} → (List ℕ → Option (A × List ℕ)) → (A → Field) → Type 0
IsReader {A} read field =
    (bytes : List ℕ) (taken : A × List ℕ) → IsBytes bytes → read bytes ≡ Some taken
    → Reads (SpellsField (field taken.0)) bytes taken.1

-- items of which a step left some
abbrev pub Extends : Field → Items → Items → Type 0
Extends field items left =
    (fields : List Field) → SpellsItems fields left.0 left.1 → SpellsItems (field ∷ fields) items.0 items.1

-- a step took the field from the items, and what it left is bytes
pub record Steps (field : Field) (items left : Items) : Type 0 where
  pub extends : Extends field items left
  pub rest_fits : IsBytes left.1

one_before : (count : ℕ) → eqb count 0 ≡ false → count ≡ suc (count - 1)
one_before count e = let ne = eqb-false count 0 e in omega (arith, ne)

extends_by : (field : Field) (count : ℕ) (items rest : List ℕ) → count ≡ suc (count - 1)
    → Reads (SpellsField field) items rest → Extends field (count, items) (count - 1, rest)
extends_by field count items rest e r fields s = inr (count - 1, r.front, rest, e, r.parts, r.spelled, s)

required_takes : {A : Type 0} (read : List ℕ → Option (A × List ℕ)) (field : A → Field) → IsReader read field
    → (items : Items) (taken : A × Items) → IsBytes items.1 → required read items ≡ Some taken
    → Steps (field taken.0) items taken.1
unfolding required
required_takes {A} read field reads items taken fits e =
    let g = unless_some (eqb items.0 0) (read items.1 >>= λ y. Some (y.0, (items.0 - 1, y.1))) taken e in
    let a = bind_some (read items.1) (λ y. Some (y.0, (items.0 - 1, y.1))) taken g.1 in
    let r = reads items.1 a.0 fits a.1 in
    let made : Steps (field a.0.0) items (items.0 - 1, a.0.1) = record {
      extends = extends_by (field a.0.0) items.0 items.1 a.0.1 (one_before items.0 g.0) r;
      rest_fits = r.rest_fits;
    } in
    subst (λ (y : A × Items). Steps (field y.0) items y.1) (some_is (a.0.0, (items.0 - 1, a.0.1)) taken a.2) made

-- nothing is read where there are no more items
nothing_more : (fields : List Field) (bytes : List ℕ) → SpellsItems fields 0 bytes → AllNull fields × (bytes ≡ [])
nothing_more [] bytes s = (tt, s.1)
nothing_more (field ∷ fields) bytes (inl s) = (s.0, s.2)
nothing_more (field ∷ fields) bytes (inr s) = absurd cc

absent_extends : (items : Items) → items.0 ≡ 0 → Extends Null items items
absent_extends items e fields s =
    let none = nothing_more fields items.1 (subst (λ (n : ℕ). SpellsItems fields n items.1) e s) in
    inl ((refl, none.0), e, none.1)

null_takes : (bytes rest : List ℕ) → IsBytes bytes → null_at bytes ≡ Some rest → Reads (SpellsField Null) bytes rest
null_takes [] rest fits e = absurd cc
null_takes (b ∷ bytes) rest fits e =
    let g = when_some (eqb b 0x40) (Some bytes) rest e in
    let same = some_is bytes rest g.1 in
    record {
      front = 0x40 ∷ [];
      spelled = refl;
      parts = ap (λ (k : ℕ). k ∷ bytes) (eqb-true b 0x40 g.0) ∙ ap (λ (t : List ℕ). 0x40 ∷ t) same;
      rest_fits = rw (← same) (IsBytes-tail b bytes fits);
    }

unless_null_takes : (read : List ℕ → Option (List ℕ × List ℕ)) (field : List ℕ → Field) → IsReader read field
    → (null : Option (List ℕ)) (items : Items) (taken : Option (List ℕ) × Items) → eqb items.0 0 ≡ false
    → IsBytes items.1
    → null_at items.1 ≡ null → unless_null null items.0 (read items.1) ≡ Some taken
    → Steps (optional field taken.0) items taken.1
unless_null_takes read field reads (Some rest) items taken more fits null e =
    let r = null_takes items.1 rest fits null in
    let made : Steps Null items (items.0 - 1, rest) = record {
      extends = extends_by Null items.0 items.1 rest (one_before items.0 more) r;
      rest_fits = r.rest_fits;
    } in
    subst (λ (y : Option (List ℕ) × Items). Steps (optional field y.0) items y.1)
    (some_is (None, (items.0 - 1, rest)) taken e) made
unless_null_takes read field reads None items taken more fits null e =
    let a = bind_some (read items.1) (λ y. Some (Some y.0, (items.0 - 1, y.1))) taken e in
    let r = reads items.1 a.0 fits a.1 in
    let made : Steps (field a.0.0) items (items.0 - 1, a.0.1) = record {
      extends = extends_by (field a.0.0) items.0 items.1 a.0.1 (one_before items.0 more) r;
      rest_fits = r.rest_fits;
    } in
    subst (λ (y : Option (List ℕ) × Items). Steps (optional field y.0) items y.1)
    (some_is (Some a.0.0, (items.0 - 1, a.0.1)) taken a.2) made

optional_takes : (read : List ℕ → Option (List ℕ × List ℕ)) (field : List ℕ → Field) → IsReader read field
    → (items : Items) (taken : Option (List ℕ) × Items) → IsBytes items.1 → optional_at read items ≡ Some taken
    → Steps (optional field taken.0) items taken.1
unfolding optional_at
optional_takes read field reads items taken fits e =
    elim (chosen (eqb items.0 0) (Some (None, items)) (unless_null (null_at items.1) items.0 (read items.1))
    (Some taken) e) [
      | inl h ↦
          subst (λ (y : Option (List ℕ) × Items). Steps (optional field y.0) items y.1)
          (some_is (None, items) taken h.1)
          (record { extends = absent_extends items (eqb-true items.0 0 h.0); rest_fits = fits })
      | inr h ↦ unless_null_takes read field reads (null_at items.1) items taken h.0 fits refl h.1
    ]

ended_takes : (items : Items) (unit : Unit {0}) → ended items ≡ Some unit → SpellsItems [] items.0 items.1
ended_takes items unit e =
    let g = when_some (eqb items.0 0 && eqb (length items.1) 0) (Some tt) unit e in
    let both = and_parts (eqb items.0 0) (eqb (length items.1) 0) g.0 in
    (eqb-true items.0 0 both.0, nil_from_length items.1 (eqb-true (length items.1) 0 both.1))

-- what the fields of a kind were read as
pub record TakesFields (kind : Kind) (items : Items) (frame : SaslFrame) : Type 0 where
  pub kind_is : kind_of frame ≡ kind
  pub each : SpellsItems (fields_of frame) items.0 items.1

fields_take : (kind : Kind) (items : Items) (frame : SaslFrame) → IsBytes items.1 → fields_at kind items ≡ Some frame
    → TakesFields kind items frame
unfolding fields_at
fields_take kinds.Mechanisms items frame fits e =
    let a = bind_some (required symbols_at items) (λ names. ended names.1 >>= λ _. Some (Mechanisms names.0)) frame e in
    let z = bind_some (ended a.0.1) (λ _. Some (Mechanisms a.0.0)) frame a.2 in
    let s = required_takes symbols_at Symbols symbols_take items a.0 fits a.1 in
    subst (λ (y : SaslFrame). TakesFields kinds.Mechanisms items y) (some_is (Mechanisms a.0.0) frame z.2)
    (record { kind_is = refl; each = s.extends [] (ended_takes a.0.1 z.0 z.1) })
fields_take kinds.Init items frame fits e =
    let a =
    bind_some (required symbol_at items)
    (λ m. optional_at binary_at m.1 >>= λ r. optional_at string_at r.1 >>= λ h. ended h.1
    >>= λ _. Some (Init m.0 r.0 h.0)) frame e in
    let b =
    bind_some (optional_at binary_at a.0.1)
    (λ r. optional_at string_at r.1 >>= λ h. ended h.1 >>= λ _. Some (Init a.0.0 r.0 h.0)) frame a.2 in
    let d = bind_some (optional_at string_at b.0.1) (λ h. ended h.1 >>= λ _. Some (Init a.0.0 b.0.0 h.0)) frame b.2 in
    let z = bind_some (ended d.0.1) (λ _. Some (Init a.0.0 b.0.0 d.0.0)) frame d.2 in
    let s = required_takes symbol_at Symbol symbol_takes items a.0 fits a.1 in
    let t = optional_takes binary_at Binary binary_takes a.0.1 b.0 s.rest_fits b.1 in
    let u = optional_takes string_at Text string_takes b.0.1 d.0 t.rest_fits d.1 in
    let last = u.extends [] (ended_takes d.0.1 z.0 z.1) in
    let each =
    s.extends (optional Binary b.0.0 ∷ optional Text d.0.0 ∷ []) (t.extends (optional Text d.0.0 ∷ []) last) in
    subst (λ (y : SaslFrame). TakesFields kinds.Init items y) (some_is (Init a.0.0 b.0.0 d.0.0) frame z.2)
    (record { kind_is = refl; each = each })
fields_take kinds.Challenge items frame fits e =
    let a = bind_some (required binary_at items) (λ x. ended x.1 >>= λ _. Some (Challenge x.0)) frame e in
    let z = bind_some (ended a.0.1) (λ _. Some (Challenge a.0.0)) frame a.2 in
    let s = required_takes binary_at Binary binary_takes items a.0 fits a.1 in
    subst (λ (y : SaslFrame). TakesFields kinds.Challenge items y) (some_is (Challenge a.0.0) frame z.2)
    (record { kind_is = refl; each = s.extends [] (ended_takes a.0.1 z.0 z.1) })
fields_take kinds.Response items frame fits e =
    let a = bind_some (required binary_at items) (λ x. ended x.1 >>= λ _. Some (Response x.0)) frame e in
    let z = bind_some (ended a.0.1) (λ _. Some (Response a.0.0)) frame a.2 in
    let s = required_takes binary_at Binary binary_takes items a.0 fits a.1 in
    subst (λ (y : SaslFrame). TakesFields kinds.Response items y) (some_is (Response a.0.0) frame z.2)
    (record { kind_is = refl; each = s.extends [] (ended_takes a.0.1 z.0 z.1) })
fields_take kinds.Outcome items frame fits e =
    let a =
    bind_some (required code_at items) (λ x. optional_at binary_at x.1 >>= λ y. ended y.1
    >>= λ _. Some (Outcome x.0 y.0)) frame e in
    let b = bind_some (optional_at binary_at a.0.1) (λ y. ended y.1 >>= λ _. Some (Outcome a.0.0 y.0)) frame a.2 in
    let z = bind_some (ended b.0.1) (λ _. Some (Outcome a.0.0 b.0.0)) frame b.2 in
    let s = required_takes code_at (λ c. Ubyte (outcome_code c)) code_takes items a.0 fits a.1 in
    let t = optional_takes binary_at Binary binary_takes a.0.1 b.0 s.rest_fits b.1 in
    let each = s.extends (optional Binary b.0.0 ∷ []) (t.extends [] (ended_takes b.0.1 z.0 z.1)) in
    subst (λ (y : SaslFrame). TakesFields kinds.Outcome items y) (some_is (Outcome a.0.0 b.0.0) frame z.2)
    (record { kind_is = refl; each = each })

-- ---- a described list

-- a list was taken from the front, and its items are bytes
pub record TakesList (bytes : List ℕ) (items : Items) (rest : List ℕ) : Type 0 where
  pub reads : Reads (SpellsList items.0 items.1) bytes rest
  pub items_fit : IsBytes items.1

sized_takes : (bytes : List ℕ) (constructor : ℕ) (taken : Items × List ℕ) → IsBytes bytes
    → sized_at constructor bytes ≡ Some taken
    → TakesList (constructor ∷ bytes) taken.0 taken.1
sized_takes bytes constructor taken fits e =
    let a =
    bind_some (form_at 0xc0 0xd0 constructor) (λ form. content_at form bytes >>= λ inner. number_at form inner.0
    >>= λ count. Some (count, inner.1)) taken e in
    let b =
    bind_some (content_at a.0 bytes) (λ inner. number_at a.0 inner.0 >>= λ count. Some (count, inner.1)) taken a.2 in
    let d = bind_some (number_at a.0 b.0.0) (λ count. Some (count, b.0.1)) taken b.2 in
    let body = content_takes a.0 bytes b.0 fits b.1 in
    let count = number_takes a.0 b.0.0 d.0 body.bytes_fit d.1 in
    let size : length (list_body a.0 d.0.0 d.0.1) < limit a.0 = rw (← count.parts) body.fits in
    let made : TakesList (constructor ∷ bytes) d.0 b.0.1 = record {
      reads = record {
        front = choice 0xc0 0xd0 a.0 ∷ content a.0 (list_body a.0 d.0.0 d.0.1);
        spelled = inr (record { form = a.0; size = size; few = count.fits; whole = refl });
        parts =
            ap (λ (k : ℕ). k ∷ bytes) (form_takes 0xc0 0xd0 constructor a.0 a.1)
            ∙ ap (λ (t : List ℕ). choice 0xc0 0xd0 a.0 ∷ t)
            (body.parts ∙ ap (λ (t : List ℕ). content a.0 t ++ b.0.1) count.parts);
        rest_fits = body.rest_fits;
      };
      items_fit = count.rest_fits;
    } in
    subst (λ (y : Items × List ℕ). TakesList (constructor ∷ bytes) y.0 y.1) (some_is (d.0, b.0.1) taken d.2) made

list_takes : (bytes : List ℕ) (taken : Items × List ℕ) → IsBytes bytes → list_at bytes ≡ Some taken
    → TakesList bytes taken.0 taken.1
unfolding list_at
list_takes [] taken fits e = absurd cc
list_takes (c ∷ bytes) taken fits e =
    let rest = IsBytes-tail c bytes fits in
    elim (chosen (eqb c 0x45) (Some ((0, []), bytes)) (sized_at c bytes) (Some taken) e) [
      | inl h ↦ subst (λ (y : Items × List ℕ). TakesList (c ∷ bytes) y.0 y.1) (some_is ((0, []), bytes) taken h.1)
          (record {
            reads =
                record {
                  front = 0x45 ∷ [];
                  spelled = inl (refl, refl, refl);
                  parts = ap (λ (k : ℕ). k ∷ bytes) (eqb-true c 0x45 h.0);
                  rest_fits = rest;
                };
            items_fit = λ i. omega arith;
          })
      | inr h ↦ sized_takes bytes c taken rest h.1
    ]

-- ---- descriptors and values

code_kind_is : (n : ℕ) (kind : Kind) → kind_of_code n ≡ Some kind → n ≡ code_of kind
code_kind_is n kind =
    let has_code : Kind → Type 0 = λ other. n ≡ code_of other in
    first_passed has_code (eqb n 0x40) kinds.Mechanisms _ kind (eqb-true n 0x40)
    (first_passed has_code (eqb n 0x41) kinds.Init _ kind (eqb-true n 0x41)
    (first_passed has_code (eqb n 0x42) kinds.Challenge _ kind (eqb-true n 0x42)
    (first_passed has_code (eqb n 0x43) kinds.Response _ kind (eqb-true n 0x43)
    (first_passed has_code (eqb n 0x44) kinds.Outcome None kind (eqb-true n 0x44) (λ e. absurd cc)))))

named_so : (name : List ℕ) (kind : Kind) → bytes_eq name (name_of kind) ≡ true → name ≡ name_of kind
named_so name kind test = (bytes_eq-Decides name (name_of kind)).0 test

kind_named : (name : List ℕ) (kind : Kind) → kind_of_name name ≡ Some kind → name ≡ name_of kind
unfolding kind_of_name
kind_named name kind =
    let has_name : Kind → Type 0 = λ other. name ≡ name_of other in
    let test : Kind → Bool = λ other. bytes_eq name (name_of other) in
    first_passed has_name (test kinds.Mechanisms) kinds.Mechanisms _ kind (named_so name kinds.Mechanisms)
    (first_passed has_name (test kinds.Init) kinds.Init _ kind (named_so name kinds.Init)
    (first_passed has_name (test kinds.Challenge) kinds.Challenge _ kind (named_so name kinds.Challenge)
    (first_passed has_name (test kinds.Response) kinds.Response _ kind (named_so name kinds.Response)
    (first_passed has_name (test kinds.Outcome) kinds.Outcome None kind (named_so name kinds.Outcome)
    (λ e. absurd cc)))))

eight_takes : (bytes : List ℕ) (taken : ℕ × List ℕ) → IsBytes bytes → eight_at bytes ≡ Some taken
    → (bytes ≡ to_be_bytes w64 taken.0 ++ taken.1) × IsBytes taken.1
eight_takes bytes taken fits e =
    let g = unless_some (ltb (length bytes) 8) (Some (from_be_bytes w64 (take 8 bytes), drop 8 bytes)) taken e in
    let long : 8 ≤ length bytes = ltb-false _ _ g.0 in
    let back : to_be_bytes w64 (from_be_bytes w64 (take 8 bytes)) ≡ take 8 bytes =
    be_bytes_8 (take 8 bytes) _ (omega (arith, length-take 8 bytes)) (IsBytes-take 8 bytes fits) refl in
    subst (λ (y : ℕ × List ℕ). (bytes ≡ to_be_bytes w64 y.0 ++ y.1) × IsBytes y.1)
    (some_is (from_be_bytes w64 (take 8 bytes), drop 8 bytes) taken g.1)
    (sym (ap (λ (t : List ℕ). t ++ drop 8 bytes) back ∙ take-append-drop 8 bytes), IsBytes-drop 8 bytes fits)

abbrev IsDescribed : List ℕ → Kind × List ℕ → Type 0
IsDescribed bytes y = Reads (SpellsKind y.0) bytes y.1

short_takes : (constructor : ℕ) (bytes : List ℕ) (taken : Kind × List ℕ) → IsBytes bytes → constructor ≡ 0x53
    → (byte_at bytes >>= λ n. kind_of_code n.0 >>= λ kind. Some (kind, n.1)) ≡ Some taken
    → IsDescribed (constructor ∷ bytes) taken
short_takes constructor bytes taken fits h e =
    let a = bind_some (byte_at bytes) (λ n. kind_of_code n.0 >>= λ kind. Some (kind, n.1)) taken e in
    let b = bind_some (kind_of_code a.0.0) (λ kind. Some (kind, a.0.1)) taken a.2 in
    let first = byte_takes bytes a.0 fits a.1 in
    subst (IsDescribed (constructor ∷ bytes)) (some_is (b.0, a.0.1) taken b.2)
    (record {
      front = 0x53 ∷ code_of b.0 ∷ [];
      spelled = inl refl;
      parts =
          ap (λ (k : ℕ). k ∷ bytes) h ∙ ap (λ (t : List ℕ). 0x53 ∷ t)
          (first.0 ∙ ap (λ (k : ℕ). k ∷ a.0.1) (code_kind_is a.0.0 b.0 b.1));
      rest_fits = first.1;
    })

long_takes : (constructor : ℕ) (bytes : List ℕ) (taken : Kind × List ℕ) → IsBytes bytes → constructor ≡ 0x80
    → (eight_at bytes >>= λ n. kind_of_code n.0 >>= λ kind. Some (kind, n.1)) ≡ Some taken
    → IsDescribed (constructor ∷ bytes) taken
long_takes constructor bytes taken fits h e =
    let a = bind_some (eight_at bytes) (λ n. kind_of_code n.0 >>= λ kind. Some (kind, n.1)) taken e in
    let b = bind_some (kind_of_code a.0.0) (λ kind. Some (kind, a.0.1)) taken a.2 in
    let first = eight_takes bytes a.0 fits a.1 in
    subst (IsDescribed (constructor ∷ bytes)) (some_is (b.0, a.0.1) taken b.2)
    (record {
      front = 0x80 ∷ to_be_bytes w64 (code_of b.0);
      spelled = inr (inl refl);
      parts =
          ap (λ (k : ℕ). k ∷ bytes) h ∙ ap (λ (t : List ℕ). 0x80 ∷ t)
          (first.0 ∙ ap (λ (k : ℕ). to_be_bytes w64 k ++ a.0.1) (code_kind_is a.0.0 b.0 b.1));
      rest_fits = first.1;
    })

named_takes : (bytes : List ℕ) (taken : Kind × List ℕ) → IsBytes bytes
    → (symbol_at bytes >>= λ name. kind_of_name name.0 >>= λ kind. Some (kind, name.1)) ≡ Some taken
    → IsDescribed bytes taken
named_takes bytes taken fits e =
    let a = bind_some (symbol_at bytes) (λ name. kind_of_name name.0 >>= λ kind. Some (kind, name.1)) taken e in
    let b = bind_some (kind_of_name a.0.0) (λ kind. Some (kind, a.0.1)) taken a.2 in
    let r = symbol_takes bytes a.0 fits a.1 in
    subst (IsDescribed bytes) (some_is (b.0, a.0.1) taken b.2)
    (record {
      front = r.front;
      spelled = inr (inr (subst (λ (t : List ℕ). SpellsSymbol t r.front) (kind_named a.0.0 b.0 b.1) r.spelled));
      parts = r.parts;
      rest_fits = r.rest_fits;
    })

descriptor_takes : (bytes : List ℕ) (taken : Kind × List ℕ) → IsBytes bytes → descriptor_at bytes ≡ Some taken
    → IsDescribed bytes taken
unfolding descriptor_at
descriptor_takes [] taken fits e = absurd cc
descriptor_takes (c ∷ bytes) taken fits e =
    let rest = IsBytes-tail c bytes fits in
    let one : Option (Kind × List ℕ) = byte_at bytes >>= λ n. kind_of_code n.0 >>= λ kind. Some (kind, n.1) in
    let eight : Option (Kind × List ℕ) = eight_at bytes >>= λ n. kind_of_code n.0 >>= λ kind. Some (kind, n.1) in
    let named : Option (Kind × List ℕ) =
    symbol_at (c ∷ bytes) >>= λ name. kind_of_name name.0 >>= λ kind. Some (kind, name.1) in
    elim (chosen (eqb c 0x53) one (cond (eqb c 0x80) eight named) (Some taken) e) [
      | inl h ↦ short_takes c bytes taken rest (eqb-true c 0x53 h.0) h.1
      | inr h ↦ elim (chosen (eqb c 0x80) eight named (Some taken) h.1) [
        | inl k ↦ long_takes c bytes taken rest (eqb-true c 0x80 k.0) k.1
        | inr k ↦ named_takes (c ∷ bytes) taken fits k.1
      ]
    ]

-- a value that was read from the front is spelled by the bytes that it took
pub value_takes : (bytes : List ℕ) (taken : SaslFrame × List ℕ) → IsBytes bytes → value_at bytes ≡ Some taken
    → Reads (SpellsValue taken.0) bytes taken.1
unfolding value_at
value_takes [] taken fits e = absurd cc
value_takes (zero ∷ bytes) taken fits e =
    let a =
    bind_some (descriptor_at bytes)
    (λ kind. list_at kind.1 >>= λ l. fields_at kind.0 l.0 >>= λ f. Some (f, l.1)) taken e in
    let b = bind_some (list_at a.0.1) (λ l. fields_at a.0.0 l.0 >>= λ f. Some (f, l.1)) taken a.2 in
    let d = bind_some (fields_at a.0.0 b.0.0) (λ f. Some (f, b.0.1)) taken b.2 in
    let described = descriptor_takes bytes a.0 (IsBytes-tail 0 bytes fits) a.1 in
    let listed = list_takes a.0.1 b.0 described.rest_fits b.1 in
    let fields = fields_take a.0.0 b.0.0 d.0 listed.items_fit d.1 in
    let made : Reads (SpellsValue d.0) (0 ∷ bytes) b.0.1 = record {
      front = 0 ∷ described.front ++ listed.reads.front;
      spelled = record {
        descriptor = described.front;
        count = b.0.0.0;
        items = b.0.0.1;
        fields = listed.reads.front;
        described = rw fields.kind_is described.spelled;
        each = fields.each;
        listed = listed.reads.spelled;
        whole = refl;
      };
      parts =
          ap (λ (t : List ℕ). 0 ∷ t) (described.parts ∙ ap (λ (t : List ℕ). described.front ++ t) listed.reads.parts
          ∙ sym (append_assoc described.front listed.reads.front b.0.1));
      rest_fits = listed.reads.rest_fits;
    } in
    subst (λ (y : SaslFrame × List ℕ). Reads (SpellsValue y.0) (0 ∷ bytes) y.1) (some_is (d.0, b.0.1) taken d.2) made
value_takes (suc c ∷ bytes) taken fits e = absurd cc
