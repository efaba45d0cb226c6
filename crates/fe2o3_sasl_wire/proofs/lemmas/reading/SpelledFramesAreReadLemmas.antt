-- What spells a frame is read as it, whatever follows.
use Rattle.std.proofs.Common.{◌≡◌, ℕ, suc, ◌^◌, ◌<◌, false, ltb, eqb, ◌-◌, List, [], ◌∷◌, ◌++◌, length, Option, Some, None, refl, ap, ◌∙◌, append_assoc, arith, inl, inr}
use Rattle.std.specs.Int.{w64, to_be_bytes}
use Rattle.std.proofs.lemmas.Bool.{le-ltb, ne_eqb}
use Rattle.std.proofs.lemmas.List.{length-append}
use Rattle.std.proofs.lemmas.Nat.{from_be_bytes-to_be_bytes_8}
use Rattle.fe2o3_sasl_wire.specs.declared.sasl_frames.forms.Form.{Form}
use Rattle.fe2o3_sasl_wire.specs.declared.sasl_frames.forms.Form.TheVariants.{Eight, ThirtyTwo}
use Rattle.fe2o3_sasl_wire.specs.declared.sasl_frames.forms.Kind.{Kind}
use Rattle.fe2o3_sasl_wire.specs.declared.sasl_frames.forms.Kind.TheVariants as kinds
use Rattle.fe2o3_sasl_wire.specs.SaslFrames.{limit, choice, content, SpellsVariable, list_body, SpellsList, SaslFrame, Mechanisms, Init, Challenge, Response, Outcome, outcome_code, Field, Null, Ubyte, Binary, Text, Symbol, Symbols, optional, fields_of, SpellsField, SpellsItems}
use Rattle.fe2o3_sasl_wire.specs.private.Kinds.{kind_of, code_of, name_of, SpellsValue, SpellsKind}
use Rattle.fe2o3_sasl_wire.specs.private.Fields.{AllNull}
use Rattle.fe2o3_sasl_wire.specs.private.Reading.{eight_at, symbol_at, string_at, symbols_at, code_at, Items, required, null_at, optional_at, ended, binary_at, fields_at, list_at, kind_of_code, kind_of_name, descriptor_at, value_at}
use Rattle.fe2o3_sasl_wire.proofs.lemmas.reading.SpelledValuesAreReadLemmas.{number_again, content_again, binary_again, string_again, symbol_again, symbols_again, code_again}

-- ---- items

-- a step that reads the first field and leaves the others
pub record Goes {A : Type 0} (answer : Option (A × Items)) (value : A) (fields : List Field) : Type 0 where
  pub left : Items
  pub read : answer ≡ Some (value, left)
  pub others : SpellsItems fields left.0 left.1

-- a reader of a field
pub record Rereads {A : Type 0} (read : List ℕ → Option (A × List ℕ)) (field : A → Field) : Type 0 where
  pub again : (value : A) (spelling rest : List ℕ) → SpellsField (field value) spelling
      → read (spelling ++ rest) ≡ Some (value, rest)
  pub there : (value : A) → field value ≡ Null → ⊥

required_step : {A : Type 0} (read : List ℕ → Option (A × List ℕ)) (count before : ℕ) (items item others : List ℕ)
    (value : A) → count ≡ suc before → items ≡ item ++ others
    → read (item ++ others) ≡ Some (value, others) → required read (count, items) ≡ Some (value, (before, others))
unfolding required
required_step read count before items item others value e f r =
    let more : eqb count 0 ≡ false = ne_eqb count 0 (λ z. absurd (omega arith)) in
    let less : count - 1 ≡ before = omega arith in
    rw (more, f, r, less) refl

required_again : {A : Type 0} (read : List ℕ → Option (A × List ℕ)) (field : A → Field) → Rereads read field
    → (value : A) (fields : List Field) (count : ℕ) (items : List ℕ)
    → SpellsItems (field value ∷ fields) count items → Goes (required read (count, items)) value fields
required_again read field rereads value fields count items (inl none) = absurd (rereads.there value none.0.0)
required_again read field rereads value fields count items (inr s) =
    record {
      left = (s.0, s.2);
      read = required_step read count s.0 items s.1 s.2 value s.3 s.4 (rereads.again value s.1 s.2 s.5);
      others = s.6;
    }

nothing_at_all : (fields : List Field) → AllNull fields → SpellsItems fields 0 []
nothing_at_all [] h = (refl, refl)
nothing_at_all (field ∷ fields) h = inl (h, refl, refl)

absent_step : {A : Type 0} (read : List ℕ → Option (A × List ℕ)) (count : ℕ) (items : List ℕ) → count ≡ 0 → items ≡ []
    → optional_at read (count, items) ≡ Some (None, (0, []))
unfolding optional_at
absent_step read count items e f = rw (e, f) refl

null_step : {A : Type 0} (read : List ℕ → Option (A × List ℕ)) (count before : ℕ) (items item others : List ℕ)
    → count ≡ suc before → items ≡ item ++ others → item ≡ 0x40 ∷ []
    → optional_at read (count, items) ≡ Some (None, (before, others))
unfolding optional_at
null_step read count before items item others e f g =
    let more : eqb count 0 ≡ false = ne_eqb count 0 (λ z. absurd (omega arith)) in
    let less : count - 1 ≡ before = omega arith in
    rw (more, f, g, less) refl

there_step : {A : Type 0} (read : List ℕ → Option (A × List ℕ)) (count before : ℕ) (items item others : List ℕ)
    (value : A) → count ≡ suc before → items ≡ item ++ others
    → null_at (item ++ others) ≡ None → read (item ++ others) ≡ Some (value, others)
    → optional_at read (count, items) ≡ Some (Some value, (before, others))
unfolding optional_at
there_step read count before items item others value e f n r =
    let more : eqb count 0 ≡ false = ne_eqb count 0 (λ z. absurd (omega arith)) in
    let less : count - 1 ≡ before = omega arith in
    rw (more, f, n, r, less) refl

-- a spelling of such a field never begins with a null
abbrev pub NotNull : (List ℕ → Field) → Type 0
NotNull field = (value spelling rest : List ℕ) → SpellsField (field value) spelling → null_at (spelling ++ rest) ≡ None

optional_again : (read : List ℕ → Option (List ℕ × List ℕ)) (field : List ℕ → Field) → Rereads read field
    → NotNull field → (o : Option (List ℕ)) (fields : List Field) (count : ℕ) (items : List ℕ)
    → SpellsItems (optional field o ∷ fields) count items → Goes (optional_at read (count, items)) o fields
optional_again read field rereads apart None fields count items (inl none) =
    record {
      left = (0, []);
      read = absent_step read count items none.1 none.2;
      others = nothing_at_all fields none.0.1;
    }
optional_again read field rereads apart None fields count items (inr s) =
    record { left = (s.0, s.2); read = null_step read count s.0 items s.1 s.2 s.3 s.4 s.5; others = s.6 }
optional_again read field rereads apart (Some x) fields count items (inl none) = absurd (rereads.there x none.0.0)
optional_again read field rereads apart (Some x) fields count items (inr s) =
    record {
      left = (s.0, s.2);
      read = there_step read count s.0 items s.1 s.2 x s.3 s.4 (apart x s.1 s.2 s.5) (rereads.again x s.1 s.2 s.5);
      others = s.6;
    }

ended_again : (items : Items) → SpellsItems [] items.0 items.1 → ended items ≡ Some tt
ended_again items s = rw (s.0, s.1) refl

variable_null : (short long : ℕ) → eqb short 0x40 ≡ false → eqb long 0x40 ≡ false → (value spelling rest : List ℕ)
    → SpellsVariable short long value spelling → null_at (spelling ++ rest) ≡ None
variable_null short long p q value spelling rest s = rw s.whole (first s.form)
  where
    first : (form : Form) → null_at (choice short long form ∷ content form value ++ rest) ≡ None
    first Eight = rw p refl
    first ThirtyTwo = rw q refl

symbols_reread : Rereads symbols_at Symbols
symbols_reread = record { again = symbols_again; there = λ x e. cc }

symbol_reread : Rereads symbol_at Symbol
symbol_reread = record { again = symbol_again; there = λ x e. cc }

binary_reread : Rereads binary_at Binary
binary_reread = record { again = binary_again; there = λ x e. cc }

string_reread : Rereads string_at Text
string_reread = record { again = string_again; there = λ x e. cc }

code_reread : Rereads code_at (λ c. Ubyte (outcome_code c))
code_reread = record { again = code_again; there = λ x e. cc }

binary_not_null : NotNull Binary
binary_not_null x b rest s = variable_null 0xa0 0xb0 refl refl x b rest s

string_not_null : NotNull Text
string_not_null x b rest s = variable_null 0xa1 0xb1 refl refl x b rest s.1

fields_again : (frame : SaslFrame) (count : ℕ) (items : List ℕ) → SpellsItems (fields_of frame) count items
    → fields_at (kind_of frame) (count, items) ≡ Some frame
unfolding fields_at
fields_again (Mechanisms names) count items s =
    let a = required_again symbols_at Symbols symbols_reread names [] count items s in
    rw (a.read, ended_again a.left a.others) refl
fields_again (Init mechanism first hostname) count items s =
    let a =
    required_again symbol_at Symbol symbol_reread mechanism
    (optional Binary first ∷ optional Text hostname ∷ []) count items s in
    let b =
    optional_again binary_at Binary binary_reread binary_not_null first
    (optional Text hostname ∷ []) a.left.0 a.left.1 a.others in
    let d = optional_again string_at Text string_reread string_not_null hostname [] b.left.0 b.left.1 b.others in
    rw (a.read, b.read, d.read, ended_again d.left d.others) refl
fields_again (Challenge bytes) count items s =
    let a = required_again binary_at Binary binary_reread bytes [] count items s in
    rw (a.read, ended_again a.left a.others) refl
fields_again (Response bytes) count items s =
    let a = required_again binary_at Binary binary_reread bytes [] count items s in
    rw (a.read, ended_again a.left a.others) refl
fields_again (Outcome code bytes) count items s =
    let a =
    required_again code_at (λ c. Ubyte (outcome_code c)) code_reread code (optional Binary bytes ∷ []) count items s in
    let b = optional_again binary_at Binary binary_reread binary_not_null bytes [] a.left.0 a.left.1 a.others in
    rw (a.read, b.read, ended_again b.left b.others) refl

-- ---- a described list

sized_again : (form : Form) (count : ℕ) (items rest : List ℕ) → length (list_body form count items) < limit form
    → count < limit form
    → list_at (choice 0xc0 0xd0 form ∷ content form (list_body form count items) ++ rest) ≡ Some ((count, items), rest)
unfolding list_at
sized_again Eight count items rest size few = rw (content_again Eight (list_body Eight count items) rest size) refl
sized_again ThirtyTwo count items rest size few =
    rw (
      content_again ThirtyTwo (list_body ThirtyTwo count items) rest size,
      number_again ThirtyTwo count items few,
    ) refl

empty_again : (count : ℕ) (items spelling rest : List ℕ) → count ≡ 0 → items ≡ [] → spelling ≡ 0x45 ∷ []
    → list_at (spelling ++ rest) ≡ Some ((count, items), rest)
unfolding list_at
empty_again count items spelling rest e f g = rw (e, f, g) refl

list_again : (count : ℕ) (items spelling rest : List ℕ) → SpellsList count items spelling
    → list_at (spelling ++ rest) ≡ Some ((count, items), rest)
list_again count items spelling rest (inl s) = empty_again count items spelling rest s.0 s.1 s.2
list_again count items spelling rest (inr s) = rw s.whole (sized_again s.form count items rest s.size s.few)

name_again : (kind : Kind) → kind_of_name (name_of kind) ≡ Some kind
unfolding kind_of_name
name_again kinds.Mechanisms = refl
name_again kinds.Init = refl
name_again kinds.Challenge = refl
name_again kinds.Response = refl
name_again kinds.Outcome = refl

code_kind_again : (kind : Kind) → kind_of_code (code_of kind) ≡ Some kind
code_kind_again kinds.Mechanisms = refl
code_kind_again kinds.Init = refl
code_kind_again kinds.Challenge = refl
code_kind_again kinds.Response = refl
code_kind_again kinds.Outcome = refl

eight_again : (n : ℕ) (rest : List ℕ) → n < 2 ^ 64 → eight_at (to_be_bytes w64 n ++ rest) ≡ Some (n, rest)
eight_again n rest lt =
    let bytes = to_be_bytes w64 n in
    let long : ltb (length (bytes ++ rest)) 8 ≡ false = le-ltb _ _ (omega (arith, length-append bytes rest)) in
    rw (long, from_be_bytes-to_be_bytes_8 n lt) refl

code_small : (kind : Kind) → code_of kind < 2 ^ 64
code_small kinds.Mechanisms = omega arith
code_small kinds.Init = omega arith
code_small kinds.Challenge = omega arith
code_small kinds.Response = omega arith
code_small kinds.Outcome = omega arith

short_descriptor : (kind : Kind) (rest : List ℕ) → descriptor_at (0x53 ∷ code_of kind ∷ rest) ≡ Some (kind, rest)
unfolding descriptor_at
short_descriptor kind rest = rw (code_kind_again kind) refl

long_descriptor : (kind : Kind) (rest : List ℕ)
    → descriptor_at (0x80 ∷ to_be_bytes w64 (code_of kind) ++ rest) ≡ Some (kind, rest)
unfolding descriptor_at
long_descriptor kind rest = rw (eight_again (code_of kind) rest (code_small kind), code_kind_again kind) refl

named_step : (kind : Kind) (form : Form) (rest : List ℕ)
    → symbol_at (choice 0xa3 0xb3 form ∷ content form (name_of kind) ++ rest) ≡ Some (name_of kind, rest)
    → descriptor_at (choice 0xa3 0xb3 form ∷ content form (name_of kind) ++ rest) ≡ Some (kind, rest)
unfolding descriptor_at
named_step kind Eight rest e = rw (e, name_again kind) refl
named_step kind ThirtyTwo rest e = rw (e, name_again kind) refl

descriptor_again : (kind : Kind) (spelling rest : List ℕ) → SpellsKind kind spelling
    → descriptor_at (spelling ++ rest) ≡ Some (kind, rest)
descriptor_again kind spelling rest (inl e) = rw e (short_descriptor kind rest)
descriptor_again kind spelling rest (inr (inl e)) = rw e (long_descriptor kind rest)
descriptor_again kind spelling rest (inr (inr s)) =
    rw s.1.whole (named_step kind s.1.form rest (rw s.1.whole at (symbol_again (name_of kind) spelling rest s)))

value_step : (frame : SaslFrame) (count : ℕ) (descriptor items fields rest : List ℕ)
    → descriptor_at (descriptor ++ (fields ++ rest)) ≡ Some (kind_of frame, fields ++ rest)
    → list_at (fields ++ rest) ≡ Some ((count, items), rest) → fields_at (kind_of frame) (count, items) ≡ Some frame
    → value_at (0 ∷ descriptor ++ (fields ++ rest)) ≡ Some (frame, rest)
unfolding value_at
value_step frame count descriptor items fields rest d l i = rw (d, l, i) refl

-- a value that is spelled is read back, whatever follows it
pub value_again : (frame : SaslFrame) (spelling rest : List ℕ) → SpellsValue frame spelling
    → value_at (spelling ++ rest) ≡ Some (frame, rest)
value_again frame spelling rest s =
    let regrouped : spelling ++ rest ≡ 0 ∷ s.descriptor ++ (s.fields ++ rest) =
    rw s.whole (ap (λ (t : List ℕ). 0 ∷ t) (append_assoc s.descriptor s.fields rest)) in
    ap value_at regrouped ∙ value_step frame s.count s.descriptor s.items s.fields rest
    (descriptor_again (kind_of frame) s.descriptor (s.fields ++ rest) s.described)
    (list_again s.count s.items s.fields rest s.listed) (fields_again frame s.count s.items s.each)
