-- What is read is spelled so.
use Rattle.std.proofs.Common.{◌≡◌, ℕ, zero, suc, ◌<◌, ◌≤◌, cond, ltb, eqb, List, [], ◌∷◌, ◌++◌, length, take, drop, Some, None, refl, sym, ap, subst, ◌∙◌, append_assoc, arith, inl, inr}
use Rattle.std.specs.Int.{w32, to_be_bytes, from_be_bytes}
use Rattle.std.specs.List.{AllByRecursion}
use Rattle.std.specs.Str.{is_utf8}
use Rattle.std.proofs.lemmas.Bool.{ltb-false, eqb-true}
use Rattle.std.proofs.lemmas.List.{take-append-drop, append-nil, length-take, nil_from_length}
use Rattle.std.proofs.lemmas.Nat.{be_bytes_4}
use Rattle.std.proofs.lemmas.Str.{IsUtf8-from_is_utf8}
use Rattle.fe2o3_sasl_wire.specs.declared.amqp_types.SaslCode.{SaslCode}
use Rattle.fe2o3_sasl_wire.specs.declared.amqp_types.SaslCode.TheVariants as sasl_codes
use Rattle.fe2o3_sasl_wire.specs.declared.sasl_frames.forms.Form.{Form}
use Rattle.fe2o3_sasl_wire.specs.declared.sasl_frames.forms.Form.TheVariants.{Eight, ThirtyTwo}
use Rattle.fe2o3_sasl_wire.specs.SaslFrames.{IsBytes, limit, number, choice, content, SpellsVariable, array_body, outcome_code, Ubyte, Binary, Text, Symbol, Symbols, SpellsField}
use Rattle.fe2o3_sasl_wire.specs.private.Kinds.{IsElement}
use Rattle.fe2o3_sasl_wire.specs.private.Writing.{elements}
use Rattle.fe2o3_sasl_wire.specs.private.Reading.{◌>>=◌, byte_at, four_at, number_at, content_at, form_at, variable_at, is_ascii, element_at, symbol_at, string_at, elements_at, array_at, one_at, symbols_at, sasl_code, code_at, binary_at}
use Rattle.fe2o3_sasl_wire.proofs.lemmas.reading.TextLemmas.{IsAscii-from_is_ascii}
use Rattle.fe2o3_sasl_wire.proofs.lemmas.reading.StepLemmas.{IsBytes-drop, IsBytes-take, IsBytes-tail, bind_some, unless_some, when_some, chosen, first_passed, some_is, Reads}

-- ---- numbers

-- a number was taken from the front
pub record TakesNumber (form : Form) (bytes : List ℕ) (n : ℕ) (rest : List ℕ) : Type 0 where
  pub parts : bytes ≡ number form n ++ rest
  pub fits : n < limit form
  pub rest_fits : IsBytes rest

four_takes : (bytes : List ℕ) (taken : ℕ × List ℕ) → IsBytes bytes → four_at bytes ≡ Some taken
    → TakesNumber ThirtyTwo bytes taken.0 taken.1
four_takes bytes taken fits e =
    let g = unless_some (ltb (length bytes) 4) (Some (from_be_bytes w32 (take 4 bytes), drop 4 bytes)) taken e in
    let long : 4 ≤ length bytes = ltb-false _ _ g.0 in
    let front = IsBytes-take 4 bytes fits in
    let back : to_be_bytes w32 (from_be_bytes w32 (take 4 bytes)) ≡ take 4 bytes =
    be_bytes_4 (take 4 bytes) _ (omega (arith, length-take 4 bytes)) front refl in
    let made : TakesNumber ThirtyTwo bytes (from_be_bytes w32 (take 4 bytes)) (drop 4 bytes) = record {
      parts = sym (ap (λ (t : List ℕ). t ++ drop 4 bytes) back ∙ take-append-drop 4 bytes);
      fits = omega (arith, front 0, front 1, front 2, front 3);
      rest_fits = IsBytes-drop 4 bytes fits;
    } in
    subst (λ (y : ℕ × List ℕ). TakesNumber ThirtyTwo bytes y.0 y.1)
    (some_is (from_be_bytes w32 (take 4 bytes), drop 4 bytes) taken g.1) made

-- a number that was read from the front is spelled by the bytes that it took
pub number_takes : (form : Form) (bytes : List ℕ) (taken : ℕ × List ℕ) → IsBytes bytes
    → number_at form bytes ≡ Some taken
    → TakesNumber form bytes taken.0 taken.1
number_takes Eight [] taken fits e = absurd cc
number_takes Eight (b ∷ bytes) taken fits e =
    subst (λ (y : ℕ × List ℕ). TakesNumber Eight (b ∷ bytes) y.0 y.1) (some_is (b, bytes) taken e)
    (record { parts = refl; fits = fits 0; rest_fits = IsBytes-tail b bytes fits })
number_takes ThirtyTwo bytes taken fits e = four_takes bytes taken fits e

-- ---- contents

-- a length and that many bytes were taken from the front
pub record TakesContent (form : Form) (bytes taken rest : List ℕ) : Type 0 where
  pub parts : bytes ≡ content form taken ++ rest
  pub fits : length taken < limit form
  pub bytes_fit : IsBytes taken
  pub rest_fits : IsBytes rest

-- a length and that many bytes that were read are spelled by the bytes that they took
pub content_takes : (form : Form) (bytes : List ℕ) (taken : List ℕ × List ℕ) → IsBytes bytes
    → content_at form bytes ≡ Some taken → TakesContent form bytes taken.0 taken.1
unfolding content_at
content_takes form bytes taken fits e =
    let b =
    bind_some (number_at form bytes)
    (λ n. cond (ltb (length n.1) n.0) None (Some (take n.0 n.1, drop n.0 n.1))) taken e in
    let n = b.0 in
    let t = number_takes form bytes n fits b.1 in
    let g = unless_some (ltb (length n.1) n.0) (Some (take n.0 n.1, drop n.0 n.1)) taken b.2 in
    let long : n.0 ≤ length n.1 = ltb-false _ _ g.0 in
    let len : length (take n.0 n.1) ≡ n.0 = omega (arith, length-take n.0 n.1) in
    let whole : bytes ≡ content form (take n.0 n.1) ++ drop n.0 n.1 =
    t.parts ∙ ap (λ (r : List ℕ). number form n.0 ++ r) (sym (take-append-drop n.0 n.1))
    ∙ ap (λ (k : ℕ). number form k ++ (take n.0 n.1 ++ drop n.0 n.1)) (sym len)
    ∙ sym (append_assoc (number form (length (take n.0 n.1))) (take n.0 n.1) (drop n.0 n.1)) in
    let small : length (take n.0 n.1) < limit form = rw len t.fits in
    let made : TakesContent form bytes (take n.0 n.1) (drop n.0 n.1) = record {
      parts = whole;
      fits = small;
      bytes_fit = IsBytes-take n.0 n.1 t.rest_fits;
      rest_fits = IsBytes-drop n.0 n.1 t.rest_fits;
    } in
    subst (λ (y : List ℕ × List ℕ). TakesContent form bytes y.0 y.1)
    (some_is (take n.0 n.1, drop n.0 n.1) taken g.1) made

-- which form a constructor names
pub form_takes : (short long constructor : ℕ) (form : Form) → form_at short long constructor ≡ Some form
    → constructor ≡ choice short long form
form_takes short long constructor form =
    let names : Form → Type 0 = λ other. constructor ≡ choice short long other in
    first_passed names (eqb constructor short) Eight _ form (eqb-true constructor short)
    (first_passed names (eqb constructor long) ThirtyTwo None form (eqb-true constructor long) (λ e. absurd cc))

-- a byte that was read is the first
pub byte_takes : (bytes : List ℕ) (taken : ℕ × List ℕ) → IsBytes bytes → byte_at bytes ≡ Some taken
    → (bytes ≡ taken.0 ∷ taken.1)
    × IsBytes taken.1
byte_takes [] taken fits e = absurd cc
byte_takes (b ∷ bytes) taken fits e =
    subst (λ (y : ℕ × List ℕ). (b ∷ bytes ≡ y.0 ∷ y.1) × IsBytes y.1) (some_is (b, bytes) taken e)
    (refl, IsBytes-tail b bytes fits)

variable_takes : (short long : ℕ) (bytes : List ℕ) (taken : List ℕ × List ℕ) → IsBytes bytes
    → variable_at short long bytes ≡ Some taken → Reads (SpellsVariable short long taken.0) bytes taken.1
unfolding variable_at
variable_takes short long bytes taken fits e =
    let a = bind_some (byte_at bytes) (λ c. form_at short long c.0 >>= λ form. content_at form c.1) taken e in
    let b = bind_some (form_at short long a.0.0) (λ form. content_at form a.0.1) taken a.2 in
    let first = byte_takes bytes a.0 fits a.1 in
    let c = content_takes b.0 a.0.1 taken first.1 b.2 in
    let constructor = form_takes short long a.0.0 b.0 b.1 in
    record {
      front = choice short long b.0 ∷ content b.0 taken.0;
      spelled = record { form = b.0; fits = c.fits; whole = refl };
      parts = first.0 ∙ ap (λ (k : ℕ). k ∷ a.0.1) constructor ∙ ap (λ (t : List ℕ). choice short long b.0 ∷ t) c.parts;
      rest_fits = c.rest_fits;
    }

-- a binary that was read is spelled by the bytes that it took
pub binary_takes : (bytes : List ℕ) (taken : List ℕ × List ℕ) → IsBytes bytes → binary_at bytes ≡ Some taken
    → Reads (SpellsField (Binary taken.0)) bytes taken.1
unfolding binary_at
binary_takes bytes taken fits e = variable_takes 0xa0 0xb0 bytes taken fits e

-- a spelling of something that passes a test
tested : {P Q : List ℕ → Type 0} (bytes rest : List ℕ) → ((b : List ℕ) → P b → Q b) → Reads P bytes rest
    → Reads Q bytes rest
tested bytes rest more r =
    record { front = r.front; spelled = more r.front r.spelled; parts = r.parts; rest_fits = r.rest_fits }

-- a string that was read is spelled by the bytes that it took
pub string_takes : (bytes : List ℕ) (taken : List ℕ × List ℕ) → IsBytes bytes → string_at bytes ≡ Some taken
    → Reads (SpellsField (Text taken.0)) bytes taken.1
unfolding string_at
string_takes bytes taken fits e =
    let a = bind_some (variable_at 0xa1 0xb1 bytes) (λ y. cond (is_utf8 y.0) (Some y) None) taken e in
    let g = when_some (is_utf8 a.0.0) (Some a.0) taken a.2 in
    let r = variable_takes 0xa1 0xb1 bytes a.0 fits a.1 in
    let made : Reads (SpellsField (Text a.0.0)) bytes a.0.1 =
    tested bytes a.0.1 (λ b s. (IsUtf8-from_is_utf8 a.0.0 g.0, s)) r in
    subst (λ (y : List ℕ × List ℕ). Reads (SpellsField (Text y.0)) bytes y.1) (some_is a.0 taken g.1) made

-- a symbol without its constructor was taken from the front
pub record TakesElement (form : Form) (bytes taken rest : List ℕ) : Type 0 where
  pub parts : bytes ≡ content form taken ++ rest
  pub element : IsElement form taken
  pub rest_fits : IsBytes rest

element_takes : (form : Form) (bytes : List ℕ) (taken : List ℕ × List ℕ) → IsBytes bytes
    → element_at form bytes ≡ Some taken
    → TakesElement form bytes taken.0 taken.1
unfolding element_at
element_takes form bytes taken fits e =
    let a = bind_some (content_at form bytes) (λ y. cond (is_ascii y.0) (Some y) None) taken e in
    let g = when_some (is_ascii a.0.0) (Some a.0) taken a.2 in
    let c = content_takes form bytes a.0 fits a.1 in
    let made : TakesElement form bytes a.0.0 a.0.1 = record {
      parts = c.parts;
      element = (IsAscii-from_is_ascii a.0.0 g.0, c.fits);
      rest_fits = c.rest_fits;
    } in
    subst (λ (y : List ℕ × List ℕ). TakesElement form bytes y.0 y.1) (some_is a.0 taken g.1) made

-- a symbol that was read is spelled by the bytes that it took
pub symbol_takes : (bytes : List ℕ) (taken : List ℕ × List ℕ) → IsBytes bytes → symbol_at bytes ≡ Some taken
    → Reads (SpellsField (Symbol taken.0)) bytes taken.1
unfolding symbol_at
symbol_takes bytes taken fits e =
    let a = bind_some (byte_at bytes) (λ c. form_at 0xa3 0xb3 c.0 >>= λ form. element_at form c.1) taken e in
    let b = bind_some (form_at 0xa3 0xb3 a.0.0) (λ form. element_at form a.0.1) taken a.2 in
    let first = byte_takes bytes a.0 fits a.1 in
    let c = element_takes b.0 a.0.1 taken first.1 b.2 in
    record {
      front = choice 0xa3 0xb3 b.0 ∷ content b.0 taken.0;
      spelled = (c.element.0, record { form = b.0; fits = c.element.1; whole = refl });
      parts =
          first.0 ∙ ap (λ (k : ℕ). k ∷ a.0.1) (form_takes 0xa3 0xb3 a.0.0 b.0 b.1)
          ∙ ap (λ (t : List ℕ). choice 0xa3 0xb3 b.0 ∷ t) c.parts;
      rest_fits = c.rest_fits;
    }

-- ---- arrays

-- that many symbols without their constructor were taken from the front
pub record TakesElements (form : Form) (n : ℕ) (bytes : List ℕ) (xs : List (List ℕ)) (rest : List ℕ) : Type 0 where
  pub parts : bytes ≡ elements form xs ++ rest
  pub count : length xs ≡ n
  pub each : AllByRecursion (IsElement form) xs
  pub rest_fits : IsBytes rest

elements_take : (form : Form) (n : ℕ) (bytes : List ℕ) (taken : List (List ℕ) × List ℕ) → IsBytes bytes
    → elements_at form n bytes ≡ Some taken → TakesElements form n bytes taken.0 taken.1
unfolding elements_at
elements_take form zero bytes taken fits e =
    let made : TakesElements form 0 bytes [] bytes = record {
      parts = refl;
      count = refl;
      each = tt;
      rest_fits = fits;
    } in
    subst (λ (y : List (List ℕ) × List ℕ). TakesElements form 0 bytes y.0 y.1) (some_is ([], bytes) taken e) made
elements_take form (suc n) bytes taken fits e =
    let a =
    bind_some (element_at form bytes) (λ first. elements_at form n first.1
    >>= λ others. Some (first.0 ∷ others.0, others.1)) taken e in
    let b = bind_some (elements_at form n a.0.1) (λ others. Some (a.0.0 ∷ others.0, others.1)) taken a.2 in
    let first = element_takes form bytes a.0 fits a.1 in
    let others = elements_take form n a.0.1 b.0 first.rest_fits b.1 in
    let made : TakesElements form (suc n) bytes (a.0.0 ∷ b.0.0) b.0.1 = record {
      parts =
          first.parts ∙ ap (λ (t : List ℕ). content form a.0.0 ++ t) others.parts
          ∙ sym (append_assoc (content form a.0.0) (elements form b.0.0) b.0.1);
      count = ap suc others.count;
      each = (first.element, others.each);
      rest_fits = others.rest_fits;
    } in
    subst (λ (y : List (List ℕ) × List ℕ). TakesElements form (suc n) bytes y.0 y.1)
    (some_is (a.0.0 ∷ b.0.0, b.0.1) taken b.2) made

-- an array without its constructor was taken from the front
pub record TakesArray (form : Form) (bytes : List ℕ) (xs : List (List ℕ)) (rest : List ℕ) : Type 0 where
  pub inner : Form
  pub each : AllByRecursion (IsElement inner) xs
  pub size : length (array_body form inner xs) < limit form
  pub count : length xs < limit form
  pub parts : bytes ≡ content form (array_body form inner xs) ++ rest
  pub rest_fits : IsBytes rest

array_takes : (form : Form) (bytes : List ℕ) (taken : List (List ℕ) × List ℕ) → IsBytes bytes
    → array_at form bytes ≡ Some taken → TakesArray form bytes taken.0 taken.1
unfolding array_at
array_takes form bytes taken fits e =
    let a =
    bind_some (content_at form bytes) (λ inner. number_at form inner.0 >>= λ count. byte_at count.1
    >>= λ c. form_at 0xa3 0xb3 c.0 >>= λ element. elements_at element count.0 c.1
    >>= λ names. cond (eqb (length names.1) 0) (Some (names.0, inner.1)) None) taken e in
    let b =
    bind_some (number_at form a.0.0) (λ count. byte_at count.1 >>= λ c. form_at 0xa3 0xb3 c.0
    >>= λ element. elements_at element count.0 c.1 >>= λ names. cond (eqb (length names.1) 0)
    (Some (names.0, a.0.1)) None) taken a.2 in
    let c =
    bind_some (byte_at b.0.1) (λ c. form_at 0xa3 0xb3 c.0 >>= λ element. elements_at element b.0.0 c.1
    >>= λ names. cond (eqb (length names.1) 0) (Some (names.0, a.0.1)) None) taken b.2 in
    let d =
    bind_some (form_at 0xa3 0xb3 c.0.0)
    (λ element. elements_at element b.0.0 c.0.1 >>= λ names. cond (eqb (length names.1) 0)
    (Some (names.0, a.0.1)) None) taken c.2 in
    let f =
    bind_some (elements_at d.0 b.0.0 c.0.1)
    (λ names. cond (eqb (length names.1) 0) (Some (names.0, a.0.1)) None) taken d.2 in
    let g = when_some (eqb (length f.0.1) 0) (Some (f.0.0, a.0.1)) taken f.2 in
    let body = content_takes form bytes a.0 fits a.1 in
    let count = number_takes form a.0.0 b.0 body.bytes_fit b.1 in
    let constructor = byte_takes b.0.1 c.0 count.rest_fits c.1 in
    let names = elements_take d.0 b.0.0 c.0.1 f.0 constructor.1 f.1 in
    let nothing : f.0.1 ≡ [] = nil_from_length f.0.1 (eqb-true _ _ g.0) in
    let inside : c.0.1 ≡ elements d.0 f.0.0 =
    names.parts ∙ ap (λ (t : List ℕ). elements d.0 f.0.0 ++ t) nothing ∙ append-nil (elements d.0 f.0.0) in
    let whole : a.0.0 ≡ array_body form d.0 f.0.0 =
    count.parts ∙ ap (λ (k : ℕ). number form k ++ b.0.1) (sym names.count)
    ∙ ap (λ (t : List ℕ). number form (length f.0.0) ++ t)
    (constructor.0 ∙ ap (λ (k : ℕ). k ∷ c.0.1) (form_takes 0xa3 0xb3 c.0.0 d.0 d.1)
    ∙ ap (λ (t : List ℕ). choice 0xa3 0xb3 d.0 ∷ t) inside) in
    let size : length (array_body form d.0 f.0.0) < limit form = rw (← whole) body.fits in
    let few : length f.0.0 < limit form = rw names.count count.fits in
    let made : TakesArray form bytes f.0.0 a.0.1 = record {
      inner = d.0;
      each = names.each;
      size = size;
      count = few;
      parts = body.parts ∙ ap (λ (t : List ℕ). content form t ++ a.0.1) whole;
      rest_fits = body.rest_fits;
    } in
    subst (λ (y : List (List ℕ) × List ℕ). TakesArray form bytes y.0 y.1) (some_is (f.0.0, a.0.1) taken g.1) made

-- an array after its constructor
array_reads : (form : Form) (constructor : ℕ) (bytes : List ℕ) (taken : List (List ℕ) × List ℕ)
    → constructor ≡ choice 0xe0 0xf0 form
    → TakesArray form bytes taken.0 taken.1 → Reads (SpellsField (Symbols taken.0)) (constructor ∷ bytes) taken.1
array_reads form constructor bytes taken e t = record {
  front = choice 0xe0 0xf0 form ∷ content form (array_body form t.inner taken.0);
  spelled = inr (record { form = form; inner = t.inner; each = t.each; size = t.size; count = t.count; whole = refl });
  parts = ap (λ (k : ℕ). k ∷ bytes) e ∙ ap (λ (r : List ℕ). choice 0xe0 0xf0 form ∷ r) t.parts;
  rest_fits = t.rest_fits;
}

one_reads : (form : Form) (constructor : ℕ) (bytes : List ℕ) (taken : List (List ℕ) × List ℕ) → IsBytes bytes
    → constructor ≡ choice 0xa3 0xb3 form → one_at form bytes ≡ Some taken
    → Reads (SpellsField (Symbols taken.0)) (constructor ∷ bytes) taken.1
unfolding one_at elements_at
one_reads form constructor bytes taken fits e h =
    let a = bind_some (element_at form bytes) (λ first. Some (first.0 ∷ [], first.1)) taken h in
    let t = element_takes form bytes a.0 fits a.1 in
    let made : Reads (SpellsField (Symbols (a.0.0 ∷ []))) (constructor ∷ bytes) a.0.1 = record {
      front = choice 0xa3 0xb3 form ∷ content form a.0.0;
      spelled = inl (a.0.0, refl, (t.element.0, record { form = form; fits = t.element.1; whole = refl }));
      parts = ap (λ (k : ℕ). k ∷ bytes) e ∙ ap (λ (r : List ℕ). choice 0xa3 0xb3 form ∷ r) t.parts;
      rest_fits = t.rest_fits;
    } in
    subst (λ (y : List (List ℕ) × List ℕ). Reads (SpellsField (Symbols y.0)) (constructor ∷ bytes) y.1)
    (some_is (a.0.0 ∷ [], a.0.1) taken a.2) made

-- symbols that were read, as an array or as one, are spelled by the bytes that they took
pub symbols_take : (bytes : List ℕ) (taken : List (List ℕ) × List ℕ) → IsBytes bytes → symbols_at bytes ≡ Some taken
    → Reads (SpellsField (Symbols taken.0)) bytes taken.1
unfolding symbols_at
symbols_take [] taken fits e = absurd cc
symbols_take (c ∷ bytes) taken fits e =
    let rest = IsBytes-tail c bytes fits in
    elim (chosen (eqb c 0xe0) (array_at Eight bytes)
    (cond (eqb c 0xf0) (array_at ThirtyTwo bytes) (form_at 0xa3 0xb3 c >>= λ form. one_at form bytes)) (Some taken) e) [
      | inl h ↦ array_reads Eight c bytes taken (eqb-true c 0xe0 h.0) (array_takes Eight bytes taken rest h.1)
      | inr h ↦
          elim (chosen (eqb c 0xf0) (array_at ThirtyTwo bytes) (form_at 0xa3 0xb3 c >>= λ form. one_at form bytes)
          (Some taken) h.1) [
            | inl k ↦
                array_reads ThirtyTwo c bytes taken (eqb-true c 0xf0 k.0) (array_takes ThirtyTwo bytes taken rest k.1)
            | inr k ↦
                let a = bind_some (form_at 0xa3 0xb3 c) (λ form. one_at form bytes) taken k.1 in
                one_reads a.0 c bytes taken rest (form_takes 0xa3 0xb3 c a.0 a.1) a.2
          ]
    ]

-- ---- codes

code_is : (n : ℕ) (code : SaslCode) → sasl_code n ≡ Some code → n ≡ outcome_code code
code_is n code =
    let has_number : SaslCode → Type 0 = λ other. n ≡ outcome_code other in
    first_passed has_number (eqb n 0) sasl_codes.Ok _ code (eqb-true n 0)
    (first_passed has_number (eqb n 1) sasl_codes.Auth _ code (eqb-true n 1)
    (first_passed has_number (eqb n 2) sasl_codes.Sys _ code (eqb-true n 2)
    (first_passed has_number (eqb n 3) sasl_codes.SysPerm _ code (eqb-true n 3)
    (first_passed has_number (eqb n 4) sasl_codes.SysTemp None code (eqb-true n 4) (λ e. absurd cc)))))

-- an outcome's code that was read is spelled by the bytes that it took
pub code_takes : (bytes : List ℕ) (taken : SaslCode × List ℕ) → IsBytes bytes → code_at bytes ≡ Some taken
    → Reads (SpellsField (Ubyte (outcome_code taken.0))) bytes taken.1
unfolding code_at
code_takes bytes taken fits e =
    let a =
    bind_some (byte_at bytes) (λ c. byte_at c.1 >>= λ n. sasl_code n.0
    >>= λ code. cond (eqb c.0 0x50) (Some (code, n.1)) None) taken e in
    let b =
    bind_some (byte_at a.0.1)
    (λ n. sasl_code n.0 >>= λ code. cond (eqb a.0.0 0x50) (Some (code, n.1)) None) taken a.2 in
    let c = bind_some (sasl_code b.0.0) (λ code. cond (eqb a.0.0 0x50) (Some (code, b.0.1)) None) taken b.2 in
    let g = when_some (eqb a.0.0 0x50) (Some (c.0, b.0.1)) taken c.2 in
    let first = byte_takes bytes a.0 fits a.1 in
    let second = byte_takes a.0.1 b.0 first.1 b.1 in
    let made : Reads (SpellsField (Ubyte (outcome_code c.0))) bytes b.0.1 = record {
      front = 0x50 ∷ outcome_code c.0 ∷ [];
      spelled = refl;
      parts =
          first.0 ∙ ap (λ (k : ℕ). k ∷ a.0.1) (eqb-true a.0.0 0x50 g.0)
          ∙ ap (λ (t : List ℕ). 0x50 ∷ t) (second.0 ∙ ap (λ (k : ℕ). k ∷ b.0.1) (code_is b.0.0 c.0 c.1));
      rest_fits = second.1;
    } in
    subst (λ (y : SaslCode × List ℕ). Reads (SpellsField (Ubyte (outcome_code y.0))) bytes y.1)
    (some_is (c.0, b.0.1) taken g.1) made
