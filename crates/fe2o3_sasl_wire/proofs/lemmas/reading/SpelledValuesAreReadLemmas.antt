-- What spells a value is read as it, whatever follows.
use Rattle.std.proofs.Common.{◌≡◌, ℕ, ◌<◌, false, ltb, List, [], ◌∷◌, ◌++◌, length, Some, refl, sym, ap, ◌∙◌, append_assoc, arith, inl, inr}
use Rattle.std.specs.Prelude.{IsUtf8}
use Rattle.std.specs.Int.{w32, to_be_bytes}
use Rattle.std.specs.List.{AllByRecursion}
use Rattle.std.proofs.lemmas.Bool.{le-ltb}
use Rattle.std.proofs.lemmas.List.{take_at, drop_at, append-nil, length-append}
use Rattle.std.proofs.lemmas.Nat.{from_be_bytes-to_be_bytes_4}
use Rattle.std.proofs.lemmas.Str.{is_utf8-from_IsUtf8}
use Rattle.fe2o3_sasl_wire.specs.declared.amqp_types.SaslCode.{SaslCode}
use Rattle.fe2o3_sasl_wire.specs.declared.amqp_types.SaslCode.TheVariants as sasl_codes
use Rattle.fe2o3_sasl_wire.specs.declared.sasl_frames.forms.Form.{Form}
use Rattle.fe2o3_sasl_wire.specs.declared.sasl_frames.forms.Form.TheVariants.{Eight, ThirtyTwo}
use Rattle.fe2o3_sasl_wire.specs.SaslFrames.{limit, number, choice, content, SpellsVariable, SpellsSymbol, array_body, outcome_code, Ubyte, Symbols, SpellsField}
use Rattle.fe2o3_sasl_wire.specs.private.Kinds.{IsElement}
use Rattle.fe2o3_sasl_wire.specs.private.Writing.{elements}
use Rattle.fe2o3_sasl_wire.specs.private.Reading.{number_at, content_at, form_at, variable_at, element_at, symbol_at, string_at, elements_at, array_at, one_at, symbols_at, code_at, binary_at}
use Rattle.fe2o3_sasl_wire.proofs.lemmas.reading.TextLemmas.{is_ascii-from_IsAscii}

-- a number that is written is read back, whatever follows it
pub number_again : (form : Form) (n : ℕ) (rest : List ℕ) → n < limit form
    → number_at form (number form n ++ rest) ≡ Some (n, rest)
number_again Eight n rest lt = refl
number_again ThirtyTwo n rest lt =
    let bytes = to_be_bytes w32 n in
    let long : ltb (length (bytes ++ rest)) 4 ≡ false = le-ltb _ _ (omega (arith, length-append bytes rest)) in
    rw (long, from_be_bytes-to_be_bytes_4 n lt) refl

-- a length and that many bytes are read back, whatever follows them
pub content_again : (form : Form) (value rest : List ℕ) → length value < limit form
    → content_at form (content form value ++ rest) ≡ Some (value, rest)
unfolding content_at
content_again form value rest lt =
    let long : ltb (length (value ++ rest)) (length value) ≡ false =
    le-ltb _ _ (omega (arith, length-append value rest)) in
    rw (
      append_assoc (number form (length value)) value rest,
      number_again form (length value) (value ++ rest) lt,
      long,
      take_at value rest (length value) refl,
      drop_at value rest (length value) refl,
    ) refl

-- the constructor says which form it is
abbrev Tells : ℕ → ℕ → Type 0
Tells short long = (form : Form) → form_at short long (choice short long form) ≡ Some form

variable_again : (short long : ℕ) → Tells short long → (value spelling rest : List ℕ)
    → SpellsVariable short long value spelling
    → variable_at short long (spelling ++ rest) ≡ Some (value, rest)
unfolding variable_at
variable_again short long tells value spelling rest s =
    rw (s.whole, tells s.form, content_again s.form value rest s.fits) refl

symbol_form : Tells 0xa3 0xb3
symbol_form Eight = refl
symbol_form ThirtyTwo = refl

binary_form : Tells 0xa0 0xb0
binary_form Eight = refl
binary_form ThirtyTwo = refl

string_form : Tells 0xa1 0xb1
string_form Eight = refl
string_form ThirtyTwo = refl

-- a binary that is spelled is read back, whatever follows it
pub binary_again : (value spelling rest : List ℕ) → SpellsVariable 0xa0 0xb0 value spelling
    → binary_at (spelling ++ rest) ≡ Some (value, rest)
unfolding binary_at
binary_again value spelling rest s = variable_again 0xa0 0xb0 binary_form value spelling rest s

-- a string that is spelled is read back, whatever follows it
pub string_again : (value spelling rest : List ℕ) → IsUtf8 value × SpellsVariable 0xa1 0xb1 value spelling
    → string_at (spelling ++ rest) ≡ Some (value, rest)
unfolding string_at
string_again value spelling rest s =
    rw (variable_again 0xa1 0xb1 string_form value spelling rest s.1, is_utf8-from_IsUtf8 value s.0) refl

element_again : (form : Form) (value rest : List ℕ) → IsElement form value
    → element_at form (content form value ++ rest) ≡ Some (value, rest)
unfolding element_at
element_again form value rest s = rw (content_again form value rest s.1, is_ascii-from_IsAscii value s.0) refl

-- a symbol that is spelled is read back, whatever follows it
pub symbol_again : (value spelling rest : List ℕ) → SpellsSymbol value spelling
    → symbol_at (spelling ++ rest) ≡ Some (value, rest)
unfolding symbol_at
symbol_again value spelling rest s =
    rw (
      s.1.whole,
      symbol_form s.1.form,
      element_again s.1.form value rest
          (s.0, s.1.fits),
    ) refl

elements_again : (form : Form) (xs : List (List ℕ)) (rest : List ℕ) → AllByRecursion (IsElement form) xs
    → elements_at form (length xs) (elements form xs ++ rest) ≡ Some (xs, rest)
unfolding elements_at
elements_again form [] rest s = refl
elements_again form (x ∷ xs) rest s =
    rw (
      append_assoc (content form x) (elements form xs) rest,
      element_again form x (elements form xs ++ rest) s.0,
      elements_again form xs rest s.1,
    ) refl

-- ---- arrays

array_again : (xs : List (List ℕ)) (rest : List ℕ) (form inner : Form) → AllByRecursion (IsElement inner) xs
    → length (array_body form inner xs) < limit form → length xs < limit form
    → array_at form (content form (array_body form inner xs) ++ rest) ≡ Some (xs, rest)
unfolding array_at
array_again xs rest form inner each size count =
    let all : elements_at inner (length xs) (elements inner xs) ≡ Some (xs, []) =
    ap (elements_at inner (length xs)) (sym (append-nil (elements inner xs))) ∙ elements_again inner xs [] each in
    rw (
      content_again form (array_body form inner xs) rest size,
      number_again form (length xs) (choice 0xa3 0xb3 inner ∷ elements inner xs) count,
      symbol_form inner,
      all,
    ) refl

one_again : (form : Form) (value rest : List ℕ) → IsElement form value
    → one_at form (content form value ++ rest) ≡ Some (value ∷ [], rest)
unfolding one_at elements_at
one_again form value rest s = rw (element_again form value rest s) refl

single_again : (xs : List (List ℕ)) (value : List ℕ) (rest : List ℕ) (form : Form) → xs ≡ value ∷ []
    → IsElement form value
    → symbols_at (choice 0xa3 0xb3 form ∷ content form value ++ rest) ≡ Some (xs, rest)
unfolding symbols_at
single_again xs value rest Eight e s = rw (one_again Eight value rest s, e) refl
single_again xs value rest ThirtyTwo e s = rw (one_again ThirtyTwo value rest s, e) refl

many_again : (xs : List (List ℕ)) (rest : List ℕ) (form inner : Form) → AllByRecursion (IsElement inner) xs
    → length (array_body form inner xs) < limit form → length xs < limit form
    → symbols_at (choice 0xe0 0xf0 form ∷ content form (array_body form inner xs) ++ rest) ≡ Some (xs, rest)
unfolding symbols_at
many_again xs rest Eight inner each size count = array_again xs rest Eight inner each size count
many_again xs rest ThirtyTwo inner each size count = array_again xs rest ThirtyTwo inner each size count

-- symbols that are spelled, as an array or as one, are read back, whatever follows them
pub symbols_again : (xs : List (List ℕ)) (spelling rest : List ℕ) → SpellsField (Symbols xs) spelling
    → symbols_at (spelling ++ rest) ≡ Some (xs, rest)
symbols_again xs spelling rest (inl one) =
    rw one.2.1.whole (single_again xs one.0 rest one.2.1.form one.1 (one.2.0, one.2.1.fits))
symbols_again xs spelling rest (inr s) = rw s.whole (many_again xs rest s.form s.inner s.each s.size s.count)

code_of_again : (code : SaslCode) (rest : List ℕ) → code_at (0x50 ∷ outcome_code code ∷ rest) ≡ Some (code, rest)
unfolding code_at
code_of_again sasl_codes.Ok rest = refl
code_of_again sasl_codes.Auth rest = refl
code_of_again sasl_codes.Sys rest = refl
code_of_again sasl_codes.SysPerm rest = refl
code_of_again sasl_codes.SysTemp rest = refl

-- an outcome's code that is spelled is read back, whatever follows it
pub code_again : (code : SaslCode) (spelling rest : List ℕ) → SpellsField (Ubyte (outcome_code code)) spelling
    → code_at (spelling ++ rest) ≡ Some (code, rest)
code_again code spelling rest e = rw e (code_of_again code rest)
