-- A body: four bytes, and then a described list.
use Rattle.std.proofs.Common.{◌≡◌, ℕ, ◌+◌, ◌-◌, ◌<◌, ◌≤◌, Bool, true, false, ltb, eqb, List, [], ◌∷◌, ◌++◌, length, take, drop, get_or, Option, Some, None, Result, Ok, Err, refl, sym, ap, ◌∙◌, arith}
use Rattle.std.proofs.lemmas.List.{take_at, take-append-drop, length-append, length-take, length-drop}
use Rattle.std.proofs.lemmas.Bool.{lt-ltb, le-ltb, ne_eqb, ltb-true, ltb-false, eqb-true, eqb-false}
use Rattle.fe2o3_sasl_wire.specs.declared.sasl_frames.error.Error.{Error}
use Rattle.fe2o3_sasl_wire.specs.declared.sasl_frames.error.Error.TheVariants as faults
use Rattle.fe2o3_sasl_wire.specs.SaslFrames.{IsBytes, SaslFrame, Begins, fault_of, ReadsBody, RefusesBody}
use Rattle.fe2o3_sasl_wire.specs.private.Reading.{value_at}
use Rattle.fe2o3_sasl_wire.proofs.lemmas.reading.StepLemmas.{IsBytes-drop}
use Rattle.fe2o3_sasl_wire.proofs.lemmas.reading.ReadFramesAreSpelledLemmas.{value_takes}
use Rattle.fe2o3_sasl_wire.proofs.lemmas.reading.SpelledFramesAreReadLemmas.{value_again}
use Rattle.fe2o3_sasl_wire.proofs.lemmas.frames.PrefixLemmas.{no_spelling_begins_another}
use Rattle.fe2o3_sasl_wire.proofs.lemmas.frames.ValueLemmas.{value_of, spelled_value, spells_with}

-- four bytes precede the value, and they are those of a SASL frame
pub record StartsSoundly (bytes : List ℕ) : Type 0 where
  pub long : 4 ≤ length bytes
  pub kind : get_or bytes 1 0 ≡ 1
  pub offset : get_or bytes 0 0 ≡ 2

-- what is read after a sound start is spelled by the bytes before the rest
pub begins_read : (bytes : List ℕ) (frame : SaslFrame) (rest : List ℕ) → IsBytes bytes → StartsSoundly bytes
    → value_at (drop 4 bytes) ≡ Some (frame, rest) → Begins bytes frame (length bytes - length rest)
begins_read [] frame rest fits start read = absurd (omega (arith, start.long))
begins_read (a ∷ []) frame rest fits start read = absurd (omega (arith, start.long))
begins_read (a ∷ b ∷ []) frame rest fits start read = absurd (omega (arith, start.long))
begins_read (a ∷ b ∷ x ∷ []) frame rest fits start read = absurd (omega (arith, start.long))
begins_read (a ∷ b ∷ x ∷ y ∷ bytes) frame rest fits start read =
    let body : List ℕ = a ∷ b ∷ x ∷ y ∷ bytes in
    let value = value_takes bytes (frame, rest) (IsBytes-drop 4 body fits) read in
    let front : List ℕ = 2 ∷ 1 ∷ x ∷ y ∷ value.front in
    let whole : body ≡ front ++ rest =
    ap (λ (n : ℕ). n ∷ b ∷ x ∷ y ∷ bytes) start.offset ∙ ap (λ (n : ℕ). 2 ∷ n ∷ x ∷ y ∷ bytes) start.kind
    ∙ ap (λ (others : List ℕ). 2 ∷ 1 ∷ x ∷ y ∷ others) value.parts in
    let len : length body ≡ length front + length rest = ap length whole ∙ length-append front rest in
    let n = length body - length rest in
    let here : take n body ≡ front = ap (take n) whole ∙ take_at front rest n (omega (arith, len)) in
    record {
      within = omega (arith, len);
      spelled = spells_with frame x y value.front (take n body) value.spelled here;
    }

-- the rest lies within the bytes
pub rest_within : (bytes : List ℕ) (frame : SaslFrame) (rest : List ℕ) → IsBytes bytes → 4 ≤ length bytes
    → value_at (drop 4 bytes) ≡ Some (frame, rest) → length rest ≤ length bytes
rest_within bytes frame rest fits long read =
    let value = value_takes (drop 4 bytes) (frame, rest) (IsBytes-drop 4 bytes fits) read in
    omega (arith, ap length value.parts, length-append value.front rest, length-drop 4 bytes)

-- what a beginning spells is read after a sound start
pub record ReadBack (bytes : List ℕ) (frame : SaslFrame) : Type 0 where
  pub start : StartsSoundly bytes
  pub rest : List ℕ
  pub read : value_at (drop 4 bytes) ≡ Some (frame, rest)

read_back : (bytes : List ℕ) (frame : SaslFrame) (n : ℕ) → Begins bytes frame n → ReadBack bytes frame
read_back bytes frame n begins =
    let spelled = begins.spelled in
    let rest = drop n bytes in
    let value = value_of frame (take n bytes) spelled in
    let whole : bytes ≡ 2 ∷ 1 ∷ spelled.third ∷ spelled.fourth ∷ (value ++ rest) =
    sym (take-append-drop n bytes) ∙ ap (λ (front : List ℕ). front ++ rest) spelled.whole in
    record {
      start = record {
        long = rw whole (omega arith);
        kind = ap (λ (body : List ℕ). get_or body 1 0) whole;
        offset = ap (λ (body : List ℕ). get_or body 0 0) whole;
      };
      rest = rest;
      read =
          ap (λ (body : List ℕ). value_at (drop 4 body)) whole
          ∙ value_again frame value rest (spelled_value frame (take n bytes) spelled);
    }

is_none : {A : Type 0} {o : Option A} {x : A} → o ≡ None → o ≡ Some x → ⊥
is_none p q = cc

-- ---- the four errors, in order

-- fewer than four bytes are a DecodeError
pub refuses_short : (bytes : List ℕ) → length bytes < 4 → ReadsBody bytes (Err faults.DecodeError)
unfolding fault_of
refuses_short bytes short =
    (rw (lt-ltb _ _ short) refl, λ frame n begins. omega (arith, (read_back bytes frame n begins).start.long))

-- a frame of another type than that of SASL is NotImplemented
pub refuses_type : (bytes : List ℕ) → 4 ≤ length bytes → (get_or bytes 1 0 ≡ 1 → ⊥)
    → ReadsBody bytes (Err faults.NotImplemented)
unfolding fault_of
refuses_type bytes long other =
    (rw (le-ltb _ _ long, ne_eqb _ _ other) refl, λ frame n begins. other (read_back bytes frame n begins).start.kind)

-- a SASL frame with another data offset than 2 is NotImplemented
pub refuses_offset : (bytes : List ℕ) → 4 ≤ length bytes → get_or bytes 1 0 ≡ 1 → (get_or bytes 0 0 ≡ 2 → ⊥)
    → ReadsBody bytes (Err faults.NotImplemented)
unfolding fault_of
refuses_offset bytes long kind other = (
  rw (le-ltb _ _ long, kind, ne_eqb _ _ other) refl,
  λ frame n begins. other (read_back bytes frame n begins).start.offset,
)

-- a sound start with no value after it is a DecodeError
pub refuses_value : (bytes : List ℕ) → StartsSoundly bytes → value_at (drop 4 bytes) ≡ None
    → ReadsBody bytes (Err faults.DecodeError)
unfolding fault_of
refuses_value bytes start none = (
  rw (le-ltb _ _ start.long, start.kind, start.offset) refl,
  λ frame n begins. is_none none (read_back bytes frame n begins).read,
)

-- ---- one answer

-- two beginnings that spell frames are one
pub begins_once : (bytes : List ℕ) (frame other : SaslFrame) (m n : ℕ) → Begins bytes frame m → Begins bytes other n
    → (frame ≡ other) × (m ≡ n)
begins_once bytes frame other m n f s =
    let same : take m bytes ++ drop m bytes ≡ take n bytes ++ drop n bytes =
    take-append-drop m bytes ∙ sym (take-append-drop n bytes) in
    let one =
    no_spelling_begins_another frame other (take m bytes) (take n bytes) (drop m bytes)
    (drop n bytes) f.spelled s.spelled same in
    let len = ap length one.1 in
    (one.0, omega (arith, len, length-take m bytes, length-take n bytes, f.within, s.within))

abbrev answer_with : SaslFrame → ℕ → SaslFrame × ℕ
answer_with frame n = (frame, n)

-- two answers to one body are the same answer
pub one_answer : (bytes : List ℕ) (left right : Result (SaslFrame × ℕ) Error) → ReadsBody bytes left
    → ReadsBody bytes right → left ≡ right
one_answer bytes (Ok x) (Ok y) f s =
    let same = begins_once bytes x.0 y.0 x.1 y.1 f s in
    ap (λ (frame : SaslFrame). Ok (answer_with frame x.1)) same.0 ∙ ap (λ (n : ℕ). Ok (answer_with y.0 n)) same.1
one_answer bytes (Ok x) (Err e) f s = absurd (s.1 x.0 x.1 f)
one_answer bytes (Err e) (Ok y) f s = absurd (f.1 y.0 y.1 s)
one_answer bytes (Err e) (Err d) f s = ap (λ (fault : Error). Err fault) (f.0 ∙ sym s.0)

abbrev Answered : List ℕ → Type 0
Answered bytes = (answer : Result (SaslFrame × ℕ) Error) × ReadsBody bytes answer

answered_value : (bytes : List ℕ) (read : Option (SaslFrame × List ℕ)) → IsBytes bytes → StartsSoundly bytes
    → value_at (drop 4 bytes) ≡ read → Answered bytes
answered_value bytes (Some x) fits start read =
    (Ok (x.0, length bytes - length x.1), begins_read bytes x.0 x.1 fits start read)
answered_value bytes None fits start read = (Err faults.DecodeError, refuses_value bytes start read)

answered_offset : (bytes : List ℕ) (offset : Bool) → IsBytes bytes → 4 ≤ length bytes → get_or bytes 1 0 ≡ 1
    → eqb (get_or bytes 0 0) 2 ≡ offset → Answered bytes
answered_offset bytes true fits long kind test =
    let start : StartsSoundly bytes = record {
      long = long;
      kind = kind;
      offset = eqb-true (get_or bytes 0 0) 2 test;
    } in
    answered_value bytes (value_at (drop 4 bytes)) fits start refl
answered_offset bytes false fits long kind test =
    (Err faults.NotImplemented, refuses_offset bytes long kind (eqb-false (get_or bytes 0 0) 2 test))

answered_type : (bytes : List ℕ) (kind : Bool) → IsBytes bytes → 4 ≤ length bytes → eqb (get_or bytes 1 0) 1 ≡ kind
    → Answered bytes
answered_type bytes true fits long test =
    answered_offset bytes (eqb (get_or bytes 0 0) 2) fits long (eqb-true (get_or bytes 1 0) 1 test) refl
answered_type bytes false fits long test =
    (Err faults.NotImplemented, refuses_type bytes long (eqb-false (get_or bytes 1 0) 1 test))

answered_length : (bytes : List ℕ) (short : Bool) → IsBytes bytes → ltb (length bytes) 4 ≡ short → Answered bytes
answered_length bytes true fits e = (Err faults.DecodeError, refuses_short bytes (ltb-true (length bytes) 4 e))
answered_length bytes false fits e =
    answered_type bytes (eqb (get_or bytes 1 0) 1) fits (ltb-false (length bytes) 4 e) refl

-- each list of bytes has an answer
pub some_answer : (bytes : List ℕ) → IsBytes bytes → Answered bytes
some_answer bytes fits = answered_length bytes (ltb (length bytes) 4) fits refl

-- a fault of a body is why it is not decoded
pub refused_body : (bytes : List ℕ) (fault : Error) → ReadsBody bytes (Err fault) → (fault ≡ faults.OutOfMemory → ⊥)
    → RefusesBody bytes fault
refused_body bytes faults.DecodeError reads ne = reads
refused_body bytes faults.NotImplemented reads ne = reads
refused_body bytes faults.TooLarge reads ne = reads
refused_body bytes faults.OutOfMemory reads ne = absurd (ne refl)
