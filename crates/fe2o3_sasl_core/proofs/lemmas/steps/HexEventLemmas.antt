-- Two texts spell an event exactly where both are read.
use Rattle.std.proofs.Common.{◌≡◌, ℕ, ◌*◌, ◌%◌, inl, inr, List, length, slice_index_or, true, sym, ap, ◌∙◌, Ok, Err, arith}
use Rattle.std.specs.Char.{is_ascii_hexdigit}
use Rattle.std.specs.List.{AllPass}
use Rattle.std.proofs.lemmas.Bool.{cases_eq}
use Rattle.hex.specs.Hex.{decode_of, decode_sized, is_hex_digit}
use Rattle.hex.specs.declared.error.FromHexError.{FromHexError}
use Rattle.hex.proofs.HexLemmas.{decode_of-digits, decode_of-ok, decode_sized-ok, decode_sized-twice}
use Rattle.fe2o3_sasl_core.specs.Events.{Given}
use Rattle.fe2o3_sasl_core.specs.Runs.{SpellsEvent}
use Rattle.fe2o3_sasl_core.proofs.lemmas.steps.HexTextLemmas.{spelled_is_read, read_is_spelled}

-- both are read
pub event_read : (nonce body bytes more : List ℕ) → Ok bytes ≡ decode_sized nonce 32 → decode_of body ≡ Ok more
    → SpellsEvent nonce body (record { body = more; nonce = bytes })
event_read nonce body bytes more is also =
    let twice : length nonce ≡ 2 * 32 = decode_sized-ok nonce 32 bytes (sym is) in
    let read : decode_of nonce ≡ Ok bytes = sym (decode_sized-twice nonce 32 twice) ∙ sym is in
    let len = (decode_of-ok nonce bytes read).2 in
    (omega (arith, twice, len), read_is_spelled nonce bytes read, read_is_spelled body more also)

-- the nonce is not
pub nonce_refused : (nonce body : List ℕ) (fault : FromHexError) → Err fault ≡ decode_sized nonce 32 → (event : Given)
    → ¬ SpellsEvent nonce body event
nonce_refused nonce body fault is event spells =
    let read = spelled_is_read nonce event.nonce spells.1 in
    let twice : length nonce ≡ 2 * 32 = (decode_of-ok nonce event.nonce read).2 ∙ ap (λ n. 2 * n) spells.0 in
    absurd (cc (is ∙ (decode_sized-twice nonce 32 twice ∙ read)))

-- the body is not
pub body_refused : (nonce body : List ℕ) (fault : FromHexError) → decode_of body ≡ Err fault → (event : Given)
    → ¬ SpellsEvent nonce body event
body_refused nonce body fault is event spells =
    absurd (cc (sym is ∙ spelled_is_read body event.body spells.2))

-- ---- digits

-- the two words for a digit are one
ascii_digit : (c : ℕ) → is_hex_digit c ≡ true → is_ascii_hexdigit c ≡ true
ascii_digit c h = grind (arith)

hex_digit : (c : ℕ) → is_ascii_hexdigit c ≡ true → is_hex_digit c ≡ true
hex_digit c h = grind (arith)

-- the body has another character
pub character_refused : (nonce body : List ℕ) → ¬ AllPass is_ascii_hexdigit body → (event : Given)
    → ¬ SpellsEvent nonce body event
character_refused nonce body other event spells =
    let read = spelled_is_read body event.body spells.2 in
    let digits = (decode_of-ok body event.body read).1 in
    other (λ k d lt. ascii_digit (slice_index_or body k d) (digits k d lt))

-- both are digits, and the body's are even
pub event_spelled : (nonce body bytes : List ℕ) → Ok bytes ≡ decode_sized nonce 32 → ¬ (length body % 2 ≡ 1)
    → AllPass is_ascii_hexdigit body → (event : Given) × SpellsEvent nonce body event
event_spelled nonce body bytes is odd digits =
    let all : AllPass is_hex_digit body = λ k d lt. hex_digit (slice_index_or body k d) (digits k d lt) in
    let even : length body % 2 ≡ 0 = elim (cases_eq (length body % 2) 1) [
      | inl one ↦ absurd (odd one)
      | inr other ↦ omega arith
    ] in
    let read = decode_of-digits body even all in
    (record { body = read.0; nonce = bytes }, event_read nonce body bytes read.0 is read.1)
