-- Texts that are tested, as the answers of tests.
use Rattle.std.proofs.Common.{◌≡◌, ℕ, zero, suc, Bool, true, false, cond, ltb, List, [], ◌∷◌, Some, None, Result, Ok, Err, refl, sym, ap, ◌∙◌, arith, option_map}
use Rattle.std.specs.Prelude.{MatchResult, MatchBool, IfSome, IsUtf8, IsAscii}
use Rattle.std.specs.Str.{is_utf8, IsNotAscii}
use Rattle.std.specs.Result.{result_ok}
use Rattle.std.specs.Borrow.{Bor}
use Rattle.std.proofs.lemmas.Bool.{ltb-true, lt-ltb, and_parts, and_from, false_from_ne_true, cond-true, cond-false}
use Rattle.std.proofs.lemmas.Str.{IsUtf8-from_is_utf8, is_utf8-from_IsUtf8, IsUtf8-from_ascii}
use Rattle.fe2o3_sasl_wire.specs.private.Reading.{is_ascii}

-- the conversion gives a text exactly where the test for UTF-8 passes
pub shows_utf8 : {E : Type 0} (answer : Result (Bor (List ℕ)) E) (bytes : List ℕ) (Q : E → Type 0)
    → MatchResult answer (λ s. (s.now ≡ bytes) × IsUtf8 bytes) (λ e. (¬ (IsUtf8 bytes)) × Q e)
    → option_map (λ x. x.now) (result_ok answer) ≡ cond (is_utf8 bytes) (Some bytes) None
shows_utf8 (Ok s) bytes Q h =
    ap Some h.0 ∙ sym (cond-true (is_utf8 bytes) (Some bytes) None (is_utf8-from_IsUtf8 bytes h.1))
shows_utf8 (Err e) bytes Q h =
    sym (cond-false (is_utf8 bytes) (Some bytes) None
    (false_from_ne_true (is_utf8 bytes) (λ t. h.0 (IsUtf8-from_is_utf8 bytes t))))

-- bytes that pass the test are ASCII
pub IsAscii-from_is_ascii : (bytes : List ℕ) → is_ascii bytes ≡ true → IsAscii bytes
IsAscii-from_is_ascii [] h i = omega arith
IsAscii-from_is_ascii (x ∷ bytes) h zero = ltb-true x 128 (and_parts (ltb x 128) (is_ascii bytes) h).0
IsAscii-from_is_ascii (x ∷ bytes) h (suc i) = IsAscii-from_is_ascii bytes (and_parts (ltb x 128) (is_ascii bytes) h).1 i

-- bytes that are ASCII pass the test
pub is_ascii-from_IsAscii : (bytes : List ℕ) → IsAscii bytes → is_ascii bytes ≡ true
is_ascii-from_IsAscii [] h = refl
is_ascii-from_IsAscii (x ∷ bytes) h =
    and_from (ltb x 128) (is_ascii bytes) (lt-ltb x 128 (h 0)) (is_ascii-from_IsAscii bytes (λ i. h (suc i)))

-- of bytes that are ASCII the conversion gives the text, where the test for ASCII passes
pub shows_ascii : {E : Type 0} (answer : Result (Bor (List ℕ)) E) (bytes : List ℕ) (Q : E → Type 0) → IsAscii bytes
    → MatchResult answer (λ s. (s.now ≡ bytes) × IsUtf8 bytes) (λ e. (¬ (IsUtf8 bytes)) × Q e)
    → option_map (λ x. x.now) (result_ok answer) ≡ cond (is_ascii bytes) (Some bytes) None
shows_ascii (Ok s) bytes Q a h =
    ap Some h.0 ∙ sym (cond-true (is_ascii bytes) (Some bytes) None (is_ascii-from_IsAscii bytes a))
shows_ascii (Err e) bytes Q a h = absurd (h.0 (IsUtf8-from_ascii bytes a))

-- of bytes that are not ASCII the test gives nothing
pub shows_none : (bytes : List ℕ) → IsNotAscii bytes → cond (is_ascii bytes) (Some bytes) None ≡ None
shows_none bytes n =
    cond-false (is_ascii bytes) (Some bytes) None
    (false_from_ne_true (is_ascii bytes) (λ t. let a = IsAscii-from_is_ascii bytes t in omega (arith, a n.0, n.1)))

-- the text of bytes that are ASCII is ASCII
pub shown_ascii : {E : Type 0} (answer : Result (Bor (List ℕ)) E) (bytes : List ℕ) (Q : E → Type 0) → IsAscii bytes
    → MatchResult answer (λ s. (s.now ≡ bytes) × IsUtf8 bytes) (λ e. (¬ (IsUtf8 bytes)) × Q e)
    → IfSome (result_ok answer) (λ x. IsAscii x.now)
shown_ascii (Ok s) bytes Q a h = rw h.0 a
shown_ascii (Err e) bytes Q a h = tt

-- whether bytes are ASCII is the answer of the test
pub tells_ascii : (answer : Bool) (bytes : List ℕ) → MatchBool answer (IsAscii bytes) (IsNotAscii bytes)
    → answer ≡ is_ascii bytes
tells_ascii true bytes a = sym (is_ascii-from_IsAscii bytes a)
tells_ascii false bytes n =
    sym (false_from_ne_true (is_ascii bytes) (λ t. let a = IsAscii-from_is_ascii bytes t in omega (arith, a n.0, n.1)))
