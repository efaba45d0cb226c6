-- What comes of preparing a text.
use Rattle.std.proofs.Common.{refl, sym, ap, ◌∙◌, ◌≡◌, ◌≢◌, ℕ, List}
use Rattle.std.specs.Prelude.{Some, None, Ok, Err, chars, encode_utf8_all}
use Rattle.std.specs.Str.{IsAscii, IsUtf8}
use Rattle.saslprep.specs.Saslprep.{IsPrintableText, prepared, refusal}
use Rattle.saslprep.specs.declared.Unassigned.{Unassigned}
use Rattle.saslprep.specs.declared.error.SaslprepError.{SaslprepError}
use Rattle.saslprep.specs.declared.error.SaslprepError.TheVariants as faults
use Rattle.sasl_c.specs.declared.status.Status.{Status}
use Rattle.sasl_c.specs.declared.status.Status.TheVariants as statuses
use Rattle.sasl_c.proofs.StatusLemmas.{carried}
use Rattle.sasl_c.specs.Saslprep.{PrepareAsks, PreparesTo, choice_number, saslprep_status}

pub no_choice : (number : ℕ) (text : List ℕ) → ((choice : Unassigned) → choice_number choice ≢ number)
    → PreparesTo number text (Err statuses.NoSuchChoice)
unfolding PreparesTo
no_choice number text none = none

pub no_text : (number : ℕ) (text : List ℕ) (choice : Unassigned) → choice_number choice ≡ number → ¬ IsUtf8 text
    → PreparesTo number text (Err statuses.NotUtf8)
unfolding PreparesTo
no_text number text choice is wrong = (choice, is, wrong)

pub accepts : (number : ℕ) (text given out : List ℕ) (choice : Unassigned) → choice_number choice ≡ number
    → given ≡ text → IsUtf8 text → refusal choice (chars given) ≡ None → out ≡ encode_utf8_all (prepared (chars given))
    → PreparesTo number text (Ok out)
unfolding PreparesTo
accepts number text given out choice is same utf8 none whole = (
  choice,
  is,
  (
    utf8,
    ap (λ (bytes : List ℕ). refusal choice (chars bytes)) (sym same) ∙ none,
    whole ∙ ap (λ (bytes : List ℕ). encode_utf8_all (prepared (chars bytes))) same,
  ),
)

pub refuses : (number : ℕ) (text given : List ℕ) (choice : Unassigned) (why : SaslprepError) (status : Status)
    → choice_number choice ≡ number → given ≡ text → IsUtf8 text
    → (why ≢ faults.OutOfMemory → refusal choice (chars given) ≡ Some why) → status ≡ saslprep_status why
    → status ≢ statuses.OutOfMemory → PreparesTo number text (Err status)
unfolding PreparesTo
refuses number text given choice faults.OutOfMemory status is same utf8 says gives other = absurd (other gives)
refuses number text given choice (faults.ProhibitedCharacter c) status is same utf8 says gives other =
    let told = ap (λ (bytes : List ℕ). refusal choice (chars bytes)) (sym same) ∙ says (λ odd. absurd (cc)) in
    rw gives (choice, is, (utf8, (faults.ProhibitedCharacter c, told, refl)))
refuses number text given choice faults.MixedDirections status is same utf8 says gives other =
    let told = ap (λ (bytes : List ℕ). refusal choice (chars bytes)) (sym same) ∙ says (λ odd. absurd (cc)) in
    rw gives (choice, is, (utf8, (faults.MixedDirections, told, refl)))
refuses number text given choice (faults.UnassignedCodePoint c) status is same utf8 says gives other =
    let told = ap (λ (bytes : List ℕ). refusal choice (chars bytes)) (sym same) ∙ says (λ odd. absurd (cc)) in
    rw gives (choice, is, (utf8, (faults.UnassignedCodePoint c, told, refl)))

-- memory is asked for where the text is not ASCII
pub asks : (number : ℕ) (text given : List ℕ) (choice : Unassigned) (why : SaslprepError) (status : Status)
    → choice_number choice ≡ number → given ≡ text → IsUtf8 text
    → (IsAscii given → ¬ IsPrintableText given × (why ≢ faults.OutOfMemory)) → status ≡ saslprep_status why
    → status ≡ statuses.OutOfMemory → PrepareAsks number text
asks number text given choice faults.OutOfMemory status is same utf8 ascii gives memory =
    ((choice, is), utf8, λ held. (ascii (carried IsAscii text given (sym same) held)).1 refl)
asks number text given choice (faults.ProhibitedCharacter c) status is same utf8 ascii gives memory = absurd (cc)
asks number text given choice faults.MixedDirections status is same utf8 ascii gives memory = absurd (cc)
asks number text given choice (faults.UnassignedCodePoint c) status is same utf8 ascii gives memory = absurd (cc)

pub ruleset prepares_to = (asks, no_choice, no_text, accepts, refuses)
