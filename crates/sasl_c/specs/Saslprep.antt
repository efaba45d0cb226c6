-- What a text is prepared to for C (RFC 4013).
use Rattle.std.specs.Prelude.{◌≡◌, ◌≢◌, ℕ, List, Some, None, Result, Ok, Err, chars, encode_utf8_all}
use Rattle.std.specs.Str.{IsAscii, IsUtf8}
use Rattle.saslprep.specs.Saslprep.{prepared, refusal}
use Rattle.saslprep.specs.declared.Unassigned.{Unassigned}
use Rattle.saslprep.specs.declared.Unassigned.TheVariants.{Allowed, Refused}
use Rattle.saslprep.specs.declared.error.SaslprepError.{SaslprepError}
use Rattle.saslprep.specs.declared.error.SaslprepError.TheVariants as faults
use Rattle.sasl_c.specs.declared.status.Status.{Status}
use Rattle.sasl_c.specs.declared.status.Status.TheVariants as statuses

-- the number of whether unassigned code points are allowed (RFC 3454, section 7): not in a text that is stored, but in one
-- that is only compared with stored ones
abbrev pub choice_number : Unassigned → ℕ
choice_number Refused = 0
choice_number Allowed = 1

-- why a text is rejected (RFC 4013, sections 2.3 to 2.5)
abbrev pub saslprep_status : SaslprepError → Status
saslprep_status (faults.ProhibitedCharacter c) = statuses.ProhibitedCharacter
saslprep_status faults.MixedDirections = statuses.MixedDirections
saslprep_status (faults.UnassignedCodePoint c) = statuses.UnassignedCodePoint
saslprep_status faults.OutOfMemory = statuses.OutOfMemory

-- a text is prepared (RFC 4013, section 2) by this choice: the prepared text, or the error of SASLprep; or the text is not
-- UTF-8
abbrev pub PreparesBy : Unassigned → List ℕ → Result (List ℕ) Status → Type 0
PreparesBy choice text (Ok out) = IsUtf8 text × (refusal choice (chars text) ≡ None)
    × (out ≡ encode_utf8_all (prepared (chars text)))
PreparesBy choice text (Err statuses.NotUtf8) = ¬ IsUtf8 text
PreparesBy choice text (Err status) = IsUtf8 text
    × ((why : SaslprepError) × (refusal choice (chars text) ≡ Some why) × (status ≡ saslprep_status why))

-- memory is requested to prepare a text: the number is that of a choice, and the text is UTF-8 and not ASCII
abbrev pub PrepareAsks : ℕ → List ℕ → Type 0
PrepareAsks number text = ((choice : Unassigned) × (choice_number choice ≡ number)) × IsUtf8 text × ¬ IsAscii text

-- and by the choice of this number, if there is one
unfoldable pub PreparesTo : ℕ → List ℕ → Result (List ℕ) Status → Type 0
PreparesTo number text (Err statuses.NoSuchChoice) = (choice : Unassigned) → choice_number choice ≢ number
PreparesTo number text answer = (choice : Unassigned) × (choice_number choice ≡ number) × PreparesBy choice text answer
