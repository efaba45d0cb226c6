-- SASLprep (RFC 4013), the profile of stringprep (RFC 3454) for user names and passwords, over lists of code points.
use Rattle.std.specs.Prelude.{◌≤◌, ℕ, Bool, false, not, ◌&&◌, ◌||◌, ◌-◌, List, [], ◌∷◌, ◌++◌, length, All, Option, Some, None, slice_get, if◌then◌else◌}
use Rattle.std.specs.List.{find, filter_map, list_any}
use Rattle.std.specs.Option.{option_map, option_or, option_map_or}
use Rattle.ucd_table.specs.Rows.{Range, in_ranges}
use Rattle.unicode_normalization.specs.Forms.{nfkc}
use Rattle.saslprep.specs.Tables.{a_1, b_1, c_1_2, c_2_1, c_2_2, c_3, c_4, c_5, c_6, c_7, c_8, c_9, d_1, d_2}
use Rattle.saslprep.specs.declared.error.SaslprepError.{SaslprepError}
use Rattle.saslprep.specs.declared.error.SaslprepError.TheVariants.{ProhibitedCharacter, MixedDirections, UnassignedCodePoint}
use Rattle.saslprep.specs.declared.Unassigned.{Unassigned}
use Rattle.saslprep.specs.declared.Unassigned.TheVariants.{Allowed, Refused}

-- RFC 4013, section 2.1: a space outside ASCII is mapped to a space, and a character that is commonly mapped to nothing
-- to nothing; U+200B, which is both, is a space
unfoldable pub mapping : ℕ → Option ℕ
mapping c = if in_ranges c_1_2 c then Some 0x20 else if in_ranges b_1 c then None else Some c

-- RFC 4013, sections 2.1 and 2.2: the text mapped, and normalized with form KC
unfoldable pub prepared : List ℕ → List ℕ
prepared cs = nfkc (filter_map mapping cs)

-- RFC 4013, section 2.3: the tables of prohibited output
abbrev pub prohibited_tables : List (List Range)
prohibited_tables = c_1_2 ∷ c_2_1 ∷ c_2_2 ∷ c_3 ∷ c_4 ∷ c_5 ∷ c_6 ∷ c_7 ∷ c_8 ∷ c_9 ∷ []

unfoldable pub is_prohibited : ℕ → Bool
is_prohibited c = list_any (λ table. in_ranges table c) prohibited_tables

-- RFC 4013, section 2.4: the characters that RFC 3454, section 6, names RandALCat and LCat
unfoldable pub is_right_to_left : ℕ → Bool
is_right_to_left = in_ranges d_1

unfoldable pub is_left_to_right : ℕ → Bool
is_left_to_right = in_ranges d_2

-- RFC 3454, section 6, the second and the third rule: a text with a RandALCat character has no LCat character,
-- and its first and its last character are RandALCat characters
unfoldable pub has_one_direction : List ℕ → Bool
has_one_direction cs =
    let at = λ (i : ℕ). option_map_or is_right_to_left (slice_get cs i) false in
    not (list_any is_right_to_left cs) || (not (list_any is_left_to_right cs) && (at 0 && at (length cs - 1)))

-- RFC 4013, section 2.5: the code points that Unicode 3.2 does not assign
unfoldable pub is_unassigned : ℕ → Bool
is_unassigned = in_ranges a_1

-- the first of these code points that is not assigned, if such code points are rejected
abbrev pub first_unassigned : Unassigned → List ℕ → Option ℕ
first_unassigned Allowed cs = None
first_unassigned Refused cs = find is_unassigned cs

-- why a text that is prepared to `out` is rejected, if it is: the rules in the RFC's order. Unassigned code points are
-- searched in the text as received and in its prepared form.
unfoldable pub refusal_of : Unassigned → List ℕ → List ℕ → Option SaslprepError
refusal_of unassigned cs out =
    let prohibited = option_map ProhibitedCharacter (find is_prohibited out) in
    let mixed = if has_one_direction out then None else Some MixedDirections in
    let unknown = option_map UnassignedCodePoint (first_unassigned unassigned (cs ++ out)) in
    option_or prohibited (option_or mixed unknown)

abbrev pub refusal : Unassigned → List ℕ → Option SaslprepError
refusal unassigned cs = refusal_of unassigned cs (prepared cs)

-- each byte is printable ASCII
abbrev pub IsPrintableText : List ℕ → Type 0
IsPrintableText bs = All (λ b. (0x20 ≤ b) × (b ≤ 0x7E)) bs
