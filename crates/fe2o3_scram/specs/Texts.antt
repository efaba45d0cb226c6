-- The pieces of SCRAM texts: parts between commas and iteration counts (RFC 5802, section 5.1), and base64 with padding
-- (RFC 4648, section 4). A text is a list of bytes.
use Rattle.std.specs.Prelude.{ℕ, List, [], ◌∷◌, ◌++◌, ◌≡◌, ◌≢◌, ◌<◌, length, slice_get, Some, true, codes, ◌⊎◌, ◌≤◌, ◌^◌}
use Rattle.std.specs.Fmt.{decimal}
use Rattle.std.specs.List.{AllByRecursion, join_with_byte}
use Rattle.base64.specs.Rfc4648.{encode}
use Rattle.base64.specs.GeneralPurpose.{IsBytes}
use Rattle.std.specs.Str.Parse.{IsNumeral, digits_value}

-- no byte is a comma
abbrev pub NoComma : List ℕ → Type 0
NoComma text = AllByRecursion (λ byte. byte ≢ 44) text

-- the parts with single commas between them
abbrev pub joined : List (List ℕ) → List ℕ
joined parts = join_with_byte 44 parts

-- the text is these parts, of which no one holds a comma, with single commas between them (RFC 5802, section 5.1);
-- the empty text is one empty part
pub record Parts (text : List ℕ) (parts : List (List ℕ)) : Type 0 where
  pub some : 0 < length parts
  pub apart : AllByRecursion NoComma parts
  pub whole : joined parts ≡ text

-- the text has this part at place k, counted from 0 (RFC 5802, section 5.1)
abbrev pub Part : List ℕ → ℕ → List ℕ → Type 0
Part text k part = (parts : List (List ℕ)) × Parts text parts × (slice_get parts k ≡ Some part)

-- the text has several parts, this one is the last, and this is the text before its comma (RFC 5802, section 7)
abbrev pub LastPart : List ℕ → List ℕ → List ℕ → Type 0
LastPart text before part = NoComma part × (text ≡ joined (before ∷ part ∷ []))

-- the text begins with the prefix
abbrev pub StartsWith : List ℕ → List ℕ → Type 0
StartsWith text prefix = (rest : List ℕ) × (text ≡ prefix ++ rest)

-- the 64 base64 symbols, in the order of their values (RFC 4648, table 1)
abbrev pub alphabet : List ℕ
alphabet = codes "ABCDEFGHIJKLMNOPQRSTUVWXYZabcdefghijklmnopqrstuvwxyz0123456789+/"

-- the canonical base64 of the bytes: a symbol for each six bits, and `=` up to a multiple of four (RFC 4648, section 4)
unfoldable pub base64_text : List ℕ → List ℕ
base64_text bytes = encode alphabet 61 true bytes

-- the text spells these bytes (RFC 4648, section 4)
abbrev pub IsBase64 : List ℕ → List ℕ → Type 0
IsBase64 text bytes = IsBytes bytes × (text ≡ base64_text bytes)

-- the text has, at place k, this label and these bytes in base64 (RFC 5802, section 5.1)
abbrev pub HasBase64 : List ℕ → ℕ → List ℕ → List ℕ → Type 0
HasBase64 text k label bytes = IsBytes bytes × Part text k (label ++ base64_text bytes)

-- the text is one or more decimal digits, with or without a plus before them, whose value is this count, from 1 to
-- 4294967295 (RFC 5802, section 7, `posit-number`)
abbrev pub IsCount : List ℕ → ℕ → Type 0
IsCount text count = (digits : List ℕ) × ((text ≡ digits) ⊎ (text ≡ 43 ∷ digits)) × IsNumeral 10 digits
    × (count ≡ digits_value 10 digits) × (1 ≤ count) × (count < 2 ^ 32)

-- the byte does not occur in the text
abbrev pub Without : ℕ → List ℕ → Type 0
Without byte text = AllByRecursion (λ other. other ≢ byte) text

-- the text is split at the first of these bytes
abbrev pub Cut : ℕ → List ℕ → List ℕ → List ℕ → Type 0
Cut byte text before rest = Without byte before × (text ≡ before ++ byte ∷ rest)

-- the text is this count in decimal, from 1 to 4294967295, without a sign or leading zeros (RFC 5803, section 2)
abbrev pub IsPlainCount : List ℕ → ℕ → Type 0
IsPlainCount text count = (text ≡ decimal count) × (1 ≤ count) × (count < 2 ^ 32)
