-- Bytes in text, for events from outside: base16 (RFC 4648, section 8), with digits of either case.
use Rattle.std.specs.Prelude.{◌≡◌, ◌⊎◌, ◌+◌, ◌*◌, ℕ, List, [], ◌∷◌, Some, codes, slice_get}
use Rattle.hex.specs.Hex.{encode_lower, encode_upper, IsBytes}

-- the digit has this value, from 0 to 15
abbrev pub IsDigit : ℕ → ℕ → Type 0
IsDigit digit value = (slice_get (codes "0123456789abcdef") value ≡ Some digit)
    ⊎ (slice_get (codes "0123456789ABCDEF") value ≡ Some digit)

-- a byte in two digits, the first of them for the sixteens
pub record SpellsByte (first second byte : ℕ) : Type 0 where
  pub high : ℕ
  pub low : ℕ
  pub sixteens : IsDigit first high
  pub ones : IsDigit second low
  pub whole : byte ≡ high * 16 + low

-- the text spells the bytes, two digits each
abbrev pub SpellsHex : List ℕ → List ℕ → Type 0
SpellsHex text [] = text ≡ []
SpellsHex text (byte ∷ bytes) = (first : ℕ) × (second : ℕ) × (others : List ℕ) × (text ≡ first ∷ second ∷ others)
    × SpellsByte first second byte × SpellsHex others bytes

-- a text spells at most one list of bytes
abbrev pub OneBytesOfHex : Type 0
OneBytesOfHex = (text bytes others : List ℕ) → SpellsHex text bytes → SpellsHex text others → bytes ≡ others

-- each list of bytes is spelled in digits of either case
abbrev pub HexIsReadAgain : Type 0
HexIsReadAgain = (bytes : List ℕ) → IsBytes bytes
    → SpellsHex (encode_lower bytes) bytes × SpellsHex (encode_upper bytes) bytes
