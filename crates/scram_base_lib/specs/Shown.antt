-- A name as the program prints it: one word of a shell (POSIX.1-2024, Shell Command Language, section 2.2.4,
-- dollar-single-quotes), with nothing that moves a terminal's cursor.
use Rattle.std.specs.Prelude.{ℕ, ◌+◌, ◌/◌, ◌%◌, ◌==◌, ◌&&◌, ◌||◌, not, nat_le, Bool, if◌then◌else◌, List, [], ◌∷◌, ◌++◌, codes, flat_map}
use Rattle.std.specs.List.{list_all}

-- a byte that a shell takes as it is: a letter or digit of ASCII, or one of `-./@_`
abbrev pub is_bare : ℕ → Bool
is_bare byte = (nat_le 48 byte && nat_le byte 57) || (nat_le 65 byte && nat_le byte 90)
    || (nat_le 97 byte && nat_le byte 122) || (nat_le 45 byte && nat_le byte 47) || byte == 64 || byte == 95

-- a byte between `$'` and `'`: itself if it is printable ASCII other than `'` and `\`, otherwise `\` and three octal digits
abbrev pub quoted_byte : ℕ → List ℕ
quoted_byte byte = if nat_le 32 byte && nat_le byte 126 && not (byte == 39) && not (byte == 92)
    then byte ∷ []
    else 92 ∷ (48 + byte / 64) ∷ (48 + byte / 8 % 8) ∷ (48 + byte % 8) ∷ []

-- the name as the program prints it: as it is if it is not empty and each byte of it is bare, otherwise between `$'` and `'`
abbrev pub shown_as : List ℕ → List ℕ
shown_as [] = codes "$''"
shown_as (byte ∷ name) = if list_all is_bare (byte ∷ name) then byte ∷ name
    else codes "$'" ++ (flat_map quoted_byte (byte ∷ name) ++ codes "'")
