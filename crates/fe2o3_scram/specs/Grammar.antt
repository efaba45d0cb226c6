-- Pieces of the grammar of RFC 5802, section 7, that only a strict side tests. A text is a list of bytes.
use Rattle.std.specs.Prelude.{ℕ, List, ◌∷◌, ◌≡◌, ◌≤◌, codes, length, Bool, false, ◌&&◌, not, nat_eq, nat_lt}
use Rattle.std.specs.Char.{is_ascii_alphabetic, is_ascii_graphic}
use Rattle.std.specs.List.{list_all, list_any}
use Rattle.fe2o3_scram.specs.Texts.{Part}

-- `value`, of a text without commas: one or more characters, none of which is NUL. A user name, unescaped, is one
-- (`saslname`)
abbrev pub is_value : List ℕ → Bool
is_value text = nat_lt 0 (length text) && not (list_any (nat_eq 0) text)

-- `printable`: ASCII from 0x21 to 0x7E, but for the comma
abbrev pub is_printable : ℕ → Bool
is_printable byte = is_ascii_graphic byte && not (nat_eq byte 44)

-- one or more printable characters: each side's part of the nonce (`c-nonce`, `s-nonce`)
abbrev pub is_nonce : List ℕ → Bool
is_nonce text = nat_lt 0 (length text) && list_all is_printable text

-- a letter by which section 5.1 defines no attribute
abbrev pub is_free_letter : ℕ → Bool
is_free_letter letter = is_ascii_alphabetic letter && not (list_any (nat_eq letter) (codes "anmrcsipve"))

-- `attr-val` of an attribute that RFC 5802 does not define: such a letter, an equals sign, and a value
abbrev pub is_extension : List ℕ → Bool
is_extension (letter ∷ sign ∷ value) = nat_eq sign 61 && (is_free_letter letter && is_value value)
is_extension part = false

-- the text has a part at place k or later, counted from 0, that is no such attribute
abbrev pub HasMisplacedFrom : ℕ → List ℕ → Type 0
HasMisplacedFrom k text = (j : ℕ) × (part : List ℕ) × (k ≤ j) × Part text j part × (is_extension part ≡ false)
