-- The number of an option of a command: the project's own spelling.
use Rattle.std.specs.Prelude.{◌≡◌, ◌<◌, ◌^◌, ℕ, List}
use Rattle.std.specs.Str.Parse.{IsNumeral, digits_value, without_leading_plus}

-- a text is a number of 32 bits, in decimal digits
abbrev pub IsNumber : List ℕ → Type 0
IsNumber text = IsNumeral 10 (without_leading_plus text) × (digits_value 10 (without_leading_plus text) < 2 ^ 32)

-- the number of an option: that of its text, or this one if the text is no number
abbrev pub IsCountOf : List ℕ → ℕ → ℕ → Type 0
IsCountOf text otherwise count = (IsNumber text → count ≡ digits_value 10 (without_leading_plus text))
    × (¬ IsNumber text → count ≡ otherwise)
