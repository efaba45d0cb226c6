-- What SASLprep leaves unchanged, if only ASCII is accepted (RFC 4013, section 2).
use Rattle.std.specs.Prelude.{ℕ, List, ◌≤◌, All}

-- each byte is printable ASCII, or a space (RFC 4013, section 2)
abbrev pub IsPrintable : List ℕ → Type 0
IsPrintable text = All (λ byte. (0x20 ≤ byte) × (byte ≤ 0x7e)) text
