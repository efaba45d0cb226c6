-- User names as SCRAM messages send them (RFC 5802, section 5.1, `saslname`).
use Rattle.std.specs.Prelude.{ℕ, List, [], ◌∷◌, ◌++◌, ◌==◌, if◌then◌else◌, codes, ◌≡◌, ◌≢◌}
use Rattle.std.specs.List.{AllByRecursion}

-- a byte as it is sent: a comma as `=2C`, an equals sign as `=3D`, any other unchanged (RFC 5802, section 5.1)
abbrev pub escaped_byte : ℕ → List ℕ
escaped_byte byte = if byte == 44 then codes "=2C" else (if byte == 61 then codes "=3D" else byte ∷ [])

-- the name as it is sent (RFC 5802, section 5.1)
unfoldable pub escaped : List ℕ → List ℕ
escaped [] = []
escaped (byte ∷ name) = escaped_byte byte ++ escaped name

-- no byte is an equals sign, so the text has no escape (RFC 5802, section 5.1)
abbrev pub NoEquals : List ℕ → Type 0
NoEquals text = AllByRecursion (λ byte. byte ≢ 61) text

-- the text is some name as it is sent (RFC 5802, section 5.1)
abbrev pub SpellsName : List ℕ → Type 0
SpellsName text = (name : List ℕ) × (escaped name ≡ text)
