-- The nonces of a login (RFC 5802, section 5.1).
use Rattle.std.specs.Prelude.{◌≡◌, ℕ, List, Option, None, Some, Ok}
use Rattle.hex.specs.Hex.{decode_of}

-- the nonce of an argument, in hexadecimal, or bytes that a random source gives
abbrev pub IsNonceFor : (List ℕ → Type 0) → Option (List ℕ) → List ℕ → Type 0
IsNonceFor Gives None nonce = Gives nonce
IsNonceFor Gives (Some digits) nonce = decode_of digits ≡ Ok nonce
