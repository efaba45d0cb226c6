-- A password as its caller passes it (RFC 5802, section 2.2): as the user typed it, or prepared by the caller.
use Rattle.std.specs.Prelude.{ℕ, List}
use Rattle.fe2o3_scram.specs.declared.passwords.Password.{Password}
use Rattle.fe2o3_scram.specs.declared.passwords.Password.TheVariants as code
use Rattle.fe2o3_scram.specs.SaslprepAscii.{IsPrintable}

-- a password as it is typed, or its text after Normalize (RFC 5802, section 2.2)
pub data PasswordText : Type 0 where
  Typed : (text : List ℕ) → PasswordText
  Prepared : (text : List ℕ) → PasswordText

-- the password that the code's value is
abbrev pub password_of : Password → PasswordText
password_of (code.Typed text) = Typed text.now
password_of (code.Prepared text) = Prepared text.now

-- the bytes that keys are made of (RFC 5802, section 3)
abbrev pub password_bytes : PasswordText → List ℕ
password_bytes (Typed text) = text
password_bytes (Prepared text) = text

-- a password is in normal form (RFC 4013, section 2): a typed one if it is printable ASCII, which is prepared to
-- itself, and any prepared one
abbrev pub IsNormal : PasswordText → Type 0
IsNormal (Typed text) = IsPrintable text
IsNormal (Prepared text) = Unit {0}
