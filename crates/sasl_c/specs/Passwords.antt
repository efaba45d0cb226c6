-- A password as C passes it: its bytes, and the number of its form (RFC 5802, section 2.2).
use Rattle.std.specs.Prelude.{◌≡◌, ◌<◌, ℕ, List, [], ◌∷◌}
use Rattle.std.specs.Str.{IsUtf8}
use Rattle.fe2o3_scram.specs.Passwords.{PasswordText, Typed, Prepared}
use Rattle.sasl_c.specs.declared.status.Status.{Status}
use Rattle.sasl_c.specs.declared.status.Status.TheVariants as statuses

-- the password of these bytes: typed where the form is 0, prepared by the caller where it is 1
abbrev pub IsPassword : ℕ → List ℕ → PasswordText → Type 0
IsPassword form bytes (Typed text) = (form ≡ 0) × (text ≡ bytes)
IsPassword form bytes (Prepared text) = (form ≡ 1) × (text ≡ bytes)

-- the tests of a password, in their order
abbrev pub password_tests : ℕ → List ℕ → List (Status × Type 0)
password_tests form bytes = (statuses.NoSuchChoice, 1 < form) ∷ (statuses.NotUtf8, ¬ IsUtf8 bytes) ∷ []
