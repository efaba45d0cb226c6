-- What the file of the secret of mock authentication has to be: the project's own (docs/SECURITY.md).
use Rattle.std.specs.Prelude.{◌≡◌, ◌≢◌, ◌%◌, ℕ, List, Option, IfSome, length}
use Rattle.std.specs.Fs.{IsFile, file_type, metadata_mode}
use Rattle.std.specs.declared.fs.attrs.Metadata.{Metadata}
use Rattle.mock_secret.specs.declared.SecretError.{SecretError}
use Rattle.mock_secret.specs.declared.SecretError.TheVariants as errors

-- the mode gives group and others nothing: its last six bits are zero
abbrev pub IsPrivate : Metadata → Type 0
IsPrivate metadata = metadata_mode metadata % 64 ≡ 0

-- a file with this metadata, from which this number of bytes was read, holds a secret
abbrev pub HoldsSecret : Metadata → ℕ → Type 0
HoldsSecret metadata len = IsFile (file_type metadata) × IsPrivate metadata × (len ≡ 32)

-- the first of these that does not hold
abbrev pub IsFirstFault : Metadata → ℕ → SecretError → Type 0
IsFirstFault metadata len errors.NotRegular = ¬ IsFile (file_type metadata)
IsFirstFault metadata len errors.NotPrivate = IsFile (file_type metadata) × ¬ IsPrivate metadata
IsFirstFault metadata len errors.WrongLength = IsFile (file_type metadata) × IsPrivate metadata × (len ≢ 32)
IsFirstFault metadata len other = ⊥

-- a secret is all that a file holds, if the file says what it holds (std's `remaining`): 32 bytes
abbrev pub IsAllOf : Option (List ℕ) → List ℕ → Type 0
IsAllOf held secret = (length secret ≡ 32) × IfSome held (λ bytes. secret ≡ bytes)

-- a secret was read from some open file
abbrev pub IsRead : {F : Type 0} → (F → Option (List ℕ)) → List ℕ → Type 0
IsRead {F} remaining secret = (file : F) × IsAllOf (remaining file) secret
