-- The text of users with records of several versions: a line for each, of the version that its record names (RFC 5802,
-- section 5.1; RFC 5803, section 2).
use Rattle.std.specs.Prelude.{ℕ, List, Result}
use Rattle.fe2o3_scram.specs.declared.hmac.ScramVersion.{ScramVersion}
use Rattle.fe2o3_scram.specs.declared.credentials.record_lines.ReadLinesError.{ReadLinesError}
use Rattle.fe2o3_scram.specs.declared.credentials.record_lines.ReadLinesErrorKind.{ReadLinesErrorKind}
use Rattle.fe2o3_scram.specs.Credentials.{VersionedRecord}
use Rattle.fe2o3_scram.specs.Mixed.{MultiRecords, unversioned}
use Rattle.fe2o3_scram.specs.RecordLines.{HeadFault, IsLineReadable, IsWritable, ReadsLines, SpellsLines, UpTo, lines_text, user_line}

-- a user's line, without the line feed after it
abbrev pub mixed_line : List ℕ × VersionedRecord → List ℕ
mixed_line user = user_line user.1.version (unversioned user)

-- the users' text
abbrev pub mixed_text : MultiRecords → List ℕ
mixed_text users = lines_text mixed_line users

-- a user that a line can name
abbrev pub IsMixedReadable : List ℕ × VersionedRecord → Type 0
IsMixedReadable user = IsLineReadable user.1.version (unversioned user)

-- a user whose line is written
abbrev pub IsMixedWritable : List ℕ × VersionedRecord → Type 0
IsMixedWritable user = IsWritable user.1.version (unversioned user)

-- the text is that of these users, whose lines can be read
abbrev pub SpellsMixed : List ℕ → MultiRecords → Type 0
SpellsMixed text users = SpellsLines mixed_line IsMixedReadable text users

-- why no line is read at the start of a text, whatever the version: so never for the version
abbrev pub MixedFault : List ℕ → ReadLinesErrorKind → Type 0
MixedFault text kind = (version : ScramVersion) → HeadFault version text kind

-- the text spells users up to this line, counted from 1, and the rest of it begins so
abbrev pub UpToMixed : List ℕ → ℕ → (List ℕ → Type 0) → Type 0
UpToMixed text line Begins = UpTo mixed_line IsMixedReadable text line Begins

-- what a text spells: its users, or its first malformed line, and why
abbrev pub ReadsMixed : List ℕ → Result MultiRecords ReadLinesError → Type 0
ReadsMixed text answer = ReadsLines mixed_line IsMixedReadable MixedFault text answer
