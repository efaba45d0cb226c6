-- The text of several users: a line for each, with the name as SCRAM sends it (RFC 5802, section 5.1), a space, and
-- the text of the record (RFC 5803, section 2).
use Rattle.std.specs.Prelude.{ℕ, List, [], ◌∷◌, ◌++◌, ◌≡◌, ◌≢◌, ◌≤◌, ◌+◌, length, Result, Ok, Err}
use Rattle.std.specs.List.{AllByRecursion}
use Rattle.fe2o3_scram.specs.declared.hmac.ScramVersion.{ScramVersion}
use Rattle.fe2o3_scram.specs.declared.credentials.record_lines.ReadLinesError.{ReadLinesError}
use Rattle.fe2o3_scram.specs.declared.credentials.record_lines.ReadLinesErrorKind.{ReadLinesErrorKind}
use Rattle.fe2o3_scram.specs.declared.credentials.record_lines.ReadLinesErrorKind.TheVariants.{LineFeedMissing, SpaceMissing, InvalidName, InvalidRecord, VersionMismatch}
use Rattle.fe2o3_scram.specs.Credentials.{Record, Records, VersionedRecord}
use Rattle.fe2o3_scram.specs.Escape.{escaped}
use Rattle.fe2o3_scram.specs.Hmac.{digest_len}
use Rattle.fe2o3_scram.specs.RecordText.{IsReadable, ReadsRecord, record_text}
use Rattle.fe2o3_scram.specs.Texts.{Cut, NoComma, Without}

-- the text is cut at the last of these bytes
abbrev pub LastCut : ℕ → List ℕ → List ℕ → List ℕ → Type 0
LastCut byte text before rest = Without byte rest × (text ≡ before ++ byte ∷ rest)

-- a user's record, with the version
abbrev pub record_of_user : ScramVersion → List ℕ × Record → VersionedRecord
record_of_user version user = record { version = version; stored = user.1 }

-- a user's line, without the line feed after it
abbrev pub user_line : ScramVersion → List ℕ × Record → List ℕ
user_line version user = escaped user.0 ++ 32 ∷ record_text (record_of_user version user)

-- the text of users with these lines: each line followed by a line feed
abbrev pub lines_text : {U : Type 0} → (U → List ℕ) → List U → List ℕ
lines_text line_of [] = []
lines_text line_of (user ∷ users) = line_of user ++ 10 ∷ lines_text line_of users

-- the users' text, for records of this version
abbrev pub users_text : ScramVersion → Records → List ℕ
users_text version users = lines_text (user_line version) users

-- a line can name the user: the name has no line feed, and the record's text is read as the record
abbrev pub IsLineReadable : ScramVersion → List ℕ × Record → Type 0
IsLineReadable version user = Without 10 user.0 × IsReadable (record_of_user version user)

-- the text is that of these users, whose lines can be read
abbrev pub SpellsLines : {U : Type 0} → (U → List ℕ) → (U → Type 0) → List ℕ → List U → Type 0
SpellsLines line_of IsRead text users = AllByRecursion IsRead users × (text ≡ lines_text line_of users)

-- the text is that of these users, with records of this version
abbrev pub SpellsUsers : ScramVersion → List ℕ → Records → Type 0
SpellsUsers version text users = SpellsLines (user_line version) (IsLineReadable version) text users

-- why a line with a space is not read: its name, otherwise its record, otherwise the record's version
abbrev pub UserFault : ScramVersion → List ℕ → List ℕ → ReadLinesErrorKind → Type 0
UserFault version name kept InvalidName = (plain : List ℕ) → escaped plain ≢ name
UserFault version name kept (InvalidRecord fault) =
    ((plain : List ℕ) × (escaped plain ≡ name)) × ReadsRecord kept (Err fault)
UserFault version name kept VersionMismatch = ((plain : List ℕ) × (escaped plain ≡ name))
    × ((read : VersionedRecord) × ReadsRecord kept (Ok read) × (read.version ≢ version))
UserFault version name kept kind = ⊥

-- why a line is not read; its last space follows the name, since a record's text has none
abbrev pub LineFault : ScramVersion → List ℕ → ReadLinesErrorKind → Type 0
LineFault version line SpaceMissing = Without 32 line
LineFault version line kind =
    (name : List ℕ) × (kept : List ℕ) × LastCut 32 line name kept × UserFault version name kept kind

-- why no line is read at the start of a text: the text is not empty and has no line feed, or its first line's error
abbrev pub HeadFault : ScramVersion → List ℕ → ReadLinesErrorKind → Type 0
HeadFault version text LineFeedMissing = (text ≢ []) × Without 10 text
HeadFault version text kind =
    (line : List ℕ) × (rest : List ℕ) × Cut 10 text line rest × LineFault version line kind

-- the text spells users up to this line, counted from 1, and the rest of it begins so
abbrev pub UpTo : {U : Type 0} → (U → List ℕ) → (U → Type 0) → List ℕ → ℕ → (List ℕ → Type 0) → Type 0
UpTo {U} line_of IsRead text line Begins = (users : List U) × (rest : List ℕ) × AllByRecursion IsRead users
    × (text ≡ lines_text line_of users ++ rest) × (line ≡ length users + 1) × Begins rest

-- the text spells users with records of this version up to this line, and the rest of it begins so
abbrev pub UpToLine : ScramVersion → List ℕ → ℕ → (List ℕ → Type 0) → Type 0
UpToLine version text line Begins = UpTo (user_line version) (IsLineReadable version) text line Begins

-- what a text spells: its users, or its first malformed line, and why
abbrev pub ReadsLines : {U : Type 0} → (U → List ℕ) → (U → Type 0) → (List ℕ → ReadLinesErrorKind → Type 0)
    → List ℕ → Result (List U) ReadLinesError → Type 0
ReadsLines line_of IsRead Fault text (Ok users) = SpellsLines line_of IsRead text users
ReadsLines line_of IsRead Fault text (Err error) =
    UpTo line_of IsRead text error.line (λ (rest : List ℕ). Fault rest error.kind)

-- what a text spells of users with records of this version
abbrev pub ReadsUsers : ScramVersion → List ℕ → Result Records ReadLinesError → Type 0
ReadsUsers version text answer =
    ReadsLines (user_line version) (IsLineReadable version) (HeadFault version) text answer

-- the reader of a line allocates, for its name: the line has a space, and no comma before its last one
abbrev pub ReachesName : List ℕ → Type 0
ReachesName line = (name : List ℕ) × (kept : List ℕ) × LastCut 32 line name kept × NoComma name

-- the text begins with a line for which its reader allocates
abbrev pub ReachesUser : List ℕ → Type 0
ReachesUser text = (line : List ℕ) × (rest : List ℕ) × Cut 10 text line rest × ReachesName line

-- a user whose line is written: the name has no line feed, the record has a count, and its keys are as long as a digest
pub record IsWritable (version : ScramVersion) (user : List ℕ × Record) : Type 0 where
  pub name : Without 10 user.0
  pub count : 1 ≤ user.1.count
  pub stored_key : length user.1.stored_key ≡ digest_len version
  pub server_key : length user.1.server_key ≡ digest_len version
