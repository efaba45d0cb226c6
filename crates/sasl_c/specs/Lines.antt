-- The text of users and their records, a line for each, of which C asks for one (RFC 5802, section 5.1; RFC 5803,
-- section 2).
use Rattle.std.specs.Prelude.{◌≡◌, ◌≢◌, ◌⊎◌, ℕ, Bool, Some, None, List, [], ◌∷◌, Result, Ok, Err}
use Rattle.std.specs.Str.{IsUtf8}
use Rattle.fe2o3_scram.specs.declared.credentials.record_lines.ReadLinesError.{ReadLinesError}
use Rattle.fe2o3_scram.specs.declared.credentials.record_lines.ReadLinesErrorKind.{ReadLinesErrorKind}
use Rattle.fe2o3_scram.specs.declared.credentials.record_lines.ReadLinesErrorKind.TheVariants as kinds
use Rattle.fe2o3_scram.specs.declared.credentials.record_text.RecordTextError.TheVariants as texts
use Rattle.fe2o3_scram.specs.declared.hmac.ScramVersion.{ScramVersion}
use Rattle.fe2o3_scram.specs.Credentials.{Record, VersionedRecord, record_at, versioned}
use Rattle.fe2o3_scram.specs.Mixed.{MultiRecords, all_have, provider_for}
use Rattle.fe2o3_scram.specs.MultiRecordLines.{IsMixedWritable, ReadsMixed, SpellsMixed, UpToMixed, mixed_text}
use Rattle.fe2o3_scram.specs.Readings.{IsFirst}
use Rattle.fe2o3_scram.specs.RecordLines.{ReachesUser}
use Rattle.sasl_c.specs.declared.records.ScramRecord.{ScramRecord as Struct}
use Rattle.sasl_c.specs.declared.status.Status.{Status}
use Rattle.sasl_c.specs.declared.status.Status.TheVariants as statuses
use Rattle.sasl_c.specs.Client.{flag_number}
use Rattle.sasl_c.specs.Records.{RecordHasRoom, IsVersion, ShowsRecord, SpellsStruct, record_struct}

-- why a line is not read; lines of any version are, so that is never why
abbrev pub line_status : ReadLinesErrorKind → Status
line_status kinds.LineFeedMissing = statuses.LineFeedMissing
line_status kinds.SpaceMissing = statuses.SpaceMissing
line_status kinds.InvalidName = statuses.InvalidName
line_status (kinds.InvalidRecord texts.OutOfMemory) = statuses.OutOfMemory
line_status (kinds.InvalidRecord why) = statuses.NoRecord why
line_status kinds.VersionMismatch = statuses.OtherVersion
line_status kinds.OutOfMemory = statuses.OutOfMemory

-- the text is one of users
abbrev pub HasUsers : List ℕ → ℕ → ScramVersion → MultiRecords → Type 0
HasUsers lines version known users = IsVersion version known × SpellsMixed lines users

-- the struct of the first record that a user has of this version
abbrev pub Chosen : MultiRecords → List ℕ → ScramVersion → Struct → Type 0
Chosen users name known made = (stored : Record) × (record_at (provider_for known users).records name ≡ Some stored)
    × RecordHasRoom (versioned known stored) × (made ≡ record_struct (versioned known stored))

-- or why there is none: the user has no such record, or a struct has no room for it
abbrev pub NotChosen : MultiRecords → List ℕ → ScramVersion → Status → Type 0
NotChosen users name known status =
    ((status ≡ statuses.NoSuchUser) × (record_at (provider_for known users).records name ≡ None))
    ⊎ ((status ≡ statuses.TooLong) × ((stored : Record)
    × (record_at (provider_for known users).records name ≡ Some stored) × ¬ RecordHasRoom (versioned known stored)))

-- the tests before a text is read, in their order
abbrev pub text_tests : List ℕ → ℕ → List (Status × Type 0)
text_tests lines version = (statuses.NoSuchVersion, (known : ScramVersion) → ¬ IsVersion version known)
    ∷ (statuses.NotUtf8, ¬ IsUtf8 lines) ∷ []

-- the tests before a user is looked for, in their order
abbrev pub find_tests : List ℕ → List ℕ → ℕ → List (Status × Type 0)
find_tests lines name version = (statuses.NoSuchVersion, (known : ScramVersion) → ¬ IsVersion version known)
    ∷ (statuses.NotUtf8, ¬ IsUtf8 name) ∷ (statuses.NotUtf8, ¬ IsUtf8 lines) ∷ []

-- none of `text_tests` holds: the version is known, and the text is UTF-8
abbrev pub PassesTests : List ℕ → ℕ → Type 0
PassesTests lines version = ((known : ScramVersion) × IsVersion version known) × IsUtf8 lines

-- the first line of a text that is not read: its number from 1, and why
abbrev pub IsMalformed : List ℕ → ℕ → Status → Type 0
IsMalformed lines line status = (error : ReadLinesError) × ReadsMixed lines (Err error) × (line ≡ error.line)
    × (status ≡ line_status error.kind)

-- what is found of a user in a text: the first record of the version, as a struct; or the first error that holds: of the
-- tests, of the first line that is not read, or of the choice. A line that is not read is given by its number from 1, and
-- no line by 0
unfoldable pub FindsRecord : List ℕ → List ℕ → ℕ → ℕ → Result Struct Status → Type 0
FindsRecord lines name version line (Ok made) = IsUtf8 name × PassesTests lines version × ((known : ScramVersion)
    × (users : MultiRecords) × HasUsers lines version known users × Chosen users name known made)
FindsRecord lines name version line (Err status) = ((line ≡ 0) × IsFirst (find_tests lines name version) status)
    ⊎ (IsUtf8 name × PassesTests lines version × (IsMalformed lines line status ⊎ ((line ≡ 0)
    × ((known : ScramVersion) × (users : MultiRecords) × HasUsers lines version known users
    × NotChosen users name known status))))

-- whether each user of a text has a record of the version; or the first error that holds: of the tests, or of the first
-- line that is not read. Such a line is given by its number from 1, and no line by 0
unfoldable pub TellsAll : List ℕ → ℕ → ℕ → Result Bool Status → Type 0
TellsAll lines version line (Ok all) = PassesTests lines version × ((known : ScramVersion) × (users : MultiRecords)
    × HasUsers lines version known users × (all ≡ all_have known users))
TellsAll lines version line (Err status) = ((line ≡ 0) × IsFirst (text_tests lines version) status)
    ⊎ (PassesTests lines version × IsMalformed lines line status)

-- memory is requested to read a text: the version is known, the text is UTF-8, and a line that is reached has a user
abbrev pub AllAsks : List ℕ → ℕ → Type 0
AllAsks lines version = ((known : ScramVersion) × IsVersion version known) × IsUtf8 lines
    × ((line : ℕ) × UpToMixed lines line ReachesUser)

-- the flag after a call, and the number of the line
abbrev pub TellsAllInto : List ℕ → ℕ → ℕ → ℕ → ℕ → ℕ → Result (Unit {0}) Status → Type 0
TellsAllInto lines version line told before after (Ok done) = (told ≡ line)
    × ((all : Bool) × TellsAll lines version 0 (Ok all) × (after ≡ flag_number all))
TellsAllInto lines version line told before after (Err status) = (after ≡ before)
    × (status ≡ statuses.OutOfMemory → told ≡ line)
    × (status ≢ statuses.OutOfMemory → TellsAll lines version told (Err status))

-- memory is requested to find a record: the version is known, the name and the text are UTF-8, and a line that is
-- reached has a user
abbrev pub FindAsks : List ℕ → List ℕ → ℕ → Type 0
FindAsks lines name version = ((known : ScramVersion) × IsVersion version known) × IsUtf8 name × IsUtf8 lines
    × ((line : ℕ) × UpToMixed lines line ReachesUser)

-- the struct after a call, and the number of the line
abbrev pub FindsInto : List ℕ → List ℕ → ℕ → ℕ → ℕ → Struct → Struct → Result (Unit {0}) Status → Type 0
FindsInto lines name version line told before after (Ok done) = FindsRecord lines name version 0 (Ok after) × (told ≡ line)
FindsInto lines name version line told before after (Err status) = (after ≡ before)
    × (status ≡ statuses.OutOfMemory → told ≡ line)
    × (status ≢ statuses.OutOfMemory → FindsRecord lines name version told (Err status))

-- the line of a user and of the record that a struct shows, which are read again; or the first error that holds: the name is
-- not UTF-8, the struct shows no record, or the line would not be read
abbrev pub SpellsLine : List ℕ → Struct → Result (List ℕ) Status → Type 0
SpellsLine name kept (Ok text) = IsUtf8 name × ((shown : VersionedRecord) × ShowsRecord kept shown
    × IsMixedWritable (name, shown) × (text ≡ mixed_text ((name, shown) ∷ [])))
SpellsLine name kept (Err status) = ((status ≡ statuses.NotUtf8) × ¬ IsUtf8 name)
    ⊎ (IsUtf8 name × (SpellsStruct kept (Err status) ⊎ ((status ≡ statuses.NotWritable)
    × ((shown : VersionedRecord) × ShowsRecord kept shown × ¬ IsMixedWritable (name, shown)))))
