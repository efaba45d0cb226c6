-- The lines of users of several versions, as they are read and written.
use Rattle.std.proofs.Common.{◌≡◌, ◌<◌, ◌+◌, ℕ, List, [], ◌∷◌, ◌++◌, length, get_or, take, refl, append-nil}
use Rattle.fe2o3_scram.specs.declared.hmac.ScramVersion.{ScramVersion}
use Rattle.fe2o3_scram.specs.declared.credentials.record_lines.ReadLinesErrorKind.TheVariants.{VersionMismatch}
use Rattle.fe2o3_scram.specs.Credentials.{VersionedRecord}
use Rattle.fe2o3_scram.specs.Mixed.{MultiRecords, unversioned}
use Rattle.fe2o3_scram.specs.Escape.{escaped}
use Rattle.fe2o3_scram.specs.MultiRecordLines.{IsMixedReadable, mixed_line, mixed_text}
use Rattle.fe2o3_scram.specs.RecordLines.{HeadFault}
use Rattle.fe2o3_scram.specs.RecordText.{record_text}
use Rattle.fe2o3_scram.proofs.lemmas.messages.LineListLemmas.{lines_text-more}
use Rattle.fe2o3_scram.proofs.lemmas.messages.RecordLawLemmas.{read_again}
use Rattle.fe2o3_scram.proofs.lemmas.messages.RecordLinesLawLemmas.{line_cut, no_feed-line}

-- a line whose record is for another version
pub other_version : (version : ScramVersion) (text rest : List ℕ) (user : List ℕ × VersionedRecord)
    → IsMixedReadable user → text ≡ mixed_line user ++ 10 ∷ rest → ¬ (user.1.version ≡ version)
    → HeadFault version text VersionMismatch
other_version version text rest user is same differ = (
  mixed_line user,
  rest,
  (no_feed-line user.1.version (unversioned user) is, same),
  (
    escaped user.0,
    record_text user.1,
    line_cut user.1.version (unversioned user) is,
    ((user.0, refl), (user.1, read_again user.1 is.1, differ)),
  ),
)

-- one more line is written
pub mixed_text-start : (before : List ℕ) → before ++ mixed_text [] ≡ before
mixed_text-start before = append-nil before

pub mixed_text-more : (before : List ℕ) (users : MultiRecords) (k : ℕ) (other : List ℕ × VersionedRecord)
    → k < length users
    → before ++ mixed_text (take (k + 1) users)
    ≡ (before ++ mixed_text (take k users)) ++ (mixed_line (get_or users k other) ++ (10 ∷ []))
mixed_text-more before users k other below = lines_text-more mixed_line before users k other below

pub ruleset mixed_writing = (mixed_text-start, mixed_text-more)
