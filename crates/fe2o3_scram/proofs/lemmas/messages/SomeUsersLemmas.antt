-- Each text of lines has an answer.
use Rattle.std.proofs.Common.{◌≡◌, ◌≢◌, ◌⊎◌, ℕ, List, [], ◌∷◌, ◌++◌, Result, Ok, Err, refl, sym, ◌∙◌, ap, subst, inl, inr}
use Rattle.fe2o3_scram.specs.declared.hmac.ScramVersion.{ScramVersion}
use Rattle.fe2o3_scram.specs.declared.credentials.record_lines.ReadLinesError.{ReadLinesError}
use Rattle.fe2o3_scram.specs.declared.credentials.record_lines.ReadLinesErrorKind.{ReadLinesErrorKind}
use Rattle.fe2o3_scram.specs.declared.credentials.record_lines.ReadLinesErrorKind.TheVariants.{LineFeedMissing, SpaceMissing, InvalidName, InvalidRecord, VersionMismatch}
use Rattle.fe2o3_scram.specs.declared.credentials.record_text.RecordTextError.{RecordTextError}
use Rattle.fe2o3_scram.specs.Credentials.{Records, VersionedRecord}
use Rattle.fe2o3_scram.specs.Mixed.{MultiRecords, unversioned}
use Rattle.fe2o3_scram.specs.Escape.{escaped}
use Rattle.fe2o3_scram.specs.Hmac.{mechanism_name}
use Rattle.fe2o3_scram.specs.MultiRecordLines.{IsMixedReadable, MixedFault, ReadsMixed, mixed_line}
use Rattle.fe2o3_scram.specs.RecordLines.{HeadFault, IsLineReadable, LastCut, LineFault, ReadsUsers, user_line}
use Rattle.fe2o3_scram.specs.RecordText.{ReadsRecord}
use Rattle.fe2o3_scram.specs.Texts.{Cut, Without}
use Rattle.fe2o3_scram.proofs.lemmas.hashes.NameLemmas.{one_version}
use Rattle.fe2o3_scram.proofs.lemmas.messages.LineListLemmas.{HeadOr, some_lines_answer}
use Rattle.fe2o3_scram.proofs.lemmas.messages.MixedLinesLemmas.{other_version}
use Rattle.fe2o3_scram.proofs.lemmas.messages.RecordLawLemmas.{some_record}
use Rattle.fe2o3_scram.proofs.lemmas.messages.RecordLinesLemmas.{user_read}
use Rattle.fe2o3_scram.proofs.lemmas.texts.CutLemmas.{cut_or, last_cut_or}
use Rattle.fe2o3_scram.proofs.lemmas.texts.DecisionLemmas.{Decided, name_or, same_or}

version_or : (version other : ScramVersion) → Decided (version ≡ other)
version_or version other = elim (same_or (mechanism_name version) (mechanism_name other)) [
  | inl same ↦ inl (one_version version other same)
  | inr differ ↦ inr (λ same. differ (ap mechanism_name same))
]

-- a line is a user's, or it has a fault, whatever the version

abbrev LineOr : List ℕ → Type 0
LineOr line = ((user : List ℕ × VersionedRecord) × IsMixedReadable user × (line ≡ mixed_line user))
    ⊎ ((kind : ReadLinesErrorKind) × ((version : ScramVersion) → LineFault version line kind))

record_or : (line name kept plain : List ℕ) → Without 10 line → LastCut 32 line name kept → escaped plain ≡ name
    → (answer : Result VersionedRecord RecordTextError) → ReadsRecord kept answer → LineOr line
record_or line name kept plain without cut is (Err fault) reads =
    inr (InvalidRecord fault, λ version. (name, kept, cut, ((plain, is), reads)))
record_or line name kept plain without cut is (Ok read) reads =
    let user = user_read read.version line name kept plain read without cut is reads refl in
    inl ((plain, read), user.0, user.1)

line_or : (line : List ℕ) → Without 10 line → LineOr line
line_or line without = elim (last_cut_or 32 line) [
  | inr none ↦ inr (SpaceMissing, λ version. none)
  | inl (name, kept, cut) ↦ elim (name_or name) [
    | inr bad ↦ inr (InvalidName, λ version. (name, kept, cut, λ plain is. bad plain (sym is)))
    | inl (plain, is) ↦ let read = some_record kept in
        record_or line name kept plain without cut (sym is) read.0 read.1
  ]
]

-- a text begins with a user's line, or it has a fault

pub head_fault : (version : ScramVersion) (text line rest : List ℕ) (kind : ReadLinesErrorKind)
    → Cut 10 text line rest → LineFault version line kind → HeadFault version text kind
head_fault version text line rest LineFeedMissing cut fault = absurd fault.3
head_fault version text line rest kind cut fault = (line, rest, cut, fault)

mixed_head_or : (text : List ℕ) → text ≢ [] → HeadOr mixed_line IsMixedReadable MixedFault text
mixed_head_or text some = elim (cut_or 10 text) [
  | inr none ↦ inr (LineFeedMissing, λ version. (some, none))
  | inl (line, rest, cut) ↦ elim (line_or line cut.0) [
    | inl (user, is, whole) ↦
        inl (user, rest, is, cut.1 ∙ ap (λ (start : List ℕ). start ++ 10 ∷ rest) whole)
    | inr (kind, fault) ↦
        inr (kind, λ version. head_fault version text line rest kind cut (fault version))
  ]
]

-- so it does for records of one version

of_version : (version : ScramVersion) (text rest : List ℕ) (user : List ℕ × VersionedRecord) → IsMixedReadable user
    → text ≡ mixed_line user ++ 10 ∷ rest → user.1.version ≡ version
    → HeadOr (user_line version) (IsLineReadable version) (HeadFault version) text
of_version version text rest user is whole same = inl (
  unversioned user,
  rest,
  subst (λ (of : ScramVersion). IsLineReadable of (unversioned user)) same is,
  whole ∙ ap (λ (of : ScramVersion). user_line of (unversioned user) ++ 10 ∷ rest) same,
)

head_or : (version : ScramVersion) (text : List ℕ) → text ≢ []
    → HeadOr (user_line version) (IsLineReadable version) (HeadFault version) text
head_or version text some = elim (mixed_head_or text some) [
  | inr (kind, fault) ↦ inr (kind, fault version)
  | inl (user, rest, is, whole) ↦ elim (version_or user.1.version version) [
    | inl same ↦ of_version version text rest user is whole same
    | inr differ ↦ inr (VersionMismatch, other_version version text rest user is whole differ)
  ]
]

pub some_users_answer : (version : ScramVersion) (text : List ℕ) → (answer : Result Records ReadLinesError)
    × ReadsUsers version text answer
some_users_answer version text =
    some_lines_answer (user_line version) (IsLineReadable version) (HeadFault version) (head_or version) text

pub some_mixed_answer : (text : List ℕ) → (answer : Result MultiRecords ReadLinesError) × ReadsMixed text answer
some_mixed_answer text = some_lines_answer mixed_line IsMixedReadable MixedFault mixed_head_or text
