-- What is found of a user in a text of lines (RFC 5803, section 2).
use Rattle.std.proofs.Common.{inl, inr, refl, sym, ap, ◌∙◌, ◌≡◌, ◌≢◌, ◌≤◌, ℕ, Bool, List, [], ◌∷◌, ◌++◌, arith, length, subst}
use Rattle.std.specs.List.{AllByRecursion}
use Rattle.std.specs.Prelude.{IfErr, Result, Ok, Err}
use Rattle.std.specs.Result.{IsErrAnd}
use Rattle.std.specs.Str.{IsUtf8}
use Rattle.std.proofs.lemmas.Bool.{cases_eq, cases_lt}
use Rattle.fe2o3_scram.proofs.lemmas.texts.CutLemmas.{cut_or, not_without}
use Rattle.fe2o3_scram.specs.declared.credentials.record_lines.ReadLinesError.{ReadLinesError}
use Rattle.fe2o3_scram.specs.declared.credentials.record_lines.ReadLinesErrorKind.{ReadLinesErrorKind}
use Rattle.fe2o3_scram.specs.declared.credentials.record_lines.ReadLinesErrorKind.TheVariants as kinds
use Rattle.fe2o3_scram.specs.declared.credentials.record_lines.ReadLinesErrorKind.TheVariants.{OutOfMemory as NoMemory}
use Rattle.fe2o3_scram.specs.declared.credentials.record_text.RecordTextError.TheVariants as texts
use Rattle.fe2o3_scram.specs.declared.hmac.ScramVersion.{ScramVersion}
use Rattle.fe2o3_scram.specs.declared.hmac.ScramVersion.TheVariants.{Sha1}
use Rattle.fe2o3_scram.specs.Credentials.{VersionedRecord}
use Rattle.fe2o3_scram.specs.Hmac.{digest_len}
use Rattle.fe2o3_scram.specs.Mixed.{MultiRecords, all_have}
use Rattle.fe2o3_scram.specs.MultiRecordLines.{IsMixedWritable, MixedFault, ReadsMixed, SpellsMixed, UpToMixed, mixed_text}
use Rattle.fe2o3_scram.specs.RecordLines.{ReachesUser}
use Rattle.fe2o3_scram.specs.RecordText.{ReadsRecord}
use Rattle.fe2o3_scram.specs.Texts.{Without}
use Rattle.sasl_c.specs.declared.lines.NotFound.{NotFound}
use Rattle.sasl_c.specs.declared.records.ScramRecord.{ScramRecord as Struct}
use Rattle.sasl_c.specs.declared.status.Status.{Status}
use Rattle.sasl_c.specs.declared.status.Status.TheVariants as statuses
use Rattle.sasl_c.specs.Lines.{AllAsks, Chosen, FindAsks, FindsRecord, NotChosen, SpellsLine, TellsAll, line_status}
use Rattle.sasl_c.specs.Records.{IsVersion, ShowsRecord}

pub found : (lines name : List ℕ) (version : ℕ) (made : Struct) (known : ScramVersion) (users : MultiRecords)
    → IsVersion version known → IsUtf8 name → IsUtf8 lines → SpellsMixed lines users → Chosen users name known made
    → FindsRecord lines name version 0 (Ok made)
unfolding FindsRecord
found lines name version made known users is named utf8 spells chosen =
    (named, ((known, is), utf8), (known, users, (is, spells), chosen))

pub unread : (lines name : List ℕ) (version line : ℕ) (known : ScramVersion) (error : ReadLinesError) (status : Status)
    → IsVersion version known → IsUtf8 name → IsUtf8 lines → (error.kind ≢ NoMemory → ReadsMixed lines (Err error))
    → line ≡ error.line → status ≡ line_status error.kind → status ≢ statuses.OutOfMemory
    → FindsRecord lines name version line (Err status)
unfolding FindsRecord
unread lines name version line known error status is named utf8 reads at gives other = inr (
  named,
  ((known, is), utf8),
  inl (error, reads (λ memory. other (gives ∙ ap line_status memory)), at, gives),
)

pub no_version : (lines name : List ℕ) (version line : ℕ) (status : Status) → line ≡ 0
    → status ≡ statuses.NoSuchVersion → ((known : ScramVersion) → ¬ IsVersion version known)
    → FindsRecord lines name version line (Err status)
unfolding FindsRecord
no_version lines name version line status at is none = inl (at, inl (none, is))

pub no_name : (lines name : List ℕ) (version line : ℕ) (known : ScramVersion) (status : Status) → line ≡ 0
    → status ≡ statuses.NotUtf8 → IsVersion version known → ¬ IsUtf8 name
    → FindsRecord lines name version line (Err status)
unfolding FindsRecord
no_name lines name version line known status at gives is wrong =
    inl (at, inr ((λ none. none known is), inl (wrong, gives)))

pub no_lines : (lines name : List ℕ) (version line : ℕ) (known : ScramVersion) (status : Status) → line ≡ 0
    → status ≡ statuses.NotUtf8 → IsVersion version known → IsUtf8 name → ¬ IsUtf8 lines
    → FindsRecord lines name version line (Err status)
unfolding FindsRecord
no_lines lines name version line known status at gives is named wrong =
    inl (at, inr ((λ none. none known is), inr ((λ other. other named), inl (wrong, gives))))

pub not_found : (lines name : List ℕ) (version line : ℕ) (known : ScramVersion) (users : MultiRecords)
    (status : Status) → line ≡ 0 → IsVersion version known → IsUtf8 name → IsUtf8 lines → SpellsMixed lines users
    → NotChosen users name known status → FindsRecord lines name version line (Err status)
unfolding FindsRecord
not_found lines name version line known users status at is named utf8 spells none =
    inr (named, ((known, is), utf8), inr (at, (known, users, (is, spells), none)))

-- no text of a record says that there was no memory
never_memory : (kept : List ℕ) → ReadsRecord kept (Err texts.OutOfMemory) → ⊥
unfolding ReadsRecord
never_memory kept (inl (none, same)) = absurd (cc)
never_memory kept (inr (fields, has, inl (is, same))) = absurd (cc)
never_memory kept (inr (fields, has, inr (a, inl (is, same)))) = absurd (cc)
never_memory kept (inr (fields, has, inr (a, inr (b, inl (is, same))))) = absurd (cc)
never_memory kept (inr (fields, has, inr (a, inr (b, inr (c, inl (is, same)))))) = absurd (cc)
never_memory kept (inr (fields, has, inr (a, inr (b, inr (c, inr (d, inl (is, same))))))) = absurd (cc)
never_memory kept (inr (fields, has, inr (a, inr (b, inr (c, inr (d, inr (e, inl (is, same)))))))) = absurd (cc)
never_memory kept (inr (fields, has, inr (a, inr (b, inr (c, inr (d, inr (e, inr (f, inl (is, same))))))))) = absurd (cc)
never_memory kept (inr (fields, has, inr (a, inr (b, inr (c, inr (d, inr (e, inr (f, inr (g, none))))))))) = none

-- a line that is not read for memory is one that has a user
reaches : (lines : List ℕ) (line : ℕ) (kind : ReadLinesErrorKind)
    → (kind ≢ NoMemory → UpToMixed lines line (λ rest. MixedFault rest kind))
    → (kind ≡ NoMemory → UpToMixed lines line ReachesUser) → line_status kind ≡ statuses.OutOfMemory
    → UpToMixed lines line ReachesUser
reaches lines line kinds.OutOfMemory reads asks is = asks refl
reaches lines line (kinds.InvalidRecord texts.OutOfMemory) reads asks is =
    absurd (never_memory _ ((reads (λ same. absurd (cc))).5 Sha1).3.3.1)
reaches lines line (kinds.InvalidRecord texts.PartsMismatch) reads asks is = absurd (cc)
reaches lines line (kinds.InvalidRecord texts.UnknownMechanism) reads asks is = absurd (cc)
reaches lines line (kinds.InvalidRecord texts.IterationCountParseError) reads asks is = absurd (cc)
reaches lines line (kinds.InvalidRecord texts.Base64DecodeError) reads asks is = absurd (cc)
reaches lines line (kinds.InvalidRecord texts.KeyLengthMismatch) reads asks is = absurd (cc)
reaches lines line kinds.LineFeedMissing reads asks is = absurd (cc)
reaches lines line kinds.SpaceMissing reads asks is = absurd (cc)
reaches lines line kinds.InvalidName reads asks is = absurd (cc)
reaches lines line kinds.VersionMismatch reads asks is = absurd (cc)

pub asks : (lines name : List ℕ) (version : ℕ) (known : ScramVersion) (error : ReadLinesError) (status : Status)
    → IsVersion version known → IsUtf8 name → IsUtf8 lines → (error.kind ≢ NoMemory → ReadsMixed lines (Err error))
    → (error.kind ≡ NoMemory → UpToMixed lines error.line ReachesUser) → status ≡ line_status error.kind
    → status ≡ statuses.OutOfMemory → FindAsks lines name version
asks lines name version known error status is named utf8 reads comes gives memory =
    ((known, is), named, utf8, (error.line, reaches lines error.line error.kind reads comes (sym gives ∙ memory)))

-- an error that a call passes on
pub passed_on : {A : Type 0} (answer : Result A NotFound) (P Q : NotFound → Type 0) → ((none : NotFound) → P none → Q none)
    → IsErrAnd answer P → IfErr answer Q
passed_on (Ok made) P Q says is = tt
passed_on (Err none) P Q says is = says none is

pub ruleset finds = (asks, found, no_version, not_found)

-- ---- whether all users have a record

pub told : (lines : List ℕ) (version : ℕ) (all : Bool) (known : ScramVersion) (users : MultiRecords)
    → IsVersion version known → IsUtf8 lines → SpellsMixed lines users → all ≡ all_have known users
    → TellsAll lines version 0 (Ok all)
unfolding TellsAll
told lines version all known users is utf8 spells same = (((known, is), utf8), (known, users, (is, spells), same))

pub untold : (lines : List ℕ) (version line : ℕ) (known : ScramVersion) (error : ReadLinesError) (status : Status)
    → IsVersion version known → IsUtf8 lines → (error.kind ≢ NoMemory → ReadsMixed lines (Err error))
    → line ≡ error.line → status ≡ line_status error.kind → status ≢ statuses.OutOfMemory
    → TellsAll lines version line (Err status)
unfolding TellsAll
untold lines version line known error status is utf8 reads at gives other = inr (
  ((known, is), utf8),
  (error, reads (λ memory. other (gives ∙ ap line_status memory)), at, gives),
)

pub no_such_version : (lines : List ℕ) (version line : ℕ) (status : Status) → line ≡ 0
    → status ≡ statuses.NoSuchVersion → ((known : ScramVersion) → ¬ IsVersion version known)
    → TellsAll lines version line (Err status)
unfolding TellsAll
no_such_version lines version line status at is none = inl (at, inl (none, is))

pub no_text : (lines : List ℕ) (version line : ℕ) (known : ScramVersion) (status : Status) → line ≡ 0
    → status ≡ statuses.NotUtf8 → IsVersion version known → ¬ IsUtf8 lines → TellsAll lines version line (Err status)
unfolding TellsAll
no_text lines version line known status at gives is wrong =
    inl (at, inr ((λ none. none known is), inl (wrong, gives)))

pub all_asks : (lines : List ℕ) (version : ℕ) (known : ScramVersion) (error : ReadLinesError) (status : Status)
    → IsVersion version known → IsUtf8 lines → (error.kind ≢ NoMemory → ReadsMixed lines (Err error))
    → (error.kind ≡ NoMemory → UpToMixed lines error.line ReachesUser) → status ≡ line_status error.kind
    → status ≡ statuses.OutOfMemory → AllAsks lines version
all_asks lines version known error status is utf8 reads comes gives memory =
    ((known, is), utf8, (error.line, reaches lines error.line error.kind reads comes (sym gives ∙ memory)))

pub ruleset tells = (all_asks, told, no_such_version)

-- ---- the line of a user

-- what holds of the number or the name of a line that is not refused
same_number : (n m : ℕ) → ¬ (n ≢ m) → n ≡ m
same_number n m unrefuted = elim (cases_eq n m) [ inl same ↦ same | inr other ↦ absurd (unrefuted other) ]

some_number : (n : ℕ) → ¬ ¬ (1 ≤ n) → 1 ≤ n
some_number n unrefuted = elim (cases_lt 0 n) [
  | inl some ↦ omega (arith, some)
  | inr none ↦ absurd (unrefuted (λ some. omega (arith, some, none)))
]

without_feed : (name : List ℕ) → ¬ ¬ Without 10 name → Without 10 name
without_feed name unrefuted = elim (cut_or 10 name) [
  | inl (before, rest, cut) ↦ absurd (unrefuted (not_without 10 name before rest cut))
  | inr plain ↦ plain
]

-- a line that is not refused is read again
writable : (name : List ℕ) (shown : VersionedRecord) → ¬ ¬ AllByRecursion IsMixedWritable ((name, shown) ∷ [])
    → IsMixedWritable (name, shown)
writable name shown unrefuted = record {
  name = without_feed name (λ fails. unrefuted (λ all. fails all.0.name));
  count = some_number shown.stored.count (λ fails. unrefuted (λ all. fails all.0.count));
  stored_key = same_number (length shown.stored.stored_key) (digest_len shown.version)
      (λ fails. unrefuted (λ all. fails all.0.stored_key));
  server_key = same_number (length shown.stored.server_key) (digest_len shown.version)
      (λ fails. unrefuted (λ all. fails all.0.server_key));
}

pub line_written : (name spelt text : List ℕ) (kept : Struct) (shown : VersionedRecord) (none users : MultiRecords)
    → IsUtf8 name → ShowsRecord kept shown → spelt ≡ name → none ≡ [] → users ≡ none ++ ((spelt, shown) ∷ [])
    → ¬ ¬ AllByRecursion IsMixedWritable users → text ≡ mixed_text users → SpellsLine name kept (Ok text)
line_written name spelt text kept shown none users named is same empty are unrefuted spells =
    let one : users ≡ (name, shown) ∷ [] = rw same at rw empty at are in (
      named,
      (
        shown,
        is,
        writable name shown (subst (λ (u : MultiRecords). ¬ ¬ AllByRecursion IsMixedWritable u) one unrefuted),
        spells ∙ ap mixed_text one,
      ),
    )
