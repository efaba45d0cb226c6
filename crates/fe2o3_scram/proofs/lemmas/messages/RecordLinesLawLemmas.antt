-- Users are read again from their text, and a text has one answer.
use Rattle.std.proofs.Common.{◌≡◌, ◌≢◌, ◌⊎◌, ◌<◌, ℕ, List, [], ◌∷◌, ◌++◌, codes, Result, Ok, Err, refl, sym, ◌∙◌, ap, subst, inl, inr, arith}
use Rattle.std.proofs.lemmas.Fmt.{decimal_is_IsNumeral}
use Rattle.std.specs.Fmt.{decimal}
use Rattle.std.specs.List.{AllByRecursion}
use Rattle.fe2o3_scram.specs.declared.hmac.ScramVersion.{ScramVersion}
use Rattle.fe2o3_scram.specs.declared.hmac.ScramVersion.TheVariants.{Sha1, Sha256, Sha512}
use Rattle.fe2o3_scram.specs.declared.credentials.record_lines.ReadLinesError.{ReadLinesError}
use Rattle.fe2o3_scram.specs.declared.credentials.record_lines.ReadLinesErrorKind.{ReadLinesErrorKind}
use Rattle.fe2o3_scram.specs.declared.credentials.record_lines.ReadLinesErrorKind.TheVariants.{LineFeedMissing, SpaceMissing, InvalidName, InvalidRecord, VersionMismatch}
use Rattle.fe2o3_scram.specs.declared.credentials.record_text.RecordTextError.{RecordTextError}
use Rattle.fe2o3_scram.specs.Credentials.{Record, Records, VersionedRecord}
use Rattle.fe2o3_scram.specs.Mixed.{MultiRecords, unversioned}
use Rattle.fe2o3_scram.specs.Escape.{escaped, escaped_byte}
use Rattle.fe2o3_scram.specs.Hmac.{mechanism_name}
use Rattle.fe2o3_scram.specs.Laws.{HoldsBytes, HoldsMixedBytes}
use Rattle.fe2o3_scram.specs.MultiRecordLines.{IsMixedReadable, IsMixedWritable, MixedFault, ReadsMixed, SpellsMixed, mixed_line, mixed_text}
use Rattle.fe2o3_scram.specs.RecordLines.{HeadFault, IsLineReadable, IsWritable, LastCut, LineFault, ReadsUsers, UserFault, record_of_user, user_line, users_text}
use Rattle.fe2o3_scram.specs.RecordText.{IsReadable, ReadsRecord, record_text}
use Rattle.fe2o3_scram.specs.Texts.{Cut, Without, alphabet, base64_text}
use Rattle.fe2o3_scram.proofs.lemmas.messages.LineListLemmas.{one_lines_answer}
use Rattle.fe2o3_scram.proofs.lemmas.messages.RecordLawLemmas.{one_record, read_again}
use Rattle.fe2o3_scram.proofs.lemmas.texts.CutLemmas.{one_cut, one_last_cut}
use Rattle.fe2o3_scram.proofs.lemmas.texts.EachByteLemmas.{each-base64_text, not_without-in, without-append, without-digits, without-test}
use Rattle.fe2o3_scram.proofs.lemmas.texts.EscapingLemmas.{by_cases, escaped-cons, escaped-nil, one_escaped}

-- ---- what a user's line is without

without-escaped : (byte : ℕ) (name : List ℕ) → Without byte (codes "=2C") → Without byte (codes "=3D")
    → Without byte name → Without byte (escaped name)
without-escaped byte [] comma equals plain = subst (Without byte) (sym escaped-nil) tt
without-escaped byte (b ∷ name) comma equals plain =
    subst (Without byte) (sym (escaped-cons b name)) (without-append byte (escaped_byte b) (escaped name)
    (by_cases b (Without byte) (λ _. comma) (λ _. equals) (λ _ _. (plain.0, tt)))
    (without-escaped byte name comma equals plain.1))

without-record_text : (byte : ℕ) (kept : VersionedRecord) → IsReadable kept → byte < 36 → 0 ≢ byte
    → Without byte alphabet → ((version : ScramVersion) → Without byte (mechanism_name version))
    → Without byte (record_text kept)
without-record_text byte kept is low some plain names =
    let small = is.small in
    let numeral = decimal_is_IsNumeral kept.stored.count (omega (arith, small)) in
    let spelt : (bytes : List ℕ) → Without byte (base64_text bytes) =
    λ bytes. each-base64_text (λ other. other ≢ byte) bytes some (λ same. absurd (omega (arith, low, same))) plain in
    without-append byte (mechanism_name kept.version) _ (names kept.version) (
      λ same. absurd (omega (arith, low, same)),
      without-append byte (decimal kept.stored.count) _
          (without-digits byte (decimal kept.stored.count) (inl (omega (arith, low))) numeral.0.1) (
            λ same. absurd (omega (arith, low, same)),
            without-append byte (base64_text kept.stored.salt) _ (spelt kept.stored.salt) (
              λ same. absurd (omega (arith, low, same)),
              without-append byte (base64_text kept.stored.stored_key) _ (spelt kept.stored.stored_key)
                  (λ same. absurd (omega (arith, low, same)), spelt kept.stored.server_key),
            ),
          ),
    )

names-feed : (version : ScramVersion) → Without 10 (mechanism_name version)
names-feed Sha1 = without-test 10 (mechanism_name Sha1) refl
names-feed Sha256 = without-test 10 (mechanism_name Sha256) refl
names-feed Sha512 = without-test 10 (mechanism_name Sha512) refl

names-space : (version : ScramVersion) → Without 32 (mechanism_name version)
names-space Sha1 = without-test 32 (mechanism_name Sha1) refl
names-space Sha256 = without-test 32 (mechanism_name Sha256) refl
names-space Sha512 = without-test 32 (mechanism_name Sha512) refl

pub no_feed-line : (version : ScramVersion) (user : List ℕ × Record) → IsLineReadable version user
    → Without 10 (user_line version user)
no_feed-line version user is =
    without-append 10 (escaped user.0) (32 ∷ record_text (record_of_user version user))
    (without-escaped 10 user.0 (without-test 10 (codes "=2C") refl) (without-test 10 (codes "=3D") refl) is.0) (
      λ same. absurd (omega (arith, same)),
      without-record_text 10 (record_of_user version user) is.1 (omega arith) (λ same. absurd (omega (arith, same)))
          (without-test 10 alphabet refl) names-feed,
    )

no_space-record : (version : ScramVersion) (user : List ℕ × Record) → IsLineReadable version user
    → Without 32 (record_text (record_of_user version user))
no_space-record version user is =
    without-record_text 32 (record_of_user version user) is.1 (omega arith) (λ same. absurd (omega (arith, same)))
    (without-test 32 alphabet refl) names-space

-- ---- one cut, one line, one head

pub line_cut : (version : ScramVersion) (user : List ℕ × Record) → IsLineReadable version user
    → LastCut 32 (user_line version user) (escaped user.0) (record_text (record_of_user version user))
line_cut version user is = (no_space-record version user is, refl)

-- a text of a record is that of one record
one_kept : (kept other : VersionedRecord) → IsReadable kept → IsReadable other → record_text kept ≡ record_text other
    → kept ≡ other
one_kept kept other is too same =
    let both : Ok kept ≡ Ok other = one_record (record_text kept) (Ok kept) (Ok other) (read_again kept is)
    (subst (λ (text : List ℕ). ReadsRecord text (Ok other)) (sym same) (read_again other too)) in
    cc

one_line : (user other : List ℕ × VersionedRecord) → IsMixedReadable user → IsMixedReadable other
    → mixed_line user ≡ mixed_line other → user ≡ other
one_line user other is too same =
    let cut = one_last_cut 32 (mixed_line user) (escaped user.0) (record_text user.1) (escaped other.0)
    (record_text other.1) (line_cut user.1.version (unversioned user) is)
    (no_space-record other.1.version (unversioned other) too, same) in
    let name = one_escaped user.0 other.0 cut.0 in
    let kept = one_kept user.1 other.1 is.1 too.1 cut.1 in
    λ i. (name i, kept i)

one_mixed_head : (text rest more : List ℕ) (user other : List ℕ × VersionedRecord) → IsMixedReadable user
    → IsMixedReadable other → text ≡ mixed_line user ++ 10 ∷ rest → text ≡ mixed_line other ++ 10 ∷ more
    → (user ≡ other) × (rest ≡ more)
one_mixed_head text rest more user other is too same so =
    let cut = one_cut 10 text (mixed_line user) rest (mixed_line other) more
    (no_feed-line user.1.version (unversioned user) is, same)
    (no_feed-line other.1.version (unversioned other) too, so) in
    (one_line user other is too cut.0, cut.1)

one_head : (version : ScramVersion) (text rest more : List ℕ) (user other : List ℕ × Record)
    → IsLineReadable version user → IsLineReadable version other → text ≡ user_line version user ++ 10 ∷ rest
    → text ≡ user_line version other ++ 10 ∷ more → (user ≡ other) × (rest ≡ more)
one_head version text rest more user other is too same so =
    let both = one_mixed_head text rest more (user.0, record_of_user version user)
    (other.0, record_of_user version other) is too same so in
    (ap unversioned both.0, both.1)

-- ---- a head with a fault

abbrev OfLine : ScramVersion → List ℕ → ReadLinesErrorKind → Type 0
OfLine version text kind = ((text ≢ []) × Without 10 text × (kind ≡ LineFeedMissing))
    ⊎ ((line : List ℕ) × (rest : List ℕ) × Cut 10 text line rest × LineFault version line kind)

-- a fault but for a missing line feed is one of the first line
of_line : (version : ScramVersion) (text : List ℕ) (kind : ReadLinesErrorKind) → HeadFault version text kind
    → OfLine version text kind
of_line version text LineFeedMissing fault = inl (fault.0, fault.1, refl)
of_line version text kind fault = inr fault

abbrev OfUser : ScramVersion → List ℕ → ReadLinesErrorKind → Type 0
OfUser version line kind = (Without 32 line × (kind ≡ SpaceMissing))
    ⊎ ((name : List ℕ) × (kept : List ℕ) × LastCut 32 line name kept × UserFault version name kept kind)

-- a fault but for a missing space is one of the name or of the record
of_user : (version : ScramVersion) (line : List ℕ) (kind : ReadLinesErrorKind) → LineFault version line kind
    → OfUser version line kind
of_user version line SpaceMissing fault = inl (fault, refl)
of_user version line kind fault = inr fault

no_both : (kept : List ℕ) (read : VersionedRecord) (wrong : RecordTextError) → ReadsRecord kept (Ok read)
    → ReadsRecord kept (Err wrong) → ⊥
no_both kept read wrong reads refused =
    let both : Ok read ≡ Err wrong = one_record kept (Ok read) (Err wrong) reads refused in absurd (cc)

one_read : (kept : List ℕ) (read other : VersionedRecord) → ReadsRecord kept (Ok read) → ReadsRecord kept (Ok other)
    → read ≡ other
one_read kept read other reads too =
    let both : Ok read ≡ Ok other = one_record kept (Ok read) (Ok other) reads too in cc

one_wrong : (kept : List ℕ) (wrong other : RecordTextError) → ReadsRecord kept (Err wrong)
    → ReadsRecord kept (Err other) → wrong ≡ other
one_wrong kept wrong other refused too =
    let both = one_record kept (Err wrong) (Err other) refused too in cc

one_user_fault : (version : ScramVersion) (name kept : List ℕ) (kind other : ReadLinesErrorKind)
    → UserFault version name kept kind → UserFault version name kept other → kind ≡ other
one_user_fault version name kept InvalidName InvalidName fault too = refl
one_user_fault version name kept InvalidName (InvalidRecord wrong) fault too = absurd (fault too.0.0 too.0.1)
one_user_fault version name kept InvalidName VersionMismatch fault too = absurd (fault too.0.0 too.0.1)
one_user_fault version name kept InvalidName other fault too = absurd too
one_user_fault version name kept (InvalidRecord wrong) InvalidName fault too = absurd (too fault.0.0 fault.0.1)
one_user_fault version name kept (InvalidRecord wrong) (InvalidRecord other) fault too =
    ap InvalidRecord (one_wrong kept wrong other fault.1 too.1)
one_user_fault version name kept (InvalidRecord wrong) VersionMismatch fault too =
    absurd (no_both kept too.1.0 wrong too.1.1 fault.1)
one_user_fault version name kept (InvalidRecord wrong) other fault too = absurd too
one_user_fault version name kept VersionMismatch InvalidName fault too = absurd (too fault.0.0 fault.0.1)
one_user_fault version name kept VersionMismatch (InvalidRecord wrong) fault too =
    absurd (no_both kept fault.1.0 wrong fault.1.1 too.1)
one_user_fault version name kept VersionMismatch VersionMismatch fault too = refl
one_user_fault version name kept VersionMismatch other fault too = absurd too
one_user_fault version name kept kind other fault too = absurd fault

any_mechanism_user : (version : ScramVersion) (line : List ℕ) (kind other : ReadLinesErrorKind) → OfUser version line kind
    → OfUser version line other → kind ≡ other
any_mechanism_user version line kind other (inl plain) (inl too) = plain.1 ∙ sym too.1
any_mechanism_user version line kind other (inl plain) (inr (name, kept, cut, fault)) =
    absurd (not_without-in 32 name kept line cut.1 plain.0)
any_mechanism_user version line kind other (inr (name, kept, cut, fault)) (inl plain) =
    absurd (not_without-in 32 name kept line cut.1 plain.0)
any_mechanism_user version line kind other (inr (name, kept, cut, fault)) (inr (names, others, cut_too, too)) =
    let same = one_last_cut 32 line names others name kept cut_too cut in
    one_user_fault version name kept kind other fault
    (subst (λ (text : List ℕ). UserFault version name text other) same.1
    (subst (λ (text : List ℕ). UserFault version text others other) same.0 too))

any_mechanism_line : (version : ScramVersion) (text : List ℕ) (kind other : ReadLinesErrorKind) → OfLine version text kind
    → OfLine version text other → kind ≡ other
any_mechanism_line version text kind other (inl plain) (inl too) = plain.2 ∙ sym too.2
any_mechanism_line version text kind other (inl plain) (inr (line, rest, cut, fault)) =
    absurd (not_without-in 10 line rest text cut.1 plain.1)
any_mechanism_line version text kind other (inr (line, rest, cut, fault)) (inl plain) =
    absurd (not_without-in 10 line rest text cut.1 plain.1)
any_mechanism_line version text kind other (inr (line, rest, cut, fault)) (inr (lines, more, cut_too, too)) =
    let same = one_cut 10 text lines more line rest cut_too cut in
    any_mechanism_user version line kind other (of_user version line kind fault)
    (of_user version line other (subst (λ (text : List ℕ). LineFault version text other) same.0 too))

one_fault : (version : ScramVersion) (text : List ℕ) (kind other : ReadLinesErrorKind) → HeadFault version text kind
    → HeadFault version text other → kind ≡ other
one_fault version text kind other fault too =
    any_mechanism_line version text kind other (of_line version text kind fault) (of_line version text other too)

-- a user's line has no fault

no_user_fault : (version : ScramVersion) (user : List ℕ × Record) (kind : ReadLinesErrorKind)
    → IsLineReadable version user
    → ¬ UserFault version (escaped user.0) (record_text (record_of_user version user)) kind
no_user_fault version user InvalidName is fault = fault user.0 refl
no_user_fault version user (InvalidRecord wrong) is fault =
    no_both _ (record_of_user version user) wrong (read_again (record_of_user version user) is.1) fault.1
no_user_fault version user VersionMismatch is fault =
    fault.1.2 (ap (λ (read : VersionedRecord). read.version)
    (one_read _ fault.1.0 (record_of_user version user) fault.1.1
    (read_again (record_of_user version user) is.1)))
no_user_fault version user kind is fault = absurd fault

no_fault : (version : ScramVersion) (text rest : List ℕ) (user : List ℕ × Record) (kind : ReadLinesErrorKind)
    → IsLineReadable version user → text ≡ user_line version user ++ 10 ∷ rest → ¬ HeadFault version text kind
no_fault version text rest user kind is same fault = head (of_line version text kind fault)
  where
    user_of : (line : List ℕ) → line ≡ user_line version user → OfUser version line kind → ⊥
    user_of line whole (inl plain) =
        not_without-in 32 (escaped user.0) (record_text (record_of_user version user)) line whole plain.0
    user_of line whole (inr (name, kept, cut, fault)) =
        let one = one_last_cut 32 line name kept (escaped user.0) (record_text (record_of_user version user)) cut
        (no_space-record version user is, whole) in
        no_user_fault version user kind is
        (subst (λ (text : List ℕ). UserFault version (escaped user.0) text kind) one.1
        (subst (λ (text : List ℕ). UserFault version text kept kind) one.0 fault))

    head : OfLine version text kind → ⊥
    head (inl plain) = not_without-in 10 (user_line version user) rest text same plain.1
    head (inr (line, more, cut, fault)) =
        user_of line
        (one_cut 10 text line more (user_line version user) rest cut (no_feed-line version user is, same)).0
        (of_user version line kind fault)

no_empty_fault : (version : ScramVersion) (kind : ReadLinesErrorKind) → ¬ HeadFault version [] kind
no_empty_fault version kind fault = head (of_line version [] kind fault)
  where
    no_cut : (line rest : List ℕ) → [] ≢ line ++ 10 ∷ rest
    no_cut [] rest same = absurd (cc)
    no_cut (x ∷ line) rest same = absurd (cc)

    head : OfLine version [] kind → ⊥
    head (inl plain) = plain.0 refl
    head (inr (line, rest, cut, fault)) = no_cut line rest cut.1

-- a record fits its own version, so no fault whatever the version is that of another
pub no_mismatch : (text : List ℕ) → ¬ MixedFault text VersionMismatch
no_mismatch text fault =
    let one = fault Sha1 in
    let read = one.3.3.1.0 in
    let own = fault read.version in
    let line = one_cut 10 text own.0 own.1 one.0 one.1 own.2 one.2 in
    let cut = subst (λ (line : List ℕ). LastCut 32 line own.3.0 own.3.1) line.0 own.3.2 in
    let kept = one_last_cut 32 one.0 own.3.0 own.3.1 one.3.0 one.3.1 cut one.3.2 in
    let reads = subst (λ (text : List ℕ). ReadsRecord text (Ok own.3.3.1.0)) kept.1 own.3.3.1.1 in
    own.3.3.1.2 (ap (λ (kept : VersionedRecord). kept.version)
    (one_read one.3.1 own.3.3.1.0 read reads one.3.3.1.1))

-- ---- one answer

pub one_users_answer : (version : ScramVersion) (text : List ℕ) (answer other : Result Records ReadLinesError)
    → ReadsUsers version text answer → ReadsUsers version text other → answer ≡ other
one_users_answer version text answer other is too =
    one_lines_answer (user_line version) (IsLineReadable version) (HeadFault version) (record {
      one_head = one_head version;
      one_fault = one_fault version;
      no_fault = no_fault version;
      no_empty_fault = no_empty_fault version;
    }) text answer other is too

pub one_mixed_answer : (text : List ℕ) (answer other : Result MultiRecords ReadLinesError) → ReadsMixed text answer
    → ReadsMixed text other → answer ≡ other
one_mixed_answer text answer other is too = one_lines_answer mixed_line IsMixedReadable MixedFault (record {
  one_head = one_mixed_head;
  one_fault = λ text kind other fault too. one_fault Sha1 text kind other (fault Sha1) (too Sha1);
  no_fault =
      λ text rest user kind is same fault. no_fault user.1.version text rest (unversioned user) kind is same
      (fault user.1.version);
  no_empty_fault = λ kind fault. no_empty_fault Sha1 kind (fault Sha1);
}) text answer other is too

-- ---- what is written is read again

readable : (version : ScramVersion) (user : List ℕ × Record) → IsWritable version user → HoldsBytes user
    → IsLineReadable version user
readable version user is holds = (
  is.name,
  record {
    some = is.count;
    small = holds.0;
    salt = holds.1;
    stored_key = (holds.2, is.stored_key);
    server_key = (holds.3, is.server_key);
  },
)

pub users_read_again : (version : ScramVersion) (users : Records) → AllByRecursion (IsWritable version) users
    → AllByRecursion HoldsBytes users → ReadsUsers version (users_text version users) (Ok users)
users_read_again version users writable bytes = (go users writable bytes, refl)
  where
    go : (users : Records) → AllByRecursion (IsWritable version) users → AllByRecursion HoldsBytes users
        → AllByRecursion (IsLineReadable version) users
    go [] writable bytes = tt
    go (user ∷ users) writable bytes =
        (readable version user writable.0 bytes.0, go users writable.1 bytes.1)

pub mixed_read_again : (users : MultiRecords) → AllByRecursion IsMixedWritable users
    → AllByRecursion HoldsMixedBytes users → ReadsMixed (mixed_text users) (Ok users)
mixed_read_again users writable bytes = (go users writable bytes, refl)
  where
    go : (users : MultiRecords) → AllByRecursion IsMixedWritable users → AllByRecursion HoldsMixedBytes users
        → AllByRecursion IsMixedReadable users
    go [] writable bytes = tt
    go (user ∷ users) writable bytes =
        (readable user.1.version (unversioned user) writable.0 bytes.0, go users writable.1 bytes.1)

-- ---- what was read is written as it was

pub written_back : (text : List ℕ) (users : MultiRecords) → SpellsMixed text users
    → AllByRecursion IsMixedWritable users × (mixed_text users ≡ text)
written_back text users spells = (go users spells.0, sym spells.1)
  where
    writable : (user : List ℕ × VersionedRecord) → IsMixedReadable user → IsMixedWritable user
    writable user is = record {
      name = is.0;
      count = is.1.some;
      stored_key = is.1.stored_key.1;
      server_key = is.1.server_key.1;
    }

    go : (users : MultiRecords) → AllByRecursion IsMixedReadable users → AllByRecursion IsMixedWritable users
    go [] are = tt
    go (user ∷ users) are = (writable user are.0, go users are.1)
