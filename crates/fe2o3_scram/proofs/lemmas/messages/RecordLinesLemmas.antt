-- The lines of users, as they are read and written.
use Rattle.std.proofs.Common.{◌≡◌, ◌≢◌, ◌<◌, ◌+◌, ℕ, List, [], ◌∷◌, ◌++◌, length, get_or, take, Ok, sym, ◌∙◌, ap, subst, arith, append-nil}
use Rattle.std.proofs.lemmas.List.{take_more}
use Rattle.std.specs.List.{AllByRecursion}
use Rattle.fe2o3_scram.specs.declared.hmac.ScramVersion.{ScramVersion}
use Rattle.fe2o3_scram.specs.Credentials.{Record, Records, VersionedRecord}
use Rattle.fe2o3_scram.specs.Escape.{escaped}
use Rattle.fe2o3_scram.specs.RecordLines.{IsLineReadable, LastCut, record_of_user, user_line, users_text}
use Rattle.fe2o3_scram.specs.RecordText.{IsReadable, ReadsRecord, record_text}
use Rattle.fe2o3_scram.specs.Texts.{NoComma, Without}
use Rattle.fe2o3_scram.proofs.lemmas.messages.LineListLemmas.{lines_text-more}
use Rattle.fe2o3_scram.proofs.lemmas.messages.RecordLawLemmas.{one_spelling}
use Rattle.fe2o3_scram.proofs.lemmas.texts.EachByteLemmas.{all-at, each-append, each-front}
use Rattle.fe2o3_scram.proofs.lemmas.texts.EscapingLemmas.{by_cases, escaped-cons, no_comma-escaped}

-- ---- one line

-- a byte that an escaped name is without, and that is no comma and no equals sign, the name is without
without-name : (byte : ℕ) (name : List ℕ) → byte ≢ 44 → byte ≢ 61 → Without byte (escaped name) → Without byte name
without-name byte [] comma equals plain = tt
without-name byte (b ∷ name) comma equals plain =
    let both = by_cases b (λ (sent : List ℕ). Without byte (sent ++ escaped name)
    → (b ≢ byte) × Without byte (escaped name))
    (λ is has. (λ same. comma (sym same ∙ is), has.1.1.1)) (λ is has. (λ same. equals (sym same ∙ is), has.1.1.1))
    (λ _ _ has. (has.0, has.1)) (subst (Without byte) (escaped-cons b name) plain) in
    (both.0, without-name byte name comma equals both.1)

-- what a line says whose name and whose record are read
pub user_read : (version : ScramVersion) (line name kept plain : List ℕ) (read : VersionedRecord) → Without 10 line
    → LastCut 32 line name kept → escaped plain ≡ name → ReadsRecord kept (Ok read) → read.version ≡ version
    → IsLineReadable version (plain, read.stored) × (line ≡ user_line version (plain, read.stored))
user_read version line name kept plain read without cut is reads same =
    let spelt = one_spelling kept read reads in
    let whole : record_of_user version (plain, read.stored) ≡ read =
    λ i. record { version = sym same i; stored = read.stored } in
    let front : Without 10 name = each-front (λ b. b ≢ 10) name (32 ∷ kept) (subst (Without 10) cut.1 without) in (
      (
        without-name 10 plain (λ wrong. absurd (omega (arith, wrong))) (λ wrong. absurd (omega (arith, wrong)))
            (subst (Without 10) (sym is) front),
        subst IsReadable (sym whole) spelt.1,
      ),
      cut.1 ∙ ap (λ (start : List ℕ). start ++ 32 ∷ kept) (sym is)
          ∙ ap (λ (text : List ℕ). escaped plain ++ 32 ∷ text) (spelt.0 ∙ ap record_text (sym whole)),
    )

-- an escaped name has no comma
pub no_comma-name : (plain name : List ℕ) → escaped plain ≡ name → NoComma name
no_comma-name plain name is = subst NoComma is (no_comma-escaped plain)

pub ruleset read_names = (no_comma-name)

-- ---- all lines

pub all-more : {X : Type 0} (P : X → Type 0) (items : List X) (item : X) → AllByRecursion P items → P item
    → AllByRecursion P (items ++ (item ∷ []))
all-more P items item all holds = each-append P items (item ∷ []) all (holds, tt)

-- one more line is written
pub users_text-start : (version : ScramVersion) (before : List ℕ) → before ++ users_text version [] ≡ before
users_text-start version before = append-nil before

pub users_text-more : (version : ScramVersion) (before : List ℕ) (users : Records) (k : ℕ) (other : List ℕ × Record)
    → k < length users
    → before ++ users_text version (take (k + 1) users)
    ≡ (before ++ users_text version (take k users)) ++ (user_line version (get_or users k other) ++ (10 ∷ []))
users_text-more version before users k other below = lines_text-more (user_line version) before users k other below

pub ruleset writing = (users_text-start, users_text-more)

-- ---- each user is tested

pub all-next : {X : Type 0} (P : X → Type 0) (items : List X) (k : ℕ) (other : X) → k < length items
    → AllByRecursion P (take k items) → P (get_or items k other) → AllByRecursion P (take (k + 1) items)
all-next P items k other below all holds =
    rw (take_more items k other below) (all-more P (take k items) (get_or items k other) all holds)

pub ruleset each_user = (all-next, all-at)
