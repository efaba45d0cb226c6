-- Texts of lines, whatever a line says.
use Rattle.std.proofs.Common.{◌≡◌, ◌≢◌, ◌⊎◌, ◌≤◌, ◌<◌, ◌+◌, ℕ, zero, suc, List, [], ◌∷◌, ◌++◌, length, get_or, take, Result, Ok, Err, refl, sym, ◌∙◌, ap, subst, inl, inr, arith, append_assoc}
use Rattle.std.proofs.lemmas.List.{length-append, take_more}
use Rattle.std.specs.List.{AllByRecursion}
use Rattle.fe2o3_scram.specs.declared.credentials.record_lines.ReadLinesError.{ReadLinesError}
use Rattle.fe2o3_scram.specs.declared.credentials.record_lines.ReadLinesErrorKind.{ReadLinesErrorKind}
use Rattle.fe2o3_scram.specs.RecordLines.{ReadsLines, lines_text}

-- ---- one line more

lines_text-append : {U : Type 0} (line_of : U → List ℕ) (users others : List U)
    → lines_text line_of (users ++ others) ≡ lines_text line_of users ++ lines_text line_of others
lines_text-append line_of [] others = refl
lines_text-append line_of (user ∷ users) others =
    ap (λ (rest : List ℕ). line_of user ++ 10 ∷ rest) (lines_text-append line_of users others)
    ∙ sym (append_assoc (line_of user) (10 ∷ lines_text line_of users) (lines_text line_of others))

-- one more line is read
pub one_more_line : {U : Type 0} (line_of : U → List ℕ) (text rest more : List ℕ) (users : List U) (user : U)
    → text ≡ lines_text line_of users ++ rest → rest ≡ line_of user ++ 10 ∷ more
    → text ≡ lines_text line_of (users ++ (user ∷ [])) ++ more
one_more_line line_of text rest more users user is line =
    is ∙ ap (λ (tail : List ℕ). lines_text line_of users ++ tail)
    (line ∙ sym (append_assoc (line_of user) (10 ∷ []) more))
    ∙ sym (append_assoc (lines_text line_of users) (line_of user ++ (10 ∷ [])) more)
    ∙ ap (λ (start : List ℕ). start ++ more) (sym (lines_text-append line_of users (user ∷ [])))

-- one more line is written
pub lines_text-more : {U : Type 0} (line_of : U → List ℕ) (before : List ℕ) (users : List U) (k : ℕ) (other : U)
    → k < length users
    → before ++ lines_text line_of (take (k + 1) users)
    ≡ (before ++ lines_text line_of (take k users)) ++ (line_of (get_or users k other) ++ (10 ∷ []))
lines_text-more line_of before users k other below =
    ap (λ (rest : List ℕ). before ++ rest) (ap (lines_text line_of) (take_more users k other below)
    ∙ lines_text-append line_of (take k users) (get_or users k other ∷ []))
    ∙ sym (append_assoc before (lines_text line_of (take k users)) (line_of (get_or users k other) ++ (10 ∷ [])))

abbrev error_of : ℕ → ReadLinesErrorKind → ReadLinesError
error_of line kind = record { line = line; kind = kind }

-- ---- one answer

-- lines that differ, of each other and of each head with a fault
pub record AreApart {U : Type 0} (line_of : U → List ℕ) (Is : U → Type 0)
    (Fault : List ℕ → ReadLinesErrorKind → Type 0) : Type 0 where
  pub one_head : (text rest more : List ℕ) (user other : U) → Is user → Is other → text ≡ line_of user ++ 10 ∷ rest
      → text ≡ line_of other ++ 10 ∷ more → (user ≡ other) × (rest ≡ more)
  pub one_fault : (text : List ℕ) (kind other : ReadLinesErrorKind) → Fault text kind → Fault text other
      → kind ≡ other
  pub no_fault : (text rest : List ℕ) (user : U) (kind : ReadLinesErrorKind) → Is user
      → text ≡ line_of user ++ 10 ∷ rest → ¬ Fault text kind
  pub no_empty_fault : (kind : ReadLinesErrorKind) → ¬ Fault [] kind

not_empty : (line rest : List ℕ) → [] ≢ line ++ 10 ∷ rest
not_empty [] rest same = absurd (cc)
not_empty (x ∷ line) rest same = absurd (cc)

module _ {U : Type 0} (line_of : U → List ℕ) (Is : U → Type 0) (Fault : List ℕ → ReadLinesErrorKind → Type 0)
    (apart : AreApart line_of Is Fault) where
  one_list : (users others : List U) → AllByRecursion Is users → AllByRecursion Is others
      → lines_text line_of users ≡ lines_text line_of others → users ≡ others
  one_list [] [] are too same = refl
  one_list [] (other ∷ others) are too same = absurd (not_empty (line_of other) (lines_text line_of others) same)
  one_list (user ∷ users) [] are too same = absurd (not_empty (line_of user) (lines_text line_of users) (sym same))
  one_list (user ∷ users) (other ∷ others) are too same =
      let head = apart.one_head (lines_text line_of (user ∷ users)) (lines_text line_of users)
      (lines_text line_of others) user other are.0 too.0 refl same in
      let tail = one_list users others are.1 too.1 head.1 in
      λ i. head.0 i ∷ tail i

  behind : (user : U) (users : List U) (rest : List ℕ)
      → lines_text line_of (user ∷ users) ++ rest ≡ line_of user ++ 10 ∷ (lines_text line_of users ++ rest)
  behind user users rest = append_assoc (line_of user) (10 ∷ lines_text line_of users) rest

  -- users and a fault are not both said
  not_both : (users front : List U) (rest : List ℕ) (kind : ReadLinesErrorKind) → AllByRecursion Is users
      → AllByRecursion Is front → lines_text line_of users ≡ lines_text line_of front ++ rest → ¬ Fault rest kind
  not_both [] [] rest kind are too same fault =
      apart.no_empty_fault kind (subst (λ (text : List ℕ). Fault text kind) (sym same) fault)
  not_both [] (other ∷ front) rest kind are too same fault =
      not_empty (line_of other) (lines_text line_of front ++ rest) (same ∙ behind other front rest)
  not_both (user ∷ users) [] rest kind are too same fault =
      apart.no_fault rest (lines_text line_of users) user kind are.0 (sym same) fault
  not_both (user ∷ users) (other ∷ front) rest kind are too same fault =
      let head = apart.one_head (lines_text line_of (user ∷ users)) (lines_text line_of users)
      (lines_text line_of front ++ rest) user other are.0 too.0 refl (same ∙ behind other front rest) in
      not_both users front rest kind are.1 too.1 head.1 fault

  -- a fault is said in one line
  one_place : (users front : List U) (rest more : List ℕ) (kind other : ReadLinesErrorKind)
      → AllByRecursion Is users → AllByRecursion Is front
      → lines_text line_of users ++ rest ≡ lines_text line_of front ++ more → Fault rest kind → Fault more other
      → (length users ≡ length front) × (kind ≡ other)
  one_place [] [] rest more kind other are too same fault so =
      (refl, apart.one_fault more kind other (subst (λ (text : List ℕ). Fault text kind) same fault) so)
  one_place [] (one ∷ front) rest more kind other are too same fault so =
      absurd (apart.no_fault rest (lines_text line_of front ++ more) one kind too.0 (same ∙ behind one front more)
      fault)
  one_place (user ∷ users) [] rest more kind other are too same fault so =
      absurd (apart.no_fault more (lines_text line_of users ++ rest) user other are.0
      (sym same ∙ behind user users rest) so)
  one_place (user ∷ users) (one ∷ front) rest more kind other are too same fault so =
      let head = apart.one_head (lines_text line_of (user ∷ users) ++ rest) (lines_text line_of users ++ rest)
      (lines_text line_of front ++ more) user one are.0 too.0 (behind user users rest)
      (same ∙ behind one front more) in
      let tail = one_place users front rest more kind other are.1 too.1 head.1 fault so in
      (ap suc tail.0, tail.1)

  pub one_lines_answer : (text : List ℕ) (answer other : Result (List U) ReadLinesError)
      → ReadsLines line_of Is Fault text answer → ReadsLines line_of Is Fault text other → answer ≡ other
  one_lines_answer text (Ok users) (Ok others) is too =
      ap Ok (one_list users others is.0 too.0 (sym is.1 ∙ too.1))
  one_lines_answer text (Ok users) (Err error) is (front, rest, are, whole, line, fault) =
      absurd (not_both users front rest error.kind is.0 are (sym is.1 ∙ whole) fault)
  one_lines_answer text (Err error) (Ok users) (front, rest, are, whole, line, fault) is =
      absurd (not_both users front rest error.kind is.0 are (sym is.1 ∙ whole) fault)
  one_lines_answer text (Err error) (Err other) (users, rest, are, whole, line, fault)
      (front, more, are_too, whole_too, line_too, too) =
      let place = one_place users front rest more error.kind other.kind are are_too (sym whole ∙ whole_too) fault
      too in
      let lines : error.line ≡ other.line = line ∙ ap (λ (n : ℕ). n + 1) place.0 ∙ sym line_too in
      let kinds = place.1 in
      λ i. Err (error_of (lines i) (kinds i))

-- ---- some answer

-- the text begins with a user's line, or it has a fault
abbrev pub HeadOr : {U : Type 0} → (U → List ℕ) → (U → Type 0) → (List ℕ → ReadLinesErrorKind → Type 0) → List ℕ
    → Type 0
HeadOr {U} line_of Is Fault text = ((user : U) × (rest : List ℕ) × Is user × (text ≡ line_of user ++ 10 ∷ rest))
    ⊎ ((kind : ReadLinesErrorKind) × Fault text kind)

-- what follows a line is shorter
shorter : (line rest text : List ℕ) (n : ℕ) → text ≡ line ++ 10 ∷ rest → length text ≤ suc n → length rest ≤ n
shorter line rest text n is small =
    let whole : length text ≡ length line + suc (length rest) = ap length is ∙ length-append line (10 ∷ rest) in
    omega (arith, small, whole)

module _ {U : Type 0} (line_of : U → List ℕ) (Is : U → Type 0) (Fault : List ℕ → ReadLinesErrorKind → Type 0)
    (head_or : (text : List ℕ) → text ≢ [] → HeadOr line_of Is Fault text) where
  abbrev LinesOr : List ℕ → Type 0
  LinesOr text = (answer : Result (List U) ReadLinesError) × ReadsLines line_of Is Fault text answer

  -- a user's line is in front of what has an answer
  user_first : (text rest : List ℕ) (user : U) → Is user → text ≡ line_of user ++ 10 ∷ rest → LinesOr rest
      → LinesOr text
  user_first text rest user is whole (Ok users, spells) = (
    Ok (user ∷ users),
    ((is, spells.0), whole ∙ ap (λ (tail : List ℕ). line_of user ++ 10 ∷ tail) spells.1),
  )
  user_first text rest user is whole (Err error, (users, tail, are, spelt, line, fault)) = (
    Err (error_of (error.line + 1) error.kind),
    (
      user ∷ users,
      tail,
      (is, are),
      whole ∙ ap (λ (more : List ℕ). line_of user ++ 10 ∷ more) spelt
          ∙ sym (append_assoc (line_of user) (10 ∷ lines_text line_of users) tail),
      omega (arith, line),
      fault,
    ),
  )

  lines_or : (n : ℕ) (text : List ℕ) → length text ≤ n → LinesOr text
  lines_or n [] small = (Ok [], (tt, refl))
  lines_or zero (x ∷ text) small = absurd (omega (arith, small))
  lines_or (suc n) (x ∷ text) small = elim (head_or (x ∷ text) (λ same. absurd (cc))) [
    | inl (user, rest, is, whole) ↦ user_first (x ∷ text) rest user is whole
        (lines_or n rest (shorter (line_of user) rest (x ∷ text) n whole small))
    | inr (kind, fault) ↦ (Err (error_of 1 kind), ([], x ∷ text, tt, refl, refl, fault))
  ]

  pub some_lines_answer : (text : List ℕ) → (answer : Result (List U) ReadLinesError)
      × ReadsLines line_of Is Fault text answer
  some_lines_answer text = lines_or (length text) text (omega arith)
