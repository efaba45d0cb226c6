-- A client with the keys of a password answers as with the password.
use Rattle.std.proofs.Common.{◌≡◌, ◌≢◌, ◌⊎◌, ◌↔◌, ℕ, List, [], ◌∷◌, ◌++◌, Bool, true, false, Result, Ok, Err, refl, sym, ◌∙◌, ap, subst, inl, inr}
use Rattle.std.specs.Prelude.{T, ◌||◌, is_ok, if◌then◌else◌}
use Rattle.fe2o3_scram.specs.declared.client_secret.IterationLimits.{IterationLimits}
use Rattle.fe2o3_scram.specs.declared.scram_messages.error.ScramErrorKind.{ScramErrorKind}
use Rattle.fe2o3_scram.specs.declared.scram_messages.error.ScramErrorKind.TheVariants.{NormalizeError, StaleKeys}
use Rattle.fe2o3_scram.specs.ChannelBinding.{ClientHeader, needs_strict}
use Rattle.fe2o3_scram.specs.ClientFinal.{Answer, answer_by, answer_of, fit, without_proof_with}
use Rattle.fe2o3_scram.specs.ClientKeys.{ClientKeys, keys_of}
use Rattle.fe2o3_scram.specs.ClientSecret.{Password, Keys, Both}
use Rattle.fe2o3_scram.specs.Laws.{AreKeysOf}
use Rattle.fe2o3_scram.specs.Readings.{IsFirst, NoneHolds, Reads}
use Rattle.fe2o3_scram.specs.Passwords.{PasswordText, IsNormal, password_bytes}
use Rattle.fe2o3_scram.specs.ServerFirst.{ServerFirst, NamesOther, NamesServerFirst, ReadsServerFirst, client_of, nonce_tests}
use Rattle.fe2o3_scram.specs.ServerFirstAnswers.{AnswersServerFirst}
use Rattle.fe2o3_scram.proofs.lemmas.messages.FittingKeyLemmas.{fit_is}
use Rattle.fe2o3_scram.proofs.lemmas.messages.ServerFirstLemmas.{fitting_named}
use Rattle.fe2o3_scram.proofs.lemmas.messages.SomeReadingLemmas.{names_values_or, none-split}
use Rattle.fe2o3_scram.specs.private.Tests.{salt_tests, count_tests, text_grammar_tests}

-- a list of tests with one more after it

abbrev last : {F : Type 0} → F → Type 0 → List (F × Type 0)
last fault A = (fault, A) ∷ []

none_but_last : {F : Type 0} (tests : List (F × Type 0)) (fault other : F) (A B : Type 0) → ¬ B
    → NoneHolds (tests ++ last fault A) → NoneHolds (tests ++ last other B)
none_but_last [] fault other A B fails none = (fails, tt)
none_but_last (test ∷ tests) fault other A B fails none = (none.0, none_but_last tests fault other A B fails none.1)

first_but_last : {F : Type 0} (tests : List (F × Type 0)) (fault other : F) (A B : Type 0) (first : F)
    → (A → first ≢ fault) → IsFirst (tests ++ last fault A) first → IsFirst (tests ++ last other B) first
first_but_last [] fault other A B first fails (inl found) = absurd (fails found.0 found.1)
first_but_last [] fault other A B first fails (inr found) = absurd found.1
first_but_last (test ∷ tests) fault other A B first fails (inl found) = inl found
first_but_last (test ∷ tests) fault other A B first fails (inr found) =
    inr (found.0, first_but_last tests fault other A B first fails found.1)

-- the last test holds, where none before it does
last_holds : {F : Type 0} (tests : List (F × Type 0)) (fault other : F) (A B : Type 0) → B
    → NoneHolds (tests ++ last fault A) → IsFirst (tests ++ last other B) other
last_holds [] fault other A B holds none = inl (holds, refl)
last_holds (test ∷ tests) fault other A B holds none = inr (none.0, last_holds tests fault other A B holds none.1)

-- the tests before that of the secret
abbrev before : List ℕ → IterationLimits → ClientHeader → Bool → List ℕ → List (ScramErrorKind × Type 0)
before nonce limits header strict text = nonce_tests nonce text ++ (salt_tests text ++ (count_tests limits text
    ++ text_grammar_tests strict (needs_strict header || strict) nonce text))

-- a reading goes over to a client whose last test is another: one that does not hold where a value is read, while what
-- is rejected is not rejected by the first client's last test
pub goes_over : (nonce text : List ℕ) (limits : IterationLimits) (header : ClientHeader) (strict : Bool)
    (fault other : ScramErrorKind) (A B : Type 0)
    (answer : Result ServerFirst ScramErrorKind) → (is_ok answer ≡ true → ¬ B) → (A → answer ≢ Err fault)
    → Reads (before nonce limits header strict text ++ last fault A) (NamesServerFirst text) answer
    → Reads (before nonce limits header strict text ++ last other B) (NamesServerFirst text) answer
goes_over nonce text limits header strict fault other A B (Ok first) passes fails reads =
    (none_but_last (before nonce limits header strict text) fault other A B (passes refl) reads.0, reads.1)
goes_over nonce text limits header strict fault other A B (Err kind) passes fails reads =
    first_but_last (before nonce limits header strict text) fault other A B kind (λ holds is. fails holds (ap Err is)) reads

-- keys that read a message fit it
fitting : (keys : ClientKeys) (nonce text : List ℕ) (limits : IterationLimits) (header : ClientHeader)
    (strict : Bool) (first : ServerFirst)
    → ReadsServerFirst (client_of nonce (Keys keys) limits header strict) text (Ok first) → T (fit keys first)
unfolding ReadsServerFirst
fitting keys nonce text limits header strict first reads = elim (names_values_or keys text) [
  | inl has ↦ fitting_named keys text first reads.1 has
  | inr other ↦
      absurd ((none-split (before nonce limits header strict text) (last StaleKeys (NamesOther keys text)) reads.0).1.0 other)
]

-- a message that keys do not reject is read by a password in normal form as by them
by_password : (keys : ClientKeys) (password : PasswordText) (nonce text : List ℕ) (limits : IterationLimits)
    (header : ClientHeader) (strict : Bool)
    (answer : Result ServerFirst ScramErrorKind) → IsNormal password → answer ≢ Err StaleKeys
    → ReadsServerFirst (client_of nonce (Keys keys) limits header strict) text answer
    → ReadsServerFirst (client_of nonce (Password password) limits header strict) text answer
unfolding ReadsServerFirst
by_password keys password nonce text limits header strict answer printable other =
    goes_over nonce text limits header strict _ _ _ _ answer (λ _ un. un printable) (λ _. other)

-- keys of a password are those of the salt and the count that they fit
same_keys : (keys : ClientKeys) (password : List ℕ) (first : ServerFirst) → AreKeysOf keys password
    → T (fit keys first) → keys ≡ keys_of keys.version password first.salt first.count
same_keys keys password first are fits =
    let same = fit_is keys first fits in
    are ∙ ap (λ salt. keys_of keys.version password salt keys.count) (sym same.0)
    ∙ ap (λ count. keys_of keys.version password first.salt count) (sym same.1)

-- and so is the answer by them
same_answer : (keys : ClientKeys) (password : PasswordText) (header : ClientHeader) (bare text : List ℕ) (first : ServerFirst)
    → AreKeysOf keys (password_bytes password)
    → T (fit keys first)
    → answer_of keys.version (Keys keys) header bare text first
    ≡ answer_of keys.version (Password password) header bare text first
same_answer keys password header bare text first are fits =
    ap (λ (made : ClientKeys). answer_by made bare text (without_proof_with header first.nonce))
    (same_keys keys (password_bytes password) first are fits)

pub keys_stand : (keys : ClientKeys) (password : PasswordText) (nonce bare text : List ℕ) (limits : IterationLimits)
    (header : ClientHeader) (strict : Bool)
    (answer : Result Answer ScramErrorKind) → IsNormal password → AreKeysOf keys (password_bytes password)
    → answer ≢ Err StaleKeys
    → AnswersServerFirst keys.version (client_of nonce (Keys keys) limits header strict) bare text answer
    → AnswersServerFirst keys.version (client_of nonce (Password password) limits header strict) bare text answer
keys_stand keys password nonce bare text limits header strict (Ok answer) printable are other (first, reads, is) = (
  first,
  by_password keys password nonce text limits header strict (Ok first) printable (λ wrong. absurd (cc)) reads,
  is ∙ same_answer keys password header bare text first are (fitting keys nonce text limits header strict first reads),
)
keys_stand keys password nonce bare text limits header strict (Err fault) printable are other reads =
    by_password keys password nonce text limits header strict (Err fault) printable
    (λ is. let same : fault ≡ StaleKeys = cc in other (ap (λ (kind : ScramErrorKind). Err kind) same)) reads

-- the keys read what the password reads, or they are of another salt or another count
by_keys : (keys : ClientKeys) (password : PasswordText) (nonce text : List ℕ) (limits : IterationLimits)
    (header : ClientHeader) (strict : Bool) (answer : Result ServerFirst ScramErrorKind) → IsNormal password
    → ReadsServerFirst (client_of nonce (Password password) limits header strict) text answer
    → ReadsServerFirst (client_of nonce (Keys keys) limits header strict) text answer
    ⊎ ReadsServerFirst (client_of nonce (Keys keys) limits header strict) text (Err StaleKeys)
unfolding ReadsServerFirst
by_keys keys password nonce text limits header strict (Err fault) printable reads =
    inl (goes_over nonce text limits header strict _ _ _ _ (Err fault) (λ wrong. absurd (cc)) (λ un. absurd (un printable)) reads)
by_keys keys password nonce text limits header strict (Ok first) printable reads = elim (names_values_or keys text) [
  | inl has ↦ inl (goes_over nonce text limits header strict NormalizeError StaleKeys _ _ (Ok first) (λ _ other. other has)
      (λ un. absurd (un printable)) reads)
  | inr other ↦ inr (last_holds (before nonce limits header strict text) NormalizeError StaleKeys (¬ IsNormal password)
      (NamesOther keys text) other reads.0)
]

pub keys_answer : (keys : ClientKeys) (password : PasswordText) (nonce bare text : List ℕ) (limits : IterationLimits)
    (header : ClientHeader) (strict : Bool)
    (answer : Result Answer ScramErrorKind) → IsNormal password → AreKeysOf keys (password_bytes password)
    → AnswersServerFirst keys.version (client_of nonce (Password password) limits header strict) bare text answer
    → AnswersServerFirst keys.version (client_of nonce (Keys keys) limits header strict) bare text answer
    ⊎ AnswersServerFirst keys.version (client_of nonce (Keys keys) limits header strict) bare text (Err StaleKeys)
keys_answer keys password nonce bare text limits header strict (Ok answer) printable are (first, reads, is) =
    elim (by_keys keys password nonce text limits header strict (Ok first) printable reads) [
      | inl fits ↦ inl (
        first,
        fits,
        is ∙ sym (same_answer keys password header bare text first are (fitting keys nonce text limits header strict first fits)),
      )
      | inr other ↦ inr other
    ]
keys_answer keys password nonce bare text limits header strict (Err fault) printable are reads =
    by_keys keys password nonce text limits header strict (Err fault) printable reads

-- a client with both reads what a password in normal form reads
read_by_both : (keys : ClientKeys) (password : PasswordText) (nonce text : List ℕ) (limits : IterationLimits)
    (header : ClientHeader) (strict : Bool) (answer : Result ServerFirst ScramErrorKind) → IsNormal password
    → ReadsServerFirst (client_of nonce (Both password keys) limits header strict) text answer
    ↔ ReadsServerFirst (client_of nonce (Password password) limits header strict) text answer
unfolding ReadsServerFirst
read_by_both keys password nonce text limits header strict answer printable = (
  goes_over nonce text limits header strict _ _ _ _ answer (λ _ un. un printable) (λ both. absurd (both.1 printable)),
  goes_over nonce text limits header strict _ _ _ _ answer (λ _ both. both.1 printable) (λ un. absurd (un printable)),
)

-- and answers by the keys of that password
answer_by_both : (keys : ClientKeys) (password : PasswordText) (header : ClientHeader) (bare text : List ℕ) (first : ServerFirst)
    → AreKeysOf keys (password_bytes password)
    → answer_of keys.version (Both password keys) header bare text first
    ≡ answer_of keys.version (Password password) header bare text first
answer_by_both keys password header bare text first are =
    ap (λ (made : ClientKeys). answer_by made bare text (without_proof_with header first.nonce)) (go (fit keys first) refl)
  where
    go : (fits : Bool) → fits ≡ fit keys first
        → (if fits then keys else keys_of keys.version (password_bytes password) first.salt first.count)
        ≡ keys_of keys.version (password_bytes password) first.salt first.count
    go true is = same_keys keys (password_bytes password) first are (subst T is tt)
    go false is = refl

pub both_answer : (keys : ClientKeys) (password : PasswordText) (nonce bare text : List ℕ) (limits : IterationLimits)
    (header : ClientHeader) (strict : Bool)
    (answer : Result Answer ScramErrorKind) → IsNormal password → AreKeysOf keys (password_bytes password)
    → AnswersServerFirst keys.version (client_of nonce (Both password keys) limits header strict) bare text answer
    ↔ AnswersServerFirst keys.version (client_of nonce (Password password) limits header strict) bare text answer
both_answer keys password nonce bare text limits header strict (Ok answer) printable are = (
  λ answers. (
    answers.0,
    (read_by_both keys password nonce text limits header strict (Ok answers.0) printable).0 answers.1,
    answers.2 ∙ answer_by_both keys password header bare text answers.0 are,
  ),
  λ answers. (
    answers.0,
    (read_by_both keys password nonce text limits header strict (Ok answers.0) printable).1 answers.1,
    answers.2 ∙ sym (answer_by_both keys password header bare text answers.0 are),
  ),
)
both_answer keys password nonce bare text limits header strict (Err fault) printable are =
    read_by_both keys password nonce text limits header strict (Err fault) printable
