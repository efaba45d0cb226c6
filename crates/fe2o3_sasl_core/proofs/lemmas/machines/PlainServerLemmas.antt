-- The test of PLAIN's passwords: which password is tested, and what that costs.
use Rattle.std.proofs.Common.{◌≡◌, ◌↔◌, ◌≤◌, ◌+◌, ℕ, Bool, IsTrue, List, [], ◌∷◌, Option, chars, sym, ◌∙◌, ap, subst, refl, inl, inr, arith}
use Rattle.std.specs.Prelude.{None, Some, Result, Ok, Err, IfErr}
use Rattle.saslprep.specs.Saslprep.{refusal}
use Rattle.saslprep.specs.declared.Unassigned.TheVariants.{Allowed}
use Rattle.saslprep.specs.declared.error.SaslprepError.{SaslprepError}
use Rattle.fe2o3_scram.specs.Credentials.{CheckingCosts, MeetsRecord, Store, Record, making_tests, record_at}
use Rattle.fe2o3_scram.specs.Passwords.{IsNormal, PasswordText, Typed, Prepared}
use Rattle.fe2o3_scram.specs.Readings.{NoneHolds}
use Rattle.fe2o3_scram.proofs.lemmas.providers.PasswordLemmas.{keyless}
use Rattle.fe2o3_scram.proofs.lemmas.texts.DecisionLemmas.{Decided, Found, both_or, not_or, printable_or, same_number_or}
use Rattle.fe2o3_sasl_core.specs.PlainServer.{HasPassword, IsLetIn, IsTaken, MeetsUser, PlainLogsIn, PlainParts, PlainRules, SpellsPlain, TestedPassword, TestingCosts, TestsPassword, count_or, plain_hmacs, saslprep_text}
use Rattle.fe2o3_sasl_core.specs.private.ServerMoves.{TakesAtMost}
use Rattle.fe2o3_sasl_core.specs.declared.plain_server.passwords.PlainPasswords.{PlainPasswords}
use Rattle.fe2o3_sasl_core.specs.declared.plain_server.passwords.PlainPasswords.TheVariants as forms
use Rattle.fe2o3_sasl_core.proofs.lemmas.machines.PlainMessageLemmas.{one_message}

-- an unknown user has none, and a record without keys is that of none
pub unknown : (provider : Store) (user : List ℕ) (password : PasswordText) (stored : Record) (met : Bool)
    → record_at provider.records user ≡ None → stored.stored_key ≡ []
    → (IsTrue met ↔ MeetsRecord provider.version password stored)
    → (IsTrue met ↔ MeetsUser provider user password)
unknown provider user password stored met none empty verdict = (
  λ yes. absurd (keyless provider.version password stored empty (verdict.0 yes)),
  λ has. let wrong : None ≡ Some has.0 = sym none ∙ has.1 in absurd (cc),
)

-- a test against the record of a user, and against a mock record of that count, costs what its count says
pub costs_known : (password : PasswordText) (count : ℕ) (found : Option Record) (stored : Record) (before after : ℕ)
    → Some stored ≡ found → CheckingCosts password stored.count before after
    → CheckingCosts password (count_or count found) before after
costs_known password count found stored before after is costs =
    subst (λ (found : Option Record). CheckingCosts password (count_or count found) before after) is costs

pub costs_unknown : (password : PasswordText) (count : ℕ) (found : Option Record) (mock before after : ℕ)
    → None ≡ found → mock ≡ count → CheckingCosts password mock before after
    → CheckingCosts password (count_or count found) before after
costs_unknown password count found mock before after is same costs =
    subst (λ (found : Option Record). CheckingCosts password (count_or count found) before after) is
    (subst (λ (count : ℕ). CheckingCosts password count before after) same costs)

-- ---- the tested password

-- there is one at most
one_tested : (passwords : PlainPasswords) (text : List ℕ) (password other : PasswordText)
    → TestedPassword passwords text password → TestedPassword passwords text other → password ≡ other
one_tested forms.Typed text password other is too = is ∙ sym too
one_tested forms.Prepared text password other is too = is ∙ sym too
one_tested forms.Saslprep text password other is too = is.2 ∙ sym too.2

-- what it says of the user, the message has
has_tested : (passwords : PlainPasswords) (provider : Store) (parts : PlainParts) (password : PasswordText)
    (met : Bool) → TestedPassword passwords parts.password password
    → (IsTrue met ↔ MeetsUser provider parts.user password) → (IsTrue met ↔ HasPassword passwords provider parts)
has_tested passwords provider parts password met is verdict = (
  λ yes. (password, is, verdict.0 yes),
  λ has. verdict.1 (subst (MeetsUser provider parts.user)
      (one_tested passwords parts.password has.0 password has.1 is) has.2),
)

-- and there is one, or none
tested_where : (text : List ℕ) (why : Option SaslprepError) (out : List ℕ) → refusal Allowed (chars text) ≡ why
    → saslprep_text text ≡ out → Found (TestedPassword forms.Saslprep text)
tested_where text None [] is empty = inr (λ password tested. tested.1 empty)
tested_where text None (byte ∷ bytes) is some = inl (
  Prepared (saslprep_text text),
  (is, (λ empty. let no : byte ∷ bytes ≡ [] = sym some ∙ empty in absurd (cc)), refl),
)
tested_where text (Some why) out is some =
    inr (λ password tested. let no : Some why ≡ None = sym is ∙ tested.0 in absurd (cc))

tested_or : (passwords : PlainPasswords) (text : List ℕ) → Found (TestedPassword passwords text)
tested_or forms.Typed text = inl (Typed text, refl)
tested_or forms.Prepared text = inl (Prepared text, refl)
tested_or forms.Saslprep text =
    tested_where text (refusal Allowed (chars text)) (saslprep_text text) refl refl

normal_or : (password : PasswordText) → Decided (IsNormal password)
normal_or (Typed text) = printable_or text
normal_or (Prepared text) = inl (tt {0})

costs_tested : (passwords : PlainPasswords) (text : List ℕ) (password : PasswordText) (count before after : ℕ)
    → TestedPassword passwords text password → CheckingCosts password count before after
    → TestingCosts passwords text count before after
costs_tested passwords text password count before after is costs = (
  λ other too. subst (λ (password : PasswordText). CheckingCosts password count before after)
      (one_tested passwords text password other is too) costs,
  λ none. absurd (none password is),
)

-- and where the server's form is this one
pub has_form : (passwords form : PlainPasswords) (provider : Store) (parts : PlainParts) (password : PasswordText)
    (met : Bool) → passwords ≡ form → TestedPassword form parts.password password
    → (IsTrue met ↔ MeetsUser provider parts.user password) → (IsTrue met ↔ HasPassword passwords provider parts)
has_form passwords form provider parts password met same is verdict =
    subst (λ (passwords : PlainPasswords). IsTrue met ↔ HasPassword passwords provider parts) (sym same)
    (has_tested form provider parts password met is verdict)

pub costs_form : (passwords form : PlainPasswords) (text : List ℕ) (password : PasswordText) (count before after : ℕ)
    → passwords ≡ form → TestedPassword form text password → CheckingCosts password count before after
    → TestingCosts passwords text count before after
costs_form passwords form text password count before after same is costs =
    subst (λ (passwords : PlainPasswords). TestingCosts passwords text count before after) (sym same)
    (costs_tested form text password count before after is costs)

-- ---- the cost

-- where no password is tested, none is made
unmade : (rules : PlainRules) (text : List ℕ) (parts : PlainParts) (before after : ℕ) → SpellsPlain parts text
    → IsTaken rules.accept_authzid parts
    → TestingCosts rules.passwords parts.password (count_or rules.count (record_at rules.provider.records parts.user))
    before after
    → Found (TestedPassword rules.passwords parts.password) → ((count : ℕ) → ¬ TestsPassword rules text count)
    → after ≡ before
unmade rules text parts before after spells taken costs (inl (password, tested)) none =
    (costs.0 password tested).1 (λ passed. none (count_or rules.count (record_at rules.provider.records parts.user))
    (parts, password, spells, taken, tested, refl, passed))
unmade rules text parts before after spells taken costs (inr untested) none = costs.1 untested

-- that of a message is that of the test of its password
pub cost_of_test : (rules : PlainRules) (text : List ℕ) (parts : PlainParts) (before after : ℕ) → SpellsPlain parts text
    → IsTaken rules.accept_authzid parts
    → TestingCosts rules.passwords parts.password (count_or rules.count (record_at rules.provider.records parts.user))
    before after
    → (n : ℕ) → plain_hmacs rules text n → after ≡ before + n
cost_of_test rules text parts before after spells taken costs n (inl (count, tests, is)) =
    let (other, password, too, accepted, tested, counted, passed) = tests in
    let same = one_message text other parts too spells in
    let count_is : count ≡ count_or rules.count (record_at rules.provider.records parts.user) =
    counted ∙ ap (λ (parts : PlainParts). count_or rules.count (record_at rules.provider.records parts.user)) same in
    let checked = costs.0 password
    (subst (λ (parts : PlainParts). TestedPassword rules.passwords parts.password password) same tested) in
    let made = checked.0 (subst (λ (count : ℕ). NoneHolds (making_tests password count)) count_is passed) in
    omega (arith, made, count_is, is)
cost_of_test rules text parts before after spells taken costs n (inr (none, zero)) =
    let same = unmade rules text parts before after spells taken costs (tested_or rules.passwords parts.password) none in
    omega (arith, same, zero)

-- a test sets no meter back
not_less : (password : PasswordText) (count before after : ℕ) → CheckingCosts password count before after
    → before ≤ after
not_less password count before after costs = elim (both_or (not_or (not_or (normal_or password)))
    (both_or (not_or (same_number_or count 0)) (inl (tt {0})))) [
      | inl passed ↦ let made = costs.0 passed in omega (arith, made)
      | inr refused ↦ let same = costs.1 refused in omega (arith, same)
    ]

not_less_tested : (passwords : PlainPasswords) (text : List ℕ) (count before after : ℕ)
    → TestingCosts passwords text count before after → Found (TestedPassword passwords text) → before ≤ after
not_less_tested passwords text count before after costs (inl (password, tested)) =
    not_less password count before after (costs.0 password tested)
not_less_tested passwords text count before after costs (inr none) =
    let same = costs.1 none in omega (arith, same)

pub most_of_test : (rules : PlainRules) (text : List ℕ) (parts : PlainParts) (before after : ℕ) → SpellsPlain parts text
    → IsTaken rules.accept_authzid parts
    → TestingCosts rules.passwords parts.password (count_or rules.count (record_at rules.provider.records parts.user))
    before after
    → TakesAtMost (plain_hmacs rules text) before after
most_of_test rules text parts before after spells taken costs = (
  not_less_tested rules.passwords parts.password
      (count_or rules.count (record_at rules.provider.records parts.user)) before after costs
      (tested_or rules.passwords parts.password),
  λ n takes.
      let made = cost_of_test rules text parts before after spells taken costs n takes in omega (arith, made),
)

-- and that of a text that is no message to be tested is nothing
pub no_test : (rules : PlainRules) (text : List ℕ)
    → ((parts : PlainParts) → SpellsPlain parts text → ¬ IsTaken rules.accept_authzid parts) → (n : ℕ)
    → plain_hmacs rules text n → n ≡ 0
no_test rules text none n (inl (count, tests, is)) = absurd (none tests.0 tests.2 tests.3)
no_test rules text none n (inr (other, zero)) = zero

-- ---- a message

-- one whose parts are not let in logs nobody in
pub not_logged_in : (rules : PlainRules) (text : List ℕ) (parts : PlainParts) → SpellsPlain parts text
    → ¬ IsLetIn rules parts → (other : PlainParts) → ¬ PlainLogsIn rules text other
not_logged_in rules text parts spells wrong other is =
    wrong (subst (IsLetIn rules) (one_message text other parts is.0 spells) is.2)

-- and one that is accepted for a test logs in exactly if it is let in
pub logs_in_where : (rules : PlainRules) (text : List ℕ) (parts : PlainParts) (is : Bool) → SpellsPlain parts text
    → IsTaken rules.accept_authzid parts → (IsTrue is ↔ IsLetIn rules parts)
    → IsTrue is ↔ ((other : PlainParts) × PlainLogsIn rules text other)
logs_in_where rules text parts is spells taken verdict = (
  λ yes. (parts, (spells, taken, verdict.0 yes)),
  λ (other, logs). verdict.1 (subst (IsLetIn rules) (one_message text other parts logs.0 spells) logs.2),
)

-- ---- errors

-- an error that means this whatever it is
pub err_where : {X F P : Type 0} (result : Result X F) → P → IfErr result (λ _. P)
err_where (Ok value) so = tt
err_where (Err fault) so = so
