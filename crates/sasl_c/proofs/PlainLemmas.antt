-- Messages of PLAIN, and whom they log in (RFC 4616, section 2).
use Rattle.std.proofs.Common.{arith, true, false, inl, inr, refl, sym, ap, ◌∙◌, ◌+◌, cond, ◌≡◌, ◌≢◌, ◌∷◌, ℕ, List, []}
use Rattle.std.specs.Prelude.{Bool, Err, Ok, Option, None, Some, nat_eq}
use Rattle.std.specs.Cmp.Lexicographic.{pointwise}
use Rattle.std.proofs.lemmas.Slice.Eq.{bytes_eq-Decides}
use Rattle.std.specs.Str.{IsUtf8}
use Rattle.fe2o3_scram.specs.Readings.{IsFirst}
use Rattle.fe2o3_scram.proofs.lemmas.texts.CutLemmas.{not_without, without-uncut}
use Rattle.sasl_c.specs.declared.status.Status.TheVariants as statuses
use Rattle.sasl_c.specs.declared.records.ScramRecord.{ScramRecord as Struct}
use Rattle.fe2o3_scram.specs.declared.scram_messages.error.ServerScramErrorKind.TheVariants.{AuthenticationFailed}
use Rattle.fe2o3_scram.specs.ActingRights.{may_act}
use Rattle.fe2o3_scram.specs.ScramClient.{identity_named}
use Rattle.fe2o3_scram.specs.Credentials.{MeetsRecord, Record, VersionedRecord}
use Rattle.fe2o3_sasl_core.specs.PlainServer.{IsTaken, PlainLogsIn, PlainParts, PlainRules, SpellsPlain, asked_identity, plain_hmacs}
use Rattle.fe2o3_sasl_core.specs.declared.plain_server.passwords.PlainPasswords.{PlainPasswords}
use Rattle.fe2o3_sasl_core.specs.declared.plain_server.passwords.PlainPasswords.TheVariants as forms
use Rattle.fe2o3_sasl_core.proofs.lemmas.machines.PlainMessageLemmas.{one_message}
use Rattle.sasl_c.specs.Acting.{rights_for}
use Rattle.sasl_c.specs.Plain.{AreTerms, ClaimsPlainIdentity, FirstShown, HasUsersPassword, PlainTerms, VerifiesPlain, VerifyingCosts, form_number, plain_rules_of, store_of, word_tests}
use Rattle.sasl_c.specs.Records.{ShowsRecord, stored_of}
use Rattle.sasl_c.proofs.FieldLemmas.{one_number}
use Rattle.sasl_c.proofs.StatusLemmas.{carried}

-- ---- the words of a message

pub no_identity_text : (identity user password : List ℕ) → ¬ IsUtf8 identity
    → IsFirst (word_tests identity user password) statuses.NotUtf8
no_identity_text identity user password wrong = inl (inl wrong, refl)

pub no_user_text : (identity user password : List ℕ) → ¬ IsUtf8 user
    → IsFirst (word_tests identity user password) statuses.NotUtf8
no_user_text identity user password wrong = inl (inr (inl wrong), refl)

pub no_password_text : (identity user password : List ℕ) → ¬ IsUtf8 password
    → IsFirst (word_tests identity user password) statuses.NotUtf8
no_password_text identity user password wrong = inl (inr (inr wrong), refl)

pub ruleset words = (no_identity_text, no_user_text, no_password_text)

pub ruleset zeros = (not_without, without-uncut)

-- ---- the first record that is shown

one_shown : (kept : Struct) (shown other : VersionedRecord) → ShowsRecord kept shown → ShowsRecord kept other
    → shown ≡ other
one_shown kept shown other is too =
    let version = one_number shown.version other.version (is.0 ∙ sym too.0) in
    let stored = is.2 ∙ (ap (λ known. stored_of known kept) version ∙ sym too.2) in
    λ i. record { version = version i; stored = stored i }

-- there is one at most
pub one_first : (records : List Struct) (found other : Option VersionedRecord) → FirstShown records found
    → FirstShown records other → found ≡ other
one_first [] found other is too = is ∙ sym too
one_first (kept ∷ rest) found other (inl (shown, is, same)) (inl (second, too, equal)) =
    same ∙ (ap Some (one_shown kept shown second is too) ∙ sym equal)
one_first (kept ∷ rest) found other (inl (shown, is, same)) (inr (none, later)) = absurd (none shown is)
one_first (kept ∷ rest) found other (inr (none, later)) (inl (second, too, equal)) = absurd (none second too)
one_first (kept ∷ rest) found other (inr (none, later)) (inr (also, too)) = one_first rest found other later too

-- ---- whom a message logs in

found_in : (test : Bool) (mine stored : Record) → cond test (Some mine) None ≡ Some stored → stored ≡ mine
found_in true mine stored is = cc
found_in false mine stored is = absurd (cc)

-- the user by whose name the rights are
one_user : (message user : List ℕ) (parts other : PlainParts) → SpellsPlain parts message → user ≡ parts.user
    → SpellsPlain other message → user ≡ other.user
one_user message user parts other is named spells =
    named ∙ ap (λ (p : PlainParts). p.user) (one_message message parts other is spells)

abbrev MayAct : PlainTerms → PlainParts → List ℕ → Type 0
MayAct terms parts user = may_act (rights_for user terms.identities) parts.user (asked_identity parts) ≡ true

-- a message that logs in has its user's password
pub has_password : (terms : PlainTerms) (records : List Struct) (message user : List ℕ) (parts : PlainParts)
    (found : Option VersionedRecord) (rules : PlainRules) → SpellsPlain parts message → user ≡ parts.user
    → FirstShown records found → rules ≡ plain_rules_of terms user (store_of user found)
    → ((other : PlainParts) × PlainLogsIn rules message other) → HasUsersPassword terms records message
has_password terms records message user parts found rules is named first same logs =
    go found first (carried (λ (r : PlainRules). (other : PlainParts) × PlainLogsIn r message other) rules
    (plain_rules_of terms user (store_of user found)) same logs)
  where
    go : (found : Option VersionedRecord) → FirstShown records found
        → ((other : PlainParts) × PlainLogsIn (plain_rules_of terms user (store_of user found)) message other)
        → HasUsersPassword terms records message
    go None first (other, logs) = let at = logs.2.0.2.1 in absurd (cc)
    go (Some shown) first (other, logs) =
        let has = logs.2.0 in (
          other,
          shown,
          logs.0,
          logs.1,
          first,
          (
            has.0,
            has.1,
            carried (λ (s : Record). MeetsRecord shown.version has.0 s) has.2.0 shown.stored
                (found_in (pointwise nat_eq user other.user) shown.stored has.2.0 has.2.1) has.2.2,
          ),
          carried (MayAct terms other) user other.user (one_user message user parts other is named logs.0) logs.2.1,
        )

-- and one that has it logs in
pub password_logs_in : (terms : PlainTerms) (records : List Struct) (message user : List ℕ) (parts : PlainParts)
    (found : Option VersionedRecord) (rules : PlainRules) → SpellsPlain parts message → user ≡ parts.user
    → FirstShown records found → rules ≡ plain_rules_of terms user (store_of user found)
    → HasUsersPassword terms records message → (other : PlainParts) × PlainLogsIn rules message other
password_logs_in terms records message user parts found rules is named first same
    (other, shown, spells, taken, found_first, (password, tested, meets), may) =
    let one = one_first records found (Some shown) first found_first in
    let own : user ≡ other.user = one_user message user parts other is named spells in
    let here : pointwise nat_eq user other.user ≡ true = (bytes_eq-Decides user other.user).1 own in
    let at = carried (λ test. cond test (Some shown.stored) None ≡ Some shown.stored) true
    (pointwise nat_eq user other.user) (sym here) refl in
    carried (λ (r : PlainRules). (other : PlainParts) × PlainLogsIn r message other)
    (plain_rules_of terms user (store_of user (Some shown))) rules
    (sym (same ∙ ap (λ (f : Option VersionedRecord). plain_rules_of terms user (store_of user f)) one)) (
      other,
      (
        spells,
        taken,
        ((password, tested, (shown.stored, at, meets)), carried (MayAct terms other) other.user user (sym own) may),
      ),
    )

-- what the test costs
pub costs : (terms : PlainTerms) (records : List Struct) (message user : List ℕ) (parts : PlainParts)
    (found : Option VersionedRecord) (rules : PlainRules) (before after : ℕ) → SpellsPlain parts message
    → IsTaken true parts → user ≡ parts.user → FirstShown records found
    → rules ≡ plain_rules_of terms user (store_of user found)
    → ((n : ℕ) → plain_hmacs rules message n → after ≡ before + n)
    → VerifyingCosts terms records message before after
costs terms records message user parts found rules before after is taken named first same cost = (
  λ name other n (parts2, spells, taken2, called) first2 makes.
      let one = one_first records other found first2 first in
      let own : name ≡ user =
      called ∙ (ap (λ (p : PlainParts). p.user) (one_message message parts2 parts spells is) ∙ sym named) in
      cost n (carried (λ (r : PlainRules). plain_hmacs r message n)
      (plain_rules_of terms name (store_of name other)) rules
      (ap (λ (u : List ℕ). plain_rules_of terms u (store_of u other)) own
      ∙ (ap (λ (f : Option VersionedRecord). plain_rules_of terms user (store_of user f)) one ∙ sym same)) makes),
  λ none. absurd (none user (parts, is, taken, named)),
)

-- a message that claims no user has no password
pub no_user : (terms : PlainTerms) (records : List Struct) (message : List ℕ)
    → ((parts : PlainParts) → SpellsPlain parts message → ¬ IsTaken true parts)
    → ¬ HasUsersPassword terms records message
no_user terms records message none (parts, shown, spells, taken, first, tested, may) = none parts spells
    (tt, taken.1, taken.2, taken.3)

-- ---- the identity that a message asks for

asked_some : (identity name : List ℕ) → identity_named (Some identity) ≡ Some name → name ≡ identity
asked_some [] name same = absurd (cc)
asked_some (byte ∷ rest) name same = cc

asked_none : (identity : List ℕ) → identity_named (Some identity) ≡ None → [] ≡ identity
asked_none [] same = refl
asked_none (byte ∷ rest) same = absurd (cc)

pub claims_identity : (message name : List ℕ) (parts : PlainParts) → SpellsPlain parts message → IsTaken true parts
    → asked_identity parts ≡ Some name → ClaimsPlainIdentity message (Ok name)
claims_identity message name parts spells taken same =
    (parts, spells, taken, asked_some parts.identity name same)

pub claims_itself : (message user : List ℕ)
    → ((parts : PlainParts) → SpellsPlain parts message → IsTaken true parts → asked_identity parts ≡ None)
    → ((parts : PlainParts) × SpellsPlain parts message × IsTaken true parts × (user ≡ parts.user))
    → ClaimsPlainIdentity message (Ok [])
claims_itself message user none (parts, spells, taken, named) =
    (parts, spells, taken, asked_none parts.identity (none parts spells taken))

pub ruleset claims = (claims_identity, claims_itself)

-- ---- the answer

-- a number is that of one form
one_form : (passwords other : PlainPasswords) → form_number passwords ≡ form_number other → passwords ≡ other
one_form forms.Typed forms.Typed same = refl
one_form forms.Typed forms.Prepared same = absurd (omega (arith, same))
one_form forms.Typed forms.Saslprep same = absurd (omega (arith, same))
one_form forms.Prepared forms.Typed same = absurd (omega (arith, same))
one_form forms.Prepared forms.Prepared same = refl
one_form forms.Prepared forms.Saslprep same = absurd (omega (arith, same))
one_form forms.Saslprep forms.Typed same = absurd (omega (arith, same))
one_form forms.Saslprep forms.Prepared same = absurd (omega (arith, same))
one_form forms.Saslprep forms.Saslprep same = refl

one_terms : (number count accepts : ℕ) (identities : List ℕ) (terms other : PlainTerms)
    → AreTerms number count accepts identities terms → AreTerms number count accepts identities other → terms ≡ other
one_terms number count accepts identities terms other is too =
    let form : terms.passwords ≡ other.passwords = one_form terms.passwords other.passwords (is.0 ∙ sym too.0) in
    let rounds : terms.count ≡ other.count = is.1 ∙ sym too.1 in
    let flag : terms.accepts ≡ other.accepts = is.2 ∙ sym too.2 in
    let names : terms.identities ≡ other.identities = is.3 ∙ sym too.3 in
    λ i. record { passwords = form i; count = rounds i; accepts = flag i; identities = names i }

pub no_form : (number count accepts : ℕ) (identities : List ℕ) (records : List Struct) (message : List ℕ)
    → ((passwords : PlainPasswords) → form_number passwords ≢ number)
    → VerifiesPlain number count accepts identities records message (Err statuses.NoSuchChoice)
no_form number count accepts identities records message none = inl (none, refl)

pub no_identities : (number count accepts : ℕ) (identities : List ℕ) (records : List Struct) (message : List ℕ)
    (passwords : PlainPasswords) → form_number passwords ≡ number → ¬ IsUtf8 identities
    → VerifiesPlain number count accepts identities records message (Err statuses.NotUtf8)
no_identities number count accepts identities records message passwords is wrong =
    inr ((λ unknown. unknown passwords is), inl (wrong, refl))

pub rejected : (number count accepts : ℕ) (identities : List ℕ) (records : List Struct) (message : List ℕ)
    (terms : PlainTerms) → AreTerms number count accepts identities terms → IsUtf8 identities
    → ¬ HasUsersPassword terms records message
    → VerifiesPlain number count accepts identities records message (Err (statuses.Server AuthenticationFailed))
rejected number count accepts identities records message terms is utf8 none = inr (
  (λ unknown. unknown terms.passwords is.0),
  inr (
    (λ wrong. wrong utf8),
    inl (
      (λ other same has. none (carried (λ (t : PlainTerms). HasUsersPassword t records message) other terms
          (one_terms number count accepts identities other terms same is) has)),
      refl,
    ),
  ),
)

pub ruleset verifies = (no_form, no_identities, rejected)
