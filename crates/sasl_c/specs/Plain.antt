-- Messages of PLAIN over texts: what a client writes, and what a server makes of them (RFC 4616, section 2).
use Rattle.std.specs.Prelude.{◌≡◌, ◌≢◌, ◌<◌, ◌⊎◌, ◌+◌, ℕ, Bool, true, length, List, [], ◌∷◌, ◌++◌, Option, Some, None, Result, Ok, Err}
use Rattle.std.specs.Str.{IsUtf8}
use Rattle.fe2o3_scram.specs.declared.hmac.ScramVersion.TheVariants.{Sha256}
use Rattle.fe2o3_scram.specs.declared.scram_messages.error.ServerScramErrorKind.TheVariants.{AuthenticationFailed}
use Rattle.fe2o3_scram.specs.ActingRights.{may_act}
use Rattle.fe2o3_scram.specs.Credentials.{MeetsRecord, Store, VersionedRecord}
use Rattle.fe2o3_scram.specs.Passwords.{PasswordText}
use Rattle.fe2o3_scram.specs.Readings.{IsFirst, Reads}
use Rattle.fe2o3_scram.specs.Texts.{Without}
use Rattle.fe2o3_sasl_core.specs.PlainServer.{IsTaken, PlainParts, PlainRules, SpellsPlain, TestedPassword, asked_identity, plain_hmacs}
use Rattle.fe2o3_sasl_core.specs.declared.plain_server.passwords.PlainPasswords.{PlainPasswords}
use Rattle.fe2o3_sasl_core.specs.declared.plain_server.passwords.PlainPasswords.TheVariants as forms
use Rattle.sasl_c.specs.declared.records.ScramRecord.{ScramRecord as Struct}
use Rattle.sasl_c.specs.declared.status.Status.{Status}
use Rattle.sasl_c.specs.declared.status.Status.TheVariants as statuses
use Rattle.sasl_c.specs.Acting.{rights_for}
use Rattle.sasl_c.specs.Client.{is_set}
use Rattle.sasl_c.specs.Records.{ShowsRecord}
use Rattle.sasl_c.specs.Server.{one_user}

-- ---- the message of a client

-- the tests of the words of a message, in their order: `authcid` and `passwd` are each one or more characters other than
-- NUL in UTF-8, and `authzid`, which is empty if the user acts for itself, is such characters, here of 256 bytes at most
abbrev pub word_tests : List ℕ → List ℕ → List ℕ → List (Status × Type 0)
word_tests identity user password = (statuses.NotUtf8, ¬ IsUtf8 identity ⊎ ¬ IsUtf8 user ⊎ ¬ IsUtf8 password)
    ∷ (statuses.NamesNoUser, user ≡ []) ∷ (statuses.EmptyPassword, password ≡ [])
    ∷ (statuses.ProhibitedCharacter, ¬ Without 0 identity ⊎ ¬ Without 0 user ⊎ ¬ Without 0 password)
    ∷ (statuses.TooLong, 256 < length identity) ∷ []

-- the message, or the first error that holds
abbrev pub WritesPlain : List ℕ → List ℕ → List ℕ → Result (List ℕ) Status → Type 0
WritesPlain identity user password answer =
    Reads (word_tests identity user password) (λ message. message ≡ identity ++ 0 ∷ (user ++ 0 ∷ password)) answer

-- ---- what a server makes of a message

-- the user name that a message claims, which is accepted for a test by a server that accepts identities
abbrev pub ClaimsPlainUser : List ℕ → Result (List ℕ) Status → Type 0
ClaimsPlainUser message (Ok name) =
    (parts : PlainParts) × SpellsPlain parts message × IsTaken true parts × (name ≡ parts.user)
ClaimsPlainUser message (Err status) = (status ≡ statuses.NamesNoUser)
    × ((parts : PlainParts) → SpellsPlain parts message → ¬ IsTaken true parts)

-- the identity that a message asks to act for, which is empty if its user acts for itself
abbrev pub ClaimsPlainIdentity : List ℕ → Result (List ℕ) Status → Type 0
ClaimsPlainIdentity message (Ok name) =
    (parts : PlainParts) × SpellsPlain parts message × IsTaken true parts × (name ≡ parts.identity)
ClaimsPlainIdentity message (Err status) = ClaimsPlainUser message (Err status)

-- the number of a form of passwords
abbrev pub form_number : PlainPasswords → ℕ
form_number forms.Typed = 0
form_number forms.Prepared = 1
form_number forms.Saslprep = 2

-- the first of the structs that shows a record shows this one, or none shows one
abbrev pub FirstShown : List Struct → Option VersionedRecord → Type 0
FirstShown [] found = found ≡ None
FirstShown (kept ∷ rest) found = ((shown : VersionedRecord) × ShowsRecord kept shown × (found ≡ Some shown))
    ⊎ (((shown : VersionedRecord) → ¬ ShowsRecord kept shown) × FirstShown rest found)

-- what a message is tested by besides the records: the form of passwords, the iteration count for unknown users, whether a
-- message may name an identity other than its user, and the identities that the user may act for, with a zero byte after
-- each
pub record PlainTerms : Type 0 where
  pub passwords : PlainPasswords
  pub count : ℕ
  pub accepts : Bool
  pub identities : List ℕ

-- the message has the password of its user, who may act for the identity that it asks for: it is accepted for a test, the
-- user has a record, and the password that is tested for the message's meets it (RFC 4616, section 2; RFC 5802, section 3)
abbrev pub HasUsersPassword : PlainTerms → List Struct → List ℕ → Type 0
HasUsersPassword terms records message = (parts : PlainParts) × (shown : VersionedRecord)
    × SpellsPlain parts message × IsTaken terms.accepts parts × FirstShown records (Some shown)
    × ((password : PasswordText) × TestedPassword terms.passwords parts.password password
    × MeetsRecord shown.version password shown.stored)
    × (may_act (rights_for parts.user terms.identities) parts.user (asked_identity parts) ≡ true)

-- the arguments of a call say these terms
abbrev pub AreTerms : ℕ → ℕ → ℕ → List ℕ → PlainTerms → Type 0
AreTerms number count accepts identities terms = (form_number terms.passwords ≡ number) × (terms.count ≡ count)
    × (terms.accepts ≡ is_set accepts) × (terms.identities ≡ identities)

-- the tests of a message, in their order
abbrev pub plain_tests : ℕ → ℕ → ℕ → List ℕ → List Struct → List ℕ → List (Status × Type 0)
plain_tests number count accepts identities records message =
    (statuses.NoSuchChoice, (passwords : PlainPasswords) → form_number passwords ≢ number)
    ∷ (statuses.NotUtf8, ¬ IsUtf8 identities)
    ∷ (
      statuses.Server AuthenticationFailed,
      (terms : PlainTerms) → AreTerms number count accepts identities terms → ¬ HasUsersPassword terms records message,
    ) ∷ []

-- the message logs its user in by the records, or the first error that holds
abbrev pub VerifiesPlain : ℕ → ℕ → ℕ → List ℕ → List Struct → List ℕ → Result (Unit {0}) Status → Type 0
VerifiesPlain number count accepts identities records message (Ok done) =
    (terms : PlainTerms) × AreTerms number count accepts identities terms × HasUsersPassword terms records message
VerifiesPlain number count accepts identities records message (Err status) =
    IsFirst (plain_tests number count accepts identities records message) status

-- memory is requested to test a message: the form is known, the identities are UTF-8, and the message claims a user
abbrev pub PlainAsks : ℕ → List ℕ → List ℕ → Type 0
PlainAsks number identities message = ((passwords : PlainPasswords) × (form_number passwords ≡ number))
    × IsUtf8 identities × ((name : List ℕ) × ClaimsPlainUser message (Ok name))

-- ---- what a message is tested by, and what its test costs

-- the store of one user with this record, or without one: then of SHA-256
abbrev pub store_of : List ℕ → Option VersionedRecord → Store
store_of user None = record { version = Sha256; records = [] }
store_of user (Some shown) = one_user user shown

-- the rules for a user over this store, by these terms
abbrev pub plain_rules_of : PlainTerms → List ℕ → Store → PlainRules
plain_rules_of terms user provider = record {
  provider = provider;
  count = terms.count;
  passwords = terms.passwords;
  accept_authzid = terms.accepts;
  rights = rights_for user terms.identities;
}

-- the HMAC values of a test: those of PLAIN over the record, also for an unknown user; none if no user is claimed
abbrev pub VerifyingCosts : PlainTerms → List Struct → List ℕ → ℕ → ℕ → Type 0
VerifyingCosts terms records message before after =
    ((name : List ℕ) (found : Option VersionedRecord) (n : ℕ) → ClaimsPlainUser message (Ok name) → FirstShown records found
    → plain_hmacs (plain_rules_of terms name (store_of name found)) message n → after ≡ before + n)
    × (((name : List ℕ) → ¬ ClaimsPlainUser message (Ok name)) → after ≡ before)
