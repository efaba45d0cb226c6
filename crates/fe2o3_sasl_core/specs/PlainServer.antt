-- What PLAIN makes of a message: the test of its password against the records of users, and of its identity (RFC 4616).
use Rattle.std.specs.Prelude.{◌≡◌, ◌≢◌, ◌⊎◌, ◌≤◌, ◌+◌, ℕ, Bool, true, false, Option, Some, None, List, [], ◌∷◌, ◌++◌, chars, encode_utf8_all, length}
use Rattle.std.specs.Str.{IsAscii, IsUtf8}
use Rattle.saslprep.specs.Saslprep.{prepared, refusal}
use Rattle.saslprep.specs.declared.Unassigned.TheVariants.{Allowed}
use Rattle.fe2o3_scram.specs.ActingRights.{Rights, may_act}
use Rattle.fe2o3_scram.specs.Credentials.{CheckingCosts, MeetsRecord, Store, Record, making_tests, record_at}
use Rattle.fe2o3_scram.specs.Passwords.{PasswordText, Typed, Prepared}
use Rattle.fe2o3_scram.specs.Readings.{NoneHolds}
use Rattle.fe2o3_scram.specs.ScramClient.{identity_named}
use Rattle.fe2o3_scram.specs.Texts.{Without}
use Rattle.fe2o3_sasl_core.specs.declared.rejection.Rejection.{Rejection}
use Rattle.fe2o3_sasl_core.specs.declared.rejection.Rejection.TheVariants as reasons
use Rattle.fe2o3_sasl_core.specs.declared.plain_server.passwords.PlainPasswords.{PlainPasswords}
use Rattle.fe2o3_sasl_core.specs.declared.plain_server.passwords.PlainPasswords.TheVariants as forms
use Rattle.fe2o3_sasl_core.specs.declared.plain_server.passwords.PreparedPassword.{PreparedPassword}
use Rattle.fe2o3_sasl_core.specs.declared.plain_server.passwords.PreparedPassword.TheVariants as texts
use Rattle.fe2o3_sasl_core.specs.declared.plain_server.PlainTest.{PlainTest}
use Rattle.fe2o3_sasl_core.specs.declared.plain_server.PlainMessage.{PlainMessage}

-- what a message is tested by: a provider of records, the iteration count for an unknown user, the form of passwords, whether
-- a message may name an identity other than its user, and who may act as whom
pub record PlainRules : Type 0 where
  pub provider : Store
  pub count : ℕ
  pub passwords : PlainPasswords
  pub accept_authzid : Bool
  pub rights : Rights

-- the parts of a message (RFC 4616, section 2): the identity to act as, or nothing, the user's name, and the password
pub record PlainParts : Type 0 where
  pub identity : List ℕ
  pub user : List ℕ
  pub password : List ℕ

-- the text is a message of these parts: UTF-8, with a zero byte between them and none in them
abbrev pub SpellsPlain : PlainParts → List ℕ → Type 0
SpellsPlain message text = IsUtf8 text × Without 0 message.identity × Without 0 message.user
    × Without 0 message.password × (text ≡ message.identity ++ 0 ∷ (message.user ++ 0 ∷ message.password))

-- the identity that a message asks to act for, or nothing if its user acts for itself (RFC 4616, section 2)
abbrev pub asked_identity : PlainParts → Option (List ℕ)
asked_identity message = identity_named (Some message.identity)

-- the identity of a message is one that is tested: every one, or only the user's own, by whether identities are accepted
abbrev pub TakesAuthzid : Bool → PlainParts → Type 0
TakesAuthzid true message = Unit {0}
TakesAuthzid false message = (message.identity ≡ []) ⊎ (message.identity ≡ message.user)

-- a message that is accepted for a test, by whether identities are accepted: of some user, with a password of 1 to 1024 bytes
abbrev pub IsTaken : Bool → PlainParts → Type 0
IsTaken accepts message = TakesAuthzid accepts message × (message.user ≢ []) × (message.password ≢ [])
    × (length message.password ≤ 1024)

-- the text that SASLprep prepares a text to (RFC 4013, sections 2.1 and 2.2)
abbrev pub saslprep_text : List ℕ → List ℕ
saslprep_text text = encode_utf8_all (prepared (chars text))

-- the password that is tested for the password of a message: its text as typed, its text as prepared, or the text that
-- SASLprep prepares it to as a query (RFC 4616, section 2). If SASLprep rejects the text, or if the prepared text is
-- empty, there is none.
abbrev pub TestedPassword : PlainPasswords → List ℕ → PasswordText → Type 0
TestedPassword forms.Typed text password = password ≡ Typed text
TestedPassword forms.Prepared text password = password ≡ Prepared text
TestedPassword forms.Saslprep text password = (refusal Allowed (chars text) ≡ None) × (saslprep_text text ≢ [])
    × (password ≡ Prepared (saslprep_text text))

-- the user has a record, and the password meets it (RFC 5802, section 3)
abbrev pub MeetsUser : Store → List ℕ → PasswordText → Type 0
MeetsUser provider user password = (stored : Record) × (record_at provider.records user ≡ Some stored)
    × MeetsRecord provider.version password stored

-- the password that is tested for the message's is that of its user
abbrev pub HasPassword : PlainPasswords → Store → PlainParts → Type 0
HasPassword passwords provider message = (password : PasswordText)
    × TestedPassword passwords message.password password × MeetsUser provider message.user password

-- a message logs its user in: it has the user's password, and the user may act for the identity that it asks for (RFC
-- 4616, section 2)
abbrev pub IsLetIn : PlainRules → PlainParts → Type 0
IsLetIn rules message = HasPassword rules.passwords rules.provider message
    × (may_act rules.rights message.user (asked_identity message) ≡ true)

-- the text is a message that logs its user in: it is accepted for a test, and is let in
abbrev pub PlainLogsIn : PlainRules → List ℕ → PlainParts → Type 0
PlainLogsIn rules text message =
    SpellsPlain message text × IsTaken rules.accept_authzid message × IsLetIn rules message

-- a message is rejected that is not accepted for a test, or whose user does not have its password or may not act for its
-- identity
abbrev pub MessageRejected : PlainRules → List ℕ → Rejection → Type 0
MessageRejected rules text reasons.InvalidMessage =
    (message : PlainParts) → SpellsPlain message text → ¬ IsTaken rules.accept_authzid message
MessageRejected rules text reasons.WrongPassword = (message : PlainParts) × SpellsPlain message text
    × IsTaken rules.accept_authzid message × ¬ IsLetIn rules message
MessageRejected rules text reason = ⊥

-- memory is requested to prepare a password: passwords are prepared, and it is not ASCII
abbrev pub PreparesPassword : PlainRules → List ℕ → Type 0
PreparesPassword rules text = (rules.passwords ≡ forms.Saslprep) × ((message : PlainParts)
    × SpellsPlain message text × IsTaken rules.accept_authzid message × ¬ IsAscii message.password)

-- the iteration count of the record, or this one if there is none
abbrev pub count_or : ℕ → Option Record → ℕ
count_or count (Some stored) = stored.count
count_or count None = count

-- the text reaches the test of a password, against a record with this count
abbrev pub TestsPassword : PlainRules → List ℕ → ℕ → Type 0
TestsPassword rules text count = (message : PlainParts) × (password : PasswordText)
    × SpellsPlain message text × IsTaken rules.accept_authzid message
    × TestedPassword rules.passwords message.password password
    × (count ≡ count_or rules.count (record_at rules.provider.records message.user))
    × NoneHolds (making_tests password count)

-- the HMAC values of testing the password of a message, as a meter shows them before and after: those of testing the
-- password that is tested for it, and none if there is none
abbrev pub TestingCosts : PlainPasswords → List ℕ → ℕ → ℕ → ℕ → Type 0
TestingCosts passwords text count before after =
    ((password : PasswordText) → TestedPassword passwords text password → CheckingCosts password count before after)
    × (((password : PasswordText) → ¬ TestedPassword passwords text password) → after ≡ before)

-- how many HMAC values a message takes (RFC 5802, section 3): to test a password those of making its record, of an unknown
-- user too, and otherwise none
abbrev pub plain_hmacs : PlainRules → List ℕ → ℕ → Type 0
plain_hmacs rules text n = ((count : ℕ) × TestsPassword rules text count × (n ≡ count + 2))
    ⊎ (((count : ℕ) → ¬ TestsPassword rules text count) × (n ≡ 0))

-- ---- the code's values

-- the rules that a test is by, for this meaning of its store
abbrev pub plain_rules : {C : Type 0} → (C → Store) → PlainTest C → PlainRules
plain_rules meaning test = record {
  provider = meaning test.credentials.now;
  count = test.iterations;
  passwords = test.passwords;
  accept_authzid = test.accept_authzid;
  rights = test.rights.now;
}

-- the text of a prepared password
abbrev pub prepared_bytes : PreparedPassword → List ℕ
prepared_bytes (texts.AsReceived text) = text.now
prepared_bytes (texts.Changed text) = text

-- the parts that a value has
abbrev pub parts_of : PlainMessage → PlainParts
parts_of message = record {
  identity = message.identity.now;
  user = message.username.now;
  password = message.password.now;
}
