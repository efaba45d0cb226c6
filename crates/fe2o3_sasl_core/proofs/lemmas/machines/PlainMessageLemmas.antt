-- Messages of PLAIN: a text is cut into the parts of one at most, and is none where it is not cut so.
use Rattle.std.proofs.Common.{◌≡◌, ℕ, Bool, true, Option, Some, None, List, ◌∷◌, ◌++◌, ap, sym, subst, ◌∙◌, refl}
use Rattle.std.specs.Prelude.{MatchOption, option_map}
use Rattle.std.specs.Str.{IsUtf8}
use Rattle.fe2o3_scram.specs.Texts.{Cut, Without}
use Rattle.fe2o3_scram.proofs.lemmas.texts.CutLemmas.{not_without, one_cut, without-uncut}
use Rattle.fe2o3_sasl_core.specs.PlainServer.{IsTaken, PlainParts, SpellsPlain, asked_identity}

-- a text that is no UTF-8, or is not cut at all, or once, or three times, is no message
pub not_utf8 : (text : List ℕ) → ¬ IsUtf8 text → (parts : PlainParts) → ¬ SpellsPlain parts text
not_utf8 text other parts is = other is.0

pub not_cut : (text : List ℕ) → ((before rest : List ℕ) → ¬ Cut 0 text before rest) → (parts : PlainParts)
    → ¬ SpellsPlain parts text
not_cut text none parts is = none parts.identity (parts.user ++ 0 ∷ parts.password) (is.1, is.4)

-- what follows the first zero byte
rest_of : (text identity rest : List ℕ) (parts : PlainParts) → Cut 0 text identity rest → SpellsPlain parts text
    → Cut 0 rest parts.user parts.password
rest_of text identity rest parts cut is =
    (is.2, (one_cut 0 text identity rest parts.identity (parts.user ++ 0 ∷ parts.password) cut (is.1, is.4)).1)

pub cut_once : (text identity rest : List ℕ) → Cut 0 text identity rest
    → ((before more : List ℕ) → ¬ Cut 0 rest before more) → (parts : PlainParts) → ¬ SpellsPlain parts text
cut_once text identity rest cut none parts is =
    none parts.user parts.password (rest_of text identity rest parts cut is)

pub cut_thrice : (text identity rest user password before more : List ℕ) → Cut 0 text identity rest
    → Cut 0 rest user password → Cut 0 password before more → (parts : PlainParts) → ¬ SpellsPlain parts text
cut_thrice text identity rest user password before more first second third parts is =
    let same = (one_cut 0 rest user password parts.user parts.password second
    (rest_of text identity rest parts first is)).1 in
    not_without 0 password before more third (rw same is.3)

-- and one that is cut twice is one
pub cut_twice : (text identity rest user password : List ℕ) → IsUtf8 text → Cut 0 text identity rest
    → Cut 0 rest user password → ((before more : List ℕ) → ¬ Cut 0 password before more)
    → SpellsPlain (record { identity = identity; user = user; password = password }) text
cut_twice text identity rest user password utf8 first second none =
    (utf8, first.0, second.0, without-uncut 0 password none, first.1 ∙ rw second.1 refl)

-- a word that is not cut has no zero byte, and one that is cut has one
pub word_uncut : (word : List ℕ) → ((before rest : List ℕ) → ¬ Cut 0 word before rest) → Without 0 word
word_uncut word none = without-uncut 0 word none

pub word_cut : (word before rest : List ℕ) → Cut 0 word before rest → ¬ Without 0 word
word_cut word before rest cut = not_without 0 word before rest cut

pub ruleset plain_word = (word_uncut, word_cut)

-- a text is one message at most
pub one_message : (text : List ℕ) (parts other : PlainParts) → SpellsPlain parts text → SpellsPlain other text
    → parts ≡ other
one_message text parts other is too =
    let first = one_cut 0 text parts.identity (parts.user ++ 0 ∷ parts.password) other.identity
    (other.user ++ 0 ∷ other.password) (is.1, is.4) (too.1, too.4) in
    let second = one_cut 0 (parts.user ++ 0 ∷ parts.password) parts.user parts.password other.user other.password
    (is.2, refl) (too.2, first.1) in
    λ i. record { identity = first.0 i; user = second.0 i; password = second.1 i }

-- where its parts are not taken, no parts of it are
pub not_taken : (accepts : Bool) (text : List ℕ) (parts : PlainParts) → SpellsPlain parts text → ¬ IsTaken accepts parts
    → (other : PlainParts) → SpellsPlain other text → ¬ IsTaken accepts other
not_taken accepts text parts is refused other too = subst (λ (parts : PlainParts). ¬ IsTaken accepts parts)
    (one_message text parts other is too) refused

-- the identity of a text is that of its parts
pub identity_of : {A : Type 0} (value : A → List ℕ) (text : List ℕ) (parts : PlainParts) (found : Option A)
    → SpellsPlain parts text → IsTaken true parts → option_map value found ≡ asked_identity parts
    → MatchOption found
    ((other : PlainParts) → SpellsPlain other text → IsTaken true other → asked_identity other ≡ None)
    (λ identity. (other : PlainParts) × SpellsPlain other text × IsTaken true other
    × (asked_identity other ≡ Some (value identity)))
identity_of value text parts None spells taken is =
    λ other too also. ap asked_identity (one_message text other parts too spells) ∙ sym is
identity_of value text parts (Some identity) spells taken is = (parts, spells, taken, sym is)
