-- What a state of a SCRAM client determines: the nonce that is due and the answer that is open; and what it reads then.
use Rattle.std.proofs.Common.{◌≡◌, ℕ, Bool, true, false, true≢false, ◌&&◌, Option, Some, None, List, refl, sym, ap, ◌∙◌, subst, inl, inr, Ok, Err}
use Rattle.std.specs.Str.{IsUtf8}
use Rattle.std.proofs.lemmas.Option.{none-some}
use Rattle.fe2o3_scram.specs.declared.scram_messages.error.ScramErrorKind.{ScramErrorKind}
use Rattle.fe2o3_scram.specs.ClientFinal.{Answer, answer_of}
use Rattle.fe2o3_scram.specs.ClientFirst.{client_first_bare}
use Rattle.fe2o3_scram.specs.ClientKeys.{ClientKeys}
use Rattle.fe2o3_sasl_core.specs.ClientHistory.{Answering, answer_at, MaySign, ReadsChallenge, ReadsOutcome, ReadsSigning}
use Rattle.fe2o3_scram.specs.ScramClient.{ClientState, ClientInitial, ClientFirstSent, ClientFinalSent, SignatureVerified, Complete, ClientSide, AnswersIn, ChecksSignatureIn, ConcludesIn, VerifiesIn, expects_signature}
use Rattle.fe2o3_sasl_core.specs.Events.{is_strict_login, Login, login_header}
use Rattle.fe2o3_sasl_core.specs.Profiles.{Profile, ScramProfile}
use Rattle.fe2o3_scram.specs.ServerFinal.{ReadsServerFinal}

-- ---- the state and what it determines

-- the login's client in this state, and its profile
abbrev pub side_in : Login → ClientState → ClientSide
side_in login state = record {
  user = login.user;
  secret = login.secret;
  version = login.version;
  limits = login.limits;
  channel = login.channel;
  acts_for = login.acts_for;
  strict = login.strict;
  signature_by_challenge = login.signature_by_challenge;
  state = state;
}

abbrev pub profile_in : Login → ClientState → Profile
profile_in login state = ScramProfile (side_in login state)

-- the states after a start and after an answer
abbrev pub started_state : Login → List ℕ → ClientState
started_state login nonce = ClientFirstSent nonce (client_first_bare login.user nonce)

abbrev pub answered_state : Login → Answering → ClientState
answered_state login answer =
    ClientFinalSent (answer_at login answer).signature (Some (answer_at login answer).keys)

-- the nonce that is due, the answer that is open, and the answer whose signature has come in a challenge
pub record Expected : Type 0 where
  pub due : Option (List ℕ)
  pub waits : Option Answering
  pub verified : Option Answering

-- in this state these are due, open and verified
abbrev pub StandsFor : Login → ClientState → Expected → Type 0
StandsFor login ClientInitial at = (at.due ≡ None) × (at.waits ≡ None) × (at.verified ≡ None)
StandsFor login (ClientFirstSent nonce bare) at =
    (at.due ≡ Some nonce) × (at.waits ≡ None) × (at.verified ≡ None) × (bare ≡ client_first_bare login.user nonce)
StandsFor login (ClientFinalSent signature keys) at = (at.due ≡ None)
    × ((answer : Answering) × (at.waits ≡ Some answer) × (signature ≡ (answer_at login answer).signature))
    × (at.verified ≡ None)
StandsFor login (SignatureVerified keys) at =
    (at.due ≡ None) × (at.waits ≡ None) × ((answer : Answering) × (at.verified ≡ Some answer))
StandsFor login (Complete keys) at = (at.due ≡ None) × (at.waits ≡ None) × (at.verified ≡ None)

-- the predicates of the table
abbrev pub DueAt : Expected → List ℕ → Type 0
DueAt at nonce = at.due ≡ Some nonce

abbrev pub OpenAt : Expected → Answering → Type 0
OpenAt at answer = at.waits ≡ Some answer

abbrev pub VerifiedAt : Expected → Answering → Type 0
VerifiedAt at answer = at.verified ≡ Some answer

-- ---- what it reads

-- a server-first message that is answered was due, nothing was open, and the answer is the table's
pub answers_due : (login : Login) (state : ClientState) (at : Expected) (text message : List ℕ) (after : ClientSide)
    → StandsFor login state at → IsUtf8 text
    → AnswersIn state (side_in login state) text (Ok message) after →
    (answer : Answering) × ReadsChallenge login (DueAt at) text (Ok answer)
    × (message ≡ (answer_at login answer).message) × (after ≡ side_in login (answered_state login answer))
    × (at.waits ≡ None)
answers_due login ClientInitial at text message after stands utf8 h = absurd h
answers_due login (ClientFinalSent signature keys) at text message after stands utf8 h = absurd h
answers_due login (SignatureVerified keys) at text message after stands utf8 h = absurd h
answers_due login (Complete keys) at text message after stands utf8 h = absurd h
answers_due login (ClientFirstSent nonce bare) at text message after stands utf8 h =
    let first = h.1.0 in
    let answer : Answering = record { nonce = nonce; text = text; first = first } in
    let same : h.0 ≡ answer_at login answer = h.1.2
    ∙ ap (λ (b : List ℕ). answer_of login.version login.secret (login_header login) b text first) stands.3 in (
      answer,
      (utf8, refl, stands.0, h.1.1),
      h.2 ∙ ap (λ (x : Answer). x.message) same,
      h.3 ∙ ap (λ (x : Answer). side_in login (ClientFinalSent x.signature (Some x.keys))) same,
      stands.1,
    )

-- a server-first message that is rejected is so in the table, and the client stays
pub refuses_due : (login : Login) (state : ClientState) (at : Expected) (text : List ℕ)
    (kind : ScramErrorKind) (after : ClientSide) → StandsFor login state at → IsUtf8 text
    → AnswersIn state (side_in login state) text (Err kind) after →
    ReadsChallenge login (DueAt at) text (Err kind) × (after ≡ side_in login state)
refuses_due login ClientInitial at text kind after stands utf8 h =
    (inr (inl (utf8, (λ nonce e. absurd (none-some nonce (sym stands.0 ∙ e))), h.0)), h.1)
refuses_due login (ClientFinalSent signature keys) at text kind after stands utf8 h =
    (inr (inl (utf8, (λ nonce e. absurd (none-some nonce (sym stands.0 ∙ e))), h.0)), h.1)
refuses_due login (SignatureVerified keys) at text kind after stands utf8 h =
    (inr (inl (utf8, (λ nonce e. absurd (none-some nonce (sym stands.0 ∙ e))), h.0)), h.1)
refuses_due login (Complete keys) at text kind after stands utf8 h =
    (inr (inl (utf8, (λ nonce e. absurd (none-some nonce (sym stands.0 ∙ e))), h.0)), h.1)
refuses_due login (ClientFirstSent nonce bare) at text kind after stands utf8 h =
    (inr (inr (utf8, (nonce, stands.0, h.0))), h.1)

-- a server-final message that is verified has an open answer, and then nothing is due
pub verifies_open : (login : Login) (state : ClientState) (at : Expected) (text : List ℕ)
    (verified : Unit {0}) (after : ClientSide) → StandsFor login state at
    → VerifiesIn state (side_in login state) text (Ok verified) after →
    (keys : Option ClientKeys) × ReadsOutcome login (OpenAt at) (VerifiedAt at) (Some text) (Ok tt)
    × (at.due ≡ None) × (after ≡ side_in login (Complete keys))
verifies_open login ClientInitial at text verified after stands h = absurd h
verifies_open login (ClientFirstSent nonce bare) at text verified after stands h = absurd h
verifies_open login (SignatureVerified keys) at text verified after stands h = absurd h
verifies_open login (Complete keys) at text verified after stands h = absurd h
verifies_open login (ClientFinalSent signature keys) at text verified after stands h = (
  keys,
  (stands.1.0, stands.1.1, subst (λ (s : List ℕ). ReadsServerFinal (is_strict_login login) s text (Ok tt)) stands.1.2 h.0),
  stands.0,
  h.1,
)

-- one that is rejected leaves the client
pub refuses_open : (login : Login) (state : ClientState) (at : Expected) (text : List ℕ)
    (kind : ScramErrorKind) (after : ClientSide) → StandsFor login state at
    → VerifiesIn state (side_in login state) text (Err kind) after →
    ReadsOutcome login (OpenAt at) (VerifiedAt at) (Some text) (Err kind) × (after ≡ side_in login state)
refuses_open login ClientInitial at text kind after stands h =
    (inl ((λ answer e. absurd (none-some answer (sym stands.1 ∙ e))), h.0), h.1)
refuses_open login (ClientFirstSent nonce bare) at text kind after stands h =
    (inl ((λ answer e. absurd (none-some answer (sym stands.1 ∙ e))), h.0), h.1)
refuses_open login (SignatureVerified keys) at text kind after stands h =
    (inl ((λ answer e. absurd (none-some answer (sym stands.1 ∙ e))), h.0), h.1)
refuses_open login (Complete keys) at text kind after stands h =
    (inl ((λ answer e. absurd (none-some answer (sym stands.1 ∙ e))), h.0), h.1)
refuses_open login (ClientFinalSent signature keys) at text kind after stands h = (
  inr (
    stands.1.0,
    stands.1.1,
    subst (λ (s : List ℕ). ReadsServerFinal (is_strict_login login) s text (Err kind))
        stands.1.2 h.0,
  ),
  h.1,
)

pub left_true : (left right : Bool) → left && right ≡ true → left ≡ true
left_true true right is = refl
left_true false right is = is

pub not_false : (left : Bool) → left && false ≡ true → ⊥
not_false true is = true≢false (sym is)
not_false false is = true≢false (sym is)

-- no signature may come where the client expects none
pub no_signing : (login : Login) (state : ClientState) (at : Expected) → StandsFor login state at
    → expects_signature (side_in login state) ≡ false → (answer : Answering) → ¬ MaySign login (OpenAt at) answer
no_signing login ClientInitial at stands none answer may = none-some answer (sym stands.1 ∙ may.1)
no_signing login (ClientFirstSent nonce bare) at stands none answer may = none-some answer (sym stands.1 ∙ may.1)
no_signing login (SignatureVerified keys) at stands none answer may = none-some answer (sym stands.1 ∙ may.1)
no_signing login (Complete keys) at stands none answer may = none-some answer (sym stands.1 ∙ may.1)
no_signing login (ClientFinalSent signature keys) at stands none answer may =
    true≢false (sym (ap (λ (b : Bool). b && true) may.0) ∙ none)

-- a signature that is verified in a challenge is that of an open answer, and then nothing is due
pub signs_open : (login : Login) (state : ClientState) (at : Expected) (text : List ℕ) (verified : Unit {0})
    (after : ClientSide) → StandsFor login state at → expects_signature (side_in login state) ≡ true
    → ChecksSignatureIn state (side_in login state) text (Ok verified) after →
    (keys : Option ClientKeys) × ReadsSigning login (OpenAt at) text (Ok tt) × (at.due ≡ None)
    × (after ≡ side_in login (SignatureVerified keys))
signs_open login ClientInitial at text verified after stands is h = absurd h
signs_open login (ClientFirstSent nonce bare) at text verified after stands is h = absurd h
signs_open login (SignatureVerified keys) at text verified after stands is h = absurd h
signs_open login (Complete keys) at text verified after stands is h = absurd h
signs_open login (ClientFinalSent signature keys) at text verified after stands is h = (
  keys,
  (
    stands.1.0,
    (left_true login.signature_by_challenge true is, stands.1.1),
    subst (λ (s : List ℕ). ReadsServerFinal (is_strict_login login) s text (Ok tt)) stands.1.2 h.0,
  ),
  stands.0,
  h.1,
)

-- one that is rejected there leaves the client
pub refuses_signing : (login : Login) (state : ClientState) (at : Expected) (text : List ℕ) (kind : ScramErrorKind)
    (after : ClientSide) → StandsFor login state at → expects_signature (side_in login state) ≡ true
    → ChecksSignatureIn state (side_in login state) text (Err kind) after
    → ReadsSigning login (OpenAt at) text (Err kind) × (after ≡ side_in login state)
refuses_signing login ClientInitial at text kind after stands is h =
    absurd (not_false login.signature_by_challenge is)
refuses_signing login (ClientFirstSent nonce bare) at text kind after stands is h =
    absurd (not_false login.signature_by_challenge is)
refuses_signing login (SignatureVerified keys) at text kind after stands is h =
    absurd (not_false login.signature_by_challenge is)
refuses_signing login (Complete keys) at text kind after stands is h =
    absurd (not_false login.signature_by_challenge is)
refuses_signing login (ClientFinalSent signature keys) at text kind after stands is h = (
  (
    stands.1.0,
    (left_true login.signature_by_challenge true is, stands.1.1),
    subst (λ (s : List ℕ). ReadsServerFinal (is_strict_login login) s text (Err kind)) stands.1.2 h.0,
  ),
  h.1,
)

-- an outcome without data is accepted after a verified signature, and then nothing is due
pub concludes_verified : (login : Login) (state : ClientState) (at : Expected) (done : Unit {0}) (after : ClientSide)
    → StandsFor login state at → ConcludesIn state (side_in login state) (Ok done) after →
    (keys : Option ClientKeys) × ReadsOutcome login (OpenAt at) (VerifiedAt at) None (Ok tt) × (at.due ≡ None)
    × (after ≡ side_in login (Complete keys))
concludes_verified login ClientInitial at done after stands h = absurd h
concludes_verified login (ClientFirstSent nonce bare) at done after stands h = absurd h
concludes_verified login (ClientFinalSent signature keys) at done after stands h = absurd h
concludes_verified login (Complete keys) at done after stands h = absurd h
concludes_verified login (SignatureVerified keys) at done after stands h = (keys, stands.2, stands.0, h)

-- and is rejected otherwise
pub refuses_unsigned : (login : Login) (state : ClientState) (at : Expected) (kind : ScramErrorKind) (after : ClientSide)
    → StandsFor login state at → ConcludesIn state (side_in login state) (Err kind) after
    → ReadsOutcome login (OpenAt at) (VerifiedAt at) None (Err kind) × (after ≡ side_in login state)
refuses_unsigned login ClientInitial at kind after stands h =
    (((λ answer e. none-some answer (sym stands.2 ∙ e)), h.0), h.1)
refuses_unsigned login (ClientFirstSent nonce bare) at kind after stands h =
    (((λ answer e. none-some answer (sym stands.2 ∙ e)), h.0), h.1)
refuses_unsigned login (ClientFinalSent signature keys) at kind after stands h =
    (((λ answer e. none-some answer (sym stands.2 ∙ e)), h.0), h.1)
refuses_unsigned login (Complete keys) at kind after stands h =
    (((λ answer e. none-some answer (sym stands.2 ∙ e)), h.0), h.1)
refuses_unsigned login (SignatureVerified keys) at kind after stands h = absurd h
