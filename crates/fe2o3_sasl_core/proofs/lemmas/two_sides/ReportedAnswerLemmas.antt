-- The answer on which an Ok is reported, and the text of its signature.
use Rattle.std.proofs.Common.{◌≡◌, ◌⊎◌, ⊎_elim, ℕ, ◌<◌, true, true≢false, Option, Some, None, List, sym, ap, ◌∙◌, subst, arith, inl, inr, Result, Ok}
use Rattle.std.specs.Prelude.{slice_get}
use Rattle.std.proofs.lemmas.Option.{same_Some}
use Rattle.fe2o3_sasl_wire.specs.declared.amqp_types.SaslCode.TheVariants as outcomes
use Rattle.fe2o3_sasl_wire.specs.declared.sasl_frames.error.Error.{Error}
use Rattle.fe2o3_sasl_wire.specs.SaslFrames as frames
use Rattle.fe2o3_sasl_wire.specs.SaslFrames.{SaslFrame}
use Rattle.fe2o3_sasl_core.specs.Bodies.{SpellsBody}
use Rattle.fe2o3_sasl_core.specs.ClientHistory.{Answering, AnswersAt, is_answer, ends_answer}
use Rattle.fe2o3_sasl_core.specs.Events.{Given, Login, ClientSays, Reported}
use Rattle.fe2o3_sasl_core.specs.Laws.{AnswerPosition}
use Rattle.fe2o3_sasl_core.specs.Positions.{test_at, IsLastOpen}
use Rattle.fe2o3_sasl_core.specs.TwoSides.{ChallengeAt, VerifierText, SignedAnswer, ReportedAnswer}
use Rattle.fe2o3_sasl_core.proofs.lemmas.frames.SpellingLemmas.{one_spelling}
use Rattle.fe2o3_sasl_core.proofs.lemmas.histories.OneClientHistoryLemmas.{one_open_answer, one_verified_answer}
use Rattle.fe2o3_sasl_core.proofs.lemmas.positions.OpenStateLemmas.{OfOne, one_open_by}
use Rattle.fe2o3_sasl_core.proofs.lemmas.positions.PositionLemmas.{one_open}

-- an event is a challenge with one text
one_challenge_text : (events : List Given) (k : ℕ) → OfOne (ChallengeAt events k)
one_challenge_text events k x y h i =
    let event : h.0 ≡ i.0 = same_Some h.0 i.0 (sym h.1 ∙ i.1) in
    same_text x y (one_spelling i.0.body (Ok (frames.Challenge x)) (Ok (frames.Challenge y))
    (subst (λ (e : Given). SpellsBody e.body (Ok (frames.Challenge x))) event h.2) i.2)
  where
    same_text : (x y : List ℕ) → ◌≡◌ {A = Result SaslFrame Error} (Ok (frames.Challenge x)) (Ok (frames.Challenge y))
        → x ≡ y
    same_text x y e = cc

-- an outcome with this data has one server-final message
pub one_verifier_text : (events : List Given) (replies : List ClientSays) (m : ℕ) (more : Option (List ℕ))
    → OfOne (VerifierText events replies m more)
one_verifier_text events replies m (Some given) x y h i = h ∙ sym i
one_verifier_text events replies m None x y h i =
    one_open_by is_answer ends_answer (ChallengeAt events) replies m (one_challenge_text events) x y h i

-- and is on the signature of one answer
pub one_signed_answer : (login : Login) (events : List Given) (replies : List ClientSays) (m : ℕ)
    (more : Option (List ℕ)) → OfOne (SignedAnswer login events replies m more)
one_signed_answer login events replies m (Some text) = one_open_answer login events replies m
one_signed_answer login events replies m None = one_verified_answer login events replies m

same_more : (more other : Option (List ℕ)) → Reported outcomes.Ok more ≡ Reported outcomes.Ok other → more ≡ other
same_more more other is = cc

-- a position reports Ok with one data
pub one_more : (replies : List ClientSays) (m : ℕ) (more other : Option (List ℕ))
    → slice_get replies m ≡ Some (Reported outcomes.Ok more) → slice_get replies m ≡ Some (Reported outcomes.Ok other)
    → more ≡ other
one_more replies m more other at also =
    same_more more other (same_Some (Reported outcomes.Ok more) (Reported outcomes.Ok other) (sym at ∙ also))

-- a position reports Ok on the signature of one answer
pub one_reported_answer : (login : Login) (events : List Given) (replies : List ClientSays) (m : ℕ)
    → OfOne (ReportedAnswer login events replies m)
one_reported_answer login events replies m x y h i =
    one_signed_answer login events replies m i.0 x y
    (subst (λ (more : Option (List ℕ)). SignedAnswer login events replies m more x)
    (one_more replies m h.0 i.0 h.1 i.1) h.2) i.2

-- that answer has its position before the outcome
pub signed_position : (login : Login) (events : List Given) (replies : List ClientSays) (m : ℕ)
    (more : Option (List ℕ)) (answer : Answering) → SignedAnswer login events replies m more answer
    → (k : ℕ) × AnswerPosition replies m more k × AnswersAt login events replies k answer
signed_position login events replies m (Some text) answer opened = opened
signed_position login events replies m None answer verified =
    let opened = verified.2.4.1 in
    (opened.0, (verified.0, verified.1, opened.1), opened.2)

-- it is one position
pub one_position : (replies : List ClientSays) (m : ℕ) (more : Option (List ℕ))
    → OfOne (AnswerPosition replies m more)
one_position replies m (Some text) k l h i = one_open is_answer ends_answer replies m k l h i
one_position replies m None k l h i =
    one_open is_answer ends_answer replies i.0 k l
    (subst (λ (j : ℕ). IsLastOpen is_answer ends_answer replies j k)
    (one_open is_answer ends_answer replies m h.0 i.0 h.1 i.1) h.2) i.2

-- ---- a position has one report

-- i is before k, k itself, or after it
three : (i k : ℕ) → (i < k) ⊎ ((i ≡ k) ⊎ (k < i))
three i k = grind arith

-- a reply that answers or ends an answer
abbrev Turns : List ClientSays → ℕ → Type 0
Turns replies m =
    (test_at is_answer (slice_get replies m) ≡ true) ⊎ (test_at ends_answer (slice_get replies m) ≡ true)

-- no such reply is between an answer and where it is open
no_turn : (replies : List ClientSays) (k m p : ℕ) → IsLastOpen is_answer ends_answer replies m k
    → IsLastOpen is_answer ends_answer replies p k → Turns replies m → m < p → ⊥
no_turn replies k m p h i (inl answers) less = absurd (true≢false (sym answers ∙ i.last m h.before less))
no_turn replies k m p h i (inr ends) less = absurd (true≢false (sym ends ∙ i.kept m h.before less))

one_turn : (replies : List ClientSays) (k m p : ℕ) → IsLastOpen is_answer ends_answer replies m k
    → IsLastOpen is_answer ends_answer replies p k → Turns replies m → Turns replies p → m ≡ p
one_turn replies k m p h i turns also =
    ⊎_elim (λ (less : m < p). absurd (no_turn replies k m p h i turns less))
    (⊎_elim (λ (same : m ≡ p). same) (λ (more : p < m). absurd (no_turn replies k p m i h also more))) (three m p)

-- a report is no answer
no_answer : (replies : List ClientSays) (m j : ℕ) (more : Option (List ℕ))
    → slice_get replies m ≡ Some (Reported outcomes.Ok more) → test_at is_answer (slice_get replies j) ≡ true
    → m ≡ j → ⊥
no_answer replies m j more at answers same = absurd
    (true≢false (sym (ap (λ (z : ℕ). test_at is_answer (slice_get replies z)) same ∙ answers)
    ∙ ap (test_at is_answer) at))

-- two positions that report Ok are not of one answer
pub one_report : (replies : List ClientSays) (m p k : ℕ) (more other : Option (List ℕ))
    → slice_get replies m ≡ Some (Reported outcomes.Ok more)
    → slice_get replies p ≡ Some (Reported outcomes.Ok other) → AnswerPosition replies m more k
    → AnswerPosition replies p other k → m ≡ p
one_report replies m p k (Some text) (Some again) at also h i =
    one_turn replies k m p h i (inr (ap (test_at ends_answer) at)) (inr (ap (test_at ends_answer) also))
one_report replies m p k (Some text) None at also h i =
    absurd (no_answer replies m i.0 (Some text) at i.1.opened
    (one_turn replies k m i.0 h i.2 (inr (ap (test_at ends_answer) at)) (inl i.1.opened)))
one_report replies m p k None (Some again) at also h i =
    absurd (no_answer replies p h.0 (Some again) also h.1.opened
    (one_turn replies k p h.0 i h.2 (inr (ap (test_at ends_answer) also)) (inl h.1.opened)))
one_report replies m p k None None at also h i =
    let same : h.0 ≡ i.0 = one_turn replies k h.0 i.0 h.2 i.2 (inl h.1.opened) (inl i.1.opened) in
    one_turn replies i.0 m p (subst (λ (j : ℕ). IsLastOpen is_answer ends_answer replies m j) same h.1) i.1
    (inr (ap (test_at ends_answer) at)) (inr (ap (test_at ends_answer) also))

-- the position of an answer is one of an answer
pub position_answers : (replies : List ClientSays) (m k : ℕ) (more : Option (List ℕ)) → AnswerPosition replies m more k
    → test_at is_answer (slice_get replies k) ≡ true
position_answers replies m k (Some text) h = h.opened
position_answers replies m k None h = h.2.opened
