-- Positions that are matched twice are of events with one nonce.
use Rattle.std.proofs.Common.{◌≡◌, ◌≢◌, ℕ, true, false, Option, Some, None, List, ◌++◌, refl, sym, ap, ◌∙◌, subst, inl}
use Rattle.std.specs.Prelude.{slice_get}
use Rattle.std.proofs.lemmas.List.{append_cancel_left}
use Rattle.fe2o3_scram.specs.Texts.{base64_text}
use Rattle.fe2o3_sasl_core.specs.ClientHistory.{Answering, AnswersAt, is_start, is_answer}
use Rattle.fe2o3_sasl_core.specs.Events.{Given, AreGiven, IsRecord, ClientSays}
use Rattle.fe2o3_sasl_core.specs.Laws.{AnswerPosition, Start, RepeatsNonce, FromTwoStarts, FromTwoChallenges, RepeatedClientPositions, RepeatedServerPositions, closes_nothing}
use Rattle.fe2o3_sasl_core.specs.Positions.{test_at, IsLastOpen}
use Rattle.fe2o3_sasl_core.specs.ServerHistory.{Challenging, Accepted, AcceptsAt, is_challenge, is_ok, full_nonce}
use Rattle.fe2o3_sasl_core.specs.TwoSides.{Sides, IsPlainInit, client_message, server_message}
use Rattle.fe2o3_scram.proofs.lemmas.texts.Base64Lemmas.{one_spelled}
use Rattle.fe2o3_sasl_core.proofs.lemmas.histories.OneClientHistoryLemmas.{one_answers_at}
use Rattle.fe2o3_sasl_core.proofs.lemmas.positions.PositionLemmas.{close_apart}
use Rattle.fe2o3_sasl_core.proofs.lemmas.two_sides.EqualMessageLemmas.{accepts_open, is_challenging, same_messages}
use Rattle.fe2o3_sasl_core.proofs.lemmas.two_sides.ReportedAnswerLemmas.{one_more, one_position, one_report, position_answers}
use Rattle.fe2o3_sasl_core.proofs.lemmas.histories.OneServerHistoryLemmas.{one_challenge}

-- two positions whose events have one nonce text
repeats : (events : List Given) (i j : ℕ) (event again : Given) → AreGiven events → i ≢ j
    → slice_get events i ≡ Some event → slice_get events j ≡ Some again
    → base64_text event.nonce ≡ base64_text again.nonce → RepeatsNonce events i j
repeats events i j event again are apart at too same = (
  apart,
  (
    event,
    again,
    at,
    too,
    one_spelled (base64_text event.nonce) event.nonce again.nonce
        ((are i event at).nonce, refl) ((are j again too).nonce, same),
  ),
)

-- ---- one Ok of the server and two answers

pub not_none : (says : Option ClientSays) → test_at closes_nothing says ≡ false
not_none None = refl
not_none (Some says) = refl

-- the start that is to be answered is the last one
start_of : (replies : List ClientSays) (k s : ℕ) → IsLastOpen is_start is_answer replies k s → Start replies k s
start_of replies k s is = record {
  before = is.before;
  opened = is.opened;
  last = is.last;
  kept = λ i behind before. not_none (slice_get replies i);
}

two_starts : (sides : Sides) (k l : ℕ) (answer other : Answering) → AreGiven sides.client_events → k ≢ l
    → test_at is_answer (slice_get sides.client_replies k) ≡ true
    → test_at is_answer (slice_get sides.client_replies l) ≡ true
    → AnswersAt sides.login sides.client_events sides.client_replies k answer
    → AnswersAt sides.login sides.client_events sides.client_replies l other → answer.nonce ≡ other.nonce
    → FromTwoStarts sides k l
two_starts sides k l answer other given apart closes too is was same =
    let due = is.4.2 in
    let also = was.4.2 in
    let one : base64_text due.2.0.nonce ≡ base64_text also.2.0.nonce = sym due.2.2 ∙ (same ∙ also.2.2) in
    let starts : due.0 ≢ also.0 =
    λ equal. apart (close_apart is_start is_answer sides.client_replies also.0 k l
    (subst (IsLastOpen is_start is_answer sides.client_replies k) equal due.1) also.1 closes too) in (
      due.0,
      also.0,
      start_of sides.client_replies k due.0 due.1,
      start_of sides.client_replies l also.0 also.1,
      repeats sides.client_events due.0 also.0 due.2.0 also.2.0 given starts due.2.1 also.2.1 one,
    )

one_nonce : (sides : Sides) (k l n : ℕ) (answer another : Answering) (accepted other : Accepted)
    → IsRecord accepted.challenge.stored → IsRecord other.challenge.stored
    → AnswersAt sides.login sides.client_events sides.client_replies k answer
    → AnswersAt sides.login sides.client_events sides.client_replies l another
    → AcceptsAt sides.provider sides.server_events sides.server_replies n accepted
    → AcceptsAt sides.provider sides.server_events sides.server_replies n other
    → client_message sides.login answer ≡ server_message accepted
    → client_message sides.login another ≡ server_message other → answer.nonce ≡ another.nonce
one_nonce sides k l n answer another accepted other kept too_kept is was accepts too same also =
    let first = same_messages sides k n answer accepted kept is accepts same in
    let second = same_messages sides l n another other too_kept was too also in
    let challenges = one_challenge sides.provider sides.server_events sides.server_replies n accepted.challenge
    other.challenge
    (accepts_open sides.provider sides.server_events sides.server_replies n accepted accepts)
    (accepts_open sides.provider sides.server_events sides.server_replies n other too) in
    first.nonce ∙ (ap (λ (challenge : Challenging). challenge.client.nonce) challenges ∙ sym second.nonce)

-- an Ok of the server that was matched twice is of two starts with one nonce
pub repeated_client_positions : RepeatedClientPositions
repeated_client_positions sides n k l accepted other given kept too_kept = (
  λ m p apart taken also.
      let takes = taken.1 in
      let retakes = also.1 in
      let replies = sides.client_replies in
      let answers : k ≢ l = λ equal. apart (one_report replies m p l takes.more retakes.more takes.reported
      retakes.reported (subst (AnswerPosition replies m takes.more) equal taken.2) also.2) in
      two_starts sides k l taken.0 also.0 given answers (position_answers replies m k takes.more taken.2)
      (position_answers replies p l retakes.more also.2) taken.3 also.3
      (one_nonce sides k l n taken.0 also.0 accepted other kept too_kept taken.3 also.3 takes.ok.accepts
      retakes.ok.accepts taken.4 also.4),
  λ apart shown also.
      let shows = shown.1 in
      let reshows = also.1 in
      two_starts sides k l shown.0 also.0 given apart (ap (test_at is_answer) shows.answered)
      (ap (test_at is_answer) reshows.answered) shows.answers reshows.answers
      (one_nonce sides k l n shown.0 also.0 accepted other kept too_kept shows.answers reshows.answers shows.ok.accepts
      reshows.ok.accepts shown.2 also.2),
)

-- ---- one answer and two Oks of the server

two_challenges : (sides : Sides) (n o : ℕ) (accepted other : Accepted) → AreGiven sides.server_events → n ≢ o
    → test_at is_ok (slice_get sides.server_replies n) ≡ true → test_at is_ok (slice_get sides.server_replies o) ≡ true
    → AcceptsAt sides.provider sides.server_events sides.server_replies n accepted
    → AcceptsAt sides.provider sides.server_events sides.server_replies o other
    → accepted.challenge.nonce ≡ other.challenge.nonce → FromTwoChallenges sides n o
two_challenges sides n o accepted other given apart closes too accepts also same =
    let first = accepts_open sides.provider sides.server_events sides.server_replies n accepted accepts in
    let second = accepts_open sides.provider sides.server_events sides.server_replies o other also in
    let at = first.2 in
    let again = second.2 in
    let nonce = (is_challenging sides.provider at.0 at.1 accepted.challenge at.4).nonce in
    let renonce = (is_challenging sides.provider again.0 again.1 other.challenge again.4).nonce in
    let one : base64_text at.0.nonce ≡ base64_text again.0.nonce = sym nonce ∙ (same ∙ renonce) in
    let places : first.0 ≢ second.0 =
    λ equal. apart (close_apart is_challenge is_ok sides.server_replies second.0 n o
    (subst (IsLastOpen is_challenge is_ok sides.server_replies n) equal first.1) second.1 closes too) in (
      first.0,
      second.0,
      first.1,
      second.1,
      repeats sides.server_events first.0 second.0 at.0 again.0 given places at.2
          again.2 one,
    )

-- the nonces of the server are equal, after one nonce of the client
one_server_nonce : (sides : Sides) (k n o : ℕ) (answer another : Answering) (accepted other : Accepted)
    → IsRecord accepted.challenge.stored → IsRecord other.challenge.stored → IsPlainInit accepted → IsPlainInit other
    → AnswersAt sides.login sides.client_events sides.client_replies k answer
    → AnswersAt sides.login sides.client_events sides.client_replies k another
    → AcceptsAt sides.provider sides.server_events sides.server_replies n accepted
    → AcceptsAt sides.provider sides.server_events sides.server_replies o other
    → client_message sides.login answer ≡ server_message accepted
    → client_message sides.login another ≡ server_message other → accepted.challenge.nonce ≡ other.challenge.nonce
one_server_nonce sides k n o answer another accepted other kept too_kept plain also_plain is was accepts too same also =
    let first = same_messages sides k n answer accepted kept is accepts same in
    let second = same_messages sides k o another other too_kept was too also in
    let one = one_answers_at sides.login sides.client_events sides.client_replies k answer another is was in
    let challenge = accepted.challenge in
    let another_challenge = other.challenge in
    let nonces : challenge.client.nonce ≡ another_challenge.client.nonce =
    sym first.nonce ∙ (ap (λ (z : Answering). z.nonce) one ∙ second.nonce) in
    let fulls : full_nonce challenge ≡ full_nonce another_challenge =
    sym (first.full_nonce (inl plain))
    ∙ (ap (λ (z : Answering). z.first.nonce) one ∙ second.full_nonce (inl also_plain)) in
    append_cancel_left challenge.client.nonce challenge.nonce another_challenge.nonce
    (fulls ∙ ap (λ z. z ++ another_challenge.nonce) (sym nonces))

-- a position of the client that was matched twice, with two plain inits, is of two challenges with one nonce
pub repeated_server_positions : RepeatedServerPositions
repeated_server_positions sides k n o accepted other given kept too_kept apart plain also_plain = (
  λ m l taken also.
      let takes = taken.1 in
      let retakes = also.1 in
      let more = one_more sides.client_replies m retakes.more takes.more retakes.reported takes.reported in
      let position : AnswerPosition sides.client_replies m takes.more l =
      subst (λ (z : Option (List ℕ)). AnswerPosition sides.client_replies m z l) more also.2 in
      let place : l ≡ k = one_position sides.client_replies m takes.more l k position taken.2 in
      let answers = subst (λ (z : ℕ). AnswersAt sides.login sides.client_events sides.client_replies z also.0) place
      also.3 in
      two_challenges sides n o accepted other given apart (ap (test_at is_ok) takes.ok.says)
      (ap (test_at is_ok) retakes.ok.says) takes.ok.accepts retakes.ok.accepts
      (one_server_nonce sides k n o taken.0 also.0 accepted other kept too_kept plain also_plain taken.3 answers
      takes.ok.accepts retakes.ok.accepts taken.4 also.4),
  λ shown also.
      let shows = shown.1 in
      let reshows = also.1 in
      two_challenges sides n o accepted other given apart (ap (test_at is_ok) shows.ok.says)
      (ap (test_at is_ok) reshows.ok.says) shows.ok.accepts reshows.ok.accepts
      (one_server_nonce sides k n o shown.0 also.0 accepted other kept too_kept plain also_plain shows.answers
      reshows.answers shows.ok.accepts reshows.ok.accepts shown.2 also.2),
)
