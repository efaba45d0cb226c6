-- What the responses of a client's history answer: a server-first message, or a signature that came in a challenge.
use Rattle.std.proofs.Common.{◌≡◌, ◌⊎◌, ℕ, suc, ◌<◌, true, false, true≢false, Option, Some, None, List, refl, sym, ap, ◌∙◌, subst, arith, inl, inr, ⊎_elim, Result, Ok, Err}
use Rattle.std.specs.Prelude.{slice_get}
use Rattle.std.proofs.lemmas.Option.{slice_get_within}
use Rattle.fe2o3_sasl_wire.specs.declared.amqp_types.SaslCode.TheVariants as outcomes
use Rattle.fe2o3_sasl_wire.specs.declared.sasl_frames.error.Error.{Error}
use Rattle.fe2o3_sasl_wire.specs.declared.sasl_frames.error.Error.TheVariants as faults
use Rattle.fe2o3_sasl_wire.specs.SaslFrames.{canonical, SaslFrame}
use Rattle.fe2o3_sasl_wire.specs.SaslFrames as frames
use Rattle.fe2o3_scram.specs.ChannelBinding.{header_of}
use Rattle.fe2o3_scram.specs.ClientFirst.{client_first_with}
use Rattle.fe2o3_scram.specs.Texts.{base64_text}
use Rattle.fe2o3_sasl_core.specs.Bodies.{SpellsBody}
use Rattle.fe2o3_sasl_core.specs.ClientHistory.{Answering, OpenAnswer, SignsAt, VerifiedAnswer, IsDue, ClientHistory, ClientAnswers, ClientAllocates, ReadsSigning, is_start, is_answer, ends_answer}
use Rattle.fe2o3_sasl_core.specs.Events.{Given, Login, login_mechanism, ClientSays, Started, Answered, Reported, Refused, login_header}
use Rattle.fe2o3_sasl_core.specs.Positions.{test_at, IsLastOpen}
use Rattle.fe2o3_sasl_core.specs.Laws.{AnswerPosition}
use Rattle.fe2o3_sasl.specs.private.Receipts.{ProvesAt}
use Rattle.fe2o3_sasl_core.proofs.lemmas.frames.SpellingLemmas.{carried_not}
use Rattle.fe2o3_sasl_core.proofs.lemmas.positions.PositionLemmas.{below_or_at, some_at}
use Rattle.fe2o3_sasl_core.specs.declared.sasl_profile.error.ProfileError.TheVariants.{Frame, OutOfMemory}

-- ---- a response answers a challenge that is expected, or a signature

-- a challenge with the signature, spelled by a body
abbrev Signing : Login → (Answering → Type 0) → Result SaslFrame Error → Type 0
Signing login IsOpen spelled =
    (text : List ℕ) × (spelled ≡ Ok (frames.Challenge text)) × ReadsSigning login IsOpen text (Ok tt)

module _ (login : Login) (Due : List ℕ → Type 0) (IsOpen IsVerified : Answering → Type 0) where
  abbrev DueOrSigning : Result SaslFrame Error → Type 0
  DueOrSigning spelled = ((nonce : List ℕ) × Due nonce) ⊎ Signing login IsOpen spelled

  answers_of : (event : Given) (spelled : Result SaslFrame Error) (body : List ℕ)
      → ClientAnswers login Due IsOpen IsVerified event spelled (Answered body) → DueOrSigning spelled
  answers_of event (Err fault) body says = absurd (cc)
  answers_of event (Ok (frames.Init mechanism response hostname)) body says = absurd (cc)
  answers_of event (Ok (frames.Response text)) body says = absurd (cc)
  answers_of event (Ok (frames.Mechanisms names)) body (inl says) =
      absurd (carried_not (Refused (Frame faults.TooLarge)) (λ body. Started body)
      (canonical (frames.Init (login_mechanism login)
      (Some (client_first_with (header_of (login_header login)) login.user (base64_text event.nonce))) login.hostname))
      (Answered body) (λ is. cc)
      (λ body is. cc) (sym says.1))
  answers_of event (Ok (frames.Mechanisms names)) body (inr says) = let is = says.1 in absurd (cc)
  answers_of event (Ok (frames.Challenge text)) body (inl says) = inr (text, refl, says.0)
  answers_of event (Ok (frames.Challenge text)) body (inr (inl says)) = let is = says.2 in absurd (cc)
  answers_of event (Ok (frames.Challenge text)) body (inr (inr (none, inl says))) = inl (says.0.nonce, says.1.2)
  answers_of event (Ok (frames.Challenge text)) body (inr (inr (none, inr says))) = let is = says.2 in absurd (cc)
  answers_of event (Ok (frames.Outcome outcomes.Ok other)) body (inl says) = let is = says.1 in absurd (cc)
  answers_of event (Ok (frames.Outcome outcomes.Ok other)) body (inr says) = let is = says.2 in absurd (cc)
  answers_of event (Ok (frames.Outcome outcomes.Auth other)) body says = absurd (cc)
  answers_of event (Ok (frames.Outcome outcomes.Sys other)) body says = absurd (cc)
  answers_of event (Ok (frames.Outcome outcomes.SysPerm other)) body says = absurd (cc)
  answers_of event (Ok (frames.Outcome outcomes.SysTemp other)) body says = absurd (cc)

pub answered_by : (login : Login) (events : List Given) (replies : List ClientSays) (k : ℕ) (body : List ℕ)
    → ClientHistory login events replies → slice_get replies k ≡ Some (Answered body)
    → ((nonce : List ℕ) × IsDue events replies k nonce)
    ⊎ ((answer : Answering) × SignsAt login events replies k answer)
answered_by login events replies k body history at =
    let event = some_at events k (omega (
      arith,
      history.count,
      slice_get_within replies k (Answered body) at,
    )) in
    let row = history.each k event.0 (Answered body) event.1 at in
    ⊎_elim (λ (none : ClientAllocates login row.0 × (Answered body ≡ Refused OutOfMemory)). let is = none.1 in
    absurd (cc))
    (λ (says : ClientAnswers login (IsDue events replies k) (OpenAnswer login events replies k)
    (VerifiedAnswer login events replies k) event.0 row.0 (Answered body)).
    ⊎_elim (λ (due : (nonce : List ℕ) × IsDue events replies k nonce). inl due)
    (λ (signing : Signing login (OpenAnswer login events replies k) row.0). inr (
      signing.2.0,
      (
        event.0,
        signing.0,
        event.1,
        subst (λ (z : Result SaslFrame Error). SpellsBody event.0.body z) signing.1 row.1,
        signing.2.1,
        signing.2.2,
      ),
    ))
    (answers_of login (IsDue events replies k) (OpenAnswer login events replies k)
    (VerifiedAnswer login events replies k) event.0 row.0 body says))
    row.2

-- ---- what is due and what is open

-- a response is there
pub answered_at : (says : Option ClientSays) → test_at is_answer says ≡ true
    → (body : List ℕ) × (says ≡ Some (Answered body))
answered_at None is = absurd (true≢false (sym is))
answered_at (Some (Started body)) is = absurd (true≢false (sym is))
answered_at (Some (Answered body)) is = (body, refl)
answered_at (Some (Reported code more)) is = absurd (true≢false (sym is))
answered_at (Some (Refused fault)) is = absurd (true≢false (sym is))

-- a start is no response
no_start_answers : (says : Option ClientSays) → test_at is_start says ≡ true → test_at is_answer says ≡ false
no_start_answers None is = absurd (true≢false (sym is))
no_start_answers (Some (Started body)) is = refl
no_start_answers (Some (Answered body)) is = absurd (true≢false (sym is))
no_start_answers (Some (Reported code more)) is = absurd (true≢false (sym is))
no_start_answers (Some (Refused fault)) is = absurd (true≢false (sym is))

-- a start ends an answer
each_start_ends : (says : Option ClientSays) → test_at is_start says ≡ true → test_at ends_answer says ≡ true
each_start_ends None is = absurd (true≢false (sym is))
each_start_ends (Some (Started body)) is = refl
each_start_ends (Some (Answered body)) is = absurd (true≢false (sym is))
each_start_ends (Some (Reported code more)) is = absurd (true≢false (sym is))
each_start_ends (Some (Refused fault)) is = absurd (true≢false (sym is))

three : (i k : ℕ) → (i < k) ⊎ ((i ≡ k) ⊎ (k < i))
three i k = grind arith

-- where an answer is open, no start waits for a challenge
pub not_both : (replies : List ClientSays) (i s j : ℕ) → IsLastOpen is_start is_answer replies i s
    → IsLastOpen is_answer ends_answer replies i j → ⊥
not_both replies i s j due opened =
    ⊎_elim (λ (l : s < j). true≢false (sym opened.opened ∙ due.kept j l opened.before))
    (⊎_elim (λ (e : s ≡ j). true≢false (sym opened.opened
    ∙ subst (λ (z : ℕ). test_at is_answer (slice_get replies z) ≡ false) e
    (no_start_answers (slice_get replies s) due.opened)))
    (λ (l : j < s). true≢false (sym (each_start_ends (slice_get replies s) due.opened)
    ∙ opened.kept s l due.before)))
    (three s j)

-- after a response no start waits for a challenge
pub none_due : (replies : List ClientSays) (i s : ℕ) (body : List ℕ) → slice_get replies i ≡ Some (Answered body)
    → ¬ IsLastOpen is_start is_answer replies (suc i) s
none_due replies i s body at due =
    ⊎_elim (λ (l : s < i). true≢false (sym (ap (test_at is_answer) at) ∙ due.kept i l (omega arith)))
    (λ (e : s ≡ i). true≢false (sym due.opened
    ∙ subst (λ (z : ℕ). test_at is_start (slice_get replies z) ≡ false) (sym e) (ap (test_at is_start) at)))
    (below_or_at s i due.before)

-- after a start no answer is open
pub none_open : (replies : List ClientSays) (i j : ℕ) (body : List ℕ) → slice_get replies i ≡ Some (Started body)
    → ¬ IsLastOpen is_answer ends_answer replies (suc i) j
none_open replies i j body at opened =
    ⊎_elim (λ (l : j < i). true≢false (sym (ap (test_at ends_answer) at) ∙ opened.kept i l (omega arith)))
    (λ (e : j ≡ i). true≢false (sym opened.opened
    ∙ subst (λ (z : ℕ). test_at is_answer (slice_get replies z) ≡ false) (sym e) (ap (test_at is_answer) at)))
    (below_or_at j i opened.before)

-- ---- the proof of a reported Ok is the last one

module _ (login : Login) (events : List Given) (replies : List ClientSays) where
  -- a proof is a response
  proof_answers : (m : ℕ) → ProvesAt login events replies m → test_at is_answer (slice_get replies m) ≡ true
  proof_answers m proves = ap (test_at is_answer) proves.2

  -- the response to the signature shows no proof
  signature_no_proof : (j k : ℕ) → IsLastOpen is_answer ends_answer replies j k → ¬ ProvesAt login events replies j
  signature_no_proof j k opened proves =
      let due = proves.3.4.2 in not_both replies j due.0 k due.1 opened

  -- the position of the answer is before that of the outcome
  pub position_before : (i k : ℕ) (more : Option (List ℕ)) → AnswerPosition replies i more k → k < i
  position_before i k (Some text) position = position.before
  position_before i k None position = omega (arith, position.1.before, position.2.before)

  -- and no proof is between
  pub none_proved : (i k : ℕ) (more : Option (List ℕ)) → AnswerPosition replies i more k → (m : ℕ) → k < m → m < i
      → ¬ ProvesAt login events replies m
  none_proved i k (Some text) position m a b proves =
      true≢false (sym (proof_answers m proves) ∙ position.last m a b)
  none_proved i k None position m a b proves =
      ⊎_elim (λ (l : m < position.0). true≢false (sym (proof_answers m proves) ∙ position.2.last m a l))
      (⊎_elim (λ (e : m ≡ position.0). signature_no_proof position.0 k position.2
      (subst (λ (z : ℕ). ProvesAt login events replies z) e proves))
      (λ (l : position.0 < m). true≢false (sym (proof_answers m proves) ∙ position.1.last m l b)))
      (three m position.0)
