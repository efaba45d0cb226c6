-- A run of a SCRAM profile's machine is a client history: its state is what is due and what is open.
use Rattle.std.proofs.Common.{◌≡◌, ℕ, Option, Some, None, List, [], ◌∷◌, ◌++◌, length, refl, sym, ap, ◌∙◌, subst, arith, inl, inr, Result, Ok, append_assoc}
use Rattle.std.specs.Prelude.{slice_get}
use Rattle.std.proofs.lemmas.Option.{none-some}
use Rattle.fe2o3_sasl_wire.specs.declared.sasl_frames.error.Error.{Error}
use Rattle.fe2o3_sasl_wire.specs.SaslFrames.{SaslFrame}
use Rattle.fe2o3_scram.specs.Texts.{base64_text}
use Rattle.fe2o3_sasl_core.specs.ClientHistory.{Answering, is_start, is_answer, ends_answer, NonceAt, IsDue, AnswersAt, OpenAnswer, SignsAt, VerifiedAnswer, ClientHistory}
use Rattle.fe2o3_scram.specs.ScramClient.{ClientState, ClientInitial}
use Rattle.fe2o3_sasl_core.specs.Events.{Given, Login, ClientSays}
use Rattle.fe2o3_sasl_core.specs.Laws.{ProfileRunsAreHistories}
use Rattle.fe2o3_sasl_core.specs.Profiles.{Profile}
use Rattle.fe2o3_sasl_core.specs.Runs.{ProfileSteps, Runs}
use Rattle.fe2o3_sasl_core.specs.Bodies.{SpellsBody}
use Rattle.fe2o3_sasl_core.proofs.lemmas.histories.OneClientHistoryLemmas.{challenge_moves, client_moves, one_nonce_at, one_answers_at, one_signs_at}
use Rattle.fe2o3_sasl_core.proofs.lemmas.positions.OpenStateLemmas.{AreSame, Holds, Turns, holds_nothing, holds_push, holds_vacant}
use Rattle.fe2o3_sasl_core.proofs.lemmas.positions.PositionLemmas.{slice_get-behind}
use Rattle.fe2o3_sasl_core.proofs.lemmas.histories.LongerClientHistoryLemmas.{nonce_front, due_front, answers_front, open_answer_front, signs_front, SaysAt, client_history_push}
use Rattle.fe2o3_sasl_core.proofs.lemmas.machines.ClientStateLemmas.{profile_in, Expected, StandsFor, DueAt, OpenAt, VerifiedAt}
use Rattle.fe2o3_sasl_core.proofs.lemmas.machines.ClientStepLemmas.{SaysRow, Goes, profile_step}

-- a history, and a state that represents what is expected, open and verified after it
pub record Running (login : Login) (events : List Given) (replies : List ClientSays)
    (state : ClientState) : Type 0 where
  pub history : ClientHistory login events replies
  pub at : Expected
  pub stands : StandsFor login state at
  pub holds_due : Holds is_start is_answer (NonceAt events) replies at.due
  pub holds_open : Holds is_answer ends_answer (AnswersAt login events replies) replies at.waits
  pub holds_verified : Holds is_answer ends_answer (SignsAt login events replies) replies at.verified

abbrev expecting : Option (List ℕ) → Option Answering → Option Answering → Expected
expecting due waits verified = record { due = due; waits = waits; verified = verified }

-- the state after the next reply represents what is expected, open and verified then
running_push : (login : Login) (events : List Given) (replies : List ClientSays) (state next : ClientState)
    (event : Given) (spelled : Result SaslFrame Error) (says : ClientSays)
    → (running : Running login events replies state) →
    SpellsBody event.body spelled → SaysRow login running.at event spelled says
    → Goes login state running.at event spelled says next
    → Running login (events ++ event ∷ []) (replies ++ says ∷ []) next
running_push login events replies state next event spelled says running spells row goes = go goes
  where
    at : Expected
    at = running.at

    count : length replies ≡ length events
    count = running.history.count

    due_same : AreSame (DueAt at) (IsDue events replies (length replies))
    due_same = (running.holds_due.found, running.holds_due.only)

    open_same : AreSame (OpenAt at) (OpenAnswer login events replies (length replies))
    open_same = (running.holds_open.found, running.holds_open.only)

    verified_same : AreSame (VerifiedAt at) (VerifiedAnswer login events replies (length replies))
    verified_same = (running.holds_verified.found, running.holds_verified.only)

    at_end : SaysRow login at event spelled says → SaysAt login events replies (length replies) event says
    at_end (inl w) = (spelled, spells, inl w)
    at_end (inr a) = (
      spelled,
      spells,
      inr (client_moves login (DueAt at) (IsDue events replies (length replies)) (OpenAt at)
          (OpenAnswer login events replies (length replies)) (VerifiedAt at)
          (VerifiedAnswer login events replies (length replies)) due_same open_same verified_same event spelled says a),
    )

    there : slice_get (events ++ event ∷ []) (length replies) ≡ Some event
    there = ap (slice_get (events ++ event ∷ [])) count ∙ slice_get-behind events event []

    -- what the next position has
    Nonces : List ℕ → Type 0
    Nonces = NonceAt (events ++ event ∷ []) (length replies)

    Answers : Answering → Type 0
    Answers = AnswersAt login (events ++ event ∷ []) (replies ++ says ∷ []) (length replies)

    Signs : Answering → Type 0
    Signs = SignsAt login (events ++ event ∷ []) (replies ++ says ∷ []) (length replies)

    due_push : (due : Option (List ℕ)) → Turns is_start is_answer Nonces at.due says due
        → Holds is_start is_answer (NonceAt (events ++ event ∷ [])) (replies ++ says ∷ []) due
    due_push due turns = holds_push is_start is_answer (NonceAt events)
        (NonceAt (events ++ event ∷ [])) replies says at.due due
        (λ j l. nonce_front events (event ∷ []) j (omega (arith, count)))
        (one_nonce_at (events ++ event ∷ []) (length replies)) running.holds_due turns

    open_push : (waits : Option Answering) → Turns is_answer ends_answer Answers at.waits says waits
        → Holds is_answer ends_answer (AnswersAt login (events ++ event ∷ []) (replies ++ says ∷ []))
        (replies ++ says ∷ []) waits
    open_push waits turns = holds_push is_answer ends_answer (AnswersAt login events replies)
        (AnswersAt login (events ++ event ∷ []) (replies ++ says ∷ [])) replies says at.waits waits
        (λ j l. answers_front login events (event ∷ []) replies (says ∷ []) j count l)
        (one_answers_at login (events ++ event ∷ []) (replies ++ says ∷ []) (length replies)) running.holds_open turns

    verified_push : (verified : Option Answering) → Turns is_answer ends_answer Signs at.verified says verified
        → Holds is_answer ends_answer (SignsAt login (events ++ event ∷ []) (replies ++ says ∷ []))
        (replies ++ says ∷ []) verified
    verified_push verified turns = holds_push is_answer ends_answer (SignsAt login events replies)
        (SignsAt login (events ++ event ∷ []) (replies ++ says ∷ [])) replies says at.verified verified
        (λ j l. signs_front login events (event ∷ []) replies (says ∷ []) j count l)
        (one_signs_at login (events ++ event ∷ []) (replies ++ says ∷ []) (length replies)) running.holds_verified turns

    made : (then : Expected) → StandsFor login next then
        → Holds is_start is_answer (NonceAt (events ++ event ∷ [])) (replies ++ says ∷ []) then.due
        → Holds is_answer ends_answer (AnswersAt login (events ++ event ∷ []) (replies ++ says ∷ []))
        (replies ++ says ∷ []) then.waits
        → Holds is_answer ends_answer (SignsAt login (events ++ event ∷ []) (replies ++ says ∷ []))
        (replies ++ says ∷ []) then.verified
        → Running login (events ++ event ∷ []) (replies ++ says ∷ []) next
    made then stands holds_due holds_open holds_verified = record {
      history = client_history_push login events replies event says running.history (at_end row);
      at = then;
      stands = stands;
      holds_due = holds_due;
      holds_open = holds_open;
      holds_verified = holds_verified;
    }

    due_here : AreSame (DueAt at) (IsDue (events ++ event ∷ []) (replies ++ says ∷ []) (length replies))
    due_here =
        let front = due_front events (event ∷ []) replies (says ∷ []) (length replies) count (omega arith) in
        ((λ nonce is. front.0 nonce (due_same.0 nonce is)), (λ nonce is. due_same.1 nonce (front.1 nonce is)))

    open_here : AreSame (OpenAt at) (OpenAnswer login (events ++ event ∷ []) (replies ++ says ∷ []) (length replies))
    open_here =
        let front = open_answer_front login events (event ∷ []) replies (says ∷ []) (length replies) count
        (omega arith) in
        ((λ answer is. front.0 answer (open_same.0 answer is)), (λ answer is. open_same.1 answer (front.1 answer is)))

    -- where nothing is due, no challenge is answered, and where nothing is open, none is signed
    none_answers : at.due ≡ None → (answer : Answering) → ¬ Answers answer
    none_answers none answer h = none-some answer.nonce (sym none ∙ due_here.1 answer.nonce h.4.2)

    none_signs : at.waits ≡ None → (answer : Answering) → ¬ Signs answer
    none_signs none answer h = none-some answer (sym none ∙ open_here.1 answer h.4.1)

    stays : (same : next ≡ state) → StandsFor login next at
    stays same = subst (λ (s : ClientState). StandsFor login s at) (sym same) running.stands

    go : Goes login state at event spelled says next
        → Running login (events ++ event ∷ []) (replies ++ says ∷ []) next
    go (inl g) = made at (stays g.1) (due_push at.due (inr (inr (g.0.0, g.0.1, refl))))
        (open_push at.waits (inr (inr (g.0.1, g.0.2, refl))))
        (verified_push at.verified (inr (inr (g.0.1, g.0.2, refl))))
    go (inr (inl g)) =
        let nonce = base64_text event.nonce in
        let then = expecting (Some nonce) None None in
        made then (subst (λ (s : ClientState). StandsFor login s then) (sym g.2) (refl, refl, refl, refl))
        (due_push (Some nonce) (inl (ap is_start g.1, (nonce, (event, there, refl), refl))))
        (open_push None (inr (inl (ap is_answer g.1, ap ends_answer g.1, refl))))
        (verified_push None (inr (inl (ap is_answer g.1, ap ends_answer g.1, refl))))
    go (inr (inr (inl g))) =
        let answer = g.1 in
        let then = expecting None (Some answer) None in
        let body = subst (λ (x : Result SaslFrame Error). SpellsBody event.body x) g.4 spells in
        made then (subst (λ (s : ClientState). StandsFor login s then) (sym g.7) (refl, (answer, refl, refl), refl))
        (due_push None (inr (inl (ap is_start g.3, ap is_answer g.3, refl))))
        (open_push (Some answer) (inl (
          ap is_answer g.3,
          (
            answer,
            (
              event,
              g.2,
              there,
              body,
              challenge_moves login (DueAt at) (IsDue (events ++ event ∷ []) (replies ++ says ∷ []) (length replies))
                  due_here g.2 (Ok answer) g.6,
            ),
            refl,
          ),
        )))
        (holds_vacant is_answer ends_answer (SignsAt login (events ++ event ∷ []) (replies ++ says ∷ [])) replies says
        (ap is_answer g.3) (none_signs g.5))
    go (inr (inr (inr (inl g)))) =
        let answer = g.6.0 in
        let then = expecting None None (Some answer) in
        let body = subst (λ (x : Result SaslFrame Error). SpellsBody event.body x) g.4 spells in
        made then (subst (λ (s : ClientState). StandsFor login s then) (sym g.7) (refl, refl, (answer, refl)))
        (due_push None (inr (inl (ap is_start g.3, ap is_answer g.3, refl))))
        (holds_vacant is_answer ends_answer (AnswersAt login (events ++ event ∷ []) (replies ++ says ∷ [])) replies says
        (ap is_answer g.3) (none_answers g.5))
        (verified_push (Some answer) (inl (
          ap is_answer g.3,
          (
            answer,
            (event, g.1, there, body, (g.6.1.0, open_here.0 answer g.6.1.1), g.6.2),
            refl,
          ),
        )))
    go (inr (inr (inr (inr g)))) =
        let then = expecting at.due None None in
        made then (subst (λ (s : ClientState). StandsFor login s then) (sym g.4) (g.3, refl, refl))
        (due_push at.due (inr (inr (ap is_start g.2, ap is_answer g.2, refl))))
        (open_push None (inr (inl (ap is_answer g.2, ap ends_answer g.2, refl))))
        (verified_push None (inr (inl (ap is_answer g.2, ap ends_answer g.2, refl))))

runs_on : (login : Login) (events more : List Given) (replies others : List ClientSays) (state : ClientState)
    (last : Profile) → Running login events replies state
    → Runs (ProfileSteps login.hostname) (profile_in login state) more others last
    → ClientHistory login (events ++ more) (replies ++ others)
runs_on login events [] replies others state last running run =
    rw (run.0, nil events, nil replies) running.history
  where
    nil : {A : Type 0} (xs : List A) → xs ++ [] ≡ xs
    nil [] = refl
    nil (x ∷ xs) = ap (λ ys. x ∷ ys) (nil xs)
runs_on login events (event ∷ more) replies others state last running run =
    let says = run.0 in
    let rest = run.2 in
    let step = run.3 in
    let to = profile_step login state running.at event step.0 says run.1 running.stands step.2 in
    let pushed = running_push login events replies state to.0 event step.0 says running step.1 to.2 to.3 in
    let ih = runs_on login (events ++ event ∷ []) more (replies ++ says ∷ []) rest to.0 last pushed
    (subst (λ (p : Profile). Runs (ProfileSteps login.hostname) p more rest last) to.1 run.5) in
    subst (λ (r : List ClientSays). ClientHistory login (events ++ event ∷ more) (replies ++ r)) (sym run.4)
    (subst (λ (e : List Given). ClientHistory login e (replies ++ says ∷ rest)) (append_assoc events (event ∷ []) more)
    (subst (λ (r : List ClientSays). ClientHistory login ((events ++ event ∷ []) ++ more) r)
    (append_assoc replies (says ∷ []) rest) ih))

-- each run of a SCRAM profile's machine from its first state is a client history
pub profile_runs_are_histories : ProfileRunsAreHistories
profile_runs_are_histories login events replies last run =
    runs_on login [] events [] replies ClientInitial last (record {
      history = record { count = refl; each = λ k event says at said. absurd (none-some event at) };
      at = expecting None None None;
      stands = (refl, refl, refl);
      holds_due = holds_nothing is_start is_answer (NonceAt []);
      holds_open = holds_nothing is_answer ends_answer (AnswersAt login [] []);
      holds_verified = holds_nothing is_answer ends_answer (SignsAt login [] []);
    }) run
