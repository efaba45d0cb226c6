-- The receipts of a client's run.
use Rattle.std.proofs.Common.{◌≡◌, ℕ, suc, ◌≤◌, ◌+◌, Bool, true, false, true≢false, Option, Some, None, List, [], ◌∷◌, ◌++◌, refl, sym, ap, ◌∙◌, subst, arith, ⊎_elim}
use Rattle.std.specs.Prelude.{slice_get}
use Rattle.std.proofs.lemmas.Option.{none-some, same_Some}
use Rattle.fe2o3_sasl_wire.specs.declared.amqp_types.SaslCode.TheVariants as outcomes
use Rattle.fe2o3_scram.specs.Texts.{base64_text}
use Rattle.fe2o3_sasl_core.specs.ClientHistory.{Answering, AnswersAt, SignsAt, IsDue, ClientHistory, is_start, is_answer, ends_answer}
use Rattle.fe2o3_sasl_core.specs.Events.{Given, Login, ClientSays, Started, Answered, Reported, Refused}
use Rattle.fe2o3_sasl_core.specs.Headline.{SignedAt}
use Rattle.fe2o3_sasl_core.specs.Positions.{test_at, IsLastOpen}
use Rattle.fe2o3_sasl_core.specs.TwoSides.{ChallengeAt, VerifierText, SignedAnswer}
use Rattle.fe2o3_sasl.specs.declared.audit.client_receipts.Last.{Last}
use Rattle.fe2o3_sasl.specs.private.ClientReceipts.{ClientSoFar, ShownFor, ResponseKeeps, TakenFor, VerifierOf, ClientKeeps}
use Rattle.fe2o3_sasl.specs.private.Receipts.{ClientReceipt, OfAnswer, Covers, IsShownReceipt, IsTakenReceipt, ProvesAt, ReportsAt}
use Rattle.fe2o3_sasl.proofs.lemmas.audit.CoverLemmas.{covers_skip, covers_push, covers_last}
use Rattle.fe2o3_sasl.proofs.lemmas.audit.ResponseLemmas.{answered_by, answered_at, none_due, none_open, position_before, none_proved}
use Rattle.fe2o3_sasl.proofs.lemmas.lists.MemberLemmas.{member_last, member_each}
use Rattle.fe2o3_sasl_core.proofs.lemmas.histories.OneClientHistoryLemmas.{one_answers_at}
use Rattle.fe2o3_sasl_core.proofs.lemmas.positions.PositionLemmas.{opens_here, was_open, one_open}
use Rattle.fe2o3_sasl_core.proofs.lemmas.two_sides.HeadlineLemmas.{reports_ok_exactly}
use Rattle.fe2o3_sasl_core.proofs.lemmas.two_sides.ReportedAnswerLemmas.{signed_position, position_answers}

-- ---- position by position

module _ (login : Login) (events : List Given) (replies : List ClientSays)
    (history : ClientHistory login events replies) where
  abbrev SoFar : ℕ → ℕ → Option ℕ → List ClientReceipt → List ClientReceipt → Type 0
  SoFar i start response shown taken = ClientSoFar login events replies i start response shown taken

  abbrev Shown : ClientReceipt → Type 0
  Shown receipt = IsShownReceipt login events replies receipt

  abbrev Taken : ClientReceipt → Type 0
  Taken receipt = IsTakenReceipt login events replies receipt

  -- no start here: what can be answered stays
  no_start : (i start : ℕ) (says : ClientSays) → slice_get replies i ≡ Some says → is_start says ≡ false
      → ((s : ℕ) → IsLastOpen is_start is_answer replies i s → start ≡ s) → (s : ℕ)
      → IsLastOpen is_start is_answer replies (suc i) s → start ≡ s
  no_start i start says at none before s h =
      before s (was_open is_start is_answer replies i s (ap (test_at is_start) at ∙ none) h)

  -- and what cannot be answered stays
  still_used : (i : ℕ) (response : Option ℕ) (says : ClientSays) → slice_get replies i ≡ Some says
      → is_start says ≡ false → ((j s : ℕ) → response ≡ Some j → ¬ IsLastOpen is_start is_answer replies i s)
      → (j s : ℕ) → response ≡ Some j → ¬ IsLastOpen is_start is_answer replies (suc i) s
  still_used i response says at none before j s is h =
      before j s is (was_open is_start is_answer replies i s (ap (test_at is_start) at ∙ none) h)

  -- no answer here: what can be open stays
  no_answer : (i : ℕ) (response : Option ℕ) (says : ClientSays) → slice_get replies i ≡ Some says
      → is_answer says ≡ false → ((j : ℕ) → IsLastOpen is_answer ends_answer replies i j → response ≡ Some j)
      → (j : ℕ) → IsLastOpen is_answer ends_answer replies (suc i) j → response ≡ Some j
  no_answer i response says at none before j h =
      before j (was_open is_answer ends_answer replies i j (ap (test_at is_answer) at ∙ none) h)

  -- a reply that is no response adds no proof
  no_proof : (i : ℕ) (says : ClientSays) → slice_get replies i ≡ Some says → is_answer says ≡ false
      → ¬ ProvesAt login events replies i
  no_proof i says at none proves =
      let is = sym at ∙ proves.2 in absurd (true≢false (ap (test_at is_answer) (sym is) ∙ none))

  -- a reply of which nothing is kept
  nothing_here : (i start : ℕ) (response : Option ℕ) (shown taken : List ClientReceipt) (says : ClientSays)
      → slice_get replies i ≡ Some says → is_start says ≡ false → is_answer says ≡ false
      → ((more : Option (List ℕ)) → says ≡ Reported outcomes.Ok more → ⊥) → SoFar i start response shown taken
      → SoFar (suc i) start response shown taken
  nothing_here i start response shown taken says at no_s no_a no_r h = record {
    shows = covers_skip Shown (λ r. r.place) (ProvesAt login events replies) i shown h.shows (no_proof i says at no_a);
    takes = covers_skip Taken (λ r. r.place) (ReportsAt replies) i taken h.takes
        (λ r. no_r r.0 (same_Some says (Reported outcomes.Ok r.0) (sym at ∙ r.1)));
    started = no_start i start says at no_s h.started;
    answered = no_answer i response says at no_a h.answered;
    used = still_used i response says at no_s h.used;
  }

  start_here : (i start : ℕ) (response : Option ℕ) (shown taken : List ClientReceipt) (body : List ℕ)
      → slice_get replies i ≡ Some (Started body) → SoFar i start response shown taken
      → SoFar (suc i) i None shown taken
  start_here i start response shown taken body at h = record {
    shows = covers_skip Shown (λ r. r.place) (ProvesAt login events replies) i shown h.shows
        (no_proof i (Started body) at refl);
    takes = covers_skip Taken (λ r. r.place) (ReportsAt replies) i taken h.takes
        (λ r. let is = sym at ∙ r.1 in absurd (cc));
    started = λ s o. one_open is_start is_answer replies (suc i) i s
        (opens_here is_start is_answer replies i (ap (test_at is_start) at)) o;
    answered = λ j o. absurd (none_open replies i j body at o);
    used = λ j s is o. absurd (none-some j is);
  }

  -- a response to a server-first message
  proof_here : (i start : ℕ) (response : Option ℕ) (shown taken : List ClientReceipt) (body : List ℕ)
      (init event : Given) (receipt : ClientReceipt) → slice_get replies i ≡ Some (Answered body)
      → slice_get events start ≡ Some init → slice_get events i ≡ Some event
      → ShownFor login i init.nonce event.body receipt
      → ((answer : Answering) → ¬ SignsAt login events replies i answer)
      → SoFar i start response shown taken
      → SoFar (suc i) start (Some i) (shown ++ receipt ∷ []) taken
  proof_here i start response shown taken body init event receipt at first here made none h = record {
    shows = covers_push Shown (λ r. r.place) (ProvesAt login events replies) i shown receipt h.shows is made.5;
    takes = covers_skip Taken (λ r. r.place) (ReportsAt replies) i taken h.takes
        (λ r. let is = sym at ∙ r.1 in absurd (cc));
    started = no_start i start (Answered body) at refl h.started;
    answered = λ j o. ap Some (one_open is_answer ends_answer replies (suc i) i j
        (opens_here is_answer ends_answer replies i (ap (test_at is_answer) at)) o);
    used = λ j s same. none_due replies i s body at;
  }
    where
      answer : Answering
      answer = record { nonce = base64_text init.nonce; text = made.0; first = made.1 }

      due : IsDue events replies i (base64_text init.nonce)
      due = ⊎_elim (λ (d : (nonce : List ℕ) × IsDue events replies i nonce).
          let e : start ≡ d.1.0 = h.started d.1.0 d.1.1 in
          (d.1.0, d.1.1, (init, subst (λ (z : ℕ). slice_get events z ≡ Some init) e first, refl)))
          (λ (signs : (answer : Answering) × SignsAt login events replies i answer).
          absurd (none signs.0 signs.1))
          (answered_by login events replies i body history at)

      answers : AnswersAt login events replies i answer
      answers = (event, made.0, here, made.2, (made.3, refl, due, made.4))

      is : Shown receipt
      is = (
        body,
        answer,
        subst (λ (z : ℕ). slice_get replies z ≡ Some (Answered body)) (sym made.5) at,
        subst (λ (z : ℕ). AnswersAt login events replies z answer) (sym made.5) answers,
        made.6,
        made.7,
      )

  -- a second response after a start shows no proof
  signature_here : (i start k : ℕ) (shown taken : List ClientReceipt) (body : List ℕ)
      → slice_get replies i ≡ Some (Answered body) → SoFar i start (Some k) shown taken
      → SoFar (suc i) start (Some i) shown taken
  signature_here i start k shown taken body at h = record {
    shows = covers_skip Shown (λ r. r.place) (ProvesAt login events replies) i shown h.shows
        (λ proves. let due = proves.3.4.2 in h.used k due.0 refl due.1);
    takes = covers_skip Taken (λ r. r.place) (ReportsAt replies) i taken h.takes
        (λ r. let is = sym at ∙ r.1 in absurd (cc));
    started = no_start i start (Answered body) at refl h.started;
    answered = λ j o. ap Some (one_open is_answer ends_answer replies (suc i) i j
        (opens_here is_answer ends_answer replies i (ap (test_at is_answer) at)) o);
    used = λ j s same. none_due replies i s body at;
  }

  -- a response, as the pass keeps it
  response_here : (i start : ℕ) (signed : Bool) (response : Option ℕ) (shown shown' taken : List ClientReceipt)
      (body : List ℕ) (init event : Given) → login.signature_by_challenge ≡ signed
      → slice_get replies i ≡ Some (Answered body) → slice_get events start ≡ Some init
      → slice_get events i ≡ Some event → ResponseKeeps login i init event signed response shown shown'
      → SoFar i start response shown taken → SoFar (suc i) start (Some i) shown' taken
  response_here i start true (Some k) shown shown' taken body init event signed at first here kept h =
      subst (λ (z : List ClientReceipt). SoFar (suc i) start (Some i) z taken) (sym kept)
      (signature_here i start k shown taken body at h)
  response_here i start true None shown shown' taken body init event signed at first here kept h =
      subst (λ (z : List ClientReceipt). SoFar (suc i) start (Some i) z taken) (sym kept.2)
      (proof_here i start None shown taken body init event kept.0 at first here kept.1
      (λ answer signs. none-some signs.4.1.0 (h.answered signs.4.1.0 signs.4.1.1)) h)
  response_here i start false response shown shown' taken body init event signed at first here kept h =
      subst (λ (z : List ClientReceipt). SoFar (suc i) start (Some i) z taken) (sym kept.2)
      (proof_here i start response shown taken body init event kept.0 at first here kept.1
      (λ answer signs. absurd (true≢false (sym signs.4.0 ∙ signed))) h)

  -- ---- a reported Ok

  -- the answer on which it is reported
  signed_answer : (i : ℕ) (more : Option (List ℕ)) → SignedAt login events replies i more
      → (answer : Answering) × SignedAnswer login events replies i more answer
  signed_answer i (Some text) signed = (signed.1, signed.4)
  signed_answer i None signed = (signed.1, signed.4)

  -- the text of its server-final message
  verifier_here : (i : ℕ) (response : Option ℕ) (more : Option (List ℕ)) (text : List ℕ) (answer : Answering)
      → ((j : ℕ) → IsLastOpen is_answer ends_answer replies i j → response ≡ Some j)
      → SignedAnswer login events replies i more answer → VerifierOf events response more text
      → VerifierText events replies i more text
  verifier_here i response (Some given) text answer answered signed verifier = verifier
  verifier_here i response None text answer answered signed verifier =
      let same : verifier.0 ≡ signed.0 =
      same_Some verifier.0 signed.0 (sym verifier.1 ∙ answered signed.0 signed.1) in
      (signed.0, signed.1, subst (λ (z : ℕ). ChallengeAt events z text) same verifier.2)

  -- the last proof is of this answer
  last_of : (i : ℕ) (more : Option (List ℕ)) (answer : Answering) (front : List ClientReceipt) (last : ClientReceipt)
      → SignedAnswer login events replies i more answer
      → Covers Shown (λ r. r.place) (ProvesAt login events replies) i (front ++ last ∷ [])
      → OfAnswer login answer last
  last_of i more answer front last signed covers =
      let position = signed_position login events replies i more answer signed in
      let k = position.0 in
      let answered = answered_at (slice_get replies k) (position_answers replies i k more position.1) in
      let place : last.place ≡ k =
      covers_last Shown (λ r. r.place) (ProvesAt login events replies) i k front last
      (λ r is. (is.0, is.1, is.2, is.3)) covers (position_before login events replies i k more position.1)
      (answered.0, answer, answered.1, position.2) (none_proved login events replies i k more position.1) in
      let is = member_each Shown (front ++ last ∷ []) last covers.each (member_last front last) in
      let one : is.1 ≡ answer = one_answers_at login events replies k is.1 answer
      (subst (λ (z : ℕ). AnswersAt login events replies z is.1) place is.3) position.2 in
      subst (λ (z : Answering). OfAnswer login z last) one is.5

  report_here : (i start : ℕ) (response : Option ℕ) (shown taken : List ClientReceipt) (more : Option (List ℕ))
      (text : List ℕ) (front : List ClientReceipt) (last receipt : ClientReceipt)
      → slice_get replies i ≡ Some (Reported outcomes.Ok more) → VerifierOf events response more text
      → shown ≡ front ++ last ∷ [] → TakenFor i text last receipt → SoFar i start response shown taken
      → SoFar (suc i) start response shown (taken ++ receipt ∷ [])
  report_here i start response shown taken more text front last receipt at verifier ends made h = record {
    shows = covers_skip Shown (λ r. r.place) (ProvesAt login events replies) i shown h.shows
        (no_proof i (Reported outcomes.Ok more) at refl);
    takes = covers_push Taken (λ r. r.place) (ReportsAt replies) i taken receipt h.takes is made.place;
    started = no_start i start (Reported outcomes.Ok more) at refl h.started;
    answered = no_answer i response (Reported outcomes.Ok more) at refl h.answered;
    used = still_used i response (Reported outcomes.Ok more) at refl h.used;
  }
    where
      is : Taken receipt
      is =
          let signed = signed_answer i more ((reports_ok_exactly login events replies history).only i more at) in
          let of_last = last_of i more signed.0 front last signed.1
          (subst (λ (z : List ClientReceipt). Covers Shown (λ r. r.place) (ProvesAt login events replies) i z) ends
          h.shows) in
          let of : OfAnswer login signed.0 receipt = record {
            message = made.message ∙ of_last.message;
            client_key = made.client_key ∙ of_last.client_key;
            stored_key = made.stored_key ∙ of_last.stored_key;
            server_key = made.server_key ∙ of_last.server_key;
          } in (
            more,
            text,
            signed.0,
            subst (λ (z : ℕ). slice_get replies z ≡ Some (Reported outcomes.Ok more)) (sym made.place) at,
            subst (λ (z : ℕ). SignedAnswer login events replies z more signed.0) (sym made.place) signed.1,
            subst (λ (z : ℕ). VerifierText events replies z more text) (sym made.place)
                (verifier_here i response more text signed.0 h.answered signed.1 verifier),
            made.shown,
            of,
          )

  moved : (i next start : ℕ) (response' response : Option ℕ) (shown shown' taken taken' : List ClientReceipt)
      → next ≡ start → response' ≡ response → shown' ≡ shown → taken' ≡ taken → SoFar i start response shown taken
      → SoFar i next response' shown' taken'
  moved i next start response' response shown shown' taken taken' d e f g h =
      subst (λ (z : ℕ × Option ℕ × List ClientReceipt × List ClientReceipt). SoFar i z.0 z.1 z.2 z.3)
      (λ j. (sym d j, sym e j, sym f j, sym g j)) h

-- ---- a step of the pass

module _ (login : Login) (events : List Given) (replies : List ClientSays)
    (history : ClientHistory login events replies) (i : ℕ) (last next : Last)
    (shown shown' taken taken' : List ClientReceipt) (init event : Given) where
  abbrev Before : Type 0
  Before = ClientSoFar login events replies i last.start last.response shown taken

  abbrev After : ℕ → Type 0
  After k = ClientSoFar login events replies k next.start next.response shown' taken'

  -- nothing is kept here, and what was kept stays
  passed : (says : ClientSays) → slice_get replies i ≡ Some says → is_start says ≡ false → is_answer says ≡ false
      → ((more : Option (List ℕ)) → says ≡ Reported outcomes.Ok more → ⊥)
      → (next.start ≡ last.start) × (next.response ≡ last.response) × (shown' ≡ shown) × (taken' ≡ taken) → Before
      → After (suc i)
  passed says at no_s no_a no_r k h =
      moved login events replies history (suc i) next.start last.start next.response last.response shown
      shown' taken taken' k.0 k.1 k.2 k.3
      (nothing_here login events replies history i last.start last.response shown taken says at no_s no_a
      no_r h)

  step : (says : ClientSays) → slice_get replies i ≡ Some says → slice_get events last.start ≡ Some init
      → slice_get events i ≡ Some event
      → ClientKeeps login i init event events says last next shown shown' taken taken' → Before → After (suc i)
  step (Started body) at first here k h =
      moved login events replies history (suc i) next.start i next.response None shown shown' taken taken'
      k.0 k.1 k.2 k.3
      (start_here login events replies history i last.start last.response shown taken body at h)
  step (Answered body) at first here k h =
      moved login events replies history (suc i) next.start last.start next.response (Some i) shown' shown'
      taken taken' k.0 k.1 refl k.3
      (response_here login events replies history i last.start login.signature_by_challenge last.response
      shown shown' taken body init event refl at first here k.2 h)
  step (Reported outcomes.Ok more) at first here k h =
      moved login events replies history (suc i) next.start last.start next.response last.response shown
      shown' (taken ++ k.3.3 ∷ []) taken' k.0 k.1 k.2 k.3.7
      (report_here login events replies history i last.start last.response shown taken more k.3.0 k.3.1
      k.3.2 k.3.3 at k.3.4 k.3.5 k.3.6 h)
  step (Reported outcomes.Auth more) at first here k h =
      passed (Reported outcomes.Auth more) at refl refl (λ m e. cc) k h
  step (Reported outcomes.Sys more) at first here k h =
      passed (Reported outcomes.Sys more) at refl refl (λ m e. cc) k h
  step (Reported outcomes.SysPerm more) at first here k h =
      passed (Reported outcomes.SysPerm more) at refl refl (λ m e. cc) k h
  step (Reported outcomes.SysTemp more) at first here k h =
      passed (Reported outcomes.SysTemp more) at refl refl (λ m e. cc) k h
  step (Refused fault) at first here k h = passed (Refused fault) at refl refl (λ m e. cc) k h

  pub client_next : (says : ClientSays) → slice_get replies i ≡ Some says → slice_get events last.start ≡ Some init
      → slice_get events i ≡ Some event
      → ClientKeeps login i init event events says last next shown shown' taken taken' → Before → After (i + 1)
  client_next says at first here k h =
      let e : suc i ≡ i + 1 = omega arith in subst After e (step says at first here k h)

  -- the last start is before
  pub start_behind : (says : ClientSays)
      → ClientKeeps login i init event events says last next shown shown' taken taken' → last.start ≤ i
      → next.start ≤ i + 1
  start_behind (Started body) k l = omega (arith, k.0)
  start_behind (Answered body) k l = omega (arith, k.0)
  start_behind (Reported code more) k l = omega (arith, k.0)
  start_behind (Refused fault) k l = omega (arith, k.0)
