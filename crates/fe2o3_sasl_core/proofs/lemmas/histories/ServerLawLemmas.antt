-- What users of a server rely on.
use Rattle.std.proofs.Common.{◌≡◌, ◌⊎◌, ℕ, zero, suc, ◌+◌, ◌<◌, ◌≤◌, Bool, true, false, true≢false, cond, Option, Some, None, List, [], ◌∷◌, ◌++◌, length, take, codes, refl, sym, ap, ◌∙◌, subst, arith, ⊎_elim, inl, inr, Result, Ok, Err}
use Rattle.std.specs.Prelude.{slice_get}
use Rattle.std.specs.List.{filter}
use Rattle.std.proofs.lemmas.Option.{same_Some, slice_get_within}
use Rattle.fe2o3_sasl_wire.specs.declared.amqp_types.SaslCode.TheVariants as outcomes
use Rattle.fe2o3_sasl_wire.specs.declared.sasl_frames.error.Error.{Error}
use Rattle.fe2o3_sasl_wire.specs.declared.sasl_frames.error.Error.TheVariants as faults
use Rattle.fe2o3_sasl_wire.specs.SaslFrames.{canonical, SaslFrame}
use Rattle.fe2o3_sasl_wire.specs.SaslFrames as frames
use Rattle.fe2o3_scram.specs.Credentials.{Provider}
use Rattle.fe2o3_sasl_core.specs.Events.{Given, ServerSays, Challenged, Concluded, Failed}
use Rattle.fe2o3_sasl_core.specs.Laws.{OksWithinChallenges, RepeatedResponsesAreRefused, OneResponseOneNonce, RefusalsLeaveOpen}
use Rattle.fe2o3_sasl_core.specs.Positions.{test_at, IsLastOpen}
use Rattle.fe2o3_sasl_core.specs.Bodies.{SpellsBody, says_frame}
use Rattle.fe2o3_sasl_core.specs.ServerHistory.{Challenging, Accepted, FitsAsResponse, AcceptsAt, Open, ServerAnswers, ServerAllocates, ServerHistory, is_challenge, is_ok, full_nonce, first_message, server_at}
use Rattle.fe2o3_scram.specs.Texts.{Part}
use Rattle.fe2o3_scram.proofs.lemmas.messages.ClientFinalLemmas.{NamesAcceptedFinal, names_client_final}
use Rattle.fe2o3_scram.proofs.lemmas.texts.PartsLemmas.{one_part}
use Rattle.fe2o3_sasl_core.proofs.lemmas.positions.PositionLemmas.{some_at, stays_open, was_open}
use Rattle.fe2o3_sasl_core.proofs.lemmas.frames.SpellingLemmas.{one_spelling, one_spelled_frame, carried_not}

-- ---- what a reply says of its position

-- an Ok is at a response that fits
ok_fits : (provider : Provider) (IsOpen : Challenging → Type 0) (event : Given) (spelled : Result SaslFrame Error)
    (body : List ℕ) → ServerAnswers provider IsOpen event spelled (Concluded outcomes.Ok body)
    → (frame : SaslFrame) × (spelled ≡ Ok frame) × ((accepted : Accepted)
    × FitsAsResponse provider IsOpen frame accepted)
ok_fits provider IsOpen event (Err fault) body h = absurd (cc)
ok_fits provider IsOpen event (Ok (frames.Mechanisms names)) body h = absurd (cc)
ok_fits provider IsOpen event (Ok (frames.Challenge text)) body h = absurd (cc)
ok_fits provider IsOpen event (Ok (frames.Outcome code more)) body h = absurd (cc)
ok_fits provider IsOpen event (Ok (frames.Init mechanism response hostname)) body (inl h) =
    absurd (carried_not (Failed faults.TooLarge) (λ b. Challenged b) (canonical (frames.Challenge (first_message h.0)))
    (Concluded outcomes.Ok body) (λ x. cc) (λ b x. cc) (sym h.2))
ok_fits provider IsOpen event (Ok (frames.Init mechanism response hostname)) body (inr h) =
    absurd (carried_not (Failed faults.TooLarge) (λ b. Concluded outcomes.Auth b)
    (canonical (frames.Outcome outcomes.Auth None)) (Concluded outcomes.Ok body) (λ x. cc) (λ b x. cc) (sym h.1))
ok_fits provider IsOpen event (Ok (frames.Response text)) body (inl h) = (frames.Response text, refl, (h.0, h.1))
ok_fits provider IsOpen event (Ok (frames.Response text)) body (inr h) =
    absurd (carried_not (Failed faults.TooLarge) (λ b. Concluded outcomes.Auth b)
    (canonical (frames.Outcome outcomes.Auth None)) (Concluded outcomes.Ok body) (λ x. cc) (λ b x. cc) (sym h.1))

pub ok_accepts : (provider : Provider) (events : List Given) (replies : List ServerSays) (n : ℕ) (body : List ℕ)
    → ServerHistory provider events replies → slice_get replies n ≡ Some (Concluded outcomes.Ok body)
    → (accepted : Accepted) × AcceptsAt provider events replies n accepted
ok_accepts provider events replies n body h a =
    let e = some_at events n (omega (arith, h.count, slice_get_within replies n (Concluded outcomes.Ok body) a)) in
    let x = h.each n e.0 (Concluded outcomes.Ok body) e.1 a in
    ⊎_elim (λ (w : ServerAllocates x.0 × (Concluded outcomes.Ok body ≡ Failed faults.OutOfMemory)). let y = w.1 in
    absurd (cc))
    (λ (w : ServerAnswers provider (Open provider events replies n) e.0 x.0 (Concluded outcomes.Ok body)).
    let f = ok_fits provider (Open provider events replies n) e.0 x.0 body w in
    (f.2.0, (e.0, f.0, e.1, subst (λ (s : Result SaslFrame Error). SpellsBody e.0.body s) f.1 x.1, f.2.1)))
    x.2

-- what is accepted is a response, and a challenge is open for it
pub accepted_response : (provider : Provider) (events : List Given) (replies : List ServerSays) (n : ℕ)
    (accepted : Accepted) → AcceptsAt provider events replies n accepted
    → (event : Given) × (text : List ℕ) × (slice_get events n ≡ Some event)
    × SpellsBody event.body (Ok (frames.Response text)) × Open provider events replies n accepted.challenge
    × NamesAcceptedFinal (server_at provider accepted.challenge) text accepted.final
accepted_response provider events replies n accepted h = go h.1 h.3 h.4
  where
    go : (frame : SaslFrame) → SpellsBody h.0.body (Ok frame)
        → FitsAsResponse provider (Open provider events replies n) frame accepted
        → (event : Given) × (text : List ℕ) × (slice_get events n ≡ Some event)
        × SpellsBody event.body (Ok (frames.Response text)) × Open provider events replies n accepted.challenge
        × NamesAcceptedFinal (server_at provider accepted.challenge) text accepted.final
    go (frames.Mechanisms names) x k = absurd k
    go (frames.Challenge text) x k = absurd k
    go (frames.Outcome code more) x k = absurd k
    go (frames.Init mechanism response hostname) x k = absurd k
    go (frames.Response text) x k =
        (h.0, text, h.2, x, k.0, names_client_final (server_at provider accepted.challenge) text accepted.final k.1)

-- ---- Oks and challenges

ok_says : (says : ServerSays) → is_ok says ≡ true → (body : List ℕ) × (says ≡ Concluded outcomes.Ok body)
ok_says (Challenged body) h = absurd (true≢false (sym h))
ok_says (Concluded outcomes.Ok body) h = (body, refl)
ok_says (Concluded outcomes.Auth body) h = absurd (true≢false (sym h))
ok_says (Concluded outcomes.Sys body) h = absurd (true≢false (sym h))
ok_says (Concluded outcomes.SysPerm body) h = absurd (true≢false (sym h))
ok_says (Concluded outcomes.SysTemp body) h = absurd (true≢false (sym h))
ok_says (Failed fault) h = absurd (true≢false (sym h))

pub ok_at : (o : Option ServerSays) → test_at is_ok o ≡ true → (body : List ℕ) × (o ≡ Some (Concluded outcomes.Ok body))
ok_at None h = absurd (true≢false (sym h))
ok_at (Some says) h = let x = ok_says says h in (x.0, ap Some x.1)

-- no reply is a challenge and an Ok
not_both : (o : Option ServerSays) → test_at is_challenge o ≡ true → test_at is_ok o ≡ true → ⊥
not_both o h k = let x = ok_at o k in true≢false (sym h ∙ ap (test_at is_challenge) x.1)

-- one more reply that passes, or none
one_more_passes : {A : Type 0} (test : A → Bool) (replies : List A) (k : ℕ)
    → length (filter test (take (suc k) replies)) ≡ length (filter test (take k replies)) + cond
    (test_at test (slice_get replies k)) 1 0
one_more_passes test [] zero = refl
one_more_passes test [] (suc k) = refl
one_more_passes test (x ∷ xs) zero = go (test x)
  where
    go : (b : Bool) → length (cond b (x ∷ []) []) ≡ 0 + cond b 1 0
    go true = refl
    go false = refl
one_more_passes test (x ∷ xs) (suc k) = go (one_more_passes test xs k) (test x)
  where
    go : length (filter test (take (suc k) xs)) ≡ length (filter test (take k xs)) + cond
        (test_at test (slice_get xs k)) 1 0 → (b : Bool)
        → length (cond b (x ∷ filter test (take (suc k) xs)) (filter test (take (suc k) xs)))
        ≡ length (cond b (x ∷ filter test (take k xs)) (filter test (take k xs))) + cond
        (test_at test (slice_get xs k)) 1 0
    go ih true = omega (arith, ih)
    go ih false = ih

-- up to k there are as many challenges as Oks, and one more where one is open
record Counted (replies : List ServerSays) (k : ℕ) : Type 0 where
  within : length (filter is_ok (take k replies)) ≤ length (filter is_challenge (take k replies))
  more : (j : ℕ) → IsLastOpen is_challenge is_ok replies k j
      → length (filter is_ok (take k replies)) < length (filter is_challenge (take k replies))

counted_step : (replies : List ServerSays) (k : ℕ) → (test_at is_ok (slice_get replies k) ≡ true
    → (j : ℕ) × IsLastOpen is_challenge is_ok replies k j) → Counted replies k → (c o : Bool)
    → test_at is_challenge (slice_get replies k) ≡ c → test_at is_ok (slice_get replies k) ≡ o → Counted replies (suc k)
counted_step replies k opens h true true p q = absurd (not_both (slice_get replies k) p q)
counted_step replies k opens h true false p q =
    let within = h.within in
    let oks = one_more_passes is_ok replies k
    ∙ ap (λ (b : Bool). length (filter is_ok (take k replies)) + cond b 1 0) q in
    let challenges = one_more_passes is_challenge replies k
    ∙ ap (λ (b : Bool). length (filter is_challenge (take k replies)) + cond b 1 0) p in
    record { within = omega (arith, oks, challenges, within); more = λ j x. omega (arith, oks, challenges, within) }
counted_step replies k opens h false true p q =
    let x = opens q in
    let less = h.more x.0 x.1 in
    let oks = one_more_passes is_ok replies k
    ∙ ap (λ (b : Bool). length (filter is_ok (take k replies)) + cond b 1 0) q in
    let challenges = one_more_passes is_challenge replies k
    ∙ ap (λ (b : Bool). length (filter is_challenge (take k replies)) + cond b 1 0) p in
    record {
      within = omega (arith, oks, challenges, less);
      more = λ j y. let z = was_open is_challenge is_ok replies k j p y in
          absurd (true≢false (sym q ∙ y.kept k z.before (omega arith)));
    }
counted_step replies k opens h false false p q =
    let within = h.within in
    let oks = one_more_passes is_ok replies k
    ∙ ap (λ (b : Bool). length (filter is_ok (take k replies)) + cond b 1 0) q in
    let challenges = one_more_passes is_challenge replies k
    ∙ ap (λ (b : Bool). length (filter is_challenge (take k replies)) + cond b 1 0) p in
    record {
      within = omega (arith, oks, challenges, within);
      more = λ j y. let less = h.more j (was_open is_challenge is_ok replies k j p y) in
          omega (arith, oks, challenges, less);
    }

counted : (provider : Provider) (events : List Given) (replies : List ServerSays)
    → ServerHistory provider events replies → (k : ℕ) → Counted replies k
counted provider events replies h zero = record { within = omega arith; more = λ j o. absurd (omega (arith, o.before)) }
counted provider events replies h (suc k) =
    counted_step replies k (λ q. let x = ok_at (slice_get replies k) q in let y =
    ok_accepts provider events replies k x.0 h x.1 in let z =
    (accepted_response provider events replies k y.0 y.1).4 in (z.0, z.1)) (counted provider events replies h k)
    (test_at is_challenge (slice_get replies k)) (test_at is_ok (slice_get replies k)) refl refl

pub oks_within_challenges : OksWithinChallenges
oks_within_challenges P es rs k h = (counted P es rs h k).within

-- ---- a response that comes again

unfit_response : (provider : Provider) (IsOpen : Challenging → Type 0) (event : Given) (text : List ℕ)
    (says : ServerSays) → ((challenge : Challenging) → ¬ IsOpen challenge)
    → ServerAnswers provider IsOpen event (Ok (frames.Response text)) says
    → says ≡ says_frame (frames.Outcome outcomes.Auth None)
unfit_response provider IsOpen event text says none (inl x) = absurd (none x.0.challenge x.1.0)
unfit_response provider IsOpen event text says none (inr x) = x.1

none_open : (replies : List ServerSays) (n k j : ℕ) (body : List ℕ) → n < k
    → slice_get replies n ≡ Some (Concluded outcomes.Ok body)
    → ((i : ℕ) → n < i → i < k → test_at is_challenge (slice_get replies i) ≡ false)
    → IsLastOpen is_challenge is_ok replies k j → ⊥
none_open replies n k j body l a none o =
    ⊎_elim (λ (x : n < j). true≢false (sym o.opened ∙ none j x o.before))
    (⊎_elim (λ (x : n ≡ j). not_both (slice_get replies n) (ap (λ (z : ℕ). test_at is_challenge (slice_get replies z)) x
    ∙ o.opened) (ap (test_at is_ok) a))
    (λ (x : j < n). true≢false (sym (ap (test_at is_ok) a) ∙ o.kept n x l)))
    (three n j)
  where
    three : (i j : ℕ) → (i < j) ⊎ ((i ≡ j) ⊎ (j < i))
    three i j = grind arith

pub repeated_responses_are_refused : RepeatedResponsesAreRefused
repeated_responses_are_refused P es rs n k body event text says h l a none at spells said =
    let x = h.each k event says at said in
    let frame : x.0 ≡ Ok (frames.Response text) = one_spelling event.body x.0 (Ok (frames.Response text)) x.1 spells in
    ⊎_elim (λ (w : ServerAllocates x.0 × (says ≡ Failed faults.OutOfMemory)). inr w.1)
    (λ (w : ServerAnswers P (Open P es rs k) event x.0 says).
    inl (unfit_response P (Open P es rs k) event text says (λ c o. none_open rs n k o.0 body l a none o.1)
    (subst (λ (s : Result SaslFrame Error). ServerAnswers P (Open P es rs k) event s says) frame w)))
    x.2

-- ---- one response under two challenges

same_text : (x y : List ℕ) → ◌≡◌ {A = SaslFrame} (frames.Response x) (frames.Response y) → x ≡ y
same_text x y e = cc

-- what is accepted of a response has the nonce of the challenge as its second part
accepted_nonce : (provider : Provider) (events : List Given) (replies : List ServerSays) (n : ℕ) (event : Given)
    (text : List ℕ) (accepted : Accepted)
    → slice_get events n ≡ Some event → SpellsBody event.body (Ok (frames.Response text))
    → AcceptsAt provider events replies n accepted → Part text 1 (codes "r=" ++ full_nonce accepted.challenge)
accepted_nonce provider events replies n event text accepted at spells h =
    let s = accepted_response provider events replies n accepted h in
    let one : s.0 ≡ event = same_Some s.0 event (sym s.2 ∙ at) in
    let texts : s.1 ≡ text = same_text s.1 text (one_spelled_frame event.body (frames.Response s.1)
    (frames.Response text) (subst (λ (e : Given). SpellsBody e.body (Ok (frames.Response s.1))) one s.3) spells) in
    subst (λ (z : List ℕ). Part z 1 (codes "r=" ++ full_nonce accepted.challenge)) texts s.5.nonce

pub one_response_one_nonce : OneResponseOneNonce
one_response_one_nonce P es rs n k e f text p q x y spells too h i =
    let nonces : codes "r=" ++ full_nonce p.challenge ≡ codes "r=" ++ full_nonce q.challenge =
    one_part text 1 (codes "r=" ++ full_nonce p.challenge) (codes "r=" ++ full_nonce q.challenge)
    (accepted_nonce P es rs n e text p x spells h) (accepted_nonce P es rs k f text q y too i) in
    cc

-- ---- rejections

pub refusals_leave_open : RefusalsLeaveOpen
refusals_leave_open P es rs k challenge c o = (
  λ h. (h.0, stays_open is_challenge is_ok rs k h.0 c o h.1, h.2),
  λ h. (h.0, was_open is_challenge is_ok rs k h.0 c h.1, h.2),
)
