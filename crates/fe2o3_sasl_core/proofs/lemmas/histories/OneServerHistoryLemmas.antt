-- What a server answers at a position is one thing.
use Rattle.std.proofs.Common.{◌≡◌, ℕ, zero, suc, ◌<◌, ◌≤◌, Some, None, List, length, sym, ap, ◌∙◌, subst, arith, ⊎_elim, inl, inr, Result, Ok, Err}
use Rattle.std.specs.Prelude.{slice_get}
use Rattle.std.proofs.lemmas.Option.{same_Some}
use Rattle.fe2o3_sasl_wire.specs.declared.sasl_frames.error.Error.{Error}
use Rattle.fe2o3_sasl_wire.specs.declared.sasl_frames.error.Error.TheVariants as faults
use Rattle.fe2o3_sasl_wire.specs.SaslFrames as frames
use Rattle.fe2o3_sasl_wire.specs.SaslFrames.{SaslFrame}
use Rattle.fe2o3_scram.specs.ClientFirst.{ClientFirst}
use Rattle.fe2o3_scram.specs.Credentials.{Record, Provider}
use Rattle.fe2o3_sasl_core.specs.Events.{Given, ServerSays, Failed}
use Rattle.fe2o3_sasl_core.specs.Laws.{OneServerHistory}
use Rattle.fe2o3_scram.specs.ClientFinal.{ClientFinal, ReadsClientFinal}
use Rattle.fe2o3_sasl_core.specs.Bodies.{SpellsBody, says_frame}
use Rattle.fe2o3_sasl_core.specs.ServerHistory.{Challenging, Accepted, FitsAsInit, FitsAsResponse, FitsAt, AcceptsAt, Open, ServerAnswers, ServerAllocates, ServerHistory, is_challenge, is_ok, says_ok, server_at, first_message}
use Rattle.fe2o3_sasl_core.specs.Complete.{ServerComplete}
use Rattle.fe2o3_scram.proofs.lemmas.messages.OneValueLemmas.{one_client_first_value, one_client_final_value}
use Rattle.fe2o3_sasl_core.proofs.lemmas.positions.PositionLemmas.{one_open, open_agree, some_at, same_list, below_or_at}
use Rattle.fe2o3_sasl_core.proofs.lemmas.frames.SpellingLemmas.{one_spelling, one_spelled_frame}

abbrev challenging : ClientFirst → List ℕ → Record → Challenging
challenging client nonce stored = record { client = client; nonce = nonce; stored = stored }

-- an event fits as one init
pub one_fits : (provider : Provider) (event : Given) (frame : SaslFrame) (challenge other : Challenging)
    → FitsAsInit provider event frame challenge → FitsAsInit provider event frame other → challenge ≡ other
one_fits provider event (frames.Mechanisms names) challenge other h k = absurd h
one_fits provider event (frames.Challenge text) challenge other h k = absurd h
one_fits provider event (frames.Response text) challenge other h k = absurd h
one_fits provider event (frames.Outcome code more) challenge other h k = absurd h
one_fits provider event (frames.Init mechanism None hostname) challenge other h k = absurd h
one_fits provider event (frames.Init mechanism (Some text) hostname) challenge other h k =
    let client = one_client_first_value provider.rules text challenge.client other.client h.1 k.1 in
    let stored = same_Some challenge.stored other.stored
    (sym h.2 ∙ (ap (λ (first : ClientFirst). provider.records first.user) client ∙ k.2)) in
    let nonce : challenge.nonce ≡ other.nonce = h.3 ∙ sym k.3 in
    λ i. challenging (client i) (nonce i) (stored i)

abbrev accepting : Challenging → ClientFinal → Accepted
accepting challenge final = record { challenge = challenge; final = final }

-- a response fits in one way, where one challenge is open
pub one_response : (provider : Provider) (IsOpen Other : Challenging → Type 0)
    → ((c d : Challenging) → IsOpen c → Other d → c ≡ d) → (frame : SaslFrame) (accepted other : Accepted)
    → FitsAsResponse provider IsOpen frame accepted → FitsAsResponse provider Other frame other → accepted ≡ other
one_response provider IsOpen Other one (frames.Mechanisms names) accepted other h k = absurd h
one_response provider IsOpen Other one (frames.Challenge text) accepted other h k = absurd h
one_response provider IsOpen Other one (frames.Outcome code more) accepted other h k = absurd h
one_response provider IsOpen Other one (frames.Init mechanism response hostname) accepted other h k = absurd h
one_response provider IsOpen Other one (frames.Response text) accepted other h k =
    let c = one accepted.challenge other.challenge h.0 k.0 in
    let reads : ReadsClientFinal (server_at provider other.challenge) text (Ok accepted.final) =
    subst (λ (c : Challenging). ReadsClientFinal (server_at provider c) text (Ok accepted.final)) c h.1 in
    let final = one_client_final_value (server_at provider other.challenge) text accepted.final other.final reads k.1 in
    λ i. accepting (c i) (final i)

-- the table gives one reply, where the same challenges are open
pub one_server_answer : (provider : Provider) (IsOpen Other : Challenging → Type 0)
    → ((c : Challenging) → IsOpen c → Other c) → ((c : Challenging) → Other c → IsOpen c)
    → ((c d : Challenging) → Other c → Other d → c ≡ d)
    → (event : Given) (spelled : Result SaslFrame Error) (says other : ServerSays)
    → ServerAnswers provider IsOpen event spelled says → ServerAnswers provider Other event spelled other
    → says ≡ other
one_server_answer provider IsOpen Other to from one event (Err fault) says other h k = h ∙ sym k
one_server_answer provider IsOpen Other to from one event (Ok (frames.Mechanisms names)) says other h k = h ∙ sym k
one_server_answer provider IsOpen Other to from one event (Ok (frames.Challenge text)) says other h k = h ∙ sym k
one_server_answer provider IsOpen Other to from one event (Ok (frames.Outcome code more)) says other h k = h ∙ sym k
one_server_answer provider IsOpen Other to from one event (Ok (frames.Init mechanism response hostname)) says other
    (inl h) (inl k) =
    h.2 ∙ (ap (λ (c : Challenging). says_frame (frames.Challenge (first_message c)))
    (one_fits provider event (frames.Init mechanism response hostname) h.0 k.0 h.1 k.1)
    ∙ sym k.2)
one_server_answer provider IsOpen Other to from one event (Ok (frames.Init mechanism response hostname)) says other
    (inl h) (inr k) =
    absurd (k.0 h.0 h.1)
one_server_answer provider IsOpen Other to from one event (Ok (frames.Init mechanism response hostname)) says other
    (inr h) (inl k) =
    absurd (h.0 k.0 k.1)
one_server_answer provider IsOpen Other to from one event (Ok (frames.Init mechanism response hostname)) says other
    (inr h) (inr k) =
    h.1 ∙ sym k.1
one_server_answer provider IsOpen Other to from one event (Ok (frames.Response text)) says other (inl h) (inl k) =
    h.2 ∙ (ap (says_ok provider) (one_response provider IsOpen Other (λ c d x y. one c d (to c x) y)
    (frames.Response text) h.0 k.0 h.1 k.1) ∙ sym k.2)
one_server_answer provider IsOpen Other to from one event (Ok (frames.Response text)) says other (inl h) (inr k) =
    absurd (k.0 h.0 (to h.0.challenge h.1.0, h.1.1))
one_server_answer provider IsOpen Other to from one event (Ok (frames.Response text)) says other (inr h) (inl k) =
    absurd (h.0 k.0 (from k.0.challenge k.1.0, k.1.1))
one_server_answer provider IsOpen Other to from one event (Ok (frames.Response text)) says other (inr h) (inr k) =
    h.1 ∙ sym k.1

-- a position fits as one init
pub one_fits_at : (provider : Provider) (events : List Given) (k : ℕ) (challenge other : Challenging)
    → FitsAt provider events k challenge → FitsAt provider events k other → challenge ≡ other
one_fits_at provider events k challenge other h i =
    let event : h.0 ≡ i.0 = same_Some h.0 i.0 (sym h.2 ∙ i.2) in
    let spells : SpellsBody i.0.body (Ok h.1) = subst (λ (e : Given). SpellsBody e.body (Ok h.1)) event h.3 in
    let frame : h.1 ≡ i.1 = one_spelled_frame i.0.body h.1 i.1 spells i.3 in
    one_fits provider i.0 i.1 challenge other (subst (λ (f : SaslFrame). FitsAsInit provider i.0 f challenge) frame
    (subst (λ (e : Given). FitsAsInit provider e h.1 challenge) event h.4)) i.4

-- one challenge is open at most
pub one_challenge : (provider : Provider) (events : List Given) (replies : List ServerSays) (k : ℕ)
    (challenge other : Challenging) → Open provider events replies k challenge → Open provider events replies k other
    → challenge ≡ other
one_challenge provider events replies k challenge other h i =
    let place = one_open is_challenge is_ok replies k h.0 i.0 h.1 i.1 in
    one_fits_at provider events i.0 challenge other (subst (λ (j : ℕ). FitsAt provider events j challenge) place h.2)
    i.2

-- what is open at k depends only on the replies before k
pub challenge_agree : (provider : Provider) (events : List Given) (replies others : List ServerSays) (k : ℕ)
    → ((i : ℕ) → i < k → slice_get replies i ≡ slice_get others i) → (challenge : Challenging)
    → Open provider events replies k challenge → Open provider events others k challenge
challenge_agree provider events replies others k e challenge h =
    (h.0, open_agree is_challenge is_ok replies others k h.0 e h.1, h.2)

-- a response is accepted at n in one way
pub one_accepted : (provider : Provider) (events : List Given) (replies : List ServerSays) (n : ℕ)
    (accepted other : Accepted) → AcceptsAt provider events replies n accepted
    → AcceptsAt provider events replies n other → accepted ≡ other
one_accepted provider events replies n accepted other h k =
    let event : h.0 ≡ k.0 = same_Some h.0 k.0 (sym h.2 ∙ k.2) in
    let spells : SpellsBody k.0.body (Ok h.1) = subst (λ (e : Given). SpellsBody e.body (Ok h.1)) event h.3 in
    let frame : h.1 ≡ k.1 = one_spelled_frame k.0.body h.1 k.1 spells k.3 in
    one_response provider (Open provider events replies n) (Open provider events replies n)
    (one_challenge provider events replies n) k.1 accepted other (subst
    (λ (f : SaslFrame). FitsAsResponse provider (Open provider events replies n) f accepted) frame h.4) k.4

-- ---- one history

-- what the table says of a reply that is not running out of memory
pub answered_at : (provider : Provider) (events : List Given) (replies : List ServerSays)
    → ServerHistory provider events replies → ServerComplete replies → (k : ℕ) → k < length events
    → (event : Given) × (says : ServerSays) × (spelled : Result SaslFrame Error) × (slice_get events k ≡ Some event)
    × (slice_get replies k ≡ Some says) × SpellsBody event.body spelled
    × ServerAnswers provider (Open provider events replies k) event spelled says
answered_at provider events replies h complete k l =
    let e = some_at events k l in
    let s = some_at replies k (omega (arith, h.count)) in
    let x = h.each k e.0 s.0 e.1 s.1 in (
      e.0,
      s.0,
      x.0,
      e.1,
      s.1,
      x.1,
      ⊎_elim (λ (w : ServerAllocates x.0 × (s.0 ≡ Failed faults.OutOfMemory)). absurd
          (complete k (s.1 ∙ ap Some w.1)))
          (λ (a : ServerAnswers provider (Open provider events replies k) e.0 x.0 s.0). a) x.2,
    )

step : (provider : Provider) (events : List Given) (replies others : List ServerSays)
    → ServerHistory provider events replies → ServerHistory provider events others → ServerComplete replies
    → ServerComplete others
    → (n : ℕ) → n < length events → ((j : ℕ) → j < n → slice_get replies j ≡ slice_get others j)
    → slice_get replies n ≡ slice_get others n
step provider events replies others h g f f' n l below =
    let a = answered_at provider events replies h f n l in
    let b = answered_at provider events others g f' n l in
    let event : a.0 ≡ b.0 = same_Some a.0 b.0 (sym a.3 ∙ b.3) in
    let spells : SpellsBody b.0.body a.2 = subst (λ (e : Given). SpellsBody e.body a.2) event a.5 in
    let spelled : a.2 ≡ b.2 = one_spelling b.0.body a.2 b.2 spells b.5 in
    let answers : ServerAnswers provider (Open provider events replies n) b.0 b.2 a.1 =
    subst (λ (x : Result SaslFrame Error). ServerAnswers provider (Open provider events replies n) b.0 x a.1) spelled
    (subst (λ (e : Given). ServerAnswers provider (Open provider events replies n) e a.2 a.1) event a.6) in
    let one = one_server_answer provider (Open provider events replies n) (Open provider events others n)
    (challenge_agree provider events replies others n below)
    (challenge_agree provider events others replies n (λ j b. sym (below j b)))
    (one_challenge provider events others n) b.0 b.2 a.1 b.1 answers b.6 in
    a.4 ∙ (ap Some one ∙ sym b.4)

below_same : (provider : Provider) (events : List Given) (replies others : List ServerSays)
    → ServerHistory provider events replies → ServerHistory provider events others → ServerComplete replies
    → ServerComplete others
    → (n : ℕ) → n ≤ length events → (j : ℕ) → j < n → slice_get replies j ≡ slice_get others j
below_same provider events replies others h g f f' zero l j b = absurd (omega arith)
below_same provider events replies others h g f f' (suc n) l j b =
    let ih = below_same provider events replies others h g f f' n (omega arith) in
    ⊎_elim (λ (x : j < n). ih j x) (λ (x : j ≡ n). subst (λ (z : ℕ). slice_get replies z ≡ slice_get others z) (sym x)
    (step provider events replies others h g f f' n (omega arith) ih)) (below_or_at j n b)

pub one_server_history : OneServerHistory
one_server_history P es rs qs h g f f' = same_list rs qs (h.count ∙ sym g.count)
    (λ k l. below_same P es rs qs h g f f' (length es) (omega arith) k (omega (arith, h.count)))
