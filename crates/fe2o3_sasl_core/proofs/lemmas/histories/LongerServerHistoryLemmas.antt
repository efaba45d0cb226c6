-- A server history goes on by one event, and what is open at a position stays.
use Rattle.std.proofs.Common.{◌≡◌, ◌⊎◌, ℕ, suc, ◌+◌, ◌<◌, ◌≤◌, Some, List, [], ◌∷◌, ◌++◌, length, sym, ap, ◌∙◌, subst, arith, ⊎_elim, inl, inr, Result, Ok, Err, length-append}
use Rattle.std.specs.Prelude.{slice_get}
use Rattle.std.proofs.lemmas.Option.{same_Some, slice_get_within}
use Rattle.fe2o3_sasl_wire.specs.declared.sasl_frames.error.Error.{Error}
use Rattle.fe2o3_sasl_wire.specs.declared.sasl_frames.error.Error.TheVariants as faults
use Rattle.fe2o3_sasl_wire.specs.SaslFrames as frames
use Rattle.fe2o3_sasl_wire.specs.SaslFrames.{SaslFrame}
use Rattle.fe2o3_scram.specs.Credentials.{Provider}
use Rattle.fe2o3_sasl_core.specs.Events.{Given, ServerSays, Failed}
use Rattle.fe2o3_sasl_core.specs.Bodies.{SpellsBody}
use Rattle.fe2o3_sasl_core.specs.ServerHistory.{Challenging, Accepted, FitsAt, FitsAsResponse, AcceptsUser, Open, ServerAnswers, ServerAllocates, ServerHistory, is_challenge, is_ok}
use Rattle.fe2o3_sasl_core.proofs.lemmas.positions.OpenStateLemmas.{AreSame, open_by_front}
use Rattle.fe2o3_sasl_core.proofs.lemmas.positions.PositionLemmas.{slice_get-front, slice_get-behind, below_or_at}

-- the table says the same where the same challenges are open
server_moves : (provider : Provider) (IsOpen Other : Challenging → Type 0) → AreSame IsOpen Other
    → (event : Given) (spelled : Result SaslFrame Error) (says : ServerSays)
    → ServerAnswers provider IsOpen event spelled says → ServerAnswers provider Other event spelled says
server_moves provider IsOpen Other same event (Err fault) says h = h
server_moves provider IsOpen Other same event (Ok (frames.Mechanisms names)) says h = h
server_moves provider IsOpen Other same event (Ok (frames.Challenge text)) says h = h
server_moves provider IsOpen Other same event (Ok (frames.Outcome code more)) says h = h
server_moves provider IsOpen Other same event (Ok (frames.Init mechanism response hostname)) says h = h
server_moves provider IsOpen Other same event (Ok (frames.Response text)) says (inl h) =
    inl (h.0, (same.0 h.0.challenge h.1.0, h.1.1), h.2)
server_moves provider IsOpen Other same event (Ok (frames.Response text)) says (inr h) =
    inr (λ p x. h.0 p (same.1 p.challenge x.0, x.1), h.1)

-- what an event fits as stays where the list goes on
pub fits_same : (provider : Provider) (events more : List Given) (k : ℕ) → k < length events
    → AreSame (FitsAt provider events k) (FitsAt provider (events ++ more) k)
fits_same provider events more k l = (
  λ c h. (h.0, h.1, slice_get-front events more k l ∙ h.2, h.3, h.4),
  λ c h. (h.0, h.1, sym (slice_get-front events more k l) ∙ h.2, h.3, h.4),
)

pub open_same : (provider : Provider) (events more : List Given) (replies others : List ServerSays) (k : ℕ)
    → length replies ≡ length events → k ≤ length replies
    → AreSame (Open provider events replies k) (Open provider (events ++ more) (replies ++ others) k)
open_same provider events more replies others k n l = open_by_front is_challenge is_ok (FitsAt provider events)
    (FitsAt provider (events ++ more)) replies others k l (λ j b. fits_same provider events more j (omega (arith, n)))

-- a response fits as it did where the same challenges are open
pub response_moves : (provider : Provider) (IsOpen Other : Challenging → Type 0)
    → ((challenge : Challenging) → IsOpen challenge → Other challenge) → (frame : SaslFrame) (accepted : Accepted)
    → FitsAsResponse provider IsOpen frame accepted → FitsAsResponse provider Other frame accepted
response_moves provider IsOpen Other to (frames.Response text) accepted fits =
    (to accepted.challenge fits.0, fits.1)
response_moves provider IsOpen Other to (frames.Init mechanism response hostname) accepted fits = absurd fits
response_moves provider IsOpen Other to (frames.Mechanisms names) accepted fits = absurd fits
response_moves provider IsOpen Other to (frames.Challenge text) accepted fits = absurd fits
response_moves provider IsOpen Other to (frames.Outcome code more) accepted fits = absurd fits

-- the user of an accepted response is the same where the list goes on
pub users_same : (provider : Provider) (events more : List Given) (replies others : List ServerSays) (k : ℕ)
    → length replies ≡ length events → k < length replies
    → AreSame (AcceptsUser provider events replies k) (AcceptsUser provider (events ++ more) (replies ++ others) k)
users_same provider events more replies others k n l =
    let opens = open_same provider events more replies others k n (omega arith) in
    let at = slice_get-front events more k (omega (arith, n)) in (
      λ user h. (
        h.0,
        (
          h.1.0,
          h.1.1,
          at ∙ h.1.2,
          h.1.3,
          response_moves provider (Open provider events replies k)
              (Open provider (events ++ more) (replies ++ others) k) opens.0 h.1.1 h.0 h.1.4,
        ),
        h.2,
      ),
      λ user h. (
        h.0,
        (
          h.1.0,
          h.1.1,
          sym at ∙ h.1.2,
          h.1.3,
          response_moves provider (Open provider (events ++ more) (replies ++ others) k)
              (Open provider events replies k) opens.1 h.1.1 h.0 h.1.4,
        ),
        h.2,
      ),
    )

-- what a history says of a reply
abbrev pub Says : Provider → (Challenging → Type 0) → Given → ServerSays → Type 0
Says provider IsOpen event says = (spelled : Result SaslFrame Error) × SpellsBody event.body spelled
    × ((ServerAllocates spelled × (says ≡ Failed faults.OutOfMemory))
    ⊎ ServerAnswers provider IsOpen event spelled says)

pub says_moves : (provider : Provider) (IsOpen Other : Challenging → Type 0) → AreSame IsOpen Other
    → (event : Given) (says : ServerSays) → Says provider IsOpen event says → Says provider Other event says
says_moves provider IsOpen Other same event says h = (
  h.0,
  h.1,
  ⊎_elim (λ (w : ServerAllocates h.0 × (says ≡ Failed faults.OutOfMemory)). inl w)
      (λ (w : ServerAnswers provider IsOpen event h.0 says). inr
      (server_moves provider IsOpen Other same event h.0 says w)) h.2,
)

-- the next reply of a history
pub history_push : (provider : Provider) (events : List Given) (replies : List ServerSays) (event : Given)
    (says : ServerSays) → ServerHistory provider events replies
    → Says provider (Open provider events replies (length replies)) event says
    → ServerHistory provider (events ++ event ∷ []) (replies ++ says ∷ [])
history_push provider events replies e says h s = record {
  count = length-append replies (says ∷ []) ∙ (ap (λ n. n + 1) h.count ∙ sym (length-append events (e ∷ [])));
  each = λ k event t at said. ⊎_elim (front k event t at said) (last k event t at said)
      (below_or_at k (length replies) (within k t said));
}
  where
    within : (k : ℕ) (t : ServerSays) → slice_get (replies ++ says ∷ []) k ≡ Some t → k < suc (length replies)
    within k t said = omega (arith, slice_get_within (replies ++ says ∷ []) k t said, length-append replies (says ∷ []))

    moved : (k : ℕ) (event : Given) (t : ServerSays) → k ≤ length replies
        → Says provider (Open provider events replies k) event t
        → Says provider (Open provider (events ++ e ∷ []) (replies ++ says ∷ []) k) event t
    moved k event t l x = says_moves provider (Open provider events replies k)
        (Open provider (events ++ e ∷ []) (replies ++ says ∷ []) k)
        (open_same provider events (e ∷ []) replies (says ∷ []) k h.count l) event t x

    front : (k : ℕ) (event : Given) (t : ServerSays) → slice_get (events ++ e ∷ []) k ≡ Some event
        → slice_get (replies ++ says ∷ []) k ≡ Some t → k < length replies
        → Says provider (Open provider (events ++ e ∷ []) (replies ++ says ∷ []) k) event t
    front k event t at said l = moved k event t (omega arith)
        (h.each k event t (sym (slice_get-front events (e ∷ []) k (omega (arith, h.count))) ∙ at)
        (sym (slice_get-front replies (says ∷ []) k l) ∙ said))

    last : (k : ℕ) (event : Given) (t : ServerSays) → slice_get (events ++ e ∷ []) k ≡ Some event
        → slice_get (replies ++ says ∷ []) k ≡ Some t → k ≡ length replies
        → Says provider (Open provider (events ++ e ∷ []) (replies ++ says ∷ []) k) event t
    last k event t at said n =
        let x : e ≡ event = same_Some e event (sym (slice_get-behind events e [])
        ∙ (ap (slice_get (events ++ e ∷ [])) (sym h.count ∙ sym n) ∙ at)) in
        let y : says ≡ t = same_Some says t (sym (slice_get-behind replies says [])
        ∙ (ap (slice_get (replies ++ says ∷ [])) (sym n) ∙ said)) in
        let z = subst (λ (k : ℕ). Says provider (Open provider events replies k) e says) (sym n) s in
        moved k event t (omega arith)
        (subst (λ (t : ServerSays). Says provider (Open provider events replies k) event t) y
        (subst (λ (x : Given). Says provider (Open provider events replies k) x says) x z))
