-- A client history goes on by one event, and what is due and open at a position stays.
use Rattle.std.proofs.Common.{◌≡◌, ◌⊎◌, ℕ, suc, ◌+◌, ◌<◌, ◌≤◌, Some, List, [], ◌∷◌, ◌++◌, length, sym, ap, ◌∙◌, subst, arith, ⊎_elim, inl, inr, Result, Ok, length-append}
use Rattle.std.specs.Prelude.{slice_get}
use Rattle.std.proofs.lemmas.Option.{same_Some, slice_get_within}
use Rattle.fe2o3_sasl_wire.specs.declared.sasl_frames.error.Error.{Error}
use Rattle.fe2o3_sasl_wire.specs.SaslFrames.{SaslFrame}
use Rattle.fe2o3_sasl_core.specs.ClientHistory.{ClientAnswers, ClientAllocates, is_start, is_answer, ends_answer, NonceAt, IsDue, AnswersAt, OpenAnswer, SignsAt, VerifiedAnswer, ClientHistory}
use Rattle.fe2o3_sasl_core.specs.Events.{Given, Login, ClientSays, Refused}
use Rattle.fe2o3_sasl_core.specs.Bodies.{SpellsBody}
use Rattle.fe2o3_sasl_core.proofs.lemmas.histories.OneClientHistoryLemmas.{challenge_moves, client_moves}
use Rattle.fe2o3_sasl_core.proofs.lemmas.positions.OpenStateLemmas.{AreSame, open_by_front}
use Rattle.fe2o3_sasl_core.proofs.lemmas.positions.PositionLemmas.{below_or_at, slice_get-front, slice_get-behind}
use Rattle.fe2o3_sasl_core.specs.declared.sasl_profile.error.ProfileError.TheVariants.{OutOfMemory}

pub nonce_front : (events more : List Given) (k : ℕ) → k < length events
    → AreSame (NonceAt events k) (NonceAt (events ++ more) k)
nonce_front events more k l = (
  λ nonce h. (h.0, slice_get-front events more k l ∙ h.1, h.2),
  λ nonce h. (h.0, sym (slice_get-front events more k l) ∙ h.1, h.2),
)

-- what is due, answered and open at a position stays what it is
pub due_front : (events more : List Given) (replies others : List ClientSays) (k : ℕ) → length replies ≡ length events
    → k ≤ length replies → AreSame (IsDue events replies k) (IsDue (events ++ more) (replies ++ others) k)
due_front events more replies others k n l = open_by_front is_start is_answer (NonceAt events)
    (NonceAt (events ++ more)) replies others k l (λ j b. nonce_front events more j (omega arith))

pub answers_front : (login : Login) (events more : List Given) (replies others : List ClientSays) (k : ℕ)
    → length replies ≡ length events → k < length replies
    → AreSame (AnswersAt login events replies k) (AnswersAt login (events ++ more) (replies ++ others) k)
answers_front login events more replies others k n l =
    let due = due_front events more replies others k n (omega arith) in
    let at = slice_get-front events more k (omega arith) in (
      λ answer h. (
        h.0,
        h.1,
        at ∙ h.2,
        h.3,
        challenge_moves login (IsDue events replies k)
            (IsDue (events ++ more) (replies ++ others) k) due h.1 (Ok answer) h.4,
      ),
      λ answer h. (
        h.0,
        h.1,
        sym at ∙ h.2,
        h.3,
        challenge_moves login (IsDue (events ++ more) (replies ++ others) k)
            (IsDue events replies k) (due.1, due.0) h.1 (Ok answer) h.4,
      ),
    )

pub open_answer_front : (login : Login) (events more : List Given) (replies others : List ClientSays) (k : ℕ)
    → length replies ≡ length events → k ≤ length replies
    → AreSame (OpenAnswer login events replies k) (OpenAnswer login (events ++ more) (replies ++ others) k)
open_answer_front login events more replies others k n l =
    open_by_front is_answer ends_answer (AnswersAt login events replies)
    (AnswersAt login (events ++ more) (replies ++ others)) replies others k l
    (λ j b. answers_front login events more replies others j n (omega arith))

pub signs_front : (login : Login) (events more : List Given) (replies others : List ClientSays) (k : ℕ)
    → length replies ≡ length events → k < length replies
    → AreSame (SignsAt login events replies k) (SignsAt login (events ++ more) (replies ++ others) k)
signs_front login events more replies others k n l =
    let opened = open_answer_front login events more replies others k n (omega arith) in
    let at = slice_get-front events more k (omega arith) in (
      λ answer h. (h.0, h.1, at ∙ h.2, h.3, (h.4.0, opened.0 answer h.4.1), h.5),
      λ answer h. (h.0, h.1, sym at ∙ h.2, h.3, (h.4.0, opened.1 answer h.4.1), h.5),
    )

verified_front : (login : Login) (events more : List Given) (replies others : List ClientSays) (k : ℕ)
    → length replies ≡ length events → k ≤ length replies
    → AreSame (VerifiedAnswer login events replies k) (VerifiedAnswer login (events ++ more) (replies ++ others) k)
verified_front login events more replies others k n l =
    open_by_front is_answer ends_answer (SignsAt login events replies)
    (SignsAt login (events ++ more) (replies ++ others)) replies others k l
    (λ j b. signs_front login events more replies others j n (omega arith))

-- what an event may be answered at a position
abbrev pub SaysAt : Login → List Given → List ClientSays → ℕ → Given → ClientSays → Type 0
SaysAt login events replies k event says = (spelled : Result SaslFrame Error) × SpellsBody event.body spelled
    × ((ClientAllocates login spelled × (says ≡ Refused OutOfMemory))
    ⊎ ClientAnswers login (IsDue events replies k) (OpenAnswer login events replies k)
    (VerifiedAnswer login events replies k) event spelled says)

-- the next reply of a history
pub client_history_push : (login : Login) (events : List Given) (replies : List ClientSays) (event : Given)
    (says : ClientSays) → ClientHistory login events replies → SaysAt login events replies (length replies) event says
    → ClientHistory login (events ++ event ∷ []) (replies ++ says ∷ [])
client_history_push login events replies event says h s =
    record {
      count = length-append replies (says ∷ []) ∙ (ap (λ n. n + 1) h.count ∙ sym (length-append events (event ∷ [])));
      each = λ k e t at said. ⊎_elim (front k e t at said) (last k e t at said)
          (below_or_at k (length replies) (within k t said));
    }
  where
    within : (k : ℕ) (t : ClientSays) → slice_get (replies ++ says ∷ []) k ≡ Some t → k < suc (length replies)
    within k t said = omega (arith, slice_get_within (replies ++ says ∷ []) k t said, length-append replies (says ∷ []))

    moved : (k : ℕ) (e : Given) (t : ClientSays) → k ≤ length replies → SaysAt login events replies k e t
        → SaysAt login (events ++ event ∷ []) (replies ++ says ∷ []) k e t
    moved k e t l x = (x.0, x.1, go x.2)
      where
        go : (ClientAllocates login x.0 × (t ≡ Refused OutOfMemory))
            ⊎ ClientAnswers login (IsDue events replies k) (OpenAnswer login events replies k)
            (VerifiedAnswer login events replies k) e x.0 t →
            (ClientAllocates login x.0 × (t ≡ Refused OutOfMemory))
            ⊎ ClientAnswers login (IsDue (events ++ event ∷ []) (replies ++ says ∷ []) k)
            (OpenAnswer login (events ++ event ∷ []) (replies ++ says ∷ []) k)
            (VerifiedAnswer login (events ++ event ∷ []) (replies ++ says ∷ []) k) e x.0 t
        go (inl w) = inl w
        go (inr a) =
            inr (client_moves login (IsDue events replies k) (IsDue (events ++ event ∷ []) (replies ++ says ∷ []) k)
            (OpenAnswer login events replies k) (OpenAnswer login (events ++ event ∷ []) (replies ++ says ∷ []) k)
            (VerifiedAnswer login events replies k)
            (VerifiedAnswer login (events ++ event ∷ []) (replies ++ says ∷ []) k)
            (due_front events (event ∷ []) replies (says ∷ []) k h.count l)
            (open_answer_front login events (event ∷ []) replies (says ∷ []) k h.count l)
            (verified_front login events (event ∷ []) replies (says ∷ []) k h.count l) e x.0 t a)

    front : (k : ℕ) (e : Given) (t : ClientSays) → slice_get (events ++ event ∷ []) k ≡ Some e
        → slice_get (replies ++ says ∷ []) k ≡ Some t → k < length replies
        → SaysAt login (events ++ event ∷ []) (replies ++ says ∷ []) k e t
    front k e t at said l = moved k e t (omega arith) (h.each k e t
        (sym (slice_get-front events (event ∷ []) k (omega (arith, h.count))) ∙ at)
        (sym (slice_get-front replies (says ∷ []) k l) ∙ said))

    last : (k : ℕ) (e : Given) (t : ClientSays) → slice_get (events ++ event ∷ []) k ≡ Some e
        → slice_get (replies ++ says ∷ []) k ≡ Some t → k ≡ length replies
        → SaysAt login (events ++ event ∷ []) (replies ++ says ∷ []) k e t
    last k e t at said n =
        let x : event ≡ e = same_Some event e (sym (slice_get-behind events event [])
        ∙ (ap (slice_get (events ++ event ∷ [])) (sym h.count ∙ sym n) ∙ at)) in
        let y : says ≡ t = same_Some says t (sym (slice_get-behind replies says [])
        ∙ (ap (slice_get (replies ++ says ∷ [])) (sym n) ∙ said)) in
        let z = subst (λ (i : ℕ). SaysAt login events replies i event says) (sym n) s in
        moved k e t (omega arith) (subst (λ (r : ClientSays). SaysAt login events replies k e r) y
        (subst (λ (g : Given). SaysAt login events replies k g says) x z))
