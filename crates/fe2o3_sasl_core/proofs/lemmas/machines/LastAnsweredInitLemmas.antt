-- A server keeps the claim of the last init that it answered: `last_answered_init_is_kept`.
use Rattle.std.proofs.Common.{◌≡◌, ◌⊎◌, ◌+◌, ℕ, zero, suc, Option, Some, None, List, [], ◌∷◌, refl, sym, ap, ◌∙◌, subst, inl, inr, Result, Ok, Err, arith}
use Rattle.fe2o3_sasl_wire.specs.declared.sasl_frames.error.Error.{Error}
use Rattle.fe2o3_sasl_wire.specs.declared.sasl_frames.error.Error.TheVariants as faults
use Rattle.fe2o3_sasl_wire.specs.SaslFrames as frames
use Rattle.fe2o3_sasl_wire.specs.SaslFrames.{SaslFrame, canonical}
use Rattle.fe2o3_sasl_core.specs.Bodies.{SpellsBody, server_says}
use Rattle.fe2o3_sasl_core.specs.Events.{Given, ServerSays, Failed}
use Rattle.fe2o3_sasl_core.specs.ChallengeCounts.{IsError}
use Rattle.fe2o3_sasl_core.specs.LoginAttemptLaws.{AnsweredInit, ContinuesClaim, LastAnsweredInitIsKept, NoAnsweredInit}
use Rattle.fe2o3_sasl_core.specs.LoginAttempts.{Attempt, IsAttempt, RecordsResponse, or_late, with_late}
use Rattle.fe2o3_sasl_core.specs.Runs.{Runs, AcceptorSteps, AcceptorGives, SendsCanonical}
use Rattle.fe2o3_sasl_core.specs.Servers.{ServerAt, sasl_machine}
use Rattle.fe2o3_sasl_core.proofs.lemmas.frames.SpellingLemmas.{one_spelled_frame}

-- ---- the claim of an init, with the user of a late initial response

both_late : (user late other : Option (List ℕ)) → or_late (or_late user late) other ≡ or_late user (or_late late other)
both_late (Some user) late other = refl
both_late None late other = refl

no_late : (user : Option (List ℕ)) → or_late user None ≡ user
no_late (Some user) = refl
no_late None = refl

with_both : (attempt : Attempt) (late other : Option (List ℕ))
    → with_late (with_late attempt late) other ≡ with_late attempt (or_late late other)
with_both attempt late other i = record attempt { user = both_late attempt.user late other i }

with_none : (attempt : Attempt) → with_late attempt None ≡ attempt
with_none attempt i = record attempt { user = no_late attempt.user i }

same_claim : (before after : Option Attempt) → after ≡ before → ContinuesClaim before after
same_claim None after is = is
same_claim (Some attempt) after is = (None, is ∙ ap (λ (a : Attempt). Some a) (sym (with_none attempt)))

on_and_on : (before mid after : Option Attempt) → ContinuesClaim before mid → ContinuesClaim mid after
    → ContinuesClaim before after
on_and_on None mid after first then = subst (λ (claim : Option Attempt). ContinuesClaim claim after) first then
on_and_on (Some attempt) mid after (late, is) then =
    let more = subst (λ (claim : Option Attempt). ContinuesClaim claim after) is then in
    (or_late late more.0, more.1 ∙ ap (λ (a : Attempt). Some a) (with_both attempt late more.0))

response_continues : (text : List ℕ) (before after : Option Attempt) → RecordsResponse text before after
    → ContinuesClaim before after
response_continues text None after is = is
response_continues text (Some attempt) after (late, claims, is) = (late, is)

-- ---- a step

-- the body is an init that claims this, and is answered
abbrev Claims : Given → ServerSays → Attempt → Type 0
Claims event says attempt =
    (frame : SaslFrame) × SpellsBody event.body (Ok frame) × IsAttempt frame attempt × ¬ IsError says

-- what a step does to the claim: an init that is answered replaces it, and otherwise it continues
abbrev StepsClaim : ServerAt → Given → ServerSays → ServerAt → Type 0
StepsClaim server event says next =
    ((attempt : Attempt) × Claims event says attempt × (next.last ≡ Some attempt))
    ⊎ (((attempt : Attempt) → ¬ Claims event says attempt) × ContinuesClaim server.last next.last)

stays : (server next : ServerAt) (event : Given) (says : ServerSays) (fault : Error)
    → says ≡ Failed fault → next.last ≡ server.last → StepsClaim server event says next
stays server next event says fault failed same =
    inr ((λ attempt claims. claims.3 (subst IsError (sym failed) tt)), same_claim server.last next.last same)

said : (reply : SaslFrame) (body : List ℕ) → ¬ IsError (server_says reply body)
said (frames.Outcome code more) body error = error
said (frames.Mechanisms names) body error = error
said (frames.Init mechanism response hostname) body error = error
said (frames.Challenge text) body error = error
said (frames.Response text) body error = error

last_of : (server other : ServerAt) → server ≡ other → server.last ≡ other.last
last_of server other is = ap (λ (s : ServerAt). s.last) is

init_sent : (server mid next : ServerAt) (event : Given) (says : ServerSays) (reply frame : SaslFrame)
    (attempt : Attempt) (body : Option (List ℕ)) → SpellsBody event.body (Ok frame) → IsAttempt frame attempt
    → mid.last ≡ Some attempt
    → SendsCanonical (Failed faults.TooLarge) (server_says reply) body server mid says next
    → StepsClaim server event says next
init_sent server mid next event says reply frame attempt None spells is to sent =
    stays server next event says faults.TooLarge sent.0 (last_of next server sent.1)
init_sent server mid next event says reply frame attempt (Some body) spells is to sent = inl (
  attempt,
  (frame, spells, is, λ error. said reply body (subst IsError sent.0 error)),
  last_of next mid sent.1 ∙ to,
)

response_sent : (server mid next : ServerAt) (say : List ℕ → ServerSays) (says : ServerSays)
    (body : Option (List ℕ)) → ContinuesClaim server.last mid.last
    → SendsCanonical (Failed faults.TooLarge) say body server mid says next → ContinuesClaim server.last next.last
response_sent server mid next say says None to sent =
    same_claim server.last next.last (last_of next server sent.1)
response_sent server mid next say says (Some body) to sent =
    subst (λ (claim : Option Attempt). ContinuesClaim server.last claim) (sym (last_of next mid sent.1)) to

no_claim : (event : Given) (says : ServerSays) (text : List ℕ)
    → SpellsBody event.body (Ok (frames.Response text)) → (attempt : Attempt) → ¬ Claims event says attempt
no_claim event says text spells attempt (frame, too, is, answered) =
    subst (λ (f : SaslFrame). IsAttempt f attempt) (one_spelled_frame event.body frame (frames.Response text) too spells)
    is

gives : (server : ServerAt) (event : Given) (spelled : Result SaslFrame Error)
    (says : ServerSays) (next : ServerAt) → SpellsBody event.body spelled
    → AcceptorGives sasl_machine server event spelled says next → StepsClaim server event says next
gives server event (Ok (frames.Init mechanism response hostname)) says next spells (inl want) =
    stays server next event says faults.OutOfMemory want.0 (last_of next server want.1)
gives server event (Ok (frames.Init mechanism response hostname)) says next spells
    (inr (reply, mid, (same, answers, (attempt, is, to)), sent)) =
    init_sent server mid next event says reply (frames.Init mechanism response hostname) attempt (canonical reply) spells
    is to sent
gives server event (Ok (frames.Response text)) says next spells (inl want) =
    stays server next event says faults.OutOfMemory want.0 (last_of next server want.1)
gives server event (Ok (frames.Response text)) says next spells (inr (reply, mid, (same, answers, to), sent)) = inr (
  no_claim event says text spells,
  response_sent server mid next (server_says reply) says (canonical reply)
      (response_continues text server.last mid.last to) sent,
)
gives server event (Ok frame) says next spells is =
    stays server next event says faults.NotImplemented is.0 (last_of next server is.1)
gives server event (Err fault) says next spells is =
    stays server next event says fault is.0 (last_of next server is.1)

-- ---- positions

first_answered : (event : Given) (events : List Given) (says : ServerSays) (replies : List ServerSays)
    (attempt : Attempt) → Claims event says attempt → AnsweredInit (event ∷ events) (says ∷ replies) 0 attempt
first_answered event events says replies attempt claims = record {
  event = event;
  says = says;
  frame = claims.0;
  is = refl;
  said = refl;
  spells = claims.1;
  claims = claims.2;
  answered = claims.3;
}

later_answered : (event : Given) (events : List Given) (says : ServerSays) (replies : List ServerSays) (at : ℕ)
    (attempt : Attempt) → AnsweredInit events replies at attempt
    → AnsweredInit (event ∷ events) (says ∷ replies) (suc at) attempt
later_answered event events says replies at attempt a = record {
  event = a.event;
  says = a.says;
  frame = a.frame;
  is = a.is;
  said = a.said;
  spells = a.spells;
  claims = a.claims;
  answered = a.answered;
}

earlier_answered : (event : Given) (events : List Given) (says : ServerSays) (replies : List ServerSays) (at : ℕ)
    (attempt : Attempt) → AnsweredInit (event ∷ events) (says ∷ replies) (suc at) attempt
    → AnsweredInit events replies at attempt
earlier_answered event events says replies at attempt a = record {
  event = a.event;
  says = a.says;
  frame = a.frame;
  is = a.is;
  said = a.said;
  spells = a.spells;
  claims = a.claims;
  answered = a.answered;
}

claims_first : (event : Given) (events : List Given) (says : ServerSays) (replies : List ServerSays)
    (attempt : Attempt) → AnsweredInit (event ∷ events) (says ∷ replies) 0 attempt → Claims event says attempt
claims_first event events says replies attempt a =
    let event_is : event ≡ a.event = let is = a.is in cc in
    let says_is : says ≡ a.says = let said = a.said in cc in (
      a.frame,
      subst (λ (e : Given). SpellsBody e.body (Ok a.frame)) (sym event_is) a.spells,
      a.claims,
      λ error. a.answered (subst IsError says_is error),
    )

none_later : (event : Given) (events : List Given) (says : ServerSays) (replies : List ServerSays) (from more : ℕ)
    → more ≡ suc from → NoAnsweredInit events replies from → NoAnsweredInit (event ∷ events) (says ∷ replies) more
none_later event events says replies from more is none zero attempt least a = absurd (omega arith)
none_later event events says replies from more is none (suc at) attempt least a =
    none at attempt (omega arith) (earlier_answered event events says replies at attempt a)

none_at_all : (event : Given) (events : List Given) (says : ServerSays) (replies : List ServerSays)
    → ((attempt : Attempt) → ¬ Claims event says attempt) → NoAnsweredInit events replies 0
    → NoAnsweredInit (event ∷ events) (says ∷ replies) 0
none_at_all event events says replies not none zero attempt least a =
    not attempt (claims_first event events says replies attempt a)
none_at_all event events says replies not none (suc at) attempt least a =
    none at attempt (omega arith) (earlier_answered event events says replies at attempt a)

-- ---- a run

-- which claim is kept
abbrev Keeps : Option Attempt → Option Attempt → List Given → List ServerSays → Type 0
Keeps before after events replies = (NoAnsweredInit events replies 0 × ContinuesClaim before after)
    ⊎ ((at : ℕ) × (attempt : Attempt) × AnsweredInit events replies at attempt
    × NoAnsweredInit events replies (at + 1) × ContinuesClaim (Some attempt) after)

keeps_more : (server next : ServerAt) (after : Option Attempt) (event : Given) (events : List Given)
    (says : ServerSays) (replies : List ServerSays) → StepsClaim server event says next
    → Keeps next.last after events replies → Keeps server.last after (event ∷ events) (says ∷ replies)
keeps_more server next after event events says replies step (inr (at, attempt, answered, none, is)) = inr (
  suc at,
  attempt,
  later_answered event events says replies at attempt answered,
  none_later event events says replies (at + 1) (suc at + 1) (omega arith) none,
  is,
)
keeps_more server next after event events says replies (inl (attempt, claims, to)) (inl (none, is)) = inr (
  0,
  attempt,
  first_answered event events says replies attempt claims,
  none_later event events says replies 0 1 (omega arith) none,
  subst (λ (claim : Option Attempt). ContinuesClaim claim after) to is,
)
keeps_more server next after event events says replies (inr (not, to)) (inl (none, is)) =
    inl (none_at_all event events says replies not none, on_and_on server.last next.last after to is)

runs_keep : (server last : ServerAt) (events : List Given)
    (replies : List ServerSays) → Runs (AcceptorSteps sasl_machine) server events replies last
    → Keeps server.last last.last events replies
runs_keep server last [] replies runs =
    inl (
      (λ at attempt least a. let is = a.is in absurd (cc)),
      same_claim server.last last.last (last_of last server runs.1),
    )
runs_keep server last (event ∷ events) replies runs =
    let step = gives server event runs.3.0 runs.0 runs.1 runs.3.1 runs.3.2 in
    let rest = runs_keep runs.1 last events runs.2 runs.5 in
    subst (λ (r : List ServerSays). Keeps server.last last.last (event ∷ events) r) (sym runs.4)
    (keeps_more server runs.1 last.last event events runs.0 runs.2 step rest)

pub last_answered_init_is_kept : LastAnsweredInitIsKept
last_answered_init_is_kept server last events replies runs =
    runs_keep server last events replies runs
