-- What a server of two acceptors does, and one that offers only some names, is what an acceptor in it does.
use Rattle.std.proofs.Common.{◌≡◌, ℕ, suc, Option, Some, None, List, [], ◌∷◌, refl, sym, ap, ◌∙◌, subst, inl, inr, Result, Ok, Err}
use Rattle.std.specs.Prelude.{zip}
use Rattle.fe2o3_sasl_wire.specs.declared.amqp_types.SaslCode.TheVariants as outcomes
use Rattle.fe2o3_sasl_wire.specs.declared.sasl_frames.error.Error.{Error}
use Rattle.fe2o3_sasl_wire.specs.declared.sasl_frames.error.Error.TheVariants as faults
use Rattle.fe2o3_sasl_wire.specs.SaslFrames as frames
use Rattle.fe2o3_sasl_wire.specs.SaslFrames.{SaslFrame, canonical}
use Rattle.fe2o3_sasl_core.specs.Bodies.{SpellsBody, carried, server_says}
use Rattle.fe2o3_sasl_core.specs.Events.{Given, ServerSays, Failed}
use Rattle.fe2o3_sasl_core.specs.AnyMechanism.{BothStates, PartReplies, part_for, any_mechanism_machine}
use Rattle.fe2o3_sasl_core.specs.AnyMechanismLaws.{Machine, mark_of, MarkedSteps, MarkedRuns, those, to_first, to_second, IsRefusal, Splits, AnyMechanismRunsAreSplit}
use Rattle.fe2o3_sasl_core.specs.Runs.{Runs, AcceptorSteps, AcceptorAnswers, AcceptorGives}
use Rattle.fe2o3_sasl_core.specs.SaslAcceptor.{ends_with}
use Rattle.fe2o3_sasl_core.specs.declared.any_mechanism.Selected.{Selected}
use Rattle.fe2o3_sasl_core.specs.declared.any_mechanism.Selected.TheVariants.{First, Second}

-- what went to a part is a step of it, and the other stays; what went to neither is rejected
abbrev pub Goes : {S T : Type 0} → Machine S → Machine T → BothStates S T → Option Selected → Given → ServerSays → BothStates S T
    → Type 0
Goes machine other parts None event says next = IsRefusal says × (next ≡ parts)
Goes machine other parts (Some First) event says next =
    AcceptorSteps machine parts.first event says next.first × (next.second ≡ parts.second)
Goes machine other parts (Some Second) event says next =
    AcceptorSteps other parts.second event says next.second × (next.first ≡ parts.first)

-- the same of an answer to a frame
abbrev AnswersAs : {S T : Type 0} → Machine S → Machine T → BothStates S T → Option Selected → List ℕ → SaslFrame → ServerSays
    → BothStates S T → Type 0
AnswersAs machine other parts None nonce frame says next = IsRefusal says × (next ≡ parts)
AnswersAs machine other parts (Some First) nonce frame says next =
    AcceptorAnswers machine parts.first nonce frame says next.first × (next.second ≡ parts.second)
AnswersAs machine other parts (Some Second) nonce frame says next =
    AcceptorAnswers other parts.second nonce frame says next.second × (next.first ≡ parts.first)

-- Auth and an error are rejections, in any body
pub auth_is_refusal : (body : Option (List ℕ))
    → IsRefusal (carried (Failed faults.TooLarge) (server_says (ends_with outcomes.Auth)) body)
auth_is_refusal None = tt
auth_is_refusal (Some body) = tt

pub unmoved : {S : Type 0} (state moved next : S) (body : Option (List ℕ)) → moved ≡ state
    → next ≡ carried state (λ _. moved) body → next ≡ state
unmoved state moved next None same is = is
unmoved state moved next (Some body) same is = is ∙ same

first_moved : {S T : Type 0} (parts moved next : BothStates S T) (state : S) (body : Option (List ℕ))
    → moved ≡ record { first = state; second = parts.second; selected = Some First }
    → next ≡ carried parts (λ _. moved) body
    → (next.first ≡ carried parts.first (λ _. state) body) × (next.second ≡ parts.second)
first_moved {S} {T} parts moved next state None same is =
    (ap (λ (p : BothStates S T). p.first) is, ap (λ (p : BothStates S T). p.second) is)
first_moved {S} {T} parts moved next state (Some body) same is =
    (ap (λ (p : BothStates S T). p.first) (is ∙ same), ap (λ (p : BothStates S T). p.second) (is ∙ same))

second_moved : {S T : Type 0} (parts moved next : BothStates S T) (state : T) (body : Option (List ℕ))
    → moved ≡ record { first = parts.first; second = state; selected = Some Second }
    → next ≡ carried parts (λ _. moved) body
    → (next.second ≡ carried parts.second (λ _. state) body) × (next.first ≡ parts.first)
second_moved {S} {T} parts moved next state None same is =
    (ap (λ (p : BothStates S T). p.second) is, ap (λ (p : BothStates S T). p.first) is)
second_moved {S} {T} parts moved next state (Some body) same is =
    (ap (λ (p : BothStates S T). p.second) (is ∙ same), ap (λ (p : BothStates S T). p.first) (is ∙ same))

answered : {S T : Type 0} (machine : Machine S) (other : Machine T) (parts : BothStates S T) (mark : Option Selected)
    (nonce : List ℕ) (frame : SaslFrame) (says : ServerSays) (next : BothStates S T)
    → AcceptorAnswers (λ (at : BothStates S T). PartReplies machine other at mark) parts nonce frame says next
    → AnswersAs machine other parts mark nonce frame says next
answered machine other parts None nonce frame says next (inl want) = (subst IsRefusal (sym want.0) tt, want.1)
answered {S} {T} machine other parts (Some First) nonce frame says next (inl want) =
    (inl (want.0, ap (λ (p : BothStates S T). p.first) want.1), ap (λ (p : BothStates S T). p.second) want.1)
answered {S} {T} machine other parts (Some Second) nonce frame says next (inl want) =
    (inl (want.0, ap (λ (p : BothStates S T). p.second) want.1), ap (λ (p : BothStates S T). p.first) want.1)
answered machine other parts None nonce frame says next (inr (reply, moved, is, sent)) = (
  subst IsRefusal (sym (sent.0 ∙ ap (λ (reply : SaslFrame). carried (Failed faults.TooLarge) (server_says reply)
      (canonical reply)) is.0)) (auth_is_refusal (canonical (ends_with outcomes.Auth))),
  unmoved parts moved next (canonical reply) is.1 sent.1,
)
answered machine other parts (Some First) nonce frame says next (inr (reply, moved, (state, replies, is), sent)) =
    let both = first_moved parts moved next state (canonical reply) is sent.1 in
    (inr (reply, state, replies, (sent.0, both.0)), both.1)
answered machine other parts (Some Second) nonce frame says next (inr (reply, moved, (state, replies, is), sent)) =
    let both = second_moved parts moved next state (canonical reply) is sent.1 in
    (inr (reply, state, replies, (sent.0, both.0)), both.1)

-- an answer to a frame that acceptors take is a step
as_step : {S T : Type 0} (machine : Machine S) (other : Machine T) (parts : BothStates S T) (mark : Option Selected)
    (event : Given) (frame : SaslFrame) (says : ServerSays) (next : BothStates S T)
    → ((R : Type 0) (any : Machine R) (state after : R) → AcceptorAnswers any state event.nonce frame says after
    → AcceptorSteps any state event says after)
    → AnswersAs machine other parts mark event.nonce frame says next → Goes machine other parts mark event says next
as_step machine other parts None event frame says next steps is = is
as_step {S} machine other parts (Some First) event frame says next steps is =
    (steps S machine parts.first next.first is.0, is.1)
as_step {S} {T} machine other parts (Some Second) event frame says next steps is =
    (steps T other parts.second next.second is.0, is.1)

-- each step goes to a part or to neither, as the state before it says
pub one_goes : {S T : Type 0} (names : S → List (List ℕ)) (others : T → List (List ℕ)) (machine : Machine S)
    (other : Machine T) (parts : BothStates S T) (event : Given) (spelled : Result SaslFrame Error) (says : ServerSays)
    (next : BothStates S T) → SpellsBody event.body spelled
    → AcceptorGives (any_mechanism_machine names others machine other) parts event spelled says next
    → Goes machine other parts (mark_of None (part_for names others) parts spelled) event says next
one_goes names others machine other parts event (Err fault) says next spells is = (subst IsRefusal (sym is.0) tt, is.1)
one_goes names others machine other parts event (Ok (frames.Mechanisms list)) says next spells is =
    (subst IsRefusal (sym is.0) tt, is.1)
one_goes names others machine other parts event (Ok (frames.Challenge text)) says next spells is =
    (subst IsRefusal (sym is.0) tt, is.1)
one_goes names others machine other parts event (Ok (frames.Outcome code more)) says next spells is =
    (subst IsRefusal (sym is.0) tt, is.1)
one_goes names others machine other parts event (Ok (frames.Init mechanism response hostname)) says next spells is =
    let frame = frames.Init mechanism response hostname in
    let mark = part_for names others parts frame in
    as_step machine other parts mark event frame says next (λ R any state after answers. (Ok frame, spells, answers))
    (answered machine other parts mark event.nonce frame says next is)
one_goes names others machine other parts event (Ok (frames.Response text)) says next spells is =
    let frame = frames.Response text in
    let mark = part_for names others parts frame in
    as_step machine other parts mark event frame says next (λ R any state after answers. (Ok frame, spells, answers))
    (answered machine other parts mark event.nonce frame says next is)

-- one body more in front
pub marked_more : {S M : Type 0} (machine : Machine S) (none : M) (mark : S → SaslFrame → M) (state next last : S) (it : M)
    (event : Given) (events : List Given) (says : ServerSays) (replies : List ServerSays) (marks : List M)
    → MarkedSteps machine none mark state event (it, says) next
    → MarkedRuns machine none mark next events replies last marks
    → MarkedRuns machine none mark state (event ∷ events) (says ∷ replies) last (it ∷ marks)
marked_more machine none mark state next last it event events says replies marks step run = record {
  count = ap suc run.count;
  steps = ((it, says), next, zip marks replies, step, refl, run.steps);
}

split_more : {S T : Type 0} (names : S → List (List ℕ)) (others : T → List (List ℕ)) (machine : Machine S)
    (other : Machine T) (parts next last : BothStates S T) (mark : Option Selected) (event : Given) (events : List Given)
    (says : ServerSays) (replies : List ServerSays) (marks : List (Option Selected))
    → MarkedSteps (any_mechanism_machine names others machine other) None (part_for names others) parts event (mark, says) next
    → Goes machine other parts mark event says next
    → Splits names others machine other next events replies last marks
    → Splits names others machine other parts (event ∷ events) (says ∷ replies) last (mark ∷ marks)
split_more {S} {T} names others machine other parts next last None event events says replies marks step goes split =
    record {
      marked = marked_more (any_mechanism_machine names others machine other) None (part_for names others) parts next last
          None event events says replies marks step split.marked;
      first =
          subst (λ (at : BothStates S T). Runs (AcceptorSteps machine) at.first (those to_first marks events)
          (those to_first marks replies) last.first) goes.1 split.first;
      second =
          subst (λ (at : BothStates S T). Runs (AcceptorSteps other) at.second (those to_second marks events)
          (those to_second marks replies) last.second) goes.1 split.second;
      neither = (goes.0, split.neither);
    }
split_more {S} {T} names others machine other parts next last (Some First) event events says replies marks step goes
    split = record {
      marked = marked_more (any_mechanism_machine names others machine other) None (part_for names others) parts next last
          (Some First) event events says replies marks step split.marked;
      first = (says, next.first, those to_first marks replies, goes.0, refl, split.first);
      second =
          subst (λ (at : T). Runs (AcceptorSteps other) at (those to_second marks events)
          (those to_second marks replies) last.second) goes.1 split.second;
      neither = split.neither;
    }
split_more {S} {T} names others machine other parts next last (Some Second) event events says replies marks step goes
    split = record {
      marked = marked_more (any_mechanism_machine names others machine other) None (part_for names others) parts next last
          (Some Second) event events says replies marks step split.marked;
      first =
          subst (λ (at : S). Runs (AcceptorSteps machine) at (those to_first marks events)
          (those to_first marks replies) last.first) goes.1 split.first;
      second = (says, next.second, those to_second marks replies, goes.0, refl, split.second);
      neither = split.neither;
    }

pub any_mechanism_runs : {S T : Type 0} (names : S → List (List ℕ)) (others : T → List (List ℕ)) (machine : Machine S)
    (other : Machine T) → AnyMechanismRunsAreSplit names others machine other
any_mechanism_runs {S} {T} names others machine other parts last [] replies runs = (
  [],
  record {
    marked = record { count = refl; steps = (refl, runs.1) };
    first = (refl, ap (λ (p : BothStates S T). p.first) runs.1);
    second = (refl, ap (λ (p : BothStates S T). p.second) runs.1);
    neither = tt;
  },
)
any_mechanism_runs {S} {T} names others machine other parts last (event ∷ events) replies runs =
    let says = runs.0 in
    let next = runs.1 in
    let step = runs.3 in
    let goes = one_goes names others machine other parts event step.0 says next step.1 step.2 in
    let rest = any_mechanism_runs names others machine other next last events runs.2 runs.5 in (
      mark_of None (part_for names others) parts step.0 ∷ rest.0,
      subst (λ (all : List ServerSays). Splits names others machine other parts (event ∷ events) all last
          (mark_of None (part_for names others) parts step.0 ∷ rest.0)) (sym runs.4)
          (split_more names others machine other parts next last (mark_of None (part_for names others) parts step.0)
          event events says runs.2 rest.0 (step.0, step.1, step.2, refl) goes rest.1),
    )
