-- What a call does to a client that selects its mechanism from the server's offer, by a policy.
use Rattle.std.proofs.Common.{◌≡◌, ◌⊎◌, ℕ, Bool, false, Option, Some, None, List, [], ◌++◌, drop, take, refl, sym, ◌∙◌, ap, subst, inl, inr, Result, Ok, Err}
use Rattle.fe2o3_sasl_wire.specs.SaslFrames as frames
use Rattle.fe2o3_sasl_wire.specs.SaslFrames.{SaslFrame, canonical}
use Rattle.fe2o3_sasl_wire.specs.declared.sasl_frames.error.Error.{Error}
use Rattle.fe2o3_sasl_wire.specs.declared.sasl_frames.error.Error.TheVariants.{TooLarge}
use Rattle.fe2o3_sasl_core.specs.Bodies.{SpellsBody, carried}
use Rattle.fe2o3_sasl_core.specs.Events.{ClientSays, Given, Refused, Started}
use Rattle.fe2o3_sasl_core.specs.ProfileMachine.{IsSelected, NoneIsSelected}
use Rattle.fe2o3_sasl_core.specs.Profiles.{PolicyProfile, Profile, Selection, after_init}
use Rattle.fe2o3_sasl_core.specs.Runs.{ProfileGives, Replies}
use Rattle.fe2o3_sasl_core.specs.declared.sasl_profile.error.ProfileError.{ProfileError}
use Rattle.fe2o3_sasl_core.specs.declared.sasl_profile.error.ProfileError.TheVariants.{Frame as FrameFault, NotImplemented}
use Rattle.fe2o3_sasl_core.proofs.lemmas.frames.SpellingLemmas.{one_spelling}
use Rattle.fe2o3_sasl_core.proofs.lemmas.machines.OfferLemmas.{init_of, offer_started}
use Rattle.fe2o3_sasl_negotiation.specs.ClientNegotiation.{AsksProfile, ClientOutputs, ClientReceives, ClientSideAnswers}
use Rattle.fe2o3_sasl_negotiation.specs.Framing.{size_of, unit_size, IsWhole}
use Rattle.fe2o3_sasl_negotiation.specs.Memory.{CompletesInTurn}
use Rattle.fe2o3_sasl_negotiation.specs.Negotiations.{AnswersTo, ReceivesAt, Side, SideOutput}
use Rattle.fe2o3_sasl_negotiation.specs.PolicyLaws.{BecomesProfile, SelectsAtOffer, WaitsForOffer, side_in_state}
use Rattle.fe2o3_sasl_negotiation.specs.declared.progress.CloseReason.TheVariants.{Mechanism as ProfileRefused}
use Rattle.fe2o3_sasl_negotiation.specs.declared.progress.Expected.{Expected}
use Rattle.fe2o3_sasl_negotiation.specs.declared.progress.Expected.TheVariants.{Header, Frame}
use Rattle.fe2o3_sasl_negotiation.specs.declared.progress.FrameKind.TheVariants as turns
use Rattle.fe2o3_sasl_negotiation.specs.declared.progress.Progress.{Progress}
use Rattle.fe2o3_sasl_negotiation.specs.declared.progress.Progress.TheVariants.{Authenticated, Failed, InProgress}
use Rattle.fe2o3_sasl_negotiation.proofs.lemmas.CutLemmas.{whole_is_no_part}
use Rattle.fe2o3_sasl_negotiation.proofs.lemmas.SelectedProfileLemmas.{selected_is_for, selected_ordinary}

-- the state of a side that is this one
state_is : (next side : Side Profile) (state : Profile) → next ≡ side → side.state ≡ state → next.state ≡ state
state_is next side state is has = ap (λ (s : Side Profile). s.state) is ∙ has

-- what is sent where an answer is this one
pub sent_is : (answer other : SideOutput) → answer ≡ other → answer.sent ≡ other.sent
sent_is answer other is = ap (λ (a : SideOutput). a.sent) is

-- ---- before the offer

module _ (hostname : Option (List ℕ)) (profile other : Profile) (side next : Side Profile) (bytes nonce sent : List ℕ)
    (taken : ℕ) (state : side.state ≡ profile) (not : ¬ CompletesInTurn side bytes) where
  before_answers : (expected : Expected) → side.expected ≡ expected → side.progress ≡ InProgress
      → IsWhole expected side.limit (side.held ++ bytes) → (answer : SideOutput) (after : Profile)
      → ClientSideAnswers hostname expected profile nonce
      (take (unit_size expected (side.held ++ bytes)) (side.held ++ bytes)) answer after
      → (after ≡ profile) × ClientSideAnswers hostname expected other nonce
      (take (unit_size expected (side.held ++ bytes)) (side.held ++ bytes)) answer other
  before_answers Header expects going whole answer after (opens, same) = (same, (opens, refl))
  before_answers (Frame turn) expects going whole answer after (Err fault, spells, (is, same)) =
      (same, (Err fault, spells, (is, refl)))
  before_answers (Frame turn) expects going whole answer after (Ok frame, spells, inl (out, is, same)) =
      (same, (Ok frame, spells, inl (out, is, refl)))
  before_answers (Frame turn) expects going whole answer after (Ok frame, spells, inr (in_turn, asks)) = absurd (not (
    turn,
    drop 4 (take (size_of (side.held ++ bytes)) (side.held ++ bytes)),
    frame,
    (going, expects, whole, refl),
    spells,
    in_turn,
  ))

  before_offer : (progress : Progress) → side.progress ≡ progress
      → ReceivesAt progress (ClientSideAnswers hostname) side bytes nonce taken sent next
      → (next.state ≡ profile) × ReceivesAt progress (ClientSideAnswers hostname) (side_in_state side other) bytes nonce taken
      sent (side_in_state next other)
  before_offer InProgress going (inl (part, (t, s, is))) =
      (state_is next _ profile is state, inl (part, (t, s, ap (λ (n : Side Profile). side_in_state n other) is)))
  before_offer InProgress going (inr (inl (refused, (t, s, is)))) =
      (state_is next _ profile is state, inr (inl (refused, (t, s, ap (λ (n : Side Profile). side_in_state n other) is))))
  before_offer InProgress going (inr (inr (answer, after, whole, answers, (t, s, is)))) =
      let a = before_answers side.expected refl going whole answer after
      (subst (λ (p : Profile). ClientSideAnswers hostname side.expected p nonce
      (take (unit_size side.expected (side.held ++ bytes)) (side.held ++ bytes)) answer after) state answers) in (
        state_is next _ profile is a.0,
        inr (inr (answer, other, whole, a.1, (t, s, ap (λ (n : Side Profile). side_in_state n other) is))),
      )
  before_offer Authenticated going (t, s, is) =
      (state_is next side profile is state, (t, s, ap (λ (n : Side Profile). side_in_state n other) is))
  before_offer (Failed why) going (t, s, is) =
      (state_is next side profile is state, (t, s, ap (λ (n : Side Profile). side_in_state n other) is))

pub waits_for_offer : WaitsForOffer
waits_for_offer hostname selection profile side next bytes nonce sent taken state not receives =
    before_offer hostname (PolicyProfile selection) profile side next bytes nonce sent taken state not side.progress refl
    receives

-- ---- at the offer

-- a client by a policy sends this for what its profile says
abbrev Outputs : SideOutput → ClientSays → Type 0
Outputs answer says = ClientOutputs false says turns.Mechanisms answer

-- a side that waits for the list of mechanisms
abbrev pub waiting : {S : Type 0} → ℕ → List ℕ → S → Side S
waiting limit held state =
    record { progress = InProgress; expected = Frame turns.Mechanisms; limit = limit; held = held; state = state }

module _ (hostname : Option (List ℕ)) (selection : Selection) (limit : ℕ) (held : List ℕ) (next : Side Profile)
    (bytes nonce sent : List ℕ) (taken : ℕ) (names : List (List ℕ))
    (whole : IsWhole (Frame turns.Mechanisms) limit (held ++ bytes))
    (spells : SpellsBody (drop 4 (take (size_of (held ++ bytes)) (held ++ bytes))) (Ok (frames.Mechanisms names))) where
  abbrev event : Given
  event = record { body = drop 4 (take (size_of (held ++ bytes)) (held ++ bytes)); nonce = nonce }

  abbrev AtOffer : Type 0
  AtOffer = (NoneIsSelected selection names × (sent ≡ []) × (next.progress ≡ Failed (ProfileRefused NotImplemented))
      × (next.state ≡ PolicyProfile selection))
      ⊎ ((profile : Profile) × (moved : Profile) × IsSelected selection names profile
      × ClientReceives hostname (waiting limit held profile) bytes nonce taken sent (side_in_state next moved)
      × BecomesProfile selection next sent profile moved)

  abbrev Answer : Profile → SideOutput → Profile → Type 0
  Answer profile answer moved = AnswersTo (AsksProfile hostname turns.Mechanisms profile event) turns.Mechanisms profile
      (Ok (frames.Mechanisms names)) answer moved

  at_offer : ClientReceives hostname (waiting limit held (PolicyProfile selection)) bytes nonce taken sent next → AtOffer
  at_offer (inl (part, ends)) = absurd (whole_is_no_part (Frame turns.Mechanisms) limit (held ++ bytes) whole part)
  at_offer (inr (inl (refused, ends))) = absurd (refused.1 whole.0)
  at_offer (inr (inr (answer, after, arrived, (spelled, too, answers), (t, s, is)))) =
      read (subst (λ (x : Result SaslFrame Error). AnswersTo (AsksProfile hostname turns.Mechanisms (PolicyProfile selection)
      event) turns.Mechanisms (PolicyProfile selection) x answer after)
      (one_spelling event.body spelled (Ok (frames.Mechanisms names)) too spells) answers)
    where
      ended : next.progress ≡ answer.progress
      ended = ap (λ (n : Side Profile). n.progress) is

      reached : next.state ≡ after
      reached = ap (λ (n : Side Profile). n.state) is

      like : (profile moved : Profile) → Answer profile answer moved
          → ClientReceives hostname (waiting limit held profile) bytes nonce taken sent (side_in_state next moved)
      like profile moved answers = inr (inr (
        answer,
        moved,
        arrived,
        (Ok (frames.Mechanisms names), spells, answers),
        (t, s, ap (λ (n : Side Profile). side_in_state n moved) is),
      ))

      becomes : (chosen moved : Profile) (says : ClientSays) (body : Option (List ℕ)) → moved ≡ after_init chosen nonce
          → says ≡ carried (Refused (FrameFault TooLarge)) (λ b. Started b) body
          → after ≡ carried (PolicyProfile selection) (λ _. moved) body → Outputs answer says
          → BecomesProfile selection next sent chosen (carried chosen (λ _. after_init chosen nonce) body)
      becomes chosen moved says None to told kept outputs =
          let closed = subst (Outputs answer) told outputs in inr (
            refl,
            reached ∙ kept,
            s ∙ sent_is answer _ closed,
            ended ∙ ap (λ (a : SideOutput). a.progress) closed,
          )
      becomes chosen moved says (Some body) to told kept outputs = inl (reached ∙ (kept ∙ to))

      gives : (says : ClientSays) → ProfileGives hostname (PolicyProfile selection) event (Ok (frames.Mechanisms names)) says
          after → Outputs answer says → AtOffer
      gives says (inl (allocates, told, same)) outputs = absurd (subst (Outputs answer) told outputs)
      gives says (inr (reply, moved, inl (chosen, selected, made, to), replies)) outputs =
          let sends = subst (λ (r : Result SaslFrame ProfileError). Replies (PolicyProfile selection) moved r says after) made
          replies in
          let flag = (selected_ordinary selection names chosen selected).1 in inr (
            chosen,
            carried chosen (λ _. after_init chosen nonce) (canonical (init_of hostname nonce chosen)),
            selected,
            like chosen (carried chosen (λ _. after_init chosen nonce) (canonical (init_of hostname nonce chosen)))
                (inr (
                  tt,
                  (
                    says,
                    (
                      Ok (frames.Mechanisms names),
                      spells,
                      inr (
                        Ok (init_of hostname nonce chosen),
                        after_init chosen nonce,
                        offer_started chosen chosen hostname nonce names
                            (selected_is_for selection names chosen selected),
                        (sends.0, refl),
                      ),
                    ),
                    subst (λ (b : Bool). ClientOutputs b says turns.Mechanisms answer) (sym flag) outputs,
                  ),
                )),
            becomes chosen moved says (canonical (init_of hostname nonce chosen)) to sends.0 sends.1 outputs,
          )
      gives says (inr (reply, moved, inr (none, made, to), replies)) outputs =
          let said = subst (λ (r : Result SaslFrame ProfileError). Replies (PolicyProfile selection) moved r says after) made
          replies in
          let closed = subst (Outputs answer) said.0 outputs in inl (
            none,
            s ∙ sent_is answer _ closed,
            ended ∙ ap (λ (a : SideOutput). a.progress) closed,
            reached ∙ (said.1 ∙ to),
          )

      read : Answer (PolicyProfile selection) answer after → AtOffer
      read (inl (out, closed, same)) = absurd (out tt)
      read (inr (in_turn, (says, (other, spelt, step), outputs))) =
          gives says (subst (λ (x : Result SaslFrame Error). ProfileGives hostname (PolicyProfile selection) event x says after)
          (one_spelling event.body other (Ok (frames.Mechanisms names)) spelt spells) step) outputs

pub selects_at_offer : SelectsAtOffer
selects_at_offer hostname selection side next bytes nonce body sent taken names state (going, expects, whole, is) spells
    receives =
    let same : side ≡ waiting side.limit side.held (PolicyProfile selection) = λ i. record {
      progress = going i;
      expected = expects i;
      limit = side.limit;
      held = side.held;
      state = state i;
    } in
    back (at_offer hostname selection side.limit side.held next bytes nonce sent taken names whole
    (subst (λ (b : List ℕ). SpellsBody b (Ok (frames.Mechanisms names))) is spells)
    (subst (λ (s : Side Profile). ClientReceives hostname s bytes nonce taken sent next) same receives))
  where
    moved_back : (profile moved : Profile)
        → ClientReceives hostname (waiting side.limit side.held profile) bytes nonce taken sent (side_in_state next moved)
        → ClientReceives hostname (side_in_state side profile) bytes nonce taken sent (side_in_state next moved)
    moved_back profile moved holds = subst (λ (s : Side Profile).
        ClientReceives hostname s bytes nonce taken sent (side_in_state next moved)) (λ i. record {
          progress = sym going i;
          expected = sym expects i;
          limit = side.limit;
          held = side.held;
          state = profile;
        }) holds

    back : AtOffer hostname selection side.limit side.held next bytes nonce sent taken names whole
        (subst (λ (b : List ℕ). SpellsBody b (Ok (frames.Mechanisms names))) is spells)
        → (NoneIsSelected selection names × (sent ≡ []) × (next.progress ≡ Failed (ProfileRefused NotImplemented))
        × (next.state ≡ PolicyProfile selection))
        ⊎ ((profile : Profile) × (moved : Profile) × IsSelected selection names profile
        × ClientReceives hostname (side_in_state side profile) bytes nonce taken sent (side_in_state next moved)
        × BecomesProfile selection next sent profile moved)
    back (inl none) = inl none
    back (inr (profile, moved, selected, holds, becomes)) =
        inr (profile, moved, selected, moved_back profile moved holds, becomes)
