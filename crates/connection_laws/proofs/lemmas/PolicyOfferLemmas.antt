-- What a client answers to the server's offer, by a policy or by the profile that it selects from it.
use Rattle.std.proofs.Common.{◌≡◌, ◌⊎◌, ℕ, Bool, false, Option, Some, None, List, refl, sym, ◌∙◌, ap, subst, inl, inr, Result, Ok, Err}
use Rattle.fe2o3_sasl_wire.specs.SaslFrames as frames
use Rattle.fe2o3_sasl_wire.specs.SaslFrames.{SaslFrame, canonical}
use Rattle.fe2o3_sasl_wire.specs.declared.sasl_frames.error.Error.{Error}
use Rattle.fe2o3_sasl_wire.specs.declared.sasl_frames.error.Error.TheVariants.{TooLarge}
use Rattle.fe2o3_sasl_core.specs.Bodies.{SpellsBody, carried}
use Rattle.fe2o3_sasl_core.specs.Events.{ClientSays, Given, Refused, Started}
use Rattle.fe2o3_sasl_core.specs.ProfileMachine.{IsSelected, NoneIsSelected, OfferAnswers}
use Rattle.fe2o3_sasl_core.specs.Profiles.{PolicyProfile, Profile, Selection, accepts_signature_by_challenge, after_init}
use Rattle.fe2o3_sasl_core.specs.Runs.{ProfileGives, Replies}
use Rattle.fe2o3_sasl_core.specs.declared.sasl_profile.error.ProfileError.{ProfileError}
use Rattle.fe2o3_sasl_core.specs.declared.sasl_profile.error.ProfileError.TheVariants.{Frame as FrameFault, NotImplemented}
use Rattle.fe2o3_sasl_core.specs.private.Writing.{IsFor}
use Rattle.fe2o3_sasl_core.proofs.lemmas.frames.SpellingLemmas.{one_spelling}
use Rattle.fe2o3_sasl_core.proofs.lemmas.machines.OfferLemmas.{init_of, offer_started, one_offer_reply}
use Rattle.fe2o3_sasl_negotiation.specs.ClientNegotiation.{AsksProfile, ClientOutputs, ClientReplies}
use Rattle.fe2o3_sasl_negotiation.specs.Connections.{Unanswered}
use Rattle.fe2o3_sasl_negotiation.specs.Negotiations.{AnswersTo, SideOutput, closes}
use Rattle.fe2o3_sasl_negotiation.specs.declared.progress.CloseReason.{CloseReason}
use Rattle.fe2o3_sasl_negotiation.specs.declared.progress.CloseReason.TheVariants.{MalformedFrame, Mechanism as ProfileRefused, UnexpectedFrame}
use Rattle.fe2o3_sasl_negotiation.specs.declared.progress.Expected.TheVariants.{Frame}
use Rattle.fe2o3_sasl_negotiation.specs.declared.progress.FrameKind.TheVariants as turns
use Rattle.fe2o3_sasl_negotiation.proofs.lemmas.SelectedProfileLemmas.{selected_is_for, selected_ordinary}

-- a client of the first profile answers a frame so, and one of the second, with the same bytes: both by the init of this
-- profile, which they are of then, or it has none, and both close and keep their profiles
abbrev pub Alike : Option (List ℕ) → Profile → Profile → Profile → Given → SideOutput → Profile → Type 0
Alike hostname profile state other event answer next = (end : Profile)
    × ClientReplies hostname turns.Mechanisms other event answer end
    × (((end ≡ next) × (next ≡ after_init profile event.nonce))
    ⊎ ((canonical (init_of hostname event.nonce profile) ≡ None)
    × (answer ≡ closes (ProfileRefused (FrameFault TooLarge)) (Frame turns.Mechanisms)) × (next ≡ state) × (end ≡ other)))

module _ (hostname : Option (List ℕ)) (names : List (List ℕ)) (event : Given)
    (spells : SpellsBody event.body (Ok (frames.Mechanisms names))) (answer : SideOutput) where
  -- a client of this profile says this, by its machine, and is of the next one then
  record Says (state next : Profile) : Type 0 where
    pub reply : Result SaslFrame ProfileError
    pub moved : Profile
    pub says : ClientSays
    pub machine : OfferAnswers state hostname event.nonce names reply moved
    pub replies : Replies state moved reply says next
    pub outputs : ClientOutputs (accepts_signature_by_challenge state) says turns.Mechanisms answer

  says_so : (state next : Profile) → ClientReplies hostname turns.Mechanisms state event answer next → Says state next
  says_so state next (spelled, too, answers) =
      go (subst (λ (s : Result SaslFrame Error). AnswersTo (AsksProfile hostname turns.Mechanisms state event)
      turns.Mechanisms state s answer next) (one_spelling event.body spelled (Ok (frames.Mechanisms names)) too spells) answers)
    where
      given : (says : ClientSays) → ClientOutputs (accepts_signature_by_challenge state) says turns.Mechanisms answer
          → ProfileGives hostname state event (Ok (frames.Mechanisms names)) says next → Says state next
      given says outputs (inl (allocates, lacks, same)) =
          absurd (subst (λ (s : ClientSays). ClientOutputs (accepts_signature_by_challenge state) s turns.Mechanisms answer)
          lacks outputs)
      given says outputs (inr (reply, moved, machine, replies)) = record {
        reply = reply;
        moved = moved;
        says = says;
        machine = machine;
        replies = replies;
        outputs = outputs;
      }

      go : AnswersTo (AsksProfile hostname turns.Mechanisms state event) turns.Mechanisms state (Ok (frames.Mechanisms names))
          answer next → Says state next
      go (inl (out, closed, same)) = absurd (out tt)
      go (inr (in_turn, (says, (other, spelt, gives), outputs))) = given says outputs
          (subst (λ (s : Result SaslFrame Error). ProfileGives hostname state event s says next)
          (one_spelling event.body other (Ok (frames.Mechanisms names)) spelt spells) gives)

  -- two clients that answer by the init of one profile
  module _ (profile state other : Profile) (is : IsFor state names profile) (too : IsFor other names profile)
      (signs : accepts_signature_by_challenge state ≡ accepts_signature_by_challenge other) (next : Profile)
      (replied : ClientReplies hostname turns.Mechanisms state event answer next) where
    abbrev init : SaslFrame
    init = init_of hostname event.nonce profile

    abbrev begun : Profile
    begun = after_init profile event.nonce

    converted : Alike hostname profile state other event answer next
    converted = go (canonical init) refl
      where
        so : Says state next
        so = says_so state next replied

        sends : Replies state begun (Ok init) so.says next
        sends = let both = one_offer_reply state hostname event.nonce names so.reply (Ok init) so.moved begun so.machine
            (offer_started state profile hostname event.nonce names is) in
            subst (λ (p : Profile). Replies state p (Ok init) so.says next) both.1
            (subst (λ (r : Result SaslFrame ProfileError). Replies state so.moved r so.says next) both.0 so.replies)

        other_sends : (end : Profile) → end ≡ carried other (λ _. begun) (canonical init)
            → ClientReplies hostname turns.Mechanisms other event answer end
        other_sends end at = (
          Ok (frames.Mechanisms names),
          spells,
          inr (
            tt,
            (
              so.says,
              (
                Ok (frames.Mechanisms names),
                spells,
                inr (Ok init, begun, offer_started other profile hostname event.nonce names too, (sends.0, at)),
              ),
              subst (λ (b : Bool). ClientOutputs b so.says turns.Mechanisms answer) signs so.outputs,
            ),
          ),
        )

        go : (body : Option (List ℕ)) → canonical init ≡ body → Alike hostname profile state other event answer next
        go None none = (
          other,
          other_sends other (sym (ap (carried other (λ _. begun)) none)),
          inr (
            none,
            subst (λ (s : ClientSays). ClientOutputs (accepts_signature_by_challenge state) s turns.Mechanisms answer)
                (sends.0 ∙ ap (carried (Refused (FrameFault TooLarge)) (λ b. Started b)) none) so.outputs,
            sends.1 ∙ ap (carried state (λ _. begun)) none,
            refl,
          ),
        )
        go (Some body) some =
            let same : next ≡ begun = sends.1 ∙ ap (carried state (λ _. begun)) some in
            (next, other_sends next (same ∙ sym (ap (carried other (λ _. begun)) some)), inl (refl, same))

-- ---- a client by a policy

module _ (hostname : Option (List ℕ)) (selection : Selection) (event : Given) (answer : SideOutput) (next : Profile) where
  -- from these mechanisms it selects no profile, or one that has no init with this nonce
  abbrev pub SelectsNoneAt : List (List ℕ) → CloseReason → Type 0
  SelectsNoneAt names why = (NoneIsSelected selection names × (why ≡ ProfileRefused NotImplemented))
      ⊎ ((profile : Profile) × IsSelected selection names profile
      × (canonical (init_of hostname event.nonce profile) ≡ None) × (why ≡ ProfileRefused (FrameFault TooLarge)))

  -- it selects no profile that has an init, and closes
  abbrev pub Silent : Type 0
  Silent = (why : CloseReason) × (answer ≡ closes why (Frame turns.Mechanisms)) × (next ≡ PolicyProfile selection)
      × (((spelled : Result SaslFrame Error) × SpellsBody event.body spelled × Unanswered turns.Mechanisms spelled why)
      ⊎ ((names : List (List ℕ)) × SpellsBody event.body (Ok (frames.Mechanisms names)) × SelectsNoneAt names why))

  -- or it answers like the profile that it selects
  pub record Selects : Type 0 where
    pub names : List (List ℕ)
    pub profile : Profile
    pub spells : SpellsBody event.body (Ok (frames.Mechanisms names))
    pub selected : IsSelected selection names profile
    pub replies : ClientReplies hostname turns.Mechanisms profile event answer next
    pub begun : next ≡ after_init profile event.nonce

  pub policy_replies : ClientReplies hostname turns.Mechanisms (PolicyProfile selection) event answer next
      → Silent ⊎ Selects
  policy_replies (Err fault, spells, (closed, same)) =
      inl (MalformedFrame fault, closed, same, inl (Err fault, spells, refl))
  policy_replies (Ok frame, spells, inl (out, closed, same)) =
      inl (UnexpectedFrame, closed, same, inl (Ok frame, spells, (out, refl)))
  policy_replies (Ok (frames.Init mechanism response host), spells, inr (in_turn, asks)) = absurd in_turn
  policy_replies (Ok (frames.Challenge text), spells, inr (in_turn, asks)) = absurd in_turn
  policy_replies (Ok (frames.Response text), spells, inr (in_turn, asks)) = absurd in_turn
  policy_replies (Ok (frames.Outcome code more), spells, inr (in_turn, asks)) = absurd in_turn
  policy_replies (Ok (frames.Mechanisms names), spells, inr answers) = go so.machine
    where
      replied : ClientReplies hostname turns.Mechanisms (PolicyProfile selection) event answer next
      replied = (Ok (frames.Mechanisms names), spells, inr answers)

      so : Says hostname names event spells answer (PolicyProfile selection) next
      so = says_so hostname names event spells answer (PolicyProfile selection) next replied

      go : OfferAnswers (PolicyProfile selection) hostname event.nonce names so.reply so.moved → Silent ⊎ Selects
      go (inr (none, is, kept)) =
          let says = subst (λ (r : Result SaslFrame ProfileError).
          Replies (PolicyProfile selection) so.moved r so.says next) is so.replies in
          inl (
            ProfileRefused NotImplemented,
            subst (λ (s : ClientSays). ClientOutputs false s turns.Mechanisms answer) says.0 so.outputs,
            says.1 ∙ kept,
            inr (names, spells, inl (none, refl)),
          )
      go (inl (profile, selected, is, moves)) =
          by (converted hostname names event spells answer profile (PolicyProfile selection) profile selected
          (selected_is_for selection names profile selected) (sym (selected_ordinary selection names profile selected).1) next
          replied)
        where
          by : Alike hostname profile (PolicyProfile selection) profile event answer next → Silent ⊎ Selects
          by (end, replies, inl (same, begun)) = inr (record {
            names = names;
            profile = profile;
            spells = spells;
            selected = selected;
            replies = subst (λ (p : Profile). ClientReplies hostname turns.Mechanisms profile event answer p) same replies;
            begun = begun;
          })
          by (end, replies, inr (none, closed, kept, same)) = inl (
            ProfileRefused (FrameFault TooLarge),
            closed,
            kept,
            inr (names, spells, inr (profile, selected, none, refl)),
          )

-- ---- both

abbrev pub AnswersAlike : Option (List ℕ) → Profile → List ℕ → Profile → Profile → Type 0
AnswersAlike hostname profile body state other = (nonce : List ℕ) (answer : SideOutput) (next : Profile)
    → ClientReplies hostname turns.Mechanisms state (record { body = body; nonce = nonce }) answer next
    → Alike hostname profile state other (record { body = body; nonce = nonce }) answer next

module _ (hostname : Option (List ℕ)) (selection : Selection) (names : List (List ℕ)) (profile : Profile) (body : List ℕ)
    (spells : SpellsBody body (Ok (frames.Mechanisms names))) (selected : IsSelected selection names profile) where
  -- a client by the policy and one of the profile that it selects
  pub policy_like_profile : AnswersAlike hostname profile body (PolicyProfile selection) profile
  policy_like_profile nonce answer next replies = converted hostname names (record { body = body; nonce = nonce }) spells
      answer profile (PolicyProfile selection) profile selected (selected_is_for selection names profile selected)
      (sym (selected_ordinary selection names profile selected).1) next replies

  pub profile_like_policy : AnswersAlike hostname profile body profile (PolicyProfile selection)
  profile_like_policy nonce answer next replies = converted hostname names (record { body = body; nonce = nonce }) spells
      answer profile profile (PolicyProfile selection) (selected_is_for selection names profile selected) selected
      (selected_ordinary selection names profile selected).1 next replies
