-- A client by a policy sends no init of a mechanism that its policy does not allow, or that is not offered.
use Rattle.std.proofs.Common.{◌≡◌, ◌≢◌, ℕ, false, Option, Some, None, List, [], ◌++◌, drop, take, refl, ◌∙◌, ap, subst, inl, inr, Result, Ok, Err}
use Rattle.fe2o3_sasl_wire.specs.SaslFrames as frames
use Rattle.fe2o3_sasl_wire.specs.SaslFrames.{SaslFrame, canonical}
use Rattle.fe2o3_sasl_wire.specs.declared.sasl_frames.error.Error.{Error}
use Rattle.fe2o3_sasl_wire.specs.declared.sasl_frames.error.Error.TheVariants as faults
use Rattle.fe2o3_sasl_core.specs.Bodies.{SpellsBody, carried}
use Rattle.fe2o3_sasl_core.specs.Events.{ClientSays, Given, Refused, Started}
use Rattle.fe2o3_sasl_core.specs.ProfileMachine.{IsSelected, profile_machine}
use Rattle.fe2o3_sasl_core.specs.Profiles.{PolicyProfile, Profile, Selection, initial_response, profile_name}
use Rattle.fe2o3_sasl_core.specs.Runs.{ProfileGives, Replies}
use Rattle.fe2o3_sasl_core.specs.declared.sasl_profile.error.ProfileError.{ProfileError}
use Rattle.fe2o3_sasl_core.specs.declared.sasl_profile.error.ProfileError.TheVariants.{Frame as FrameFault, NotImplemented}
use Rattle.fe2o3_sasl_core.proofs.lemmas.frames.SpellingLemmas.{one_spelling}
use Rattle.fe2o3_sasl_negotiation.specs.ClientNegotiation.{AsksProfile, ClientOutputs, ClientSideAnswers}
use Rattle.fe2o3_sasl_negotiation.specs.Framing.{framed, size_of, unit_size, IsWhole}
use Rattle.fe2o3_sasl_negotiation.specs.Negotiations.{IsInTurn, ReceivesAt, Side, SideOutput, Sends}
use Rattle.fe2o3_sasl_negotiation.specs.PolicyLaws.{NothingBelowPolicy, SendsAllowed}
use Rattle.fe2o3_sasl_negotiation.specs.declared.progress.Expected.{Expected}
use Rattle.fe2o3_sasl_negotiation.specs.declared.progress.Expected.TheVariants.{Header, Frame}
use Rattle.fe2o3_sasl_negotiation.specs.declared.progress.FrameKind.{FrameKind}
use Rattle.fe2o3_sasl_negotiation.specs.declared.progress.FrameKind.TheVariants as turns
use Rattle.fe2o3_sasl_negotiation.specs.declared.progress.Progress.{Progress}
use Rattle.fe2o3_sasl_negotiation.specs.declared.progress.Progress.TheVariants.{Authenticated, Failed, InProgress}
use Rattle.fe2o3_sasl_negotiation.proofs.lemmas.PolicyLawLemmas.{sent_is}
use Rattle.fe2o3_sasl_negotiation.proofs.lemmas.SelectedProfileLemmas.{acting_name, selected_name}

-- ---- the init that is sent

-- an init of this mechanism, in a frame
abbrev SendsInit : List ℕ → Option (List ℕ) → SideOutput → Type 0
SendsInit name hostname answer = (response : Option (List ℕ)) × (init : List ℕ)
    × (canonical (frames.Init name response hostname) ≡ Some init) × (answer.sent ≡ framed init)

-- an init of a selected profile
abbrev SendsSelected : Selection → List (List ℕ) → Option (List ℕ) → SideOutput → Type 0
SendsSelected selection names hostname answer = (chosen : Profile) × IsSelected selection names chosen
    × SendsInit (profile_name chosen) hostname answer

module _ (hostname : Option (List ℕ)) (selection : Selection) (next : Profile) (turn : FrameKind) (event : Given)
    (names : List (List ℕ)) (answer : SideOutput) (some : answer.sent ≡ [] → ⊥) (is_turn : turn ≡ turns.Mechanisms)
    (spells : SpellsBody event.body (Ok (frames.Mechanisms names))) where
  abbrev Outputs : ClientSays → Type 0
  Outputs says = ClientOutputs false says turns.Mechanisms answer

  sends : (chosen : Profile) (init : List ℕ)
      → canonical (frames.Init (profile_name chosen) (initial_response chosen event.nonce) hostname) ≡ Some init
      → Sends init InProgress (Frame turns.Challenge) answer → SendsInit (profile_name chosen) hostname answer
  sends chosen init is (inl (fits, same)) = (initial_response chosen event.nonce, init, is, sent_is answer _ same)
  sends chosen init is (inr (long, same)) = absurd (some (sent_is answer _ same))

  carries : (chosen : Profile) (body : Option (List ℕ)) (says : ClientSays)
      → canonical (frames.Init (profile_name chosen) (initial_response chosen event.nonce) hostname) ≡ body
      → says ≡ carried (Refused (FrameFault faults.TooLarge)) (λ b. Started b) body → Outputs says
      → SendsInit (profile_name chosen) hostname answer
  carries chosen None says written is outputs = absurd (some (sent_is answer _ (subst Outputs is outputs)))
  carries chosen (Some init) says written is outputs = sends chosen init written (subst Outputs is outputs)

  gives : (says : ClientSays) → ProfileGives hostname (PolicyProfile selection) event (Ok (frames.Mechanisms names)) says next
      → Outputs says → SendsSelected selection names hostname answer
  gives says (inl (allocates, is, same)) outputs = absurd (subst Outputs is outputs)
  gives says (inr (reply, moved, inl (chosen, selected, is, after), replies)) outputs = (
    chosen,
    selected,
    carries chosen _ says refl (subst (λ (r : Result SaslFrame ProfileError).
        Replies (PolicyProfile selection) moved r says next) is replies).0 outputs,
  )
  gives says (inr (reply, moved, inr (none, is, after), replies)) outputs =
      absurd (some (sent_is answer _ (subst Outputs (subst (λ (r : Result SaslFrame ProfileError).
      Replies (PolicyProfile selection) moved r says next) is replies).0 outputs)))

  init_sent : AsksProfile hostname turn (PolicyProfile selection) event answer next
      → SendsSelected selection names hostname answer
  init_sent (says, (spelled, spelt, step), outputs) =
      gives says (subst (λ (s : Result SaslFrame Error). ProfileGives hostname (PolicyProfile selection) event s says next)
      (one_spelling event.body spelled (Ok (frames.Mechanisms names)) spelt spells) step)
      (subst (λ (t : FrameKind). ClientOutputs false says t answer) is_turn outputs)

-- ---- what a call sends

-- a list of mechanisms is in turn only where one is expected
list_in_turn : (turn : FrameKind) (names : List (List ℕ)) → IsInTurn turn (frames.Mechanisms names) → turn ≡ turns.Mechanisms
list_in_turn turns.Mechanisms names in_turn = refl
list_in_turn turns.Init names in_turn = absurd in_turn
list_in_turn turns.Challenge names in_turn = absurd in_turn
list_in_turn turns.Response names in_turn = absurd in_turn
list_in_turn turns.Outcome names in_turn = absurd in_turn
list_in_turn turns.SignatureChallenge names in_turn = absurd in_turn

module _ (hostname : Option (List ℕ)) (selection : Selection) (side next : Side Profile) (bytes nonce sent : List ℕ)
    (taken : ℕ) (some : sent ≢ []) (going : side.progress ≡ InProgress) where
  abbrev body : List ℕ
  body = drop 4 (take (size_of (side.held ++ bytes)) (side.held ++ bytes))

  abbrev event : Given
  event = record { body = body; nonce = nonce }

  -- nothing is sent for a frame that is no list of mechanisms
  rejected : (turn : FrameKind) (answer : SideOutput) (state moved : Profile) (reply : Result SaslFrame ProfileError)
      (says : ClientSays) → reply ≡ Err NotImplemented → Replies (PolicyProfile selection) moved reply says state
      → ClientOutputs false says turn answer → answer.sent ≡ []
  rejected turn answer state moved reply says is replies outputs =
      sent_is answer _ (subst (λ (x : ClientSays). ClientOutputs false x turn answer)
      (subst (λ (r : Result SaslFrame ProfileError). Replies (PolicyProfile selection) moved r says state) is replies).0 outputs)

  silent : (turn : FrameKind) (answer : SideOutput) (state : Profile) (says : ClientSays) (frame : SaslFrame)
      → ((names : List (List ℕ)) → frame ≢ frames.Mechanisms names)
      → ProfileGives hostname (PolicyProfile selection) event (Ok frame) says state → ClientOutputs false says turn answer
      → answer.sent ≡ []
  silent turn answer state says frame other (inl (allocates, is, same)) outputs =
      absurd (subst (λ (x : ClientSays). ClientOutputs false x turn answer) is outputs)
  silent turn answer state says frame other (inr (reply, moved, made, replies)) outputs = go frame other made
    where
      go : (frame : SaslFrame) → ((names : List (List ℕ)) → frame ≢ frames.Mechanisms names)
          → profile_machine (PolicyProfile selection) hostname nonce frame reply moved → answer.sent ≡ []
      go (frames.Mechanisms names) other made = absurd (other names refl)
      go (frames.Init mechanism response host) other made =
          rejected turn answer state moved reply says made.0 replies outputs
      go (frames.Challenge text) other made = rejected turn answer state moved reply says made.0 replies outputs
      go (frames.Response text) other made = rejected turn answer state moved reply says made.0 replies outputs
      go (frames.Outcome code more) other made = rejected turn answer state moved reply says made.0 replies outputs

  apart : {A : Type 0} (turn : FrameKind) (answer : SideOutput) (state : Profile) → sent ≡ answer.sent
      → (frame : SaslFrame) → ((names : List (List ℕ)) → frame ≢ frames.Mechanisms names) → SpellsBody body (Ok frame)
      → AsksProfile hostname turn (PolicyProfile selection) event answer state → A
  apart turn answer state same frame other spells (says, (spelled, spelt, step), outputs) = absurd (some (same
      ∙ silent turn answer state says frame other
      (subst (λ (s : Result SaslFrame Error). ProfileGives hostname (PolicyProfile selection) event s says state)
      (one_spelling body spelled (Ok frame) spelt spells) step) outputs))

  -- an answer to a frame is an init for a list of mechanisms
  by_list : (turn : FrameKind) → side.expected ≡ Frame turn → IsWhole (Frame turn) side.limit (side.held ++ bytes)
      → (answer : SideOutput) (state : Profile) → sent ≡ answer.sent → (names : List (List ℕ))
      → SpellsBody body (Ok (frames.Mechanisms names)) → IsInTurn turn (frames.Mechanisms names)
      → AsksProfile hostname turn (PolicyProfile selection) event answer state
      → SendsAllowed hostname selection side bytes sent
  by_list turn expects whole answer state same names spells in_turn asks =
      let is = list_in_turn turn names in_turn in
      let (chosen, selected, init) = init_sent hostname selection state turn event names answer
      (λ empty. some (same ∙ empty)) is spells asks in
      let (taken_one, (mechanism, first, is_by), acting) = selected in
      let named = acting_name selection.acts_for taken_one chosen acting
      ∙ selected_name selection.policy selection.user selection.secret mechanism taken_one first.2.0 is_by in
      record {
        body = body;
        names = names;
        mechanism = mechanism;
        response = init.0;
        init = init.1;
        completes = (
          going,
          expects ∙ ap (λ (t : FrameKind). Frame t) is,
          subst (λ (t : FrameKind). IsWhole (Frame t) side.limit (side.held ++ bytes)) is whole,
          refl,
        );
        spells = spells;
        allowed = first.2.0;
        offered = first.2.2;
        written = subst (λ (name : List ℕ). canonical (frames.Init name init.0 hostname) ≡ Some init.1) named init.2;
        sends = same ∙ init.3;
      }

  by_frame : (turn : FrameKind) → side.expected ≡ Frame turn → IsWhole (Frame turn) side.limit (side.held ++ bytes)
      → (answer : SideOutput) (state : Profile) → sent ≡ answer.sent → (frame : SaslFrame) → SpellsBody body (Ok frame)
      → IsInTurn turn frame → AsksProfile hostname turn (PolicyProfile selection) event answer state
      → SendsAllowed hostname selection side bytes sent
  by_frame turn expects whole answer state same (frames.Mechanisms names) spells in_turn asks =
      by_list turn expects whole answer state same names spells in_turn asks
  by_frame turn expects whole answer state same (frames.Init mechanism response host) spells in_turn asks =
      apart turn answer state same (frames.Init mechanism response host) (λ names is. absurd (cc)) spells asks
  by_frame turn expects whole answer state same (frames.Challenge text) spells in_turn asks =
      apart turn answer state same (frames.Challenge text) (λ names is. absurd (cc)) spells asks
  by_frame turn expects whole answer state same (frames.Response text) spells in_turn asks =
      apart turn answer state same (frames.Response text) (λ names is. absurd (cc)) spells asks
  by_frame turn expects whole answer state same (frames.Outcome code more) spells in_turn asks =
      apart turn answer state same (frames.Outcome code more) (λ names is. absurd (cc)) spells asks

  allowed_answer : (expected : Expected) → side.expected ≡ expected → IsWhole expected side.limit (side.held ++ bytes)
      → (answer : SideOutput) (state : Profile) → sent ≡ answer.sent
      → ClientSideAnswers hostname expected (PolicyProfile selection) nonce
      (take (unit_size expected (side.held ++ bytes)) (side.held ++ bytes)) answer state
      → SendsAllowed hostname selection side bytes sent
  allowed_answer Header expects whole answer state same (inl (other, is), kept) = absurd (some (same ∙ sent_is answer _ is))
  allowed_answer Header expects whole answer state same (inr (sasl, is), kept) = absurd (some (same ∙ sent_is answer _ is))
  allowed_answer (Frame turn) expects whole answer state same (Err fault, spells, (is, kept)) =
      absurd (some (same ∙ sent_is answer _ is))
  allowed_answer (Frame turn) expects whole answer state same (Ok frame, spells, inl (out, is, kept)) =
      absurd (some (same ∙ sent_is answer _ is))
  allowed_answer (Frame turn) expects whole answer state same (Ok frame, spells, inr (in_turn, asks)) =
      by_frame turn expects whole answer state same frame spells in_turn asks

allowed_at : (hostname : Option (List ℕ)) (selection : Selection) (side next : Side Profile) (bytes nonce sent : List ℕ)
    (taken : ℕ) (progress : Progress) → side.progress ≡ progress → side.state ≡ PolicyProfile selection
    → ReceivesAt progress (ClientSideAnswers hostname) side bytes nonce taken sent next → sent ≢ []
    → SendsAllowed hostname selection side bytes sent
allowed_at hostname selection side next bytes nonce sent taken InProgress going state (inl (part, (t, s, is))) some =
    absurd (some s)
allowed_at hostname selection side next bytes nonce sent taken InProgress going state (inr (inl (refused, (t, s, is)))) some =
    absurd (some s)
allowed_at hostname selection side next bytes nonce sent taken InProgress going state
    (inr (inr (answer, after, whole, answers, (t, s, is)))) some =
    allowed_answer hostname selection side next bytes nonce sent taken some going side.expected refl whole answer after s
    (subst (λ (p : Profile). ClientSideAnswers hostname side.expected p nonce
    (take (unit_size side.expected (side.held ++ bytes)) (side.held ++ bytes)) answer after) state answers)
allowed_at hostname selection side next bytes nonce sent taken Authenticated going state (t, s, is) some = absurd (some s)
allowed_at hostname selection side next bytes nonce sent taken (Failed why) going state (t, s, is) some = absurd (some s)

pub nothing_below_policy : NothingBelowPolicy
nothing_below_policy hostname selection side next bytes nonce sent taken state receives some =
    allowed_at hostname selection side next bytes nonce sent taken side.progress refl state receives some
