-- A run of a SCRAM profile with the keys of a password, in which they are always of the salt and the count that the
-- server names, is a run of the profile with that password.
use Rattle.std.proofs.Common.{◌≡◌, ◌≢◌, ℕ, suc, Bool, true, false, Option, Some, None, List, [], ◌∷◌, refl, ap, ◌∙◌, subst, inl, inr, Result, Ok, Err}
use Rattle.std.specs.Prelude.{slice_get, ◌&&◌}
use Rattle.fe2o3_sasl_wire.specs.declared.amqp_types.SaslCode.TheVariants as outcomes
use Rattle.fe2o3_sasl_wire.specs.declared.sasl_frames.error.Error.{Error}
use Rattle.fe2o3_sasl_wire.specs.SaslFrames.{canonical, SaslFrame}
use Rattle.fe2o3_sasl_wire.specs.SaslFrames as frames
use Rattle.fe2o3_scram.specs.declared.scram_messages.client_channel.ClientChannel.{ClientChannel}
use Rattle.fe2o3_scram.specs.declared.client_secret.IterationLimits.{IterationLimits}
use Rattle.fe2o3_scram.specs.declared.hmac.ScramVersion.{ScramVersion}
use Rattle.fe2o3_scram.specs.declared.scram_messages.error.ScramErrorKind.{ScramErrorKind}
use Rattle.fe2o3_scram.specs.declared.scram_messages.error.ScramErrorKind.TheVariants as kinds
use Rattle.fe2o3_scram.specs.ClientFinal.{Answer}
use Rattle.fe2o3_scram.specs.ClientKeys.{ClientKeys}
use Rattle.fe2o3_scram.specs.ClientSecret.{Secret, Password, Keys}
use Rattle.fe2o3_scram.specs.Laws.{AreKeysOf}
use Rattle.fe2o3_scram.specs.Passwords.{PasswordText, IsNormal, password_bytes}
use Rattle.fe2o3_scram.specs.ScramClient.{ClientSide, ClientState, ClientInitial, ClientFirstSent, ClientFinalSent, SignatureVerified, Complete, AnswersIn, ChecksSignatureIn, ConcludesIn, VerifiesIn, is_unsigned, started}
use Rattle.fe2o3_scram.proofs.lemmas.messages.KeptKeyLemmas.{keys_stand}
use Rattle.fe2o3_sasl_core.specs.Events.{Given, Login, ClientSays, Refused}
use Rattle.fe2o3_sasl_core.specs.Laws.{KeysFit, KeyedRunsAreRuns, KeyedRunsAreHistories}
use Rattle.fe2o3_sasl_core.specs.Profiles.{Profile, ScramProfile}
use Rattle.fe2o3_sasl_core.specs.ProfileMachine.{ChallengeReplies, StepAllocates, client_frame, profile_machine}
use Rattle.fe2o3_sasl_core.specs.Runs.{ProfileGives, ProfileReplies, ProfileSteps, Replies, Runs, SendsCanonical}
use Rattle.fe2o3_sasl_core.specs.Bodies.{SpellsBody}
use Rattle.fe2o3_sasl_core.proofs.lemmas.machines.ClientMachineLemmas.{profile_runs_are_histories}
use Rattle.fe2o3_sasl_core.specs.declared.sasl_profile.error.ProfileError.{ProfileError}
use Rattle.fe2o3_sasl_core.specs.declared.sasl_profile.error.ProfileError.TheVariants.{StaleKeys}

module _ (user : List ℕ) (limits : IterationLimits) (channel : ClientChannel) (acts_for : Option (List ℕ))
    (strict accept : Bool) (keys : ClientKeys)
    (password : PasswordText) (normal : IsNormal password) (are : AreKeysOf keys (password_bytes password)) where
  -- the client with this secret, and the two profiles
  abbrev side : Secret → ClientState → ClientSide
  side secret state = record {
    user = user;
    secret = secret;
    version = keys.version;
    limits = limits;
    channel = channel;
    acts_for = acts_for;
    strict = strict;
    signature_by_challenge = accept;
    state = state;
  }

  abbrev keyed : ClientState → Profile
  keyed state = ScramProfile (side (Keys keys) state)

  abbrev twin : ClientState → Profile
  twin state = ScramProfile (side (Password password) state)

  -- the profile with the keys ends in a state of which this holds
  abbrev EndsIn : Profile → (ClientState → Type 0) → Type 0
  EndsIn next Does = (after : ClientState) × (next ≡ keyed after) × Does after

  -- ---- one frame

  abbrev AnswersAlike : ClientState → ClientState → List ℕ → Result (List ℕ) ScramErrorKind → ClientSide → Type 0
  AnswersAlike state own text answer next = (after : ClientState) × (next ≡ side (Keys keys) after)
      × AnswersIn state (side (Password password) own) text answer (side (Password password) after)

  answer_alike : (state own : ClientState) (text : List ℕ) (answer : Result (List ℕ) ScramErrorKind)
      (next : ClientSide) → answer ≢ Err kinds.StaleKeys → AnswersIn state (side (Keys keys) own) text answer next
      → AnswersAlike state own text answer next
  answer_alike (ClientFirstSent nonce bare) own text (Ok message) next fit is = (
    ClientFinalSent is.0.signature (Some is.0.keys),
    is.3,
    (
      is.0,
      keys_stand keys password nonce bare text limits (record {
        channel = channel;
        acts_for = acts_for;
      }) strict (Ok is.0) normal are (λ e. cc) is.1,
      is.2,
      refl,
    ),
  )
  answer_alike (ClientFirstSent nonce bare) own text (Err fault) next fit is = (
    own,
    is.1,
    (
      keys_stand keys password nonce bare text limits (record {
        channel = channel;
        acts_for = acts_for;
      }) strict (Err fault) normal are other is.0,
      refl,
    ),
  )
    where
      same_fault : ◌≡◌ {A = Result Answer ScramErrorKind} (Err fault) (Err kinds.StaleKeys) → fault ≡ kinds.StaleKeys
      same_fault e = cc

      other : ◌≢◌ {A = Result Answer ScramErrorKind} (Err fault) (Err kinds.StaleKeys)
      other e = fit (ap (λ (kind : ScramErrorKind). Err kind) (same_fault e))
  answer_alike ClientInitial own text (Ok message) next fit none = absurd none
  answer_alike ClientInitial own text (Err fault) next fit is = (own, is.1, (is.0, refl))
  answer_alike (ClientFinalSent signature kept) own text (Ok message) next fit none = absurd none
  answer_alike (ClientFinalSent signature kept) own text (Err fault) next fit is = (own, is.1, (is.0, refl))
  answer_alike (SignatureVerified kept) own text (Ok message) next fit none = absurd none
  answer_alike (SignatureVerified kept) own text (Err fault) next fit is = (own, is.1, (is.0, refl))
  answer_alike (Complete kept) own text (Ok message) next fit none = absurd none
  answer_alike (Complete kept) own text (Err fault) next fit is = (own, is.1, (is.0, refl))

  abbrev VerifiesAlike : ClientState → ClientState → List ℕ → Result (Unit {0}) ScramErrorKind → ClientSide → Type 0
  VerifiesAlike state own text answer next = (after : ClientState) × (next ≡ side (Keys keys) after)
      × VerifiesIn state (side (Password password) own) text answer (side (Password password) after)

  verified_alike : (state own : ClientState) (text : List ℕ) (answer : Result (Unit {0}) ScramErrorKind)
      (next : ClientSide) → VerifiesIn state (side (Keys keys) own) text answer next
      → VerifiesAlike state own text answer next
  verified_alike (ClientFinalSent signature kept) own text (Ok verified) next is = (Complete kept, is.1, (is.0, refl))
  verified_alike (ClientFinalSent signature kept) own text (Err fault) next is = (own, is.1, (is.0, refl))
  verified_alike ClientInitial own text (Ok verified) next none = absurd none
  verified_alike ClientInitial own text (Err fault) next is = (own, is.1, (is.0, refl))
  verified_alike (ClientFirstSent nonce bare) own text (Ok verified) next none = absurd none
  verified_alike (ClientFirstSent nonce bare) own text (Err fault) next is = (own, is.1, (is.0, refl))
  verified_alike (SignatureVerified kept) own text (Ok verified) next none = absurd none
  verified_alike (SignatureVerified kept) own text (Err fault) next is = (own, is.1, (is.0, refl))
  verified_alike (Complete kept) own text (Ok verified) next none = absurd none
  verified_alike (Complete kept) own text (Err fault) next is = (own, is.1, (is.0, refl))

  abbrev ChecksAlike : ClientState → ClientState → List ℕ → Result (Unit {0}) ScramErrorKind → ClientSide → Type 0
  ChecksAlike state own text answer next = (after : ClientState) × (next ≡ side (Keys keys) after)
      × ChecksSignatureIn state (side (Password password) own) text answer (side (Password password) after)

  checked_alike : (state own : ClientState) (text : List ℕ) (answer : Result (Unit {0}) ScramErrorKind)
      (next : ClientSide) → ChecksSignatureIn state (side (Keys keys) own) text answer next
      → ChecksAlike state own text answer next
  checked_alike (ClientFinalSent signature kept) own text (Ok verified) next is =
      (SignatureVerified kept, is.1, (is.0, refl))
  checked_alike (ClientFinalSent signature kept) own text (Err fault) next is = (own, is.1, (is.0, refl))
  checked_alike ClientInitial own text (Ok verified) next none = absurd none
  checked_alike ClientInitial own text (Err fault) next is = (own, is.1, (is.0, refl))
  checked_alike (ClientFirstSent nonce bare) own text (Ok verified) next none = absurd none
  checked_alike (ClientFirstSent nonce bare) own text (Err fault) next is = (own, is.1, (is.0, refl))
  checked_alike (SignatureVerified kept) own text (Ok verified) next none = absurd none
  checked_alike (SignatureVerified kept) own text (Err fault) next is = (own, is.1, (is.0, refl))
  checked_alike (Complete kept) own text (Ok verified) next none = absurd none
  checked_alike (Complete kept) own text (Err fault) next is = (own, is.1, (is.0, refl))

  abbrev ConcludesAlike : ClientState → ClientState → Result (Unit {0}) ScramErrorKind → ClientSide → Type 0
  ConcludesAlike state own answer next = (after : ClientState) × (next ≡ side (Keys keys) after)
      × ConcludesIn state (side (Password password) own) answer (side (Password password) after)

  concluded_alike : (state own : ClientState) (answer : Result (Unit {0}) ScramErrorKind) (next : ClientSide)
      → ConcludesIn state (side (Keys keys) own) answer next → ConcludesAlike state own answer next
  concluded_alike (SignatureVerified kept) own (Ok verified) next is = (Complete kept, is, refl)
  concluded_alike (SignatureVerified kept) own (Err fault) next none = absurd none
  concluded_alike ClientInitial own (Ok verified) next none = absurd none
  concluded_alike ClientInitial own (Err fault) next is = (own, is.1, (is.0, refl))
  concluded_alike (ClientFirstSent nonce bare) own (Ok verified) next none = absurd none
  concluded_alike (ClientFirstSent nonce bare) own (Err fault) next is = (own, is.1, (is.0, refl))
  concluded_alike (ClientFinalSent signature kept) own (Ok verified) next none = absurd none
  concluded_alike (ClientFinalSent signature kept) own (Err fault) next is = (own, is.1, (is.0, refl))
  concluded_alike (Complete kept) own (Ok verified) next none = absurd none
  concluded_alike (Complete kept) own (Err fault) next is = (own, is.1, (is.0, refl))

  -- a challenge in UTF-8, which may be expected to be the signature
  challenge_alike : (expects : Bool) (state : ClientState) (text : List ℕ) (reply : Result SaslFrame ProfileError)
      (moved : Profile) → reply ≢ Err StaleKeys → ChallengeReplies expects (side (Keys keys) state) text reply moved
      → EndsIn moved (λ after. ChallengeReplies expects (side (Password password) state) text reply (twin after))
  challenge_alike false state text reply moved fit is =
      let fits : is.0 ≢ Err kinds.StaleKeys = λ same. fit (is.3
      ∙ ap (λ (answer : Result (List ℕ) ScramErrorKind). client_frame (λ message. frames.Response message) answer) same)
      in
      let turn = answer_alike state state text is.0 is.1 fits is.2 in (
        turn.0,
        is.4 ∙ ap (λ (s : ClientSide). ScramProfile s) turn.1,
        (is.0, side (Password password) turn.0, turn.2, is.3, refl),
      )
  challenge_alike true state text reply moved fit is =
      let turn = checked_alike state state text is.0 is.1 is.2 in (
        turn.0,
        is.4 ∙ ap (λ (s : ClientSide). ScramProfile s) turn.1,
        (is.0, side (Password password) turn.0, turn.2, is.3, refl),
      )

  machine_alike : (state : ClientState) (hostname : Option (List ℕ)) (nonce : List ℕ) (frame : SaslFrame)
      (reply : Result SaslFrame ProfileError) (moved : Profile) → reply ≢ Err StaleKeys
      → profile_machine (keyed state) hostname nonce frame reply moved
      → EndsIn moved (λ after. profile_machine (twin state) hostname nonce frame reply (twin after))
  machine_alike state hostname nonce (frames.Mechanisms names) reply moved fit (inl is) =
      ((started (side (Keys keys) state) nonce).state, is.2, inl (is.0, is.1, refl))
  machine_alike state hostname nonce (frames.Mechanisms names) reply moved fit (inr is) =
      (state, is.2, inr (is.0, is.1, refl))
  machine_alike state hostname nonce (frames.Challenge text) reply moved fit (inl is) =
      (state, is.2, inl (is.0, is.1, refl))
  machine_alike state hostname nonce (frames.Challenge text) reply moved fit (inr is) =
      let turn = challenge_alike (accept && is_unsigned state) state text reply moved fit is.1 in
      (turn.0, turn.1, inr (is.0, turn.2))
  machine_alike state hostname nonce (frames.Outcome outcomes.Ok None) reply moved fit is =
      let turn = concluded_alike state state is.0 is.1 is.2 in (
        turn.0,
        is.4 ∙ ap (λ (s : ClientSide). ScramProfile s) turn.1,
        (is.0, side (Password password) turn.0, turn.2, is.3, refl),
      )
  machine_alike state hostname nonce (frames.Outcome outcomes.Ok (Some text)) reply moved fit is =
      let turn = verified_alike state state text is.0 is.1 is.2 in (
        turn.0,
        is.4 ∙ ap (λ (s : ClientSide). ScramProfile s) turn.1,
        (is.0, side (Password password) turn.0, turn.2, is.3, refl),
      )
  machine_alike state hostname nonce (frames.Outcome code more) reply moved fit is = (state, is.1, (is.0, refl))
  machine_alike state hostname nonce frame reply moved fit is = (state, is.1, (is.0, refl))

  -- where memory may run out is the same
  allocates_alike : (state : ClientState) (frame : SaslFrame) → StepAllocates (keyed state) frame
      → StepAllocates (twin state) frame
  allocates_alike state (frames.Mechanisms names) has = has
  allocates_alike state (frames.Challenge text) has = has
  allocates_alike state (frames.Outcome outcomes.Ok (Some text)) has = has
  allocates_alike state (frames.Outcome code (Some text)) has = has
  allocates_alike state frame has = absurd has

  -- ---- what is said

  -- a frame in its body
  sent_alike : (state after : ClientState) (moved next : Profile) (too_large says : ClientSays)
      (carry : List ℕ → ClientSays) (body : Option (List ℕ)) → moved ≡ keyed after
      → SendsCanonical too_large carry body (keyed state) moved says next
      → EndsIn next (λ last. SendsCanonical too_large carry body (twin state) (twin after) says (twin last))
  sent_alike state after moved next too_large says carry None m is = (state, is.1, (is.0, refl))
  sent_alike state after moved next too_large says carry (Some body) m is = (after, is.1 ∙ m, (is.0, refl))

  says_alike : (state after : ClientState) (moved next : Profile) (reply : Result SaslFrame ProfileError)
      (says : ClientSays) → moved ≡ keyed after → Replies (keyed state) moved reply says next
      → EndsIn next (λ last. Replies (twin state) (twin after) reply says (twin last))
  says_alike state after moved next (Err fault) says m is = (after, is.1 ∙ m, (is.0, refl))
  says_alike state after moved next (Ok (frames.Init mechanism response hostname)) says m is =
      sent_alike state after moved next _ says _ (canonical (frames.Init mechanism response hostname)) m is
  says_alike state after moved next (Ok (frames.Outcome code more)) says m is = (after, is.1 ∙ m, (is.0, refl))
  says_alike state after moved next (Ok (frames.Mechanisms names)) says m is =
      sent_alike state after moved next _ says _ (canonical (frames.Mechanisms names)) m is
  says_alike state after moved next (Ok (frames.Challenge text)) says m is =
      sent_alike state after moved next _ says _ (canonical (frames.Challenge text)) m is
  says_alike state after moved next (Ok (frames.Response text)) says m is =
      sent_alike state after moved next _ says _ (canonical (frames.Response text)) m is

  -- a rejection for stale keys is returned
  fits : (state : ClientState) (moved next : Profile) (reply : Result SaslFrame ProfileError) (says : ClientSays)
      → says ≢ Refused StaleKeys → Replies (keyed state) moved reply says next → reply ≢ Err StaleKeys
  fits state moved next reply says other is same =
      other (subst (λ (r : Result SaslFrame ProfileError). Replies (keyed state) moved r says next) same is).0

  -- ---- one event, and all

  replied_alike : (state : ClientState) (hostname : Option (List ℕ)) (nonce : List ℕ) (frame : SaslFrame)
      (says : ClientSays) (next : Profile) → says ≢ Refused StaleKeys
      → ProfileReplies hostname (keyed state) nonce frame says next
      → EndsIn next (λ after. ProfileReplies hostname (twin state) nonce frame says (twin after))
  replied_alike state hostname nonce frame says next other (inl is) =
      (state, is.2, inl (allocates_alike state frame is.0, is.1, refl))
  replied_alike state hostname nonce frame says next other (inr is) =
      let machine = machine_alike state hostname nonce frame is.0 is.1 (fits state is.1 next is.0 says other is.3) is.2
      in
      let said = says_alike state machine.0 is.1 next is.0 says machine.1 is.3 in
      (said.0, said.1, inr (is.0, twin machine.0, machine.2, said.2))

  step_alike : (state : ClientState) (hostname : Option (List ℕ)) (event : Given) (says : ClientSays)
      (next : Profile) (spelled : Result SaslFrame Error) → says ≢ Refused StaleKeys → SpellsBody event.body spelled
      → ProfileGives hostname (keyed state) event spelled says next
      → EndsIn next (λ after. ProfileSteps hostname (twin state) event says (twin after))
  step_alike state hostname event says next (Err fault) other spells is =
      (state, is.1, (Err fault, spells, (is.0, refl)))
  step_alike state hostname event says next (Ok frame) other spells is =
      let replied = replied_alike state hostname event.nonce frame says next other is in
      (replied.0, replied.1, (Ok frame, spells, replied.2))

  runs_alike : (state : ClientState) (hostname : Option (List ℕ)) (events : List Given) (replies : List ClientSays)
      (last : Profile) → Runs (ProfileSteps hostname) (keyed state) events replies last → KeysFit replies
      → (after : Profile) × Runs (ProfileSteps hostname) (twin state) events replies after
  runs_alike state hostname [] replies last run fit = (twin state, (run.0, refl))
  runs_alike state hostname (event ∷ events) replies last run fit =
      let says = run.0 in
      let others = run.2 in
      let here : says ≢ Refused StaleKeys = λ same. fit 0 (ap (λ (r : List ClientSays). slice_get r 0) run.4
      ∙ ap (λ (s : ClientSays). Some s) same) in
      let there : KeysFit others = λ k at. fit (suc k) (ap (λ (r : List ClientSays). slice_get r (suc k)) run.4 ∙ at)
      in
      let step = step_alike state hostname event says run.1 run.3.0 here run.3.1 run.3.2 in
      let rest = runs_alike step.0 hostname events others last
      (subst (λ (p : Profile). Runs (ProfileSteps hostname) p events others last) step.1 run.5) there in
      (rest.0, (says, twin step.0, others, step.2, run.4, rest.1))

-- the profile of a login with another version and another secret
abbrev profile_by : Login → ScramVersion → Secret → Profile
profile_by login version secret = ScramProfile (record {
  user = login.user;
  secret = secret;
  version = version;
  limits = login.limits;
  channel = login.channel;
  acts_for = login.acts_for;
  strict = login.strict;
  signature_by_challenge = login.signature_by_challenge;
  state = ClientInitial;
})

pub keyed_runs_are_runs : KeyedRunsAreRuns
keyed_runs_are_runs login keys password events replies last same normal are run fit = subst
    (λ (version : ScramVersion). Runs (ProfileSteps login.hostname) (profile_by login version (Keys keys)) events
    replies last → (after : Profile)
    × Runs (ProfileSteps login.hostname) (profile_by login version (Password password)) events replies after)
    same
    (λ here. runs_alike login.user login.limits login.channel login.acts_for login.strict login.signature_by_challenge
    keys password normal are
    ClientInitial login.hostname events replies last here fit) run

pub keyed_runs_are_histories : KeyedRunsAreHistories
keyed_runs_are_histories login keys password events replies last same normal are run fit =
    let twins = keyed_runs_are_runs login keys password events replies last same normal are run fit in
    profile_runs_are_histories (record login { secret = Password password }) events replies twins.0 twins.1
