-- What a profile replies in a body, from what it answers and what was written.
use Rattle.std.proofs.Common.{◌≡◌, ℕ, Bool, true, false, Option, Some, List, refl, sym, ap, ◌∙◌, subst, inl, inr, Ok, Err, []}
use Rattle.fe2o3_sasl_wire.specs.declared.amqp_types.SaslCode.{SaslCode}
use Rattle.fe2o3_sasl_wire.specs.declared.amqp_types.SaslCode.TheVariants as outcomes
use Rattle.fe2o3_sasl_wire.specs.declared.sasl_frames.error.Error.{Error}
use Rattle.fe2o3_sasl_wire.specs.declared.sasl_frames.error.Error.TheVariants as faults
use Rattle.fe2o3_sasl_wire.specs.SaslFrames as frames
use Rattle.fe2o3_sasl_wire.specs.SaslFrames.{SaslFrame, canonical}
use Rattle.fe2o3_sasl_core.specs.Events.{Started, Answered, Reported, Refused}
use Rattle.fe2o3_sasl_core.specs.Runs.{ProfileReplies, SendsCanonical}
use Rattle.fe2o3_sasl_core.specs.Profiles.{Profile, ScramProfile, profile_name, initial_response, after_init, MessageProfile}
use Rattle.fe2o3_sasl_core.specs.ProfileMachine.{OfferAnswers, profile_machine, ChallengeAllocates, FrameAllocates, StepAllocates, IsStarted, IsChallengeDue, ProfileAnswers}
use Rattle.fe2o3_scram.specs.ScramClient as client_states
use Rattle.fe2o3_scram.specs.ScramClient.{ClientSide, ClientState, ReachesSaltIn, expects_signature}
use Rattle.fe2o3_sasl_core.specs.declared.sasl_profile.error.ProfileError.{ProfileError}
use Rattle.fe2o3_sasl_core.specs.declared.sasl_profile.error.ProfileError.TheVariants as profile_faults
use Rattle.fe2o3_sasl_core.specs.private.Writing.{IsFor, NoneIsFor, RefusesAlways, WritesBody}
use Rattle.fe2o3_sasl_core.proofs.lemmas.machines.OfferLemmas.{for_allocates, init_of, offer_refused, offer_started}
use Rattle.fe2o3_sasl_core.proofs.lemmas.steps.ProfileReplyLemmas.{waiting}
use Rattle.fe2o3_sasl_core.specs.declared.sasl_profile.error.ProfileError.TheVariants.{NotImplemented, Scram, StaleKeys, Frame, OutOfMemory}

-- a client that reaches the salt has been started
started : (state : ClientState) (text : List ℕ) → ReachesSaltIn state text → IsStarted state
started (client_states.ClientFirstSent nonce bare) text reaches = (nonce, bare, refl)
started state text reaches = absurd reaches

-- a challenge is expected where its answer allocates
due : (client : ClientSide) (text : List ℕ) (expects : Bool) → expects_signature client ≡ expects
    → ChallengeAllocates expects client text → IsChallengeDue client
due client text false is has = inl (started client.state text has)
due client text true is has = inr is

-- where a call asks for memory a step does
step_allocates : (profile : Profile) (frame : SaslFrame) → FrameAllocates profile frame → StepAllocates profile frame
step_allocates profile (frames.Mechanisms names) has = has
step_allocates (ScramProfile client) (frames.Challenge text) has = (has.0, due client text (expects_signature client) refl has.1)
step_allocates (MessageProfile mechanism message true) (frames.Challenge []) has = has
step_allocates (ScramProfile client) (frames.Outcome outcomes.Ok (Some text)) has = waiting client.state text has
step_allocates profile frame has = absurd has

-- an error of the profile is what it replies
pub refusal_replies : (hostname : Option (List ℕ)) (profile : Profile) (nonce : List ℕ) (frame : SaslFrame)
    (fault : ProfileError) (next : Profile)
    → ProfileAnswers FrameAllocates profile hostname nonce frame (Err fault) next
    → ProfileReplies hostname profile nonce frame (Refused fault) next
refusal_replies hostname profile nonce frame OutOfMemory next h = inl (step_allocates profile frame h.0, refl, h.1)
refusal_replies hostname profile nonce frame NotImplemented next h = inr (Err NotImplemented, next, h, (refl, refl))
refusal_replies hostname profile nonce frame (Scram kind) next h = inr (Err (Scram kind), next, h, (refl, refl))
refusal_replies hostname profile nonce frame StaleKeys next h = inr (Err StaleKeys, next, h, (refl, refl))
refusal_replies hostname profile nonce frame (Frame fault) next h = inr (Err (Frame fault), next, h, (refl, refl))

-- one on a copy leaves the profile
pub refused_on_copy : (hostname : Option (List ℕ)) (profile begun moved : Profile) (nonce : List ℕ) (frame : SaslFrame)
    (fault : ProfileError) → begun ≡ profile → moved ≡ begun
    → ProfileAnswers FrameAllocates begun hostname nonce frame (Err fault) moved
    → ProfileReplies hostname profile nonce frame (Refused fault) profile
refused_on_copy hostname profile begun moved nonce frame fault same kept h =
    refusal_replies hostname profile nonce frame fault profile
    (subst (λ (p : Profile). ProfileAnswers FrameAllocates p hostname nonce frame (Err fault) profile) same
    (subst (λ (p : Profile). ProfileAnswers FrameAllocates begun hostname nonce frame (Err fault) p)
    (kept ∙ same) h))

-- ---- outcomes

-- an outcome that is reported
pub reported : (hostname : Option (List ℕ)) (profile next : Profile) (nonce : List ℕ) (frame : SaslFrame)
    (code : SaslCode) (more : Option (List ℕ)) → frame ≡ frames.Outcome code more
    → ProfileAnswers FrameAllocates profile hostname nonce frame (Ok frame) next
    → ProfileReplies hostname profile nonce (frames.Outcome code more) (Reported code more) next
reported hostname profile next nonce frame code more is h =
    inr (
      Ok (frames.Outcome code more),
      next,
      subst (λ (f : SaslFrame). profile_machine profile hostname nonce f (Ok f) next) is h,
      (refl, refl),
    )

-- ---- starts

-- an answer to an offer
pub offer_answered : (profile begun moved : Profile) (hostname : Option (List ℕ)) (nonce : List ℕ) (names : List (List ℕ))
    (init : SaslFrame) → IsFor profile names begun
    → init ≡ frames.Init (profile_name begun) (initial_response begun nonce) hostname
    → moved ≡ after_init begun nonce
    → profile_machine profile hostname nonce (frames.Mechanisms names) (Ok init) moved
offer_answered profile begun moved hostname nonce names init for is after =
    subst (λ (p : Profile). OfferAnswers profile hostname nonce names (Ok init) p) (sym after)
    (subst (λ (f : SaslFrame). OfferAnswers profile hostname nonce names (Ok f) (after_init begun nonce)) (sym is)
    (offer_started profile begun hostname nonce names for))

-- an init that is written
pub started_ok : (hostname : Option (List ℕ)) (profile begun moved : Profile) (nonce : List ℕ) (names : List (List ℕ))
    (init : SaslFrame) (body : List ℕ) → IsFor profile names begun
    → init ≡ frames.Init (profile_name begun) (initial_response begun nonce) hostname
    → moved ≡ after_init begun nonce → canonical init ≡ Some body
    → ProfileReplies hostname profile nonce (frames.Mechanisms names) (Started body) moved
started_ok hostname profile begun moved nonce names init body for is after written =
    inr (
      Ok (init_of hostname nonce begun),
      after_init begun nonce,
      offer_started profile begun hostname nonce names for,
      subst (λ (b : Option (List ℕ)). SendsCanonical (Refused (Frame faults.TooLarge)) (λ b. Started b) b profile
          (after_init begun nonce) (Started body) moved) (sym (ap canonical (sym is) ∙ written)) (refl, after),
    )

-- an init that is not
pub started_err : {X : Type 0} (view : X → List ℕ) (hostname : Option (List ℕ)) (profile begun : Profile)
    (nonce : List ℕ) (names : List (List ℕ)) (init : SaslFrame) (fault : ProfileError) → IsFor profile names begun
    → init ≡ frames.Init (profile_name begun) (initial_response begun nonce) hostname
    → WritesBody view (canonical init) (Err fault)
    → ProfileReplies hostname profile nonce (frames.Mechanisms names) (Refused fault) profile
started_err view hostname profile begun nonce names init profile_faults.OutOfMemory for is w =
    inl (for_allocates profile begun names for, refl, refl)
started_err view hostname profile begun nonce names init (profile_faults.Frame fault) for is w =
    inr (
      Ok (init_of hostname nonce begun),
      after_init begun nonce,
      offer_started profile begun hostname nonce names for,
      subst (λ (b : Option (List ℕ)). SendsCanonical (Refused (Frame faults.TooLarge)) (λ b. Started b) b profile
          (after_init begun nonce) (Refused (Frame fault)) profile) (sym (ap canonical (sym is) ∙ w.1))
          (ap (λ (f : Error). Refused (Frame f)) w.0, refl),
    )
started_err view hostname profile begun nonce names init profile_faults.NotImplemented for is w = absurd w
started_err view hostname profile begun nonce names init (profile_faults.Scram kind) for is w = absurd w
started_err view hostname profile begun nonce names init profile_faults.StaleKeys for is w = absurd w

-- an offer that is not answered
pub unanswered : (hostname : Option (List ℕ)) (profile : Profile) (nonce : List ℕ) (names : List (List ℕ))
    → NoneIsFor profile names
    → ProfileReplies hostname profile nonce (frames.Mechanisms names) (Refused NotImplemented) profile
unanswered hostname profile nonce names none =
    inr (Err NotImplemented, profile, offer_refused profile hostname nonce names none, (refl, refl))

-- ---- answers

-- a frame that is rejected unread
pub refused_unread : (hostname : Option (List ℕ)) (profile : Profile) (nonce : List ℕ) (frame : SaslFrame)
    (fault : ProfileError) → RefusesAlways profile frame fault
    → ProfileReplies hostname profile nonce frame (Refused fault) profile
refused_unread hostname profile nonce frame fault refuses =
    inr (Err fault, profile, refuses hostname nonce, (refl, refl))

-- a response that is written
pub responded_ok : (hostname : Option (List ℕ)) (profile begun moved : Profile) (nonce text response body : List ℕ)
    → begun ≡ profile
    → ProfileAnswers FrameAllocates begun hostname nonce (frames.Challenge text) (Ok (frames.Response response)) moved
    → canonical (frames.Response response) ≡ Some body
    → ProfileReplies hostname profile nonce (frames.Challenge text) (Answered body) moved
responded_ok hostname profile begun moved nonce text response body same made written =
    inr (
      Ok (frames.Response response),
      moved,
      subst (λ (p : Profile). profile_machine p hostname nonce (frames.Challenge text)
          (Ok (frames.Response response)) moved) same made,
      subst (λ (b : Option (List ℕ)). SendsCanonical (Refused (Frame faults.TooLarge)) (λ b. Answered b) b profile moved
          (Answered body) moved) (sym written) (refl, refl),
    )

-- a response that is not
pub responded_err : {X : Type 0} (view : X → List ℕ) (hostname : Option (List ℕ)) (profile begun moved : Profile)
    (nonce text response : List ℕ) (fault : ProfileError) → begun ≡ profile
    → StepAllocates profile (frames.Challenge text)
    → ProfileAnswers FrameAllocates begun hostname nonce (frames.Challenge text) (Ok (frames.Response response)) moved
    → WritesBody view (canonical (frames.Response response)) (Err fault)
    → ProfileReplies hostname profile nonce (frames.Challenge text) (Refused fault) profile
responded_err view hostname profile begun moved nonce text response profile_faults.OutOfMemory same is made w =
    inl (is, refl, refl)
responded_err view hostname profile begun moved nonce text response (profile_faults.Frame fault) same is made w =
    inr (
      Ok (frames.Response response),
      moved,
      subst (λ (p : Profile). profile_machine p hostname nonce (frames.Challenge text)
          (Ok (frames.Response response)) moved) same made,
      subst (λ (b : Option (List ℕ)). SendsCanonical (Refused (Frame faults.TooLarge)) (λ b. Answered b) b profile moved
          (Refused (Frame fault)) profile) (sym w.1) (ap (λ (f : Error). Refused (Frame f)) w.0, refl),
    )
responded_err view hostname profile begun moved nonce text response profile_faults.NotImplemented same is made w =
    absurd w
responded_err view hostname profile begun moved nonce text response profile_faults.StaleKeys same is made w = absurd w
responded_err view hostname profile begun moved nonce text response (profile_faults.Scram kind) same is made w =
    absurd w
