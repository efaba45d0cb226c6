-- A profile that rejects is as it was, and so is an acceptor.
use Rattle.std.proofs.Common.{◌≡◌, ℕ, Bool, true, false, Option, Some, None, List, [], ap, ◌∙◌, inl, inr, Result, Ok, Err, ◌∷◌, sym}
use Rattle.fe2o3_sasl_wire.specs.declared.amqp_types.SaslCode.TheVariants as outcomes
use Rattle.fe2o3_sasl_wire.specs.declared.sasl_frames.error.Error.{Error}
use Rattle.fe2o3_sasl_wire.specs.declared.sasl_frames.error.Error.TheVariants as faults
use Rattle.fe2o3_sasl_wire.specs.SaslFrames.{canonical, SaslFrame}
use Rattle.fe2o3_sasl_wire.specs.SaslFrames as frames
use Rattle.fe2o3_scram.specs.declared.scram_messages.error.ScramErrorKind.{ScramErrorKind}
use Rattle.fe2o3_scram.specs.ScramClient.{ClientSide, ClientState, AnswersIn, ChecksSignatureIn, ConcludesIn, VerifiesIn, expects_signature}
use Rattle.fe2o3_scram.specs.ScramClient as client_states
use Rattle.fe2o3_sasl_core.specs.Events.{Given, Failed, ClientSays, Started, Answered, Refused}
use Rattle.fe2o3_sasl_core.specs.Bodies.{carried, server_says}
use Rattle.fe2o3_sasl_core.specs.Profiles.{Profile, ScramProfile, PlainProfile, AnonymousProfile, ExternalProfile, MessageProfile, PolicyProfile}
use Rattle.fe2o3_sasl_core.specs.ProfileMachine.{ChallengeReplies, client_frame, profile_machine}
use Rattle.fe2o3_sasl_core.proofs.lemmas.machines.OfferLemmas.{Viewed, offer_view}
use Rattle.fe2o3_sasl_core.specs.Runs.{SendsCanonical, AcceptorAnswers, AcceptorGives, AcceptorSteps, Replies, ProfileSteps}
use Rattle.fe2o3_sasl_core.specs.declared.sasl_profile.error.ProfileError.{ProfileError}
use Rattle.fe2o3_sasl_core.specs.declared.sasl_profile.error.ProfileError.TheVariants.{Frame}

answer_refused : (state : ClientState) (side after : ClientSide) (text : List ℕ) (kind : ScramErrorKind)
    → AnswersIn state side text (Err kind) after → after ≡ side
answer_refused client_states.ClientInitial side after text kind refused = refused.1
answer_refused (client_states.ClientFirstSent nonce bare) side after text kind refused = refused.1
answer_refused (client_states.ClientFinalSent signature keys) side after text kind refused = refused.1
answer_refused (client_states.SignatureVerified keys) side after text kind refused = refused.1
answer_refused (client_states.Complete keys) side after text kind refused = refused.1

signing_refused : (state : ClientState) (side after : ClientSide) (text : List ℕ) (kind : ScramErrorKind)
    → ChecksSignatureIn state side text (Err kind) after → after ≡ side
signing_refused client_states.ClientInitial side after text kind refused = refused.1
signing_refused (client_states.ClientFirstSent nonce bare) side after text kind refused = refused.1
signing_refused (client_states.ClientFinalSent signature keys) side after text kind refused = refused.1
signing_refused (client_states.SignatureVerified keys) side after text kind refused = refused.1
signing_refused (client_states.Complete keys) side after text kind refused = refused.1

conclusion_refused : (state : ClientState) (side after : ClientSide) (kind : ScramErrorKind)
    → ConcludesIn state side (Err kind) after → after ≡ side
conclusion_refused client_states.ClientInitial side after kind refused = refused.1
conclusion_refused (client_states.ClientFirstSent nonce bare) side after kind refused = refused.1
conclusion_refused (client_states.ClientFinalSent signature keys) side after kind refused = refused.1
conclusion_refused (client_states.SignatureVerified keys) side after kind refused = absurd refused
conclusion_refused (client_states.Complete keys) side after kind refused = refused.1

verification_refused : (state : ClientState) (side after : ClientSide) (text : List ℕ) (kind : ScramErrorKind)
    → VerifiesIn state side text (Err kind) after → after ≡ side
verification_refused client_states.ClientInitial side after text kind refused = refused.1
verification_refused (client_states.ClientFirstSent nonce bare) side after text kind refused = refused.1
verification_refused (client_states.ClientFinalSent signature keys) side after text kind refused = refused.1
verification_refused (client_states.SignatureVerified keys) side after text kind refused = refused.1
verification_refused (client_states.Complete keys) side after text kind refused = refused.1

machine_refused : (profile : Profile) (hostname : Option (List ℕ)) (nonce : List ℕ) (frame : SaslFrame)
    (reply : Result SaslFrame ProfileError) (fault : ProfileError) (moved : Profile) → reply ≡ Err fault
    → profile_machine profile hostname nonce frame reply moved → moved ≡ profile
machine_refused profile hostname nonce (frames.Mechanisms names) reply fault moved is m =
    go (offer_view profile hostname nonce names reply moved m)
  where
    go : Viewed profile hostname nonce names reply moved → moved ≡ profile
    go (inl (chosen, for, apart, moves)) = absurd (cc)
    go (inr none) = none.2
machine_refused (ScramProfile client) hostname nonce (frames.Challenge text) reply fault moved is (inl m) = m.2
machine_refused (ScramProfile client) hostname nonce (frames.Challenge text) reply fault moved is (inr m) =
    by (expects_signature client) m.1
  where
    go : (answer : Result (List ℕ) ScramErrorKind) (after : ClientSide) → AnswersIn client.state client text answer after
        → reply ≡ client_frame (λ message. frames.Response message) answer → moved ≡ ScramProfile after
        → moved ≡ ScramProfile client
    go (Ok message) after from apart to = absurd (cc)
    go (Err kind) after from same to =
        to ∙ ap (λ (c : ClientSide). ScramProfile c) (answer_refused client.state client after text kind from)

    signed : (answer : Result (Unit {0}) ScramErrorKind) (after : ClientSide)
        → ChecksSignatureIn client.state client text answer after
        → reply ≡ client_frame (λ verified. frames.Response []) answer → moved ≡ ScramProfile after
        → moved ≡ ScramProfile client
    signed (Ok verified) after from apart to = absurd (cc)
    signed (Err kind) after from same to =
        to ∙ ap (λ (c : ClientSide). ScramProfile c) (signing_refused client.state client after text kind from)

    by : (expects : Bool) → ChallengeReplies expects client text reply moved → moved ≡ ScramProfile client
    by false c = go c.0 c.1 c.2 c.3 c.4
    by true c = signed c.0 c.1 c.2 c.3 c.4
machine_refused (ScramProfile client) hostname nonce (frames.Outcome outcomes.Ok None) reply fault moved is m =
    go m.0 m.1 m.2 m.3 m.4
  where
    go : (answer : Result (Unit {0}) ScramErrorKind) (after : ClientSide) → ConcludesIn client.state client answer after
        → reply ≡ client_frame (λ verified. frames.Outcome outcomes.Ok None) answer → moved ≡ ScramProfile after
        → moved ≡ ScramProfile client
    go (Ok verified) after from apart to = absurd (cc)
    go (Err kind) after from same to =
        to ∙ ap (λ (c : ClientSide). ScramProfile c) (conclusion_refused client.state client after kind from)
machine_refused (ScramProfile client) hostname nonce (frames.Outcome outcomes.Ok (Some text)) reply fault moved is m =
    go m.0 m.1 m.2 m.3 m.4
  where
    go : (answer : Result (Unit {0}) ScramErrorKind) (after : ClientSide)
        → VerifiesIn client.state client text answer after
        → reply ≡ client_frame (λ verified. frames.Outcome outcomes.Ok (Some text)) answer
        → moved ≡ ScramProfile after → moved ≡ ScramProfile client
    go (Ok verified) after from apart to = absurd (cc)
    go (Err kind) after from same to =
        to ∙ ap (λ (c : ClientSide). ScramProfile c) (verification_refused client.state client after text kind from)
machine_refused (ScramProfile client) hostname nonce (frames.Outcome outcomes.Auth more) reply fault moved is m = m.1
machine_refused (ScramProfile client) hostname nonce (frames.Outcome outcomes.Sys more) reply fault moved is m = m.1
machine_refused (ScramProfile client) hostname nonce (frames.Outcome outcomes.SysPerm more) reply fault moved is m =
    m.1
machine_refused (ScramProfile client) hostname nonce (frames.Outcome outcomes.SysTemp more) reply fault moved is m =
    m.1
machine_refused (ScramProfile client) hostname nonce (frames.Init mechanism response host) reply fault moved is m = m.1
machine_refused (ScramProfile client) hostname nonce (frames.Response text) reply fault moved is m = m.1
machine_refused (PlainProfile identity user password) hostname nonce (frames.Challenge text) reply fault moved is m = m.1
machine_refused (PlainProfile identity user password) hostname nonce (frames.Outcome code more) reply fault moved is m = m.1
machine_refused (PlainProfile identity user word) hostname nonce (frames.Init mechanism response host) reply fault moved is m =
    m.1
machine_refused (PlainProfile identity user password) hostname nonce (frames.Response text) reply fault moved is m = m.1
machine_refused AnonymousProfile hostname nonce (frames.Challenge text) reply fault moved is m = m.1
machine_refused AnonymousProfile hostname nonce (frames.Outcome code more) reply fault moved is m = m.1
machine_refused AnonymousProfile hostname nonce (frames.Init mechanism response host) reply fault moved is m = m.1
machine_refused AnonymousProfile hostname nonce (frames.Response text) reply fault moved is m = m.1
machine_refused ExternalProfile hostname nonce (frames.Challenge text) reply fault moved is m = m.1
machine_refused ExternalProfile hostname nonce (frames.Outcome code more) reply fault moved is m = m.1
machine_refused ExternalProfile hostname nonce (frames.Init mechanism response host) reply fault moved is m = m.1
machine_refused ExternalProfile hostname nonce (frames.Response text) reply fault moved is m = m.1
machine_refused (PolicyProfile selection) hostname nonce (frames.Challenge text) reply fault moved is m = m.1
machine_refused (PolicyProfile selection) hostname nonce (frames.Outcome code more) reply fault moved is m = m.1
machine_refused (PolicyProfile selection) hostname nonce (frames.Init mechanism response host) reply fault moved is m = m.1
machine_refused (PolicyProfile selection) hostname nonce (frames.Response text) reply fault moved is m = m.1
machine_refused (MessageProfile mechanism message true) hostname nonce (frames.Challenge []) reply fault moved is m =
    let no = sym is ∙ m.0 in absurd (cc)
machine_refused (MessageProfile mechanism message true) hostname nonce (frames.Challenge (byte ∷ rest)) reply fault moved
    is m = m.1
machine_refused (MessageProfile mechanism message false) hostname nonce (frames.Challenge text) reply fault moved is m =
    m.1
machine_refused (MessageProfile mechanism message is_due) hostname nonce (frames.Outcome code more) reply fault moved is
    m = m.1
machine_refused (MessageProfile mechanism message is_due) hostname nonce (frames.Init name response host) reply fault
    moved is m = m.1
machine_refused (MessageProfile mechanism message is_due) hostname nonce (frames.Response text) reply fault moved is m =
    m.1

-- a frame that is not sent leaves the profile
unsent_stays : (says : List ℕ → ClientSays) (body : Option (List ℕ)) (profile moved next : Profile)
    (fault : ProfileError) → ((b : List ℕ) → Refused fault ≡ says b → ⊥)
    → SendsCanonical (Refused (Frame faults.TooLarge)) says body profile moved (Refused fault) next → next ≡ profile
unsent_stays says None profile moved next fault other sent = sent.1
unsent_stays says (Some body) profile moved next fault other sent = absurd (other body sent.0)

reply_refused : (profile moved next : Profile) (hostname : Option (List ℕ)) (nonce : List ℕ) (frame : SaslFrame)
    (reply : Result SaslFrame ProfileError) (fault : ProfileError)
    → profile_machine profile hostname nonce frame reply moved → Replies profile moved reply (Refused fault) next
    → next ≡ profile
reply_refused profile moved next hostname nonce frame (Err kind) fault machine says =
    says.1 ∙ machine_refused profile hostname nonce frame (Err kind) kind moved (λ i. Err kind) machine
reply_refused profile moved next hostname nonce frame (Ok (frames.Init mechanism response host)) fault machine says =
    unsent_stays (λ body. Started body) (canonical (frames.Init mechanism response host)) profile moved next fault
    (λ b apart. absurd (cc)) says
reply_refused profile moved next hostname nonce frame (Ok (frames.Outcome code more)) fault machine says =
    let apart = says.0 in absurd (cc)
reply_refused profile moved next hostname nonce frame (Ok (frames.Mechanisms names)) fault machine says =
    unsent_stays (λ body. Answered body) (canonical (frames.Mechanisms names)) profile moved next fault
    (λ b apart. absurd (cc)) says
reply_refused profile moved next hostname nonce frame (Ok (frames.Challenge text)) fault machine says =
    unsent_stays (λ body. Answered body) (canonical (frames.Challenge text)) profile moved next fault
    (λ b apart. absurd (cc)) says
reply_refused profile moved next hostname nonce frame (Ok (frames.Response text)) fault machine says =
    unsent_stays (λ body. Answered body) (canonical (frames.Response text)) profile moved next fault
    (λ b apart. absurd (cc)) says

-- a step that rejects leaves the profile
pub step_refused : (hostname : Option (List ℕ)) (profile next : Profile) (event : Given) (fault : ProfileError)
    → ProfileSteps hostname profile event (Refused fault) next → next ≡ profile
step_refused hostname profile next event fault (Err kind, spells, gives) = gives.1
step_refused hostname profile next event fault (Ok frame, spells, inl wants) = wants.2
step_refused hostname profile next event fault (Ok frame, spells, inr gives) =
    reply_refused profile gives.1 next hostname event.nonce frame gives.0 fault gives.2 gives.3

-- an acceptor whose step fails
pub acceptor_refused : {S : Type 0} (machine : S → List ℕ → SaslFrame → SaslFrame → S → Type 0) (state next : S)
    (event : Given) (fault : Error) → AcceptorSteps machine state event (Failed fault) next → next ≡ state
acceptor_refused {S} machine state next event fault (spelled, spells, gives) = given spelled gives
  where
    sent : (reply : SaslFrame) (moved : S) (body : Option (List ℕ))
        → Failed fault ≡ carried (Failed faults.TooLarge) (server_says reply) body
        → next ≡ carried state (λ _. moved) body → next ≡ state
    sent reply moved None says after = after
    sent (frames.Mechanisms names) moved (Some body) says after = absurd (cc)
    sent (frames.Init mechanism response hostname) moved (Some body) says after = absurd (cc)
    sent (frames.Challenge text) moved (Some body) says after = absurd (cc)
    sent (frames.Response text) moved (Some body) says after = absurd (cc)
    sent (frames.Outcome code more) moved (Some body) says after = absurd (cc)

    answered : (frame : SaslFrame) → AcceptorAnswers machine state event.nonce frame (Failed fault) next → next ≡ state
    answered frame (inl (memory, same)) = same
    answered frame (inr (reply, moved, runs, (says, after))) = sent reply moved (canonical reply) says after

    given : (spelled : Result SaslFrame Error) → AcceptorGives machine state event spelled (Failed fault) next → next ≡ state
    given (Err other) gives = gives.1
    given (Ok (frames.Mechanisms names)) gives = gives.1
    given (Ok (frames.Challenge text)) gives = gives.1
    given (Ok (frames.Outcome code more)) gives = gives.1
    given (Ok (frames.Init mechanism response hostname)) gives = answered (frames.Init mechanism response hostname) gives
    given (Ok (frames.Response text)) gives = answered (frames.Response text) gives
