-- No step of a profile changes whether it accepts the server's signature in a challenge (RFC 4422, section 5).
use Rattle.std.proofs.Common.{◌≡◌, ℕ, Bool, true, false, Option, Some, None, List, [], refl, ap, ◌∙◌, inl, inr, Result, Ok, Err}
use Rattle.fe2o3_sasl_wire.specs.declared.amqp_types.SaslCode.TheVariants as outcomes
use Rattle.fe2o3_sasl_wire.specs.declared.sasl_frames.error.Error.{Error}
use Rattle.fe2o3_sasl_wire.specs.SaslFrames as frames
use Rattle.fe2o3_sasl_wire.specs.SaslFrames.{SaslFrame, canonical}
use Rattle.fe2o3_scram.specs.declared.scram_messages.error.ScramErrorKind.{ScramErrorKind}
use Rattle.fe2o3_scram.specs.ScramClient as client_states
use Rattle.fe2o3_scram.specs.ScramClient.{ClientSide, ClientState, AnswersIn, ChecksSignatureIn, ConcludesIn, VerifiesIn, expects_signature}
use Rattle.fe2o3_sasl_core.specs.Bodies.{carried}
use Rattle.fe2o3_sasl_core.specs.Events.{Given, ClientSays}
use Rattle.fe2o3_sasl_core.specs.Profiles.{Profile, ScramProfile, PlainProfile, AnonymousProfile, ExternalProfile, MessageProfile, PolicyProfile, accepts_signature_by_challenge, after_init}
use Rattle.fe2o3_sasl_core.specs.ProfileMachine.{ChallengeReplies, profile_machine}
use Rattle.fe2o3_sasl_core.specs.Runs.{ProfileGives, ProfileSteps, Replies}
use Rattle.fe2o3_sasl_core.specs.declared.sasl_profile.error.ProfileError.{ProfileError}
use Rattle.fe2o3_sasl_negotiation.proofs.lemmas.SelectedProfileLemmas.{selected_ordinary}

-- the second profile accepts the signature in a challenge exactly if the first does
abbrev pub Stays : Profile → Profile → Type 0
Stays profile next = accepts_signature_by_challenge next ≡ accepts_signature_by_challenge profile

-- ---- what a SCRAM client answers

answered_stays : (state : ClientState) (client : ClientSide) (text : List ℕ) (answer : Result (List ℕ) ScramErrorKind)
    (after : ClientSide) → AnswersIn state client text answer after
    → after.signature_by_challenge ≡ client.signature_by_challenge
answered_stays (client_states.ClientFirstSent nonce bare) client text (Ok message) after is =
    ap (λ (side : ClientSide). side.signature_by_challenge) is.3
answered_stays (client_states.ClientFirstSent nonce bare) client text (Err fault) after is =
    ap (λ (side : ClientSide). side.signature_by_challenge) is.1
answered_stays state client text (Ok message) after is = absurd is
answered_stays state client text (Err fault) after is = ap (λ (side : ClientSide). side.signature_by_challenge) is.1

verified_stays : (state : ClientState) (client : ClientSide) (text : List ℕ) (answer : Result (Unit {0}) ScramErrorKind)
    (after : ClientSide) → VerifiesIn state client text answer after
    → after.signature_by_challenge ≡ client.signature_by_challenge
verified_stays (client_states.ClientFinalSent signature keys) client text (Ok verified) after is =
    ap (λ (side : ClientSide). side.signature_by_challenge) is.1
verified_stays (client_states.ClientFinalSent signature keys) client text (Err fault) after is =
    ap (λ (side : ClientSide). side.signature_by_challenge) is.1
verified_stays state client text (Ok verified) after is = absurd is
verified_stays state client text (Err fault) after is = ap (λ (side : ClientSide). side.signature_by_challenge) is.1

checked_stays : (state : ClientState) (client : ClientSide) (text : List ℕ) (answer : Result (Unit {0}) ScramErrorKind)
    (after : ClientSide) → ChecksSignatureIn state client text answer after
    → after.signature_by_challenge ≡ client.signature_by_challenge
checked_stays (client_states.ClientFinalSent signature keys) client text (Ok verified) after is =
    ap (λ (side : ClientSide). side.signature_by_challenge) is.1
checked_stays (client_states.ClientFinalSent signature keys) client text (Err fault) after is =
    ap (λ (side : ClientSide). side.signature_by_challenge) is.1
checked_stays state client text (Ok verified) after is = absurd is
checked_stays state client text (Err fault) after is = ap (λ (side : ClientSide). side.signature_by_challenge) is.1

concluded_stays : (state : ClientState) (client : ClientSide) (answer : Result (Unit {0}) ScramErrorKind)
    (after : ClientSide) → ConcludesIn state client answer after
    → after.signature_by_challenge ≡ client.signature_by_challenge
concluded_stays (client_states.SignatureVerified keys) client (Ok verified) after is =
    ap (λ (side : ClientSide). side.signature_by_challenge) is
concluded_stays (client_states.SignatureVerified keys) client (Err fault) after is = absurd is
concluded_stays state client (Ok verified) after is = absurd is
concluded_stays state client (Err fault) after is = ap (λ (side : ClientSide). side.signature_by_challenge) is.1

challenge_stays : (expects : Bool) (client : ClientSide) (text : List ℕ) (reply : Result SaslFrame ProfileError)
    (moved : Profile) → ChallengeReplies expects client text reply moved → Stays (ScramProfile client) moved
challenge_stays false client text reply moved is =
    ap accepts_signature_by_challenge is.4 ∙ answered_stays client.state client text is.0 is.1 is.2
challenge_stays true client text reply moved is =
    ap accepts_signature_by_challenge is.4 ∙ checked_stays client.state client text is.0 is.1 is.2

-- ---- a step

scram_stays : (client : ClientSide) (hostname : Option (List ℕ)) (nonce : List ℕ) (frame : SaslFrame)
    (reply : Result SaslFrame ProfileError) (moved : Profile)
    → profile_machine (ScramProfile client) hostname nonce frame reply moved → Stays (ScramProfile client) moved
scram_stays client hostname nonce (frames.Mechanisms names) reply moved (inl is) =
    ap accepts_signature_by_challenge is.2
scram_stays client hostname nonce (frames.Mechanisms names) reply moved (inr is) =
    ap accepts_signature_by_challenge is.2
scram_stays client hostname nonce (frames.Challenge text) reply moved (inl is) = ap accepts_signature_by_challenge is.2
scram_stays client hostname nonce (frames.Challenge text) reply moved (inr is) =
    challenge_stays (expects_signature client) client text reply moved is.1
scram_stays client hostname nonce (frames.Outcome outcomes.Ok None) reply moved is =
    ap accepts_signature_by_challenge is.4 ∙ concluded_stays client.state client is.0 is.1 is.2
scram_stays client hostname nonce (frames.Outcome outcomes.Ok (Some text)) reply moved is =
    ap accepts_signature_by_challenge is.4 ∙ verified_stays client.state client text is.0 is.1 is.2
scram_stays client hostname nonce (frames.Outcome code more) reply moved is = ap accepts_signature_by_challenge is.1
scram_stays client hostname nonce (frames.Init mechanism response host) reply moved is =
    ap accepts_signature_by_challenge is.1
scram_stays client hostname nonce (frames.Response text) reply moved is = ap accepts_signature_by_challenge is.1

started_stays : (profile : Profile) (nonce : List ℕ) → Stays profile (after_init profile nonce)
started_stays (ScramProfile client) nonce = refl
started_stays (PlainProfile identity user password) nonce = refl
started_stays AnonymousProfile nonce = refl
started_stays ExternalProfile nonce = refl
started_stays (MessageProfile mechanism message is_due) nonce = refl
started_stays (PolicyProfile selection) nonce = refl

machine_stays : (profile : Profile) (hostname : Option (List ℕ)) (nonce : List ℕ) (frame : SaslFrame)
    (reply : Result SaslFrame ProfileError) (moved : Profile)
    → profile_machine profile hostname nonce frame reply moved → Stays profile moved
machine_stays (ScramProfile client) hostname nonce frame reply moved is =
    scram_stays client hostname nonce frame reply moved is
machine_stays (PlainProfile identity user password) hostname nonce (frames.Mechanisms names) reply moved (inl is) =
    ap accepts_signature_by_challenge is.2
machine_stays (PlainProfile identity user password) hostname nonce (frames.Mechanisms names) reply moved (inr is) =
    ap accepts_signature_by_challenge is.2
machine_stays (PlainProfile identity user password) hostname nonce frame reply moved is = ap accepts_signature_by_challenge is.1
machine_stays AnonymousProfile hostname nonce (frames.Mechanisms names) reply moved (inl is) =
    ap accepts_signature_by_challenge is.2
machine_stays AnonymousProfile hostname nonce (frames.Mechanisms names) reply moved (inr is) =
    ap accepts_signature_by_challenge is.2
machine_stays AnonymousProfile hostname nonce frame reply moved is = ap accepts_signature_by_challenge is.1
machine_stays ExternalProfile hostname nonce (frames.Mechanisms names) reply moved (inl is) =
    ap accepts_signature_by_challenge is.2
machine_stays ExternalProfile hostname nonce (frames.Mechanisms names) reply moved (inr is) =
    ap accepts_signature_by_challenge is.2
machine_stays ExternalProfile hostname nonce frame reply moved is = ap accepts_signature_by_challenge is.1
machine_stays (PolicyProfile selection) hostname nonce (frames.Mechanisms names) reply moved (inl (chosen, selected, is, to)) =
    ap accepts_signature_by_challenge to
    ∙ (started_stays chosen nonce ∙ (selected_ordinary selection names chosen selected).1)
machine_stays (PolicyProfile selection) hostname nonce (frames.Mechanisms names) reply moved (inr is) =
    ap accepts_signature_by_challenge is.2
machine_stays (PolicyProfile selection) hostname nonce frame reply moved is = ap accepts_signature_by_challenge is.1
machine_stays (MessageProfile mechanism message is_due) hostname nonce (frames.Mechanisms names) reply moved (inl is) =
    ap accepts_signature_by_challenge is.2
machine_stays (MessageProfile mechanism message is_due) hostname nonce (frames.Mechanisms names) reply moved (inr is) =
    ap accepts_signature_by_challenge is.2
machine_stays (MessageProfile mechanism message true) hostname nonce (frames.Challenge []) reply moved is =
    ap accepts_signature_by_challenge is.1
machine_stays (MessageProfile mechanism message is_due) hostname nonce frame reply moved is =
    ap accepts_signature_by_challenge is.1

-- also where the reply is not sent
carried_stays : (profile : Profile) (body : Option (List ℕ)) (moved next : Profile) → Stays profile moved
    → next ≡ carried profile (λ _. moved) body → Stays profile next
carried_stays profile None moved next stays is = ap accepts_signature_by_challenge is
carried_stays profile (Some body) moved next stays is = ap accepts_signature_by_challenge is ∙ stays

replied_stays : (profile moved next : Profile) (reply : Result SaslFrame ProfileError) (says : ClientSays)
    → Stays profile moved → Replies profile moved reply says next → Stays profile next
replied_stays profile moved next (Err fault) says stays is = ap accepts_signature_by_challenge is.1 ∙ stays
replied_stays profile moved next (Ok (frames.Outcome code more)) says stays is =
    ap accepts_signature_by_challenge is.1 ∙ stays
replied_stays profile moved next (Ok (frames.Init mechanism response host)) says stays is =
    carried_stays profile (canonical (frames.Init mechanism response host)) moved next stays is.1
replied_stays profile moved next (Ok (frames.Response text)) says stays is =
    carried_stays profile (canonical (frames.Response text)) moved next stays is.1
replied_stays profile moved next (Ok (frames.Mechanisms names)) says stays is =
    carried_stays profile (canonical (frames.Mechanisms names)) moved next stays is.1
replied_stays profile moved next (Ok (frames.Challenge text)) says stays is =
    carried_stays profile (canonical (frames.Challenge text)) moved next stays is.1

given_stays : (hostname : Option (List ℕ)) (profile : Profile) (event : Given) (spelled : Result SaslFrame Error)
    (says : ClientSays) (next : Profile) → ProfileGives hostname profile event spelled says next → Stays profile next
given_stays hostname profile event (Err fault) says next is = ap accepts_signature_by_challenge is.1
given_stays hostname profile event (Ok frame) says next (inl is) = ap accepts_signature_by_challenge is.2
given_stays hostname profile event (Ok frame) says next (inr is) =
    replied_stays profile is.1 next is.0 says (machine_stays profile hostname event.nonce frame is.0 is.1 is.2) is.3

pub flag_stays : (hostname : Option (List ℕ)) (profile : Profile) (event : Given) (says : ClientSays) (next : Profile)
    → ProfileSteps hostname profile event says next
    → accepts_signature_by_challenge next ≡ accepts_signature_by_challenge profile
flag_stays hostname profile event says next (spelled, spells, gives) =
    given_stays hostname profile event spelled says next gives

-- ---- a run
