-- What a client's profile answers to one frame (AMQP 1.0, part 5, section 5.3.2).
use Rattle.std.specs.Prelude.{◌≡◌, ◌⊎◌, ℕ, Bool, true, false, Option, Some, None, List, [], Result, Ok, Err}
use Rattle.std.specs.List.{AllByRecursion, Contains}
use Rattle.std.specs.Str.{IsUtf8}
use Rattle.fe2o3_sasl_wire.specs.declared.amqp_types.SaslCode.TheVariants as outcomes
use Rattle.fe2o3_sasl_wire.specs.SaslFrames as frames
use Rattle.fe2o3_sasl_wire.specs.SaslFrames.{SaslFrame}
use Rattle.fe2o3_scram.specs.declared.scram_messages.error.ScramErrorKind.{ScramErrorKind}
use Rattle.fe2o3_scram.specs.declared.scram_messages.error.ScramErrorKind.TheVariants.{Utf8Error}
use Rattle.fe2o3_scram.specs.ClientKeys.{ClientKeys}
use Rattle.fe2o3_scram.specs.ScramClient as client_states
use Rattle.fe2o3_scram.specs.ScramClient.{ClientSide, ClientState, AnswersIn, ChecksSignatureIn, ConcludesIn, VerifiesIn, ReachesSaltIn, ReachesVerifierIn, expects_signature}
use Rattle.fe2o3_sasl_core.specs.ActingProfiles.{CanActFor, acting_profile}
use Rattle.fe2o3_sasl_core.specs.ClientPolicy.{CanTake, SelectsProfile, by_strength}
use Rattle.fe2o3_sasl_core.specs.Events.{scram_fault}
use Rattle.fe2o3_sasl_core.specs.Profiles.{Profile, ScramProfile, MessageProfile, PolicyProfile, Selection, after_init, initial_response, profile_name}
use Rattle.fe2o3_sasl_core.specs.declared.sasl_profile.error.ProfileError.{ProfileError}
use Rattle.fe2o3_sasl_core.specs.declared.sasl_profile.error.ProfileError.TheVariants.{NotImplemented, Scram, OutOfMemory}

-- ---- the profile that is selected of an offer

-- a chosen profile asks to act for this identity, if one is named (RFC 4422, section 2)
abbrev pub IsActing : Option (List ℕ) → Profile → Profile → Type 0
IsActing None chosen profile = profile ≡ chosen
IsActing (Some identity) chosen profile = CanActFor chosen identity × (profile ≡ acting_profile chosen identity)

-- a chosen profile cannot ask to act for this identity
abbrev pub CannotAct : Option (List ℕ) → Profile → Type 0
CannotAct None chosen = ⊥
CannotAct (Some identity) chosen = ¬ CanActFor chosen identity

-- the profile that is selected of these mechanisms (part 5, section 5.3.3.2): that of the strongest that is offered, that the
-- policy allows and for which the secret serves; it asks to act for the client's identity
abbrev pub IsSelected : Selection → List (List ℕ) → Profile → Type 0
IsSelected selection names profile = (chosen : Profile)
    × SelectsProfile selection.policy selection.user selection.secret names chosen
    × IsActing selection.acts_for chosen profile

-- none of these mechanisms can be selected
abbrev pub NoneCanBeTaken : Selection → List (List ℕ) → Type 0
NoneCanBeTaken selection names =
    AllByRecursion (λ mechanism. ¬ CanTake selection.policy selection.user selection.secret names mechanism) by_strength

-- or the selected one cannot ask to act for the client's identity
abbrev pub NoneIsSelected : Selection → List (List ℕ) → Type 0
NoneIsSelected selection names = NoneCanBeTaken selection names
    ⊎ ((chosen : Profile) × SelectsProfile selection.policy selection.user selection.secret names chosen
    × CannotAct selection.acts_for chosen)

-- where a profile allocates to answer these mechanisms
abbrev pub OfferAllocates : Profile → List (List ℕ) → Type 0
OfferAllocates (PolicyProfile selection) names = ¬ NoneCanBeTaken selection names
OfferAllocates profile names = Contains names (profile_name profile)

-- ---- what a profile answers

-- what a profile answers to a list of mechanisms: its init if its own is among them; a client by a policy selects a profile,
-- which sends its init
abbrev pub OfferAnswers : Profile → Option (List ℕ) → List ℕ → List (List ℕ) → Result SaslFrame ProfileError → Profile
    → Type 0
OfferAnswers (PolicyProfile selection) hostname nonce names reply next =
    ((chosen : Profile) × IsSelected selection names chosen
    × (reply ≡ Ok (frames.Init (profile_name chosen) (initial_response chosen nonce) hostname))
    × (next ≡ after_init chosen nonce))
    ⊎ (NoneIsSelected selection names × (reply ≡ Err NotImplemented) × (next ≡ PolicyProfile selection))
OfferAnswers profile hostname nonce names reply next =
    (Contains names (profile_name profile)
    × (reply ≡ Ok (frames.Init (profile_name profile) (initial_response profile nonce) hostname))
    × (next ≡ after_init profile nonce))
    ⊎ (¬ Contains names (profile_name profile) × (reply ≡ Err NotImplemented) × (next ≡ profile))

-- the frame of a SCRAM client's answer, or its error
abbrev pub client_frame : {A : Type 0} → (A → SaslFrame) → Result A ScramErrorKind → Result SaslFrame ProfileError
client_frame frame (Ok answer) = Ok (frame answer)
client_frame frame (Err kind) = Err (scram_fault kind)

-- what a SCRAM client replies to a challenge in UTF-8, by whether it expects the server's signature there (RFC 4422,
-- section 5): it answers a server-first message by its client-final message, and a server-final message by an empty
-- response
abbrev pub ChallengeReplies : Bool → ClientSide → List ℕ → Result SaslFrame ProfileError → Profile → Type 0
ChallengeReplies false client text reply next =
    (answer : Result (List ℕ) ScramErrorKind) × (after : ClientSide) × AnswersIn client.state client text answer after
    × (reply ≡ client_frame (λ message. frames.Response message) answer) × (next ≡ ScramProfile after)
ChallengeReplies true client text reply next =
    (answer : Result (Unit {0}) ScramErrorKind) × (after : ClientSide)
    × ChecksSignatureIn client.state client text answer after
    × (reply ≡ client_frame (λ verified. frames.Response []) answer) × (next ≡ ScramProfile after)

-- the machine of a profile: from the profile, a hostname, a nonce and a frame to a reply and the profile after it. A client by
-- a policy answers only lists of mechanisms, until it has selected a profile
abbrev pub profile_machine : Profile → Option (List ℕ) → List ℕ → SaslFrame → Result SaslFrame ProfileError → Profile
    → Type 0
profile_machine profile hostname nonce (frames.Mechanisms names) reply next =
    OfferAnswers profile hostname nonce names reply next
profile_machine (ScramProfile client) hostname nonce (frames.Challenge text) reply next =
    (¬ IsUtf8 text × (reply ≡ Err (Scram Utf8Error)) × (next ≡ ScramProfile client))
    ⊎ (IsUtf8 text × ChallengeReplies (expects_signature client) client text reply next)
profile_machine (ScramProfile client) hostname nonce (frames.Outcome outcomes.Ok None) reply next =
    (answer : Result (Unit {0}) ScramErrorKind) × (after : ClientSide) × ConcludesIn client.state client answer after
    × (reply ≡ client_frame (λ verified. frames.Outcome outcomes.Ok None) answer) × (next ≡ ScramProfile after)
profile_machine (ScramProfile client) hostname nonce (frames.Outcome outcomes.Ok (Some text)) reply next =
    (answer : Result (Unit {0}) ScramErrorKind) × (after : ClientSide)
    × VerifiesIn client.state client text answer after
    × (reply ≡ client_frame (λ verified. frames.Outcome outcomes.Ok (Some text)) answer)
    × (next ≡ ScramProfile after)
profile_machine (MessageProfile mechanism message true) hostname nonce (frames.Challenge []) reply next =
    (reply ≡ Ok (frames.Response message)) × (next ≡ MessageProfile mechanism message false)
profile_machine (PolicyProfile selection) hostname nonce (frames.Outcome code more) reply next =
    (reply ≡ Err NotImplemented) × (next ≡ PolicyProfile selection)
profile_machine profile hostname nonce (frames.Outcome code more) reply next =
    (reply ≡ Ok (frames.Outcome code more)) × (next ≡ profile)
profile_machine profile hostname nonce frame reply next = (reply ≡ Err NotImplemented) × (next ≡ profile)

-- where a SCRAM client allocates for its answer to a challenge in UTF-8: if it reaches the salt, or the signature that it
-- expects there
abbrev pub ChallengeAllocates : Bool → ClientSide → List ℕ → Type 0
ChallengeAllocates false client text = ReachesSaltIn client.state text
ChallengeAllocates true client text = ReachesVerifierIn client.state text

-- where a profile allocates before it has its answer to a frame: for an init; for the response to a challenge in UTF-8
-- as above, and to an empty one that is due; and for the signature of an outcome Ok
abbrev pub FrameAllocates : Profile → SaslFrame → Type 0
FrameAllocates profile (frames.Mechanisms names) = OfferAllocates profile names
FrameAllocates (ScramProfile client) (frames.Challenge text) =
    IsUtf8 text × ChallengeAllocates (expects_signature client) client text
FrameAllocates (MessageProfile mechanism message true) (frames.Challenge []) = Unit {0}
FrameAllocates (ScramProfile client) (frames.Outcome outcomes.Ok (Some text)) = ReachesVerifierIn client.state text
FrameAllocates profile frame = ⊥

-- a client in this state has sent its first message, so a challenge is expected (RFC 5802, section 5)
abbrev pub IsStarted : ClientState → Type 0
IsStarted state = (nonce : List ℕ) × (bare : List ℕ) × (state ≡ client_states.ClientFirstSent nonce bare)

-- a client in this state waits for a signature, so an outcome is expected (RFC 5802, section 5)
abbrev pub IsAnswered : ClientState → Type 0
IsAnswered state = (signature : List ℕ) × (keys : Option ClientKeys)
    × (state ≡ client_states.ClientFinalSent signature keys)

-- a challenge is expected by a client that has sent its first message, or takes the signature there
abbrev pub IsChallengeDue : ClientSide → Type 0
IsChallengeDue client = IsStarted client.state ⊎ (expects_signature client ≡ true)

-- where a step of a profile allocates: a profile that expects a challenge in UTF-8, or an empty one, is copied
abbrev pub StepAllocates : Profile → SaslFrame → Type 0
StepAllocates profile (frames.Mechanisms names) = OfferAllocates profile names
StepAllocates (ScramProfile client) (frames.Challenge text) = IsUtf8 text × IsChallengeDue client
StepAllocates (MessageProfile mechanism message true) (frames.Challenge []) = Unit {0}
StepAllocates (ScramProfile client) (frames.Outcome outcomes.Ok (Some text)) = IsUtf8 text × IsAnswered client.state
StepAllocates (PolicyProfile selection) (frames.Outcome code (Some text)) = ⊥
StepAllocates profile (frames.Outcome code (Some text)) = Unit {0}
StepAllocates profile frame = ⊥

-- what a profile answers to a frame: what its machine replies, or running out of memory, where the profile is unchanged
abbrev pub ProfileAnswers : (Profile → SaslFrame → Type 0) → Profile → Option (List ℕ) → List ℕ → SaslFrame
    → Result SaslFrame ProfileError → Profile → Type 0
ProfileAnswers Allocates profile hostname nonce frame (Err OutOfMemory) next =
    Allocates profile frame × (next ≡ profile)
ProfileAnswers Allocates profile hostname nonce frame answer next =
    profile_machine profile hostname nonce frame answer next
