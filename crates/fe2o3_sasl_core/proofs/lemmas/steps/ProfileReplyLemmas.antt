-- What the machine of a SCRAM profile replies, from what a SCRAM client answers.
use Rattle.std.proofs.Common.{◌≡◌, ◌≢◌, ◌⊎◌, ℕ, Bool, true, false, Option, Some, List, ◌+◌, ◌<◌, ◌≤◌, length, take, get_or, refl, sym, ap, ◌∙◌, subst, inl, inr, Result, Err, [], ◌∷◌, Ok}
use Rattle.std.proofs.lemmas.List.{take_more, take_all}
use Rattle.std.proofs.lemmas.List.Elements.{Contains-push_cases}
use Rattle.std.specs.List.{Contains}
use Rattle.std.specs.Str.{IsUtf8}
use Rattle.fe2o3_sasl_wire.specs.SaslFrames as frames
use Rattle.fe2o3_sasl_wire.specs.SaslFrames.{SaslFrame}
use Rattle.fe2o3_scram.specs.declared.scram_messages.error.ScramErrorKind.{ScramErrorKind}
use Rattle.fe2o3_scram.specs.declared.scram_messages.error.ScramErrorKind.TheVariants as kinds
use Rattle.fe2o3_scram.specs.Readings.{Gives}
use Rattle.fe2o3_scram.specs.ScramClient as client_states
use Rattle.fe2o3_scram.specs.ScramClient.{ClientSide, ClientState, AnswersIn, ChecksSignatureIn, VerifiesIn, ReachesSaltIn, ReachesVerifierIn, expects_signature}
use Rattle.fe2o3_sasl_wire.specs.declared.amqp_types.SaslCode.TheVariants as outcomes
use Rattle.fe2o3_scram.specs.ClientKeys.{ClientKeys}
use Rattle.fe2o3_scram.specs.ServerFinal.{ReadsServerFinal, ReadsSignature}
use Rattle.fe2o3_sasl_core.specs.Profiles.{Profile, ScramProfile, MessageProfile, MessageMechanism}
use Rattle.fe2o3_sasl_core.specs.ProfileMachine.{ChallengeAllocates, ChallengeReplies, profile_machine, FrameAllocates, StepAllocates, IsAnswered, ProfileAnswers}
use Rattle.fe2o3_sasl_core.specs.ProfileFaults.{fault_of_kind}
use Rattle.fe2o3_sasl_core.specs.private.Writing.{AnswersAlways, RefusesAlways}
use Rattle.fe2o3_sasl_core.specs.declared.sasl_profile.error.ProfileError.{ProfileError}
use Rattle.fe2o3_sasl_core.specs.declared.sasl_profile.error.ProfileError.TheVariants.{Scram, StaleKeys}

-- a challenge in UTF-8 is replied to by whether the client expects the signature there
pub challenge_replied : (client : ClientSide) (hostname : Option (List ℕ)) (nonce text : List ℕ) (expects : Bool)
    (reply : Result SaslFrame ProfileError) (next : Profile) → expects_signature client ≡ expects → IsUtf8 text
    → ChallengeReplies expects client text reply next
    → profile_machine (ScramProfile client) hostname nonce (frames.Challenge text) reply next
challenge_replied client hostname nonce text expects reply next is utf8 replies =
    inr (utf8, subst (λ (b : Bool). ChallengeReplies b client text reply next) (sym is) replies)

-- and so it is where memory runs out
challenge_allocates : (client : ClientSide) (text : List ℕ) (expects : Bool) → expects_signature client ≡ expects
    → IsUtf8 text → ChallengeAllocates expects client text
    → FrameAllocates (ScramProfile client) (frames.Challenge text)
challenge_allocates client text expects is utf8 has =
    (utf8, subst (λ (b : Bool). ChallengeAllocates b client text) (sym is) has)

-- a challenge that the client rejects: its fault is that of the machine, or running out of memory
pub challenge_refused : {V : Type 0} (view : V → List ℕ) (client next : ClientSide)
    (hostname : Option (List ℕ)) (nonce text : List ℕ) (kind : ScramErrorKind) → expects_signature client ≡ false
    → IsUtf8 text → next ≡ client
    → Gives kinds.OutOfMemory (ReachesSaltIn client.state text) view (Err kind)
    (λ answer. AnswersIn client.state client text answer next)
    → ProfileAnswers FrameAllocates (ScramProfile client) hostname nonce (frames.Challenge text)
    (Err (fault_of_kind kind)) (ScramProfile next)
challenge_refused view client next hostname nonce text kinds.OutOfMemory unsigned utf8 same from =
    (challenge_allocates client text false unsigned utf8 (from.0 refl), ap (λ (side : ClientSide). ScramProfile side) same)
challenge_refused view client next hostname nonce text kinds.StaleKeys unsigned utf8 same from =
    challenge_replied client hostname nonce text false (Err StaleKeys) (ScramProfile next) unsigned utf8
    (Err kinds.StaleKeys, next, from.1 (λ e. absurd (cc)), refl, refl)
challenge_refused view client next hostname nonce text kind unsigned utf8 same from =
    challenge_replied client hostname nonce text false (Err (fault_of_kind kind)) (ScramProfile next) unsigned utf8
    (Err kind, next, from.1 (λ e. absurd (cc)), refl, refl)

-- a signature in a challenge that the client rejects
pub signature_refused : {V : Type 0} (view : V → Unit {0}) (client next : ClientSide)
    (hostname : Option (List ℕ)) (nonce text : List ℕ) (kind : ScramErrorKind) → expects_signature client ≡ true
    → IsUtf8 text → next ≡ client
    → Gives kinds.OutOfMemory (ReachesVerifierIn client.state text) view (Err kind)
    (λ answer. ChecksSignatureIn client.state client text answer next)
    → ProfileAnswers FrameAllocates (ScramProfile client) hostname nonce (frames.Challenge text)
    (Err (fault_of_kind kind)) (ScramProfile next)
signature_refused view client next hostname nonce text kinds.OutOfMemory expects utf8 same from = (
  challenge_allocates client text true expects utf8 (from.0 refl),
  ap (λ (side : ClientSide). ScramProfile side) same,
)
signature_refused view client next hostname nonce text kinds.StaleKeys expects utf8 same from =
    challenge_replied client hostname nonce text true (Err StaleKeys) (ScramProfile next) expects utf8
    (Err kinds.StaleKeys, next, from.1 (λ e. absurd (cc)), refl, refl)
signature_refused view client next hostname nonce text kind expects utf8 same from =
    challenge_replied client hostname nonce text true (Err (fault_of_kind kind)) (ScramProfile next) expects utf8
    (Err kind, next, from.1 (λ e. absurd (cc)), refl, refl)

-- a client that reaches the signature has answered
pub waiting : (state : ClientState) (text : List ℕ) → ReachesVerifierIn state text → IsUtf8 text × IsAnswered state
waiting (client_states.ClientFinalSent signature keys) text reaches = (reaches.0, (signature, keys, refl))
waiting state text reaches = absurd reaches

-- a challenge that is not expected is rejected
undue : (client : ClientSide) (text : List ℕ)
    → ((nonce bare : List ℕ) → client.state ≢ client_states.ClientFirstSent nonce bare)
    → AnswersIn client.state client text (Err kinds.IllegalClientState) client
undue client text none = go client.state none
  where
    go : (state : ClientState) → ((nonce bare : List ℕ) → state ≢ client_states.ClientFirstSent nonce bare)
        → AnswersIn state client text (Err kinds.IllegalClientState) client
    go (client_states.ClientFirstSent nonce bare) none = absurd (none nonce bare refl)
    go state none = (refl, refl)

pub undue_challenge : (client : ClientSide) (text : List ℕ) → IsUtf8 text → expects_signature client ≡ false
    → ((nonce bare : List ℕ) → client.state ≢ client_states.ClientFirstSent nonce bare)
    → RefusesAlways (ScramProfile client) (frames.Challenge text) (Scram kinds.IllegalClientState)
undue_challenge client text utf8 unsigned none = λ hostname nonce.
    challenge_replied client hostname nonce text false (Err (Scram kinds.IllegalClientState)) (ScramProfile client)
    unsigned utf8 (Err kinds.IllegalClientState, client, undue client text none, refl, refl)

-- an outcome Ok that is not expected is rejected, and then one whose data are not UTF-8
pub undue_outcome : (client : ClientSide) (text : List ℕ)
    → ((signature : List ℕ) (keys : Option ClientKeys) → client.state ≢ client_states.ClientFinalSent signature keys)
    → RefusesAlways (ScramProfile client) (frames.Outcome outcomes.Ok (Some text)) (Scram kinds.IllegalClientState)
undue_outcome client text none = λ hostname nonce. (
  Err kinds.IllegalClientState,
  client,
  go client.state none,
  refl,
  refl,
)
  where
    go : (state : ClientState)
        → ((signature : List ℕ) (keys : Option ClientKeys) → state ≢ client_states.ClientFinalSent signature keys)
        → VerifiesIn state client text (Err kinds.IllegalClientState) client
    go (client_states.ClientFinalSent signature keys) none = absurd (none signature keys refl)
    go state none = (refl, refl)

pub outcome_not_text : (client : ClientSide) (text : List ℕ) → ¬ IsUtf8 text → IsAnswered client.state
    → RefusesAlways (ScramProfile client) (frames.Outcome outcomes.Ok (Some text)) (Scram kinds.Utf8Error)
unfolding ReadsServerFinal ReadsSignature
outcome_not_text client text not answered =
    λ hostname nonce. (Err kinds.Utf8Error, client, go client.state answered.2, refl, refl)
  where
    go : (state : ClientState) → state ≡ client_states.ClientFinalSent answered.0 answered.1
        → VerifiesIn state client text (Err kinds.Utf8Error) client
    go state is = subst (λ (some : ClientState). VerifiesIn some client text (Err kinds.Utf8Error) client) (sym is)
        (inl (inl (not, refl)), refl)

-- a single message is the response to a challenge that asks for it
pub message_responds : (mechanism : MessageMechanism) (message : List ℕ) (is_due : Bool) (text response : List ℕ)
    → StepAllocates (MessageProfile mechanism message is_due) (frames.Challenge text) → response ≡ message
    → AnswersAlways (MessageProfile mechanism message is_due) (frames.Challenge text) (Ok (frames.Response response))
    (MessageProfile mechanism message false)
message_responds mechanism message true [] response due is =
    λ hostname nonce. (ap (λ (sent : List ℕ). Ok (frames.Response sent)) is, refl)
message_responds mechanism message true (byte ∷ rest) response due is = absurd due
message_responds mechanism message false text response due is = absurd due

-- ---- the search for a name

pub not_among_more : (names : List (List ℕ)) (i : ℕ) (symbol name : List ℕ) → i < length names
    → symbol ≡ get_or names i symbol → symbol ≢ name → ¬ Contains (take i names) name
    → ¬ Contains (take (i + 1) names) name
not_among_more names i symbol name within is differs none there =
    go (Contains-push_cases (take i names) (get_or names i symbol) name
    (subst (λ (some : List (List ℕ)). Contains some name) (take_more names i symbol within) there))
  where
    go : Contains (take i names) name ⊎ (get_or names i symbol ≡ name) → ⊥
    go (inl old) = none old
    go (inr same) = differs (is ∙ same)

pub not_among_all : (names : List (List ℕ)) (i : ℕ) (name : List ℕ) → length names ≤ i
    → ¬ Contains (take i names) name → ¬ Contains names name
not_among_all names i name past none there =
    none (subst (λ (some : List (List ℕ)). Contains some name) (sym (take_all i names past)) there)
