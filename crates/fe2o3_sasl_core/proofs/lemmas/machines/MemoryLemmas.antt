-- Where memory may run out.
use Rattle.std.proofs.Common.{◌≡◌, ◌≢◌, ◌⊎◌, ℕ, Option, Some, None, Bool, true, false, cond, List, [], refl, sym, ◌∙◌, subst, arith, inl, inr, Result, Ok, Err}
use Rattle.std.proofs.lemmas.Option.{slice_get_within}
use Rattle.fe2o3_sasl_wire.specs.declared.amqp_types.SaslCode.{SaslCode}
use Rattle.fe2o3_sasl_wire.specs.declared.amqp_types.SaslCode.TheVariants as outcomes
use Rattle.fe2o3_sasl_wire.specs.declared.sasl_frames.error.Error.{Error}
use Rattle.fe2o3_sasl_wire.specs.declared.sasl_frames.error.Error.TheVariants as faults
use Rattle.fe2o3_sasl_wire.specs.SaslFrames.{canonical, fault_of, SaslFrame}
use Rattle.fe2o3_sasl_wire.specs.SaslFrames as frames
use Rattle.fe2o3_scram.specs.Credentials.{Provider}
use Rattle.fe2o3_scram.specs.declared.scram_messages.error.ScramErrorKind.{ScramErrorKind}
use Rattle.fe2o3_scram.specs.declared.scram_messages.error.ScramErrorKind.TheVariants as kinds
use Rattle.fe2o3_sasl_core.specs.ClientHistory.{Answering, ClientAllocates, ClientAnswers, IsDue, OpenAnswer, VerifiedAnswer}
use Rattle.fe2o3_sasl_core.specs.Events.{Given, Login, Answered, Reported, Refused, Failed, scram_fault}
use Rattle.fe2o3_sasl_core.specs.Laws.{WantsAtServer, ServersWantMemory, ClientsWantMemory, ProfilesWantMemory}
use Rattle.fe2o3_scram.specs.ScramClient.{ClientSide, expects_signature}
use Rattle.fe2o3_sasl_core.specs.Profiles.{Profile, ScramProfile, MessageProfile, PolicyProfile}
use Rattle.fe2o3_sasl_core.specs.ProfileMachine.{ChallengeReplies, OfferAllocates, client_frame, profile_machine, StepAllocates}
use Rattle.fe2o3_sasl_core.specs.Runs.{Replies}
use Rattle.fe2o3_sasl_core.specs.Bodies.{SpellsBody, carried}
use Rattle.fe2o3_sasl_core.specs.ServerHistory.{Challenging, Open, ServerAllocates, ServerAnswers}
use Rattle.fe2o3_sasl_core.proofs.lemmas.machines.OfferLemmas.{Viewed, for_allocates, offer_view}
use Rattle.fe2o3_sasl_core.proofs.lemmas.positions.PositionLemmas.{some_at}
use Rattle.fe2o3_sasl_core.specs.declared.sasl_profile.error.ProfileError.{ProfileError}
use Rattle.fe2o3_sasl_core.specs.declared.sasl_profile.error.ProfileError.TheVariants.{NotImplemented, Scram, Frame, OutOfMemory}

-- ---- a server

-- the fault of a body is not running out of memory
pub no_want : (body : List ℕ) → fault_of body ≢ faults.OutOfMemory
unfolding fault_of
no_want body = go _ _
  where
    go : (short right : Bool) → cond short faults.DecodeError (cond right faults.DecodeError faults.NotImplemented)
        ≢ faults.OutOfMemory
    go true right is = cc
    go false true is = cc
    go false false is = cc

same_failure : (fault other : Error) → Failed fault ≡ Failed other → fault ≡ other
same_failure fault other is = cc

server_wants : (provider : Provider) (IsOpen : Challenging → Type 0) (event : Given) (spelled : Result SaslFrame Error)
    → SpellsBody event.body spelled
    → (ServerAllocates spelled × (Failed faults.OutOfMemory ≡ Failed faults.OutOfMemory))
    ⊎ ServerAnswers provider IsOpen event spelled (Failed faults.OutOfMemory)
    → (frame : SaslFrame) × SpellsBody event.body (Ok frame) × WantsAtServer frame
server_wants provider IsOpen event (Err fault) spells (inl wants) = absurd wants.0
server_wants provider IsOpen event (Err fault) spells (inr is) =
    absurd (no_want event.body (sym spells.0 ∙ same_failure fault faults.OutOfMemory (sym is)))
server_wants provider IsOpen event (Ok (frames.Init mechanism response hostname)) spells is =
    (frames.Init mechanism response hostname, spells, inl (mechanism, response, hostname, refl))
server_wants provider IsOpen event (Ok (frames.Response text)) spells is =
    (frames.Response text, spells, inr (text, refl))
server_wants provider IsOpen event (Ok (frames.Mechanisms names)) spells (inl wants) = absurd wants.0
server_wants provider IsOpen event (Ok (frames.Mechanisms names)) spells (inr is) = absurd (cc)
server_wants provider IsOpen event (Ok (frames.Challenge text)) spells (inl wants) = absurd wants.0
server_wants provider IsOpen event (Ok (frames.Challenge text)) spells (inr is) = absurd (cc)
server_wants provider IsOpen event (Ok (frames.Outcome code more)) spells (inl wants) = absurd wants.0
server_wants provider IsOpen event (Ok (frames.Outcome code more)) spells (inr is) = absurd (cc)

pub servers_want_memory : ServersWantMemory
servers_want_memory provider events replies k history is =
    let event = some_at events k
    (omega (arith, history.count, slice_get_within replies k (Failed faults.OutOfMemory) is))
    in
    let row = history.each k event.0 (Failed faults.OutOfMemory) event.1 is in
    let wants = server_wants provider (Open provider events replies k) event.0 row.0 row.1 row.2 in
    (event.0, wants.0, event.1, wants.1, wants.2)

-- ---- a SCRAM client

-- an error of SCRAM is not running out of memory
pub scram_tells : (kind : ScramErrorKind) → scram_fault kind ≢ OutOfMemory
scram_tells kinds.StaleKeys is = cc
scram_tells kind is = cc

same_refusal : (fault other : ProfileError) → Refused fault ≡ Refused other → fault ≡ other
same_refusal fault other is = cc

-- running out of memory is no other reply
not_reported : (code : SaslCode) (more : Option (List ℕ)) → Refused OutOfMemory ≢ Reported code more
not_reported code more is = absurd (cc)

-- and neither is a response, sent or too large
carried_otherwise : (body : Option (List ℕ))
    → Refused OutOfMemory ≢ carried (Refused (Frame faults.TooLarge)) (λ body. Answered body) body
carried_otherwise None is = absurd (cc)
carried_otherwise (Some body) is = absurd (cc)

client_wants : (login : Login) (Due : List ℕ → Type 0) (IsOpen IsVerified : Answering → Type 0) (event : Given)
    (spelled : Result SaslFrame Error) → SpellsBody event.body spelled
    → (ClientAllocates login spelled × (Refused OutOfMemory ≡ Refused OutOfMemory))
    ⊎ ClientAnswers login Due IsOpen IsVerified event spelled (Refused OutOfMemory)
    → (frame : SaslFrame) × SpellsBody event.body (Ok frame) × ClientAllocates login (Ok frame)
client_wants login Due IsOpen IsVerified event (Err fault) spells (inl wants) = absurd wants.0
client_wants login Due IsOpen IsVerified event (Ok frame) spells (inl wants) = (frame, spells, wants.0)
client_wants login Due IsOpen IsVerified event (Err fault) spells (inr is) = absurd (cc)
client_wants login Due IsOpen IsVerified event (Ok (frames.Mechanisms names)) spells (inr (inl named)) =
    (frames.Mechanisms names, spells, named.0)
client_wants login Due IsOpen IsVerified event (Ok (frames.Mechanisms names)) spells (inr (inr unnamed)) =
    let is = unnamed.1 in absurd (cc)
client_wants login Due IsOpen IsVerified event (Ok (frames.Challenge text)) spells (inr (inl verified)) =
    absurd (carried_otherwise (canonical (frames.Response [])) verified.1)
client_wants login Due IsOpen IsVerified event (Ok (frames.Challenge text)) spells (inr (inr (inl refused))) =
    absurd (scram_tells refused.0 (same_refusal (scram_fault refused.0) OutOfMemory (sym refused.2)))
client_wants login Due IsOpen IsVerified event (Ok (frames.Challenge text)) spells (inr (inr (inr (unsigned, inl answered)))) =
    (frames.Challenge text, spells, answered.1.0)
client_wants login Due IsOpen IsVerified event (Ok (frames.Challenge text)) spells (inr (inr (inr (unsigned, inr refused)))) =
    absurd (scram_tells refused.0 (same_refusal (scram_fault refused.0) OutOfMemory (sym refused.2)))
client_wants login Due IsOpen IsVerified event (Ok (frames.Outcome outcomes.Ok more)) spells (inr (inl verified)) =
    absurd (not_reported outcomes.Ok more verified.1)
client_wants login Due IsOpen IsVerified event (Ok (frames.Outcome outcomes.Ok more)) spells (inr (inr refused)) =
    absurd (scram_tells refused.0 (same_refusal (scram_fault refused.0) OutOfMemory (sym refused.2)))
client_wants login Due IsOpen IsVerified event (Ok (frames.Outcome outcomes.Auth more)) spells (inr is) = absurd (cc)
client_wants login Due IsOpen IsVerified event (Ok (frames.Outcome outcomes.Sys more)) spells (inr is) = absurd (cc)
client_wants login Due IsOpen IsVerified event (Ok (frames.Outcome outcomes.SysPerm more)) spells (inr is) = absurd (cc)
client_wants login Due IsOpen IsVerified event (Ok (frames.Outcome outcomes.SysTemp more)) spells (inr is) = absurd (cc)
client_wants login Due IsOpen IsVerified event (Ok (frames.Init mechanism response hostname)) spells (inr is) = absurd (cc)
client_wants login Due IsOpen IsVerified event (Ok (frames.Response text)) spells (inr is) = absurd (cc)

pub clients_want_memory : ClientsWantMemory
clients_want_memory login events replies k history is =
    let event = some_at events k (omega (arith, history.count, slice_get_within replies k (Refused OutOfMemory) is)) in
    let row = history.each k event.0 (Refused OutOfMemory) event.1 is in
    let wants = client_wants login (IsDue events replies k) (OpenAnswer login events replies k)
    (VerifiedAnswer login events replies k) event.0 row.0 row.1 row.2 in
    (event.0, wants.0, event.1, wants.1, wants.2)

-- ---- any profile

-- neither an error of another kind nor an outcome is running out of memory
refused_otherwise : (profile moved next : Profile) (reply : Result SaslFrame ProfileError) (fault : ProfileError)
    → reply ≡ Err fault → Refused OutOfMemory ≢ Refused fault → ¬ Replies profile moved reply (Refused OutOfMemory) next
refused_otherwise profile moved next reply fault is apart said = apart (subst
    (λ (some : Result SaslFrame ProfileError). Replies profile moved some (Refused OutOfMemory) next) is said).0

reported_otherwise : (profile moved next : Profile) (reply : Result SaslFrame ProfileError) (code : SaslCode)
    (more : Option (List ℕ)) → reply ≡ Ok (frames.Outcome code more)
    → ¬ Replies profile moved reply (Refused OutOfMemory) next
reported_otherwise profile moved next reply code more is said = not_reported code more (subst
    (λ (some : Result SaslFrame ProfileError). Replies profile moved some (Refused OutOfMemory) next) is said).0

not_unexpected : Refused OutOfMemory ≢ Refused NotImplemented
not_unexpected is = absurd (cc)

not_scram : (kind : ScramErrorKind) → Refused OutOfMemory ≢ Refused (scram_fault kind)
not_scram kind is = absurd (scram_tells kind (same_refusal (scram_fault kind) OutOfMemory (sym is)))

-- what a client of SCRAM answers to a challenge, and whether it accepts an outcome
answered_otherwise : (profile moved next : Profile) (reply : Result SaslFrame ProfileError)
    (answer : Result (List ℕ) ScramErrorKind) → reply ≡ client_frame (λ message. frames.Response message) answer
    → ¬ Replies profile moved reply (Refused OutOfMemory) next
answered_otherwise profile moved next reply (Ok message) is said = carried_otherwise
    (canonical (frames.Response message)) (subst
    (λ (some : Result SaslFrame ProfileError). Replies profile moved some (Refused OutOfMemory) next) is said).0
answered_otherwise profile moved next reply (Err kind) is said =
    refused_otherwise profile moved next reply (scram_fault kind) is (not_scram kind) said

confirmed_otherwise : (profile moved next : Profile) (reply : Result SaslFrame ProfileError)
    (answer : Result (Unit {0}) ScramErrorKind) → reply ≡ client_frame (λ verified. frames.Response []) answer
    → ¬ Replies profile moved reply (Refused OutOfMemory) next
confirmed_otherwise profile moved next reply (Ok verified) is said = carried_otherwise (canonical (frames.Response []))
    (subst (λ (some : Result SaslFrame ProfileError). Replies profile moved some (Refused OutOfMemory) next) is said).0
confirmed_otherwise profile moved next reply (Err kind) is said =
    refused_otherwise profile moved next reply (scram_fault kind) is (not_scram kind) said

challenge_otherwise : (expects : Bool) (client : ClientSide) (moved next : Profile) (text : List ℕ)
    (reply : Result SaslFrame ProfileError) → ChallengeReplies expects client text reply moved
    → ¬ Replies (ScramProfile client) moved reply (Refused OutOfMemory) next
challenge_otherwise false client moved next text reply is said =
    answered_otherwise (ScramProfile client) moved next reply is.0 is.3 said
challenge_otherwise true client moved next text reply is said =
    confirmed_otherwise (ScramProfile client) moved next reply is.0 is.3 said

verified_otherwise : (profile moved next : Profile) (reply : Result SaslFrame ProfileError) (more : Option (List ℕ))
    (answer : Result (Unit {0}) ScramErrorKind)
    → reply ≡ client_frame (λ verified. frames.Outcome outcomes.Ok more) answer
    → ¬ Replies profile moved reply (Refused OutOfMemory) next
verified_otherwise profile moved next reply more (Ok verified) is said =
    reported_otherwise profile moved next reply outcomes.Ok more is said
verified_otherwise profile moved next reply more (Err kind) is said =
    refused_otherwise profile moved next reply (scram_fault kind) is (not_scram kind) said

-- an answer to a list of mechanisms gives it in no case, or memory is asked for
offer_wants : (hostname : Option (List ℕ)) (profile next : Profile) (nonce : List ℕ) (names : List (List ℕ))
    (reply : Result SaslFrame ProfileError) (moved : Profile) → Viewed profile hostname nonce names reply moved
    → Replies profile moved reply (Refused OutOfMemory) next → OfferAllocates profile names
offer_wants hostname profile next nonce names reply moved (inl sent) said = for_allocates profile sent.0 names sent.1
offer_wants hostname profile next nonce names reply moved (inr none) said =
    absurd (refused_otherwise profile moved next reply NotImplemented none.1 not_unexpected said)

-- the machine gives it in no case, or memory is asked for
machine_wants : (hostname : Option (List ℕ)) (profile next : Profile) (nonce : List ℕ) (frame : SaslFrame)
    (reply : Result SaslFrame ProfileError) (moved : Profile) → profile_machine profile hostname nonce frame reply moved
    → Replies profile moved reply (Refused OutOfMemory) next → StepAllocates profile frame
machine_wants hostname profile next nonce (frames.Mechanisms names) reply moved made said =
    offer_wants hostname profile next nonce names reply moved
    (offer_view profile hostname nonce names reply moved made) said
machine_wants hostname (ScramProfile client) next nonce (frames.Challenge text) reply moved (inl other) said =
    absurd (refused_otherwise (ScramProfile client) moved next reply (Scram kinds.Utf8Error) other.1
    (not_scram kinds.Utf8Error) said)
machine_wants hostname (ScramProfile client) next nonce (frames.Challenge text) reply moved (inr is) said =
    absurd (challenge_otherwise (expects_signature client) client moved next text reply is.1 said)
machine_wants hostname (ScramProfile client) next nonce (frames.Outcome outcomes.Ok None) reply moved is said =
    absurd (verified_otherwise (ScramProfile client) moved next reply None is.0 is.3 said)
machine_wants hostname (ScramProfile client) next nonce (frames.Outcome outcomes.Ok (Some text)) reply moved is said =
    absurd (verified_otherwise (ScramProfile client) moved next reply (Some text) is.0 is.3 said)
machine_wants hostname (MessageProfile mechanism message true) next nonce (frames.Challenge []) reply moved is said = tt
machine_wants hostname (PolicyProfile selection) next nonce (frames.Outcome code more) reply moved is said = absurd
    (refused_otherwise (PolicyProfile selection) moved next reply NotImplemented is.0 not_unexpected said)
machine_wants hostname profile next nonce (frames.Outcome code more) reply moved is said =
    absurd (reported_otherwise profile moved next reply code more is.0 said)
machine_wants hostname profile next nonce frame reply moved is said =
    absurd (refused_otherwise profile moved next reply NotImplemented is.0 not_unexpected said)

pub profiles_want_memory : ProfilesWantMemory
profiles_want_memory hostname profile next nonce frame (inr said) =
    machine_wants hostname profile next nonce frame said.0 said.1 said.2 said.3
profiles_want_memory hostname profile next nonce frame (inl wants) = wants.0
