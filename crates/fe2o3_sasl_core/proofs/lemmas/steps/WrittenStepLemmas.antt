-- A step over a body, in the cases of what the body spells.
use Rattle.std.proofs.Common.{ℕ, Option, List, refl, inl, Ok, Err}
use Rattle.fe2o3_sasl_wire.specs.declared.sasl_frames.error.Error.{Error}
use Rattle.fe2o3_sasl_wire.specs.declared.sasl_frames.error.Error.TheVariants as faults
use Rattle.fe2o3_sasl_wire.specs.Owned.{RefusesView}
use Rattle.fe2o3_sasl_wire.specs.SaslFrames as frames
use Rattle.fe2o3_sasl_wire.specs.SaslFrames.{SaslFrame, ReadsBody}
use Rattle.fe2o3_sasl_wire.proofs.lemmas.frames.LawLemmas.{spelled_mechanisms_are_ascii}
use Rattle.fe2o3_sasl_core.specs.Events.{Given, ServerSays, Failed, ClientSays, Refused}
use Rattle.fe2o3_sasl_core.specs.Runs.{AcceptorAnswers, AcceptorGives, AcceptorSteps, ProfileReplies, ProfileSteps}
use Rattle.fe2o3_sasl_core.specs.Profiles.{Profile}
use Rattle.fe2o3_sasl_core.specs.private.Writing.{IsRequest}
use Rattle.fe2o3_sasl_core.specs.declared.sasl_profile.error.ProfileError.TheVariants.{Frame}

-- ---- acceptors

-- an answer to an init or a response is what the acceptor gives
request_gives : {S : Type 0} (machine : S → List ℕ → SaslFrame → SaslFrame → S → Type 0) (state : S) (event : Given)
    (frame : SaslFrame) (says : ServerSays) (next : S) → IsRequest frame
    → AcceptorAnswers machine state event.nonce frame says next
    → AcceptorGives machine state event (Ok frame) says next
request_gives machine state event (frames.Init mechanism response hostname) says next is h = h
request_gives machine state event (frames.Response text) says next is h = h
request_gives machine state event (frames.Mechanisms names) says next is h = absurd is
request_gives machine state event (frames.Challenge text) says next is h = absurd is
request_gives machine state event (frames.Outcome code more) says next is h = absurd is

-- a body that is not read
pub unreadable : {S : Type 0} (machine : S → List ℕ → SaslFrame → SaslFrame → S → Type 0) (state : S) (event : Given)
    (fault : Error) → ReadsBody event.body (Err fault) → AcceptorSteps machine state event (Failed fault) state
unreadable machine state event fault reads = (Err fault, reads, (refl, refl))

-- an init or a response
pub requested : {S : Type 0} (machine : S → List ℕ → SaslFrame → SaslFrame → S → Type 0) (state : S) (event : Given)
    (frame : SaslFrame) (n : ℕ) (says : ServerSays) (next : S) → ReadsBody event.body (Ok (frame, n)) → IsRequest frame
    → AcceptorAnswers machine state event.nonce frame says next → AcceptorSteps machine state event says next
requested machine state event frame n says next reads is h =
    (Ok frame, (n, reads), request_gives machine state event frame says next is h)

-- a frame of another kind
pub unexpected : {S : Type 0} (machine : S → List ℕ → SaslFrame → SaslFrame → S → Type 0) (state : S) (event : Given)
    (frame : SaslFrame) (n : ℕ) → ReadsBody event.body (Ok (frame, n)) → ¬ IsRequest frame
    → AcceptorSteps machine state event (Failed faults.NotImplemented) state
unexpected machine state event (frames.Mechanisms names) n reads not =
    (Ok (frames.Mechanisms names), (n, reads), (refl, refl))
unexpected machine state event (frames.Challenge text) n reads not =
    (Ok (frames.Challenge text), (n, reads), (refl, refl))
unexpected machine state event (frames.Outcome code more) n reads not =
    (Ok (frames.Outcome code more), (n, reads), (refl, refl))
unexpected machine state event (frames.Init mechanism response hostname) n reads not = absurd (not tt)
unexpected machine state event (frames.Response text) n reads not = absurd (not tt)

-- a frame that was read has its copy, but for memory
pub uncopied : {S : Type 0} (machine : S → List ℕ → SaslFrame → SaslFrame → S → Type 0) (state : S) (event : Given)
    (frame : SaslFrame) (n : ℕ) (fault : Error) → ReadsBody event.body (Ok (frame, n)) → IsRequest frame
    → RefusesView frame fault → AcceptorSteps machine state event (Failed fault) state
uncopied machine state event frame n faults.OutOfMemory reads is refuses = (
  Ok frame,
  (n, reads),
  request_gives machine state event frame (Failed faults.OutOfMemory) state is
      (inl (refl, refl)),
)
uncopied machine state event frame n faults.DecodeError reads is refuses =
    absurd (refuses (spelled_mechanisms_are_ascii frame _ reads.spelled))
uncopied machine state event frame n faults.NotImplemented reads is refuses = absurd refuses
uncopied machine state event frame n faults.TooLarge reads is refuses = absurd refuses

-- ---- profiles

pub profile_reads : (hostname : Option (List ℕ)) (profile : Profile) (event : Given) (frame : SaslFrame) (n : ℕ)
    (says : ClientSays) (next : Profile) → ReadsBody event.body (Ok (frame, n))
    → ProfileReplies hostname profile event.nonce frame says next → ProfileSteps hostname profile event says next
profile_reads hostname profile event frame n says next reads h = (Ok frame, (n, reads), h)

pub profile_unreadable : (hostname : Option (List ℕ)) (profile : Profile) (event : Given) (fault : Error)
    → ReadsBody event.body (Err fault) → ProfileSteps hostname profile event (Refused (Frame fault)) profile
profile_unreadable hostname profile event fault reads = (Err fault, reads, (refl, refl))
