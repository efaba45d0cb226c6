-- How many HMAC values the answers to frames take (RFC 5802, section 3), as a meter shows them before and after a call.
use Rattle.std.specs.Prelude.{◌≡◌, ◌⊎◌, ◌≤◌, ◌+◌, ℕ, Option, Some, List, Result, Ok, Err}
use Rattle.std.specs.Str.{IsUtf8}
use Rattle.fe2o3_sasl_wire.specs.declared.sasl_frames.error.Error.{Error}
use Rattle.fe2o3_sasl_wire.specs.SaslFrames as frames
use Rattle.fe2o3_sasl_wire.specs.SaslFrames.{SaslFrame}
use Rattle.fe2o3_scram.specs.declared.scram_messages.error.ServerScramErrorKind.{ServerScramErrorKind}
use Rattle.fe2o3_scram.specs.ClientFirst.{ClientFirst, ReadsClientFirst}
use Rattle.fe2o3_scram.specs.Credentials.{Provider}
use Rattle.fe2o3_scram.specs.ChannelBinding.{server_mechanism}
use Rattle.fe2o3_scram.specs.ScramClient.{AnswerCostsIn}
use Rattle.fe2o3_scram.specs.ScramServer.{ServerState, ConcludesFrom, FinalCostsFrom}
use Rattle.fe2o3_sasl_core.specs.Bodies.{SpellsBody}
use Rattle.fe2o3_sasl_core.specs.Events.{Given}
use Rattle.fe2o3_sasl_core.specs.Profiles.{Profile, ScramProfile}
use Rattle.fe2o3_sasl_core.specs.SaslAcceptor.{Acceptor, ScramAcceptor}

-- ---- acceptors

-- the init names the mechanism, and its client-first message is parsed, so that its user is looked up
abbrev pub ReachesLookUp : Provider → List ℕ → List ℕ → Type 0
ReachesLookUp provider mechanism text = (mechanism ≡ server_mechanism provider.version provider.rules)
    × ((client : ClientFirst) × ReadsClientFirst provider.rules text (Ok client))

-- how many HMAC values an acceptor makes for its answer to a frame: SCRAM for an init those of the look-up, and for a
-- response two if it is accepted and one if only the proof is rejected; otherwise none
abbrev pub acceptor_hmacs : Acceptor → SaslFrame → ℕ → Type 0
acceptor_hmacs (ScramAcceptor provider state) (frames.Init mechanism (Some text) hostname) n =
    (ReachesLookUp provider mechanism text × (n ≡ provider.look_up_cost))
    ⊎ (¬ ReachesLookUp provider mechanism text × (n ≡ 0))
acceptor_hmacs (ScramAcceptor provider state) (frames.Response text) n =
    (answer : Result (Option (List ℕ)) ServerScramErrorKind) × (after : ServerState)
    × ConcludesFrom state provider.version provider.rules provider.rights text answer after
    × FinalCostsFrom state provider.version provider.rules provider.rights text answer 0 n
acceptor_hmacs acceptor frame n = n ≡ 0

-- no more HMAC values were made than an answer takes, also if memory ran out
abbrev pub CostsAtMost : {S : Type 0} → (S → SaslFrame → ℕ → Type 0) → S → SaslFrame → ℕ → ℕ → Type 0
CostsAtMost hmacs state frame before after =
    (before ≤ after) × ((n : ℕ) → hmacs state frame n → after ≤ before + n)

-- an answer made as many HMAC values as it takes
abbrev pub CostsExactly : {S : Type 0} → (S → SaslFrame → ℕ → Type 0) → S → SaslFrame → ℕ → ℕ → Type 0
CostsExactly hmacs state frame before after = (n : ℕ) → hmacs state frame n → after ≡ before + n

-- the HMAC values of an acceptor for a body that spells this: one that spells no frame takes none
abbrev pub AcceptorCostsOf : {S : Type 0} → (S → SaslFrame → ℕ → Type 0) → S → Result SaslFrame Error → ℕ → ℕ → Type 0
AcceptorCostsOf hmacs state (Ok frame) before after = CostsAtMost hmacs state frame before after
AcceptorCostsOf hmacs state (Err fault) before after = after ≡ before

-- the HMAC values of an acceptor's step over one event
abbrev pub AcceptorStepCosts : {S : Type 0} → (S → SaslFrame → ℕ → Type 0) → S → Given → ℕ → ℕ → Type 0
AcceptorStepCosts hmacs state event before after = (spelled : Result SaslFrame Error) × SpellsBody event.body spelled
    × AcceptorCostsOf hmacs state spelled before after

-- ---- profiles

-- the HMAC values of a profile's answer to a frame: to a challenge in UTF-8 SCRAM makes those of its answer; otherwise
-- none
abbrev pub ProfileCosts : {A F : Type 0} → SaslFrame → Profile → Result A F → ℕ → ℕ → Type 0
ProfileCosts (frames.Challenge text) (ScramProfile client) result before after =
    (¬ IsUtf8 text → after ≡ before) × (IsUtf8 text → AnswerCostsIn client.state client text result before after)
ProfileCosts frame profile result before after = after ≡ before

-- the HMAC values of a profile for a body that spells this: one that spells no frame takes none
abbrev pub ProfileCostsOf : {A F : Type 0} → Result SaslFrame Error → Profile → Result A F → ℕ → ℕ → Type 0
ProfileCostsOf (Ok frame) profile result before after = ProfileCosts frame profile result before after
ProfileCostsOf (Err fault) profile result before after = after ≡ before

-- the HMAC values of a profile's step over one event
abbrev pub ProfileStepCosts : {A F : Type 0} → Profile → Given → Result A F → ℕ → ℕ → Type 0
ProfileStepCosts profile event result before after = (spelled : Result SaslFrame Error)
    × SpellsBody event.body spelled × ProfileCostsOf spelled profile result before after
