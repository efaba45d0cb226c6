-- Which frames are answered, and how replies are written in bodies. Only contracts of private functions cite this.
use Rattle.std.specs.Prelude.{◌≡◌, ℕ, Bool, true, false, List, Option, Some, None, Result, Ok, Err}
use Rattle.std.specs.List.{Contains}
use Rattle.fe2o3_sasl_wire.specs.SaslFrames as frames
use Rattle.fe2o3_sasl_wire.specs.SaslFrames.{SaslFrame}
use Rattle.fe2o3_sasl_wire.specs.declared.sasl_frames.error.Error.{Error}
use Rattle.fe2o3_sasl_wire.specs.declared.sasl_frames.error.Error.TheVariants as faults
use Rattle.fe2o3_sasl_core.specs.declared.sasl_profile.error.ProfileError.{ProfileError}
use Rattle.fe2o3_sasl_core.specs.declared.sasl_profile.error.ProfileError.TheVariants as profile_faults
use Rattle.fe2o3_sasl_core.specs.Profiles.{Profile, PolicyProfile, profile_name}
use Rattle.fe2o3_sasl_core.specs.ProfileMachine.{FrameAllocates, IsSelected, NoneIsSelected, ProfileAnswers, profile_machine}

-- whether a profile is by a policy, and has selected no mechanism yet
abbrev pub is_by_policy : Profile → Bool
is_by_policy (PolicyProfile selection) = true
is_by_policy profile = false

-- the profile that answers these mechanisms: its own is among them, or it is selected of them
abbrev pub IsFor : Profile → List (List ℕ) → Profile → Type 0
IsFor (PolicyProfile selection) names chosen = IsSelected selection names chosen
IsFor profile names chosen = Contains names (profile_name profile) × (chosen ≡ profile)

-- none does
abbrev pub NoneIsFor : Profile → List (List ℕ) → Type 0
NoneIsFor (PolicyProfile selection) names = NoneIsSelected selection names
NoneIsFor profile names = ¬ Contains names (profile_name profile)

-- what a profile answers to a frame, for any hostname and nonce
abbrev pub AnswersAlways : Profile → SaslFrame → Result SaslFrame ProfileError → Profile → Type 0
AnswersAlways profile frame answer next =
    (hostname : Option (List ℕ)) (nonce : List ℕ)
    → ProfileAnswers FrameAllocates profile hostname nonce frame answer next

-- what the machine of a profile replies to a frame that leaves the profile unchanged, for any hostname and nonce
abbrev pub RefusesAlways : Profile → SaslFrame → ProfileError → Type 0
RefusesAlways profile frame fault = (hostname : Option (List ℕ)) (nonce : List ℕ)
    → profile_machine profile hostname nonce frame (Err fault) profile

-- the frame is an init or a response
abbrev pub IsRequest : SaslFrame → Type 0
IsRequest (frames.Init mechanism response hostname) = Unit {0}
IsRequest (frames.Response text) = Unit {0}
IsRequest frame = ⊥

-- the frame is written in its canonical body, and the reply says so; it has none; or memory runs out
abbrev pub Writes : {A X : Type 0} → (X → A) → (List ℕ → A) → Option (List ℕ) → Result X Error → Type 0
Writes view says body (Ok reply) = (written : List ℕ) × (body ≡ Some written) × (view reply ≡ says written)
Writes view says body (Err faults.TooLarge) = body ≡ None
Writes view says body (Err faults.OutOfMemory) = Unit {0}
Writes view says body (Err fault) = ⊥

-- a client's frame is written in its canonical body; it has none; or memory runs out
abbrev pub WritesBody : {X : Type 0} → (X → List ℕ) → Option (List ℕ) → Result X ProfileError → Type 0
WritesBody view body (Ok written) = body ≡ Some (view written)
WritesBody view body (Err profile_faults.OutOfMemory) = Unit {0}
WritesBody view body (Err (profile_faults.Frame fault)) = (fault ≡ faults.TooLarge) × (body ≡ None)
WritesBody view body (Err fault) = ⊥
