-- Laws of a client that selects its mechanism from the server's offer, by a policy. Each is the contract of a clause of
-- `policy_laws::policy_clients`.
use Rattle.std.specs.Prelude.{◌≡◌, ◌≢◌, ◌⊎◌, ℕ, true, Option, Some, List, [], Ok}
use Rattle.std.specs.List.{Contains}
use Rattle.fe2o3_sasl_wire.specs.SaslFrames as frames
use Rattle.fe2o3_sasl_wire.specs.SaslFrames.{canonical}
use Rattle.fe2o3_sasl_wire.specs.declared.sasl_frames.error.Error.TheVariants.{TooLarge}
use Rattle.fe2o3_sasl_core.specs.Bodies.{SpellsBody}
use Rattle.fe2o3_sasl_core.specs.Mechanisms.{mechanism_symbol}
use Rattle.fe2o3_sasl_core.specs.ClientPolicy.{is_allowed}
use Rattle.fe2o3_sasl_core.specs.ProfileMachine.{IsSelected, NoneIsSelected}
use Rattle.fe2o3_sasl_core.specs.Profiles.{PolicyProfile, Profile, Selection}
use Rattle.fe2o3_sasl_core.specs.declared.mechanism.Mechanism.{Mechanism}
use Rattle.fe2o3_sasl_core.specs.declared.sasl_profile.error.ProfileError.TheVariants.{Frame as FrameFault, NotImplemented}
use Rattle.fe2o3_sasl_negotiation.specs.ClientNegotiation.{ClientReceives}
use Rattle.fe2o3_sasl_negotiation.specs.Framing.{framed}
use Rattle.fe2o3_sasl_negotiation.specs.Memory.{CompletesInTurn}
use Rattle.fe2o3_sasl_negotiation.specs.Negotiations.{Completes, Side}
use Rattle.fe2o3_sasl_negotiation.specs.declared.progress.CloseReason.TheVariants.{Mechanism as ProfileRefused}
use Rattle.fe2o3_sasl_negotiation.specs.declared.progress.FrameKind.TheVariants as turns
use Rattle.fe2o3_sasl_negotiation.specs.declared.progress.Progress.TheVariants.{Failed}

-- the side with another state
abbrev pub side_in_state : {S T : Type 0} → Side S → T → Side T
side_in_state side state = record {
  progress = side.progress;
  expected = side.expected;
  limit = side.limit;
  held = side.held;
  state = state;
}

-- a call that completes no frame in turn does what it does to a client of any profile, and selects none
abbrev pub WaitsForOffer : Type 0
WaitsForOffer = (hostname : Option (List ℕ)) (selection : Selection) (profile : Profile) (side next : Side Profile)
    (bytes nonce sent : List ℕ) (taken : ℕ) → side.state ≡ PolicyProfile selection → ¬ CompletesInTurn side bytes
    → ClientReceives hostname side bytes nonce taken sent next
    → (next.state ≡ PolicyProfile selection)
    × ClientReceives hostname (side_in_state side profile) bytes nonce taken sent (side_in_state next profile)

-- the client is one of this profile after the call, or its init has no body, and the side has closed
abbrev pub BecomesProfile : Selection → Side Profile → List ℕ → Profile → Profile → Type 0
BecomesProfile selection next sent profile moved = (next.state ≡ moved)
    ⊎ ((moved ≡ profile) × (next.state ≡ PolicyProfile selection) × (sent ≡ [])
    × (next.progress ≡ Failed (ProfileRefused (FrameFault TooLarge))))

-- a call that completes the list of mechanisms does what it does to a client of the selected profile, which the client becomes;
-- or, if there is none, it sends nothing and closes the side
abbrev pub SelectsAtOffer : Type 0
SelectsAtOffer = (hostname : Option (List ℕ)) (selection : Selection) (side next : Side Profile)
    (bytes nonce body sent : List ℕ) (taken : ℕ) (names : List (List ℕ)) → side.state ≡ PolicyProfile selection
    → Completes side bytes turns.Mechanisms body → SpellsBody body (Ok (frames.Mechanisms names))
    → ClientReceives hostname side bytes nonce taken sent next
    → (NoneIsSelected selection names × (sent ≡ []) × (next.progress ≡ Failed (ProfileRefused NotImplemented))
    × (next.state ≡ PolicyProfile selection))
    ⊎ ((profile : Profile) × (moved : Profile) × IsSelected selection names profile
    × ClientReceives hostname (side_in_state side profile) bytes nonce taken sent (side_in_state next moved)
    × BecomesProfile selection next sent profile moved)

-- an init of a mechanism that the policy allows and the server has offered, in a frame
pub record SendsAllowed (hostname : Option (List ℕ)) (selection : Selection) (side : Side Profile) (bytes sent : List ℕ)
    : Type 0 where
  pub body : List ℕ
  pub names : List (List ℕ)
  pub mechanism : Mechanism
  pub response : Option (List ℕ)
  pub init : List ℕ
  pub completes : Completes side bytes turns.Mechanisms body
  pub spells : SpellsBody body (Ok (frames.Mechanisms names))
  pub allowed : is_allowed selection.policy mechanism ≡ true
  pub offered : Contains names (mechanism_symbol mechanism)
  pub written : canonical (frames.Init (mechanism_symbol mechanism) response hostname) ≡ Some init
  pub sends : sent ≡ framed init

-- all that a client sends before it has selected a profile is an init of a mechanism that the policy allows and the server offers
abbrev pub NothingBelowPolicy : Type 0
NothingBelowPolicy = (hostname : Option (List ℕ)) (selection : Selection) (side next : Side Profile)
    (bytes nonce sent : List ℕ) (taken : ℕ) → side.state ≡ PolicyProfile selection
    → ClientReceives hostname side bytes nonce taken sent next → sent ≢ [] → SendsAllowed hostname selection side bytes sent
