-- How many challenges a login has. Each law is the contract of a clause of `server::laws::challenge_counts`.
use Rattle.std.specs.Prelude.{◌<◌, ◌≤◌, ◌+◌, ℕ, Bool, cond, Option, List, ◌∷◌, length, Ok}
use Rattle.std.specs.List.{AllByRecursion}
use Rattle.fe2o3_sasl_wire.specs.SaslFrames as frames
use Rattle.fe2o3_sasl_wire.specs.SaslFrames.{SaslFrame}
use Rattle.fe2o3_sasl_core.specs.AnyMechanismLaws.{Machine}
use Rattle.fe2o3_sasl_core.specs.Bodies.{SpellsBody}
use Rattle.fe2o3_sasl_core.specs.Events.{Given, ServerSays, Challenged, Failed}
use Rattle.fe2o3_sasl_core.specs.Runs.{Runs, AcceptorSteps}
use Rattle.fe2o3_sasl_core.specs.Servers.{ExchangeOpen, ResponseAsked, ServerAt, ServerStage, sasl_machine}

-- ---- any acceptor

-- a reply after which a login goes on: every one but an outcome
abbrev pub GoesOn : SaslFrame → Type 0
GoesOn (frames.Outcome code more) = ⊥
GoesOn reply = Unit {0}

-- a bound on the challenges after that to an init, by the state: after it no more than `most` of the state before are
-- left, and each further challenge lowers what is left
pub record BoundsChallenges {S : Type 0} (machine : Machine S) (left most : S → ℕ) : Type 0 where
  pub init : (state next : S) (nonce mechanism : List ℕ) (response hostname : Option (List ℕ)) (reply : SaslFrame)
      → machine state nonce (frames.Init mechanism response hostname) reply next → GoesOn reply → left next ≤ most state
  pub response : (state next : S) (nonce text : List ℕ) (reply : SaslFrame)
      → machine state nonce (frames.Response text) reply next → GoesOn reply → left next < left state

-- the body is an init, or a response
abbrev pub IsInit : Given → Type 0
IsInit event = (mechanism : List ℕ) × (response hostname : Option (List ℕ))
    × SpellsBody event.body (Ok (frames.Init mechanism response hostname))

abbrev pub IsResponse : Given → Type 0
IsResponse event = (text : List ℕ) × SpellsBody event.body (Ok (frames.Response text))

-- a reply that is an error
abbrev pub IsError : ServerSays → Type 0
IsError (Failed fault) = Unit {0}
IsError says = ⊥

-- a reply that is a challenge
abbrev pub IsChallenge : ServerSays → Type 0
IsChallenge (Challenged body) = Unit {0}
IsChallenge says = ⊥

-- an init and the responses after it, all answered by challenges, are at most this many
abbrev pub HasChallenges : {S : Type 0} → Machine S → (S → ℕ) → Type 0
HasChallenges {S} machine count = (state last : S) (init : Given) (events : List Given) (replies : List ServerSays)
    → IsInit init → AllByRecursion IsResponse events
    → Runs (AcceptorSteps machine) state (init ∷ events) replies last → AllByRecursion IsChallenge replies
    → length replies ≤ count state

-- a login has one challenge more than are left after that to its init
abbrev pub BoundsHold : {S : Type 0} → Machine S → Type 0
BoundsHold {S} machine = (left most : S → ℕ) → BoundsChallenges machine left most
    → HasChallenges machine (λ state. most state + 1)

-- ---- a server of all mechanisms

-- 1 if the flag is set, otherwise 0
abbrev pub one_if : Bool → ℕ
one_if flag = cond flag 1 0

-- how many challenges are left at a stage: that to an initial response that is due, and one for a signature
abbrev pub stage_left : Bool → ServerStage → ℕ
stage_left signs (ResponseAsked mechanism nonce) = one_if signs + 1
stage_left signs (ExchangeOpen version plus exchange) = one_if signs
stage_left signs stage = 0

abbrev pub challenges_left : ServerAt → ℕ
challenges_left server = stage_left server.settings.extra.signature server.stage

-- and after a challenge to an init: one for each extra challenge
abbrev pub challenges_most : ServerAt → ℕ
challenges_most server = one_if server.settings.extra.signature + one_if server.settings.extra.initial_response

-- a login has one challenge, and one more for each extra challenge
abbrev pub SaslServersAreBounded : Type 0
SaslServersAreBounded = BoundsChallenges sasl_machine challenges_left challenges_most

abbrev pub ServersHaveFewChallenges : Type 0
ServersHaveFewChallenges = HasChallenges sasl_machine (λ server. challenges_most server + 1)
