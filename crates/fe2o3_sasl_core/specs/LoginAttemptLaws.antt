-- Laws of claims, and of the last claim that a server keeps. Each is the contract of a clause of `login_attempts::laws`.
use Rattle.std.specs.Prelude.{◌≡◌, ◌⊎◌, ◌≤◌, ◌+◌, ℕ, Option, Some, None, List, slice_get, Ok}
use Rattle.fe2o3_sasl_wire.specs.SaslFrames.{SaslFrame}
use Rattle.fe2o3_scram.specs.declared.hmac.ScramVersion.{ScramVersion}
use Rattle.fe2o3_scram.specs.declared.scram_messages.server_rules.ServerRules.{ServerRules}
use Rattle.fe2o3_scram.specs.ChannelBinding.{server_mechanism}
use Rattle.fe2o3_scram.specs.ClientFirst.{ClientFirst, ReadsClientFirst}
use Rattle.fe2o3_sasl_core.specs.Bodies.{SpellsBody}
use Rattle.fe2o3_sasl_core.specs.ChallengeCounts.{IsError}
use Rattle.fe2o3_sasl_core.specs.Events.{Given, ServerSays}
use Rattle.fe2o3_sasl_core.specs.LoginAttempts.{Attempt, ClaimOf, ClaimsUser, IsAttempt, with_late}
use Rattle.fe2o3_sasl_core.specs.Runs.{Runs, AcceptorSteps}
use Rattle.fe2o3_sasl_core.specs.Servers.{ServerAt, sasl_machine}

-- ---- claims

-- an initial response claims one user name, or none
abbrev pub OneClaim : Type 0
OneClaim = (mechanism text : List ℕ) (user other : Option (List ℕ)) → ClaimOf mechanism text user
    → ClaimOf mechanism text other → user ≡ other

abbrev pub SomeClaim : Type 0
SomeClaim = (mechanism text : List ℕ) → (user : Option (List ℕ)) × ClaimOf mechanism text user

-- the user name that a server of SCRAM reads in a client-first message, by any rules, is claimed to its mechanism
abbrev pub ClaimsWhatServersRead : Type 0
ClaimsWhatServersRead = (version : ScramVersion) (rules : ServerRules) (text : List ℕ) (first : ClientFirst)
    → ReadsClientFirst rules text (Ok first) → ClaimsUser (server_mechanism version rules) text first.user

-- ---- which claim is kept

-- at this position of a run an init that claims this is answered, by a challenge or an outcome of any code
pub record AnsweredInit (events : List Given) (replies : List ServerSays) (at : ℕ) (attempt : Attempt) : Type 0 where
  pub event : Given
  pub says : ServerSays
  pub frame : SaslFrame
  pub is : slice_get events at ≡ Some event
  pub said : slice_get replies at ≡ Some says
  pub spells : SpellsBody event.body (Ok frame)
  pub claims : IsAttempt frame attempt
  pub answered : ¬ IsError says

-- from this position on no init is answered
abbrev pub NoAnsweredInit : List Given → List ServerSays → ℕ → Type 0
NoAnsweredInit events replies from =
    (at : ℕ) (attempt : Attempt) → from ≤ at → ¬ AnsweredInit events replies at attempt

-- this claim, or if it claims no user, this claim with some user. `RecordsResponse` says of each step which user that is: the
-- one that the response claims
abbrev pub ContinuesClaim : Option Attempt → Option Attempt → Type 0
ContinuesClaim None after = after ≡ None
ContinuesClaim (Some attempt) after = (late : Option (List ℕ)) × (after ≡ Some (with_late attempt late))

-- the claim after a run is that of the last init that was answered, also by a rejection, with some user if the
-- init claims none; if no init was answered, it is that before the run
abbrev pub LastAnsweredInitIsKept : Type 0
LastAnsweredInitIsKept = (server last : ServerAt) (events : List Given) (replies : List ServerSays)
    → Runs (AcceptorSteps sasl_machine) server events replies last
    → (NoAnsweredInit events replies 0 × ContinuesClaim server.last last.last)
    ⊎ ((at : ℕ) × (attempt : Attempt) × AnsweredInit events replies at attempt
    × NoAnsweredInit events replies (at + 1) × ContinuesClaim (Some attempt) last.last)
