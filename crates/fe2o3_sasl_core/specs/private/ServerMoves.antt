-- What the answer of a server changes. Only contracts of private functions cite this.
use Rattle.std.specs.Prelude.{◌≡◌, ◌≤◌, ◌+◌, ℕ, Option, Some, option_map, string_bytes}
use Rattle.fe2o3_sasl_core.specs.LoginAttempts.{Attempt, attempt_of, with_late}
use Rattle.fe2o3_sasl_core.specs.Servers.{ServerStage, ExchangeOpen, SignatureShown, UserAuthenticated, exchange_login, stage_of}
use Rattle.fe2o3_sasl_core.specs.declared.server.Claimed.{Claimed}
use Rattle.fe2o3_sasl_core.specs.declared.server.Claimed.TheVariants as claims
use Rattle.fe2o3_sasl_core.specs.declared.server.stage.Move.{Move}
use Rattle.fe2o3_sasl_core.specs.declared.server.stage.Move.TheVariants as moves
use Rattle.fe2o3_sasl_core.specs.declared.server.stage.Stage.TheVariants as stages

-- the signature of the open exchange was sent
abbrev pub signed : ServerStage → ServerStage
signed (ExchangeOpen version plus exchange) = SignatureShown (exchange_login version plus exchange)
signed stage = stage

-- its user, or that of the signature that was sent, has logged in
abbrev pub authenticated : ServerStage → ServerStage
authenticated (ExchangeOpen version plus exchange) = UserAuthenticated (exchange_login version plus exchange)
authenticated (SignatureShown login) = UserAuthenticated login
authenticated stage = stage

-- the stage after this one
abbrev pub after : ServerStage → Move → ServerStage
after stage moves.Stay = stage
after stage (moves.To next) = stage_of next
after stage moves.Sign = signed stage
after stage moves.Authenticate = authenticated stage

-- the move that starts again unless this one moves to a stage
abbrev pub restarted : Move → Move
restarted (moves.To next) = moves.To next
restarted move = moves.To stages.Start

-- the last claim after this one
abbrev pub claimed : Option Attempt → Claimed → Option Attempt
claimed last (claims.ByInit attempt) = Some (attempt_of attempt)
claimed last (claims.Late user) = option_map (λ attempt. with_late attempt (option_map string_bytes user)) last

-- no more HMAC values were made than these
abbrev pub TakesAtMost : (ℕ → Type 0) → ℕ → ℕ → Type 0
TakesAtMost takes before after = (before ≤ after) × ((n : ℕ) → takes n → after ≤ before + n)

-- this many HMAC values were made
abbrev pub TakesExactly : (ℕ → Type 0) → ℕ → ℕ → Type 0
TakesExactly takes before after = (n : ℕ) → takes n → after ≡ before + n
