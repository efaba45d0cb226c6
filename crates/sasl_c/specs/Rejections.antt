-- Why a server rejects a login, for its log (AMQP 1.0, part 5, section 5.3.3.6): the peer receives the outcome Auth without
-- data for each reason.
use Rattle.std.specs.Prelude.{◌≡◌, ◌≢◌, ℕ, Option, Some, None, MatchOption, List}
use Rattle.fe2o3_sasl_wire.specs.declared.amqp_types.SaslCode.TheVariants as outcomes
use Rattle.fe2o3_sasl_wire.specs.SaslFrames.{SaslFrame}
use Rattle.fe2o3_sasl_core.specs.SaslAcceptor.{ends_with}
use Rattle.fe2o3_sasl_core.specs.declared.rejection.Rejection.{Rejection}
use Rattle.fe2o3_sasl_core.specs.declared.rejection.Rejection.TheVariants as reasons
use Rattle.fe2o3_sasl_core.specs.Servers.{ServerAt, rejection_of_server, sasl_machine, sasl_names, sasl_reasons, sasl_server}
use Rattle.sasl_c.specs.Status.{server_number}
use Rattle.sasl_c.specs.declared.rejections.LoggedServer.{LoggedServer}

-- the number of a reason: that of an error of a SCRAM message is the status of that error
abbrev pub reason_number : Rejection → ℕ
reason_number reasons.MechanismNotOffered = 101
reason_number reasons.NoInitialResponse = 102
reason_number reasons.InvalidMessage = 103
reason_number (reasons.Scram kind) = server_number kind
reason_number reasons.Channel = 104
reason_number reasons.UnknownUser = 105
reason_number reasons.NoRecordForHash = 106
reason_number reasons.NoRight = 107
reason_number reasons.WrongProof = 108
reason_number reasons.WrongPassword = 109
reason_number reasons.OtherIdentity = 110
reason_number reasons.UnexpectedInit = 111
reason_number reasons.UnexpectedResponse = 112
reason_number reasons.Other = 113

-- the number of the reason of a reply, 0 if it has none
abbrev pub rejection_number : Option Rejection → ℕ
rejection_number None = 0
rejection_number (Some reason) = reason_number reason

-- a server in its state, and why its last reply rejects the login
pub record Logged : Type 0 where
  pub server : ServerAt
  pub rejection : Option Rejection

-- the reason of a reply: an outcome Auth without data has one of these, and no other reply has one
abbrev pub IsReasonOf : (Rejection → Type 0) → SaslFrame → Option Rejection → Type 0
IsReasonOf Reasons reply rejection = MatchOption rejection (reply ≢ ends_with outcomes.Auth)
    (λ reason. (reply ≡ ends_with outcomes.Auth) × Reasons reason)

-- its machine: that of the server, and the reason is that of the reply
abbrev pub server_machine : Logged → List ℕ → SaslFrame → SaslFrame → Logged → Type 0
server_machine logged nonce frame reply next = sasl_machine logged.server nonce frame reply next.server
    × IsReasonOf (sasl_reasons logged.server frame) reply next.rejection

-- the names of its mechanisms
abbrev pub server_names : Logged → List (List ℕ)
server_names logged = sasl_names logged.server.settings

-- ---- the code's values

-- the server that a value is
abbrev pub state_of : LoggedServer → Logged
state_of logged = record { server = sasl_server logged.server; rejection = rejection_of_server logged.server }
