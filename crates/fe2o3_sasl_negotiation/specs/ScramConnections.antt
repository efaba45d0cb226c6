-- The headline theorem over the bytes of a connection: what the frames and replies of every negotiation of a SCRAM server
-- and of a SCRAM client have (RFC 5802, section 5). Each law is the contract of a clause of `laws::server_connections` or
-- of `laws::client_connections`, which says what the machine is, what its first state is, and what user a state names.
use Rattle.std.specs.Prelude.{◌≡◌, ◌↔◌, ℕ, Option, Some, List, length}
use Rattle.fe2o3_sasl_wire.specs.SaslFrames.{SaslFrame}
use Rattle.fe2o3_scram.specs.Credentials.{Provider}
use Rattle.fe2o3_sasl_core.specs.ClientHistory.{ClientHistory}
use Rattle.fe2o3_sasl_core.specs.Events.{Given, Login, ServerSays, ClientSays}
use Rattle.fe2o3_sasl_core.specs.Headline.{AnswersOkExactly, ReportsOkExactly, TakenVerifiersAgree}
use Rattle.fe2o3_sasl_core.specs.Profiles.{Profile}
use Rattle.fe2o3_sasl_core.specs.ServerHistory.{ServerHistory, LoggedIn}
use Rattle.fe2o3_sasl_negotiation.specs.Connections.{Piece, ServerNegotiated, ClientNegotiated}
use Rattle.fe2o3_sasl_negotiation.specs.Negotiations.{Side}

-- a SCRAM server answers Ok exactly to a response that fits its open challenge and whose proof meets the stored key, and
-- names the user of that challenge
pub record ScramServes (provider : Provider) (events : List Given) (replies : List ServerSays) (named : Option (List ℕ))
    : Type 0 where
  pub history : ServerHistory provider events replies
  pub exactly : AnswersOkExactly provider events replies
  pub user : (user : List ℕ) → (named ≡ Some user) ↔ LoggedIn provider events replies (length replies) user

-- a SCRAM client reports Ok exactly on the signature of its open answered challenge, and on each verifier that it took and
-- a server issued both sides agree
pub record ScramReports (login : Login) (events : List Given) (replies : List ClientSays) : Type 0 where
  pub history : ClientHistory login events replies
  pub exactly : ReportsOkExactly login events replies
  pub agreement : TakenVerifiersAgree login events replies

-- every new server of this machine
abbrev pub ScramServersServe : {S : Type 0} → (S → List ℕ → SaslFrame → SaslFrame → S → Type 0) → (Provider → S)
    → (S → Option (List ℕ)) → Type 0
ScramServersServe {S} machine start named = (provider : Provider) (limit : ℕ) (pieces : List Piece)
    (taken sent : List ℕ) (last : Side S)
    (negotiated : ServerNegotiated machine limit (start provider) pieces taken sent last)
    → ScramServes provider negotiated.events negotiated.replies (named last.state)

-- every client of these steps
abbrev pub ScramClientsReport : (Option (List ℕ) → Profile → Given → ClientSays → Profile → Type 0) → (Login → Profile)
    → Type 0
ScramClientsReport Steps start = (login : Login) (limit : ℕ) (pieces : List Piece) (taken sent : List ℕ)
    (last : Side Profile)
    (negotiated : ClientNegotiated (Steps login.hostname) limit (start login) pieces taken sent last)
    → ScramReports login negotiated.events negotiated.replies
