-- A SCRAM client and a SCRAM server that receive each other's bytes unaltered log in (RFC 5802, section 5; AMQP 1.0,
-- part 5, section 5.3.2). Each law is the contract of a clause of `unaltered::unaltered`.
use Rattle.std.specs.Prelude.{◌≡◌, ◌≤◌, ◌+◌, ℕ, Some, List, [], ◌++◌, length}
use Rattle.std.specs.List.{AllByRecursion}
use Rattle.fe2o3_scram.specs.ChannelBinding.{cbind_input}
use Rattle.fe2o3_scram.specs.Credentials.{Provider}
use Rattle.fe2o3_scram.specs.Escape.{escaped}
use Rattle.base64.specs.GeneralPurpose.{IsBytes}
use Rattle.fe2o3_scram.specs.ScramServer.{Initial}
use Rattle.fe2o3_sasl_core.specs.ClientHistory.{Answering, OpenAnswer}
use Rattle.fe2o3_sasl_core.specs.Events.{Given, Login, IsLogin, ServerSays, ClientSays, login_header}
use Rattle.fe2o3_sasl_core.specs.Profiles.{Profile, scram_profile}
use Rattle.fe2o3_sasl_core.specs.Runs.{Runs, AcceptorSteps, ProfileSteps}
use Rattle.fe2o3_sasl_core.specs.SaslAcceptor.{Acceptor, ScramAcceptor, acceptor_acting, acceptor_machine, acceptor_names, acceptor_user}
use Rattle.fe2o3_sasl_core.specs.ServerHistory.{Accepted, AcceptsAt}
use Rattle.fe2o3_sasl_core.specs.TwoSides.{Sides, sides_of, client_message, server_message}
use Rattle.fe2o3_sasl_core.specs.UnalteredRuns.{HoldsLogin, NoncesArePrintable, UnalteredRun, LogsIn}
use Rattle.fe2o3_sasl_negotiation.specs.declared.progress.Progress.TheVariants.{Authenticated}
use Rattle.fe2o3_sasl_negotiation.specs.ClientNegotiation.{ClientReceives}
use Rattle.fe2o3_sasl_negotiation.specs.Connections.{Piece, frames_of, ClientNegotiated, ServerNegotiated, fresh}
use Rattle.fe2o3_sasl_negotiation.specs.FrameSizes.{bytes_for, length_of}
use Rattle.fe2o3_sasl_negotiation.specs.Framing.{sasl_header, framed}
use Rattle.fe2o3_sasl_negotiation.specs.Laws.{Call, Calls}
use Rattle.fe2o3_sasl_negotiation.specs.Negotiations.{Side}
use Rattle.fe2o3_sasl_negotiation.specs.ServerNegotiation.{offer_body, ServerReceives}

-- a SCRAM client and a SCRAM server that are joined: each receives what the other sends, the server after the client's
-- header, in whatever calls, and in the end each has taken all of it
pub record Joined (login : Login) (provider : Provider) (client : Side Profile) (server : Side Acceptor) : Type 0 where
  pub client_limit : ℕ
  pub server_limit : ℕ
  pub client_calls : List Call
  pub server_calls : List Call
  pub client_sent : List ℕ
  pub server_sent : List ℕ
  pub client_takes : Calls (ClientReceives login.hostname) (fresh client_limit (scram_profile login)) client_calls
      server_sent client_sent client []
  pub server_takes : Calls (ServerReceives acceptor_names acceptor_machine)
      (fresh server_limit (ScramAcceptor provider Initial)) server_calls (sasl_header ++ client_sent) server_sent
      server []

-- a nonce has 32 bytes
abbrev pub IsNonce : List ℕ → Type 0
IsNonce nonce = IsBytes nonce × (length nonce ≡ 32)

-- the nonce of a call is one
abbrev pub HasNonce : Call → Type 0
HasNonce call = IsNonce call.nonce

-- the texts of a login fit in the frames of SASL (part 5, section 5.3.1): the escaped name and the hostname have at most
-- 412 bytes together, or less by those that the header needs; the salt has at most 285; and the GS2 header with the
-- data of the channel has at most 88
pub record FitsFrames (login : Login) (bytes : List ℕ) : Type 0 where
  pub names : bytes_for (login_header login) + length (escaped login.user) + length_of login.hostname ≤ 412
  pub salt : length bytes ≤ 285
  pub binding : length (cbind_input (login_header login)) ≤ 88

-- both sides take frames of 512 bytes, as AMQP requires, and their nonces have 32 bytes
pub record TakesFrames {login : Login} {provider : Provider} {client : Side Profile} {server : Side Acceptor}
    (joined : Joined login provider client server) : Type 0 where
  pub client_limit : 512 ≤ joined.client_limit
  pub server_limit : 512 ≤ joined.server_limit
  pub client_nonces : AllByRecursion HasNonce joined.client_calls
  pub server_nonces : AllByRecursion HasNonce joined.server_calls

-- what both sides received and said is one unaltered login, in which an audit finds both agreed. The client's open answer
-- and the response that the server accepted have one AuthMessage (RFC 5802, section 3)
pub record OneLogin (sides : Sides) (salt : List ℕ) (count : ℕ) : Type 0 where
  pub unaltered : UnalteredRun sides
  pub logs_in : LogsIn unaltered salt count
  pub answer : Answering
  pub accepted : Accepted
  pub answers : OpenAnswer sides.login sides.client_events sides.client_replies 2 answer
  pub accepts : AcceptsAt sides.provider sides.server_events sides.server_replies 1 accepted
  pub one_message : client_message sides.login answer ≡ server_message accepted

-- both have logged in, and the server names the client's user and the identity that it acts for. Each side went from its
-- first state to its last in a run over the frames of the bytes that the other side sent after its header, and the two runs
-- are one login
pub record BothLogIn {login : Login} {provider : Provider} {client : Side Profile} {server : Side Acceptor}
    (joined : Joined login provider client server) (salt : List ℕ) (count : ℕ) : Type 0 where
  pub client_events : List Given
  pub client_replies : List ClientSays
  pub server_events : List Given
  pub server_replies : List ServerSays
  pub client_progress : client.progress ≡ Authenticated
  pub server_progress : server.progress ≡ Authenticated
  pub user : acceptor_user server.state ≡ Some login.user
  pub identity : acceptor_acting server.state ≡ login.acts_for
  pub client_received : joined.server_sent ≡ sasl_header ++ frames_of client_events
  pub server_received : joined.client_sent ≡ frames_of server_events
  pub client_run : Runs (ProfileSteps login.hostname) (scram_profile login) client_events client_replies client.state
  pub server_run : Runs (AcceptorSteps acceptor_machine) (ScramAcceptor provider Initial) server_events server_replies
      server.state
  pub one_login : OneLogin (sides_of login client_events client_replies provider server_events server_replies) salt count

-- a client and a server that are joined both log in, if the server holds a record that the client's secret opens. The
-- premises are about the options of both sides, the record, the limits of frames, the pieces and the nonces of the calls:
-- none is about what a call returns
abbrev pub UnalteredSidesLogIn : Type 0
UnalteredSidesLogIn = (login : Login) (provider : Provider) (password salt : List ℕ) (count : ℕ) (client : Side Profile)
    (server : Side Acceptor) (joined : Joined login provider client server) → IsLogin login
    → HoldsLogin (sides_of login [] [] provider [] []) password salt count → FitsFrames login salt → TakesFrames joined
    → BothLogIn joined salt count

-- the events and the replies of any two negotiations that these sides are over their bytes, the server's after its offer,
-- are one login
abbrev pub NegotiationsAgree : Type 0
NegotiationsAgree = (login : Login) (provider : Provider) (password salt : List ℕ) (count : ℕ) (client : Side Profile)
    (server : Side Acceptor) (joined : Joined login provider client server) → IsLogin login
    → HoldsLogin (sides_of login [] [] provider [] []) password salt count → FitsFrames login salt → TakesFrames joined
    → (client_pieces server_pieces : List Piece) (offer out : List ℕ)
    → offer_body (acceptor_names (ScramAcceptor provider Initial)) ≡ Some offer
    → joined.server_sent ≡ sasl_header ++ (framed offer ++ out)
    → (mine : ClientNegotiated (ProfileSteps login.hostname) joined.client_limit (scram_profile login)
    client_pieces joined.server_sent joined.client_sent client)
    (theirs : ServerNegotiated acceptor_machine joined.server_limit (ScramAcceptor provider Initial) server_pieces
    (sasl_header ++ joined.client_sent) out server)
    → NoncesArePrintable provider.rules.strict mine.events → NoncesArePrintable login.strict theirs.events
    → OneLogin (sides_of login mine.events mine.replies provider theirs.events theirs.replies) salt count
