-- What the bytes of two connections say of both (RFC 5802, sections 3 and 5; AMQP 1.0, part 5, section 5.3). Each law
-- is the contract of a clause in `pairs`.
use Rattle.std.specs.Prelude.{◌≡◌, ◌≢◌, ◌⊎◌, ℕ, suc, ◌+◌, ◌≤◌, false, Option, Some, List, ◌++◌, length, slice_get, Ok}
use Rattle.std.specs.List.{Contains}
use Rattle.fe2o3_sasl_wire.specs.declared.amqp_types.SaslCode.TheVariants as outcomes
use Rattle.fe2o3_sasl_wire.specs.SaslFrames as frames
use Rattle.fe2o3_sasl_wire.specs.SaslFrames.{IsBytes}
use Rattle.fe2o3_scram.specs.BoundChannels.{BindOne}
use Rattle.fe2o3_scram.specs.ChannelBinding.{AcceptsFlag}
use Rattle.fe2o3_scram.specs.Credentials.{Provider}
use Rattle.fe2o3_scram.specs.declared.scram_messages.channel_binding_flag.ChannelBindingFlag.TheVariants.{ClientSupports}
use Rattle.fe2o3_scram.specs.declared.scram_messages.client_channel.ClientChannel.TheVariants.{Absent}
use Rattle.fe2o3_scram.specs.ScramServer.{Initial}
use Rattle.fe2o3_scram.specs.Texts.{Part}
use Rattle.fe2o3_sasl_core.specs.Bodies.{SpellsBody}
use Rattle.fe2o3_sasl_core.specs.ClientHistory.{Answering}
use Rattle.fe2o3_sasl_core.specs.Events.{Given, Login, IsLogin, IsSecret, Concluded, Reported}
use Rattle.fe2o3_sasl_core.specs.Headline.{VerifierAgrees}
use Rattle.fe2o3_sasl_core.specs.Laws.{HoldsRecords}
use Rattle.fe2o3_sasl_core.specs.Positions.{IsLastOpen}
use Rattle.fe2o3_sasl_core.specs.Profiles.{Profile, scram_profile}
use Rattle.fe2o3_sasl_core.specs.Runs.{ProfileSteps}
use Rattle.fe2o3_sasl_core.specs.SaslAcceptor.{ScramAcceptor, acceptor_names, acceptor_machine, acceptor_user}
use Rattle.fe2o3_sasl_core.specs.ServerHistory.{Accepted, AcceptsAt, final_message, is_challenge, is_ok}
use Rattle.fe2o3_sasl_core.specs.TwoSides.{Sides, sides_of, OkAt, VerifierText, ReportedAnswer, Takes, Shows, Agree, MessagesCollide, client_message, server_message, keys_at}
use Rattle.fe2o3_sasl_core.specs.UnalteredRuns.{HoldsLogin, NoncesArePrintable}
use Rattle.fe2o3_sasl_core.specs.Verdicts.{Verdict, Agreed, JudgesProof}
use Rattle.fe2o3_sasl_negotiation.specs.declared.progress.Progress.TheVariants.{Authenticated}
use Rattle.fe2o3_sasl_negotiation.specs.Connections.{Piece, ClientNegotiated}
use Rattle.fe2o3_sasl_negotiation.specs.Framing.{sasl_header, framed}
use Rattle.fe2o3_sasl_negotiation.specs.Negotiations.{Side}
use Rattle.fe2o3_sasl_negotiation.specs.ServerNegotiation.{offer_body}
use Rattle.connection_laws.specs.Servers.{ServerBy}

-- a connection of a SCRAM client of this login, after the server's header, over any bytes in any pieces
pub record ClientOf (login : Login) : Type 0 where
  pub limit : ℕ
  pub pieces : List Piece
  pub taken : List ℕ
  pub sent : List ℕ
  pub last : Side Profile
  pub connection : ClientNegotiated (ProfileSteps login.hostname) limit (scram_profile login) pieces taken sent last

-- a connection of a SCRAM server over this provider, after the client's header, over any bytes in any pieces
abbrev pub ServerOf : Provider → Type 0
ServerOf provider = ServerBy acceptor_machine (ScramAcceptor provider Initial)

-- the frame bodies and the replies of both
abbrev pub sides : {login : Login} {provider : Provider} → ClientOf login → ServerOf provider → Sides
sides {login} {provider} client server = sides_of login client.connection.events client.connection.replies provider
    server.connection.events server.connection.replies

-- ---- from the server to the client

-- the client's last reply is at m, and reports an Ok on the server-final message in this text: the data of the outcome,
-- or without data the challenge that the client answered last. Only a login that accepts that reports Ok without data
pub record ReportsLast {login : Login} (client : ClientOf login) (m : ℕ) (text : List ℕ) : Type 0 where
  pub more : Option (List ℕ)
  pub last : suc m ≡ length client.connection.replies
  pub reported : slice_get client.connection.replies m ≡ Some (Reported outcomes.Ok more)
  pub verifier : VerifierText client.connection.events client.connection.replies m more text
  pub with_data : login.signature_by_challenge ≡ false → more ≡ Some text

-- a client that has logged in did so on the text of one outcome Ok or of one challenge. If the first part of this text,
-- the verifier (RFC 5802, section 7), is the server-final message of an Ok of the server, both agree, or their own
-- differing AuthMessages share one HMAC value. Unaltered connections meet the premises: `TakesEqually`
abbrev pub LoggedInClientsAgree : Type 0
LoggedInClientsAgree = (login : Login) (provider : Provider) (client : ClientOf login) (server : ServerOf provider)
    → HoldsRecords provider → client.last.progress ≡ Authenticated
    → (m : ℕ) × (text : List ℕ) × ReportsLast client m text
    × ((n : ℕ) (accepted : Accepted) → OkAt (sides client server) n accepted
    → Part text 0 (final_message provider accepted) → VerifierAgrees (sides client server) m accepted)

-- ---- from the client to the server

-- the server's last reply is at n, an Ok to this text of a response that it accepts, and the server names the user of
-- the challenge that the response answers
pub record AcceptsLast {provider : Provider} (server : ServerOf provider) (n : ℕ) (text : List ℕ) (accepted : Accepted)
    : Type 0 where
  pub event : Given
  pub body : List ℕ
  pub last : suc n ≡ length server.connection.replies
  pub at : slice_get server.connection.events n ≡ Some event
  pub spells : SpellsBody event.body (Ok (frames.Response text))
  pub says : slice_get server.connection.replies n ≡ Some (Concluded outcomes.Ok body)
  pub accepts : AcceptsAt provider server.connection.events server.connection.replies n accepted
  pub user : acceptor_user server.last.state ≡ Some accepted.challenge.client.user

-- a server that has logged a client in did so on one response
abbrev pub LoggedInServersAccept : Type 0
LoggedInServersAccept = (provider : Provider) (server : ServerOf provider) → server.last.progress ≡ Authenticated
    → (n : ℕ) × (text : List ℕ) × (accepted : Accepted) × AcceptsLast server n text accepted

-- if the client's connection showed the proof of that response, the proof has a verdict: both agree; or the client's
-- key is not the one whose digest the server stores; or their own differing keys have one digest, or their own
-- differing AuthMessages one HMAC value. Unaltered connections meet the premises: `ShowsEqually`
abbrev pub AcceptedProofsAreJudged : Type 0
AcceptedProofsAreJudged = (login : Login) (provider : Provider) (client : ClientOf login) (server : ServerOf provider)
    (n : ℕ) (text : List ℕ) (accepted : Accepted) → IsSecret login.secret → HoldsRecords provider
    → AcceptsLast server n text accepted
    → (k : ℕ) (answer : Answering) → Shows (sides client server) k n answer accepted
    → (verdict : Verdict) × JudgesProof (sides client server) answer accepted verdict

-- ---- two channels

-- both sides bind one channel, or their own differing AuthMessages share one HMAC value, each under its side's server key
abbrev pub BindOneOrCollide : Sides → Answering → Accepted → Type 0
BindOneOrCollide sides answer accepted = BindOne sides.login.channel sides.provider
    ⊎ MessagesCollide sides answer accepted (keys_at sides.login answer).server_key accepted.challenge.stored.server_key

-- a client that has a channel logged in, whatever mechanisms its server seemed to offer. If it verified the message by which
-- a server accepted that takes no `y,,`, both bind one channel, or their AuthMessages collide (RFC 5802, section 6)
abbrev pub LoggedInClientsBindOneChannel : Type 0
LoggedInClientsBindOneChannel = (login : Login) (provider : Provider) (client : ClientOf login)
    (server : ServerOf provider) → IsLogin login → HoldsRecords provider
    → login.channel ≢ Absent → ¬ AcceptsFlag provider.rules ClientSupports → client.last.progress ≡ Authenticated
    → (m : ℕ) × (text : List ℕ) × ReportsLast client m text
    × ((n : ℕ) (accepted : Accepted) → OkAt (sides client server) n accepted
    → Part text 0 (final_message provider accepted)
    → (answer : Answering) × ReportedAnswer login client.connection.events client.connection.replies m answer
    × BindOneOrCollide (sides client server) answer accepted)

-- what holds if a verdict says that both sides agree
abbrev pub IfAgreed : Type 0 → Verdict → Type 0
IfAgreed Holds (Agreed user nonce parameters) = Holds
IfAgreed Holds verdict = Unit {0}

-- a server that takes no `y,,` accepted the proof that a client with a channel showed. If the verdict on the proof is that
-- both agree, both bind one channel. So someone who has a channel to each of them cannot log in by the client's proof
abbrev pub AcceptedProofsBindOneChannel : Type 0
AcceptedProofsBindOneChannel = (login : Login) (provider : Provider) (client : ClientOf login) (server : ServerOf provider)
    (n : ℕ) (text : List ℕ) (accepted : Accepted) → IsLogin login → IsSecret login.secret → HoldsRecords provider
    → login.channel ≢ Absent → ¬ AcceptsFlag provider.rules ClientSupports → AcceptsLast server n text accepted
    → (k : ℕ) (answer : Answering) → Shows (sides client server) k n answer accepted
    → (verdict : Verdict) × JudgesProof (sides client server) answer accepted verdict
    × IfAgreed (BindOne login.channel provider) verdict

-- ---- from one server to another

-- each nonce that a call received is 32 bytes
abbrev pub AreNonces : List Piece → Type 0
AreNonces pieces = (piece : Piece) → Contains pieces piece → IsBytes piece.nonce × (length piece.nonce ≡ 32)

-- the challenge that is open at n was made with the nonce that this call received: the nonce of the init, which is that
-- of the call that completed it (`AreFrames`)
abbrev pub ChallengesWith : {provider : Provider} → ServerOf provider → ℕ → Piece → Type 0
ChallengesWith server n piece = Contains server.pieces piece × ((j : ℕ)
    × IsLastOpen is_challenge is_ok server.connection.replies n j
    × ((event : Given) × (slice_get server.connection.events j ≡ Some event) × (piece.nonce ≡ event.nonce)))

-- both challenges have one nonce of the client and one of the server (RFC 5802, section 5.1), and the calls that
-- completed their inits received one nonce
pub record OneNonce {provider other : Provider} (server : ServerOf provider) (again : ServerOf other) (n m : ℕ)
    (accepted repeated : Accepted) : Type 0 where
  pub client_nonce : accepted.challenge.client.nonce ≡ repeated.challenge.client.nonce
  pub server_nonce : accepted.challenge.nonce ≡ repeated.challenge.nonce
  pub first : Piece
  pub second : Piece
  pub first_call : ChallengesWith server n first
  pub second_call : ChallengesWith again m second
  pub same : first.nonce ≡ second.nonce

-- one text of a response on which two connections of servers log a client in, each over any provider, means one nonce.
-- One connection, taken twice, meets the premises
abbrev pub RepeatedResponsesMeanOneNonce : Type 0
RepeatedResponsesMeanOneNonce = (provider other : Provider) (server : ServerOf provider) (again : ServerOf other)
    (n m : ℕ) (text : List ℕ) (accepted repeated : Accepted) → AreNonces server.pieces → AreNonces again.pieces
    → AcceptsLast server n text accepted → AcceptsLast again m text repeated
    → OneNonce server again n m accepted repeated

-- no call of one connection received a nonce that a call of the other received
abbrev pub NoncesDiffer : List Piece → List Piece → Type 0
NoncesDiffer pieces others = (piece other : Piece) → Contains pieces piece → Contains others other
    → piece.nonce ≢ other.nonce

-- a connection with new nonces logs nobody in on a response that another connection accepted
abbrev pub ReplaysAreRejected : Type 0
ReplaysAreRejected = (provider other : Provider) (server : ServerOf provider) (again : ServerOf other) (n m : ℕ)
    (text : List ℕ) (accepted repeated : Accepted) → AreNonces server.pieces → AreNonces again.pieces
    → NoncesDiffer server.pieces again.pieces → AcceptsLast server n text accepted
    → ¬ AcceptsLast again m text repeated

-- ---- where nothing is altered

-- the bytes arrive as they were sent, after both headers: the client takes the server's list of mechanisms and what
-- the server sends after it, and the server takes what the client sends; each nonce of 32 bytes is printable
pub record Unaltered {login : Login} {provider : Provider} (client : ClientOf login) (server : ServerOf provider)
    : Type 0 where
  pub offer : List ℕ
  pub offered : offer_body (acceptor_names (ScramAcceptor provider Initial)) ≡ Some offer
  pub small : length offer + 4 ≤ 512
  pub to_client : client.taken ≡ sasl_header ++ (framed offer ++ server.sent)
  pub to_server : server.taken ≡ sasl_header ++ client.sent
  pub client_nonces : NoncesArePrintable provider.rules.strict client.connection.events
  pub server_nonces : NoncesArePrintable login.strict server.connection.events

-- the AuthMessages are equal and both agree
abbrev pub MeanOneLogin : Login → Provider → Answering → Accepted → Type 0
MeanOneLogin login provider answer accepted =
    (client_message login answer ≡ server_message accepted) × Agree login provider answer accepted

-- the client took a verifier that the server issued, and the AuthMessages are equal
abbrev pub TakesEqually : Login → Provider → Sides → Type 0
TakesEqually login provider sides = (m : ℕ) × (n : ℕ) × (answer : Answering) × (accepted : Accepted)
    × Takes sides m n accepted × ReportedAnswer sides.login sides.client_events sides.client_replies m answer
    × MeanOneLogin login provider answer accepted

-- the client showed a proof that the server accepted, and the AuthMessages are equal
abbrev pub ShowsEqually : Login → Provider → Sides → Type 0
ShowsEqually login provider sides = (k : ℕ) × (n : ℕ) × (answer : Answering) × (accepted : Accepted)
    × Shows sides k n answer accepted × MeanOneLogin login provider answer accepted

-- where both have logged in over unaltered bytes, the server with a record that the client's secret opens, their
-- AuthMessages are equal. The law `unaltered` says where both log in
abbrev pub UnalteredConnectionsAgree : Type 0
UnalteredConnectionsAgree = (login : Login) (provider : Provider) (client : ClientOf login) (server : ServerOf provider)
    (password salt : List ℕ) (count : ℕ) → IsLogin login → HoldsLogin (sides client server) password salt count
    → Unaltered client server → client.last.progress ≡ Authenticated → server.last.progress ≡ Authenticated
    → TakesEqually login provider (sides client server) × ShowsEqually login provider (sides client server)
