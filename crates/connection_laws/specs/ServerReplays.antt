-- What a replayed client-final message needs at a server of all mechanisms (RFC 5802, section 5.1). Each statement is the
-- contract of a clause of `server_logins::replays`.
use Rattle.std.specs.Prelude.{◌≡◌, ◌≢◌, ◌+◌, ℕ, Bool, List, length}
use Rattle.fe2o3_scram.specs.declared.hmac.ScramVersion.{ScramVersion}
use Rattle.fe2o3_sasl_core.specs.Servers.{ServerLogin, ServerSettings, sasl_machine}
use Rattle.fe2o3_sasl_negotiation.specs.Connections.{PieceNonceAt}
use Rattle.connection_laws.specs.ConnectionLogins.{HasScramUser, new_server}
use Rattle.connection_laws.specs.Pairs.{AreNonces}
use Rattle.connection_laws.specs.Servers.{ServerBy}

-- a connection of a new server with these settings that has logged a client in by SCRAM: its frames, and what they say
pub record ScramConnection (settings : ServerSettings) : Type 0 where
  pub server : ServerBy sasl_machine (new_server settings)
  pub version : ScramVersion
  pub plus : Bool
  pub login : ServerLogin
  pub has : HasScramUser settings version plus server.connection.events login

-- the nonce with which the challenge was made: that of the init
abbrev pub init_nonce : {settings : ServerSettings} → ScramConnection settings → List ℕ
init_nonce connection = connection.has.logs.init.nonce

-- the nonce of the init is that of the piece in which its last byte arrived: the init is the first frame, after the header of
-- eight bytes. The law `cuts::call_pieces` says which pieces those of calls are
abbrev pub HasInitNonce : {settings : ServerSettings} → ScramConnection settings → Type 0
HasInitNonce connection = PieceNonceAt connection.server.pieces
    (8 + (length connection.has.logs.init.body + 3)) (init_nonce connection)

-- both logins have one nonce of the client and one of the server, and the calls that completed their inits received one nonce
pub record HaveOneNonce {settings other : ServerSettings} (first : ScramConnection settings)
    (second : ScramConnection other) : Type 0 where
  pub client_nonce : first.has.says.client.nonce ≡ second.has.says.client.nonce
  pub server_nonce : init_nonce first ≡ init_nonce second
  pub first_call : HasInitNonce first
  pub second_call : HasInitNonce second

-- one text of a client-final message on which two connections log a client in, each with any settings, means one nonce
abbrev pub RepeatedFinalsMeanOneNonce : Type 0
RepeatedFinalsMeanOneNonce = (settings other : ServerSettings) (first : ScramConnection settings)
    (second : ScramConnection other) → AreNonces first.server.pieces → AreNonces second.server.pieces
    → first.has.final ≡ second.has.final → HaveOneNonce first second

-- if the calls that completed the two inits received two nonces, the two connections log no client in on one text. What other
-- calls received does not matter
abbrev pub ReplayedFinalsAreRejected : Type 0
ReplayedFinalsAreRejected = (settings other : ServerSettings) (first : ScramConnection settings)
    (second : ScramConnection other) → AreNonces first.server.pieces → AreNonces second.server.pieces
    → init_nonce first ≢ init_nonce second → first.has.final ≢ second.has.final
