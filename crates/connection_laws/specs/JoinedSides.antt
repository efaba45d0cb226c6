-- The premises of the law `unaltered::unaltered` can be met. Each law is the contract of a clause of
-- `joined::joined_sides`.
use Rattle.std.specs.Prelude.{◌≡◌, ◌⊎◌, ◌≤◌, ℕ, Some, List, [], codes, length, replicate}
use Rattle.std.specs.List.{AllByRecursion}
use Rattle.fe2o3_scram.specs.Credentials.{Provider}
use Rattle.fe2o3_sasl.specs.examples.Examples.{login as user_login, provider as user_provider, salt as user_salt, client_bytes, server_bytes}
use Rattle.fe2o3_sasl_core.specs.Events.{Login, IsLogin}
use Rattle.fe2o3_sasl_core.specs.Profiles.{Profile}
use Rattle.fe2o3_sasl_core.specs.SaslAcceptor.{Acceptor, acceptor_acting, acceptor_user}
use Rattle.fe2o3_sasl_core.specs.TwoSides.{sides_of}
use Rattle.fe2o3_sasl_core.specs.UnalteredRuns.{HoldsLogin}
use Rattle.fe2o3_sasl_negotiation.specs.declared.progress.Progress.TheVariants.{Authenticated}
use Rattle.fe2o3_sasl_negotiation.specs.Laws.{Call}
use Rattle.fe2o3_sasl_negotiation.specs.Negotiations.{Side}
use Rattle.connection_laws.specs.Unaltered.{HasNonce, FitsFrames, Joined, TakesFrames}

-- the calls can take this many bytes, in this many units of at most 512 bytes: each call is passed a byte or more, and
-- there is one for each byte; or each is passed 512 bytes or more, and there is one for each unit
abbrev pub AreEnough : ℕ → ℕ → List Call → Type 0
AreEnough bytes units calls =
    (AllByRecursion (λ (call : Call). 1 ≤ call.handed) calls × (bytes ≤ length calls))
    ⊎ (AllByRecursion (λ (call : Call). 512 ≤ call.handed) calls × (units ≤ length calls))

-- a client and a server that are joined, with these limits and these calls. Both meet the premises of
-- `UnalteredSidesLogIn` on limits and nonces, and have logged in. The server names the client's user
-- and the identity that it acts for
pub record JoinedSides (login : Login) (provider : Provider) (client_limit server_limit : ℕ)
    (client_calls server_calls : List Call) : Type 0 where
  pub client : Side Profile
  pub server : Side Acceptor
  pub joined : Joined login provider client server
  pub client_limited : joined.client_limit ≡ client_limit
  pub server_limited : joined.server_limit ≡ server_limit
  pub client_called : joined.client_calls ≡ client_calls
  pub server_called : joined.server_calls ≡ server_calls
  pub takes : TakesFrames joined
  pub client_progress : client.progress ≡ Authenticated
  pub server_progress : server.progress ≡ Authenticated
  pub user : acceptor_user server.state ≡ Some login.user
  pub identity : acceptor_acting server.state ≡ login.acts_for

-- for each login, provider, limits and calls that meet the premises of `UnalteredSidesLogIn` on them, two sides are
-- joined, in the pieces in which these calls take the bytes. The client's calls are enough for a header of 8 bytes, a list
-- of mechanisms, a challenge and an outcome, and the server's for a header, an init and a response (AMQP 1.0, part 5,
-- section 5.3.2)
abbrev pub JoinedSidesExist : Type 0
JoinedSidesExist = (login : Login) (provider : Provider) (password salt : List ℕ) (count client_limit server_limit : ℕ)
    (client_calls server_calls : List Call) → IsLogin login
    → HoldsLogin (sides_of login [] [] provider [] []) password salt count → FitsFrames login salt
    → 512 ≤ client_limit → 512 ≤ server_limit → AllByRecursion HasNonce client_calls
    → AllByRecursion HasNonce server_calls → AreEnough 1544 4 client_calls → AreEnough 1032 3 server_calls
    → JoinedSides login provider client_limit server_limit client_calls server_calls

-- ---- a worked example

-- this many calls, each of which is passed at most this many bytes, and this nonce
abbrev pub equal_calls : ℕ → ℕ → List ℕ → List Call
equal_calls n handed nonce = replicate n (record { handed = handed; nonce = nonce })

-- one login meets all premises: that of the worked examples of `fe2o3_sasl`. The user "user" logs in with the password
-- "pencil" and SCRAM-SHA-256. The record has 32 bytes of salt and the count 4096. Both limits are 512. Two sides of this
-- login are joined unit by unit, by four calls of the client and three of the server; and two are joined byte by byte
pub record UserLogsIn : Type 0 where
  pub is_login : IsLogin user_login
  pub holds : HoldsLogin (sides_of user_login [] [] user_provider [] []) (codes "pencil") user_salt 4096
  pub fits : FitsFrames user_login user_salt
  pub by_units : JoinedSides user_login user_provider 512 512 (equal_calls 4 512 client_bytes)
      (equal_calls 3 512 server_bytes)
  pub by_bytes : JoinedSides user_login user_provider 512 512 (equal_calls 1544 1 client_bytes)
      (equal_calls 1032 1 server_bytes)
