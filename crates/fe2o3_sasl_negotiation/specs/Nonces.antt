-- Which calls may use their nonce (RFC 5802, section 5: a client's first message and a server's first message have one).
use Rattle.std.specs.Prelude.{◌≡◌, ℕ, Bool, true, false, Option, List}
use Rattle.fe2o3_sasl_wire.specs.SaslFrames as frames
use Rattle.fe2o3_sasl_wire.specs.SaslFrames.{SaslFrame}
use Rattle.fe2o3_sasl_core.specs.AnyMechanismLaws.{Machine}
use Rattle.fe2o3_sasl_core.specs.Profiles.{Profile}
use Rattle.fe2o3_sasl_negotiation.specs.declared.progress.Expected.{Expected}
use Rattle.fe2o3_sasl_negotiation.specs.declared.progress.Expected.TheVariants.{Frame}
use Rattle.fe2o3_sasl_negotiation.specs.declared.progress.FrameKind.TheVariants as turns
use Rattle.fe2o3_sasl_negotiation.specs.declared.progress.Progress.{Progress}
use Rattle.fe2o3_sasl_negotiation.specs.declared.progress.Progress.TheVariants.{InProgress}
use Rattle.fe2o3_sasl_negotiation.specs.ClientNegotiation.{ClientReceives}
use Rattle.fe2o3_sasl_negotiation.specs.Negotiations.{Side}
use Rattle.fe2o3_sasl_negotiation.specs.ServerNegotiation.{ServerReceives}

-- a server with this progress that expects this may use the nonce of its next call: only an init is answered by the
-- server-first message, which has the server's nonce
abbrev pub server_nonce_at : Progress → Expected → Bool
server_nonce_at InProgress (Frame turns.Init) = true
server_nonce_at other expected = false

-- whether a server may use the nonce of its next call
abbrev pub server_uses_nonce : {S : Type 0} → Side S → Bool
server_uses_nonce side = server_nonce_at side.progress side.expected

-- a client with this progress that expects this may use the nonce of its next call: only the list of mechanisms is
-- answered by an init, whose client-first message has the client's nonce
abbrev pub client_nonce_at : Progress → Expected → Bool
client_nonce_at InProgress (Frame turns.Mechanisms) = true
client_nonce_at other expected = false

-- whether a client may use the nonce of its next call
abbrev pub client_uses_nonce : {S : Type 0} → Side S → Bool
client_uses_nonce side = client_nonce_at side.progress side.expected

-- the answer of a machine to a response is the same with every nonce
abbrev pub IgnoresResponseNonce : {S : Type 0} → Machine S → Type 0
IgnoresResponseNonce {S} machine = (state next : S) (nonce other text : List ℕ) (reply : SaslFrame)
    → machine state nonce (frames.Response text) reply next → machine state other (frames.Response text) reply next

-- a call of a server that uses no nonce does the same with every nonce
abbrev pub ServersIgnoreNonces : {S : Type 0} → (S → List (List ℕ)) → Machine S → Type 0
ServersIgnoreNonces {S} names machine = IgnoresResponseNonce machine
    → (side next : Side S) (bytes nonce other sent : List ℕ) (taken : ℕ) → server_uses_nonce side ≡ false
    → ServerReceives names machine side bytes nonce taken sent next
    → ServerReceives names machine side bytes other taken sent next

-- a call of a client that uses no nonce does the same with every nonce
abbrev pub ClientsIgnoreNonces : Type 0
ClientsIgnoreNonces = (hostname : Option (List ℕ)) (side next : Side Profile) (bytes nonce other sent : List ℕ)
    (taken : ℕ) → client_uses_nonce side ≡ false → ClientReceives hostname side bytes nonce taken sent next
    → ClientReceives hostname side bytes other taken sent next
