-- What a step means to its caller, in the words of the headline. Each is the contract of a clause of `laws::steps`.
use Rattle.std.specs.Prelude.{◌≡◌, ◌⊎◌, ℕ, Bool, true, Option, Some, None, List, Ok}
use Rattle.fe2o3_sasl_wire.specs.declared.amqp_types.SaslCode.TheVariants as outcomes
use Rattle.fe2o3_sasl_wire.specs.SaslFrames as frames
use Rattle.fe2o3_scram.specs.declared.scram_messages.server_rules.ServerRules.{ServerRules}
use Rattle.fe2o3_scram.specs.ActingRights.{Rights}
use Rattle.fe2o3_scram.specs.ClientKeys.{ClientKeys}
use Rattle.fe2o3_scram.specs.Credentials.{Provider}
use Rattle.fe2o3_scram.specs.declared.hmac.ScramVersion.{ScramVersion}
use Rattle.fe2o3_scram.specs.Logins.{TextLogsIn, IsSigned}
use Rattle.fe2o3_scram.specs.ScramClient.{ClientSide, ClientState, SignatureVerified, is_strict_client}
use Rattle.fe2o3_scram.specs.ScramServer.{ServerState, ServerFinalSent}
use Rattle.fe2o3_sasl_core.specs.Bodies.{SpellsBody}
use Rattle.fe2o3_sasl_core.specs.Events.{Given, ClientSays, Answered, Concluded, Reported}
use Rattle.fe2o3_sasl_core.specs.Profiles.{Profile, ScramProfile}
use Rattle.fe2o3_sasl_core.specs.Runs.{AcceptorSteps, ProfileSteps}
use Rattle.fe2o3_sasl_core.specs.SaslAcceptor.{Acceptor, ScramAcceptor, acceptor_machine}

-- the body is a response that logs this user in, for this identity or for itself (RFC 5802, section 5; RFC 4422, section 2)
abbrev pub BodyLogsIn : ScramVersion → ServerRules → Rights → ServerState → List ℕ → List ℕ → Option (List ℕ) → Type 0
BodyLogsIn version rules rights state body user acts_for = (text : List ℕ) × SpellsBody body (Ok (frames.Response text))
    × TextLogsIn version rules rights state text user acts_for

-- a SCRAM acceptor answers Ok only to a body that logs a user in, and then names that user and the identity that it acts
-- for
abbrev pub OksLogIn : Type 0
OksLogIn = (provider : Provider) (state : ServerState) (event : Given) (body : List ℕ) (next : Acceptor)
    → AcceptorSteps acceptor_machine (ScramAcceptor provider state) event (Concluded outcomes.Ok body) next
    → (user : List ℕ) × (acts_for : Option (List ℕ))
    × BodyLogsIn provider.version provider.rules provider.rights state event.body user acts_for
    × (next ≡ ScramAcceptor provider (ServerFinalSent user acts_for))

-- an outcome Ok with this data shows a SCRAM client in this state, strict or not, the signature that it waits for (RFC
-- 5802, section 5);
-- without data it may come only after a challenge that showed it (RFC 4422, section 5)
abbrev pub ShowsSignature : Bool → ClientState → Option (List ℕ) → Type 0
ShowsSignature strict state (Some text) = IsSigned strict state text
ShowsSignature strict state None = (keys : Option ClientKeys) × (state ≡ SignatureVerified keys)

-- a SCRAM profile reports Ok only on an outcome Ok that shows the signature, with this data
abbrev pub ReportedOksAreSigned : Type 0
ReportedOksAreSigned = (hostname : Option (List ℕ)) (client : ClientSide) (event : Given) (more : Option (List ℕ))
    (next : Profile) → ProfileSteps hostname (ScramProfile client) event (Reported outcomes.Ok more) next
    → SpellsBody event.body (Ok (frames.Outcome outcomes.Ok more)) × ShowsSignature (is_strict_client client) client.state more

-- a SCRAM profile waits for an outcome without data only after a challenge with the signature that it waits for, which it
-- answers by a response
abbrev pub VerifiedOnSignature : Type 0
VerifiedOnSignature = (hostname : Option (List ℕ)) (client next : ClientSide) (event : Given) (says : ClientSays)
    (keys : Option ClientKeys) → ProfileSteps hostname (ScramProfile client) event says (ScramProfile next)
    → next.state ≡ SignatureVerified keys
    → (next ≡ client)
    ⊎ ((text : List ℕ) × (body : List ℕ) × SpellsBody event.body (Ok (frames.Challenge text))
    × IsSigned (is_strict_client client) client.state text × (client.signature_by_challenge ≡ true) × (says ≡ Answered body))
