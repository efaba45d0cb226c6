-- What runs cost, body by body. Each is the contract of a clause of `laws::run_costs`.
use Rattle.std.specs.Prelude.{◌≡◌, ◌≤◌, ◌+◌, ℕ, Option, List, [], ◌∷◌, Result, Ok, Err}
use Rattle.fe2o3_sasl_wire.specs.declared.sasl_frames.error.Error.{Error}
use Rattle.fe2o3_sasl_wire.specs.SaslFrames as frames
use Rattle.fe2o3_sasl_wire.specs.SaslFrames.{SaslFrame}
use Rattle.fe2o3_scram.specs.Credentials.{Provider}
use Rattle.fe2o3_scram.specs.ScramClient.{ClientSide}
use Rattle.fe2o3_scram.specs.ScramServer.{ServerState}
use Rattle.fe2o3_sasl_core.specs.Bodies.{SpellsBody}
use Rattle.fe2o3_sasl_core.specs.Costs.{acceptor_hmacs, AcceptorStepCosts, ProfileStepCosts}
use Rattle.fe2o3_sasl_core.specs.Events.{Given, ServerSays, ClientSays, Refused}
use Rattle.fe2o3_sasl_core.specs.Profiles.{Profile, ScramProfile}
use Rattle.fe2o3_sasl_core.specs.Runs.{Runs, AcceptorSteps, ProfileSteps}
use Rattle.fe2o3_sasl_core.specs.SaslAcceptor.{Acceptor, ScramAcceptor, acceptor_machine}
use Rattle.fe2o3_sasl_core.specs.declared.sasl_profile.error.ProfileError.{ProfileError}

-- a step of an acceptor, with what a meter shows before and after it
abbrev pub MeteredAcceptorSteps : Acceptor × ℕ → Given → ServerSays → Acceptor × ℕ → Type 0
MeteredAcceptorSteps at event says next = AcceptorSteps acceptor_machine at.0 event says next.0
    × AcceptorStepCosts acceptor_hmacs at.0 event at.1 next.1

-- whether a client's reply is an answer, in the form that its cost needs
abbrev pub reply_of : ClientSays → Result (Unit {0}) ProfileError
reply_of (Refused fault) = Err fault
reply_of says = Ok tt

-- a step of a profile, with what a meter shows before and after it
abbrev pub MeteredProfileSteps : Option (List ℕ) → Profile × ℕ → Given → ClientSays → Profile × ℕ → Type 0
MeteredProfileSteps hostname at event says next = ProfileSteps hostname at.0 event says next.0
    × ProfileStepCosts at.0 event (reply_of says) at.1 next.1

-- the maximum of HMAC values that a body costs a server (RFC 5802, section 3): those of a look-up for an init, and two
-- for a response
abbrev pub server_most : Provider → Result SaslFrame Error → ℕ
server_most provider (Ok (frames.Init mechanism response hostname)) = provider.look_up_cost
server_most provider (Ok (frames.Response text)) = 2
server_most provider spelled = 0

-- the maximum of HMAC values that a body costs a client with this limit: for a challenge, as many as the limit and four
-- more
abbrev pub client_most : ℕ → Result SaslFrame Error → ℕ
client_most limit (Ok (frames.Challenge text)) = limit + 4
client_most limit spelled = 0

-- the sum over the bodies of the events
abbrev pub SumsUp : (Result SaslFrame Error → ℕ) → List Given → ℕ → Type 0
SumsUp most [] sum = sum ≡ 0
SumsUp most (event ∷ events) sum = (spelled : Result SaslFrame Error) × (rest : ℕ) × SpellsBody event.body spelled
    × SumsUp most events rest × (sum ≡ most spelled + rest)

-- a run of a SCRAM acceptor over any list of bodies, from any state, costs no more than the sum over its bodies
abbrev pub ServerRunsCost : Type 0
ServerRunsCost = (provider : Provider) (state : ServerState) (events : List Given) (replies : List ServerSays)
    (before after sum : ℕ) (last : Acceptor)
    → Runs MeteredAcceptorSteps (ScramAcceptor provider state, before) events replies (last, after)
    → SumsUp (server_most provider) events sum → (before ≤ after) × (after ≤ before + sum)

-- a run of a SCRAM profile over any list of bodies, from any state, costs no more than the sum over its bodies
abbrev pub ClientRunsCost : Type 0
ClientRunsCost = (hostname : Option (List ℕ)) (client : ClientSide) (events : List Given) (replies : List ClientSays)
    (before after sum : ℕ) (last : Profile)
    → Runs (MeteredProfileSteps hostname) (ScramProfile client, before) events replies (last, after)
    → SumsUp (client_most client.limits.max_iterations) events sum → (before ≤ after) × (after ≤ before + sum)
