-- What a connection costs whose calls run out of memory and are repeated. Each is the contract of a clause of
-- `retries::retries`.
use Rattle.std.specs.Prelude.{◌≡◌, ◌⊎◌, ◌≤◌, ◌+◌, ◌*◌, ℕ, suc, Option, List, [], ◌∷◌, take, drop}
use Rattle.fe2o3_scram.specs.Credentials.{Provider}
use Rattle.fe2o3_scram.specs.ScramClient.{ClientSide}
use Rattle.fe2o3_scram.specs.ScramServer.{ServerState}
use Rattle.fe2o3_sasl_core.specs.Costs.{acceptor_hmacs}
use Rattle.fe2o3_sasl_core.specs.Profiles.{ScramProfile}
use Rattle.fe2o3_sasl_core.specs.SaslAcceptor.{ScramAcceptor, acceptor_names, acceptor_machine}
use Rattle.fe2o3_sasl_negotiation.specs.declared.progress.Expected.{Expected}
use Rattle.fe2o3_sasl_negotiation.specs.ClientNegotiation.{ClientSideAnswers, ClientCosts}
use Rattle.fe2o3_sasl_negotiation.specs.Connections.{fresh}
use Rattle.fe2o3_sasl_negotiation.specs.Laws.{Call}
use Rattle.fe2o3_sasl_negotiation.specs.Negotiations.{Side, SideOutput, Receives}
use Rattle.fe2o3_sasl_negotiation.specs.ServerNegotiation.{ServerSideAnswers, ServerCosts}

-- calls over a stream, of which this many run out of memory, with what one meter shows before and after them: such a
-- call leaves the side and the stream unchanged, and its cost stays on the meter
abbrev pub RetriedCalls : {S : Type 0} → (Expected → S → List ℕ → List ℕ → SideOutput → S → Type 0)
    → (Side S → List ℕ → List ℕ → ℕ → ℕ → Type 0) → Side S → List Call → List ℕ → ℕ → ℕ → ℕ → Type 0
RetriedCalls Answers Costs side [] stream failed before after = (failed ≡ 0) × (after ≡ before)
RetriedCalls {S} Answers Costs side (call ∷ calls) stream failed before after = (between : ℕ)
    × Costs side (take call.handed stream) call.nonce before between
    × (((fewer : ℕ) × (failed ≡ suc fewer) × RetriedCalls Answers Costs side calls stream fewer between after)
    ⊎ ((taken : ℕ) × (sent : List ℕ) × (next : Side S)
    × Receives Answers side (take call.handed stream) call.nonce taken sent next
    × RetriedCalls Answers Costs next calls (drop taken stream) failed between after))

-- a connection of a SCRAM server takes the HMAC values of one look-up and two more at most, and as many for each call that
-- ran out of memory
abbrev pub ServersRetry : Type 0
ServersRetry = (provider : Provider) (state : ServerState) (limit : ℕ) (calls : List Call) (stream : List ℕ)
    (failed before after : ℕ) → RetriedCalls (ServerSideAnswers acceptor_names acceptor_machine)
    (ServerCosts acceptor_hmacs) (fresh limit (ScramAcceptor provider state)) calls stream failed before after
    → (before ≤ after) × (after ≤ before + (failed * (provider.look_up_cost + 2) + (provider.look_up_cost + 2)))

-- a connection of a SCRAM client takes at most as many HMAC values as its limit of iterations and four more, and that
-- for each call that ran out of memory
abbrev pub ClientsRetry : Type 0
ClientsRetry = (hostname : Option (List ℕ)) (client : ClientSide) (limit : ℕ) (calls : List Call) (stream : List ℕ)
    (failed before after : ℕ) → RetriedCalls (ClientSideAnswers hostname) ClientCosts (fresh limit (ScramProfile client))
    calls stream failed before after
    → (before ≤ after) × (after ≤ before + (failed * (client.limits.max_iterations + 4) + (client.limits.max_iterations + 4)))
