-- What a connection costs, sends and holds, for any bytes and any calls. Each is the contract of a clause of
-- `laws::costs` or of `laws::bounds`.
use Rattle.std.specs.Prelude.{◌≡◌, ◌⊎◌, ◌<◌, ◌≤◌, ◌+◌, ◌*◌, ℕ, Bool, true, false, Option, List, [], ◌∷◌, length, take, drop}
use Rattle.fe2o3_scram.specs.Credentials.{Provider}
use Rattle.fe2o3_scram.specs.ScramClient.{ClientSide}
use Rattle.fe2o3_scram.specs.ScramServer.{ServerState}
use Rattle.fe2o3_sasl_core.specs.AnyMechanismLaws.{Machine}
use Rattle.fe2o3_sasl_core.specs.ChallengeCounts.{BoundsChallenges}
use Rattle.fe2o3_sasl_core.specs.Costs.{acceptor_hmacs}
use Rattle.fe2o3_sasl_core.specs.Profiles.{Profile, ScramProfile, accepts_signature_by_challenge}
use Rattle.fe2o3_sasl_core.specs.SaslAcceptor.{Acceptor, ScramAcceptor, acceptor_names, acceptor_machine}
use Rattle.fe2o3_sasl_negotiation.specs.declared.progress.Expected.{Expected}
use Rattle.fe2o3_sasl_negotiation.specs.ClientNegotiation.{ClientSideAnswers, ClientReceives, ClientCosts}
use Rattle.fe2o3_sasl_negotiation.specs.Connections.{fresh}
use Rattle.fe2o3_sasl_negotiation.specs.Laws.{Call, Calls}
use Rattle.fe2o3_sasl_negotiation.specs.Negotiations.{Side, SideOutput, Receives}
use Rattle.fe2o3_sasl_negotiation.specs.ServerNegotiation.{ServerSideAnswers, ServerReceives, ServerCosts}

-- calls over a stream, each passed any number of the bytes that the calls before it left, with what one meter shows
-- before and after them
abbrev pub MeteredCalls : {S : Type 0} → (Expected → S → List ℕ → List ℕ → SideOutput → S → Type 0)
    → (Side S → List ℕ → List ℕ → ℕ → ℕ → Type 0) → Side S → List Call → List ℕ → ℕ → ℕ → Type 0
MeteredCalls Answers Costs side [] stream before after = after ≡ before
MeteredCalls {S} Answers Costs side (call ∷ calls) stream before after =
    (taken : ℕ) × (sent : List ℕ) × (next : Side S) × (between : ℕ)
    × Receives Answers side (take call.handed stream) call.nonce taken sent next
    × Costs side (take call.handed stream) call.nonce before between
    × MeteredCalls Answers Costs next calls (drop taken stream) between after

-- a connection of a SCRAM server takes the HMAC values of one look-up and two more at most (RFC 5802, section 3)
abbrev pub ServersCost : Type 0
ServersCost = (provider : Provider) (state : ServerState) (limit : ℕ) (calls : List Call) (stream : List ℕ)
    (before after : ℕ) → MeteredCalls (ServerSideAnswers acceptor_names acceptor_machine) (ServerCosts acceptor_hmacs)
    (fresh limit (ScramAcceptor provider state)) calls stream before after
    → (before ≤ after) × (after ≤ before + (provider.look_up_cost + 2))

-- a connection of a SCRAM client takes at most as many HMAC values as its limit of iterations and four more (RFC 5802,
-- section 3)
abbrev pub ClientsCost : Type 0
ClientsCost = (hostname : Option (List ℕ)) (client : ClientSide) (limit : ℕ) (calls : List Call) (stream : List ℕ)
    (before after : ℕ) → MeteredCalls (ClientSideAnswers hostname) ClientCosts (fresh limit (ScramProfile client)) calls
    stream before after
    → (before ≤ after) × (after ≤ before + (client.limits.max_iterations + 4))

-- a side has sent no more bytes than these, and holds less than a header, or less than its limit of a frame
abbrev pub Bounded : {S : Type 0} → ℕ → ℕ → List ℕ → Side S → Type 0
Bounded most limit sent last = (length sent ≤ most) × ((length last.held < 8) ⊎ (length last.held < limit))

-- a server of an acceptor with these names and this machine, by any bound on its challenges: it sends its header, its
-- mechanisms, a challenge to the init, as many more as are left after it, and one outcome at most, each frame of at most
-- 512 bytes (part 5, section 5.3.1)
abbrev pub ServersOfAreBounded : {S : Type 0} → (S → List (List ℕ)) → Machine S → Type 0
ServersOfAreBounded {S} names machine = (left most : S → ℕ) → BoundsChallenges machine left most
    → (state : S) (limit : ℕ) (calls : List Call) (stream sent rest : List ℕ) (last : Side S)
    → Calls (ServerReceives names machine) (fresh limit state) calls stream sent last rest
    → Bounded (8 + (most state + 3) * 512) limit sent last

-- a server of SCRAM, PLAIN or ANONYMOUS sends its header, its mechanisms, one challenge and one outcome at most, each
-- frame of at most 512 bytes
abbrev pub ServersAreBounded : Type 0
ServersAreBounded = (acceptor : Acceptor) (limit : ℕ) (calls : List Call) (stream sent rest : List ℕ)
    (last : Side Acceptor)
    → Calls (ServerReceives acceptor_names acceptor_machine) (fresh limit acceptor) calls stream sent last rest
    → Bounded (8 + 3 * 512) limit sent last

-- how many frames a client sends at most, by whether it accepts the server's signature in a challenge
abbrev pub client_frames : Bool → ℕ
client_frames false = 2
client_frames true = 3

-- a client sends, after its header, at most one init and one response, and one more response if it accepts the server's
-- signature in a challenge
abbrev pub ClientsAreBounded : Type 0
ClientsAreBounded = (hostname : Option (List ℕ)) (profile : Profile) (limit : ℕ) (calls : List Call)
    (stream sent rest : List ℕ) (last : Side Profile)
    → Calls (ClientReceives hostname) (fresh limit profile) calls stream sent last rest
    → Bounded (client_frames (accepts_signature_by_challenge profile) * 512) limit sent last
