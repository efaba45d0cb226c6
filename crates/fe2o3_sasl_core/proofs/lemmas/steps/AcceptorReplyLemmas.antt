-- What the machine of a SCRAM acceptor replies, from what a SCRAM server answers.
use Rattle.std.proofs.Common.{◌≡◌, ◌≢◌, ℕ, Option, Some, List, ap, inr, Result, Ok, Err}
use Rattle.std.specs.Prelude.{IfOk, IfErr}
use Rattle.fe2o3_sasl_wire.specs.declared.amqp_types.SaslCode.TheVariants as outcomes
use Rattle.fe2o3_sasl_wire.specs.SaslFrames as frames
use Rattle.fe2o3_sasl_wire.specs.SaslFrames.{SaslFrame}
use Rattle.fe2o3_scram.specs.declared.scram_messages.error.ServerScramErrorKind.{ServerScramErrorKind}
use Rattle.fe2o3_scram.specs.declared.scram_messages.error.ServerScramErrorKind.TheVariants.{OutOfMemory}
use Rattle.fe2o3_scram.specs.Credentials.{Provider}
use Rattle.fe2o3_scram.specs.ChannelBinding.{server_mechanism}
use Rattle.fe2o3_scram.specs.Readings.{Gives}
use Rattle.fe2o3_scram.specs.ScramServer.{ServerState, ChallengesFrom, ConcludesFrom, ReachesBase64In}
use Rattle.fe2o3_scram.specs.ServerFirst.{ReachesChallenge}
use Rattle.fe2o3_sasl_core.specs.SaslAcceptor.{ScramAcceptor, acceptor_allocates, acceptor_machine, ends_with, server_frame}

-- the acceptor of the same provider in another state
moved : (provider other : Provider) (next : ServerState) → other ≡ provider
    → ScramAcceptor other next ≡ ScramAcceptor provider next
moved provider other next same = ap (λ (p : Provider). ScramAcceptor p next) same

-- what is replied to an init that has an answer
pub init_answered : (provider other : Provider) (state next : ServerState) (nonce mechanism text : List ℕ)
    (hostname : Option (List ℕ)) (answer : Result (Option (List ℕ)) ServerScramErrorKind) (reply : SaslFrame)
    → other ≡ provider → mechanism ≡ server_mechanism provider.version provider.rules
    → ChallengesFrom state provider nonce text answer next
    → reply ≡ server_frame (λ message. frames.Challenge message) answer
    → acceptor_machine (ScramAcceptor provider state) nonce (frames.Init mechanism (Some text) hostname) reply
    (ScramAcceptor other next)
init_answered provider other state next nonce mechanism text hostname answer reply same name from is =
    inr (name, (answer, next, from, is, moved provider other next same))

-- what is replied to one that is rejected, where memory does not run out
pub init_refused : {X V E Allocates : Type 0} (sent : X → SaslFrame) (view : V → Option (List ℕ))
    (provider other : Provider) (state next : ServerState) (nonce mechanism text : List ℕ) (hostname : Option (List ℕ))
    (kind : ServerScramErrorKind) (result : Result X E)
    → other ≡ provider → mechanism ≡ server_mechanism provider.version provider.rules
    → Gives OutOfMemory Allocates view (Err kind) (λ answer. ChallengesFrom state provider nonce text answer next)
    → IfOk result (λ frame. (kind ≢ OutOfMemory) × (sent frame ≡ ends_with outcomes.Auth))
    → IfOk result (λ frame. acceptor_machine (ScramAcceptor provider state) nonce
    (frames.Init mechanism (Some text) hostname) (sent frame) (ScramAcceptor other next))
init_refused sent view provider other state next nonce mechanism text hostname kind (Ok frame) same name from is =
    inr (name, (Err kind, next, from.1 is.0, is.1, moved provider other next same))
init_refused sent view provider other state next nonce mechanism text hostname kind (Err fault) same name from is = tt

-- where it runs out of memory, it has reached an allocation
pub init_wants : {X V E : Type 0} (view : V → Option (List ℕ)) (provider : Provider) (state next : ServerState)
    (nonce mechanism text : List ℕ) (hostname : Option (List ℕ)) (kind : ServerScramErrorKind) (result : Result X E)
    → mechanism ≡ server_mechanism provider.version provider.rules
    → Gives OutOfMemory (ReachesChallenge provider text) view (Err kind)
    (λ answer. ChallengesFrom state provider nonce text answer next)
    → IfErr result (λ _. kind ≡ OutOfMemory)
    → IfErr result (λ _. acceptor_allocates (ScramAcceptor provider state)
    (frames.Init mechanism (Some text) hostname))
init_wants view provider state next nonce mechanism text hostname kind (Ok frame) name from is = tt
init_wants view provider state next nonce mechanism text hostname kind (Err fault) name from is = (name, from.0 is)

-- what is replied to a response that has an answer
pub response_answered : (provider other : Provider) (state next : ServerState) (nonce text : List ℕ)
    (answer : Result (Option (List ℕ)) ServerScramErrorKind) (reply : SaslFrame)
    → other ≡ provider → ConcludesFrom state provider.version provider.rules provider.rights text answer next
    → reply ≡ server_frame (λ message. frames.Outcome outcomes.Ok (Some message)) answer
    → acceptor_machine (ScramAcceptor provider state) nonce (frames.Response text) reply (ScramAcceptor other next)
response_answered provider other state next nonce text answer reply same from is =
    (answer, next, from, is, moved provider other next same)

-- what is replied to one that is rejected, where memory does not run out
pub response_refused : {X V E Allocates : Type 0} (sent : X → SaslFrame) (view : V → Option (List ℕ))
    (provider other : Provider) (state next : ServerState) (text : List ℕ) (kind : ServerScramErrorKind)
    (result : Result X E)
    → other ≡ provider
    → Gives OutOfMemory Allocates view (Err kind)
    (λ answer. ConcludesFrom state provider.version provider.rules provider.rights text answer next)
    → IfOk result (λ frame. (kind ≢ OutOfMemory) × (sent frame ≡ ends_with outcomes.Auth))
    → IfOk result (λ frame. (nonce : List ℕ) → acceptor_machine (ScramAcceptor provider state) nonce
    (frames.Response text) (sent frame) (ScramAcceptor other next))
response_refused sent view provider other state next text kind (Ok frame) same from is =
    λ nonce. (Err kind, next, from.1 is.0, is.1, moved provider other next same)
response_refused sent view provider other state next text kind (Err fault) same from is = tt

-- where it runs out of memory, it has reached an allocation
pub response_wants : {X V E : Type 0} (view : V → Option (List ℕ)) (provider : Provider) (state next : ServerState)
    (text : List ℕ) (kind : ServerScramErrorKind) (result : Result X E)
    → Gives OutOfMemory (ReachesBase64In state provider.rules text) view (Err kind)
    (λ answer. ConcludesFrom state provider.version provider.rules provider.rights text answer next)
    → IfErr result (λ _. kind ≡ OutOfMemory)
    → IfErr result (λ _. acceptor_allocates (ScramAcceptor provider state) (frames.Response text))
response_wants view provider state next text kind (Ok frame) from is = tt
response_wants view provider state next text kind (Err fault) from is = from.0 is
