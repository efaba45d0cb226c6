-- Worked examples of frames at which nothing is allocated, so that running out of memory is no answer to them (AMQP
-- 1.0, part 5, section 5.3.2).
use Rattle.std.specs.Prelude.{◌≡◌, ℕ, Bool, Option, Some, None, List, [], ◌∷◌, codes, Ok, Err}
use Rattle.fe2o3_sasl_wire.specs.declared.amqp_types.SaslCode.{SaslCode}
use Rattle.fe2o3_sasl_wire.specs.declared.amqp_types.SaslCode.TheVariants as outcomes
use Rattle.fe2o3_sasl_wire.specs.declared.sasl_frames.error.Error.{Error}
use Rattle.fe2o3_sasl_wire.specs.SaslFrames as frames
use Rattle.fe2o3_sasl_wire.specs.SaslFrames.{SaslFrame}
use Rattle.fe2o3_scram.specs.ChannelBinding.{server_mechanism}
use Rattle.fe2o3_scram.specs.Credentials.{Provider}
use Rattle.fe2o3_scram.specs.ScramClient as client_states
use Rattle.fe2o3_scram.specs.ScramClient.{ClientSide}
use Rattle.fe2o3_scram.specs.ScramServer as server_states
use Rattle.fe2o3_scram.specs.ScramServer.{ServerState}
use Rattle.fe2o3_sasl_core.specs.ClientHistory.{ClientAllocates}
use Rattle.fe2o3_sasl_core.specs.Events.{Login}
use Rattle.fe2o3_sasl_core.specs.Laws.{WantsAtServer}
use Rattle.fe2o3_sasl_core.specs.Profiles.{Profile, ScramProfile, PlainProfile}
use Rattle.fe2o3_sasl_core.specs.ProfileMachine.{FrameAllocates}
use Rattle.fe2o3_sasl_core.specs.SaslAcceptor.{ScramAcceptor, PlainAcceptor, AnonymousAcceptor, acceptor_allocates}
use Rattle.fe2o3_sasl_core.specs.ServerHistory.{ServerAllocates}

-- SCRAM's acceptor allocates nothing at an init of another mechanism, at one without a text, and at a response where no
-- challenge is open; that of PLAIN and that of ANONYMOUS at no frame
abbrev pub AcceptorsAskForNone : Type 0
AcceptorsAskForNone = ((provider : Provider) (state : ServerState) (text : List ℕ) (hostname : Option (List ℕ))
    → ¬ acceptor_allocates (ScramAcceptor provider state) (frames.Init (codes "PLAIN") (Some text) hostname))
    × ((provider : Provider) (state : ServerState) (hostname : Option (List ℕ)) → ¬ acceptor_allocates
    (ScramAcceptor provider state) (frames.Init (server_mechanism provider.version provider.rules) None hostname))
    × ((provider : Provider) (text : List ℕ)
    → ¬ acceptor_allocates (ScramAcceptor provider server_states.Initial) (frames.Response text))
    × ((provider : Provider) (user text : List ℕ) (acts_for : Option (List ℕ)) → ¬ acceptor_allocates
    (ScramAcceptor provider (server_states.ServerFinalSent user acts_for)) (frames.Response text))
    × ((user password : List ℕ) (accepted : Bool) (frame : SaslFrame)
    → ¬ acceptor_allocates (PlainAcceptor user password accepted) frame)
    × ((frame : SaslFrame) → ¬ acceptor_allocates AnonymousAcceptor frame)

-- a profile allocates nothing at an empty list, at a challenge that is not UTF-8, at one that is not expected, at one
-- that is not for SCRAM, at an outcome without data, and at one of code Ok whose data are not UTF-8, or which is not
-- expected
abbrev pub AskForNone : (Profile → SaslFrame → Type 0) → Type 0
AskForNone Allocates = ((profile : Profile) → ¬ Allocates profile (frames.Mechanisms []))
    × ((client : ClientSide) → ¬ Allocates (ScramProfile client) (frames.Challenge (0xff ∷ [])))
    × ((client : ClientSide) (text : List ℕ) → client.state ≡ client_states.ClientInitial
    → ¬ Allocates (ScramProfile client) (frames.Challenge text))
    × ((identity user password text : List ℕ) → ¬ Allocates (PlainProfile identity user password) (frames.Challenge text))
    × ((profile : Profile) (code : SaslCode) → ¬ Allocates profile (frames.Outcome code None))
    × ((client : ClientSide) → ¬ Allocates (ScramProfile client) (frames.Outcome outcomes.Ok (Some (0xff ∷ []))))
    × ((client : ClientSide) (text : List ℕ) → client.state ≡ client_states.ClientInitial
    → ¬ Allocates (ScramProfile client) (frames.Outcome outcomes.Ok (Some text)))

-- a profile allocates nothing at an owned outcome of code Auth, nor at one that is not for SCRAM
abbrev pub OwnedAskForNone : Type 0
OwnedAskForNone = AskForNone FrameAllocates
    × ((client : ClientSide) (more : Option (List ℕ))
    → ¬ FrameAllocates (ScramProfile client) (frames.Outcome outcomes.Auth more))
    × ((identity user password : List ℕ) (code : SaslCode) (more : Option (List ℕ))
    → ¬ FrameAllocates (PlainProfile identity user password) (frames.Outcome code more))

-- a server's history does not run out of memory at an error of a body, at a list, at a challenge or at an outcome
abbrev pub ServersWantNone : Type 0
ServersWantNone = ((fault : Error) → ¬ ServerAllocates (Err fault))
    × ((names : List (List ℕ)) → ¬ ServerAllocates (Ok (frames.Mechanisms names))
    × ¬ WantsAtServer (frames.Mechanisms names))
    × ((text : List ℕ) → ¬ ServerAllocates (Ok (frames.Challenge text)) × ¬ WantsAtServer (frames.Challenge text))
    × ((code : SaslCode) (more : Option (List ℕ)) → ¬ ServerAllocates (Ok (frames.Outcome code more))
    × ¬ WantsAtServer (frames.Outcome code more))

-- a client's history does not run out of memory at an error of a body, at an empty list, at a challenge that is not
-- UTF-8, at an outcome without data, or at a response
abbrev pub ClientsWantNone : Type 0
ClientsWantNone = (login : Login) → ((fault : Error) → ¬ ClientAllocates login (Err fault))
    × (¬ ClientAllocates login (Ok (frames.Mechanisms [])))
    × (¬ ClientAllocates login (Ok (frames.Challenge (0xff ∷ []))))
    × ((code : SaslCode) → ¬ ClientAllocates login (Ok (frames.Outcome code None)))
    × ((text : List ℕ) → ¬ ClientAllocates login (Ok (frames.Response text)))
