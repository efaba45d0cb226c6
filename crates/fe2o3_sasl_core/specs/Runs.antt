-- What an acceptor and a profile do with a list of frame bodies (AMQP 1.0, part 5, section 5.3.2).
use Rattle.std.specs.Prelude.{◌≡◌, ◌⊎◌, ℕ, false, Option, None, option_map, List, [], ◌∷◌, length, Result, Ok, Err}
use Rattle.fe2o3_sasl_wire.specs.declared.sasl_frames.error.Error.{Error}
use Rattle.fe2o3_sasl_wire.specs.declared.sasl_frames.error.Error.TheVariants as faults
use Rattle.fe2o3_sasl_wire.specs.AmqpTypes.{binary_bytes}
use Rattle.fe2o3_sasl_wire.specs.SaslFrames.{canonical, SaslFrame}
use Rattle.fe2o3_sasl_wire.specs.SaslFrames as frames
use Rattle.fe2o3_scram.specs.declared.scram_messages.client_channel.ClientChannel.TheVariants.{Absent}
use Rattle.fe2o3_scram.specs.declared.hmac.ScramVersion.{ScramVersion}
use Rattle.fe2o3_scram.specs.ClientSecret.{Password, up_to}
use Rattle.fe2o3_scram.specs.Passwords.{Typed}
use Rattle.fe2o3_sasl_core.specs.Events.{Given, Login, ServerSays, Challenged, Concluded, Failed, ClientSays, Started, Answered, Reported, Refused}
use Rattle.fe2o3_sasl_core.specs.Bodies.{SpellsBody, carried, server_says}
use Rattle.fe2o3_sasl_core.specs.Profiles.{Profile, scram_profile}
use Rattle.fe2o3_sasl_core.specs.ProfileMachine.{profile_machine, StepAllocates}
use Rattle.fe2o3_sasl_core.specs.Hex.{SpellsHex}
use Rattle.fe2o3_scram.specs.declared.client_options.ClientOptions.{ClientOptions}
use Rattle.fe2o3_sasl_core.specs.declared.events.ClientReply.{ClientReply}
use Rattle.fe2o3_sasl_core.specs.declared.events.ClientReply.TheVariants as client_replies
use Rattle.fe2o3_sasl_core.specs.declared.events.Event.{Event}
use Rattle.fe2o3_sasl_core.specs.declared.events.EventError.{EventError}
use Rattle.fe2o3_sasl_core.specs.declared.events.EventError.TheVariants as event_faults
use Rattle.fe2o3_sasl_core.specs.declared.events.ServerReply.{ServerReply}
use Rattle.fe2o3_sasl_core.specs.declared.events.ServerReply.TheVariants as server_replies
use Rattle.fe2o3_sasl_core.specs.declared.sasl_profile.error.ProfileError.{ProfileError}
use Rattle.fe2o3_sasl_core.specs.declared.sasl_profile.error.ProfileError.TheVariants.{Frame, OutOfMemory}

-- a frame is sent in its canonical body, and only then the next state holds; a frame without one leaves the state
abbrev pub SendsCanonical : {S A : Type 0} → A → (List ℕ → A) → Option (List ℕ) → S → S → A → S → Type 0
SendsCanonical too_large says body state moved reply next =
    (reply ≡ carried too_large says body) × (next ≡ carried state (λ _. moved) body)

-- what a machine of an acceptor answers to a frame that it accepts: its reply, or running out of memory, where the
-- state is unchanged
abbrev pub AcceptorAnswers : {S : Type 0} → (S → List ℕ → SaslFrame → SaslFrame → S → Type 0) → S → List ℕ → SaslFrame
    → ServerSays → S → Type 0
AcceptorAnswers {S} machine state nonce frame says next =
    ((says ≡ Failed faults.OutOfMemory) × (next ≡ state))
    ⊎ ((reply : SaslFrame) × (moved : S) × machine state nonce frame reply moved
    × SendsCanonical (Failed faults.TooLarge) (server_says reply) (canonical reply) state moved says next)

-- what an acceptor does with a body that spells this: it accepts inits and responses
abbrev pub AcceptorGives : {S : Type 0} → (S → List ℕ → SaslFrame → SaslFrame → S → Type 0) → S → Given
    → Result SaslFrame Error → ServerSays → S → Type 0
AcceptorGives machine state event (Err fault) says next = (says ≡ Failed fault) × (next ≡ state)
AcceptorGives machine state event (Ok (frames.Mechanisms names)) says next =
    (says ≡ Failed faults.NotImplemented) × (next ≡ state)
AcceptorGives machine state event (Ok (frames.Challenge text)) says next =
    (says ≡ Failed faults.NotImplemented) × (next ≡ state)
AcceptorGives machine state event (Ok (frames.Outcome code more)) says next =
    (says ≡ Failed faults.NotImplemented) × (next ≡ state)
AcceptorGives machine state event (Ok frame) says next = AcceptorAnswers machine state event.nonce frame says next

-- an acceptor's step over one event
abbrev pub AcceptorSteps : {S : Type 0} → (S → List ℕ → SaslFrame → SaslFrame → S → Type 0) → S → Given → ServerSays → S
    → Type 0
AcceptorSteps machine state event says next = (spelled : Result SaslFrame Error) × SpellsBody event.body spelled
    × AcceptorGives machine state event spelled says next

-- a client's reply: an init and a response in their bodies
abbrev pub Replies : Profile → Profile → Result SaslFrame ProfileError → ClientSays → Profile → Type 0
Replies profile moved (Err fault) says next = (says ≡ Refused fault) × (next ≡ moved)
Replies profile moved (Ok (frames.Init mechanism response hostname)) says next =
    SendsCanonical (Refused (Frame faults.TooLarge)) (λ body. Started body)
    (canonical (frames.Init mechanism response hostname)) profile moved says next
Replies profile moved (Ok (frames.Outcome code more)) says next = (says ≡ Reported code more) × (next ≡ moved)
Replies profile moved (Ok frame) says next = SendsCanonical (Refused (Frame faults.TooLarge)) (λ body. Answered body)
    (canonical frame) profile moved says next

-- what a profile replies to a frame: what its machine says, or running out of memory, where the profile is unchanged
abbrev pub ProfileReplies : Option (List ℕ) → Profile → List ℕ → SaslFrame → ClientSays → Profile → Type 0
ProfileReplies hostname profile nonce frame says next =
    (StepAllocates profile frame × (says ≡ Refused OutOfMemory) × (next ≡ profile))
    ⊎ ((reply : Result SaslFrame ProfileError) × (moved : Profile)
    × profile_machine profile hostname nonce frame reply moved × Replies profile moved reply says next)

-- what a profile does with a body that spells this
abbrev pub ProfileGives : Option (List ℕ) → Profile → Given → Result SaslFrame Error → ClientSays → Profile → Type 0
ProfileGives hostname profile event (Err fault) says next = (says ≡ Refused (Frame fault)) × (next ≡ profile)
ProfileGives hostname profile event (Ok frame) says next = ProfileReplies hostname profile event.nonce frame says next

-- a profile's step over one event
abbrev pub ProfileSteps : Option (List ℕ) → Profile → Given → ClientSays → Profile → Type 0
ProfileSteps hostname profile event says next = (spelled : Result SaslFrame Error) × SpellsBody event.body spelled
    × ProfileGives hostname profile event spelled says next

-- a run over a list of events: a step for each, in order
abbrev pub Runs : {S A : Type 0} → (S → Given → A → S → Type 0) → S → List Given → List A → S → Type 0
Runs Step state [] replies last = (replies ≡ []) × (last ≡ state)
Runs {S} {A} Step state (event ∷ events) replies last =
    (says : A) × (next : S) × (others : List A) × Step state event says next × (replies ≡ says ∷ others)
    × Runs Step next events others last

-- the profile before its first message is that of this login, and so is the hostname of its run
abbrev pub StartsAs : Profile → Option (List ℕ) → Login → Type 0
StartsAs profile hostname login = (profile ≡ scram_profile login) × (hostname ≡ login.hostname)

-- ---- the code's values

-- the event that a value is
abbrev pub given : Event → Given
given event = record { body = event.body.items; nonce = event.nonce }

-- two texts spell an event in hexadecimal digits of either case, its nonce of 32 bytes
abbrev pub SpellsEvent : List ℕ → List ℕ → Given → Type 0
SpellsEvent nonce body event = (length event.nonce ≡ 32) × SpellsHex nonce event.nonce × SpellsHex body event.body

-- why two texts spell no event: they spell none; or the body cannot be allocated, and then they spell one
abbrev pub RefusesHex : List ℕ → List ℕ → EventError → Type 0
RefusesHex nonce body event_faults.Invalid = (event : Given) → ¬ SpellsEvent nonce body event
RefusesHex nonce body event_faults.OutOfMemory = (event : Given) × SpellsEvent nonce body event

-- the reply of a server that a value is
abbrev pub server_reply : ServerReply → ServerSays
server_reply (server_replies.Challenge body) = Challenged body.items
server_reply (server_replies.Outcome code body) = Concluded code body.items

-- the reply of a server that a step's result is
abbrev pub server_answer : Result ServerReply Error → ServerSays
server_answer (Ok reply) = server_reply reply
server_answer (Err fault) = Failed fault

-- the reply of a client that a value is
abbrev pub client_reply : ClientReply → ClientSays
client_reply (client_replies.Init body) = Started body.items
client_reply (client_replies.Response body) = Answered body.items
client_reply (client_replies.Outcome outcome) =
    Reported outcome.code (option_map binary_bytes outcome.additional_data)

-- the reply of a client that a step's result is
abbrev pub client_answer : Result ClientReply ProfileError → ClientSays
client_answer (Ok reply) = client_reply reply
client_answer (Err fault) = Refused fault

-- the login of these words, with the password as typed, without a channel and a hostname; the signature has to come in
-- the outcome
abbrev pub login_of : ScramVersion → List ℕ → List ℕ → ℕ → Login
login_of version user password limit =
    let secret = Password (Typed password) in
    record {
      user = user;
      secret = secret;
      version = version;
      limits = up_to limit;
      channel = Absent;
      acts_for = None;
      strict = false;
      signature_by_challenge = false;
      hostname = None;
    }

-- the login of these words with the options of a client, with the password as typed, without a hostname
abbrev pub login_with : ClientOptions → ScramVersion → List ℕ → List ℕ → Login
login_with options version user password =
    let secret = Password (Typed password) in
    record {
      user = user;
      secret = secret;
      version = version;
      limits = options.limits;
      channel = options.channel;
      acts_for = None;
      strict = options.strict;
      signature_by_challenge = options.signature_by_challenge;
      hostname = None;
    }
