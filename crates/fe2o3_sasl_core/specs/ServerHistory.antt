-- What a SCRAM server answers to a list of frame bodies (RFC 5802, section 5; AMQP 1.0, part 5, section 5.3.2).
-- Nothing here is a state: what is open is a position in the list.
use Rattle.std.specs.Prelude.{◌≡◌, ◌⊎◌, ℕ, Bool, true, false, Some, None, List, ◌++◌, length, slice_get, Result, Ok, Err}
use Rattle.fe2o3_sasl_wire.specs.declared.amqp_types.SaslCode.TheVariants as outcomes
use Rattle.fe2o3_sasl_wire.specs.declared.sasl_frames.error.Error.{Error}
use Rattle.fe2o3_sasl_wire.specs.declared.sasl_frames.error.Error.TheVariants as faults
use Rattle.fe2o3_sasl_wire.specs.SaslFrames.{SaslFrame}
use Rattle.fe2o3_sasl_wire.specs.SaslFrames as frames
use Rattle.fe2o3_scram.specs.ActingRights.{may_act}
use Rattle.fe2o3_scram.specs.Texts.{base64_text}
use Rattle.fe2o3_scram.specs.ServerFirst.{server_first_of}
use Rattle.fe2o3_scram.specs.ClientFirst.{ClientFirst, ReadsClientFirst}
use Rattle.fe2o3_scram.specs.Credentials.{Record, Provider}
use Rattle.fe2o3_sasl_core.specs.Bodies.{SpellsBody, says_frame}
use Rattle.fe2o3_sasl_core.specs.Events.{Given, ServerSays, Challenged, Concluded, Failed}
use Rattle.fe2o3_scram.specs.ChannelBinding.{is_strict, server_mechanism, expected_header}
use Rattle.fe2o3_sasl_core.specs.Positions.{OpenBy}
use Rattle.fe2o3_scram.specs.ClientFinal.{Server, ClientFinal, ReadsClientFinal, server_of}
use Rattle.fe2o3_scram.specs.ServerFinal.{server_final_of}

-- what a challenge is made of: the client-first message that it answers, the nonce that the server adds, and the user's
-- record
pub record Challenging : Type 0 where
  pub client : ClientFirst
  pub nonce : List ℕ
  pub stored : Record

-- the nonce of both sides of a challenge
abbrev pub full_nonce : Challenging → List ℕ
full_nonce challenge = challenge.client.nonce ++ challenge.nonce

-- the server-first message of a challenge
abbrev pub first_message : Challenging → List ℕ
first_message challenge = server_first_of (full_nonce challenge) challenge.stored

-- what the server knows when it reads a response to a challenge: whether the user may act for the identity of its init is
-- decided by the rights of the provider (RFC 4422, section 2)
abbrev pub server_at : Provider → Challenging → Server
server_at provider challenge =
    server_of provider.version (expected_header provider.rules.channels challenge.client.header)
    (is_strict provider.rules) challenge.client.bare (first_message challenge) (full_nonce challenge) challenge.stored
    (may_act provider.rights challenge.client.user challenge.client.header.acts_for)

-- the frame, with the event's nonce, fits as init: it names the mechanism, and its response is a client-first message
-- of a user who has a record
abbrev pub FitsAsInit : Provider → Given → SaslFrame → Challenging → Type 0
FitsAsInit provider event (frames.Init mechanism (Some text) hostname) challenge =
    (mechanism ≡ server_mechanism provider.version provider.rules) × ReadsClientFirst provider.rules text (Ok challenge.client)
    × (provider.records challenge.client.user ≡ Some challenge.stored)
    × (challenge.nonce ≡ base64_text event.nonce)
FitsAsInit provider event frame challenge = ⊥

-- an accepted response: the challenge that was open, and what the client-final message names
pub record Accepted : Type 0 where
  pub challenge : Challenging
  pub final : ClientFinal

-- the frame fits as response to a challenge that is open: every test of a client-final message passes; the last are that
-- its proof meets the stored key, and that the user may act for the identity that the init named (`IsAccepted`)
abbrev pub FitsAsResponse : Provider → (Challenging → Type 0) → SaslFrame → Accepted → Type 0
FitsAsResponse provider IsOpen (frames.Response text) accepted =
    IsOpen accepted.challenge × ReadsClientFinal (server_at provider accepted.challenge) text (Ok accepted.final)
FitsAsResponse provider IsOpen frame accepted = ⊥

-- the server-final message to an accepted response
abbrev pub final_message : Provider → Accepted → List ℕ
final_message provider accepted = server_final_of (server_at provider accepted.challenge) accepted.final

-- the reply of an Ok, with the server-final message
abbrev pub says_ok : Provider → Accepted → ServerSays
says_ok provider accepted = says_frame (frames.Outcome outcomes.Ok (Some (final_message provider accepted)))

-- the reply to a body that spells this, where these challenges are open
abbrev pub ServerAnswers : Provider → (Challenging → Type 0) → Given → Result SaslFrame Error → ServerSays → Type 0
ServerAnswers provider IsOpen event (Err fault) says = says ≡ Failed fault
ServerAnswers provider IsOpen event (Ok (frames.Init mechanism response hostname)) says =
    let Fits = FitsAsInit provider event (frames.Init mechanism response hostname) in
    ((challenge : Challenging) × Fits challenge × (says ≡ says_frame (frames.Challenge (first_message challenge))))
    ⊎ (((challenge : Challenging) → ¬ Fits challenge) × (says ≡ says_frame (frames.Outcome outcomes.Auth None)))
ServerAnswers provider IsOpen event (Ok (frames.Response text)) says =
    let Fits = FitsAsResponse provider IsOpen (frames.Response text) in
    ((accepted : Accepted) × Fits accepted × (says ≡ says_ok provider accepted))
    ⊎ (((accepted : Accepted) → ¬ Fits accepted) × (says ≡ says_frame (frames.Outcome outcomes.Auth None)))
ServerAnswers provider IsOpen event (Ok frame) says = says ≡ Failed faults.NotImplemented

-- the replies at which the server may run out of memory: those to an init and to a response
abbrev pub ServerAllocates : Result SaslFrame Error → Type 0
ServerAllocates (Ok (frames.Init mechanism response hostname)) = Unit {0}
ServerAllocates (Ok (frames.Response text)) = Unit {0}
ServerAllocates spelled = ⊥

-- whether a reply is a challenge
abbrev pub is_challenge : ServerSays → Bool
is_challenge (Challenged body) = true
is_challenge says = false

-- whether a reply is an outcome of code Ok
abbrev pub is_ok : ServerSays → Bool
is_ok (Concluded outcomes.Ok body) = true
is_ok says = false

-- the event at k fits as init
abbrev pub FitsAt : Provider → List Given → ℕ → Challenging → Type 0
FitsAt provider events k challenge = (event : Given) × (frame : SaslFrame) × (slice_get events k ≡ Some event)
    × SpellsBody event.body (Ok frame) × FitsAsInit provider event frame challenge

-- the challenge that is open at k: that of the last challenge before k, if no outcome Ok is between
abbrev pub Open : Provider → List Given → List ServerSays → ℕ → Challenging → Type 0
Open provider events replies k challenge = OpenBy is_challenge is_ok (FitsAt provider events) replies k challenge

-- the response at n fits the challenge that is open there
abbrev pub AcceptsAt : Provider → List Given → List ServerSays → ℕ → Accepted → Type 0
AcceptsAt provider events replies n accepted =
    (event : Given) × (frame : SaslFrame) × (slice_get events n ≡ Some event) × SpellsBody event.body (Ok frame)
    × FitsAsResponse provider (Open provider events replies n) frame accepted

-- the response at n is accepted, and its challenge was to this user's init
abbrev pub AcceptsUser : Provider → List Given → List ServerSays → ℕ → List ℕ → Type 0
AcceptsUser provider events replies n user =
    (accepted : Accepted) × AcceptsAt provider events replies n accepted × (user ≡ accepted.challenge.client.user)

-- the user who has logged in at k (RFC 5802, section 5; AMQP 1.0, part 5, section 5.3.3.5): that of the last outcome Ok
-- before k, if no challenge is between
abbrev pub LoggedIn : Provider → List Given → List ServerSays → ℕ → List ℕ → Type 0
LoggedIn provider events replies k user = OpenBy is_ok is_challenge (AcceptsUser provider events replies) replies k user

-- a reply for each event: that of the table, or running out of memory where that may happen
pub record ServerHistory (provider : Provider) (events : List Given) (replies : List ServerSays) : Type 0 where
  pub count : length replies ≡ length events
  pub each : (k : ℕ) (event : Given) (says : ServerSays) → slice_get events k ≡ Some event
      → slice_get replies k ≡ Some says
      → (spelled : Result SaslFrame Error) × SpellsBody event.body spelled
      × ((ServerAllocates spelled × (says ≡ Failed faults.OutOfMemory))
      ⊎ ServerAnswers provider (Open provider events replies k) event spelled says)
