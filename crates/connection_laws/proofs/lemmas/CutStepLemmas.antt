-- Steps of servers and clients whose machines are functions, and the connections that are made of them.
use Rattle.std.proofs.Common.{◌≡◌, ◌≢◌, ℕ, Bool, Option, List, sym, ap, ◌∙◌, subst, inl, inr, arith, Result, Ok, Err}
use Rattle.fe2o3_sasl_wire.specs.declared.amqp_types.SaslCode.TheVariants as outcomes
use Rattle.fe2o3_sasl_wire.specs.declared.sasl_frames.error.Error.{Error}
use Rattle.fe2o3_sasl_wire.specs.declared.sasl_frames.error.Error.TheVariants as faults
use Rattle.fe2o3_sasl_wire.specs.SaslFrames.{SaslFrame, canonical}
use Rattle.fe2o3_sasl_wire.specs.SaslFrames as frames
use Rattle.fe2o3_sasl_core.specs.Bodies.{carried, server_says}
use Rattle.fe2o3_sasl_core.specs.Events.{Given, ServerSays, Challenged, Concluded, Failed, ClientSays, Started, Answered, Reported, Refused as ClientRefused}
use Rattle.fe2o3_sasl_core.specs.AnyMechanismLaws.{Machine}
use Rattle.fe2o3_sasl_core.specs.Profiles.{Profile, accepts_signature_by_challenge}
use Rattle.fe2o3_sasl_core.specs.Runs.{AcceptorAnswers, AcceptorGives, AcceptorSteps, ProfileGives, ProfileReplies, ProfileSteps, Replies}
use Rattle.fe2o3_sasl_core.specs.SaslAcceptor.{acceptor_machine}
use Rattle.fe2o3_sasl_core.specs.declared.sasl_profile.error.ProfileError.{ProfileError}
use Rattle.fe2o3_sasl_core.proofs.lemmas.frames.SpellingLemmas.{one_spelling}
use Rattle.fe2o3_sasl_core.proofs.lemmas.machines.OneReplyLemmas.{one_acceptor_reply, one_profile_reply}
use Rattle.fe2o3_sasl_negotiation.specs.declared.progress.Expected.{Expected}
use Rattle.fe2o3_sasl_negotiation.specs.declared.progress.Progress.{Progress}
use Rattle.fe2o3_sasl_negotiation.specs.declared.progress.FrameKind.{FrameKind}
use Rattle.fe2o3_sasl_negotiation.specs.declared.progress.FrameKind.TheVariants as turns
use Rattle.fe2o3_sasl_negotiation.specs.ClientNegotiation as of_client
use Rattle.fe2o3_sasl_negotiation.specs.ServerNegotiation as of_server
use Rattle.fe2o3_sasl_negotiation.specs.Negotiations.{SideOutput, Sends}
use Rattle.connection_laws.specs.Cuts.{IsFunction, ServersNegotiateEqually, FunctionsNegotiateEqually, ClientsNegotiateEqually}
use Rattle.fe2o3_sasl_negotiation.proofs.lemmas.ClientConnectionLemmas.{client_chain}
use Rattle.connection_laws.proofs.lemmas.CutLemmas.{one_result}
use Rattle.connection_laws.proofs.lemmas.ServerLemmas.{server_chain}
use Rattle.fe2o3_sasl_core.specs.declared.sasl_profile.error.ProfileError.TheVariants.{NotImplemented, Scram, StaleKeys, Frame as FrameFault, OutOfMemory}

-- a body is sent in one way
one_sent : (body : List ℕ) (progress : Progress) (expected : Expected) (answer reply : SideOutput)
    → Sends body progress expected answer
    → Sends body progress expected reply → answer ≡ reply
one_sent body progress expected answer reply (inl (fits, is)) (inl (also, too)) = is ∙ sym too
one_sent body progress expected answer reply (inl (fits, is)) (inr (long, too)) = absurd (omega (arith, fits, long))
one_sent body progress expected answer reply (inr (long, is)) (inl (fits, too)) = absurd (omega (arith, fits, long))
one_sent body progress expected answer reply (inr (long, is)) (inr (also, too)) = is ∙ sym too

-- ---- a server

server_answer : (says : ServerSays) (turn : FrameKind) (answer reply : SideOutput) → of_server.ServerOutputs says turn answer
    → of_server.ServerOutputs says turn reply → answer ≡ reply
server_answer (Challenged body) turn answer reply is too = one_sent body _ _ answer reply is too
server_answer (Concluded outcomes.Ok body) turn answer reply is too = one_sent body _ _ answer reply is too
server_answer (Concluded outcomes.Auth body) turn answer reply is too = one_sent body _ _ answer reply is too
server_answer (Concluded outcomes.Sys body) turn answer reply is too = one_sent body _ _ answer reply is too
server_answer (Concluded outcomes.SysPerm body) turn answer reply is too = one_sent body _ _ answer reply is too
server_answer (Concluded outcomes.SysTemp body) turn answer reply is too = one_sent body _ _ answer reply is too
server_answer (Failed faults.OutOfMemory) turn answer reply is too = absurd is
server_answer (Failed faults.DecodeError) turn answer reply is too = is ∙ sym too
server_answer (Failed faults.NotImplemented) turn answer reply is too = is ∙ sym too
server_answer (Failed faults.TooLarge) turn answer reply is too = is ∙ sym too

server_has_memory : (says : ServerSays) (turn : FrameKind) (answer : SideOutput) → of_server.ServerOutputs says turn answer
    → says ≢ Failed faults.OutOfMemory
server_has_memory says turn answer said is =
    subst (λ (s : ServerSays). of_server.ServerOutputs s turn answer) is said

module _ {S : Type 0} (machine : Machine S) (function : IsFunction machine) where
  server_answers : (state : S) (nonce : List ℕ) (frame : SaslFrame) (says other : ServerSays) (next end : S)
      → says ≢ Failed faults.OutOfMemory → other ≢ Failed faults.OutOfMemory
      → AcceptorAnswers machine state nonce frame says next → AcceptorAnswers machine state nonce frame other end
      → (says ≡ other) × (next ≡ end)
  server_answers state nonce frame says other next end memory too (inl wants) two = absurd (memory wants.0)
  server_answers state nonce frame says other next end memory too (inr one) (inl wants) = absurd (too wants.0)
  server_answers state nonce frame says other next end memory too (inr (reply, moved, is, sends))
      (inr (again, went, also, sent)) =
      let (reply_is, moved_is) = function state nonce frame reply again moved went is also in (
        sends.0 ∙ (ap (λ (f : SaslFrame). carried (Failed faults.TooLarge) (server_says f) (canonical f)) reply_is
            ∙ sym sent.0),
        sends.1 ∙ ((λ i. carried state (λ _. moved_is i) (canonical (reply_is i))) ∙ sym sent.1),
      )

  pub server_gives : (spelled : Result SaslFrame Error) (state : S) (event : Given) (says other : ServerSays) (next end : S)
      → says ≢ Failed faults.OutOfMemory → other ≢ Failed faults.OutOfMemory
      → AcceptorGives machine state event spelled says next → AcceptorGives machine state event spelled other end
      → (says ≡ other) × (next ≡ end)
  server_gives (Err fault) state event says other next end memory too one two = (one.0 ∙ sym two.0, one.1 ∙ sym two.1)
  server_gives (Ok (frames.Mechanisms names)) state event says other next end memory too one two =
      (one.0 ∙ sym two.0, one.1 ∙ sym two.1)
  server_gives (Ok (frames.Challenge text)) state event says other next end memory too one two =
      (one.0 ∙ sym two.0, one.1 ∙ sym two.1)
  server_gives (Ok (frames.Outcome code more)) state event says other next end memory too one two =
      (one.0 ∙ sym two.0, one.1 ∙ sym two.1)
  server_gives (Ok (frames.Init mechanism response hostname)) state event says other next end memory too one two =
      server_answers state event.nonce (frames.Init mechanism response hostname) says other next end memory too one two
  server_gives (Ok (frames.Response text)) state event says other next end memory too one two =
      server_answers state event.nonce (frames.Response text) says other next end memory too one two

  server_step : (turn : FrameKind) (state : S) (event : Given) (says other : ServerSays) (answer reply : SideOutput)
      (next end : S)
      → AcceptorSteps machine state event says next → of_server.ServerOutputs says turn answer
      → AcceptorSteps machine state event other end → of_server.ServerOutputs other turn reply
      → (says ≡ other) × (next ≡ end) × (answer ≡ reply)
  server_step turn state event says other answer reply next end (spelled, spells, gives) said (read, reads, goes) told =
      let same = one_spelling event.body spelled read spells reads in
      let (says_are, ends_are) = server_gives read state event says other next end
      (server_has_memory says turn answer said) (server_has_memory other turn reply told)
      (subst (λ (r : Result SaslFrame Error). AcceptorGives machine state event r says next) same gives) goes in (
        says_are,
        ends_are,
        server_answer other turn answer reply (subst (λ (s : ServerSays). of_server.ServerOutputs s turn answer) says_are said)
            told,
      )

pub functions_negotiate_equally : {S : Type 0} (machine : Machine S) → FunctionsNegotiateEqually machine
functions_negotiate_equally machine function limit state pieces others taken sent out last end small first second nonces =
    one_result limit small (AcceptorSteps machine) of_server.ServerOutputs (server_step machine function)
    of_server.server_follows server_chain turns.Init state pieces others taken sent out last end first second nonces

pub servers_negotiate_equally : ServersNegotiateEqually acceptor_machine
servers_negotiate_equally = functions_negotiate_equally acceptor_machine one_acceptor_reply

-- ---- a client

client_answer : (signs : Bool) (says : ClientSays) (turn : FrameKind) (answer reply : SideOutput)
    → of_client.ClientOutputs signs says turn answer → of_client.ClientOutputs signs says turn reply → answer ≡ reply
client_answer signs (Started body) turns.Mechanisms answer reply is too = one_sent body _ _ answer reply is too
client_answer signs (Started body) turns.Init answer reply is too = is ∙ sym too
client_answer signs (Started body) turns.Challenge answer reply is too = is ∙ sym too
client_answer signs (Started body) turns.Response answer reply is too = is ∙ sym too
client_answer signs (Started body) turns.Outcome answer reply is too = is ∙ sym too
client_answer signs (Started body) turns.SignatureChallenge answer reply is too = is ∙ sym too
client_answer signs (Answered body) turns.Challenge answer reply is too = one_sent body _ _ answer reply is too
client_answer signs (Answered body) turns.SignatureChallenge answer reply is too = one_sent body _ _ answer reply is too
client_answer signs (Answered body) turns.Mechanisms answer reply is too = is ∙ sym too
client_answer signs (Answered body) turns.Init answer reply is too = is ∙ sym too
client_answer signs (Answered body) turns.Response answer reply is too = is ∙ sym too
client_answer signs (Answered body) turns.Outcome answer reply is too = is ∙ sym too
client_answer signs (Reported outcomes.Ok more) turn answer reply is too = is ∙ sym too
client_answer signs (Reported outcomes.Auth more) turn answer reply is too = is ∙ sym too
client_answer signs (Reported outcomes.Sys more) turn answer reply is too = is ∙ sym too
client_answer signs (Reported outcomes.SysPerm more) turn answer reply is too = is ∙ sym too
client_answer signs (Reported outcomes.SysTemp more) turn answer reply is too = is ∙ sym too
client_answer signs (ClientRefused OutOfMemory) turn answer reply is too = absurd is
client_answer signs (ClientRefused NotImplemented) turn answer reply is too = is ∙ sym too
client_answer signs (ClientRefused (Scram fault)) turn answer reply is too = is ∙ sym too
client_answer signs (ClientRefused StaleKeys) turn answer reply is too = is ∙ sym too
client_answer signs (ClientRefused (FrameFault fault)) turn answer reply is too = is ∙ sym too

client_has_memory : (signs : Bool) (says : ClientSays) (turn : FrameKind) (answer : SideOutput)
    → of_client.ClientOutputs signs says turn answer → says ≢ ClientRefused OutOfMemory
client_has_memory signs says turn answer said is =
    subst (λ (s : ClientSays). of_client.ClientOutputs signs s turn answer) is said

-- what is made of one reply
client_says : (reply : Result SaslFrame ProfileError) (profile moved : Profile) (says other : ClientSays)
    (next end : Profile) → Replies profile moved reply says next → Replies profile moved reply other end
    → (says ≡ other) × (next ≡ end)
client_says (Err fault) profile moved says other next end one two = (one.0 ∙ sym two.0, one.1 ∙ sym two.1)
client_says (Ok (frames.Init mechanism response hostname)) profile moved says other next end one two =
    (one.0 ∙ sym two.0, one.1 ∙ sym two.1)
client_says (Ok (frames.Outcome code more)) profile moved says other next end one two =
    (one.0 ∙ sym two.0, one.1 ∙ sym two.1)
client_says (Ok (frames.Mechanisms names)) profile moved says other next end one two =
    (one.0 ∙ sym two.0, one.1 ∙ sym two.1)
client_says (Ok (frames.Challenge text)) profile moved says other next end one two =
    (one.0 ∙ sym two.0, one.1 ∙ sym two.1)
client_says (Ok (frames.Response text)) profile moved says other next end one two =
    (one.0 ∙ sym two.0, one.1 ∙ sym two.1)

client_replies : (hostname : Option (List ℕ)) (profile : Profile) (nonce : List ℕ) (frame : SaslFrame)
    (says other : ClientSays) (next end : Profile) → says ≢ ClientRefused OutOfMemory
    → other ≢ ClientRefused OutOfMemory → ProfileReplies hostname profile nonce frame says next
    → ProfileReplies hostname profile nonce frame other end → (says ≡ other) × (next ≡ end)
client_replies hostname profile nonce frame says other next end memory too (inl wants) two = absurd (memory wants.1)
client_replies hostname profile nonce frame says other next end memory too (inr one) (inl wants) = absurd (too wants.1)
client_replies hostname profile nonce frame says other next end memory too (inr (reply, moved, is, sends))
    (inr (again, went, also, sent)) =
    let (reply_is, moved_is) = one_profile_reply profile hostname nonce frame reply again moved went is also in
    client_says again profile went says other next end
    (subst (λ (p : Profile). Replies profile p again says next) moved_is
    (subst (λ (r : Result SaslFrame ProfileError). Replies profile moved r says next) reply_is sends)) sent

client_gives : (spelled : Result SaslFrame Error) (hostname : Option (List ℕ)) (profile : Profile) (event : Given)
    (says other : ClientSays) (next end : Profile) → says ≢ ClientRefused OutOfMemory
    → other ≢ ClientRefused OutOfMemory → ProfileGives hostname profile event spelled says next
    → ProfileGives hostname profile event spelled other end → (says ≡ other) × (next ≡ end)
client_gives (Err fault) hostname profile event says other next end memory too one two =
    (one.0 ∙ sym two.0, one.1 ∙ sym two.1)
client_gives (Ok frame) hostname profile event says other next end memory too one two =
    client_replies hostname profile event.nonce frame says other next end memory too one two

client_step : (hostname : Option (List ℕ)) (signs : Bool) (turn : FrameKind) (profile : Profile) (event : Given)
    (says other : ClientSays) (answer reply : SideOutput) (next end : Profile)
    → ProfileSteps hostname profile event says next → of_client.ClientOutputs signs says turn answer
    → ProfileSteps hostname profile event other end → of_client.ClientOutputs signs other turn reply
    → (says ≡ other) × (next ≡ end) × (answer ≡ reply)
client_step hostname signs turn profile event says other answer reply next end (spelled, spells, gives) said
    (read, reads, goes) told =
    let same = one_spelling event.body spelled read spells reads in
    let (says_are, ends_are) = client_gives read hostname profile event says other next end
    (client_has_memory signs says turn answer said) (client_has_memory signs other turn reply told)
    (subst (λ (r : Result SaslFrame Error). ProfileGives hostname profile event r says next) same gives) goes in (
      says_are,
      ends_are,
      client_answer signs other turn answer reply
          (subst (λ (s : ClientSays). of_client.ClientOutputs signs s turn answer) says_are said) told,
    )

pub clients_negotiate_equally : ClientsNegotiateEqually
clients_negotiate_equally hostname limit profile pieces others taken sent out last end small first second nonces =
    let signs : Bool = accepts_signature_by_challenge profile in
    one_result limit small (ProfileSteps hostname) (of_client.ClientOutputs signs) (client_step hostname signs)
    (of_client.client_follows signs) (client_chain signs) turns.Mechanisms profile pieces others taken sent out last end
    first second nonces
