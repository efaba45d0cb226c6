-- What the sides of an unaltered connection make of each frame that arrives.
use Rattle.std.proofs.Common.{◌≡◌, ◌≢◌, ℕ, Bool, ◌+◌, ◌<◌, ◌≤◌, ◌^◌, Option, Some, List, [], ◌∷◌, ◌++◌, codes, length, refl, subst, arith, inl, inr, Ok}
use Rattle.std.specs.Fmt.{decimal}
use Rattle.std.specs.Str.{IsUtf8}
use Rattle.std.proofs.lemmas.Fmt.{IsAscii-decimal}
use Rattle.std.proofs.lemmas.Option.{same_Some}
use Rattle.std.proofs.lemmas.Str.{IsUtf8-append, IsUtf8-from_ascii}
use Rattle.fe2o3_sasl_wire.specs.declared.amqp_types.SaslCode.TheVariants as outcomes
use Rattle.fe2o3_sasl_wire.specs.declared.sasl_frames.error.Error.TheVariants as faults
use Rattle.fe2o3_sasl_wire.specs.SaslFrames.{SaslFrame, canonical}
use Rattle.fe2o3_sasl_wire.specs.SaslFrames as frames
use Rattle.fe2o3_scram.specs.ChannelBinding.{is_bound, header_of}
use Rattle.fe2o3_scram.specs.ClientFirst.{client_first_with}
use Rattle.fe2o3_scram.specs.Credentials.{Provider}
use Rattle.fe2o3_scram.specs.Exchanges.{Exchange, IsSound, nonce_in, first_in, answer_in}
use Rattle.fe2o3_scram.specs.ScramServer.{Initial}
use Rattle.fe2o3_scram.specs.Texts.{base64_text}
use Rattle.fe2o3_scram.proofs.lemmas.messages.ExchangeLemmas.{nonce_text}
use Rattle.fe2o3_scram.proofs.lemmas.texts.AsciiLemmas.{IsUtf8-base64_text, IsUtf8-literal}
use Rattle.fe2o3_sasl_core.specs.Bodies.{SpellsBody}
use Rattle.fe2o3_sasl_core.specs.Events.{Given, Login, login_mechanism, IsLogin, ServerSays, Challenged, Concluded, Failed, ClientSays, Started, Answered, Refused, login_header}
use Rattle.fe2o3_sasl_core.specs.declared.sasl_profile.error.ProfileError.TheVariants.{Frame as FrameFault, OutOfMemory}
use Rattle.fe2o3_sasl_core.specs.Profiles.{Profile, scram_profile, accepts_signature_by_challenge}
use Rattle.fe2o3_sasl_core.specs.Runs.{AcceptorSteps, ProfileSteps, Runs}
use Rattle.fe2o3_sasl_core.specs.SaslAcceptor.{Acceptor, ScramAcceptor, acceptor_names, acceptor_machine}
use Rattle.fe2o3_sasl_core.specs.ServerHistory.{final_message}
use Rattle.fe2o3_sasl_core.specs.TwoSides.{Sides, sides_of, Histories}
use Rattle.fe2o3_sasl_core.specs.UnalteredRuns.{Suffices, HoldsLogin, client_body}
use Rattle.fe2o3_sasl_core.proofs.lemmas.frames.SpellingLemmas.{spells_mechanisms}
use Rattle.fe2o3_sasl_core.proofs.lemmas.machines.ClientMachineLemmas.{profile_runs_are_histories}
use Rattle.fe2o3_sasl_core.proofs.lemmas.machines.ServerMachineLemmas.{acceptor_runs_are_histories}
use Rattle.fe2o3_sasl_core.proofs.lemmas.unaltered.UnalteredStepLemmas as step
use Rattle.fe2o3_sasl_negotiation.specs.declared.progress.Expected.{Expected}
use Rattle.fe2o3_sasl_negotiation.specs.declared.progress.Expected.TheVariants.{Frame}
use Rattle.fe2o3_sasl_negotiation.specs.declared.progress.Progress.{Progress}
use Rattle.fe2o3_sasl_negotiation.specs.declared.progress.Progress.TheVariants.{InProgress, Authenticated}
use Rattle.fe2o3_sasl_negotiation.specs.declared.progress.FrameKind.{FrameKind}
use Rattle.fe2o3_sasl_negotiation.specs.declared.progress.FrameKind.TheVariants as turns
use Rattle.fe2o3_sasl_negotiation.specs.ClientNegotiation as of_client
use Rattle.fe2o3_sasl_negotiation.specs.ServerNegotiation as of_server
use Rattle.fe2o3_sasl_negotiation.specs.FrameSizes.{CanBeSent}
use Rattle.fe2o3_sasl_negotiation.specs.Framing.{sasl_header, framed}
use Rattle.fe2o3_sasl_negotiation.specs.Laws.{Negotiates}
use Rattle.fe2o3_sasl_negotiation.specs.Negotiations.{Side, SideOutput, Sends, IsInTurn}
use Rattle.connection_laws.proofs.lemmas.ReplyListLemmas.{NoneIs, none_at, arriving}
use Rattle.connection_laws.specs.Unaltered.{Joined, FitsFrames, TakesFrames}
use Rattle.connection_laws.proofs.lemmas.ExactSideLemmas.{Exact, ClientMakes, ServerMakes, Takes, takes, goes_on_with}
use Rattle.connection_laws.proofs.lemmas.SmallReplyLemmas.{login_init_fits, nonce_is_printable, long_enough, start_is_small}

-- ---- what is said is neither that memory ran out nor too large

abbrev pub ClientFine : ClientSays → Type 0
ClientFine says = (says ≢ Refused OutOfMemory) × (says ≢ Refused (FrameFault faults.TooLarge))

abbrev pub ServerFine : ServerSays → Type 0
ServerFine says = (says ≢ Failed faults.OutOfMemory) × (says ≢ Failed faults.TooLarge)

pub client_memory : (signs : Bool) (says : ClientSays) (turn : FrameKind) (answer : SideOutput)
    → of_client.ClientOutputs signs says turn answer → says ≢ Refused OutOfMemory
client_memory signs says turn answer said same =
    subst (λ (s : ClientSays). of_client.ClientOutputs signs s turn answer) same said

pub server_memory : (says : ServerSays) (turn : FrameKind) (answer : SideOutput) → of_server.ServerOutputs says turn answer
    → says ≢ Failed faults.OutOfMemory
server_memory says turn answer said same = subst (λ (s : ServerSays). of_server.ServerOutputs s turn answer) same said

-- ---- the machines are asked

pub authenticated_is_not_in_progress : Authenticated ≢ InProgress
authenticated_is_not_in_progress same = cc

-- a side that has ended takes nothing and sends nothing
pub ended_rests : {S : Type 0} (Answers : Expected → S → List ℕ → List ℕ → SideOutput → S → Type 0) (side last : Side S)
    (nonces : List (List ℕ)) (bytes sent : List ℕ) → side.progress ≢ InProgress
    → Negotiates Answers side nonces bytes sent last → (sent ≡ []) × (bytes ≡ []) × (last ≡ side)
ended_rests Answers side last [] bytes sent ended (nothing, inl stops) = absurd (ended stops.0)
ended_rests Answers side last [] bytes sent ended (nothing, inr stops) = (nothing, stops.1, stops.2)
ended_rests Answers side last (nonce ∷ nonces) bytes sent ended
    (taken, first, next, more, wants, no_part, receives, rest, all) = absurd (ended wants)

pub asked_client : (hostname : Option (List ℕ)) (turn : FrameKind) (profile next : Profile) (nonce unit : List ℕ)
    (answer : SideOutput)
    → of_client.ClientSideAnswers hostname (Frame turn) profile nonce unit answer next
    → of_client.ClientSideAnswers hostname (Frame turn) profile nonce unit answer next
asked_client hostname turn profile next nonce unit answer answers = answers

pub asked_server : (turn : FrameKind) (acceptor next : Acceptor) (nonce unit : List ℕ) (answer : SideOutput)
    → of_server.ServerSideAnswers acceptor_names acceptor_machine (Frame turn) acceptor nonce unit answer next
    → of_server.ServerSideAnswers acceptor_names acceptor_machine (Frame turn) acceptor nonce unit answer next
asked_server turn acceptor next nonce unit answer answers = answers

-- what a client in this state, and a server, sends for a reply
abbrev pub ClientSends : Profile → ClientSays → FrameKind → SideOutput → Type 0
ClientSends profile says turn answer =
    of_client.ClientOutputs (accepts_signature_by_challenge profile) says turn answer

abbrev pub ServerSends : Acceptor → ServerSays → FrameKind → SideOutput → Type 0
ServerSends acceptor says turn answer = of_server.ServerOutputs says turn answer

-- the turn after the answer of a client in this state to a challenge
abbrev pub turn_after_response : Profile → FrameKind
turn_after_response profile = of_client.client_follows (accepts_signature_by_challenge profile) turns.Challenge

abbrev pub ClientTakes : Login → ℕ → FrameKind → Profile → List ℕ → List ℕ → List ℕ → Side Profile → Type 0
ClientTakes login limit turn profile body more sent last = Takes (of_client.ClientSideAnswers login.hostname)
    (ProfileSteps login.hostname) ClientSends (asked_client login.hostname) limit turn profile body more sent last

abbrev pub ServerTakes : ℕ → FrameKind → Acceptor → List ℕ → List ℕ → List ℕ → Side Acceptor → Type 0
ServerTakes limit turn acceptor body more sent last =
    Takes (of_server.ServerSideAnswers acceptor_names acceptor_machine) (AcceptorSteps acceptor_machine) ServerSends
    asked_server limit turn acceptor body more sent last

-- the server-first message is UTF-8
pub first_text : (x : Exchange) → IsSound x → IsUtf8 (first_in x)
first_text x sound =
    let wide : x.count < 2 ^ 64 = omega (arith, sound.within, sound.limit) in
    IsUtf8-append (codes "r=" ++ nonce_in x) (codes ",s=" ++ (base64_text x.salt ++ (codes ",i=" ++ decimal x.count)))
    (IsUtf8-append (codes "r=") (nonce_in x) (IsUtf8-literal (codes "r=") refl) (nonce_text x sound))
    (IsUtf8-append (codes ",s=") (base64_text x.salt ++ (codes ",i=" ++ decimal x.count))
    (IsUtf8-literal (codes ",s=") refl)
    (IsUtf8-append (base64_text x.salt) (codes ",i=" ++ decimal x.count) (IsUtf8-base64_text x.salt)
    (IsUtf8-append (codes ",i=") (decimal x.count) (IsUtf8-literal (codes ",i=") refl)
    (IsUtf8-from_ascii (decimal x.count) (IsAscii-decimal x.count wide)))))

-- ---- both sides

-- what both sides of an unaltered connection are, with the premises of the law
pub record Case : Type 0 where
  pub login : Login
  pub provider : Provider
  pub password : List ℕ
  pub salt : List ℕ
  pub count : ℕ
  pub client : Side Profile
  pub server : Side Acceptor
  pub joined : Joined login provider client server
  pub is : IsLogin login
  pub holds : HoldsLogin (sides_of login [] [] provider [] []) password salt count
  pub fits : FitsFrames login salt
  pub wide : TakesFrames joined

-- an event, of a body and the nonce of the call that completes it
abbrev pub event : List ℕ → List ℕ → Given
event body nonce = record { body = body; nonce = nonce }

module _ (c : Case) where
  -- what both have been given and have said so far
  abbrev pub met : List Given → List ClientSays → List Given → List ServerSays → Sides
  met events replies server_events server_replies = sides_of c.login events replies c.provider server_events server_replies

  pub held : (events : List Given) (replies : List ClientSays) (server_events : List Given)
      (server_replies : List ServerSays)
      → HoldsLogin (met events replies server_events server_replies) c.password c.salt c.count
  held events replies server_events server_replies = record {
    version = c.holds.version;
    stored = c.holds.stored;
    bytes = c.holds.bytes;
    opens = c.holds.opens;
    some = c.holds.some;
    least = c.holds.least;
    within = c.holds.within;
    header = c.holds.header;
    channel = c.holds.channel;
    identity = c.holds.identity;
    name = c.holds.name;
  }

  pub suffices : (events : List Given) (replies : List ClientSays) (server_events : List Given)
      (server_replies : List ServerSays) → NoneIs (Refused OutOfMemory) replies
      → NoneIs (Refused (FrameFault faults.TooLarge)) replies → NoneIs (Failed faults.OutOfMemory) server_replies
      → NoneIs (Failed faults.TooLarge) server_replies → Suffices (met events replies server_events server_replies)
  suffices events replies server_events server_replies memory small server_memory server_small = record {
    client = none_at (Refused OutOfMemory) replies memory;
    server = none_at (Failed faults.OutOfMemory) server_replies server_memory;
    client_small = none_at (Refused (FrameFault faults.TooLarge)) replies small;
    server_small = none_at (Failed faults.TooLarge) server_replies server_small;
  }

  pub histories : (events : List Given) (replies : List ClientSays) (profile : Profile) (server_events : List Given)
      (server_replies : List ServerSays) (acceptor : Acceptor)
      → Runs (ProfileSteps c.login.hostname) (scram_profile c.login) events replies profile
      → Runs (AcceptorSteps acceptor_machine) (ScramAcceptor c.provider Initial) server_events server_replies acceptor
      → Histories (met events replies server_events server_replies)
  histories events replies profile server_events server_replies acceptor runs server_runs = record {
    client = profile_runs_are_histories c.login events replies profile runs;
    server = acceptor_runs_are_histories c.provider server_events server_replies acceptor server_runs;
  }

  -- ---- what either makes of what the other sends

  pub client_goes_on : (turn : FrameKind) (profile : Profile) (body more sent : List ℕ)
      (made : ClientTakes c.login c.joined.client_limit turn profile body more sent c.client)
      (reply : List ℕ) (expected : FrameKind)
      → length reply + 4 ≤ 512 → Sends reply InProgress (Frame expected) made.answer
      → (sent ≡ framed reply ++ made.after)
      × ClientMakes c.login.hostname c.joined.client_limit (Frame expected) made.next made.nonces more made.after c.client
  client_goes_on turn profile body more sent made reply expected small is =
      goes_on_with (of_client.ClientSideAnswers c.login.hostname) (ProfileSteps c.login.hostname) ClientSends
      (asked_client c.login.hostname) c.joined.client_limit turn profile body more sent c.client made reply
      InProgress (Frame expected) small is

  pub client_takes : (turn : FrameKind) (profile : Profile) (nonces : List (List ℕ)) (body more bytes sent : List ℕ)
      (frame : SaslFrame) → canonical frame ≡ Some body → length body + 4 ≤ 512 → SpellsBody body (Ok frame)
      → IsInTurn turn frame → bytes ≡ framed body ++ more
      → ClientMakes c.login.hostname c.joined.client_limit (Frame turn) profile nonces bytes sent c.client
      → ClientTakes c.login c.joined.client_limit turn profile body more sent c.client
  client_takes turn profile nonces body more bytes sent frame whole small spells in_turn all made =
      takes (of_client.ClientSideAnswers c.login.hostname) (ProfileSteps c.login.hostname) ClientSends
      (asked_client c.login.hostname) c.joined.client_limit turn profile nonces body more sent c.client frame c.wide.client_limit
      (long_enough frame body whole) small spells in_turn
      (subst (λ (l : List ℕ). ClientMakes c.login.hostname c.joined.client_limit (Frame turn) profile nonces l sent c.client) all
      made)

  pub server_goes_on : (turn : FrameKind) (acceptor : Acceptor) (body more sent : List ℕ)
      (made : ServerTakes c.joined.server_limit turn acceptor body more sent c.server) (reply : List ℕ) (progress : Progress)
      (expected : Expected) → length reply + 4 ≤ 512 → Sends reply progress expected made.answer
      → (sent ≡ framed reply ++ made.after)
      × Negotiates (Exact (of_server.ServerSideAnswers acceptor_names acceptor_machine))
      (record {
        progress = progress;
        expected = expected;
        limit = c.joined.server_limit;
        held = [];
        state = made.next;
      }) made.nonces more made.after c.server
  server_goes_on turn acceptor body more sent made reply progress expected small is =
      goes_on_with (of_server.ServerSideAnswers acceptor_names acceptor_machine) (AcceptorSteps acceptor_machine)
      ServerSends asked_server c.joined.server_limit turn acceptor body more sent c.server made reply progress expected
      small is

  pub server_takes : (turn : FrameKind) (acceptor : Acceptor) (nonces : List (List ℕ)) (body more bytes sent : List ℕ)
      (frame : SaslFrame) → canonical frame ≡ Some body → length body + 4 ≤ 512 → SpellsBody body (Ok frame)
      → IsInTurn turn frame → bytes ≡ framed body ++ more
      → ServerMakes c.joined.server_limit (Frame turn) acceptor nonces bytes sent c.server
      → ServerTakes c.joined.server_limit turn acceptor body more sent c.server
  server_takes turn acceptor nonces body more bytes sent frame whole small spells in_turn all made =
      takes (of_server.ServerSideAnswers acceptor_names acceptor_machine) (AcceptorSteps acceptor_machine)
      ServerSends asked_server c.joined.server_limit turn acceptor nonces body more sent c.server frame
      c.wide.server_limit
      (long_enough frame body whole) small spells in_turn
      (subst (λ (l : List ℕ). ServerMakes c.joined.server_limit (Frame turn) acceptor nonces l sent c.server) all made)

  -- ---- the first body

  -- the client starts
  module _ (offer more sent : List ℕ)
      (offered : canonical (frames.Mechanisms (login_mechanism c.login ∷ [])) ≡ Some offer)
      (zeroth : ClientTakes c.login c.joined.client_limit turns.Mechanisms (scram_profile c.login) offer more sent c.client) where
    abbrev offer_event : Given
    offer_event = event offer zeroth.nonce

    start_run : Runs (ProfileSteps c.login.hostname) (scram_profile c.login) (offer_event ∷ []) (zeroth.says ∷ []) zeroth.next
    start_run = (zeroth.says, zeroth.next, [], zeroth.steps, refl, (refl, refl))

    pub init_fits : CanBeSent (frames.Init (login_mechanism c.login)
        (Some (client_first_with (header_of (login_header c.login)) c.login.user (base64_text zeroth.nonce))) c.login.hostname)
    init_fits = login_init_fits c.login c.salt zeroth.nonce c.fits zeroth.long.1

    pub zeroth_fine : ClientFine zeroth.says
    zeroth_fine = (
      client_memory (accepts_signature_by_challenge (scram_profile c.login)) zeroth.says turns.Mechanisms zeroth.answer
          zeroth.said,
      start_is_small c.login (offer_event ∷ []) (zeroth.says ∷ []) 0 offer_event zeroth.says
          (profile_runs_are_histories c.login (offer_event ∷ []) (zeroth.says ∷ []) zeroth.next start_run) refl refl
          (spells_mechanisms c.login.version (is_bound c.login.channel) offer offered) init_fits,
    )

    pub starts : (body : List ℕ) × (zeroth.says ≡ Started body)
        × (canonical (frames.Init (login_mechanism c.login)
        (Some (client_first_with (header_of (login_header c.login)) c.login.user (base64_text zeroth.nonce))) c.login.hostname)
        ≡ Some body)
    starts =
        let (body, arrives) = arriving (client_body (Some zeroth.says)) in
        let events : List Given = offer_event ∷ [] in
        let replies : List ClientSays = zeroth.says ∷ [] in
        let (says, init) = step.starts (met events replies [] []) c.password c.salt c.count offer_event offer_event
        (histories events replies zeroth.next [] [] (ScramAcceptor c.provider Initial)
        (zeroth.says, zeroth.next, [], zeroth.steps, refl, (refl, refl)) (refl, refl))
        c.is (held events replies [] [])
        (suffices events replies [] [] (zeroth_fine.0, tt) (zeroth_fine.1, tt) tt tt)
        (λ _. nonce_is_printable zeroth.nonce zeroth.long, λ _. nonce_is_printable zeroth.nonce zeroth.long)
        body (refl, offered) arrives in
        (body, same_Some zeroth.says (Started body) says, init)

-- the client's and the server's exchange with these nonces
abbrev pub exchange_by : Case → List ℕ → List ℕ → Exchange
exchange_by c mine theirs = step.exchange_of c.login c.provider.rules c.provider.rights c.password c.salt c.count mine theirs

-- an unaltered connection up to the server's Ok, which the client has taken
pub record UpToOk (c : Case) : Type 0 where
  pub offer : List ℕ
  pub init : List ℕ
  pub challenge : List ℕ
  pub response : List ℕ
  pub outcome : List ℕ
  pub server_sends : List ℕ
  pub client_sends : List ℕ
  pub server_ends : List ℕ
  pub client_ends : List ℕ
  pub more : List ℕ
  pub zeroth : ClientTakes c.login c.joined.client_limit turns.Mechanisms (scram_profile c.login) offer server_sends
      c.joined.client_sent c.client
  pub first : ServerTakes c.joined.server_limit turns.Init (ScramAcceptor c.provider Initial) init client_sends
      server_sends c.server
  pub second : ClientTakes c.login c.joined.client_limit turns.Challenge zeroth.next challenge server_ends client_sends
      c.client
  pub third : ServerTakes c.joined.server_limit turns.Response first.next response client_ends server_ends c.server
  pub fourth : ClientTakes c.login c.joined.client_limit (turn_after_response zeroth.next) second.next outcome more
      client_ends c.client
  pub offered : canonical (frames.Mechanisms (login_mechanism c.login ∷ [])) ≡ Some offer
  pub started : zeroth.says ≡ Started init
  pub sent_init : canonical (frames.Init (login_mechanism c.login)
      (Some (client_first_with (header_of (login_header c.login)) c.login.user (base64_text zeroth.nonce))) c.login.hostname)
      ≡ Some init
  pub challenged : first.says ≡ Challenged challenge
  pub sent_challenge : canonical (frames.Challenge (first_in (exchange_by c zeroth.nonce first.nonce))) ≡ Some challenge
  pub answered : second.says ≡ Answered response
  pub sent_response : canonical (frames.Response (answer_in (exchange_by c zeroth.nonce first.nonce)).message)
      ≡ Some response
  pub accepted : third.says ≡ Concluded outcomes.Ok outcome
  pub sent_outcome : canonical (frames.Outcome outcomes.Ok
      (Some (final_message c.provider (step.accepted_in (exchange_by c zeroth.nonce first.nonce))))) ≡ Some outcome
  pub client_fine : ClientFine zeroth.says × ClientFine second.says
  pub server_fine : ServerFine first.says × ServerFine third.says
  pub server_all : c.joined.server_sent ≡ sasl_header ++ (framed offer ++ (framed challenge ++ (framed outcome ++ more)))
  pub client_all : c.joined.client_sent ≡ framed init ++ (framed response ++ client_ends)
  pub server_rests : c.server ≡ record {
    progress = Authenticated;
    expected = Frame turns.Response;
    limit = c.joined.server_limit;
    held = [];
    state = third.next;
  }
