-- What a client and a server answer to the units of their login.
use Rattle.std.proofs.Common.{◌≡◌, ℕ, ◌<◌, ◌^◌, Bool, true, false, Option, Some, List, [], ◌∷◌, ◌++◌, codes, refl, sym, ap, ◌∙◌, subst, arith, inl, inr, Ok}
use Rattle.std.specs.Prelude.{◌&&◌}
use Rattle.std.specs.Fmt.{decimal}
use Rattle.std.specs.List.{Contains}
use Rattle.std.specs.Str.{IsUtf8}
use Rattle.std.proofs.lemmas.Fmt.{IsAscii-decimal}
use Rattle.std.proofs.lemmas.Str.{IsUtf8-append, IsUtf8-from_ascii}
use Rattle.fe2o3_sasl_wire.specs.declared.amqp_types.SaslCode.TheVariants as outcomes
use Rattle.fe2o3_sasl_wire.specs.declared.sasl_frames.error.Error.TheVariants as faults
use Rattle.fe2o3_sasl_wire.specs.SaslFrames.{SaslFrame, canonical}
use Rattle.fe2o3_sasl_wire.specs.SaslFrames as frames
use Rattle.fe2o3_scram.specs.declared.hmac.ScramVersion.{ScramVersion}
use Rattle.fe2o3_scram.specs.ClientFirst.{ClientFirst, client_first_with}
use Rattle.fe2o3_scram.specs.ClientFinal.{ReadsClientFinal, server_of}
use Rattle.fe2o3_scram.specs.Credentials.{Provider}
use Rattle.fe2o3_scram.specs.Exchanges.{Exchange, IsSound, nonce_in, bare_in, named_in, first_in, answer_in, final_in, record_in}
use Rattle.fe2o3_scram.specs.ChannelBinding.{is_bound, is_strict, server_mechanism, header_of, expected_header, ClientHeader}
use Rattle.fe2o3_scram.specs.ScramClient.{ClientSide, ClientInitial, ClientFinalSent, Complete, started, with_state}
use Rattle.fe2o3_scram.specs.ActingRights.{may_act}
use Rattle.fe2o3_scram.specs.ScramServer.{Initial, ServerFirstSent, ServerFinalSent}
use Rattle.fe2o3_scram.specs.ServerFinal.{ReadsServerFinal, server_final_of}
use Rattle.fe2o3_scram.specs.ServerFirst.{ServerChallenge, challenge_of}
use Rattle.fe2o3_scram.specs.Texts.{base64_text}
use Rattle.fe2o3_scram.proofs.lemmas.messages.ExchangeLemmas.{nonce_text}
use Rattle.fe2o3_scram.proofs.lemmas.texts.AsciiLemmas.{IsUtf8-base64_text, IsUtf8-literal}
use Rattle.fe2o3_sasl_core.specs.Events.{Login, is_strict_login, login_mechanism, Challenged, Concluded, Failed, Started, Answered, Reported, Refused, ServerSays, ClientSays, login_header}
use Rattle.fe2o3_sasl_core.specs.declared.sasl_profile.error.ProfileError.TheVariants.{Frame as FrameFault}
use Rattle.fe2o3_sasl_core.specs.Profiles.{Profile, ScramProfile, scram_profile, accepts_signature_by_challenge}
use Rattle.fe2o3_sasl_core.specs.ProfileMachine.{ChallengeReplies}
use Rattle.fe2o3_sasl_core.specs.Runs.{SendsCanonical, AcceptorGives, ProfileReplies}
use Rattle.fe2o3_sasl_core.specs.SaslAcceptor.{Acceptor, ScramAcceptor, acceptor_names, acceptor_machine}
use Rattle.fe2o3_sasl_core.specs.TwoSides.{sides_of}
use Rattle.fe2o3_sasl_core.proofs.lemmas.frames.SpellingLemmas.{spells_mechanisms, spells_init, spells_challenge, spells_response, spells_outcome}
use Rattle.fe2o3_sasl_core.proofs.lemmas.unaltered.UnalteredStepLemmas.{one_mechanism}
use Rattle.fe2o3_sasl_negotiation.specs.declared.progress.Expected.{Expected}
use Rattle.fe2o3_sasl_negotiation.specs.declared.progress.Expected.TheVariants.{Header, Frame}
use Rattle.fe2o3_sasl_negotiation.specs.declared.progress.Progress.{Progress}
use Rattle.fe2o3_sasl_negotiation.specs.declared.progress.Progress.TheVariants.{InProgress, Authenticated}
use Rattle.fe2o3_sasl_negotiation.specs.declared.progress.FrameKind.{FrameKind}
use Rattle.fe2o3_sasl_negotiation.specs.declared.progress.FrameKind.TheVariants as turns
use Rattle.fe2o3_sasl_negotiation.specs.ClientNegotiation as of_client
use Rattle.fe2o3_sasl_negotiation.specs.ServerNegotiation as of_server
use Rattle.fe2o3_sasl_negotiation.specs.Framing.{sasl_header, framed}
use Rattle.fe2o3_sasl_negotiation.specs.Negotiations.{SideOutput, IsInTurn}
use Rattle.fe2o3_sasl_negotiation.proofs.lemmas.UnitLemmas.{body_of-framed}
use Rattle.fe2o3_sasl_core.specs.Bodies.{SpellsBody}
use Rattle.connection_laws.proofs.lemmas.LoginFrameLemmas.{Premises}
use Rattle.connection_laws.proofs.lemmas.LoginFrameLemmas as frame

-- the server-first message is UTF-8
first_text : (x : Exchange) → IsSound x → IsUtf8 (first_in x)
first_text x sound =
    let wide : x.count < 2 ^ 64 = omega (arith, sound.within, sound.limit) in
    IsUtf8-append (codes "r=" ++ nonce_in x) (codes ",s=" ++ (base64_text x.salt ++ (codes ",i=" ++ decimal x.count)))
    (IsUtf8-append (codes "r=") (nonce_in x) (IsUtf8-literal (codes "r=") refl) (nonce_text x sound))
    (IsUtf8-append (codes ",s=") (base64_text x.salt ++ (codes ",i=" ++ decimal x.count))
    (IsUtf8-literal (codes ",s=") refl)
    (IsUtf8-append (base64_text x.salt) (codes ",i=" ++ decimal x.count) (IsUtf8-base64_text x.salt)
    (IsUtf8-append (codes ",i=") (decimal x.count) (IsUtf8-literal (codes ",i=") refl)
    (IsUtf8-from_ascii (decimal x.count) (IsAscii-decimal x.count wide)))))

-- a list of one name has that name
one_name : (name : List ℕ) → Contains (name ∷ []) name
one_name name = (0, omega arith, refl)

-- what is said of a frame that has a canonical body
sends_canonical : {S A : Type 0} (too_large : A) (says : List ℕ → A) (sent : Option (List ℕ)) (body : List ℕ)
    (state moved : S) → sent ≡ Some body → SendsCanonical too_large says sent state moved (says body) moved
sends_canonical too_large says sent body state moved is =
    subst (λ (o : Option (List ℕ)). SendsCanonical too_large says o state moved (says body) moved) (sym is) (refl, refl)

-- a client's answer to a frame in turn
client_answer : (hostname : Option (List ℕ)) (turn : FrameKind) (profile next : Profile) (body nonce : List ℕ)
    (frame : SaslFrame) (says : ClientSays) (answer : SideOutput) → SpellsBody body (Ok frame) → IsInTurn turn frame
    → ProfileReplies hostname profile nonce frame says next
    → of_client.ClientOutputs (accepts_signature_by_challenge profile) says turn answer
    → of_client.ClientSideAnswers hostname (Frame turn) profile nonce (framed body) answer next
client_answer hostname turn profile next body nonce frame says answer spells in_turn replies outputs =
    subst (λ (b : List ℕ). of_client.ClientReplies hostname turn profile (record { body = b; nonce = nonce }) answer
    next)
    (sym (body_of-framed body)) (Ok frame, spells, inr (in_turn, (says, (Ok frame, spells, replies), outputs)))

-- a server's answer to a frame in turn
server_answer : (turn : FrameKind) (acceptor next : Acceptor) (body nonce : List ℕ) (frame : SaslFrame)
    (says : ServerSays) (answer : SideOutput) → SpellsBody body (Ok frame) → IsInTurn turn frame
    → AcceptorGives acceptor_machine acceptor (record { body = body; nonce = nonce }) (Ok frame) says next
    → of_server.ServerOutputs says turn answer
    → of_server.ServerSideAnswers acceptor_names acceptor_machine (Frame turn) acceptor nonce (framed body) answer next
server_answer turn acceptor next body nonce frame says answer spells in_turn gives outputs =
    subst (λ (b : List ℕ). of_server.ServerReplies acceptor_machine turn acceptor (record { body = b; nonce = nonce })
    answer next)
    (sym (body_of-framed body)) (Ok frame, spells, inr (in_turn, (says, (Ok frame, spells, gives), outputs)))

-- a frame that is sent, after which the side waits; nothing that is sent; and the frame with which the server ends
abbrev pub waits : List ℕ → FrameKind → SideOutput
waits body turn = record { sent = framed body; progress = InProgress; expected = Frame turn }

abbrev pub quiet : Progress → FrameKind → SideOutput
quiet progress turn = record { sent = []; progress = progress; expected = Frame turn }

abbrev pub ends : List ℕ → SideOutput
ends body = record { sent = framed body; progress = Authenticated; expected = Frame turns.Response }

-- a client that has sent only its first message does not take a challenge as the signature
never_signs : (accept : Bool) → (accept && false) ≡ false
never_signs true = refl
never_signs false = refl

module _ (p : Premises) where
  abbrev login : Login
  login = p.login

  abbrev provider : Provider
  provider = p.provider

  abbrev mine : List ℕ
  mine = p.mine

  abbrev theirs : List ℕ
  theirs = p.theirs

  abbrev exchange : Exchange
  exchange = frame.exchange p

  abbrev names : SaslFrame
  names = frame.names p

  abbrev init : SaslFrame
  init = frame.init p

  abbrev outcome : SaslFrame
  outcome = frame.outcome p

  abbrev message : List ℕ
  message = frame.message p

  abbrev final_sent : List ℕ
  final_sent = frame.final_sent p

  abbrev names_body : List ℕ
  names_body = frame.names_body p

  abbrev init_body : List ℕ
  init_body = frame.init_body p

  abbrev challenge_body : List ℕ
  challenge_body = frame.challenge_body p

  abbrev response_body : List ℕ
  response_body = frame.response_body p

  abbrev outcome_body : List ℕ
  outcome_body = frame.outcome_body p

  -- the server has the client's mechanism, and expects this header of it
  mechanism : login_mechanism login ≡ server_mechanism provider.version provider.rules
  mechanism = one_mechanism (sides_of login [] [] provider [] []) p.password p.salt p.count p.holds

  abbrev header : ClientHeader
  header = expected_header provider.rules.channels (header_of (login_header login))

  -- whether the user may act for the identity of the header
  abbrev is_allowed : Bool
  is_allowed = may_act provider.rights login.user login.acts_for

  -- ---- the client, answer by answer

  -- the turn after its response
  abbrev pub last_turn : FrameKind
  last_turn = of_client.client_follows login.signature_by_challenge turns.Challenge

  abbrev first_side : ClientSide
  first_side = record {
    user = login.user;
    secret = login.secret;
    version = login.version;
    limits = login.limits;
    channel = login.channel;
    acts_for = login.acts_for;
    strict = login.strict;
    signature_by_challenge = login.signature_by_challenge;
    state = ClientInitial;
  }

  abbrev pub started_side : ClientSide
  started_side = started first_side mine

  abbrev pub answered_side : ClientSide
  answered_side = with_state started_side
      (ClientFinalSent (answer_in exchange).signature (Some (answer_in exchange).keys))

  abbrev pub complete_side : ClientSide
  complete_side = with_state answered_side (Complete (Some (answer_in exchange).keys))

  abbrev pub ClientAnswersBy : Expected → Profile → List ℕ → List ℕ → SideOutput → Profile → Type 0
  ClientAnswersBy expected profile nonce unit answer next =
      of_client.ClientSideAnswers login.hostname expected profile nonce unit answer next

  pub client_opens : (nonce : List ℕ) → ClientAnswersBy Header (scram_profile login) nonce sasl_header
      (quiet InProgress turns.Mechanisms) (scram_profile login)
  client_opens nonce = (inr (refl, refl), refl)

  starts : ProfileReplies login.hostname (scram_profile login) mine names (Started init_body)
      (ScramProfile started_side)
  starts = inr (
    Ok init,
    ScramProfile started_side,
    inl (one_name (login_mechanism login), refl, refl),
    sends_canonical (Refused (FrameFault faults.TooLarge)) (λ (b : List ℕ). Started b) (canonical init) init_body
        (scram_profile login) (ScramProfile started_side) (frame.init_sent p).1,
  )

  pub client_starts : ClientAnswersBy (Frame turns.Mechanisms) (scram_profile login) mine (framed names_body)
      (waits init_body turns.Challenge) (ScramProfile started_side)
  client_starts = client_answer login.hostname turns.Mechanisms (scram_profile login) (ScramProfile started_side)
      names_body mine names (Started init_body) (waits init_body turns.Challenge)
      (spells_mechanisms login.version (is_bound login.channel) names_body (frame.names_sent p).1) tt starts
      (inl ((frame.init_sent p).2, refl))

  answers : (nonce : List ℕ) → ProfileReplies login.hostname (ScramProfile started_side) nonce
      (frames.Challenge (first_in exchange)) (Answered response_body) (ScramProfile answered_side)
  answers nonce = inr (
    Ok (frames.Response message),
    ScramProfile answered_side,
    inr (
      first_text exchange (frame.sound p),
      subst (λ (expects : Bool). ChallengeReplies expects started_side (first_in exchange) (Ok (frames.Response message))
          (ScramProfile answered_side)) (sym (never_signs login.signature_by_challenge)) (
            Ok message,
            answered_side,
            (answer_in exchange, (named_in exchange, (frame.meets p).server_first, refl), refl, refl),
            refl,
            refl,
          ),
    ),
    sends_canonical (Refused (FrameFault faults.TooLarge)) (λ (b : List ℕ). Answered b)
        (canonical (frames.Response message)) response_body (ScramProfile started_side) (ScramProfile answered_side)
        (frame.response_sent p).1,
  )

  pub client_answers : (nonce : List ℕ) → ClientAnswersBy (Frame turns.Challenge) (ScramProfile started_side)
      nonce (framed challenge_body) (waits response_body last_turn) (ScramProfile answered_side)
  client_answers nonce = client_answer login.hostname turns.Challenge (ScramProfile started_side) (ScramProfile answered_side)
      challenge_body nonce (frames.Challenge (first_in exchange)) (Answered response_body)
      (waits response_body last_turn) (spells_challenge (first_in exchange) challenge_body (frame.challenge_sent p).1)
      tt
      (answers nonce) (inl ((frame.response_sent p).2, refl))

  verifier_read : ReadsServerFinal (is_strict_login login) (answer_in exchange).signature final_sent (Ok tt)
  verifier_read = subst (λ (version : ScramVersion). ReadsServerFinal (is_strict_login login) (answer_in exchange).signature
      (server_final_of (server_of version header (is_strict exchange.rules) (bare_in exchange) (first_in exchange)
      (nonce_in exchange) (record_in exchange) is_allowed) (final_in exchange)) (Ok tt)) (sym p.holds.version)
      (frame.meets p).server_final

  reports : (nonce : List ℕ) → ProfileReplies login.hostname (ScramProfile answered_side) nonce outcome
      (Reported outcomes.Ok (Some final_sent)) (ScramProfile complete_side)
  reports nonce = inr (
    Ok outcome,
    ScramProfile complete_side,
    (Ok tt, complete_side, (verifier_read, refl), refl, refl),
    (refl, refl),
  )

  pub client_reports : (nonce : List ℕ) → ClientAnswersBy (Frame last_turn) (ScramProfile answered_side) nonce
      (framed outcome_body) (quiet Authenticated last_turn) (ScramProfile complete_side)
  client_reports nonce = client_answer login.hostname last_turn (ScramProfile answered_side)
      (ScramProfile complete_side)
      outcome_body nonce outcome (Reported outcomes.Ok (Some final_sent)) (quiet Authenticated last_turn)
      (spells_outcome outcomes.Ok final_sent outcome_body (frame.outcome_sent p).1)
      (frame.outcome_in_turn login.signature_by_challenge outcomes.Ok (Some final_sent)) (reports nonce) refl

  -- ---- the server, answer by answer

  abbrev read_first : ClientFirst
  read_first = record {
    header = header_of (login_header login);
    user = login.user;
    nonce = base64_text mine;
    bare = bare_in exchange;
  }

  abbrev challenge : ServerChallenge
  challenge = challenge_of read_first (base64_text theirs) (record_in exchange)

  abbrev pub first_acceptor : Acceptor
  first_acceptor = ScramAcceptor provider Initial

  abbrev pub challenged_acceptor : Acceptor
  challenged_acceptor = ScramAcceptor provider (ServerFirstSent challenge (record_in exchange))

  abbrev pub last_acceptor : Acceptor
  last_acceptor = ScramAcceptor provider (ServerFinalSent login.user login.acts_for)

  abbrev pub ServerAnswersBy : Expected → Acceptor → List ℕ → List ℕ → SideOutput → Acceptor → Type 0
  ServerAnswersBy expected acceptor nonce unit answer next =
      of_server.ServerSideAnswers acceptor_names acceptor_machine expected acceptor nonce unit answer next

  pub server_opens : (nonce : List ℕ) → ServerAnswersBy Header first_acceptor nonce sasl_header
      (of_server.behind_header (waits names_body turns.Init)) first_acceptor
  server_opens nonce =
      let offer : canonical (frames.Mechanisms (server_mechanism provider.version provider.rules ∷ [])) ≡ Some names_body =
      ap (λ (name : List ℕ). canonical (frames.Mechanisms (name ∷ []))) (sym mechanism) ∙ (frame.names_sent p).1 in (
        inr (
          refl,
          (
            waits names_body turns.Init,
            subst (λ (o : Option (List ℕ)). of_server.Offers o (waits names_body turns.Init)) (sym offer)
                (inl ((frame.names_sent p).2, refl)),
            refl,
          ),
        ),
        refl,
      )

  pub challenges : AcceptorGives acceptor_machine first_acceptor (record { body = init_body; nonce = theirs }) (Ok init)
      (Challenged challenge_body) challenged_acceptor
  challenges = inr (
    frames.Challenge (first_in exchange),
    challenged_acceptor,
    inr (
      mechanism,
      (
        Ok (Some (first_in exchange)),
        ServerFirstSent challenge (record_in exchange),
        (
          challenge,
          (read_first, record_in exchange, (frame.meets p).client_first, p.holds.stored, refl),
          refl,
          (record_in exchange, p.holds.stored, refl),
        ),
        refl,
        refl,
      ),
    ),
    sends_canonical (Failed faults.TooLarge) (λ (b : List ℕ). Challenged b)
        (canonical (frames.Challenge (first_in exchange))) challenge_body first_acceptor challenged_acceptor
        (frame.challenge_sent p).1,
  )

  pub server_challenges : ServerAnswersBy (Frame turns.Init) first_acceptor theirs (framed init_body)
      (waits challenge_body turns.Response) challenged_acceptor
  server_challenges = server_answer turns.Init first_acceptor challenged_acceptor init_body theirs init
      (Challenged challenge_body) (waits challenge_body turns.Response)
      (spells_init login.version (is_bound login.channel)
      (client_first_with (header_of (login_header login)) login.user (base64_text mine)) login.hostname init_body p.is.hostname
      (frame.init_sent p).1) tt challenges
      (inl ((frame.challenge_sent p).2, refl))

  response_read : ReadsClientFinal (server_of provider.version header (is_strict exchange.rules) (bare_in exchange)
      (first_in exchange) (nonce_in exchange) (record_in exchange) is_allowed) message (Ok (final_in exchange))
  response_read = subst (λ (version : ScramVersion). ReadsClientFinal
      (server_of version header (is_strict exchange.rules) (bare_in exchange) (first_in exchange) (nonce_in exchange)
      (record_in exchange) is_allowed) message (Ok (final_in exchange))) (sym p.holds.version) (frame.meets p).client_final

  pub accepts : (nonce : List ℕ) → AcceptorGives acceptor_machine challenged_acceptor
      (record { body = response_body; nonce = nonce }) (Ok (frames.Response message))
      (Concluded outcomes.Ok outcome_body) last_acceptor
  accepts nonce = inr (
    outcome,
    last_acceptor,
    (
      Ok (Some final_sent),
      ServerFinalSent login.user login.acts_for,
      ((final_in exchange, response_read, refl), refl),
      refl,
      refl,
    ),
    sends_canonical (Failed faults.TooLarge) (λ (b : List ℕ). Concluded outcomes.Ok b) (canonical outcome) outcome_body
        challenged_acceptor last_acceptor (frame.outcome_sent p).1,
  )

  pub server_accepts : (nonce : List ℕ) → ServerAnswersBy (Frame turns.Response) challenged_acceptor nonce
      (framed response_body) (ends outcome_body) last_acceptor
  server_accepts nonce = server_answer turns.Response challenged_acceptor last_acceptor response_body
      nonce (frames.Response message) (Concluded outcomes.Ok outcome_body)
      (ends outcome_body) (spells_response message response_body (frame.response_sent p).1) tt (accepts nonce)
      (inl ((frame.outcome_sent p).2, refl))
