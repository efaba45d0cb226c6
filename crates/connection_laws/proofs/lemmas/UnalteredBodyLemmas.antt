-- An unaltered connection, body by body, up to the server's Ok.
use Rattle.std.proofs.Common.{◌≡◌, ℕ, Some, List, [], ◌∷◌, ◌++◌, length, refl, sym, ap, ◌∙◌, subst, arith, Ok}
use Rattle.std.specs.Prelude.{slice_get}
use Rattle.std.proofs.lemmas.List.{length-append}
use Rattle.std.proofs.lemmas.Option.{same_Some}
use Rattle.fe2o3_sasl_wire.specs.declared.amqp_types.SaslCode.TheVariants as outcomes
use Rattle.fe2o3_sasl_wire.specs.SaslFrames.{canonical}
use Rattle.fe2o3_sasl_wire.specs.SaslFrames as frames
use Rattle.fe2o3_scram.specs.ChannelBinding.{is_bound, server_mechanism, header_of}
use Rattle.fe2o3_scram.specs.ClientFirst.{client_first_with}
use Rattle.fe2o3_scram.specs.ClientFinal.{keys_for, without_proof_with}
use Rattle.fe2o3_scram.specs.ClientKeys.{ClientKeys, keys_of}
use Rattle.fe2o3_scram.specs.Exchanges.{Exchange, IsSound, Succeeds, nonce_in, bare_in, named_in, first_in, answer_in}
use Rattle.fe2o3_scram.specs.Keys.{auth_message, client_proof}
use Rattle.fe2o3_scram.specs.ScramServer.{Initial}
use Rattle.fe2o3_scram.specs.Texts.{base64_text}
use Rattle.fe2o3_scram.proofs.lemmas.messages.ExchangeLemmas.{succeeds, opened}
use Rattle.fe2o3_sasl_core.specs.ClientHistory.{ReadsChallenge, IsDue, NonceAt, is_start, is_answer}
use Rattle.fe2o3_sasl_core.specs.Events.{Given, login_mechanism, ServerSays, Challenged, Concluded, ClientSays, Started, Answered, login_header}
use Rattle.fe2o3_sasl_core.specs.Positions.{IsLastOpen, test_at}
use Rattle.fe2o3_sasl_core.specs.Profiles.{scram_profile, accepts_signature_by_challenge}
use Rattle.fe2o3_sasl_core.specs.Runs.{AcceptorSteps, ProfileSteps, Runs}
use Rattle.fe2o3_sasl_core.specs.SaslAcceptor.{ScramAcceptor, acceptor_names, acceptor_machine}
use Rattle.fe2o3_sasl_core.specs.ServerHistory.{FitsAsInit, final_message}
use Rattle.fe2o3_sasl_core.specs.TwoSides.{sides_of, Histories}
use Rattle.fe2o3_sasl_core.specs.UnalteredRuns.{Suffices, client_body, server_body}
use Rattle.fe2o3_sasl_core.proofs.lemmas.frames.SpellingLemmas.{spells_init, spells_challenge, spells_response, spells_outcome}
use Rattle.fe2o3_sasl_core.proofs.lemmas.machines.ClientMachineLemmas.{profile_runs_are_histories}
use Rattle.fe2o3_sasl_core.proofs.lemmas.machines.ServerMachineLemmas.{acceptor_runs_are_histories}
use Rattle.fe2o3_sasl_core.proofs.lemmas.positions.PositionLemmas.{opens_here}
use Rattle.fe2o3_sasl_core.proofs.lemmas.unaltered.UnalteredReplyLemmas.{none_may_sign, open_value}
use Rattle.fe2o3_sasl_core.proofs.lemmas.unaltered.UnalteredStepLemmas as step
use Rattle.fe2o3_sasl_negotiation.specs.declared.progress.Expected.TheVariants.{Frame}
use Rattle.fe2o3_sasl_negotiation.specs.declared.progress.Progress.TheVariants.{InProgress, Authenticated}
use Rattle.fe2o3_sasl_negotiation.specs.declared.progress.FrameKind.TheVariants as turns
use Rattle.fe2o3_sasl_negotiation.specs.ServerNegotiation as of_server
use Rattle.fe2o3_sasl_negotiation.specs.FrameSizes.{CanBeSent}
use Rattle.fe2o3_sasl_negotiation.specs.Framing.{sasl_header, framed}
use Rattle.fe2o3_sasl_negotiation.proofs.lemmas.FrameSizeLemmas.{texts_fit}
use Rattle.connection_laws.proofs.lemmas.ReplyListLemmas.{arriving}
use Rattle.connection_laws.proofs.lemmas.ExactSideLemmas.{Exact, ClientMakes, ServerMakes}
use Rattle.connection_laws.proofs.lemmas.LoginFrameLemmas.{outcome_in_turn}
use Rattle.connection_laws.proofs.lemmas.SmallReplyLemmas.{nonce_is_printable, nonce_length, first_length, proof_length, response_length, fits_as, answer_is_small, challenge_is_small, ok_is_small, ok_fits}
use Rattle.connection_laws.proofs.lemmas.UnalteredSideLemmas.{Case, UpToOk, ClientSends, turn_after_response, ClientFine, ServerFine, ClientTakes, ServerTakes, client_memory, server_memory, authenticated_is_not_in_progress, ended_rests, first_text, event, exchange_by, met, held, suffices, histories, client_goes_on, client_takes, server_goes_on, server_takes, init_fits, zeroth_fine, starts}

module _ (c : Case) where
  -- the server challenges
  module _ (offer init server_sends client_sends : List ℕ)
      (offered : canonical (frames.Mechanisms (login_mechanism c.login ∷ [])) ≡ Some offer)
      (zeroth : ClientTakes c.login c.joined.client_limit turns.Mechanisms (scram_profile c.login) offer server_sends
      c.joined.client_sent c.client) (started : zeroth.says ≡ Started init)
      (sent_init : canonical (frames.Init (login_mechanism c.login)
      (Some (client_first_with (header_of (login_header c.login)) c.login.user (base64_text zeroth.nonce))) c.login.hostname)
      ≡ Some init)
      (first : ServerTakes c.joined.server_limit turns.Init (ScramAcceptor c.provider Initial) init client_sends
      server_sends c.server) where
    abbrev exchange : Exchange
    exchange = exchange_by c zeroth.nonce first.nonce

    abbrev client_events : List Given
    client_events = event offer zeroth.nonce ∷ []

    abbrev client_replies : List ClientSays
    client_replies = zeroth.says ∷ []

    abbrev server_events : List Given
    server_events = event init first.nonce ∷ []

    abbrev server_replies : List ServerSays
    server_replies = first.says ∷ []

    client_run : Runs (ProfileSteps c.login.hostname) (scram_profile c.login) client_events client_replies zeroth.next
    client_run = (zeroth.says, zeroth.next, [], zeroth.steps, refl, (refl, refl))

    server_run : Runs (AcceptorSteps acceptor_machine) (ScramAcceptor c.provider Initial) server_events server_replies first.next
    server_run = (first.says, first.next, [], first.steps, refl, (refl, refl))

    zeroth_is_fine : ClientFine zeroth.says
    zeroth_is_fine = zeroth_fine c offer server_sends c.joined.client_sent offered zeroth

    sound : IsSound exchange
    sound = step.sound_exchange (met c client_events client_replies server_events server_replies) c.password c.salt c.count
        zeroth.nonce first.nonce c.is (held c client_events client_replies server_events server_replies)
        (λ _. nonce_is_printable zeroth.nonce zeroth.long, λ _. nonce_is_printable first.nonce first.long)

    meets : Succeeds exchange
    meets = succeeds exchange sound

    mechanism : login_mechanism c.login ≡ server_mechanism c.provider.version c.provider.rules
    mechanism = step.one_mechanism (sides_of c.login [] [] c.provider [] []) c.password c.salt c.count c.holds

    mine : length (base64_text zeroth.nonce) ≡ 44
    mine = nonce_length zeroth.nonce zeroth.long.1

    theirs : length (base64_text first.nonce) ≡ 44
    theirs = nonce_length first.nonce first.long.1

    challenge_fits : CanBeSent (frames.Challenge (first_in exchange))
    challenge_fits = (texts_fit (first_in exchange)
        (first_length exchange mine theirs c.fits.salt (omega (arith, c.holds.within, c.is.limit)))).0

    fits_as_init : FitsAsInit c.provider (event init first.nonce) (frames.Init (login_mechanism c.login)
        (Some (client_first_with (header_of (login_header c.login)) c.login.user (base64_text zeroth.nonce))) c.login.hostname)
        (step.challenge_in exchange)
    fits_as_init = (mechanism, meets.client_first, c.holds.stored, refl)

    first_fine : ServerFine first.says
    first_fine = (
      server_memory first.says turns.Init first.answer first.said,
      challenge_is_small c.provider server_events server_replies 0 (event init first.nonce) first.says
          (acceptor_runs_are_histories c.provider server_events server_replies first.next server_run) refl refl
          (login_mechanism c.login) (client_first_with (header_of (login_header c.login)) c.login.user
          (base64_text zeroth.nonce)) c.login.hostname (step.challenge_in exchange)
          (spells_init c.login.version (is_bound c.login.channel)
          (client_first_with (header_of (login_header c.login)) c.login.user (base64_text zeroth.nonce)) c.login.hostname init
          c.is.hostname sent_init) fits_as_init challenge_fits,
    )

    challenges : (body : List ℕ) × (first.says ≡ Challenged body)
        × (canonical (frames.Challenge (first_in exchange)) ≡ Some body)
    challenges =
        let (body, arrives) = arriving (server_body (Some first.says)) in
        let events : List Given = event init first.nonce ∷ [] in
        let replies : List ServerSays = first.says ∷ [] in
        let (says, challenge) = step.challenges (met c client_events client_replies events replies) c.password c.salt c.count
        (event offer zeroth.nonce) (event init first.nonce)
        (histories c client_events client_replies zeroth.next events replies first.next
        (zeroth.says, zeroth.next, [], zeroth.steps, refl, (refl, refl))
        (first.says, first.next, [], first.steps, refl, (refl, refl)))
        c.is (held c client_events client_replies events replies)
        (suffices c client_events client_replies events replies (zeroth_is_fine.0, tt) (zeroth_is_fine.1, tt)
        (first_fine.0, tt) (first_fine.1, tt))
        (λ _. nonce_is_printable zeroth.nonce zeroth.long, λ _. nonce_is_printable first.nonce first.long)
        body (refl, sent_init) arrives in
        (body, same_Some first.says (Challenged body) says, challenge)

    -- the client answers
    module _ (challenge server_ends : List ℕ) (challenged : first.says ≡ Challenged challenge)
        (sent_challenge : canonical (frames.Challenge (first_in exchange)) ≡ Some challenge)
        (second : ClientTakes c.login c.joined.client_limit turns.Challenge zeroth.next challenge server_ends client_sends
        c.client)
      where
        abbrev next_events : List Given
        next_events = event offer zeroth.nonce ∷ event challenge second.nonce ∷ []

        abbrev next_replies : List ClientSays
        next_replies = zeroth.says ∷ second.says ∷ []

        some_started : slice_get next_replies 0 ≡ Some (Started init)
        some_started = ap (λ (s : ClientSays). Some s) started

        next_run : Runs (ProfileSteps c.login.hostname) (scram_profile c.login) next_events next_replies second.next
        next_run = (
          zeroth.says,
          zeroth.next,
          second.says ∷ [],
          zeroth.steps,
          refl,
          (second.says, second.next, [], second.steps, refl, (refl, refl)),
        )

        started_open : IsLastOpen is_start is_answer next_replies 1 0
        started_open = opens_here is_start is_answer next_replies 0 (ap (test_at is_start) some_started)

        one_due : (nonce : List ℕ) → IsDue next_events next_replies 1 nonce → nonce ≡ exchange.client_nonce
        one_due nonce also =
            let at = open_value is_start is_answer (NonceAt next_events) next_replies 1 0 nonce started_open also in
            at.2 ∙ ap (λ (e : Given). base64_text e.nonce) (same_Some at.0 (event offer zeroth.nonce) (sym at.1))

        challenge_read : ReadsChallenge c.login (IsDue next_events next_replies 1) (first_in exchange)
            (Ok (step.answering_in exchange))
        challenge_read = (
          first_text exchange sound,
          refl,
          (0, started_open, (event offer zeroth.nonce, refl, refl)),
          meets.server_first,
        )

        by_keys : keys_for c.login.version c.login.secret (named_in exchange)
            ≡ keys_of c.login.version c.password c.salt c.count
        by_keys = (opened c.login.version c.login.secret c.password c.salt c.count (nonce_in exchange) c.holds.opens).0

        response_fits : CanBeSent (frames.Response (answer_in exchange).message)
        response_fits =
            let keys : ClientKeys = keys_for c.login.version c.login.secret (named_in exchange) in
            let auth : List ℕ = auth_message (bare_in exchange) (first_in exchange)
            (without_proof_with (login_header c.login) (nonce_in exchange)) in
            (texts_fit (answer_in exchange).message
            (response_length (login_header c.login) (nonce_in exchange) (client_proof keys.version keys.client_key auth)
            c.fits.binding
            (length-append (base64_text zeroth.nonce) (base64_text first.nonce) ∙ omega (arith, mine, theirs))
            (proof_length keys c.login.version c.password c.salt auth c.count by_keys))).1

        second_fine : ClientFine second.says
        second_fine = (
          client_memory (accepts_signature_by_challenge zeroth.next) second.says turns.Challenge second.answer
              second.said,
          answer_is_small c.login next_events next_replies 1 (event challenge second.nonce) second.says
              (profile_runs_are_histories c.login next_events next_replies second.next next_run) refl refl
              (first_in exchange) (step.answering_in exchange)
              (spells_challenge (first_in exchange) challenge sent_challenge)
              (none_may_sign c.login next_events next_replies init some_started) one_due challenge_read response_fits,
        )

        answers : (body : List ℕ) × (second.says ≡ Answered body)
            × (canonical (frames.Response (answer_in exchange).message) ≡ Some body)
        answers =
            let (body, arrives) = arriving (client_body (Some second.says)) in
            let (says, response) = step.answers (met c next_events next_replies server_events server_replies) c.password
            c.salt
            c.count (event offer zeroth.nonce) (event init first.nonce)
            (histories c next_events next_replies second.next server_events server_replies first.next (
              zeroth.says,
              zeroth.next,
              second.says ∷ [],
              zeroth.steps,
              refl,
              (second.says, second.next, [], second.steps, refl, (refl, refl)),
            )
            (first.says, first.next, [], first.steps, refl, (refl, refl)))
            c.is (held c next_events next_replies server_events server_replies)
            (suffices c next_events next_replies server_events server_replies (zeroth_is_fine.0, (second_fine.0, tt))
            (zeroth_is_fine.1, (second_fine.1, tt)) (first_fine.0, tt) (first_fine.1, tt))
            (λ _. nonce_is_printable zeroth.nonce zeroth.long, λ _. nonce_is_printable first.nonce first.long)
            (event challenge second.nonce) body ((refl, offered), (init, some_started)) (refl, sent_challenge) arrives
            in
            (body, same_Some second.says (Answered body) says, response)

        -- the server accepts
        module _ (response client_ends : List ℕ) (answered : second.says ≡ Answered response)
            (sent_response : canonical (frames.Response (answer_in exchange).message) ≡ Some response)
            (third : ServerTakes c.joined.server_limit turns.Response first.next response client_ends server_ends c.server) where
          abbrev last_events : List Given
          last_events = event init first.nonce ∷ event response third.nonce ∷ []

          abbrev last_replies : List ServerSays
          last_replies = first.says ∷ third.says ∷ []

          abbrev final_sent : List ℕ
          final_sent = final_message c.provider (step.accepted_in exchange)

          some_challenged : slice_get last_replies 0 ≡ Some (Challenged challenge)
          some_challenged = ap (λ (s : ServerSays). Some s) challenged

          server_runs : Runs (AcceptorSteps acceptor_machine) (ScramAcceptor c.provider Initial) last_events last_replies
              third.next
          server_runs = (
            first.says,
            first.next,
            third.says ∷ [],
            first.steps,
            refl,
            (third.says, third.next, [], third.steps, refl, (refl, refl)),
          )

          third_fine : ServerFine third.says
          third_fine = (
            server_memory third.says turns.Response third.answer third.said,
            ok_is_small c.provider last_events last_replies 1 (event response third.nonce) third.says
                (acceptor_runs_are_histories c.provider last_events last_replies third.next server_runs) refl refl
                (answer_in exchange).message (spells_response (answer_in exchange).message response sent_response),
          )

          histories_then : Histories (met c next_events next_replies last_events last_replies)
          histories_then = histories c next_events next_replies second.next last_events last_replies third.next (
            zeroth.says,
            zeroth.next,
            second.says ∷ [],
            zeroth.steps,
            refl,
            (second.says, second.next, [], second.steps, refl, (refl, refl)),
          ) server_runs

          suffices_then : Suffices (met c next_events next_replies last_events last_replies)
          suffices_then = suffices c next_events next_replies last_events last_replies
              (zeroth_is_fine.0, (second_fine.0, tt)) (zeroth_is_fine.1, (second_fine.1, tt))
              (first_fine.0, (third_fine.0, tt)) (first_fine.1, (third_fine.1, tt))

          accepts : (body : List ℕ) × (third.says ≡ Concluded outcomes.Ok body)
              × (canonical (frames.Outcome outcomes.Ok (Some final_sent)) ≡ Some body)
          accepts =
              let (body, arrives) = arriving (server_body (Some third.says)) in
              let (says, outcome) = step.accepts (met c next_events next_replies last_events last_replies) c.password c.salt
              c.count (event offer zeroth.nonce) (event init first.nonce) histories_then c.is
              (held c next_events next_replies last_events last_replies) suffices_then
              (λ _. nonce_is_printable zeroth.nonce zeroth.long, λ _. nonce_is_printable first.nonce first.long)
              (event response third.nonce) body
              ((refl, sent_init), (challenge, some_challenged)) (refl, sent_response) arrives in
              (body, same_Some third.says (Concluded outcomes.Ok body) says, outcome)

          -- and the rest of the connection
          from_response : c.joined.server_sent ≡ sasl_header ++ (framed offer ++ (framed challenge ++ server_ends))
              → c.joined.client_sent ≡ framed init ++ (framed response ++ client_ends)
              → ClientMakes c.login.hostname c.joined.client_limit
              (Frame (turn_after_response zeroth.next)) second.next second.nonces
              server_ends client_ends c.client → UpToOk c
          from_response server_all client_all waits =
              let (outcome, accepted, sent_outcome) = accepts in
              let small = fits_as (frames.Outcome outcomes.Ok (Some final_sent)) outcome
              (ok_fits c.provider (step.accepted_in exchange)) sent_outcome in
              let (all, ends) = server_goes_on c turns.Response first.next response client_ends server_ends third outcome
              Authenticated (Frame turns.Response) small
              (subst (λ (s : ServerSays). of_server.ServerOutputs s turns.Response third.answer) accepted third.said) in
              let rests = ended_rests (Exact (of_server.ServerSideAnswers acceptor_names acceptor_machine))
              (record {
                progress = Authenticated;
                expected = Frame turns.Response;
                limit = c.joined.server_limit;
                held = [];
                state = third.next;
              }) c.server third.nonces client_ends third.after authenticated_is_not_in_progress ends in
              let fourth = client_takes c (turn_after_response zeroth.next) second.next second.nonces outcome
              third.after server_ends
              client_ends (frames.Outcome outcomes.Ok (Some final_sent)) sent_outcome small
              (spells_outcome outcomes.Ok final_sent outcome sent_outcome)
              (outcome_in_turn (accepts_signature_by_challenge zeroth.next) outcomes.Ok (Some final_sent)) all waits in
              record {
                offer = offer;
                init = init;
                challenge = challenge;
                response = response;
                outcome = outcome;
                server_sends = server_sends;
                client_sends = client_sends;
                server_ends = server_ends;
                client_ends = client_ends;
                more = third.after;
                zeroth = zeroth;
                first = first;
                second = second;
                third = third;
                fourth = fourth;
                offered = offered;
                started = started;
                sent_init = sent_init;
                challenged = challenged;
                sent_challenge = sent_challenge;
                answered = answered;
                sent_response = sent_response;
                accepted = accepted;
                sent_outcome = sent_outcome;
                client_fine = (zeroth_is_fine, second_fine);
                server_fine = (first_fine, third_fine);
                server_all = server_all
                    ∙ ap (λ (l : List ℕ). sasl_header ++ (framed offer ++ (framed challenge ++ l))) all;
                client_all = client_all;
                server_rests = rests.2;
              }

        from_challenge : c.joined.server_sent ≡ sasl_header ++ (framed offer ++ (framed challenge ++ server_ends))
            → c.joined.client_sent ≡ framed init ++ client_sends
            → ServerMakes c.joined.server_limit (Frame turns.Response) first.next first.nonces client_sends server_ends c.server
            → UpToOk c
        from_challenge server_all client_all waits =
            let (response, answered, sent_response) = answers in
            let small = fits_as (frames.Response (answer_in exchange).message) response response_fits sent_response in
            let (all, client_waits) = client_goes_on c turns.Challenge zeroth.next challenge server_ends client_sends second
            response (turn_after_response zeroth.next) small
            (subst (λ (s : ClientSays). ClientSends zeroth.next s turns.Challenge second.answer) answered
            second.said) in
            let third = server_takes c turns.Response first.next first.nonces response second.after client_sends
            server_ends (frames.Response (answer_in exchange).message) sent_response small
            (spells_response (answer_in exchange).message response sent_response) tt all waits in
            from_response response second.after answered sent_response third server_all
            (client_all ∙ ap (λ (l : List ℕ). framed init ++ l) all) client_waits

    from_init : c.joined.server_sent ≡ sasl_header ++ (framed offer ++ server_sends)
        → c.joined.client_sent ≡ framed init ++ client_sends
        → ClientMakes c.login.hostname c.joined.client_limit (Frame turns.Challenge) zeroth.next zeroth.nonces server_sends
        client_sends c.client → UpToOk c
    from_init server_all client_all waits =
        let (challenge, challenged, sent_challenge) = challenges in
        let small = fits_as (frames.Challenge (first_in exchange)) challenge challenge_fits sent_challenge in
        let (all, server_waits) = server_goes_on c turns.Init (ScramAcceptor c.provider Initial) init client_sends
        server_sends first challenge InProgress (Frame turns.Response) small
        (subst (λ (s : ServerSays). of_server.ServerOutputs s turns.Init first.answer) challenged first.said) in
        let second = client_takes c turns.Challenge zeroth.next zeroth.nonces challenge first.after server_sends
        client_sends (frames.Challenge (first_in exchange)) sent_challenge small
        (spells_challenge (first_in exchange) challenge sent_challenge) tt all waits in
        from_challenge challenge first.after challenged sent_challenge second
        (server_all ∙ ap (λ (l : List ℕ). sasl_header ++ (framed offer ++ l)) all) client_all server_waits

  pub from_offer : (offer server_sends : List ℕ) (server_nonces : List (List ℕ))
      (offered : canonical (frames.Mechanisms (login_mechanism c.login ∷ [])) ≡ Some offer)
      (zeroth : ClientTakes c.login c.joined.client_limit turns.Mechanisms (scram_profile c.login) offer
      server_sends c.joined.client_sent
      c.client) → c.joined.server_sent ≡ sasl_header ++ (framed offer ++ server_sends)
      → ServerMakes c.joined.server_limit (Frame turns.Init) (ScramAcceptor c.provider Initial) server_nonces
      c.joined.client_sent server_sends c.server
      → UpToOk c
  from_offer offer server_sends server_nonces offered zeroth server_all waits =
      let (init, started, sent_init) = starts c offer server_sends c.joined.client_sent offered zeroth in
      let text : List ℕ = client_first_with (header_of (login_header c.login)) c.login.user (base64_text zeroth.nonce) in
      let small = fits_as (frames.Init (login_mechanism c.login) (Some text) c.login.hostname) init
      (init_fits c offer server_sends c.joined.client_sent offered zeroth) sent_init in
      let (all, client_waits) = client_goes_on c turns.Mechanisms (scram_profile c.login) offer server_sends c.joined.client_sent
      zeroth init turns.Challenge small
      (subst (λ (s : ClientSays). ClientSends (scram_profile c.login) s turns.Mechanisms zeroth.answer) started
      zeroth.said) in
      let first = server_takes c turns.Init (ScramAcceptor c.provider Initial) server_nonces init zeroth.after
      c.joined.client_sent server_sends
      (frames.Init (login_mechanism c.login) (Some text) c.login.hostname) sent_init small
      (spells_init c.login.version (is_bound c.login.channel) text c.login.hostname init c.is.hostname sent_init) tt all waits in
      from_init offer init server_sends zeroth.after offered zeroth started sent_init first server_all
      all client_waits
