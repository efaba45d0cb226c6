-- An unaltered connection whose server has accepted: the client reports, and both have logged in.
use Rattle.std.proofs.Common.{◌≡◌, ℕ, true, Some, List, [], ◌∷◌, ◌++◌, refl, sym, ap, ◌∙◌, subst}
use Rattle.std.specs.Prelude.{T, slice_get}
use Rattle.fe2o3_scram.specs.Grammar.{is_nonce}
use Rattle.fe2o3_scram.specs.Texts.{base64_text}
use Rattle.std.proofs.lemmas.Option.{same_Some}
use Rattle.fe2o3_sasl_wire.specs.declared.amqp_types.SaslCode.TheVariants as outcomes
use Rattle.fe2o3_sasl_wire.specs.SaslFrames as frames
use Rattle.fe2o3_scram.specs.Exchanges.{Exchange, answer_in}
use Rattle.fe2o3_scram.specs.ScramServer.{Initial}
use Rattle.fe2o3_sasl_core.specs.Events.{Given, ServerSays, Challenged, Concluded, ClientSays, Reported}
use Rattle.fe2o3_sasl_core.specs.Positions.{test_at}
use Rattle.fe2o3_sasl_core.specs.Profiles.{Profile, scram_profile, accepts_signature_by_challenge}
use Rattle.fe2o3_sasl_core.specs.Runs.{AcceptorSteps, ProfileSteps, Runs}
use Rattle.fe2o3_sasl_core.specs.SaslAcceptor.{Acceptor, ScramAcceptor, acceptor_acting, acceptor_machine, acceptor_user}
use Rattle.fe2o3_sasl_core.specs.ServerHistory.{final_message, is_challenge, is_ok}
use Rattle.fe2o3_sasl_core.specs.TwoSides.{Histories}
use Rattle.fe2o3_sasl_core.specs.UnalteredRuns.{Suffices, Arrives, UnalteredRun, client_body, server_body}
use Rattle.fe2o3_sasl_core.proofs.lemmas.frames.SpellingLemmas.{spells_response, spells_outcome}
use Rattle.fe2o3_sasl_core.proofs.lemmas.machines.ClientMachineLemmas.{profile_runs_are_histories}
use Rattle.fe2o3_sasl_core.proofs.lemmas.machines.ServerMachineLemmas.{acceptor_runs_name_users}
use Rattle.fe2o3_sasl_core.proofs.lemmas.positions.PositionLemmas.{opens_here}
use Rattle.fe2o3_sasl_core.proofs.lemmas.unaltered.UnalteredStepLemmas as step
use Rattle.fe2o3_sasl_negotiation.specs.declared.progress.Expected.TheVariants.{Frame}
use Rattle.fe2o3_sasl_negotiation.specs.declared.progress.Progress.TheVariants.{Authenticated}
use Rattle.fe2o3_sasl_negotiation.specs.declared.progress.FrameKind.{FrameKind}
use Rattle.fe2o3_sasl_negotiation.specs.ClientNegotiation as of_client
use Rattle.fe2o3_sasl_negotiation.specs.Framing.{sasl_header, framed}
use Rattle.fe2o3_sasl_negotiation.specs.Laws.{Negotiates}
use Rattle.fe2o3_sasl_negotiation.specs.Negotiations.{Side, SideOutput}
use Rattle.fe2o3_sasl_negotiation.proofs.lemmas.UnitLemmas.{behind_answer}
use Rattle.connection_laws.specs.Unaltered.{BothLogIn}
use Rattle.connection_laws.proofs.lemmas.ActingLemmas.{acts_for}
use Rattle.connection_laws.proofs.lemmas.ExactSideLemmas.{Exact}
use Rattle.connection_laws.proofs.lemmas.OneLoginLemmas.{one_login}
use Rattle.connection_laws.proofs.lemmas.SmallReplyLemmas.{nonce_is_printable, report_is_small}
use Rattle.connection_laws.proofs.lemmas.UnalteredSideLemmas.{Case, UpToOk, ClientSends, turn_after_response, ClientFine, client_memory, authenticated_is_not_in_progress, ended_rests, event, exchange_by, met, held, suffices, histories}

module _ (c : Case) (u : UpToOk c) where
  abbrev exchange : Exchange
  exchange = exchange_by c u.zeroth.nonce u.first.nonce

  abbrev final_sent : List ℕ
  final_sent = final_message c.provider (step.accepted_in exchange)

  abbrev last_events : List Given
  last_events = event u.init u.first.nonce ∷ event u.response u.third.nonce ∷ []

  abbrev last_replies : List ServerSays
  last_replies = u.first.says ∷ u.third.says ∷ []

  server_runs : Runs (AcceptorSteps acceptor_machine) (ScramAcceptor c.provider Initial) last_events last_replies
      u.third.next
  server_runs = (
    u.first.says,
    u.first.next,
    u.third.says ∷ [],
    u.first.steps,
    refl,
    (u.third.says, u.third.next, [], u.third.steps, refl, (refl, refl)),
  )

  abbrev all_events : List Given
  all_events = event u.offer u.zeroth.nonce ∷ event u.challenge u.second.nonce ∷ event u.outcome u.fourth.nonce ∷ []

  abbrev all_replies : List ClientSays
  all_replies = u.zeroth.says ∷ u.second.says ∷ u.fourth.says ∷ []

  all_run : Runs (ProfileSteps c.login.hostname) (scram_profile c.login) all_events all_replies u.fourth.next
  all_run = (
    u.zeroth.says,
    u.zeroth.next,
    u.second.says ∷ u.fourth.says ∷ [],
    u.zeroth.steps,
    refl,
    (
      u.second.says,
      u.second.next,
      u.fourth.says ∷ [],
      u.second.steps,
      refl,
      (u.fourth.says, u.fourth.next, [], u.fourth.steps, refl, (refl, refl)),
    ),
  )

  -- the turn of the outcome
  abbrev last_turn : FrameKind
  last_turn = turn_after_response u.zeroth.next

  fourth_fine : ClientFine u.fourth.says
  fourth_fine = (
    client_memory (accepts_signature_by_challenge u.second.next) u.fourth.says last_turn u.fourth.answer u.fourth.said,
    report_is_small c.login all_events all_replies 2 (event u.outcome u.fourth.nonce) u.fourth.says
        (profile_runs_are_histories c.login all_events all_replies u.fourth.next all_run) refl refl final_sent
        (spells_outcome outcomes.Ok final_sent u.outcome u.sent_outcome),
  )

  all_histories : Histories (met c all_events all_replies last_events last_replies)
  all_histories = histories c all_events all_replies u.fourth.next last_events last_replies u.third.next all_run
      server_runs

  all_suffices : Suffices (met c all_events all_replies last_events last_replies)
  all_suffices = suffices c all_events all_replies last_events last_replies
      (u.client_fine.0.0, (u.client_fine.1.0, (fourth_fine.0, tt)))
      (u.client_fine.0.1, (u.client_fine.1.1, (fourth_fine.1, tt)))
      (u.server_fine.0.0, (u.server_fine.1.0, tt)) (u.server_fine.0.1, (u.server_fine.1.1, tt))

  printable : (T c.provider.rules.strict → is_nonce (base64_text u.zeroth.nonce) ≡ true)
      × (T c.login.strict → is_nonce (base64_text u.first.nonce) ≡ true)
  printable = (λ _. nonce_is_printable u.zeroth.nonce u.zeroth.long, λ _. nonce_is_printable u.first.nonce u.first.long)

  unaltered_run : UnalteredRun (met c all_events all_replies last_events last_replies)
  unaltered_run = record {
    offer = event u.offer u.zeroth.nonce;
    challenge = event u.challenge u.second.nonce;
    outcome = event u.outcome u.fourth.nonce;
    init = event u.init u.first.nonce;
    response = event u.response u.third.nonce;
    printable = printable;
    client_events = refl;
    server_events = refl;
    offered = u.offered;
    started = subst (λ (s : ClientSays). Arrives (client_body (Some s)) u.init) (sym u.started) refl;
    challenged = subst (λ (s : ServerSays). Arrives (server_body (Some s)) u.challenge) (sym u.challenged) refl;
    answered = subst (λ (s : ClientSays). Arrives (client_body (Some s)) u.response) (sym u.answered) refl;
    concluded = subst (λ (s : ServerSays). Arrives (server_body (Some s)) u.outcome) (sym u.accepted) refl;
  }

  has_started : step.HasStarted (met c all_events all_replies last_events last_replies) c.password c.salt c.count
      (event u.offer u.zeroth.nonce) (event u.init u.first.nonce) all_histories c.is
      (held c all_events all_replies last_events last_replies) all_suffices printable
  has_started = ((refl, u.offered), (u.init, ap (λ (s : ClientSays). Some s) u.started))

  has_answered : step.HasAnswered (met c all_events all_replies last_events last_replies) c.password c.salt c.count
      (event u.offer u.zeroth.nonce) (event u.init u.first.nonce) all_histories c.is
      (held c all_events all_replies last_events last_replies) all_suffices printable (event u.challenge u.second.nonce)
  has_answered = ((refl, u.sent_challenge), (u.response, ap (λ (s : ClientSays). Some s) u.answered))

  reports : u.fourth.says ≡ Reported outcomes.Ok (Some final_sent)
  reports = same_Some u.fourth.says (Reported outcomes.Ok (Some final_sent))
      (step.reports (met c all_events all_replies last_events last_replies) c.password c.salt c.count
      (event u.offer u.zeroth.nonce) (event u.init u.first.nonce) all_histories c.is
      (held c all_events all_replies last_events last_replies) all_suffices printable
      (event u.challenge u.second.nonce) (event u.outcome u.fourth.nonce) has_started has_answered
      (refl, u.sent_outcome))

  client_ends_well : (u.more ≡ []) × (u.client_ends ≡ [])
      × (c.client ≡ record {
        progress = Authenticated;
        expected = Frame last_turn;
        limit = c.joined.client_limit;
        held = [];
        state = u.fourth.next;
      })
  client_ends_well =
      let ends : u.fourth.answer ≡ record { sent = []; progress = Authenticated; expected = Frame last_turn } =
      subst (λ (s : ClientSays). ClientSends u.second.next s last_turn u.fourth.answer) reports u.fourth.said in
      let rests = ended_rests (Exact (of_client.ClientSideAnswers c.login.hostname))
      (record {
        progress = Authenticated;
        expected = Frame last_turn;
        limit = c.joined.client_limit;
        held = [];
        state = u.fourth.next;
      }) c.client u.fourth.nonces u.more u.fourth.after authenticated_is_not_in_progress
      (subst (λ (a : SideOutput). Negotiates (Exact (of_client.ClientSideAnswers c.login.hostname))
      (behind_answer a c.joined.client_limit u.fourth.next) u.fourth.nonces u.more u.fourth.after c.client) ends u.fourth.goes_on)
      in
      (rests.1, u.fourth.all ∙ (ap (λ (a : SideOutput). a.sent ++ u.fourth.after) ends ∙ rests.0), rests.2)

  some_challenged : slice_get last_replies 0 ≡ Some (Challenged u.challenge)
  some_challenged = ap (λ (s : ServerSays). Some s) u.challenged

  some_ok : slice_get last_replies 1 ≡ Some (Concluded outcomes.Ok u.outcome)
  some_ok = ap (λ (s : ServerSays). Some s) u.accepted

  -- whom the server names
  names : acceptor_user u.third.next ≡ Some c.login.user
  names = (acceptor_runs_name_users c.provider last_events last_replies u.third.next c.login.user server_runs).1 (
    1,
    opens_here is_ok is_challenge last_replies 1 (ap (test_at is_ok) some_ok),
    (
      step.accepted_in exchange,
      (
        event u.response u.third.nonce,
        frames.Response (answer_in exchange).message,
        refl,
        spells_response (answer_in exchange).message u.response u.sent_response,
        step.response_fits (met c all_events all_replies last_events last_replies) c.password c.salt c.count
            (event u.offer u.zeroth.nonce) (event u.init u.first.nonce) all_histories c.is
            (held c all_events all_replies last_events last_replies) all_suffices printable
            ((refl, u.sent_init), (u.challenge, some_challenged)),
      ),
      refl,
    ),
  )

  pub both_log_in : BothLogIn c.joined c.salt c.count
  both_log_in =
      let rests = client_ends_well in
      let client_in : c.client.progress ≡ Authenticated = ap (λ (s : Side Profile). s.progress) rests.2 in
      let server_in : c.server.progress ≡ Authenticated = ap (λ (s : Side Acceptor). s.progress) u.server_rests in
      record {
        client_events = all_events;
        client_replies = all_replies;
        server_events = last_events;
        server_replies = last_replies;
        client_progress = client_in;
        server_progress = server_in;
        user = ap (λ (s : Side Acceptor). acceptor_user s.state) u.server_rests ∙ names;
        identity = ap (λ (s : Side Acceptor). acceptor_acting s.state) u.server_rests ∙ acts_for c u;
        client_received = u.server_all ∙ ap (λ (l : List ℕ).
            sasl_header ++ (framed u.offer ++ (framed u.challenge ++ (framed u.outcome ++ l)))) rests.0;
        server_received = u.client_all ∙ ap (λ (l : List ℕ). framed u.init ++ (framed u.response ++ l)) rests.1;
        client_run = subst (λ (p : Profile). Runs (ProfileSteps c.login.hostname) (scram_profile c.login)
            all_events
            all_replies p)
            (sym (ap (λ (s : Side Profile). s.state) rests.2))
            all_run;
        server_run = subst (λ (a : Acceptor). Runs (AcceptorSteps acceptor_machine) (ScramAcceptor c.provider Initial)
            last_events last_replies a) (sym (ap (λ (s : Side Acceptor). s.state) u.server_rests)) server_runs;
        one_login = one_login c.login all_events
            all_replies c.provider last_events last_replies
            c.password c.salt c.count unaltered_run
            all_histories c.is
            (held c all_events
            all_replies last_events last_replies)
            all_suffices;
      }
