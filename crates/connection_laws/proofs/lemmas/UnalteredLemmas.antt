-- A client and a server that are joined log in, by premises that can be tested before the login.
use Rattle.std.proofs.Common.{◌≡◌, ℕ, Some, List, [], ◌∷◌, ◌++◌, refl, sym, ap, ◌∙◌, subst}
use Rattle.std.proofs.lemmas.List.{append-nil}
use Rattle.fe2o3_sasl_wire.specs.SaslFrames.{canonical}
use Rattle.fe2o3_sasl_wire.specs.SaslFrames as frames
use Rattle.fe2o3_scram.specs.ChannelBinding.{is_bound}
use Rattle.fe2o3_scram.specs.ScramServer.{Initial}
use Rattle.fe2o3_sasl_core.specs.Events.{login_mechanism}
use Rattle.fe2o3_sasl_core.specs.Profiles.{scram_profile}
use Rattle.fe2o3_sasl_core.specs.SaslAcceptor.{ScramAcceptor, acceptor_names, acceptor_machine}
use Rattle.fe2o3_sasl_core.specs.TwoSides.{sides_of}
use Rattle.fe2o3_sasl_core.proofs.lemmas.frames.SpellingLemmas.{spells_mechanisms}
use Rattle.fe2o3_sasl_core.proofs.lemmas.unaltered.UnalteredStepLemmas.{one_mechanism}
use Rattle.fe2o3_sasl_negotiation.specs.declared.progress.Expected.{Expected}
use Rattle.fe2o3_sasl_negotiation.specs.declared.progress.Expected.TheVariants.{Header}
use Rattle.fe2o3_sasl_negotiation.specs.declared.progress.FrameKind.TheVariants as turns
use Rattle.fe2o3_sasl_negotiation.specs.ClientNegotiation as of_client
use Rattle.fe2o3_sasl_negotiation.specs.ServerNegotiation as of_server
use Rattle.fe2o3_sasl_negotiation.specs.Connections.{fresh}
use Rattle.fe2o3_sasl_negotiation.specs.Framing.{sasl_header, framed}
use Rattle.fe2o3_sasl_negotiation.specs.Laws.{Negotiates}
use Rattle.fe2o3_sasl_negotiation.specs.Negotiations.{Side, SideOutput}
use Rattle.fe2o3_sasl_negotiation.proofs.lemmas.CutLemmas.{nothing_is_part, cuts_do_not_matter}
use Rattle.connection_laws.specs.Unaltered.{BothLogIn, UnalteredSidesLogIn}
use Rattle.connection_laws.proofs.lemmas.ExactSideLemmas.{Exact, exact_calls, ClientMakes, ServerMakes, client_header, ServerOffers, server_header}
use Rattle.connection_laws.proofs.lemmas.UnalteredBodyLemmas.{from_offer}
use Rattle.connection_laws.proofs.lemmas.UnalteredEndLemmas.{both_log_in}
use Rattle.connection_laws.proofs.lemmas.UnalteredSideLemmas.{Case, client_takes}

-- a stream that is taken whole
pub taken_whole : {S : Type 0} (Answers : Expected → S → List ℕ → List ℕ → SideOutput → S → Type 0) (first last : Side S)
    (bytes taken sent : List ℕ) (nonces : List (List ℕ)) → bytes ≡ taken ++ []
    → Negotiates Answers first nonces taken sent last → Negotiates Answers first nonces bytes sent last
taken_whole Answers first last bytes taken sent nonces same made =
    subst (λ (l : List ℕ). Negotiates Answers first nonces l sent last) (sym (same ∙ append-nil taken)) made

module _ (c : Case) where
  log_in : (client_nonces server_nonces : List (List ℕ))
      → ClientMakes c.login.hostname c.joined.client_limit Header (scram_profile c.login) client_nonces
      c.joined.server_sent c.joined.client_sent c.client
      → ServerMakes c.joined.server_limit Header (ScramAcceptor c.provider Initial) server_nonces
      (sasl_header ++ c.joined.client_sent) c.joined.server_sent c.server → BothLogIn c.joined c.salt c.count
  log_in client_nonces server_nonces client_made server_made =
      opened_by (server_header c.provider c.joined.server_limit server_nonces c.joined.client_sent c.joined.server_sent c.server
      server_made)
    where
      opened_by : ServerOffers c.provider c.joined.server_limit c.joined.client_sent c.joined.server_sent c.server
          → BothLogIn c.joined c.salt c.count
      opened_by offer =
          let offered : canonical (frames.Mechanisms (login_mechanism c.login ∷ [])) ≡ Some offer.body =
          ap (λ (name : List ℕ). canonical (frames.Mechanisms (name ∷ [])))
          (one_mechanism (sides_of c.login [] [] c.provider [] []) c.password c.salt c.count c.holds)
          ∙ offer.offer in
          let (nonces, waits) = client_header c.login.hostname c.joined.client_limit (scram_profile c.login) client_nonces
          (framed offer.body ++ offer.after) c.joined.client_sent c.client
          (subst (λ (l : List ℕ). ClientMakes c.login.hostname c.joined.client_limit Header (scram_profile c.login)
          client_nonces l c.joined.client_sent c.client) offer.all client_made) in
          let zeroth = client_takes c turns.Mechanisms (scram_profile c.login) nonces offer.body offer.after
          (framed offer.body ++ offer.after) c.joined.client_sent
          (frames.Mechanisms (login_mechanism c.login ∷ [])) offered offer.small
          (spells_mechanisms c.login.version (is_bound c.login.channel) offer.body offered) tt refl waits in
          both_log_in c (from_offer c offer.body offer.after offer.nonces offered zeroth offer.all offer.goes_on)

pub unaltered_sides_log_in : UnalteredSidesLogIn
unaltered_sides_log_in login provider password salt count client server joined is holds fits wide =
    let (client_taken, client_nonces, client_all, client_made) = cuts_do_not_matter
    (Exact (of_client.ClientSideAnswers login.hostname)) (fresh joined.client_limit (scram_profile login)) client
    joined.client_calls joined.server_sent joined.client_sent [] (nothing_is_part Header joined.client_limit)
    (exact_calls (of_client.ClientSideAnswers login.hostname) joined.client_calls
    (fresh joined.client_limit (scram_profile login)) joined.server_sent joined.client_sent client []
    wide.client_nonces joined.client_takes) in
    let (server_taken, server_nonces, server_all, server_made) = cuts_do_not_matter
    (Exact (of_server.ServerSideAnswers acceptor_names acceptor_machine))
    (fresh joined.server_limit (ScramAcceptor provider Initial)) server joined.server_calls
    (sasl_header ++ joined.client_sent) joined.server_sent [] (nothing_is_part Header joined.server_limit)
    (exact_calls (of_server.ServerSideAnswers acceptor_names acceptor_machine) joined.server_calls
    (fresh joined.server_limit (ScramAcceptor provider Initial)) (sasl_header ++ joined.client_sent) joined.server_sent
    server [] wide.server_nonces joined.server_takes) in
    log_in (record {
      login = login;
      provider = provider;
      password = password;
      salt = salt;
      count = count;
      client = client;
      server = server;
      joined = joined;
      is = is;
      holds = holds;
      fits = fits;
      wide = wide;
    }) client_nonces server_nonces
    (taken_whole (Exact (of_client.ClientSideAnswers login.hostname)) (fresh joined.client_limit (scram_profile login))
    client joined.server_sent client_taken joined.client_sent client_nonces client_all client_made)
    (taken_whole (Exact (of_server.ServerSideAnswers acceptor_names acceptor_machine))
    (fresh joined.server_limit (ScramAcceptor provider Initial)) server (sasl_header ++ joined.client_sent)
    server_taken joined.server_sent server_nonces server_all server_made)
