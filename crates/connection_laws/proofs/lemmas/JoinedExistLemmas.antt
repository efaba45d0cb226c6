-- A client and a server that are joined exist, for each login, record, limits and calls.
use Rattle.std.proofs.Common.{ℕ, zero, suc, ◌≤◌, List, [], ◌++◌, codes, length, refl, sym, subst, append_assoc, arith, inl, inr}
use Rattle.std.specs.List.{AllByRecursion}
use Rattle.std.specs.Prelude.{replicate}
use Rattle.std.proofs.lemmas.List.{length-replicate}
use Rattle.fe2o3_sasl_wire.specs.SaslFrames as frames
use Rattle.fe2o3_scram.specs.ChannelBinding.{is_bound}
use Rattle.fe2o3_scram.specs.Escape.{escaped}
use Rattle.fe2o3_scram.specs.Exchanges.{first_in}
use Rattle.fe2o3_sasl.specs.examples.Examples.{login as user_login, provider as user_provider, salt as user_salt, client_bytes, server_bytes}
use Rattle.fe2o3_sasl.proofs.lemmas.examples.ExampleLemmas.{premises_can_be_met}
use Rattle.fe2o3_sasl.proofs.lemmas.examples.ExampleTextLemmas.{IsBytes-replicate}
use Rattle.fe2o3_sasl_core.specs.Profiles.{Profile, ScramProfile, scram_profile}
use Rattle.fe2o3_sasl_core.specs.SaslAcceptor.{Acceptor, acceptor_names, acceptor_machine}
use Rattle.fe2o3_sasl_core.specs.TwoSides.{sides_of}
use Rattle.fe2o3_sasl_core.specs.UnalteredRuns.{HoldsLogin}
use Rattle.fe2o3_sasl_negotiation.specs.declared.progress.Expected.TheVariants.{Header, Frame}
use Rattle.fe2o3_sasl_negotiation.specs.declared.progress.Progress.TheVariants.{InProgress, Authenticated}
use Rattle.fe2o3_sasl_negotiation.specs.declared.progress.FrameKind.{FrameKind}
use Rattle.fe2o3_sasl_negotiation.specs.declared.progress.FrameKind.TheVariants as turns
use Rattle.fe2o3_sasl_negotiation.specs.ClientNegotiation as of_client
use Rattle.fe2o3_sasl_negotiation.specs.ServerNegotiation as of_server
use Rattle.fe2o3_sasl_negotiation.specs.Connections.{fresh}
use Rattle.fe2o3_sasl_negotiation.specs.FrameSizes.{CanBeSent}
use Rattle.fe2o3_sasl_negotiation.specs.Framing.{sasl_header, framed}
use Rattle.fe2o3_sasl_negotiation.specs.Laws.{Call, Calls}
use Rattle.fe2o3_sasl_negotiation.specs.Negotiations.{Side}
use Rattle.fe2o3_sasl_negotiation.proofs.lemmas.UnitLemmas.{behind_answer, length-framed}
use Rattle.connection_laws.specs.JoinedSides.{JoinedSides, JoinedSidesExist, AreEnough, UserLogsIn}
use Rattle.connection_laws.specs.Unaltered.{HasNonce, FitsFrames}
use Rattle.connection_laws.proofs.lemmas.CompletingCallLemmas.{Finishes, IsUnit, header_is_unit, frame_is_unit, unit_calls, rests}
use Rattle.connection_laws.proofs.lemmas.FinishedCallLemmas.{Finished, finish}
use Rattle.connection_laws.proofs.lemmas.LoginAnswerLemmas as answer
use Rattle.connection_laws.proofs.lemmas.LoginAnswerLemmas.{waits, quiet, ends}
use Rattle.connection_laws.proofs.lemmas.LoginFrameLemmas as frame
use Rattle.connection_laws.proofs.lemmas.LoginFrameLemmas.{Premises, init_fits}
use Rattle.connection_laws.proofs.lemmas.SmallReplyLemmas.{long_enough, names_fit}

-- the frame of a body
size_of_sent : (sent : frames.SaslFrame) (fits : CanBeSent sent) → (1 ≤ length (framed fits.0)) × (length (framed fits.0) ≤ 512)
size_of_sent sent fits = (omega (arith, length-framed fits.0), omega (arith, length-framed fits.0, fits.2))

module _ (p : Premises) (client_limit server_limit : ℕ) (client_wide : 512 ≤ client_limit)
    (server_wide : 512 ≤ server_limit) where
  abbrev names_body : List ℕ
  names_body = frame.names_body p

  abbrev init_body : List ℕ
  init_body = frame.init_body p

  abbrev challenge_body : List ℕ
  challenge_body = frame.challenge_body p

  abbrev response_body : List ℕ
  response_body = frame.response_body p

  abbrev outcome_body : List ℕ
  outcome_body = frame.outcome_body p

  -- ---- the client

  abbrev first_profile : Profile
  first_profile = scram_profile p.login

  abbrev started_profile : Profile
  started_profile = ScramProfile (answer.started_side p)

  abbrev answered_profile : Profile
  answered_profile = ScramProfile (answer.answered_side p)

  abbrev complete_profile : Profile
  complete_profile = ScramProfile (answer.complete_side p)

  -- the turn of the outcome
  abbrev last_turn : FrameKind
  last_turn = answer.last_turn p

  abbrev client_last : Side Profile
  client_last = behind_answer (quiet Authenticated last_turn) client_limit complete_profile

  -- what the server sends after its list of mechanisms, and what the client sends
  abbrev later_sent : List ℕ
  later_sent = framed challenge_body ++ (framed outcome_body ++ [])

  abbrev client_sent : List ℕ
  client_sent = framed init_body ++ (framed response_body ++ [])

  abbrev ClientCalls : Side Profile → List Call → List ℕ → List ℕ → Type 0
  ClientCalls side calls stream sent =
      Calls (of_client.ClientReceives p.login.hostname) side calls stream sent client_last []

  names_is_unit : IsUnit (Frame turns.Mechanisms) client_limit (framed names_body)
  names_is_unit = frame_is_unit turns.Mechanisms client_limit names_body client_wide
      (long_enough (frame.names p) names_body (frame.names_sent p).1) (frame.names_sent p).2

  challenge_is_unit : IsUnit (Frame turns.Challenge) client_limit (framed challenge_body)
  challenge_is_unit = frame_is_unit turns.Challenge client_limit challenge_body client_wide
      (long_enough (frames.Challenge (first_in (frame.exchange p))) challenge_body (frame.challenge_sent p).1)
      (frame.challenge_sent p).2

  outcome_is_unit : IsUnit (Frame last_turn) client_limit (framed outcome_body)
  outcome_is_unit = frame_is_unit last_turn client_limit outcome_body client_wide
      (long_enough (frame.outcome p) outcome_body (frame.outcome_sent p).1) (frame.outcome_sent p).2

  client_takes : (n0 n2 n3 : List ℕ) (calls to_names to_challenge to_outcome idle : List Call)
      → Finishes calls 8 n0 to_names → Finishes to_names (length (framed names_body)) p.mine to_challenge
      → Finishes to_challenge (length (framed challenge_body)) n2 to_outcome
      → Finishes to_outcome (length (framed outcome_body)) n3 idle
      → ClientCalls (fresh client_limit first_profile) calls (sasl_header ++ (framed names_body ++ later_sent)) client_sent
  client_takes n0 n2 n3 calls to_names to_challenge to_outcome idle zeroth first second third =
      unit_calls (of_client.ClientSideAnswers p.login.hostname) Header client_limit first_profile first_profile
      sasl_header (framed names_body ++ later_sent) n0 client_sent (quiet InProgress turns.Mechanisms) to_names client_last
      (header_is_unit client_limit) (answer.client_opens p n0) take_names calls [] sasl_header refl zeroth
    where
      take_outcome : ClientCalls (behind_answer (waits response_body last_turn) client_limit answered_profile)
          to_outcome (framed outcome_body ++ []) []
      take_outcome = unit_calls (of_client.ClientSideAnswers p.login.hostname) (Frame last_turn) client_limit
          answered_profile complete_profile (framed outcome_body) [] n3 [] (quiet Authenticated last_turn) idle
          client_last outcome_is_unit (answer.client_reports p n3)
          (rests (of_client.ClientSideAnswers p.login.hostname) idle client_last refl) to_outcome []
          (framed outcome_body) refl third

      take_challenge : ClientCalls (behind_answer (waits init_body turns.Challenge) client_limit started_profile)
          to_challenge later_sent (framed response_body ++ [])
      take_challenge = unit_calls (of_client.ClientSideAnswers p.login.hostname) (Frame turns.Challenge) client_limit
          started_profile answered_profile (framed challenge_body) (framed outcome_body ++ []) n2 []
          (waits response_body last_turn) to_outcome client_last challenge_is_unit (answer.client_answers p n2)
          take_outcome to_challenge [] (framed challenge_body) refl second

      take_names : ClientCalls (behind_answer (quiet InProgress turns.Mechanisms) client_limit first_profile) to_names
          (framed names_body ++ later_sent) client_sent
      take_names = unit_calls (of_client.ClientSideAnswers p.login.hostname) (Frame turns.Mechanisms) client_limit
          first_profile started_profile (framed names_body) later_sent p.mine (framed response_body ++ [])
          (waits init_body turns.Challenge) to_challenge client_last names_is_unit (answer.client_starts p)
          take_challenge to_names [] (framed names_body) refl first

  -- ---- the server

  abbrev first_acceptor : Acceptor
  first_acceptor = answer.first_acceptor p

  abbrev challenged_acceptor : Acceptor
  challenged_acceptor = answer.challenged_acceptor p

  abbrev last_acceptor : Acceptor
  last_acceptor = answer.last_acceptor p

  abbrev server_last : Side Acceptor
  server_last = behind_answer (ends outcome_body) server_limit last_acceptor

  abbrev server_sent : List ℕ
  server_sent = (sasl_header ++ framed names_body) ++ later_sent

  abbrev ServerCalls : Side Acceptor → List Call → List ℕ → List ℕ → Type 0
  ServerCalls side calls stream sent =
      Calls (of_server.ServerReceives acceptor_names acceptor_machine) side calls stream sent server_last []

  init_is_unit : IsUnit (Frame turns.Init) server_limit (framed init_body)
  init_is_unit = frame_is_unit turns.Init server_limit init_body server_wide
      (long_enough (frame.init p) init_body (frame.init_sent p).1) (frame.init_sent p).2

  response_is_unit : IsUnit (Frame turns.Response) server_limit (framed response_body)
  response_is_unit = frame_is_unit turns.Response server_limit response_body server_wide
      (long_enough (frames.Response (frame.message p)) response_body (frame.response_sent p).1)
      (frame.response_sent p).2

  server_takes : (n0 n2 : List ℕ) (calls to_init to_response idle : List Call) → Finishes calls 8 n0 to_init
      → Finishes to_init (length (framed init_body)) p.theirs to_response
      → Finishes to_response (length (framed response_body)) n2 idle
      → ServerCalls (fresh server_limit first_acceptor) calls (sasl_header ++ client_sent) server_sent
  server_takes n0 n2 calls to_init to_response idle zeroth first second =
      unit_calls (of_server.ServerSideAnswers acceptor_names acceptor_machine) Header server_limit first_acceptor
      first_acceptor sasl_header client_sent n0 later_sent (of_server.behind_header (waits names_body turns.Init))
      to_init server_last (header_is_unit server_limit) (answer.server_opens p n0) take_init calls [] sasl_header refl
      zeroth
    where
      take_response : ServerCalls (behind_answer (waits challenge_body turns.Response) server_limit challenged_acceptor)
          to_response (framed response_body ++ []) (framed outcome_body ++ [])
      take_response = unit_calls (of_server.ServerSideAnswers acceptor_names acceptor_machine) (Frame turns.Response)
          server_limit challenged_acceptor last_acceptor (framed response_body) [] n2 [] (ends outcome_body) idle
          server_last response_is_unit (answer.server_accepts p n2)
          (rests (of_server.ServerSideAnswers acceptor_names acceptor_machine) idle server_last refl) to_response []
          (framed response_body) refl second

      take_init : ServerCalls (behind_answer (of_server.behind_header (waits names_body turns.Init)) server_limit
          first_acceptor) to_init client_sent later_sent
      take_init = unit_calls (of_server.ServerSideAnswers acceptor_names acceptor_machine) (Frame turns.Init)
          server_limit first_acceptor challenged_acceptor (framed init_body) (framed response_body ++ []) p.theirs
          (framed outcome_body ++ []) (waits challenge_body turns.Response) to_response server_last init_is_unit
          (answer.server_challenges p) take_response to_init [] (framed init_body) refl first

  -- ---- both

  pub sides_exist : (n0 n2 n3 s0 s2 : List ℕ) (client_calls to_names to_challenge to_outcome client_idle : List Call)
      (server_calls to_init to_response server_idle : List Call) → AllByRecursion HasNonce client_calls
      → AllByRecursion HasNonce server_calls → Finishes client_calls 8 n0 to_names
      → Finishes to_names (length (framed names_body)) p.mine to_challenge
      → Finishes to_challenge (length (framed challenge_body)) n2 to_outcome
      → Finishes to_outcome (length (framed outcome_body)) n3 client_idle → Finishes server_calls 8 s0 to_init
      → Finishes to_init (length (framed init_body)) p.theirs to_response
      → Finishes to_response (length (framed response_body)) s2 server_idle
      → JoinedSides p.login p.provider client_limit server_limit client_calls server_calls
  sides_exist n0 n2 n3 s0 s2 client_calls to_names to_challenge to_outcome client_idle server_calls to_init to_response
      server_idle client_longs server_longs one two three four five six seven = record {
        client = client_last;
        server = server_last;
        joined = record {
          client_limit = client_limit;
          server_limit = server_limit;
          client_calls = client_calls;
          server_calls = server_calls;
          client_sent = client_sent;
          server_sent = server_sent;
          client_takes = subst (λ (l : List ℕ). ClientCalls (fresh client_limit first_profile) client_calls l client_sent)
              (sym (append_assoc sasl_header (framed names_body) later_sent))
              (client_takes n0 n2 n3 client_calls to_names to_challenge to_outcome client_idle one two three four);
          server_takes = server_takes s0 s2 server_calls to_init to_response server_idle five six seven;
        };
        client_limited = refl;
        server_limited = refl;
        client_called = refl;
        server_called = refl;
        takes = record {
          client_limit = client_wide;
          server_limit = server_wide;
          client_nonces = client_longs;
          server_nonces = server_longs;
        };
        client_progress = refl;
        server_progress = refl;
        user = refl;
        identity = refl;
      }

pub joined_sides_exist : JoinedSidesExist
joined_sides_exist login provider password salt count client_limit server_limit client_calls server_calls is holds fits
    client_wide server_wide client_longs server_longs client_enough server_enough =
    sides_exist p client_limit server_limit client_wide server_wide c0.nonce c2.nonce c3.nonce s0.nonce s2.nonce
    client_calls c0.after c1.after c2.after c3.after server_calls s0.after s1.after s2.after client_longs server_longs
    c0.finishes c1.finishes c2.finishes c3.finishes s0.finishes s1.finishes s2.finishes
  where
    c0 : Finished 8 client_calls 1536 3
    c0 = finish 8 8 1536 3 client_calls (omega arith) (omega arith) (omega arith) client_longs client_enough

    c1 : Finished (length (framed (names_fit login.version (is_bound login.channel)).0)) c0.after 1024 2
    c1 = let (some, small) = size_of_sent _ (names_fit login.version (is_bound login.channel)) in
        finish (length (framed (names_fit login.version (is_bound login.channel)).0)) 512 1024 2 c0.after some small
        (omega arith) c0.longs c0.enough

    s0 : Finished 8 server_calls 1024 2
    s0 = finish 8 8 1024 2 server_calls (omega arith) (omega arith) (omega arith) server_longs server_enough

    s1 : Finished (length (framed (init_fits login salt c1.nonce fits c1.long.1).0)) s0.after 512 1
    s1 = let (some, small) = size_of_sent _ (init_fits login salt c1.nonce fits c1.long.1) in
        finish (length (framed (init_fits login salt c1.nonce fits c1.long.1).0)) 512 512 1 s0.after some small (omega arith)
        s0.longs s0.enough

    p : Premises
    p = record {
      login = login;
      provider = provider;
      password = password;
      salt = salt;
      count = count;
      mine = c1.nonce;
      theirs = s1.nonce;
      is = is;
      holds = holds;
      fits = fits;
      mine_long = c1.long;
      theirs_long = s1.long;
    }

    c2 : Finished (length (framed (frame.challenge_body p))) c1.after 512 1
    c2 = let (some, small) = size_of_sent _ (frame.challenge_sent p) in
        finish (length (framed (frame.challenge_body p))) 512 512 1 c1.after some small (omega arith) c1.longs c1.enough

    c3 : Finished (length (framed (frame.outcome_body p))) c2.after 0 0
    c3 = let (some, small) = size_of_sent _ (frame.outcome_sent p) in
        finish (length (framed (frame.outcome_body p))) 512 0 0 c2.after some small (omega arith) c2.longs c2.enough

    s2 : Finished (length (framed (frame.response_body p))) s1.after 0 0
    s2 = let (some, small) = size_of_sent _ (frame.response_sent p) in
        finish (length (framed (frame.response_body p))) 512 0 0 s1.after some small (omega arith) s1.longs s1.enough

-- ---- the worked example

user_holds : HoldsLogin (sides_of user_login [] [] user_provider [] []) (codes "pencil") user_salt 4096
user_holds = let holds = premises_can_be_met.3 in record {
  version = holds.version;
  stored = holds.stored;
  bytes = holds.bytes;
  opens = holds.opens;
  some = holds.some;
  least = holds.least;
  within = holds.within;
  header = holds.header;
  channel = holds.channel;
  identity = holds.identity;
  name = holds.name;
}

user_fits : FitsFrames user_login user_salt
unfolding escaped
user_fits = record { names = omega arith; salt = omega arith; binding = omega arith }

each_equal : (Is : Call → Type 0) (call : Call) (n : ℕ) → Is call → AllByRecursion Is (replicate n call)
each_equal Is call zero is = tt
each_equal Is call (suc n) is = (is, each_equal Is call n is)

-- equal calls of the user's login
module _ (client_calls server_calls handed : ℕ) where
  abbrev client_call : Call
  client_call = record { handed = handed; nonce = client_bytes }

  abbrev server_call : Call
  server_call = record { handed = handed; nonce = server_bytes }

  user_joins : AreEnough 1544 4 (replicate client_calls client_call)
      → AreEnough 1032 3 (replicate server_calls server_call)
      → JoinedSides user_login user_provider 512 512 (replicate client_calls client_call)
      (replicate server_calls server_call)
  user_joins client_enough server_enough = joined_sides_exist user_login user_provider (codes "pencil") user_salt 4096
      512 512 (replicate client_calls client_call) (replicate server_calls server_call) premises_can_be_met.2 user_holds
      user_fits (omega arith) (omega arith)
      (each_equal HasNonce client_call client_calls (IsBytes-replicate 32 1 (omega arith), refl))
      (each_equal HasNonce server_call server_calls (IsBytes-replicate 32 2 (omega arith), refl)) client_enough server_enough

  each_passed : (least : ℕ) → least ≤ handed
      → AllByRecursion (λ (call : Call). least ≤ call.handed) (replicate client_calls client_call)
      × AllByRecursion (λ (call : Call). least ≤ call.handed) (replicate server_calls server_call)
  each_passed least passed = (
    each_equal (λ (call : Call). least ≤ call.handed) client_call client_calls passed,
    each_equal (λ (call : Call). least ≤ call.handed) server_call server_calls passed,
  )

  by_units : 512 ≤ handed → 4 ≤ client_calls → 3 ≤ server_calls
      → JoinedSides user_login user_provider 512 512 (replicate client_calls client_call)
      (replicate server_calls server_call)
  by_units passed client_many server_many =
      let (client, server) = each_passed 512 passed in
      user_joins (inr (client, omega (arith, client_many, length-replicate {A = Call} client_calls client_call)))
      (inr (server, omega (arith, server_many, length-replicate {A = Call} server_calls server_call)))

  by_bytes : 1 ≤ handed → 1544 ≤ client_calls → 1032 ≤ server_calls
      → JoinedSides user_login user_provider 512 512 (replicate client_calls client_call)
      (replicate server_calls server_call)
  by_bytes passed client_many server_many =
      let (client, server) = each_passed 1 passed in
      user_joins (inl (client, omega (arith, client_many, length-replicate {A = Call} client_calls client_call)))
      (inl (server, omega (arith, server_many, length-replicate {A = Call} server_calls server_call)))

pub user_logs_in : UserLogsIn
user_logs_in = record {
  is_login = premises_can_be_met.2;
  holds = user_holds;
  fits = user_fits;
  by_units = by_units 4 3 512 (omega arith) (omega arith) (omega arith);
  by_bytes = by_bytes 1544 1032 1 (omega arith) (omega arith) (omega arith);
}
