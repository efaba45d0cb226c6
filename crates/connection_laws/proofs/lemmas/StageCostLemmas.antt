-- What the answers of a server of all mechanisms cost from a stage on.
use Rattle.std.proofs.Common.{◌≡◌, ◌⊎◌, ◌+◌, ◌<◌, ◌≤◌, ℕ, Bool, true, false, Option, Some, None, List, [], ◌∷◌, Result, Ok, Err, ap, refl, inl, inr, arith}
use Rattle.std.specs.Prelude.{MatchOption, option_map}
use Rattle.std.proofs.Math.Nat.{le-max_left, le-max_right}
use Rattle.std.proofs.lemmas.Bool.{cases_lt}
use Rattle.fe2o3_sasl_wire.specs.SaslFrames as frames
use Rattle.fe2o3_sasl_wire.specs.SaslFrames.{SaslFrame}
use Rattle.fe2o3_sasl_wire.specs.declared.sasl_frames.error.Error.TheVariants as faults
use Rattle.fe2o3_scram.specs.ChannelBinding.{server_mechanism}
use Rattle.fe2o3_scram.specs.Credentials.{Provider, Record, record_at, with_rights}
use Rattle.fe2o3_scram.specs.Mixed.{provider_for}
use Rattle.fe2o3_scram.specs.MockSettings.{mock_cost}
use Rattle.fe2o3_scram.specs.ScramServer.{Initial, ServerFirstSent, ServerState}
use Rattle.fe2o3_scram.specs.ServerFirst.{OpenExchange}
use Rattle.fe2o3_scram.specs.declared.hmac.ScramVersion.{ScramVersion}
use Rattle.fe2o3_scram.specs.declared.scram_messages.error.ServerScramErrorKind.{ServerScramErrorKind}
use Rattle.fe2o3_sasl_core.specs.Bodies.{SpellsBody}
use Rattle.fe2o3_sasl_core.specs.Costs.{CostsAtMost, ReachesLookUp, acceptor_hmacs}
use Rattle.fe2o3_sasl_core.specs.Events.{Given, Failed}
use Rattle.fe2o3_sasl_core.specs.MockChoices.{MockChoice, count_of_unknown, mock_for}
use Rattle.fe2o3_sasl_core.specs.PlainServer.{TestsPassword, count_or, plain_hmacs}
use Rattle.fe2o3_sasl_core.specs.SaslAcceptor.{ScramAcceptor}
use Rattle.fe2o3_sasl_core.specs.Servers.{AsksForResponse, ClosesExchange, ConfirmsSignature, ExchangeOpen, InitAnswers, InitWhere, NotStarted, OpensScram, ResponseAnswers, ResponseAsked, ServerLogin, ServerSettings, ServerStage, SignatureShown, StageRejects, UserAuthenticated, asked_mechanism, init_hmacs, init_where_hmacs, is_offered_by, plain_by_settings, provider_by, response_hmacs}
use Rattle.fe2o3_sasl_core.specs.declared.mechanism.Mechanism.{Mechanism}
use Rattle.fe2o3_sasl_core.specs.declared.mechanism.Mechanism.TheVariants as mechanisms
use Rattle.fe2o3_sasl_core.proofs.lemmas.machines.RunCostLemmas.{server_runs_cost}
use Rattle.connection_laws.specs.ServerHmacs.{HasCountsUpTo, login_most, look_up_most, plain_most}
use Rattle.connection_laws.proofs.lemmas.RestLoginLemmas.{IsChallenged, not_outcome}
use Rattle.fe2o3_sasl_core.proofs.lemmas.machines.MechanismLemmas.{asked_offers}

-- no more values than an answer takes
abbrev pub AtMost : (ℕ → Type 0) → ℕ → ℕ → Type 0
AtMost Takes before after = (before ≤ after) × ((n : ℕ) → Takes n → after ≤ before + n)

-- what a test shows is within a bound, if both of its results are
within : (Test : Type 0) (Takes : ℕ → Type 0) (most before after : ℕ) → AtMost Takes before after
    → (Test → (n : ℕ) × Takes n × (n ≤ most)) → (¬ Test → Takes 0) → after ≤ before + most
within Test Takes most before after costs passes fails = go (cases_lt (before + most) after)
  where
    go : (before + most < after) ⊎ (after ≤ before + most) → after ≤ before + most
    go (inr bound) = bound
    go (inl more) =
        let never : ¬ Test = λ test. let (n, takes, few) = passes test in
        let bound = costs.1 n takes in omega (arith, more, few, bound) in
        let bound = costs.1 0 (fails never) in
        absurd (omega (arith, more, bound))

-- ---- one mechanism

-- SCRAM answers a response by two values at most
two : (provider : Provider) (state : ServerState) (event : Given) (text : List ℕ) (before after : ℕ)
    → SpellsBody event.body (Ok (frames.Response text))
    → CostsAtMost acceptor_hmacs (ScramAcceptor provider state) (frames.Response text) before after
    → after ≤ before + 2
two provider state event text before after spells costs =
    (server_runs_cost provider state (event ∷ []) (Failed faults.OutOfMemory ∷ []) before after 2
    (ScramAcceptor provider state) (
      Failed faults.OutOfMemory,
      (ScramAcceptor provider state, after),
      [],
      ((Ok (frames.Response text), spells, inl (refl, refl)), (Ok (frames.Response text), spells, costs)),
      refl,
      (refl, refl),
    )
    (Ok (frames.Response text), 0, spells, refl, refl)).1

-- and an init by a look-up at most
look_up : (provider : Provider) (text : List ℕ) (before after : ℕ)
    → AtMost (acceptor_hmacs (ScramAcceptor provider Initial)
    (frames.Init (server_mechanism provider.version provider.rules) (Some text) None)) before after
    → after ≤ before + provider.look_up_cost
look_up provider text before after costs =
    within (ReachesLookUp provider (server_mechanism provider.version provider.rules) text)
    (acceptor_hmacs (ScramAcceptor provider Initial)
    (frames.Init (server_mechanism provider.version provider.rules) (Some text) None))
    provider.look_up_cost before after costs
    (λ reaches. (provider.look_up_cost, inl (reaches, refl), omega arith)) (λ none. inr (none, refl))

look_up_cost : (version : ScramVersion) (mock : Option MockChoice)
    → mock_cost (option_map (mock_for version) mock) ≡ look_up_most mock
look_up_cost version None = refl
look_up_cost version (Some mock) = refl

module _ (settings : ServerSettings) (most : ℕ) (counts : HasCountsUpTo settings most) where
  count_within : (user : List ℕ) (found : Option Record)
      → record_at (provider_for settings.plain_version settings.records).records user ≡ found
      → count_or (count_of_unknown settings.plain_count settings.mock) found ≤ most
  count_within user None is = counts.0
  count_within user (Some stored) is = counts.1 user stored is

  -- PLAIN answers an init by the test of one password at most
  password : (text : List ℕ) (before after : ℕ)
      → AtMost (plain_hmacs (plain_by_settings settings) text) before after → after ≤ before + (most + 2)
  password text before after costs =
      within ((count : ℕ) × TestsPassword (plain_by_settings settings) text count)
      (plain_hmacs (plain_by_settings settings) text) (most + 2) before after costs
      (λ tests. (tests.0 + 2, inl (tests.0, tests.1, refl), few tests.0 tests.1))
      (λ none. inr ((λ count tests. none (count, tests)), refl))
    where
      few : (count : ℕ) → TestsPassword (plain_by_settings settings) text count → count + 2 ≤ most + 2
      few count (message, word, spells, taken, tested, is, passed) =
          let bound = count_within message.user
          (record_at (provider_for settings.plain_version settings.records).records message.user) refl in
          omega (arith, is, bound)

  -- ---- from a stage on

  -- the most that a login by a mechanism takes
  abbrev pub mechanism_most : Mechanism → ℕ
  mechanism_most (mechanisms.Scram version plus) = look_up_most settings.mock + 2
  mechanism_most mechanisms.Plain = most + 2
  mechanism_most mechanism = 0

  -- the most that the responses take from a stage on
  abbrev pub left_at : ServerStage → ℕ
  left_at (ResponseAsked mechanism nonce) = mechanism_most mechanism
  left_at (ExchangeOpen version plus exchange) = 2
  left_at stage = 0

  nothing : (before after : ℕ) → AtMost (λ n. n ≡ 0) before after → after ≤ before
  nothing before after costs = let bound = costs.1 0 refl in omega (arith, bound)

  -- an init that is answered
  init_ends : (mechanism : Mechanism) (response : Option (List ℕ)) (before after : ℕ)
      → AtMost (init_hmacs settings mechanism response) before after → after ≤ before + mechanism_most mechanism
  init_ends mechanisms.Anonymous response before after costs =
      let bound = nothing before after costs in omega (arith, bound)
  init_ends mechanisms.External response before after costs =
      let bound = nothing before after costs in omega (arith, bound)
  init_ends mechanisms.Plain None before after costs = let bound = nothing before after costs in omega (arith, bound)
  init_ends mechanisms.Plain (Some text) before after costs = password text before after costs
  init_ends (mechanisms.Scram version plus) None before after costs =
      let bound = nothing before after costs in omega (arith, bound)
  init_ends (mechanisms.Scram version plus) (Some text) before after costs =
      let bound = look_up (provider_by settings version plus) text before after costs in
      let one = look_up_cost version settings.mock in
      omega (arith, bound, one)

  opens_to : (version : ScramVersion) (plus : Bool) (kept next : ServerStage)
      (answer : Result (Option (List ℕ × OpenExchange)) ServerScramErrorKind) (reply : SaslFrame) → IsChallenged reply
      → OpensScram version plus kept answer reply next → left_at next ≡ 2
  opens_to version plus kept next (Ok (Some opened)) reply challenged is = ap left_at is.1
  opens_to version plus kept next (Ok None) reply challenged is = not_outcome reply _ _ challenged is.0
  opens_to version plus kept next (Err fault) reply challenged is = not_outcome reply _ _ challenged is.0

  asks_for : (asks : Bool) (mechanism : Mechanism) (kept next : ServerStage) (nonce : List ℕ) (reply : SaslFrame)
      → IsChallenged reply → AsksForResponse asks mechanism kept nonce reply next → left_at next ≡ mechanism_most mechanism
  asks_for true mechanism kept next nonce reply challenged is = ap left_at is.1
  asks_for false mechanism kept next nonce reply challenged is = not_outcome reply _ _ challenged is.0

  -- an init that is answered by a challenge
  init_waits : (mechanism : Mechanism) (kept next : ServerStage) (nonce : List ℕ) (response : Option (List ℕ)) (reply : SaslFrame)
      (before after : ℕ) → IsChallenged reply → InitAnswers settings mechanism kept nonce response reply next
      → AtMost (init_hmacs settings mechanism response) before after → after + left_at next ≤ before + mechanism_most mechanism
  init_waits mechanisms.Anonymous kept next nonce response reply before after challenged is costs =
      not_outcome reply _ _ challenged is.0
  init_waits mechanisms.External kept next nonce response reply before after challenged (inl is) costs =
      not_outcome reply _ _ challenged is.1.0
  init_waits mechanisms.External kept next nonce response reply before after challenged (inr is) costs =
      not_outcome reply _ _ challenged is.1.0
  init_waits mechanisms.Plain kept next nonce None reply before after challenged is costs =
      let bound = nothing before after costs in
      let left = asks_for settings.extra.initial_response mechanisms.Plain kept next nonce reply challenged is in
      omega (arith, bound, left)
  init_waits mechanisms.Plain kept next nonce (Some text) reply before after challenged (inl is) costs =
      not_outcome reply _ _ challenged is.2.0
  init_waits mechanisms.Plain kept next nonce (Some text) reply before after challenged (inr is) costs =
      not_outcome reply _ _ challenged is.1.0
  init_waits (mechanisms.Scram version plus) kept next nonce None reply before after challenged is costs =
      let bound = nothing before after costs in
      let left = asks_for settings.extra.initial_response (mechanisms.Scram version plus) kept next nonce reply challenged is in
      omega (arith, bound, left)
  init_waits (mechanisms.Scram version plus) kept next nonce (Some text) reply before after challenged (answer, begins, opens)
      costs =
      let bound = look_up (provider_by settings version plus) text before after costs in
      let one = look_up_cost version settings.mock in
      let left = opens_to version plus kept next answer reply challenged opens in
      omega (arith, bound, one, left)

  -- a mechanism that is offered takes no more than a login
  offered_most : (mechanism : Mechanism) → is_offered_by settings mechanism ≡ true
      → mechanism_most mechanism ≤ login_most settings most
  offered_most (mechanisms.Scram version plus) offered =
      le-max_left (look_up_most settings.mock + 2) (plain_most (is_offered_by settings mechanisms.Plain) most)
  offered_most mechanisms.Plain offered =
      let least = le-max_right (look_up_most settings.mock + 2) (plain_most (is_offered_by settings mechanisms.Plain) most) in
      let is = ap (λ (b : Bool). plain_most b most) offered in
      omega (arith, least, is)
  offered_most mechanisms.Anonymous offered = omega arith
  offered_most mechanisms.External offered = omega arith

  found_ends : (name : List ℕ) (found : Option Mechanism) (response : Option (List ℕ)) (before after : ℕ)
      → asked_mechanism settings name ≡ found
      → AtMost (λ n. MatchOption found (n ≡ 0) (λ mechanism. init_hmacs settings mechanism response n)) before after
      → after ≤ before + login_most settings most
  found_ends name None response before after asked costs =
      let bound = nothing before after costs in omega (arith, bound)
  found_ends name (Some mechanism) response before after asked costs =
      let bound = init_ends mechanism response before after costs in
      let few = offered_most mechanism (asked_offers settings name mechanism asked).1 in
      omega (arith, bound, few)

  pub where_ends : (asked : Bool) (name : List ℕ) (response : Option (List ℕ)) (before after : ℕ)
      → AtMost (init_where_hmacs asked settings name response) before after → after ≤ before + login_most settings most
  where_ends true name response before after costs =
      let bound = nothing before after costs in omega (arith, bound)
  where_ends false name response before after costs =
      found_ends name (asked_mechanism settings name) response before after refl costs

  found_waits : (name : List ℕ) (found : Option Mechanism) (stage next : ServerStage) (nonce : List ℕ)
      (response : Option (List ℕ)) (reply : SaslFrame) (before after : ℕ) → IsChallenged reply
      → asked_mechanism settings name ≡ found
      → MatchOption found (StageRejects stage reply next)
      (λ mechanism. InitAnswers settings mechanism stage nonce response reply next)
      → AtMost (λ n. MatchOption found (n ≡ 0) (λ mechanism. init_hmacs settings mechanism response n)) before after
      → after + left_at next ≤ before + login_most settings most
  found_waits name None stage next nonce response reply before after challenged asked is costs =
      not_outcome reply _ _ challenged is.0
  found_waits name (Some mechanism) stage next nonce response reply before after challenged asked is costs =
      let bound = init_waits mechanism stage next nonce response reply before after challenged is costs in
      let few = offered_most mechanism (asked_offers settings name mechanism asked).1 in
      omega (arith, bound, few)

  pub where_waits : (asked : Bool) (name : List ℕ) (stage next : ServerStage) (nonce : List ℕ)
      (response : Option (List ℕ)) (reply : SaslFrame) (before after : ℕ) → IsChallenged reply
      → InitWhere asked settings stage nonce name response reply next
      → AtMost (init_where_hmacs asked settings name response) before after
      → after + left_at next ≤ before + login_most settings most
  where_waits true name stage next nonce response reply before after challenged is costs =
      not_outcome reply _ _ challenged is.0
  where_waits false name stage next nonce response reply before after challenged is costs =
      found_waits name (asked_mechanism settings name) stage next nonce response reply before after challenged refl is costs

  -- a response that is answered
  pub response_ends : (stage : ServerStage) (event : Given) (text : List ℕ) (before after : ℕ)
      → SpellsBody event.body (Ok (frames.Response text)) → AtMost (response_hmacs settings stage text) before after
      → after ≤ before + left_at stage
  response_ends (ResponseAsked mechanism nonce) event text before after spells costs =
      init_ends mechanism (Some text) before after costs
  response_ends (ExchangeOpen version plus exchange) event text before after spells costs =
      two (with_rights settings.rights (provider_by settings version plus))
      (ServerFirstSent exchange.challenge exchange.stored) event text before after spells costs
  response_ends NotStarted event text before after spells costs =
      let bound = nothing before after costs in omega (arith, bound)
  response_ends (SignatureShown login) event text before after spells costs =
      let bound = nothing before after costs in omega (arith, bound)
  response_ends (UserAuthenticated login) event text before after spells costs =
      let bound = nothing before after costs in omega (arith, bound)

  shows : (signs : Bool) (version : ScramVersion) (plus : Bool) (exchange : OpenExchange)
      (answer : Result (List ℕ) ServerScramErrorKind) (reply : SaslFrame) (next : ServerStage) → IsChallenged reply
      → ClosesExchange signs version plus exchange answer reply next → left_at next ≡ 0
  shows true version plus exchange (Ok message) reply next challenged is = ap left_at is.1
  shows false version plus exchange (Ok message) reply next challenged is = not_outcome reply _ _ challenged is.0
  shows signs version plus exchange (Err fault) reply next challenged is = not_outcome reply _ _ challenged is.0

  confirms : {A : Type 0} (shown : ServerLogin) (text : List ℕ) (reply : SaslFrame) (next : ServerStage)
      → IsChallenged reply → ConfirmsSignature shown text reply next → A
  confirms shown [] reply next challenged is = not_outcome reply _ _ challenged is.0
  confirms shown (byte ∷ text) reply next challenged is = not_outcome reply _ _ challenged is.0

  -- a response that is answered by a challenge
  pub response_waits : (stage next : ServerStage) (event : Given) (text : List ℕ) (reply : SaslFrame)
      (before after : ℕ) → SpellsBody event.body (Ok (frames.Response text)) → IsChallenged reply
      → ResponseAnswers settings stage text reply next → AtMost (response_hmacs settings stage text) before after
      → after + left_at next ≤ before + left_at stage
  response_waits (ResponseAsked mechanism nonce) next event text reply before after spells challenged is costs =
      init_waits mechanism NotStarted next nonce (Some text) reply before after challenged is costs
  response_waits (ExchangeOpen version plus exchange) next event text reply before after spells challenged
      (answer, answers, closes) costs =
      let bound = two (with_rights settings.rights (provider_by settings version plus))
      (ServerFirstSent exchange.challenge exchange.stored) event text before after spells costs in
      let left = shows settings.extra.signature version plus exchange answer reply next challenged closes in
      omega (arith, bound, left)
  response_waits (SignatureShown login) next event text reply before after spells challenged is costs =
      confirms login text reply next challenged is
  response_waits NotStarted next event text reply before after spells challenged is costs =
      not_outcome reply _ _ challenged is.0
  response_waits (UserAuthenticated login) next event text reply before after spells challenged is costs =
      not_outcome reply _ _ challenged is.0
