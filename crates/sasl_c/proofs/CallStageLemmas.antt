-- What two servers answer that no struct tells apart, where one has the records of a store and the other those of a call.
use Rattle.std.proofs.Common.{refl, sym, ap, subst, inl, inr, ◌∙◌, ◌≡◌, ◌⊎◌, ◌↔◌, ◌∷◌, ℕ, List, []}
use Rattle.std.specs.Prelude.{Bool, true, false, Option, Some, None, MatchOption, Result, Ok, Err}
use Rattle.fe2o3_sasl_wire.specs.SaslFrames as frames
use Rattle.fe2o3_sasl_wire.specs.SaslFrames.{SaslFrame}
use Rattle.fe2o3_sasl_wire.specs.declared.amqp_types.SaslCode.{SaslCode}
use Rattle.fe2o3_scram.specs.ActingRights.{Rights, may_act}
use Rattle.fe2o3_scram.specs.ChannelBinding.{expected_header, is_strict}
use Rattle.fe2o3_scram.specs.ClientFinal.{server_of}
use Rattle.fe2o3_scram.specs.Credentials.{Record}
use Rattle.fe2o3_scram.specs.ClientFirst.{ClientFirst, ReadsClientFirst}
use Rattle.fe2o3_scram.specs.Mixed.{MultiRecords}
use Rattle.fe2o3_scram.specs.ScramServer.{BeginsExchange}
use Rattle.fe2o3_scram.specs.ServerFinal.{AnswersClientFinal}
use Rattle.fe2o3_scram.specs.ServerFirst.{OpenExchange, ServerChallenge}
use Rattle.fe2o3_scram.specs.declared.hmac.ScramVersion.{ScramVersion}
use Rattle.fe2o3_scram.specs.declared.scram_messages.error.ServerScramErrorKind.{ServerScramErrorKind}
use Rattle.fe2o3_sasl_core.specs.MockChoices.{MockChoice}
use Rattle.fe2o3_sasl_core.specs.PlainServer.{PlainParts}
use Rattle.fe2o3_sasl_core.specs.SavedServers.{IsRestored}
use Rattle.fe2o3_sasl_core.specs.Servers.{AsksForResponse, ClosesExchange, ConfirmsSignature, ExchangeOpen, InitAnswers, InitWhere, MessageLetsIn, NotStarted, OpensScram, ResponseAnswers, ResponseAsked, SendsSignature, ServerAt, ServerLogin, ServerSettings, ServerStage, SignatureShown, StageAnswers, StageRejects, UserAuthenticated, asked_mechanism, is_response_asked, logged_in_at, provider_by, rules_by, sasl_machine}
use Rattle.fe2o3_sasl_core.specs.declared.mechanism.Mechanism.{Mechanism}
use Rattle.fe2o3_sasl_core.specs.declared.mechanism.Mechanism.TheVariants as mechanisms
use Rattle.fe2o3_sasl_core.proofs.lemmas.machines.SavedServerLemmas.{stage_goes}
use Rattle.sasl_c.proofs.CallLooksLemmas.{Looks, looks_same, one_asked, some_record}

-- ---- the settings of a store, and those of a call

-- the settings with the records and the rights of a call
abbrev pub over : MultiRecords → Rights → Option MockChoice → ScramVersion → ServerSettings → ServerSettings
over records rights mock version settings =
    record settings { records = records; rights = rights; mock = mock; plain_version = version }

module _ (settings : ServerSettings) (records : MultiRecords) (rights : Rights) (mock : Option MockChoice)
    (plain : ScramVersion) where
  abbrev pub passed : ServerSettings
  passed = over records rights mock plain settings

  -- SCRAM finds one record for the user of a client-first message
  abbrev pub ScramAlike : ScramVersion → Bool → List ℕ → Type 0
  ScramAlike version plus text = (client : ClientFirst)
      → ReadsClientFirst (rules_by plus settings.rules) text (Ok client)
      → (provider_by passed version plus).records client.user ≡ (provider_by settings version plus).records client.user

  -- PLAIN lets in by a message over both or over neither
  abbrev pub PlainAlike : List ℕ → Type 0
  PlainAlike text = (parts : PlainParts) → MessageLetsIn passed text parts ↔ MessageLetsIn settings text parts

  abbrev pub InitAlike : Mechanism → Option (List ℕ) → Type 0
  InitAlike (mechanisms.Scram version plus) (Some text) = ScramAlike version plus text
  InitAlike mechanisms.Plain (Some text) = PlainAlike text
  InitAlike mechanism response = Unit {0}

  -- a response: that of an init, or one to an exchange of one record, whose user has one right
  abbrev pub ResponseAlike : ServerStage → ServerStage → List ℕ → Type 0
  ResponseAlike (ResponseAsked mechanism nonce) other text = InitAlike mechanism (Some text)
  ResponseAlike (ExchangeOpen version plus exchange) (ExchangeOpen other_version other_plus other) text =
      (other.stored ≡ exchange.stored)
      × (may_act rights exchange.challenge.user exchange.challenge.header.acts_for
      ≡ may_act settings.rights exchange.challenge.user exchange.challenge.header.acts_for)
  ResponseAlike stage other text = Unit {0}

  abbrev pub FrameAlike : ServerStage → ServerStage → SaslFrame → Type 0
  FrameAlike stage other (frames.Init name response hostname) =
      (mechanism : Mechanism) → asked_mechanism settings name ≡ Some mechanism → InitAlike mechanism response
  FrameAlike stage other (frames.Response text) = ResponseAlike stage other text
  FrameAlike stage other frame = Unit {0}

  -- an answer by one stage is one by another, and the stage after it is the same, or each is as before
  abbrev Both : ServerStage → ServerStage → ServerStage → (ServerStage → Type 0) → Type 0
  Both stage other next Answers = Answers next ⊎ (Answers stage × (next ≡ other))

  asks_both : (does : Bool) (mechanism : Mechanism) (stage other next : ServerStage) (nonce : List ℕ) (reply : SaslFrame)
      → AsksForResponse does mechanism other nonce reply next
      → Both stage other next (λ after. AsksForResponse does mechanism stage nonce reply after)
  asks_both true mechanism stage other next nonce reply is = inl is
  asks_both false mechanism stage other next nonce reply is = inr ((is.0, refl), is.1)

  begins_both : (version : ScramVersion) (plus : Bool) (nonce text : List ℕ)
      (answer : Result (Option (List ℕ × OpenExchange)) ServerScramErrorKind) → ScramAlike version plus text
      → BeginsExchange (provider_by passed version plus) nonce text answer
      → BeginsExchange (provider_by settings version plus) nonce text answer
  begins_both version plus nonce text (Ok (Some opened)) alike ((client, stored, reads, known, is), sent, found) =
      let one : opened.1.challenge.user ≡ client.user = ap (λ (challenge : ServerChallenge). challenge.user) is in (
        (client, stored, reads, sym (alike client reads) ∙ known, is),
        sent,
        ap (provider_by settings version plus).records one ∙ (sym (alike client reads)
            ∙ (ap (provider_by passed version plus).records (sym one) ∙ found)),
      )
  begins_both version plus nonce text (Ok None) alike (client, reads, none) =
      (client, reads, sym (alike client reads) ∙ none)
  begins_both version plus nonce text (Err fault) alike is = is

  opens_both : (version : ScramVersion) (plus : Bool) (stage other next : ServerStage) (nonce text : List ℕ)
      (answer : Result (Option (List ℕ × OpenExchange)) ServerScramErrorKind) (reply : SaslFrame)
      → BeginsExchange (provider_by settings version plus) nonce text answer
      → OpensScram version plus other answer reply next
      → Both stage other next (λ after. InitAnswers settings (mechanisms.Scram version plus) stage nonce (Some text) reply after)
  opens_both version plus stage other next nonce text (Ok (Some opened)) reply begins is =
      inl (Ok (Some opened), begins, is)
  opens_both version plus stage other next nonce text (Ok None) reply begins is =
      inr ((Ok None, begins, (is.0, refl)), is.1)
  opens_both version plus stage other next nonce text (Err fault) reply begins is =
      inr ((Err fault, begins, (is.0, refl)), is.1)

  init_both : (mechanism : Mechanism) (stage other next : ServerStage) (nonce : List ℕ) (response : Option (List ℕ))
      (reply : SaslFrame) → InitAlike mechanism response → InitAnswers passed mechanism other nonce response reply next
      → Both stage other next (λ after. InitAnswers settings mechanism stage nonce response reply after)
  init_both mechanisms.Anonymous stage other next nonce response reply alike is = inl is
  init_both mechanisms.External stage other next nonce response reply alike (inl is) = inl (inl is)
  init_both mechanisms.External stage other next nonce response reply alike (inr (not, is)) =
      inr (inr (not, (is.0, refl)), is.1)
  init_both mechanisms.Plain stage other next nonce None reply alike is =
      asks_both settings.extra.initial_response mechanisms.Plain stage other next nonce reply is
  init_both mechanisms.Plain stage other next nonce (Some text) reply alike (inl (parts, lets, is)) =
      inl (inl (parts, (alike parts).0 lets, is))
  init_both mechanisms.Plain stage other next nonce (Some text) reply alike (inr (none, is)) =
      inr (inr ((λ parts lets. none parts ((alike parts).1 lets)), (is.0, refl)), is.1)
  init_both (mechanisms.Scram version plus) stage other next nonce None reply alike is =
      asks_both settings.extra.initial_response (mechanisms.Scram version plus) stage other next nonce reply is
  init_both (mechanisms.Scram version plus) stage other next nonce (Some text) reply alike (answer, begins, is) =
      opens_both version plus stage other next nonce text answer reply
      (begins_both version plus nonce text answer alike begins) is

  asked_both : (found : Option Mechanism) (stage other next : ServerStage) (nonce : List ℕ) (response : Option (List ℕ))
      (reply : SaslFrame) → ((mechanism : Mechanism) → found ≡ Some mechanism → InitAlike mechanism response)
      → MatchOption found (StageRejects other reply next)
      (λ mechanism. InitAnswers passed mechanism other nonce response reply next)
      → Both stage other next (λ after. MatchOption found (StageRejects stage reply after)
      (λ mechanism. InitAnswers settings mechanism stage nonce response reply after))
  asked_both None stage other next nonce response reply alike is = inr ((is.0, refl), is.1)
  asked_both (Some mechanism) stage other next nonce response reply alike is =
      init_both mechanism stage other next nonce response reply (alike mechanism refl) is

  where_both : (due : Bool) (name : List ℕ) (stage other next : ServerStage) (nonce : List ℕ)
      (response : Option (List ℕ)) (reply : SaslFrame)
      → ((mechanism : Mechanism) → asked_mechanism settings name ≡ Some mechanism → InitAlike mechanism response)
      → InitWhere due passed other nonce name response reply next
      → Both stage other next (λ after. InitWhere due settings stage nonce name response reply after)
  where_both true name stage other next nonce response reply alike is = inl is
  where_both false name stage other next nonce response reply alike is =
      asked_both (asked_mechanism settings name) stage other next nonce response reply alike is

  -- ---- an answer to a frame

  -- the answer of the second stage is one of the first, and both are shown alike after it
  abbrev pub Answered : ServerStage → List ℕ → SaslFrame → SaslFrame → ServerStage → Type 0
  Answered stage nonce frame reply next =
      (after : ServerStage) × StageAnswers settings stage nonce frame reply after × Looks after next

  both_looks : (stage other next : ServerStage) (Answers : ServerStage → Type 0) → Looks stage other
      → Both stage other next Answers → (after : ServerStage) × Answers after × Looks after next
  both_looks stage other next Answers looks (inl is) = (next, is, looks_same next)
  both_looks stage other next Answers looks (inr (is, kept)) =
      (stage, is, subst (λ (s : ServerStage). Looks stage s) (sym kept) looks)

  init_answered : (stage other next : ServerStage) (nonce name : List ℕ) (response hostname : Option (List ℕ))
      (reply : SaslFrame) → Looks stage other
      → FrameAlike stage other (frames.Init name response hostname)
      → StageAnswers passed other nonce (frames.Init name response hostname) reply next
      → Answered stage nonce (frames.Init name response hostname) reply next
  init_answered stage other next nonce name response hostname reply looks alike is =
      both_looks stage other next
      (λ after. InitWhere (is_response_asked stage) settings stage nonce name response reply after) looks
      (where_both (is_response_asked stage) name stage other next nonce response reply alike
      (subst (λ (due : Bool). InitWhere due passed other nonce name response reply next) (one_asked stage other looks) is))

  rest_answered : (stage other next : ServerStage) (reply : SaslFrame) → Looks stage other
      → StageRejects other reply next
      → (after : ServerStage) × StageRejects stage reply after × Looks after next
  rest_answered stage other next reply looks is =
      (stage, (is.0, refl), subst (λ (s : ServerStage). Looks stage s) (sym is.1) looks)

  started_anew : (mechanism : Mechanism) (next : ServerStage) (nonce text : List ℕ) (reply : SaslFrame)
      → Both NotStarted NotStarted next (λ after. InitAnswers settings mechanism NotStarted nonce (Some text) reply after)
      → InitAnswers settings mechanism NotStarted nonce (Some text) reply next
  started_anew mechanism next nonce text reply (inl is) = is
  started_anew mechanism next nonce text reply (inr (is, kept)) =
      subst (λ (s : ServerStage). InitAnswers settings mechanism NotStarted nonce (Some text) reply s) (sym kept) is

  confirms_both : (login other : ServerLogin) (next : ServerStage) (text : List ℕ) (reply : SaslFrame)
      → Looks (SignatureShown login) (SignatureShown other) → ConfirmsSignature other text reply next
      → (after : ServerStage) × ConfirmsSignature login text reply after × Looks after next
  confirms_both login other next [] reply looks is =
      (UserAuthenticated login, (is.0, refl), subst (λ (s : ServerStage). Looks (UserAuthenticated login) s) (sym is.1) looks)
  confirms_both login other next (byte ∷ text) reply looks is =
      (NotStarted, (is.0, refl), subst (λ (s : ServerStage). Looks NotStarted s) (sym is.1) tt)

  exchange_with : ServerChallenge → Record → OpenExchange
  exchange_with challenge stored = record { challenge = challenge; stored = stored }

  one_exchange : (exchange other : OpenExchange) → other.challenge ≡ exchange.challenge → other.stored ≡ exchange.stored
      → other ≡ exchange
  unfolding exchange_with
  one_exchange exchange other challenge stored = ap (λ (c : ServerChallenge). exchange_with c other.stored) challenge
      ∙ ap (λ (s : Record). exchange_with exchange.challenge s) stored

  final_both : (version : ScramVersion) (plus : Bool) (exchange : OpenExchange) (next : ServerStage) (text : List ℕ)
      (reply : SaslFrame)
      → may_act rights exchange.challenge.user exchange.challenge.header.acts_for
      ≡ may_act settings.rights exchange.challenge.user exchange.challenge.header.acts_for
      → ResponseAnswers passed (ExchangeOpen version plus exchange) text reply next
      → ResponseAnswers settings (ExchangeOpen version plus exchange) text reply next
  final_both version plus exchange next text reply may (answer, answers, closes) = (
    answer,
    subst (λ (is : Bool). AnswersClientFinal (server_of version
        (expected_header (rules_by plus settings.rules).channels exchange.challenge.header)
        (is_strict (rules_by plus settings.rules)) exchange.challenge.bare exchange.challenge.first exchange.challenge.nonce
        exchange.stored is) text answer) may answers,
    closes,
  )

  exchange_both : (version other_version : ScramVersion) (plus other_plus : Bool) (exchange other : OpenExchange)
      (next : ServerStage) (text : List ℕ) (reply : SaslFrame) → other_version ≡ version → other_plus ≡ plus
      → other ≡ exchange
      → may_act rights exchange.challenge.user exchange.challenge.header.acts_for
      ≡ may_act settings.rights exchange.challenge.user exchange.challenge.header.acts_for
      → ResponseAnswers passed (ExchangeOpen other_version other_plus other) text reply next
      → ResponseAnswers settings (ExchangeOpen version plus exchange) text reply next
  exchange_both version other_version plus other_plus exchange other next text reply hash binds one may is =
      let same : ExchangeOpen other_version other_plus other ≡ ExchangeOpen version plus exchange = cc in
      final_both version plus exchange next text reply may
      (subst (λ (s : ServerStage). ResponseAnswers passed s text reply next) same is)

  response_answered : (stage other next : ServerStage) (text : List ℕ) (reply : SaslFrame) → Looks stage other
      → ResponseAlike stage other text → ResponseAnswers passed other text reply next
      → (after : ServerStage) × ResponseAnswers settings stage text reply after × Looks after next
  response_answered NotStarted NotStarted next text reply looks alike is =
      rest_answered NotStarted NotStarted next reply looks is
  response_answered NotStarted (UserAuthenticated other) next text reply looks alike is =
      rest_answered NotStarted (UserAuthenticated other) next reply looks is
  response_answered (ResponseAsked mechanism nonce) (ResponseAsked other_mechanism other_nonce) next text reply looks alike is = (
    next,
    started_anew mechanism next nonce text reply (init_both mechanism NotStarted NotStarted next nonce (Some text) reply alike
        (subst (λ (n : List ℕ). InitAnswers passed mechanism NotStarted n (Some text) reply next) looks.1
        (subst (λ (w : Mechanism). InitAnswers passed w NotStarted other_nonce (Some text) reply next) looks.0 is))),
    looks_same next,
  )
  response_answered (ExchangeOpen version plus exchange) (ExchangeOpen other_version other_plus other) next text reply looks
      alike is = (
        next,
        exchange_both version other_version plus other_plus exchange other next text reply looks.0 looks.1
            (one_exchange exchange other looks.2 alike.0) alike.1 is,
        looks_same next,
      )
  response_answered (SignatureShown login) (SignatureShown other) next text reply looks alike is =
      confirms_both login other next text reply looks is
  response_answered (UserAuthenticated login) (UserAuthenticated other) next text reply looks alike is =
      rest_answered (UserAuthenticated login) (UserAuthenticated other) next reply looks is
  response_answered NotStarted (ResponseAsked mechanism nonce) next text reply looks alike is = absurd looks
  response_answered NotStarted (ExchangeOpen version plus exchange) next text reply looks alike is = absurd looks
  response_answered NotStarted (SignatureShown other) next text reply looks alike is = absurd looks
  response_answered (ResponseAsked mechanism nonce) NotStarted next text reply looks alike is = absurd looks
  response_answered (ResponseAsked mechanism nonce)
      (ExchangeOpen version plus exchange) next text reply looks alike is = absurd looks
  response_answered (ResponseAsked mechanism nonce) (SignatureShown other) next text reply looks alike is = absurd looks
  response_answered (ResponseAsked mechanism nonce) (UserAuthenticated other) next text reply looks alike is = absurd looks
  response_answered (ExchangeOpen version plus exchange) NotStarted next text reply looks alike is = absurd looks
  response_answered (ExchangeOpen version plus exchange)
      (ResponseAsked mechanism nonce) next text reply looks alike is = absurd looks
  response_answered (ExchangeOpen version plus exchange) (SignatureShown other) next text reply looks alike is = absurd looks
  response_answered (ExchangeOpen version plus exchange) (UserAuthenticated other) next text reply looks alike is = absurd looks
  response_answered (SignatureShown login) NotStarted next text reply looks alike is = absurd looks
  response_answered (SignatureShown login) (ResponseAsked mechanism nonce) next text reply looks alike is = absurd looks
  response_answered (SignatureShown login) (ExchangeOpen version plus exchange) next text reply looks alike is = absurd looks
  response_answered (SignatureShown login) (UserAuthenticated other) next text reply looks alike is = absurd looks
  response_answered (UserAuthenticated login) NotStarted next text reply looks alike is = absurd looks
  response_answered (UserAuthenticated login) (ResponseAsked mechanism nonce) next text reply looks alike is = absurd looks
  response_answered (UserAuthenticated login) (ExchangeOpen version plus exchange) next text reply looks alike is = absurd looks
  response_answered (UserAuthenticated login) (SignatureShown other) next text reply looks alike is = absurd looks

  pub stage_answered : (stage other next : ServerStage) (nonce : List ℕ) (frame reply : SaslFrame) → Looks stage other
      → FrameAlike stage other frame → StageAnswers passed other nonce frame reply next
      → Answered stage nonce frame reply next
  stage_answered stage other next nonce (frames.Init name response hostname) reply looks alike is =
      init_answered stage other next nonce name response hostname reply looks alike is
  stage_answered stage other next nonce (frames.Response text) reply looks alike is =
      response_answered stage other next text reply looks alike is
  stage_answered stage other next nonce (frames.Mechanisms names) reply looks alike is = absurd is
  stage_answered stage other next nonce (frames.Challenge text) reply looks alike is = absurd is
  stage_answered stage other next nonce (frames.Outcome code more) reply looks alike is = absurd is

  -- ---- who is not logged in stays so but for an outcome

  abbrev pub IsOut : ServerStage → Type 0
  IsOut stage = logged_in_at stage ≡ None

  abbrev pub IsOutcome : SaslFrame → Type 0
  IsOutcome reply = (code : SaslCode) × (more : Option (List ℕ)) × (reply ≡ frames.Outcome code more)

  abbrev pub Quiet : SaslFrame → ServerStage → Type 0
  Quiet reply next = IsOutcome reply ⊎ IsOut next

  out_so : (stage next : ServerStage) → next ≡ stage → IsOut stage → IsOut next
  out_so stage next same out = subst IsOut (sym same) out

  asks_quiet : (does : Bool) (mechanism : Mechanism) (stage next : ServerStage) (nonce : List ℕ) (reply : SaslFrame)
      → AsksForResponse does mechanism stage nonce reply next → Quiet reply next
  asks_quiet true mechanism stage next nonce reply is = inr (out_so (ResponseAsked mechanism nonce) next is.1 refl)
  asks_quiet false mechanism stage next nonce reply is = inl (_, _, is.0)

  opens_quiet : (version : ScramVersion) (plus : Bool) (stage next : ServerStage)
      (answer : Result (Option (List ℕ × OpenExchange)) ServerScramErrorKind) (reply : SaslFrame)
      → OpensScram version plus stage answer reply next → Quiet reply next
  opens_quiet version plus stage next (Ok (Some opened)) reply is =
      inr (out_so (ExchangeOpen version plus opened.1) next is.1 refl)
  opens_quiet version plus stage next (Ok None) reply is = inl (_, _, is.0)
  opens_quiet version plus stage next (Err fault) reply is = inl (_, _, is.0)

  init_quiet : (mechanism : Mechanism) (stage next : ServerStage) (nonce : List ℕ) (response : Option (List ℕ))
      (reply : SaslFrame)
      → InitAnswers settings mechanism stage nonce response reply next → Quiet reply next
  init_quiet mechanisms.Anonymous stage next nonce response reply is = inl (_, _, is.0)
  init_quiet mechanisms.External stage next nonce response reply (inl (asks, is)) = inl (_, _, is.0)
  init_quiet mechanisms.External stage next nonce response reply (inr (not, is)) = inl (_, _, is.0)
  init_quiet mechanisms.Plain stage next nonce None reply is =
      asks_quiet settings.extra.initial_response mechanisms.Plain stage next nonce reply is
  init_quiet mechanisms.Plain stage next nonce (Some text) reply (inl (parts, lets, is)) = inl (_, _, is.0)
  init_quiet mechanisms.Plain stage next nonce (Some text) reply (inr (none, is)) = inl (_, _, is.0)
  init_quiet (mechanisms.Scram version plus) stage next nonce None reply is =
      asks_quiet settings.extra.initial_response (mechanisms.Scram version plus) stage next nonce reply is
  init_quiet (mechanisms.Scram version plus) stage next nonce (Some text) reply (answer, begins, is) =
      opens_quiet version plus stage next answer reply is

  asked_quiet : (found : Option Mechanism) (stage next : ServerStage) (nonce : List ℕ) (response : Option (List ℕ))
      (reply : SaslFrame) → MatchOption found (StageRejects stage reply next)
      (λ mechanism. InitAnswers settings mechanism stage nonce response reply next) → Quiet reply next
  asked_quiet None stage next nonce response reply is = inl (_, _, is.0)
  asked_quiet (Some mechanism) stage next nonce response reply is = init_quiet mechanism stage next nonce response reply is

  where_quiet : (due : Bool) (name : List ℕ) (stage next : ServerStage) (nonce : List ℕ) (response : Option (List ℕ))
      (reply : SaslFrame) → InitWhere due settings stage nonce name response reply next → Quiet reply next
  where_quiet true name stage next nonce response reply is = inl (_, _, is.0)
  where_quiet false name stage next nonce response reply is =
      asked_quiet (asked_mechanism settings name) stage next nonce response reply is

  signs_quiet : (signs : Bool) (login : ServerLogin) (message : List ℕ) (reply : SaslFrame) (next : ServerStage)
      → SendsSignature signs login message reply next → Quiet reply next
  signs_quiet true login message reply next is = inr (out_so (SignatureShown login) next is.1 refl)
  signs_quiet false login message reply next is = inl (_, _, is.0)

  closes_quiet : (signs : Bool) (version : ScramVersion) (plus : Bool) (exchange : OpenExchange)
      (answer : Result (List ℕ) ServerScramErrorKind) (reply : SaslFrame) (next : ServerStage)
      → ClosesExchange signs version plus exchange answer reply next → Quiet reply next
  closes_quiet signs version plus exchange (Ok message) reply next is = signs_quiet signs _ message reply next is
  closes_quiet signs version plus exchange (Err fault) reply next is = inl (_, _, is.0)

  response_quiet : (stage next : ServerStage) (text : List ℕ) (reply : SaslFrame)
      → ResponseAnswers settings stage text reply next → Quiet reply next
  response_quiet NotStarted next text reply is = inl (_, _, is.0)
  response_quiet (ResponseAsked mechanism nonce) next text reply is =
      init_quiet mechanism NotStarted next nonce (Some text) reply is
  response_quiet (ExchangeOpen version plus exchange) next text reply (answer, answers, is) =
      closes_quiet settings.extra.signature version plus exchange answer reply next is
  response_quiet (SignatureShown login) next [] reply is = inl (_, _, is.0)
  response_quiet (SignatureShown login) next (byte ∷ text) reply is = inl (_, _, is.0)
  response_quiet (UserAuthenticated login) next text reply is = inl (_, _, is.0)

  pub stage_quiet : (stage next : ServerStage) (nonce : List ℕ) (frame reply : SaslFrame)
      → StageAnswers settings stage nonce frame reply next → Quiet reply next
  stage_quiet stage next nonce (frames.Init name response hostname) reply is =
      where_quiet (is_response_asked stage) name stage next nonce response reply is
  stage_quiet stage next nonce (frames.Response text) reply is = response_quiet stage next text reply is
  stage_quiet stage next nonce (frames.Mechanisms names) reply is = absurd is
  stage_quiet stage next nonce (frames.Challenge text) reply is = absurd is
  stage_quiet stage next nonce (frames.Outcome code more) reply is = absurd is

  -- ---- the machine

  -- a server of the connection, and one that a struct of it restores
  pub record Follows (server : ServerAt) (other : ServerAt) : Type 0 where
    pub own : server.settings ≡ settings
    pub looks : Looks server.stage other.stage
    pub restored : IsRestored settings server.stage

  pub machine_answered : (server : ServerAt) (other next : ServerAt) (nonce : List ℕ) (frame reply : SaslFrame)
      → Follows server other → other.settings ≡ passed
      → FrameAlike server.stage other.stage frame → sasl_machine other nonce frame reply next
      → (after : ServerAt) × sasl_machine server nonce frame reply after × Follows after next × Quiet reply after.stage
  machine_answered server other next nonce frame reply follows others alike (kept, answers, records) =
      let step = stage_answered server.stage other.stage next.stage nonce frame reply follows.looks alike
      (subst (λ (s : ServerSettings). StageAnswers s other.stage nonce frame reply next.stage) others answers) in
      let last = some_record frame server.last in (
        record { settings = server.settings; stage = step.0; last = last.0 },
        (
          refl,
          subst (λ (s : ServerSettings). StageAnswers s server.stage nonce frame reply step.0) (sym follows.own) step.1,
          last.1,
        ),
        record {
          own = follows.own;
          looks = step.2;
          restored = stage_goes settings server.stage step.0 nonce frame reply follows.restored step.1;
        },
        stage_quiet server.stage step.0 nonce frame reply step.1,
      )
