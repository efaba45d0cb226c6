-- Whom a server of all mechanisms lets in: `lets_in`, `only_lets_in`, `follows_proof`.
use Rattle.std.proofs.Common.{◌≡◌, ◌⊎◌, ◌∙◌, ℕ, Bool, true, false, Option, Some, None, List, [], ◌∷◌, Result, Ok, Err, ap, sym, subst, refl, inl, inr}
use Rattle.std.specs.Prelude.{MatchOption}
use Rattle.fe2o3_sasl_wire.specs.SaslFrames as frames
use Rattle.fe2o3_sasl_wire.specs.SaslFrames.{SaslFrame}
use Rattle.fe2o3_scram.specs.ServerFinal.{AnswersClientFinal}
use Rattle.fe2o3_scram.specs.ServerFirst.{OpenExchange}
use Rattle.fe2o3_scram.specs.declared.hmac.ScramVersion.{ScramVersion}
use Rattle.fe2o3_scram.specs.declared.scram_messages.error.ServerScramErrorKind.{ServerScramErrorKind}
use Rattle.fe2o3_scram.proofs.lemmas.messages.ClientFinalLemmas.{one_client_final}
use Rattle.fe2o3_sasl_core.specs.PlainServer.{asked_identity}
use Rattle.fe2o3_sasl_core.specs.Servers.{AsksForResponse, ClosesExchange, ConfirmsSignature, ExchangeOpen, InitAnswers, InitWhere, NotStarted, OpensScram, ResponseAnswers, ResponseAsked, SendsSignature, ServerLogin, ServerSettings, ServerStage, SignatureShown, StageRejects, UserAuthenticated, asked_mechanism, exchange_login, exchange_server, is_response_asked, logged_in_at}
use Rattle.fe2o3_sasl_core.specs.declared.mechanism.Mechanism.{Mechanism}
use Rattle.fe2o3_sasl_core.specs.declared.mechanism.Mechanism.TheVariants as mechanisms
use Rattle.fe2o3_sasl_core.proofs.lemmas.machines.PlainMessageLemmas.{one_message}
use Rattle.connection_laws.specs.ServerLogins.{CompletedLoginsAreLetIn, InitCompletes, MeetsExchange, OnlyCompletedLoginsAreLetIn, ResponseCompletes, SignaturesFollowProofs}

-- ---- stages

-- the login of a stage is the one that it names
named_login : (made login : ServerLogin) (next : ServerStage) → next ≡ UserAuthenticated made
    → logged_in_at next ≡ Some login → login ≡ made
named_login made login next is named =
    let both : Some login ≡ Some made = sym named ∙ ap (λ (s : ServerStage). logged_in_at s) is in cc

-- a stage without a login names none
unnamed : {A : Type 0} (stage next : ServerStage) (login : ServerLogin) → next ≡ stage → logged_in_at stage ≡ None
    → logged_in_at next ≡ Some login → A
unnamed stage next login is none named =
    let no : None ≡ Some login = sym none ∙ (sym (ap (λ (s : ServerStage). logged_in_at s) is) ∙ named) in absurd (cc)

-- ---- only completed logins

asked_lets_in : {A : Type 0} (asks : Bool) (mechanism : Mechanism) (kept next : ServerStage) (nonce : List ℕ) (reply : SaslFrame)
    (login : ServerLogin) → AsksForResponse asks mechanism kept nonce reply next → logged_in_at next ≡ Some login
    → A ⊎ (next ≡ kept)
asked_lets_in true mechanism kept next nonce reply login is named =
    unnamed (ResponseAsked mechanism nonce) next login is.1 refl named
asked_lets_in false mechanism kept next nonce reply login is named = inr is.1

opened_lets_in : {A : Type 0} (version : ScramVersion) (plus : Bool) (kept next : ServerStage)
    (answer : Result (Option (List ℕ × OpenExchange)) ServerScramErrorKind) (reply : SaslFrame) (login : ServerLogin)
    → OpensScram version plus kept answer reply next → logged_in_at next ≡ Some login → A ⊎ (next ≡ kept)
opened_lets_in version plus kept next (Ok (Some opened)) reply login is named =
    unnamed (ExchangeOpen version plus opened.1) next login is.1 refl named
opened_lets_in version plus kept next (Ok None) reply login is named = inr is.1
opened_lets_in version plus kept next (Err fault) reply login is named = inr is.1

init_lets_in : (settings : ServerSettings) (mechanism : Mechanism) (kept next : ServerStage) (nonce : List ℕ)
    (response : Option (List ℕ)) (reply : SaslFrame) (login : ServerLogin)
    → InitAnswers settings mechanism kept nonce response reply next → logged_in_at next ≡ Some login
    → InitCompletes settings mechanism response login ⊎ (next ≡ kept)
init_lets_in settings mechanisms.Anonymous kept next nonce response reply login is named =
    inl (named_login _ login next is.1 named)
init_lets_in settings mechanisms.External kept next nonce response reply login (inl is) named =
    inl (is.0, named_login _ login next is.1.1 named)
init_lets_in settings mechanisms.External kept next nonce response reply login (inr is) named = inr is.1.1
init_lets_in settings mechanisms.Plain kept next nonce None reply login is named =
    asked_lets_in settings.extra.initial_response mechanisms.Plain kept next nonce reply login is named
init_lets_in settings mechanisms.Plain kept next nonce (Some text) reply login (inl is) named =
    inl (is.0, is.1, named_login _ login next is.2.1 named)
init_lets_in settings mechanisms.Plain kept next nonce (Some text) reply login (inr is) named = inr is.1.1
init_lets_in settings (mechanisms.Scram version plus) kept next nonce None reply login is named =
    asked_lets_in settings.extra.initial_response (mechanisms.Scram version plus) kept next nonce reply login is named
init_lets_in settings (mechanisms.Scram version plus) kept next nonce (Some text) reply login (answer, begins, opens) named =
    opened_lets_in version plus kept next answer reply login opens named

-- the client-final message of an exchange
closed_lets_in : (settings : ServerSettings) (signs : Bool) (version : ScramVersion) (plus : Bool)
    (exchange : OpenExchange) (text : List ℕ) (answer : Result (List ℕ) ServerScramErrorKind) (reply : SaslFrame)
    (next : ServerStage) (login : ServerLogin) → settings.extra.signature ≡ signs
    → AnswersClientFinal (exchange_server settings version plus exchange) text answer
    → ClosesExchange signs version plus exchange answer reply next → logged_in_at next ≡ Some login
    → ResponseCompletes settings (ExchangeOpen version plus exchange) text login
    ⊎ (next ≡ ExchangeOpen version plus exchange)
closed_lets_in settings true version plus exchange text (Ok message) reply next login signs answers is named =
    unnamed (SignatureShown (exchange_login version plus exchange)) next login is.1 refl named
closed_lets_in settings false version plus exchange text (Ok message) reply next login signs answers is named =
    inl (signs, (message, answers), named_login _ login next is.1 named)
closed_lets_in settings signing version plus exchange text (Err fault) reply next login signs answers is named =
    inr is.1

confirmed_lets_in : (settings : ServerSettings) (shown : ServerLogin) (text : List ℕ) (reply : SaslFrame)
    (next : ServerStage) (login : ServerLogin) → ConfirmsSignature shown text reply next
    → logged_in_at next ≡ Some login
    → ResponseCompletes settings (SignatureShown shown) text login ⊎ (next ≡ SignatureShown shown)
confirmed_lets_in settings shown [] reply next login is named = inl (refl, named_login _ login next is.1 named)
confirmed_lets_in settings shown (byte ∷ text) reply next login is named =
    unnamed NotStarted next login is.1 refl named

-- an init that a response completes
late_lets_in : {A : Type 0} (stage next : ServerStage) (login : ServerLogin) → A ⊎ (next ≡ NotStarted)
    → logged_in_at next ≡ Some login → A ⊎ (next ≡ stage)
late_lets_in stage next login (inl completes) named = inl completes
late_lets_in stage next login (inr is) named = unnamed NotStarted next login is refl named

response_lets_in : (settings : ServerSettings) (stage next : ServerStage) (text : List ℕ) (reply : SaslFrame)
    (login : ServerLogin) → ResponseAnswers settings stage text reply next → logged_in_at next ≡ Some login
    → ResponseCompletes settings stage text login ⊎ (next ≡ stage)
response_lets_in settings (ResponseAsked mechanism nonce) next text reply login is named =
    late_lets_in (ResponseAsked mechanism nonce) next login
    (init_lets_in settings mechanism NotStarted next nonce (Some text) reply login is named) named
response_lets_in settings (ExchangeOpen version plus exchange) next text reply login is named =
    closed_lets_in settings settings.extra.signature version plus exchange text is.0 reply next login refl is.1 is.2 named
response_lets_in settings (SignatureShown shown) next text reply login is named =
    confirmed_lets_in settings shown text reply next login is named
response_lets_in settings NotStarted next text reply login is named = inr is.1
response_lets_in settings (UserAuthenticated before) next text reply login is named = inr is.1

-- an init, where it asks for this mechanism or for none that is offered
found_lets_in : (settings : ServerSettings) (stage next : ServerStage) (nonce name : List ℕ)
    (response : Option (List ℕ)) (reply : SaslFrame) (login : ServerLogin) (found : Option Mechanism)
    → is_response_asked stage ≡ false → asked_mechanism settings name ≡ found
    → MatchOption found (StageRejects stage reply next)
    (λ mechanism. InitAnswers settings mechanism stage nonce response reply next) → logged_in_at next ≡ Some login
    → ((is_response_asked stage ≡ false) × ((mechanism : Mechanism) × (asked_mechanism settings name ≡ Some mechanism)
    × InitCompletes settings mechanism response login)) ⊎ (next ≡ stage)
found_lets_in settings stage next nonce name response reply login None due found is named = inr is.1
found_lets_in settings stage next nonce name response reply login (Some mechanism) due found is named =
    go (init_lets_in settings mechanism stage next nonce response reply login is named)
  where
    go : InitCompletes settings mechanism response login ⊎ (next ≡ stage)
        → ((is_response_asked stage ≡ false) × ((mechanism : Mechanism) × (asked_mechanism settings name ≡ Some mechanism)
        × InitCompletes settings mechanism response login)) ⊎ (next ≡ stage)
    go (inl completes) = inl (due, (mechanism, found, completes))
    go (inr same) = inr same

where_lets_in : (settings : ServerSettings) (stage next : ServerStage) (nonce name : List ℕ)
    (response : Option (List ℕ)) (reply : SaslFrame) (login : ServerLogin) (asked : Bool)
    → is_response_asked stage ≡ asked → InitWhere asked settings stage nonce name response reply next
    → logged_in_at next ≡ Some login
    → ((is_response_asked stage ≡ false) × ((mechanism : Mechanism) × (asked_mechanism settings name ≡ Some mechanism)
    × InitCompletes settings mechanism response login)) ⊎ (next ≡ stage)
where_lets_in settings stage next nonce name response reply login true due is named =
    unnamed NotStarted next login is.1 refl named
where_lets_in settings stage next nonce name response reply login false due is named =
    found_lets_in settings stage next nonce name response reply login (asked_mechanism settings name) due refl is named

pub only_lets_in : OnlyCompletedLoginsAreLetIn
only_lets_in server next nonce (frames.Init name response hostname) reply login (same, answers, records) named =
    where_lets_in server.settings server.stage next.stage nonce name response reply login
    (is_response_asked server.stage) refl answers named
only_lets_in server next nonce (frames.Response text) reply login (same, answers, records) named =
    response_lets_in server.settings server.stage next.stage text reply login answers named
only_lets_in server next nonce (frames.Mechanisms names) reply login (same, answers, records) named = absurd answers
only_lets_in server next nonce (frames.Challenge text) reply login (same, answers, records) named = absurd answers
only_lets_in server next nonce (frames.Outcome code more) reply login (same, answers, records) named = absurd answers

-- ---- completed logins

init_completes : (settings : ServerSettings) (mechanism : Mechanism) (kept next : ServerStage) (nonce : List ℕ)
    (response : Option (List ℕ)) (reply : SaslFrame) (login : ServerLogin)
    → InitAnswers settings mechanism kept nonce response reply next → InitCompletes settings mechanism response login
    → next ≡ UserAuthenticated login
init_completes settings mechanisms.Anonymous kept next nonce response reply login is completes =
    is.1 ∙ ap UserAuthenticated (sym completes)
init_completes settings mechanisms.External kept next nonce response reply login (inl is) completes =
    is.1.1 ∙ ap UserAuthenticated (sym completes.1)
init_completes settings mechanisms.External kept next nonce response reply login (inr is) completes =
    absurd (is.0 completes.0)
init_completes settings mechanisms.Plain kept next nonce None reply login is completes = absurd completes
init_completes settings mechanisms.Plain kept next nonce (Some text) reply login (inl is) completes =
    let one = one_message text is.0 completes.0 is.1.0 completes.1.0 in
    is.2.1 ∙ ((λ i. UserAuthenticated (record {
      mechanism = mechanisms.Plain;
      user = Some (one i).user;
      acts_for = asked_identity (one i);
    })) ∙ ap UserAuthenticated (sym completes.2))
init_completes settings mechanisms.Plain kept next nonce (Some text) reply login (inr is) completes =
    absurd (is.0 completes.0 completes.1)
init_completes settings (mechanisms.Scram version plus) kept next nonce response reply login is completes = absurd completes

closed_completes : (settings : ServerSettings) (version : ScramVersion) (plus : Bool) (exchange : OpenExchange)
    (text : List ℕ) (answer : Result (List ℕ) ServerScramErrorKind) (reply : SaslFrame) (next : ServerStage)
    (login : ServerLogin) → AnswersClientFinal (exchange_server settings version plus exchange) text answer
    → ClosesExchange settings.extra.signature version plus exchange answer reply next
    → ResponseCompletes settings (ExchangeOpen version plus exchange) text login → next ≡ UserAuthenticated login
closed_completes settings version plus exchange text (Ok message) reply next login answers closes
    (unsigned, meets, made) =
    let sends = subst (λ (signs : Bool). SendsSignature signs (exchange_login version plus exchange) message reply next)
    unsigned closes in
    sends.1 ∙ ap UserAuthenticated (sym made)
closed_completes settings version plus exchange text (Err fault) reply next login answers closes
    (unsigned, meets, made) =
    let clash = one_client_final (exchange_server settings version plus exchange) text (Err fault) (Ok meets.1.0) answers
    meets.1.1 in absurd (cc)

confirmed_completes : (shown : ServerLogin) (text : List ℕ) (reply : SaslFrame) (next : ServerStage)
    (login : ServerLogin) → ConfirmsSignature shown text reply next → text ≡ [] → login ≡ shown
    → next ≡ UserAuthenticated login
confirmed_completes shown [] reply next login is empty made = is.1 ∙ ap UserAuthenticated (sym made)
confirmed_completes shown (byte ∷ text) reply next login is empty made = absurd (cc)

response_completes : (settings : ServerSettings) (stage next : ServerStage) (text : List ℕ) (reply : SaslFrame)
    (login : ServerLogin) → ResponseAnswers settings stage text reply next → ResponseCompletes settings stage text login
    → next ≡ UserAuthenticated login
response_completes settings (ResponseAsked mechanism nonce) next text reply login is completes =
    init_completes settings mechanism NotStarted next nonce (Some text) reply login is completes
response_completes settings (ExchangeOpen version plus exchange) next text reply login (answer, answers, closes)
    completes =
    closed_completes settings version plus exchange text answer reply next login answers closes completes
response_completes settings (SignatureShown shown) next text reply login is completes =
    confirmed_completes shown text reply next login is completes.0 completes.1
response_completes settings NotStarted next text reply login is completes = absurd completes
response_completes settings (UserAuthenticated before) next text reply login is completes = absurd completes

pub lets_in : CompletedLoginsAreLetIn
lets_in server next nonce (frames.Init name response hostname) reply login (same, answers, records)
    (due, (mechanism, found, completes)) =
    let own = subst (λ (asked : Bool). InitWhere asked server.settings server.stage nonce name response reply next.stage)
    due answers in
    let of_way = subst (λ (it : Option Mechanism). MatchOption it (StageRejects server.stage reply next.stage)
    (λ mechanism. InitAnswers server.settings mechanism server.stage nonce response reply next.stage)) found own in
    init_completes server.settings mechanism server.stage next.stage nonce response reply login of_way completes
lets_in server next nonce (frames.Response text) reply login (same, answers, records) completes =
    response_completes server.settings server.stage next.stage text reply login answers completes
lets_in server next nonce (frames.Mechanisms names) reply login (same, answers, records) completes = absurd answers
lets_in server next nonce (frames.Challenge text) reply login (same, answers, records) completes = absurd answers
lets_in server next nonce (frames.Outcome code more) reply login (same, answers, records) completes = absurd answers

-- ---- signatures

-- the login of a signature that a stage shows
abbrev pub shown_at : ServerStage → Option ServerLogin
shown_at (SignatureShown login) = Some login
shown_at stage = None

pub unshown : {A : Type 0} (stage next : ServerStage) (login : ServerLogin) → next ≡ stage → shown_at stage ≡ None
    → next ≡ SignatureShown login → A
unshown stage next login is none shows =
    let no : None ≡ Some login = sym none ∙ ap shown_at (sym is ∙ shows) in absurd (cc)

asked_shows : {A : Type 0} (asks : Bool) (mechanism : Mechanism) (kept next : ServerStage) (nonce : List ℕ) (reply : SaslFrame)
    (login : ServerLogin) → AsksForResponse asks mechanism kept nonce reply next → next ≡ SignatureShown login
    → A ⊎ (next ≡ kept)
asked_shows true mechanism kept next nonce reply login is shows =
    unshown (ResponseAsked mechanism nonce) next login is.1 refl shows
asked_shows false mechanism kept next nonce reply login is shows = inr is.1

opened_shows : {A : Type 0} (version : ScramVersion) (plus : Bool) (kept next : ServerStage)
    (answer : Result (Option (List ℕ × OpenExchange)) ServerScramErrorKind) (reply : SaslFrame) (login : ServerLogin)
    → OpensScram version plus kept answer reply next → next ≡ SignatureShown login → A ⊎ (next ≡ kept)
opened_shows version plus kept next (Ok (Some opened)) reply login is shows =
    unshown (ExchangeOpen version plus opened.1) next login is.1 refl shows
opened_shows version plus kept next (Ok None) reply login is shows = inr is.1
opened_shows version plus kept next (Err fault) reply login is shows = inr is.1

init_shows : {A : Type 0} (settings : ServerSettings) (mechanism : Mechanism) (kept next : ServerStage) (nonce : List ℕ)
    (response : Option (List ℕ)) (reply : SaslFrame) (login : ServerLogin)
    → InitAnswers settings mechanism kept nonce response reply next → next ≡ SignatureShown login → A ⊎ (next ≡ kept)
init_shows settings mechanisms.Anonymous kept next nonce response reply login is shows =
    unshown (UserAuthenticated _) next login is.1 refl shows
init_shows settings mechanisms.External kept next nonce response reply login (inl is) shows =
    unshown (UserAuthenticated _) next login is.1.1 refl shows
init_shows settings mechanisms.External kept next nonce response reply login (inr is) shows = inr is.1.1
init_shows settings mechanisms.Plain kept next nonce None reply login is shows =
    asked_shows settings.extra.initial_response mechanisms.Plain kept next nonce reply login is shows
init_shows settings mechanisms.Plain kept next nonce (Some text) reply login (inl is) shows =
    unshown (UserAuthenticated _) next login is.2.1 refl shows
init_shows settings mechanisms.Plain kept next nonce (Some text) reply login (inr is) shows = inr is.1.1
init_shows settings (mechanisms.Scram version plus) kept next nonce None reply login is shows =
    asked_shows settings.extra.initial_response (mechanisms.Scram version plus) kept next nonce reply login is shows
init_shows settings (mechanisms.Scram version plus) kept next nonce (Some text) reply login (answer, begins, opens) shows =
    opened_shows version plus kept next answer reply login opens shows

-- the client-final message before a signature
abbrev ProofBefore : ServerSettings → ServerStage → SaslFrame → ServerLogin → Type 0
ProofBefore settings stage frame login = (version : ScramVersion) × (plus : Bool) × (exchange : OpenExchange)
    × (text : List ℕ) × (stage ≡ ExchangeOpen version plus exchange) × (frame ≡ frames.Response text)
    × MeetsExchange settings version plus exchange text × (login ≡ exchange_login version plus exchange)

closed_shows : (settings : ServerSettings) (signs : Bool) (version : ScramVersion) (plus : Bool)
    (exchange : OpenExchange) (text : List ℕ) (answer : Result (List ℕ) ServerScramErrorKind) (reply : SaslFrame)
    (next : ServerStage) (login : ServerLogin)
    → AnswersClientFinal (exchange_server settings version plus exchange) text answer
    → ClosesExchange signs version plus exchange answer reply next → next ≡ SignatureShown login
    → ProofBefore settings (ExchangeOpen version plus exchange) (frames.Response text) login
    ⊎ (next ≡ ExchangeOpen version plus exchange)
closed_shows settings true version plus exchange text (Ok message) reply next login answers is shows =
    let both : Some login ≡ Some (exchange_login version plus exchange) = ap shown_at (sym shows ∙ is.1) in
    inl (version, plus, exchange, text, refl, refl, (message, answers), cc)
closed_shows settings false version plus exchange text (Ok message) reply next login answers is shows =
    unshown (UserAuthenticated (exchange_login version plus exchange)) next login is.1 refl shows
closed_shows settings signing version plus exchange text (Err fault) reply next login answers is shows = inr is.1

confirmed_shows : {A : Type 0} (shown : ServerLogin) (text : List ℕ) (reply : SaslFrame) (next : ServerStage)
    (login : ServerLogin) → ConfirmsSignature shown text reply next → next ≡ SignatureShown login
    → A ⊎ (next ≡ SignatureShown shown)
confirmed_shows shown [] reply next login is shows = unshown (UserAuthenticated shown) next login is.1 refl shows
confirmed_shows shown (byte ∷ text) reply next login is shows = unshown NotStarted next login is.1 refl shows

late_shows : {A : Type 0} (stage next : ServerStage) (login : ServerLogin) → A ⊎ (next ≡ NotStarted)
    → next ≡ SignatureShown login → A ⊎ (next ≡ stage)
late_shows stage next login (inl it) shows = inl it
late_shows stage next login (inr is) shows = unshown NotStarted next login is refl shows

response_shows : (settings : ServerSettings) (stage next : ServerStage) (text : List ℕ) (reply : SaslFrame)
    (login : ServerLogin) → ResponseAnswers settings stage text reply next → next ≡ SignatureShown login
    → ProofBefore settings stage (frames.Response text) login ⊎ (next ≡ stage)
response_shows settings (ResponseAsked mechanism nonce) next text reply login is shows =
    late_shows (ResponseAsked mechanism nonce) next login
    (init_shows settings mechanism NotStarted next nonce (Some text) reply login is shows) shows
response_shows settings (ExchangeOpen version plus exchange) next text reply login (answer, answers, closes) shows =
    closed_shows settings settings.extra.signature version plus exchange text answer reply next login answers closes
    shows
response_shows settings (SignatureShown shown) next text reply login is shows =
    confirmed_shows shown text reply next login is shows
response_shows settings NotStarted next text reply login is shows = inr is.1
response_shows settings (UserAuthenticated before) next text reply login is shows = inr is.1

found_shows : {A : Type 0} (settings : ServerSettings) (stage next : ServerStage) (nonce : List ℕ)
    (response : Option (List ℕ)) (reply : SaslFrame) (login : ServerLogin) (found : Option Mechanism)
    → MatchOption found (StageRejects stage reply next)
    (λ mechanism. InitAnswers settings mechanism stage nonce response reply next) → next ≡ SignatureShown login
    → A ⊎ (next ≡ stage)
found_shows settings stage next nonce response reply login None is shows = inr is.1
found_shows settings stage next nonce response reply login (Some mechanism) is shows =
    init_shows settings mechanism stage next nonce response reply login is shows

where_shows : {A : Type 0} (settings : ServerSettings) (stage next : ServerStage) (nonce name : List ℕ)
    (response : Option (List ℕ)) (reply : SaslFrame) (login : ServerLogin) (asked : Bool)
    → InitWhere asked settings stage nonce name response reply next → next ≡ SignatureShown login → A ⊎ (next ≡ stage)
where_shows settings stage next nonce name response reply login true is shows =
    unshown NotStarted next login is.1 refl shows
where_shows settings stage next nonce name response reply login false is shows =
    found_shows settings stage next nonce response reply login (asked_mechanism settings name) is shows

pub follows_proof : SignaturesFollowProofs
follows_proof server next nonce (frames.Init name response hostname) reply login (same, answers, records) shows =
    where_shows server.settings server.stage next.stage nonce name response reply login
    (is_response_asked server.stage) answers shows
follows_proof server next nonce (frames.Response text) reply login (same, answers, records) shows =
    response_shows server.settings server.stage next.stage text reply login answers shows
follows_proof server next nonce (frames.Mechanisms names) reply login (same, answers, records) shows = absurd answers
follows_proof server next nonce (frames.Challenge text) reply login (same, answers, records) shows = absurd answers
follows_proof server next nonce (frames.Outcome code more) reply login (same, answers, records) shows = absurd answers
