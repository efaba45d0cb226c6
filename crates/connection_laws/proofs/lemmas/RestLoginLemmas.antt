-- The responses that complete a login from a stage on, and what a challenge leaves of them.
use Rattle.std.proofs.Common.{◌≡◌, ◌∙◌, ℕ, Bool, true, false, Option, Some, None, List, [], ◌∷◌, Result, Ok, Err, ap, sym, subst, refl, inl, inr}
use Rattle.fe2o3_sasl_wire.specs.SaslFrames as frames
use Rattle.fe2o3_sasl_wire.specs.SaslFrames.{SaslFrame}
use Rattle.fe2o3_sasl_wire.specs.declared.amqp_types.SaslCode.{SaslCode}
use Rattle.fe2o3_scram.specs.ScramServer.{BeginsExchange}
use Rattle.fe2o3_scram.specs.ServerFinal.{AnswersClientFinal}
use Rattle.fe2o3_scram.specs.ServerFirst.{OpenExchange}
use Rattle.fe2o3_scram.specs.declared.hmac.ScramVersion.{ScramVersion}
use Rattle.fe2o3_scram.specs.declared.scram_messages.error.ServerScramErrorKind.{ServerScramErrorKind}
use Rattle.fe2o3_sasl_core.specs.Servers.{AsksForResponse, ClosesExchange, ConfirmsSignature, ExchangeOpen, InitAnswers, NotStarted, OpensScram, ResponseAnswers, ResponseAsked, ServerLogin, ServerSettings, ServerStage, SignatureShown, UserAuthenticated, exchange_login, exchange_server, provider_by}
use Rattle.fe2o3_sasl_core.specs.declared.mechanism.Mechanism.{Mechanism}
use Rattle.fe2o3_sasl_core.specs.declared.mechanism.Mechanism.TheVariants as mechanisms
use Rattle.connection_laws.specs.ConnectionLogins.{MessagesLogIn, ScramMessages, confirmation}
use Rattle.connection_laws.specs.ServerLogins.{InitCompletes, MeetsExchange, ResponseCompletes}
use Rattle.connection_laws.proofs.lemmas.ServerFunctionLemmas.{one_opened}

-- ---- from a stage on

-- the responses of an init that was asked for its initial response
abbrev pub AskedLogsIn : ServerSettings → Mechanism → List ℕ → List (List ℕ) → ServerLogin → Type 0
AskedLogsIn settings (mechanisms.Scram version plus) nonce texts login =
    ScramMessages settings version plus nonce texts login
AskedLogsIn settings mechanism nonce texts login =
    (text : List ℕ) × (texts ≡ text ∷ []) × InitCompletes settings mechanism (Some text) login

-- the responses of an open exchange
abbrev pub OpenLogsIn : ServerSettings → ScramVersion → Bool → OpenExchange → List (List ℕ) → ServerLogin → Type 0
OpenLogsIn settings version plus exchange texts login = (final : List ℕ)
    × (texts ≡ final ∷ confirmation settings.extra.signature) × MeetsExchange settings version plus exchange final
    × (login ≡ exchange_login version plus exchange)

-- the responses that complete a login from this stage on
abbrev pub RestLogsIn : ServerSettings → ServerStage → List (List ℕ) → ServerLogin → Type 0
RestLogsIn settings (ResponseAsked mechanism nonce) texts login = AskedLogsIn settings mechanism nonce texts login
RestLogsIn settings (ExchangeOpen version plus exchange) texts login =
    OpenLogsIn settings version plus exchange texts login
RestLogsIn settings (SignatureShown shown) texts login = (texts ≡ [] ∷ []) × (login ≡ shown)
RestLogsIn settings stage texts login = ⊥

-- ---- lists of messages

one_text : (text other : List ℕ) → ◌≡◌ {A = List (List ℕ)} (text ∷ []) (other ∷ []) → other ≡ text
one_text text other same = cc

one_is_two : {A : Type 0} (text first second : List ℕ) (texts : List (List ℕ))
    → ◌≡◌ {A = List (List ℕ)} (text ∷ []) (first ∷ second ∷ texts) → A
one_is_two text first second texts same = absurd (cc)

-- a client-final message with no confirmation, and one with some
unconfirmed : (signs : Bool) (text final : List ℕ) → ◌≡◌ {A = List (List ℕ)} (text ∷ []) (final ∷ confirmation signs)
    → (signs ≡ false) × (final ≡ text)
unconfirmed true text final same = absurd (cc)
unconfirmed false text final same = (refl, cc)

-- ---- the last response

pub last_rests : (settings : ServerSettings) (stage : ServerStage) (text : List ℕ) (login : ServerLogin)
    → ResponseCompletes settings stage text login → RestLogsIn settings stage (text ∷ []) login
last_rests settings (ResponseAsked mechanisms.Plain nonce) text login completes = (text, refl, completes)
last_rests settings (ResponseAsked mechanisms.Anonymous nonce) text login completes = (text, refl, completes)
last_rests settings (ResponseAsked mechanisms.External nonce) text login completes = (text, refl, completes)
last_rests settings (ResponseAsked (mechanisms.Scram version plus) nonce) text login completes = absurd completes
last_rests settings (ExchangeOpen version plus exchange) text login (unsigned, meets, made) =
    (text, ap (λ (signs : Bool). text ∷ confirmation signs) (sym unsigned), meets, made)
last_rests settings (SignatureShown shown) text login (empty, made) =
    (ap (λ (t : List ℕ). t ∷ []) empty, made)
last_rests settings NotStarted text login completes = absurd completes
last_rests settings (UserAuthenticated before) text login completes = absurd completes

asked_last : (settings : ServerSettings) (mechanism : Mechanism) (text : List ℕ) (login : ServerLogin)
    → ((other : List ℕ) × (◌≡◌ {A = List (List ℕ)} (text ∷ []) (other ∷ []))
    × InitCompletes settings mechanism (Some other) login) → InitCompletes settings mechanism (Some text) login
asked_last settings mechanism text login (other, same, completes) =
    subst (λ (t : List ℕ). InitCompletes settings mechanism (Some t) login) (one_text text other same) completes

pub rests_last : (settings : ServerSettings) (stage : ServerStage) (text : List ℕ) (login : ServerLogin)
    → RestLogsIn settings stage (text ∷ []) login → ResponseCompletes settings stage text login
rests_last settings (ResponseAsked mechanisms.Plain nonce) text login rest = asked_last settings mechanisms.Plain text login rest
rests_last settings (ResponseAsked mechanisms.Anonymous nonce) text login rest =
    asked_last settings mechanisms.Anonymous text login rest
rests_last settings (ResponseAsked mechanisms.External nonce) text login rest =
    asked_last settings mechanisms.External text login rest
rests_last settings (ResponseAsked (mechanisms.Scram version plus) nonce) text login rest =
    one_is_two text rest.first rest.final (confirmation settings.extra.signature) rest.all
rests_last settings (ExchangeOpen version plus exchange) text login (final, same, meets, made) =
    let (unsigned, is) = unconfirmed settings.extra.signature text final same in
    (unsigned, subst (λ (t : List ℕ). MeetsExchange settings version plus exchange t) is meets, made)
rests_last settings (SignatureShown shown) text login (same, made) = ((let it : text ≡ [] = cc in it), made)
rests_last settings NotStarted text login rest = absurd rest
rests_last settings (UserAuthenticated before) text login rest = absurd rest

-- ---- replies

-- the reply is a challenge
abbrev pub IsChallenged : SaslFrame → Type 0
IsChallenged reply = (text : List ℕ) × (reply ≡ frames.Challenge text)

pub not_outcome : {A : Type 0} (reply : SaslFrame) (code : SaslCode) (more : Option (List ℕ)) → IsChallenged reply
    → reply ≡ frames.Outcome code more → A
not_outcome reply code more (text, is) other =
    let no : ◌≡◌ {A = SaslFrame} (frames.Challenge text) (frames.Outcome code more) = sym is ∙ other in absurd (cc)

-- ---- a challenge to an init

-- after a challenge to an init of this mechanism, the responses complete a login exactly if its messages do
module _ (settings : ServerSettings) (kept next : ServerStage) (nonce : List ℕ) (reply : SaslFrame)
    (challenged : IsChallenged reply) (texts : List (List ℕ)) (login : ServerLogin) where
  opens_rest : (version : ScramVersion) (plus : Bool) (first : List ℕ)
      (answer : Result (Option (List ℕ × OpenExchange)) ServerScramErrorKind)
      → BeginsExchange (provider_by settings version plus) nonce first answer
      → OpensScram version plus kept answer reply next → RestLogsIn settings next texts login
      → ScramMessages settings version plus nonce (first ∷ texts) login
  opens_rest version plus first (Ok (Some opened)) begins opens rest =
      let (final, is, meets, made) = subst (λ (s : ServerStage). RestLogsIn settings s texts login) opens.1 rest in
      record {
        first = first;
        final = final;
        opened = opened;
        all = ap (λ (l : List (List ℕ)). first ∷ l) is;
        begins = begins;
        meets = meets;
        made = made;
      }
  opens_rest version plus first (Ok None) begins opens rest = not_outcome reply _ _ challenged opens.0
  opens_rest version plus first (Err fault) begins opens rest = not_outcome reply _ _ challenged opens.0

  rest_opens : (version : ScramVersion) (plus : Bool) (first : List ℕ)
      (answer : Result (Option (List ℕ × OpenExchange)) ServerScramErrorKind)
      → BeginsExchange (provider_by settings version plus) nonce first answer
      → OpensScram version plus kept answer reply next
      → ScramMessages settings version plus nonce (first ∷ texts) login → RestLogsIn settings next texts login
  rest_opens version plus first answer begins opens scram =
      let same : scram.first ≡ first = let all = scram.all in cc in
      let rest : texts ≡ scram.final ∷ confirmation settings.extra.signature = let all = scram.all in cc in
      let again = subst (λ (t : List ℕ). BeginsExchange (provider_by settings version plus) nonce t
      (Ok (Some scram.opened))) same scram.begins in
      let one = one_opened (provider_by settings version plus) version plus kept next
      (ExchangeOpen version plus scram.opened.1) nonce first answer (Ok (Some scram.opened)) reply
      (frames.Challenge scram.opened.0) begins opens again (refl, refl) in
      subst (λ (s : ServerStage). RestLogsIn settings s texts login) (sym one.1)
      (scram.final, rest, scram.meets, scram.made)

  asks_rest : (asks : Bool) (mechanism : Mechanism) → AsksForResponse asks mechanism kept nonce reply next
      → (asks ≡ true) × (next ≡ ResponseAsked mechanism nonce)
  asks_rest true mechanism is = (refl, is.1)
  asks_rest false mechanism is = not_outcome reply _ _ challenged is.0

  pub init_rest : (mechanism : Mechanism) (response : Option (List ℕ))
      → InitAnswers settings mechanism kept nonce response reply next
      → RestLogsIn settings next texts login → MessagesLogIn settings mechanism nonce response texts login
  init_rest mechanisms.Anonymous response is rest = not_outcome reply _ _ challenged is.0
  init_rest mechanisms.External response (inl is) rest = not_outcome reply _ _ challenged is.1.0
  init_rest mechanisms.External response (inr is) rest = not_outcome reply _ _ challenged is.1.0
  init_rest mechanisms.Plain None is rest =
      let (asks, at) = asks_rest settings.extra.initial_response mechanisms.Plain is in
      let (text, one, completes) = subst (λ (s : ServerStage). RestLogsIn settings s texts login) at rest in
      (text, (asks, sym one), completes)
  init_rest mechanisms.Plain (Some text) (inl is) rest = not_outcome reply _ _ challenged is.2.0
  init_rest mechanisms.Plain (Some text) (inr is) rest = not_outcome reply _ _ challenged is.1.0
  init_rest (mechanisms.Scram version plus) None is rest =
      let (asks, at) = asks_rest settings.extra.initial_response (mechanisms.Scram version plus) is in
      (texts, (asks, refl), subst (λ (s : ServerStage). RestLogsIn settings s texts login) at rest)
  init_rest (mechanisms.Scram version plus) (Some first) (answer, begins, opens) rest =
      (first ∷ texts, refl, opens_rest version plus first answer begins opens rest)

  pub rest_init : (mechanism : Mechanism) (response : Option (List ℕ))
      → InitAnswers settings mechanism kept nonce response reply next
      → MessagesLogIn settings mechanism nonce response texts login → RestLogsIn settings next texts login
  rest_init mechanisms.Anonymous response is messages = not_outcome reply _ _ challenged is.0
  rest_init mechanisms.External response (inl is) messages = not_outcome reply _ _ challenged is.1.0
  rest_init mechanisms.External response (inr is) messages = not_outcome reply _ _ challenged is.1.0
  rest_init mechanisms.Plain None is (text, (asks, one), completes) =
      let at = (asks_rest settings.extra.initial_response mechanisms.Plain is).1 in
      subst (λ (s : ServerStage). RestLogsIn settings s texts login) (sym at) (text, sym one, completes)
  rest_init mechanisms.Plain (Some text) (inl is) messages = not_outcome reply _ _ challenged is.2.0
  rest_init mechanisms.Plain (Some text) (inr is) messages = not_outcome reply _ _ challenged is.1.0
  rest_init (mechanisms.Scram version plus) None is (messages, (asks, one), scram) =
      let at = (asks_rest settings.extra.initial_response (mechanisms.Scram version plus) is).1 in
      subst (λ (s : ServerStage). RestLogsIn settings s texts login) (sym at)
      (subst (λ (l : List (List ℕ)). ScramMessages settings version plus nonce l login) one scram)
  rest_init (mechanisms.Scram version plus) (Some first) (answer, begins, opens) (messages, one, scram) =
      rest_opens version plus first answer begins opens
      (subst (λ (l : List (List ℕ)). ScramMessages settings version plus nonce l login) one scram)

-- ---- a challenge to a response

-- after a challenge to a response, the later responses complete a login exactly if this one and they do
module _ (settings : ServerSettings) (next : ServerStage) (text : List ℕ) (reply : SaslFrame)
    (challenged : IsChallenged reply) (texts : List (List ℕ)) (login : ServerLogin) where
  closes_rest : (signs : Bool) (version : ScramVersion) (plus : Bool) (exchange : OpenExchange)
      (answer : Result (List ℕ) ServerScramErrorKind) → signs ≡ settings.extra.signature
      → AnswersClientFinal (exchange_server settings version plus exchange) text answer
      → ClosesExchange signs version plus exchange answer reply next → RestLogsIn settings next texts login
      → OpenLogsIn settings version plus exchange (text ∷ texts) login
  closes_rest true version plus exchange (Ok message) signs answers closes rest =
      let (is, made) = subst (λ (s : ServerStage). RestLogsIn settings s texts login) closes.1 rest in (
        text,
        ap (λ (l : List (List ℕ)). text ∷ l) (is ∙ ap confirmation signs),
        (message, answers),
        made,
      )
  closes_rest false version plus exchange (Ok message) signs answers closes rest =
      not_outcome reply _ _ challenged closes.0
  closes_rest signing version plus exchange (Err fault) signs answers closes rest =
      not_outcome reply _ _ challenged closes.0

  rest_closes : (signs : Bool) (version : ScramVersion) (plus : Bool) (exchange : OpenExchange)
      (answer : Result (List ℕ) ServerScramErrorKind) → signs ≡ settings.extra.signature
      → ClosesExchange signs version plus exchange answer reply next
      → OpenLogsIn settings version plus exchange (text ∷ texts) login → RestLogsIn settings next texts login
  rest_closes true version plus exchange (Ok message) signs closes (final, is, meets, made) =
      let tail : texts ≡ confirmation settings.extra.signature = cc in
      subst (λ (s : ServerStage). RestLogsIn settings s texts login) (sym closes.1)
      (tail ∙ ap confirmation (sym signs), made)
  rest_closes false version plus exchange (Ok message) signs closes rest = not_outcome reply _ _ challenged closes.0
  rest_closes signing version plus exchange (Err fault) signs closes rest =
      not_outcome reply _ _ challenged closes.0

  confirms_none : {A : Type 0} (shown : ServerLogin) (said : List ℕ) → ConfirmsSignature shown said reply next → A
  confirms_none shown [] is = not_outcome reply _ _ challenged is.0
  confirms_none shown (byte ∷ said) is = not_outcome reply _ _ challenged is.0

  pub response_rest : (stage : ServerStage) → ResponseAnswers settings stage text reply next
      → RestLogsIn settings next texts login → RestLogsIn settings stage (text ∷ texts) login
  response_rest (ResponseAsked mechanisms.Anonymous nonce) is rest = not_outcome reply _ _ challenged is.0
  response_rest (ResponseAsked mechanisms.External nonce) (inl is) rest = not_outcome reply _ _ challenged is.1.0
  response_rest (ResponseAsked mechanisms.External nonce) (inr is) rest = not_outcome reply _ _ challenged is.1.0
  response_rest (ResponseAsked mechanisms.Plain nonce) (inl is) rest = not_outcome reply _ _ challenged is.2.0
  response_rest (ResponseAsked mechanisms.Plain nonce) (inr is) rest = not_outcome reply _ _ challenged is.1.0
  response_rest (ResponseAsked (mechanisms.Scram version plus) nonce) (answer, begins, opens) rest =
      opens_rest settings NotStarted next nonce reply challenged texts login version plus text answer begins opens rest
  response_rest (ExchangeOpen version plus exchange) (answer, answers, closes) rest =
      closes_rest settings.extra.signature version plus exchange answer refl answers closes rest
  response_rest (SignatureShown shown) is rest = confirms_none shown text is
  response_rest NotStarted is rest = not_outcome reply _ _ challenged is.0
  response_rest (UserAuthenticated before) is rest = not_outcome reply _ _ challenged is.0

  pub rest_response : (stage : ServerStage) → ResponseAnswers settings stage text reply next
      → RestLogsIn settings stage (text ∷ texts) login → RestLogsIn settings next texts login
  rest_response (ResponseAsked mechanisms.Anonymous nonce) is rest = not_outcome reply _ _ challenged is.0
  rest_response (ResponseAsked mechanisms.External nonce) (inl is) rest = not_outcome reply _ _ challenged is.1.0
  rest_response (ResponseAsked mechanisms.External nonce) (inr is) rest = not_outcome reply _ _ challenged is.1.0
  rest_response (ResponseAsked mechanisms.Plain nonce) (inl is) rest = not_outcome reply _ _ challenged is.2.0
  rest_response (ResponseAsked mechanisms.Plain nonce) (inr is) rest = not_outcome reply _ _ challenged is.1.0
  rest_response (ResponseAsked (mechanisms.Scram version plus) nonce) (answer, begins, opens) rest =
      rest_opens settings NotStarted next nonce reply challenged texts login version plus text answer begins opens rest
  rest_response (ExchangeOpen version plus exchange) (answer, answers, closes) rest =
      rest_closes settings.extra.signature version plus exchange answer refl closes rest
  rest_response (SignatureShown shown) is rest = confirms_none shown text is
  rest_response NotStarted is rest = not_outcome reply _ _ challenged is.0
  rest_response (UserAuthenticated before) is rest = not_outcome reply _ _ challenged is.0
