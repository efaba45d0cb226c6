-- The logins of a connection of a server of all mechanisms: `servers_have_login_exactly` and
-- `servers_authenticate_exactly`.
use Rattle.std.proofs.Common.{◌≡◌, ◌∙◌, ◌+◌, ℕ, true, Option, Some, None, List, [], ◌∷◌, length, ap, sym, subst, refl, inl, inr, Ok}
use Rattle.std.specs.Prelude.{MatchOption}
use Rattle.fe2o3_sasl_wire.specs.SaslFrames as frames
use Rattle.fe2o3_sasl_wire.specs.SaslFrames.{SaslFrame, canonical}
use Rattle.fe2o3_sasl_wire.specs.declared.amqp_types.SaslCode.TheVariants as outcomes
use Rattle.fe2o3_sasl_wire.specs.declared.sasl_frames.error.Error.TheVariants as faults
use Rattle.fe2o3_sasl_core.specs.Bodies.{SpellsBody, server_says}
use Rattle.fe2o3_sasl_core.specs.Events.{Given, ServerSays, Challenged, Concluded, Failed}
use Rattle.fe2o3_sasl_core.specs.Runs.{SendsCanonical}
use Rattle.fe2o3_sasl_core.specs.SaslAcceptor.{ends_with}
use Rattle.fe2o3_sasl_core.specs.Mechanisms.{mechanism_symbol}
use Rattle.fe2o3_sasl_core.specs.Servers.{ExchangeOpen, InitAnswers, NotStarted, ResponseAsked, ServerAt, ServerLogin, ServerSettings, ServerStage, SignatureShown, StageRejects, UserAuthenticated, asked_mechanism, is_offered_by, logged_in_at, sasl_machine}
use Rattle.fe2o3_sasl_core.specs.declared.mechanism.Mechanism.{Mechanism}
use Rattle.fe2o3_sasl_core.specs.declared.mechanism.Mechanism.TheVariants as mechanisms
use Rattle.fe2o3_sasl_core.proofs.lemmas.frames.SpellingLemmas.{sent}
use Rattle.fe2o3_sasl_negotiation.specs.declared.progress.FrameKind.TheVariants as turns
use Rattle.fe2o3_sasl_negotiation.specs.Connections.{Piece, AreFrames, LastReply, IsOkSent}
use Rattle.fe2o3_sasl_negotiation.specs.ServerNegotiation.{server_follows}
use Rattle.fe2o3_sasl_negotiation.proofs.lemmas.LoginLemmas.{servers_log_in}
use Rattle.connection_laws.specs.Servers.{ServerBy}
use Rattle.connection_laws.specs.ConnectionLogins.{AreResponses, CompletesLogin, MessagesLogIn, ServersAuthenticateExactly, ServersHaveLoginExactly, new_server}
use Rattle.connection_laws.specs.ServerLogins.{FrameCompletes, InitCompletes}
use Rattle.connection_laws.proofs.lemmas.RestLoginLemmas.{IsChallenged, RestLogsIn, init_rest, last_rests, response_rest, rest_init, rest_response, rests_last}
use Rattle.connection_laws.proofs.lemmas.ServedLemmas.{Served, Stepped, init_of, init_step, last_later, later_last, response_step, sent_no_ok, sent_outcome, served, served_some}
use Rattle.connection_laws.proofs.lemmas.ServerLemmas.{response_of}
use Rattle.connection_laws.proofs.lemmas.ServerLoginLemmas.{lets_in, only_lets_in}
use Rattle.connection_laws.proofs.lemmas.ServerStepLemmas.{Kind, challenge, challenge_has_memory, machine_kind}
use Rattle.fe2o3_sasl_core.proofs.lemmas.machines.MechanismLemmas.{asked_offers, offered_asked}

-- no login is at two stages that are one
pub no_login : {A : Type 0} (stage : ServerStage) (login : ServerLogin) → logged_in_at stage ≡ None
    → logged_in_at stage ≡ Some login → A
no_login stage login none some = let no : None ≡ Some login = sym none ∙ some in absurd (cc)

-- ---- steps

-- a login after a last step was completed by its frame
last_completes : (server last : ServerAt) (nonce : List ℕ) (frame : SaslFrame) (says : ServerSays) (login : ServerLogin)
    → logged_in_at server.stage ≡ None → logged_in_at last.stage ≡ Some login
    → Stepped sasl_machine server last nonce frame says → FrameCompletes server.settings server.stage frame login
last_completes server last nonce frame says login none some stepped =
    elim (sent (Failed faults.TooLarge) (server_says stepped.reply) (canonical stepped.reply) server stepped.moved says last
    stepped.sends).1 [
      | inl (large, is) ↦
          no_login server.stage login none (sym (ap (λ (s : ServerAt). logged_in_at s.stage) is) ∙ some)
      | inr (bytes, is, at) ↦
          elim (only_lets_in server last nonce frame stepped.reply login
          (subst (λ (s : ServerAt). sasl_machine server nonce frame stepped.reply s) (sym at) stepped.by) some) [
            | inl completes ↦ completes
            | inr same ↦ no_login last.stage login (ap logged_in_at same ∙ none) some
          ]
    ]

-- a last step that completes a login is sent as an Ok, and has that login
pub record LetIn (last : ServerAt) (says : ServerSays) (login : ServerLogin) : Type 0 where
  pub ok : IsOkSent says
  pub at : logged_in_at last.stage ≡ Some login

let_in : (server last : ServerAt) (nonce : List ℕ) (frame : SaslFrame) (says : ServerSays) (login : ServerLogin)
    → logged_in_at server.stage ≡ None → FrameCompletes server.settings server.stage frame login
    → Stepped sasl_machine server last nonce frame says → LetIn last says login
let_in server last nonce frame says login none completes stepped =
    go (machine_kind server stepped.moved nonce frame stepped.reply stepped.by)
  where
    moved : logged_in_at stepped.moved.stage ≡ Some login
    moved = ap logged_in_at (lets_in server stepped.moved nonce frame stepped.reply login stepped.by completes)

    go : Kind server.stage stepped.reply stepped.moved.stage → LetIn last says login
    go (inl waits) = no_login stepped.moved.stage login waits.1 moved
    go (inr (inl (auth, inl kept))) = no_login stepped.moved.stage login (ap logged_in_at kept ∙ none) moved
    go (inr (inl (auth, inr start))) = no_login stepped.moved.stage login (ap logged_in_at start) moved
    go (inr (inr ((more, is, fits), who))) =
        let (ok, at) = sent_outcome stepped.reply outcomes.Ok more server stepped.moved last says is fits stepped.sends in
        record { ok = ok; at = ap (λ (s : ServerAt). logged_in_at s.stage) at ∙ moved }

-- ---- responses

-- a served run of responses that ends with a login completes it
responses_rest : (pieces : List Piece) (limit at : ℕ) (server : ServerAt) (events : List Given)
    (replies : List ServerSays) (last : ServerAt) (login : ServerLogin)
    → AreFrames pieces limit at server_follows turns.Response events → Served sasl_machine server events replies last
    → logged_in_at server.stage ≡ None → logged_in_at last.stage ≡ Some login
    → (texts : List (List ℕ)) × AreResponses events texts × RestLogsIn server.settings server.stage texts login
responses_rest pieces limit at server [] replies last login are run none some =
    no_login server.stage login none (sym (ap (λ (s : ServerAt). logged_in_at s.stage) run.1) ∙ some)
responses_rest pieces limit at server (event ∷ []) replies last login are (says, memory, all, step) none some =
    let (text, spells) = response_of event.body are.1 in
    let stepped = response_step sasl_machine server last event says text spells memory step in (
      text ∷ [],
      (text, [], refl, spells, refl),
      last_rests server.settings server.stage text login
          (last_completes server last event.nonce (frames.Response text) says login none some stepped),
    )
responses_rest pieces limit at server (event ∷ second ∷ events) replies last login are
    (body, next, others, all, step, run) none some =
    let (text, spells) = response_of event.body are.1 in
    let c = challenge server next event.nonce (frames.Response text) body
    (response_step sasl_machine server next event (Challenged body) text spells (challenge_has_memory body) step) in
    let (texts, more, rest) = responses_rest pieces limit (at + (length event.body + 4)) next (second ∷ events) others last
    login are.3 run c.waits some in (
      text ∷ texts,
      (text, texts, refl, spells, more),
      response_rest server.settings next.stage text c.reply c.is texts login server.stage c.by.1
          (subst (λ (s : ServerSettings). RestLogsIn s next.stage texts login) c.by.0 rest),
    )

no_rest : {A : Type 0} (settings : ServerSettings) (stage : ServerStage) (login : ServerLogin)
    → RestLogsIn settings stage [] login → A
no_rest settings (ResponseAsked (mechanisms.Scram version plus) nonce) login rest = let no = rest.all in absurd (cc)
no_rest settings (ResponseAsked mechanisms.Plain nonce) login rest = let no = rest.1 in absurd (cc)
no_rest settings (ResponseAsked mechanisms.Anonymous nonce) login rest = let no = rest.1 in absurd (cc)
no_rest settings (ResponseAsked mechanisms.External nonce) login rest = let no = rest.1 in absurd (cc)
no_rest settings (ExchangeOpen version plus exchange) login rest = let no = rest.1 in absurd (cc)
no_rest settings (SignatureShown shown) login rest = let no = rest.0 in absurd (cc)
no_rest settings NotStarted login rest = absurd rest
no_rest settings (UserAuthenticated before) login rest = absurd rest

-- the last reply is an Ok that was sent, and the server has this login
abbrev Ends : List ServerSays → ServerAt → ServerLogin → Type 0
Ends replies last login = LastReply IsOkSent replies × (logged_in_at last.stage ≡ Some login)

ends_by : (replies : List ServerSays) (last : ServerAt) (says : ServerSays) (login : ServerLogin) → replies ≡ says ∷ []
    → LetIn last says login → Ends replies last login
ends_by replies last says login all it =
    (subst (λ (l : List ServerSays). LastReply IsOkSent l) (sym all) it.ok, it.at)

-- a served run of responses that complete a login ends with it
rest_responses : (server : ServerAt) (events : List Given) (replies : List ServerSays) (last : ServerAt)
    (texts : List (List ℕ)) (login : ServerLogin) → AreResponses events texts
    → Served sasl_machine server events replies last → logged_in_at server.stage ≡ None
    → RestLogsIn server.settings server.stage texts login → Ends replies last login
rest_responses server [] replies last texts login none_left run none rest =
    no_rest server.settings server.stage login
    (subst (λ (l : List (List ℕ)). RestLogsIn server.settings server.stage l login) none_left rest)
rest_responses server (event ∷ []) replies last texts login (text, more, is, spells, empty) (says, memory, all, step) none
    rest =
    let one : texts ≡ text ∷ [] = is ∙ ap (λ (l : List (List ℕ)). text ∷ l) empty in
    let completes = rests_last server.settings server.stage text login
    (subst (λ (l : List (List ℕ)). RestLogsIn server.settings server.stage l login) one rest) in
    ends_by replies last says login all (let_in server last event.nonce (frames.Response text) says login none completes
    (response_step sasl_machine server last event says text spells memory step))
rest_responses server (event ∷ second ∷ events) replies last texts login (text, more, is, spells, are)
    (body, next, others, all, step, run) none rest =
    let c = challenge server next event.nonce (frames.Response text) body
    (response_step sasl_machine server next event (Challenged body) text spells (challenge_has_memory body) step) in
    let later = rest_response server.settings next.stage text c.reply c.is more login server.stage c.by.1
    (subst (λ (l : List (List ℕ)). RestLogsIn server.settings server.stage l login) is rest) in
    let ends = rest_responses next (second ∷ events) others last more login are run c.waits
    (subst (λ (s : ServerSettings). RestLogsIn s next.stage more login) (sym c.by.0) later) in (
      later_last IsOkSent (Challenged body) replies others all
          (served_some sasl_machine next last second events others run) ends.0,
      ends.1,
    )

-- ---- an init

-- an init that completes a login, and what its messages are
init_last : (settings : ServerSettings) (mechanism : Mechanism) (nonce : List ℕ) (response : Option (List ℕ))
    (login : ServerLogin)
    → InitCompletes settings mechanism response login → MessagesLogIn settings mechanism nonce response [] login
init_last settings mechanisms.Anonymous nonce response login completes = (refl, completes)
init_last settings mechanisms.External nonce response login completes = (refl, completes)
init_last settings mechanisms.Plain nonce None login completes = absurd completes
init_last settings mechanisms.Plain nonce (Some text) login completes = (text, refl, completes)
init_last settings (mechanisms.Scram version plus) nonce response login completes = absurd completes

last_init : (settings : ServerSettings) (mechanism : Mechanism) (nonce : List ℕ) (response : Option (List ℕ))
    (login : ServerLogin)
    → MessagesLogIn settings mechanism nonce response [] login → InitCompletes settings mechanism response login
last_init settings mechanisms.Anonymous nonce response login messages = messages.1
last_init settings mechanisms.External nonce response login messages = messages.1
last_init settings mechanisms.Plain nonce None login (text, (asks, is), completes) = absurd (cc)
last_init settings mechanisms.Plain nonce (Some said) login (text, is, completes) =
    let same : text ≡ said = cc in
    subst (λ (t : List ℕ). InitCompletes settings mechanisms.Plain (Some t) login) same completes
last_init settings (mechanisms.Scram version plus) nonce None login (messages, (asks, is), scram) =
    let no = sym is ∙ scram.all in absurd (cc)
last_init settings (mechanisms.Scram version plus) nonce (Some said) login (messages, is, scram) =
    let no = sym is ∙ scram.all in absurd (cc)

-- the answers to an init whose mechanism is found
abbrev pub FoundAnswers : Option Mechanism → ServerSettings → List ℕ → Option (List ℕ) → SaslFrame → ServerStage → Type 0
FoundAnswers found settings nonce response reply next = MatchOption found (StageRejects NotStarted reply next)
    (λ mechanism. InitAnswers settings mechanism NotStarted nonce response reply next)

pub found_mechanism : (found : Option Mechanism) (settings : ServerSettings) (nonce : List ℕ) (response : Option (List ℕ))
    (reply : SaslFrame) (next : ServerStage) → IsChallenged reply
    → FoundAnswers found settings nonce response reply next
    → (mechanism : Mechanism) × (found ≡ Some mechanism) × InitAnswers settings mechanism NotStarted nonce response reply next
found_mechanism None settings nonce response reply next (text, is) answers =
    let no : ◌≡◌ {A = SaslFrame} (frames.Challenge text) (ends_with outcomes.Auth) = sym is ∙ answers.0 in absurd (cc)
found_mechanism (Some mechanism) settings nonce response reply next challenged answers = (mechanism, refl, answers)

-- a served run that ends with a login has all its frames
logins_of : (pieces : List Piece) (limit : ℕ) (settings : ServerSettings) (events : List Given)
    (replies : List ServerSays) (last : ServerAt) (login : ServerLogin)
    → AreFrames pieces limit 8 server_follows turns.Init events
    → Served sasl_machine (new_server settings) events replies last → logged_in_at last.stage ≡ Some login
    → CompletesLogin settings events login
logins_of pieces limit settings [] replies last login are run some =
    no_login NotStarted login refl (sym (ap (λ (s : ServerAt). logged_in_at s.stage) run.1) ∙ some)
logins_of pieces limit settings (event ∷ []) replies last login are (says, memory, all, step) some =
    let (name, response, hostname, spells) = init_of event.body are.1 in
    let (due, (mechanism, found, completes)) = last_completes (new_server settings) last event.nonce
    (frames.Init name response hostname) says login refl some
    (init_step sasl_machine (new_server settings) last event says name response hostname spells memory step) in
    let (named, offered) = asked_offers settings name mechanism found in
    record {
      init = event;
      later = [];
      mechanism = mechanism;
      response = response;
      hostname = hostname;
      texts = [];
      all = refl;
      begins = subst (λ (n : List ℕ). SpellsBody event.body (Ok (frames.Init n response hostname))) named spells;
      offered = offered;
      goes_on = refl;
      completes = init_last settings mechanism event.nonce response login completes;
    }
logins_of pieces limit settings (event ∷ second ∷ events) replies last login are (body, next, others, all, step, run) some =
    let (name, response, hostname, spells) = init_of event.body are.1 in
    let c = challenge (new_server settings) next event.nonce (frames.Init name response hostname) body
    (init_step sasl_machine (new_server settings) next event (Challenged body) name response hostname spells
    (challenge_has_memory body) step) in
    let (mechanism, found, answers) = found_mechanism
    (asked_mechanism settings name) settings event.nonce response c.reply next.stage c.is
    c.by.1 in
    let (named, offered) = asked_offers settings name mechanism found in
    let (texts, more, rest) = responses_rest pieces limit (8 + (length event.body + 4)) next (second ∷ events) others last
    login are.3 run c.waits some in
    record {
      init = event;
      later = second ∷ events;
      mechanism = mechanism;
      response = response;
      hostname = hostname;
      texts = texts;
      all = refl;
      begins = subst (λ (n : List ℕ). SpellsBody event.body (Ok (frames.Init n response hostname))) named spells;
      offered = offered;
      goes_on = more;
      completes = init_rest settings NotStarted next.stage event.nonce c.reply c.is texts login mechanism response answers
          (subst (λ (s : ServerSettings). RestLogsIn s next.stage texts login) c.by.0 rest);
    }

-- a served run whose frames complete a login ends with it
ends_with_login : (settings : ServerSettings) (init : Given) (later : List Given) (mechanism : Mechanism)
    (response hostname : Option (List ℕ)) (texts : List (List ℕ)) (replies : List ServerSays) (last : ServerAt)
    (login : ServerLogin) → SpellsBody init.body (Ok (frames.Init (mechanism_symbol mechanism) response hostname))
    → is_offered_by settings mechanism ≡ true → AreResponses later texts
    → MessagesLogIn settings mechanism init.nonce response texts login
    → Served sasl_machine (new_server settings) (init ∷ later) replies last → Ends replies last login
ends_with_login settings init [] mechanism response hostname texts replies last login spells offered are messages
    (says, memory, all, step) =
    let completes = last_init settings mechanism init.nonce response login
    (subst (λ (l : List (List ℕ)). MessagesLogIn settings mechanism init.nonce response l login) are messages) in
    ends_by replies last says login all
    (let_in (new_server settings) last init.nonce (frames.Init (mechanism_symbol mechanism) response hostname) says login refl
    (refl, (mechanism, offered_asked settings mechanism offered, completes))
    (init_step sasl_machine (new_server settings) last init says
    (mechanism_symbol mechanism) response hostname spells memory step))
ends_with_login settings init (second ∷ events) mechanism response hostname texts replies last login spells offered are messages
    (body, next, others, all, step, run) =
    let c = challenge (new_server settings) next init.nonce (frames.Init (mechanism_symbol mechanism) response hostname) body
    (init_step sasl_machine (new_server settings) next init (Challenged body)
    (mechanism_symbol mechanism) response hostname spells
    (challenge_has_memory body) step) in
    let answers = subst (λ (found : Option Mechanism). FoundAnswers found settings init.nonce response c.reply next.stage)
    (offered_asked settings mechanism offered) c.by.1 in
    let rest = rest_init settings NotStarted next.stage init.nonce c.reply c.is texts login mechanism response answers messages in
    let ends = rest_responses next (second ∷ events) others last texts login are run c.waits
    (subst (λ (s : ServerSettings). RestLogsIn s next.stage texts login) (sym c.by.0) rest) in (
      later_last IsOkSent (Challenged body) replies others all
          (served_some sasl_machine next last second events others run) ends.0,
      ends.1,
    )

-- ---- an Ok that was sent

-- after a last step that is sent as an Ok there is a login
ok_of : (server last : ServerAt) (nonce : List ℕ) (frame : SaslFrame) (says : ServerSays) → IsOkSent says
    → Stepped sasl_machine server last nonce frame says
    → (login : ServerLogin) × (logged_in_at last.stage ≡ Some login)
ok_of server last nonce frame says (body, is, fits) stepped =
    go (machine_kind server stepped.moved nonce frame stepped.reply stepped.by)
  where
    sends : SendsCanonical (Failed faults.TooLarge) (server_says stepped.reply) (canonical stepped.reply) server stepped.moved
        (Concluded outcomes.Ok body) last
    sends = subst (λ (s : ServerSays). SendsCanonical (Failed faults.TooLarge) (server_says stepped.reply)
        (canonical stepped.reply) server stepped.moved s last) is stepped.sends

    go : Kind server.stage stepped.reply stepped.moved.stage
        → (login : ServerLogin) × (logged_in_at last.stage ≡ Some login)
    go (inl ((text, challenged), none)) =
        absurd (sent_no_ok stepped.reply (frames.Challenge text) _ server stepped.moved last body challenged
        (λ out same. cc) sends)
    go (inr (inl (auth, at))) =
        absurd (sent_no_ok stepped.reply (ends_with outcomes.Auth) _ server stepped.moved last body auth
        (λ out same. cc) sends)
    go (inr (inr ((more, ok, small), (login, at)))) =
        let moved = (sent_outcome stepped.reply outcomes.Ok more server stepped.moved last says ok small stepped.sends).1 in
        (login, ap (λ (s : ServerAt). logged_in_at s.stage) moved ∙ ap logged_in_at at)

no_replies : {A : Type 0} (replies : List ServerSays) → replies ≡ [] → LastReply IsOkSent replies → A
no_replies replies none ok = absurd (subst (λ (l : List ServerSays). LastReply IsOkSent l) none ok)

responses_ok : (pieces : List Piece) (limit at : ℕ) (server : ServerAt) (events : List Given)
    (replies : List ServerSays) (last : ServerAt) → AreFrames pieces limit at server_follows turns.Response events
    → Served sasl_machine server events replies last → LastReply IsOkSent replies
    → (login : ServerLogin) × (logged_in_at last.stage ≡ Some login)
responses_ok pieces limit at server [] replies last are run ok = no_replies replies run.0 ok
responses_ok pieces limit at server (event ∷ []) replies last are (says, memory, all, step) ok =
    let (text, spells) = response_of event.body are.1 in
    ok_of server last event.nonce (frames.Response text) says
    (subst (λ (l : List ServerSays). LastReply IsOkSent l) all ok)
    (response_step sasl_machine server last event says text spells memory step)
responses_ok pieces limit at server (event ∷ second ∷ events) replies last are (body, next, others, all, step, run) ok =
    responses_ok pieces limit (at + (length event.body + 4)) next (second ∷ events) others last are.3 run
    (last_later IsOkSent (Challenged body) replies others all (served_some sasl_machine next last second events others run)
    ok)

connection_ok : (pieces : List Piece) (limit : ℕ) (settings : ServerSettings) (events : List Given)
    (replies : List ServerSays) (last : ServerAt) → AreFrames pieces limit 8 server_follows turns.Init events
    → Served sasl_machine (new_server settings) events replies last → LastReply IsOkSent replies
    → (login : ServerLogin) × (logged_in_at last.stage ≡ Some login)
connection_ok pieces limit settings [] replies last are run ok = no_replies replies run.0 ok
connection_ok pieces limit settings (event ∷ []) replies last are (says, memory, all, step) ok =
    let (name, response, hostname, spells) = init_of event.body are.1 in
    ok_of (new_server settings) last event.nonce (frames.Init name response hostname) says
    (subst (λ (l : List ServerSays). LastReply IsOkSent l) all ok)
    (init_step sasl_machine (new_server settings) last event says name response hostname spells memory step)
connection_ok pieces limit settings (event ∷ second ∷ events) replies last are (body, next, others, all, step, run) ok =
    responses_ok pieces limit (8 + (length event.body + 4)) next (second ∷ events) others last are.3 run
    (last_later IsOkSent (Challenged body) replies others all (served_some sasl_machine next last second events others run)
    ok)

-- ---- both laws

module _ (settings : ServerSettings) (server : ServerBy sasl_machine (new_server settings)) where
  pub run : Served sasl_machine (new_server settings) server.connection.events server.connection.replies server.last.state
  run = let n = server.connection in
      served sasl_machine turns.Init n.events n.replies n.answer (new_server settings) server.last.state n.run n.replied

  pub of_login : (login : ServerLogin) → logged_in_at server.last.state.stage ≡ Some login
      → CompletesLogin settings server.connection.events login
  of_login login some = let n = server.connection in
      logins_of server.pieces server.limit settings n.events n.replies server.last.state login n.frames run some

  pub with_login : (login : ServerLogin) → CompletesLogin settings server.connection.events login
      → Ends server.connection.replies server.last.state login
  with_login login logs = let n = server.connection in
      ends_with_login settings logs.init logs.later logs.mechanism logs.response logs.hostname logs.texts n.replies
      server.last.state login logs.begins logs.offered logs.goes_on logs.completes
      (subst (λ (l : List Given). Served sasl_machine (new_server settings) l n.replies server.last.state) logs.all run)

pub servers_have_login_exactly : ServersHaveLoginExactly
servers_have_login_exactly settings server login =
    (of_login settings server login, λ logs. (with_login settings server login logs).1)

pub servers_authenticate_exactly : ServersAuthenticateExactly
servers_authenticate_exactly settings server =
    let n = server.connection in
    let ok = servers_log_in sasl_machine server.limit (new_server settings) server.pieces server.taken server.sent
    server.last n in (
      λ authenticated. let (login, some) = connection_ok server.pieces server.limit settings n.events n.replies
          server.last.state n.frames (run settings server) (ok.0 authenticated) in
          (login, of_login settings server login some),
      λ logs. ok.1 (with_login settings server logs.0 logs.1).0,
    )
