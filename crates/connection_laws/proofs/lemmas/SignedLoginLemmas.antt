-- The exchange behind a signature that a server has sent: `signed_logins_are_accepted`.
use Rattle.std.proofs.Common.{◌≡◌, ◌∙◌, ◌+◌, ◌++◌, ℕ, Bool, true, false, Option, Some, None, List, [], ◌∷◌, Ok, ap, arith, codes, length, refl, subst, sym, inl, inr}
use Rattle.std.proofs.lemmas.Option.{same_Some}
use Rattle.fe2o3_sasl_wire.specs.SaslFrames as frames
use Rattle.fe2o3_sasl_wire.specs.SaslFrames.{SaslFrame, canonical}
use Rattle.fe2o3_sasl_wire.specs.declared.amqp_types.SaslCode.{SaslCode}
use Rattle.fe2o3_sasl_wire.specs.declared.amqp_types.SaslCode.TheVariants as outcomes
use Rattle.fe2o3_sasl_wire.specs.declared.sasl_frames.error.Error.TheVariants as faults
use Rattle.fe2o3_scram.specs.ChannelBinding.{cbind_input}
use Rattle.fe2o3_scram.specs.ClientFinal.{ClientFinal, ReadsClientFinal, Server}
use Rattle.fe2o3_scram.specs.ClientFirst.{ReadsClientFirst}
use Rattle.fe2o3_scram.specs.ServerFirst.{OpenExchange, challenge_of}
use Rattle.fe2o3_scram.specs.Texts.{Part, base64_text}
use Rattle.fe2o3_scram.specs.declared.hmac.ScramVersion.{ScramVersion}
use Rattle.fe2o3_scram.proofs.lemmas.messages.ClientFinalLemmas.{names_client_final}
use Rattle.fe2o3_scram.proofs.lemmas.messages.ExchangeLemmas.{only_part}
use Rattle.fe2o3_scram.proofs.lemmas.texts.PartsLemmas.{one_part}
use Rattle.fe2o3_sasl_core.specs.Bodies.{SpellsBody, server_says}
use Rattle.fe2o3_sasl_core.specs.Events.{Challenged, Failed, Given, ServerSays}
use Rattle.fe2o3_sasl_core.specs.SaslAcceptor.{ends_with}
use Rattle.fe2o3_sasl_core.specs.ServerHistory.{Accepted, server_at}
use Rattle.fe2o3_sasl_core.specs.Mechanisms.{mechanism_symbol}
use Rattle.fe2o3_sasl_core.specs.Servers.{ConfirmsSignature, ExchangeOpen, NotStarted, ResponseAnswers, ResponseAsked, ServerAt, ServerLogin, ServerSettings, ServerStage, SignatureShown, UserAuthenticated, asked_mechanism, exchange_login, exchange_server, is_offered_by, logged_in_at, provider_by, rules_by, sasl_machine}
use Rattle.fe2o3_sasl_core.specs.declared.mechanism.Mechanism.{Mechanism}
use Rattle.fe2o3_sasl_core.specs.declared.mechanism.Mechanism.TheVariants as mechanisms
use Rattle.fe2o3_sasl_core.proofs.lemmas.frames.SpellingLemmas.{sent}
use Rattle.fe2o3_sasl_negotiation.specs.Connections.{AreFrames, Piece}
use Rattle.fe2o3_sasl_negotiation.specs.ServerNegotiation.{server_follows}
use Rattle.fe2o3_sasl_negotiation.specs.declared.progress.FrameKind.TheVariants as turns
use Rattle.fe2o3_sasl_negotiation.proofs.lemmas.FrameSizeLemmas.{outcomes_fit}
use Rattle.connection_laws.specs.ConnectionLogins.{AreMessages, AreResponses, CompletesLogin, MessagesLogIn, ScramMessages, confirmation, new_server}
use Rattle.connection_laws.specs.ServerPairs.{AcceptsScram, SignedLoginsAreAccepted, scram_of, signed_login}
use Rattle.connection_laws.proofs.lemmas.ConnectionLoginLemmas.{found_mechanism, of_login, run}
use Rattle.connection_laws.proofs.lemmas.RestLoginLemmas.{IsChallenged, RestLogsIn, init_rest, response_rest}
use Rattle.connection_laws.proofs.lemmas.ServedLemmas.{Served, Stepped, init_of, init_step, response_step, sent_outcome}
use Rattle.connection_laws.proofs.lemmas.ServerLemmas.{response_of}
use Rattle.connection_laws.proofs.lemmas.ServerLoginLemmas.{shown_at, unshown}
use Rattle.connection_laws.proofs.lemmas.ServerStepLemmas.{Kind, challenge, challenge_has_memory, machine_kind}
use Rattle.fe2o3_sasl_core.proofs.lemmas.machines.MechanismLemmas.{asked_offers}

-- ---- what the messages are of

-- the values of an accepted exchange, by its two messages
record OfMessages (settings : ServerSettings) (version : ScramVersion) (plus : Bool) (asked first final : List ℕ)
    (login : ServerLogin) (accepted : Accepted) : Type 0 where
  reads : ReadsClientFirst (rules_by plus settings.rules) first (Ok accepted.challenge.client)
  known : (provider_by settings version plus).records accepted.challenge.client.user ≡ Some accepted.challenge.stored
  nonce : accepted.challenge.nonce ≡ base64_text asked
  meets : ReadsClientFinal (server_at (scram_of settings version plus) accepted.challenge) final (Ok accepted.final)
  user : login.user ≡ Some accepted.challenge.client.user
  acts_for : login.acts_for ≡ accepted.challenge.client.header.acts_for

module _ (settings : ServerSettings) (version : ScramVersion) (plus : Bool) (nonce : List ℕ) (messages : List (List ℕ))
    (login : ServerLogin) (scram : ScramMessages settings version plus nonce messages login) where
  of_messages : (accepted : Accepted)
      × OfMessages settings version plus nonce scram.first scram.final login accepted
  of_messages =
      let (client, stored, reads, known, made) = scram.begins.0 in
      let provider = provider_by settings version plus in
      let user : scram.opened.1.challenge.user ≡ client.user = λ i. (made i).user in
      let kept : scram.opened.1.stored ≡ stored =
      same_Some scram.opened.1.stored stored
      (sym scram.begins.2 ∙ (ap (λ (name : List ℕ). provider.records name) user ∙ known)) in
      let exchange : scram.opened.1
      ≡ record { challenge = challenge_of client (base64_text nonce) stored; stored = stored } =
      λ i. record { challenge = made i; stored = kept i } in
      let (message, (sent, finals, is)) = scram.meets in
      let whose = scram.made ∙ ap (λ (e : OpenExchange). exchange_login version plus e) exchange in (
        record {
          challenge = record { client = client; nonce = base64_text nonce; stored = stored };
          final = sent;
        },
        record {
          reads = reads;
          known = known;
          nonce = refl;
          meets = subst (λ (e : OpenExchange). ReadsClientFinal (exchange_server settings version plus e) scram.final
              (Ok sent)) exchange finals;
          user = ap (λ (l : ServerLogin). l.user) whose;
          acts_for = ap (λ (l : ServerLogin). l.acts_for) whose;
        },
      )

-- the messages of a login of SCRAM by this mechanism, and what they are of
abbrev SaysAccepted : ServerSettings → ScramVersion → Bool → List ℕ → Mechanism → Option (List ℕ) → List (List ℕ) → ServerLogin
    → Type 0
SaysAccepted settings version plus nonce mechanism response texts login = (mechanism ≡ mechanisms.Scram version plus)
    × ((first : List ℕ) × (final : List ℕ) × AreMessages settings.extra.initial_response response texts
    (first ∷ final ∷ confirmation settings.extra.signature)
    × ((accepted : Accepted) × OfMessages settings version plus nonce first final login accepted))

says_accepted : (settings : ServerSettings) (version : ScramVersion) (plus : Bool) (nonce : List ℕ) (mechanism : Mechanism)
    (response : Option (List ℕ)) (texts : List (List ℕ)) (login : ServerLogin)
    → MessagesLogIn settings mechanism nonce response texts login → login.mechanism ≡ mechanisms.Scram version plus
    → SaysAccepted settings version plus nonce mechanism response texts login
says_accepted settings version plus nonce mechanisms.Anonymous response texts login completes is =
    let no = sym (ap (λ (l : ServerLogin). l.mechanism) completes.1) ∙ is in absurd (cc)
says_accepted settings version plus nonce mechanisms.External response texts login completes is =
    let no = sym (ap (λ (l : ServerLogin). l.mechanism) completes.1.1) ∙ is in absurd (cc)
says_accepted settings version plus nonce mechanisms.Plain response texts login completes is =
    let no = sym (ap (λ (l : ServerLogin). l.mechanism) completes.2.2) ∙ is in absurd (cc)
says_accepted settings version plus nonce (mechanisms.Scram own bound) response texts login (messages, are, scram) is =
    let one : mechanisms.Scram own bound ≡ mechanisms.Scram version plus = sym (ap (λ
    (l : ServerLogin). l.mechanism) scram.made) ∙ is in
    let hash : own ≡ version = cc in
    let kind : bound ≡ plus = cc in
    let (accepted, of) = of_messages settings own bound nonce messages login scram in (
      one,
      (
        scram.first,
        scram.final,
        subst (λ (all : List (List ℕ)). AreMessages settings.extra.initial_response response texts all) scram.all are,
        (
          accepted,
          subst (λ (p : Bool). OfMessages settings version p nonce scram.first scram.final login accepted) kind
              (subst (λ (v : ScramVersion). OfMessages settings v bound nonce scram.first scram.final login accepted) hash of),
        ),
      ),
    )

-- the exchange of a login, and what its login is
abbrev AcceptedLogin : ServerSettings → ScramVersion → Bool → List Given → ServerLogin → Type 0
AcceptedLogin settings version plus events login =
    (accepted : Accepted) × AcceptsScram settings version plus events accepted
    × (login.user ≡ Some accepted.challenge.client.user) × (login.acts_for ≡ accepted.challenge.client.header.acts_for)

logged_accepts : (settings : ServerSettings) (version : ScramVersion) (plus : Bool) (events : List Given)
    (login : ServerLogin) → CompletesLogin settings events login → login.mechanism ≡ mechanisms.Scram version plus
    → AcceptedLogin settings version plus events login
logged_accepts settings version plus events login logs is =
    let (
      mechanism,
      (
        first,
        final,
        are,
        (accepted, of),
      ),
    ) = says_accepted settings version plus logs.init.nonce logs.mechanism logs.response
    logs.texts login logs.completes is in (
      accepted,
      record {
        init = logs.init;
        later = logs.later;
        response = logs.response;
        hostname = logs.hostname;
        texts = logs.texts;
        first = first;
        final = final;
        rest = confirmation settings.extra.signature;
        all = logs.all;
        begins = subst (λ (w : Mechanism). SpellsBody logs.init.body (Ok (frames.Init
            (mechanism_symbol w) logs.response logs.hostname)))
            mechanism logs.begins;
        offered = subst (λ (w : Mechanism). is_offered_by settings w ≡ true) mechanism logs.offered;
        goes_on = logs.goes_on;
        messages = are;
        reads = of.reads;
        known = of.known;
        nonce = of.nonce;
        meets = of.meets;
      },
      of.user,
      of.acts_for,
    )

-- ---- a signature that waits for its confirmation

-- what is shown at a stage
shown_is : (stage : ServerStage) (login : ServerLogin) → shown_at stage ≡ Some login → stage ≡ SignatureShown login
shown_is (SignatureShown shown) login is = ap SignatureShown (same_Some shown login is)
shown_is NotStarted login is = absurd (cc)
shown_is (ResponseAsked mechanism nonce) login is = absurd (cc)
shown_is (ExchangeOpen version plus exchange) login is = absurd (cc)
shown_is (UserAuthenticated before) login is = absurd (cc)

-- a response after a signature leaves none shown
never_again : {A : Type 0} (server last : ServerAt) (nonce text : List ℕ) (says : ServerSays) (shown login : ServerLogin)
    → server.stage ≡ SignatureShown shown → last.stage ≡ SignatureShown login
    → Stepped sasl_machine server last nonce (frames.Response text) says → A
never_again {A} server last nonce text says shown login at shows stepped = go text
    (subst (λ (s : ServerStage). ResponseAnswers server.settings s text stepped.reply stepped.moved.stage) at stepped.by.1)
  where
    ended : (code : SaslCode) (stage : ServerStage) → stepped.reply ≡ ends_with code → stepped.moved.stage ≡ stage
        → shown_at stage ≡ None → A
    ended code stage is moved none =
        let (out, kept) = sent_outcome stepped.reply code None server stepped.moved last says is
        (outcomes_fit code None (omega arith)) stepped.sends in
        unshown stage last.stage login (ap (λ (s : ServerAt). s.stage) kept ∙ moved) none shows

    go : (said : List ℕ) → ConfirmsSignature shown said stepped.reply stepped.moved.stage → A
    go [] is = ended outcomes.Ok (UserAuthenticated shown) is.0 is.1 refl
    go (byte ∷ said) is = ended outcomes.Auth NotStarted is.0 is.1 refl

-- a step after which a signature is shown, and none before it, was a challenge
record Shown (server last : ServerAt) (nonce : List ℕ) (frame : SaslFrame) (login : ServerLogin) : Type 0 where
  reply : SaslFrame
  is : IsChallenged reply
  by : sasl_machine server nonce frame reply last

first_shown : (server last : ServerAt) (nonce : List ℕ) (frame : SaslFrame) (says : ServerSays) (login : ServerLogin)
    → shown_at server.stage ≡ None → last.stage ≡ SignatureShown login → Stepped sasl_machine server last nonce frame says
    → Shown server last nonce frame login
first_shown server last nonce frame says login none shows stepped =
    elim (sent (Failed faults.TooLarge) (server_says stepped.reply) (canonical stepped.reply) server stepped.moved says last
    stepped.sends).1 [
      | inl (large, is) ↦ unshown server.stage last.stage login (ap (λ (s : ServerAt). s.stage) is) none shows
      | inr (bytes, is, at) ↦ go at (machine_kind server stepped.moved nonce frame stepped.reply stepped.by)
    ]
  where
    go : last ≡ stepped.moved → Kind server.stage stepped.reply stepped.moved.stage → Shown server last nonce frame login
    go at (inl waits) = record {
      reply = stepped.reply;
      is = waits.0;
      by = subst (λ (s : ServerAt). sasl_machine server nonce frame stepped.reply s) (sym at) stepped.by;
    }
    go at (inr (inl (auth, inl kept))) =
        unshown server.stage last.stage login (ap (λ (s : ServerAt). s.stage) at ∙ kept) none shows
    go at (inr (inl (auth, inr start))) =
        unshown NotStarted last.stage login (ap (λ (s : ServerAt). s.stage) at ∙ start) refl shows
    go at (inr (inr (ok, (other, accepts)))) =
        unshown (UserAuthenticated other) last.stage login (ap (λ (s : ServerAt). s.stage) at ∙ accepts) refl shows

-- the confirmation would complete the login
confirms : (settings : ServerSettings) (stage : ServerStage) (login : ServerLogin) → stage ≡ SignatureShown login
    → RestLogsIn settings stage ([] ∷ []) login
confirms settings stage login shows =
    subst (λ (s : ServerStage). RestLogsIn settings s ([] ∷ []) login) (sym shows) (refl, refl)

shown_last : (server last : ServerAt) (event : Given) (says : ServerSays) (text : List ℕ) (login : ServerLogin)
    → last.stage ≡ SignatureShown login → Stepped sasl_machine server last event.nonce (frames.Response text) says
    → RestLogsIn server.settings server.stage (text ∷ [] ∷ []) login
shown_last server last event says text login shows stepped = go (shown_at server.stage) refl
  where
    go : (found : Option ServerLogin) → shown_at server.stage ≡ found
        → RestLogsIn server.settings server.stage (text ∷ [] ∷ []) login
    go None none =
        let it = first_shown server last event.nonce (frames.Response text) says login none shows stepped in
        response_rest server.settings last.stage text it.reply it.is ([] ∷ []) login server.stage it.by.1
        (confirms server.settings last.stage login shows)
    go (Some shown) at = never_again server last event.nonce text says shown login (shown_is server.stage shown at) shows
        stepped

-- a run of responses after which a signature is shown: its texts and the confirmation complete the login
shown_rest : (pieces : List Piece) (limit at : ℕ) (server : ServerAt) (events : List Given) (replies : List ServerSays)
    (last : ServerAt) (login : ServerLogin) → AreFrames pieces limit at server_follows turns.Response events
    → Served sasl_machine server events replies last → last.stage ≡ SignatureShown login
    → (texts : List (List ℕ)) × AreResponses events texts
    × RestLogsIn server.settings server.stage (texts ++ [] ∷ []) login
shown_rest pieces limit at server [] replies last login are run shows = (
  [],
  refl,
  confirms server.settings server.stage login (sym (ap (λ (s : ServerAt). s.stage) run.1) ∙ shows),
)
shown_rest pieces limit at server (event ∷ []) replies last login are (says, memory, all, step) shows =
    let (text, spells) = response_of event.body are.1 in
    let stepped = response_step sasl_machine server last event says text spells memory step in
    (text ∷ [], (text, [], refl, spells, refl), shown_last server last event says text login shows stepped)
shown_rest pieces limit at server (event ∷ second ∷ events) replies last login are
    (body, next, others, all, step, run) shows =
    let (text, spells) = response_of event.body are.1 in
    let c = challenge server next event.nonce (frames.Response text) body
    (response_step sasl_machine server next event (Challenged body) text spells (challenge_has_memory body) step) in
    let (texts, more, rest) = shown_rest pieces limit (at + (length event.body + 4)) next (second ∷ events) others last
    login are.3 run shows in (
      text ∷ texts,
      (text, texts, refl, spells, more),
      response_rest server.settings next.stage text c.reply c.is (texts ++ [] ∷ []) login server.stage c.by.1
          (subst (λ (s : ServerSettings). RestLogsIn s next.stage (texts ++ [] ∷ []) login) c.by.0 rest),
    )

-- ---- the messages without the confirmation

no_end : {A : Type 0} (texts : List (List ℕ)) → ◌≡◌ {A = List (List ℕ)} [] (texts ++ [] ∷ []) → A
no_end [] same = absurd (cc)
no_end (text ∷ texts) same = absurd (cc)

-- a client-final message is all that comes before the confirmation. It is not empty
final_only : (signs : Bool) (texts : List (List ℕ)) (final : List ℕ) → ¬ (final ≡ [])
    → final ∷ confirmation signs ≡ texts ++ [] ∷ [] → final ∷ [] ≡ texts
final_only true [] final some same = absurd (cc)
final_only true (text ∷ []) final some same = let it : final ≡ text = cc in ap (λ (t : List ℕ). t ∷ []) it
final_only true (text ∷ second ∷ texts) final some same =
    let none : ◌≡◌ {A = List (List ℕ)} [] (texts ++ [] ∷ []) = cc in no_end texts none
final_only false [] final some same = let it : final ≡ [] = cc in absurd (some it)
final_only false (text ∷ texts) final some same =
    let none : ◌≡◌ {A = List (List ℕ)} [] (texts ++ [] ∷ []) = cc in no_end texts none

cut_messages : (asks signs : Bool) (response : Option (List ℕ)) (texts : List (List ℕ)) (first final : List ℕ)
    → ¬ (final ≡ []) → AreMessages asks response (texts ++ [] ∷ []) (first ∷ final ∷ confirmation signs)
    → AreMessages asks response texts (first ∷ final ∷ [])
cut_messages asks signs (Some said) texts first final some are =
    let head : first ≡ said = cc in
    let tail : final ∷ confirmation signs ≡ texts ++ [] ∷ [] = cc in
    let rest = final_only signs texts final some tail in cc
cut_messages asks signs None [] first final some (due, are) = absurd (cc)
cut_messages asks signs None (text ∷ texts) first final some (due, are) =
    let head : first ≡ text = cc in
    let tail : final ∷ confirmation signs ≡ texts ++ [] ∷ [] = cc in
    let rest = final_only signs texts final some tail in
    (due, (let all : first ∷ final ∷ [] ≡ text ∷ texts = cc in all))

-- a client-final message that was accepted is not empty: it has a channel binding
some_final : (server : Server) (text : List ℕ) (final : ClientFinal) → ReadsClientFinal server text (Ok final)
    → ¬ (text ≡ [])
some_final server text final reads empty =
    let names = names_client_final server text final reads in
    let part = subst (λ (t : List ℕ). Part t 0 (codes "c=" ++ base64_text (cbind_input server.header))) empty
    names.binding.1 in
    let same : ◌≡◌ {A = List ℕ} [] (codes "c=" ++ base64_text (cbind_input server.header)) =
    one_part [] 0 [] (codes "c=" ++ base64_text (cbind_input server.header)) ([] ∷ [], only_part [] tt, refl) part in
    absurd (cc)

-- ---- an init, and what comes after it

-- the frames of a run after which a signature is shown
record ShowsLogin (settings : ServerSettings) (events : List Given) (login : ServerLogin) : Type 0 where
  init : Given
  later : List Given
  mechanism : Mechanism
  response : Option (List ℕ)
  hostname : Option (List ℕ)
  texts : List (List ℕ)
  all : events ≡ init ∷ later
  begins : SpellsBody init.body (Ok (frames.Init (mechanism_symbol mechanism) response hostname))
  offered : is_offered_by settings mechanism ≡ true
  goes_on : AreResponses later texts
  completes : MessagesLogIn settings mechanism init.nonce response (texts ++ [] ∷ []) login

shows_of : (pieces : List Piece) (limit : ℕ) (settings : ServerSettings) (events : List Given)
    (replies : List ServerSays) (last : ServerAt) (login : ServerLogin)
    → AreFrames pieces limit 8 server_follows turns.Init events
    → Served sasl_machine (new_server settings) events replies last → last.stage ≡ SignatureShown login
    → ShowsLogin settings events login
shows_of pieces limit settings [] replies last login are run shows =
    unshown NotStarted last.stage login (ap (λ (s : ServerAt). s.stage) run.1) refl shows
shows_of pieces limit settings (event ∷ []) replies last login are (says, memory, all, step) shows =
    let (name, response, hostname, spells) = init_of event.body are.1 in
    let it = first_shown (new_server settings) last event.nonce (frames.Init name response hostname) says login refl shows
    (init_step sasl_machine (new_server settings) last event says name response hostname spells memory step) in
    let (mechanism, found, answers) = found_mechanism
    (asked_mechanism settings name) settings event.nonce response it.reply last.stage it.is
    it.by.1 in
    let (named, offered) = asked_offers settings name mechanism found in
    record {
      init = event;
      later = [];
      mechanism = mechanism;
      response = response;
      hostname = hostname;
      texts = [];
      all = refl;
      begins = subst (λ (n : List ℕ). SpellsBody event.body (Ok (frames.Init n response hostname))) named spells;
      offered = offered;
      goes_on = refl;
      completes = init_rest settings NotStarted last.stage event.nonce it.reply it.is ([] ∷ []) login mechanism response answers
          (confirms settings last.stage login shows);
    }
shows_of pieces limit settings (event ∷ second ∷ events) replies last login are (body, next, others, all, step, run) shows =
    let (name, response, hostname, spells) = init_of event.body are.1 in
    let c = challenge (new_server settings) next event.nonce (frames.Init name response hostname) body
    (init_step sasl_machine (new_server settings) next event (Challenged body) name response hostname spells
    (challenge_has_memory body) step) in
    let (mechanism, found, answers) = found_mechanism
    (asked_mechanism settings name) settings event.nonce response c.reply next.stage c.is
    c.by.1 in
    let (named, offered) = asked_offers settings name mechanism found in
    let (texts, more, rest) = shown_rest pieces limit (8 + (length event.body + 4)) next (second ∷ events) others last
    login are.3 run shows in
    record {
      init = event;
      later = second ∷ events;
      mechanism = mechanism;
      response = response;
      hostname = hostname;
      texts = texts;
      all = refl;
      begins = subst (λ (n : List ℕ). SpellsBody event.body (Ok (frames.Init n response hostname))) named spells;
      offered = offered;
      goes_on = more;
      completes = init_rest settings NotStarted next.stage event.nonce c.reply c.is (texts ++ [] ∷ []) login mechanism response
          answers (subst (λ (s : ServerSettings). RestLogsIn s next.stage (texts ++ [] ∷ []) login) c.by.0 rest);
    }

shown_accepts : (settings : ServerSettings) (version : ScramVersion) (plus : Bool) (events : List Given)
    (login : ServerLogin) → ShowsLogin settings events login → login.mechanism ≡ mechanisms.Scram version plus
    → AcceptedLogin settings version plus events login
shown_accepts settings version plus events login shows is =
    let (mechanism, (first, final, are, (accepted, of))) = says_accepted settings version plus shows.init.nonce shows.mechanism
    shows.response (shows.texts ++ [] ∷ []) login shows.completes is in (
      accepted,
      record {
        init = shows.init;
        later = shows.later;
        response = shows.response;
        hostname = shows.hostname;
        texts = shows.texts;
        first = first;
        final = final;
        rest = [];
        all = shows.all;
        begins = subst (λ (w : Mechanism). SpellsBody shows.init.body
            (Ok (frames.Init (mechanism_symbol w) shows.response shows.hostname))) mechanism shows.begins;
        offered = subst (λ (w : Mechanism). is_offered_by settings w ≡ true) mechanism shows.offered;
        goes_on = shows.goes_on;
        messages = cut_messages settings.extra.initial_response settings.extra.signature shows.response shows.texts first
            final (some_final (server_at (scram_of settings version plus) accepted.challenge) final accepted.final of.meets)
            are;
        reads = of.reads;
        known = of.known;
        nonce = of.nonce;
        meets = of.meets;
      },
      of.user,
      of.acts_for,
    )

-- ---- the law

pub signed_logins_are_accepted : SignedLoginsAreAccepted
signed_logins_are_accepted settings server login version plus signed is =
    go server.last.state.stage refl signed
  where
    logged : logged_in_at server.last.state.stage ≡ Some login
        → AcceptedLogin settings version plus server.connection.events login
    logged some = logged_accepts settings version plus server.connection.events login (of_login settings server login some)
        is

    go : (stage : ServerStage) → server.last.state.stage ≡ stage → signed_login stage ≡ Some login
        → AcceptedLogin settings version plus server.connection.events login
    go (SignatureShown shown) at named =
        let n = server.connection in
        let shows : server.last.state.stage ≡ SignatureShown login = at ∙ ap SignatureShown (same_Some shown login named) in
        shown_accepts settings version plus n.events login
        (shows_of server.pieces server.limit settings n.events n.replies server.last.state login n.frames
        (run settings server) shows) is
    go (UserAuthenticated before) at named = logged (ap (λ (s : ServerStage). logged_in_at s) at ∙ named)
    go NotStarted at named = absurd (cc)
    go (ResponseAsked mechanism nonce) at named = absurd (cc)
    go (ExchangeOpen version plus exchange) at named = absurd (cc)
