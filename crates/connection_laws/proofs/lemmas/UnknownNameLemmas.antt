-- A server over other records, which it answers alike by: `unknown_names_seem_known`, `known_names_seem_unknown`.
use Rattle.std.proofs.Common.{◌≡◌, ◌↔◌, ◌∙◌, ℕ, Bool, true, false, Option, Some, None, List, [], ◌∷◌, ap, sym, subst, refl, inl, inr, Ok, Err}
use Rattle.std.specs.Prelude.{MatchOption, codes}
use Rattle.std.specs.List.{AllByRecursion}
use Rattle.fe2o3_sasl_wire.specs.SaslFrames as frames
use Rattle.fe2o3_sasl_wire.specs.SaslFrames.{SaslFrame, canonical}
use Rattle.fe2o3_sasl_wire.specs.declared.sasl_frames.error.Error.TheVariants as faults
use Rattle.fe2o3_scram.specs.Credentials.{Provider}
use Rattle.fe2o3_scram.specs.Mixed.{MultiRecords}
use Rattle.fe2o3_scram.specs.ScramServer.{BeginsExchange}
use Rattle.fe2o3_scram.specs.declared.hmac.ScramVersion.{ScramVersion}
use Rattle.fe2o3_sasl_core.specs.Bodies.{SpellsBody, server_says}
use Rattle.fe2o3_sasl_core.specs.Events.{Given, ServerSays, Failed}
use Rattle.fe2o3_sasl_core.specs.MockChoices.{MockChoice}
use Rattle.fe2o3_sasl_core.specs.PlainServer.{PlainParts}
use Rattle.fe2o3_sasl_core.specs.Runs.{AcceptorAnswers, AcceptorSteps, Runs, SendsCanonical}
use Rattle.fe2o3_sasl_core.specs.Servers.{ExchangeOpen, InitAnswers, InitWhere, MessageLetsIn, NotStarted, ResponseAnswers, ResponseAsked, ServerAt, ServerSettings, ServerStage, SignatureShown, StageRejects, UserAuthenticated, asked_mechanism, is_response_asked, provider_by, sasl_machine}
use Rattle.fe2o3_sasl_core.specs.declared.mechanism.Mechanism.{Mechanism}
use Rattle.fe2o3_sasl_core.specs.declared.mechanism.Mechanism.TheVariants as mechanisms
use Rattle.fe2o3_sasl_negotiation.specs.Negotiations.{Side}
use Rattle.connection_laws.specs.Servers.{NegotiatesAs, ServerBy, side_with}
use Rattle.connection_laws.specs.UnknownNames.{CarriesMock, KnownNamesSeemUnknown, NoneCarriesMock, UnknownNamesSeemKnown, mock_known, server_over}
use Rattle.connection_laws.proofs.lemmas.UnknownRecordLemmas.{one_message_lets_in, one_provider}
use Rattle.fe2o3_sasl_core.proofs.lemmas.machines.MechanismLemmas.{asked_offers}

-- the settings with other records
abbrev pub over : MultiRecords → ServerSettings → ServerSettings
over records settings = record settings { records = records }

-- SCRAM answers by one provider over both records
abbrev pub OneProvider : ServerSettings → MultiRecords → Type 0
OneProvider settings records = (version : ScramVersion) (plus : Bool)
    → provider_by settings version plus ≡ provider_by (over records settings) version plus

-- a message of PLAIN logs its user in over both records or over neither
abbrev pub AlikeIn : ServerSettings → MultiRecords → List ℕ → Type 0
AlikeIn settings records text =
    (parts : PlainParts) → MessageLetsIn settings text parts ↔ MessageLetsIn (over records settings) text parts

-- and so does the message of a frame
abbrev pub AlikeBy : ServerSettings → MultiRecords → SaslFrame → Type 0
AlikeBy settings records (frames.Init mechanism (Some text) hostname) =
    mechanism ≡ codes "PLAIN" → AlikeIn settings records text
AlikeBy settings records (frames.Response text) = AlikeIn settings records text
AlikeBy settings records frame = Unit {0}

-- ---- a step

module _ (settings : ServerSettings) (records : MultiRecords) (one : OneProvider settings records) where
  init_over : (mechanism : Mechanism) (kept next : ServerStage) (nonce : List ℕ) (response : Option (List ℕ)) (reply : SaslFrame)
      → (mechanism ≡ mechanisms.Plain → (text : List ℕ) → response ≡ Some text → AlikeIn settings records text)
      → InitAnswers settings mechanism kept nonce response reply next
      → InitAnswers (over records settings) mechanism kept nonce response reply next
  init_over mechanisms.Anonymous kept next nonce response reply plain is = is
  init_over mechanisms.External kept next nonce response reply plain is = is
  init_over mechanisms.Plain kept next nonce None reply plain is = is
  init_over mechanisms.Plain kept next nonce (Some text) reply plain (inl (parts, lets_in, accepts)) =
      inl (parts, (plain refl text refl parts).0 lets_in, accepts)
  init_over mechanisms.Plain kept next nonce (Some text) reply plain (inr (none, rejects)) =
      inr ((λ parts lets_in. none parts ((plain refl text refl parts).1 lets_in)), rejects)
  init_over (mechanisms.Scram version plus) kept next nonce None reply plain is = is
  init_over (mechanisms.Scram version plus) kept next nonce (Some text) reply plain (answer, begins, opens) = (
    answer,
    subst (λ (p : Provider). BeginsExchange p nonce text answer) (one version plus) begins,
    opens,
  )

  found_over : (name : List ℕ) (found : Option Mechanism) (stage next : ServerStage) (nonce : List ℕ)
      (response : Option (List ℕ)) (reply : SaslFrame) → asked_mechanism settings name ≡ found
      → ((text : List ℕ) → name ≡ codes "PLAIN" → response ≡ Some text → AlikeIn settings records text)
      → MatchOption found (StageRejects stage reply next)
      (λ mechanism. InitAnswers settings mechanism stage nonce response reply next)
      → MatchOption found (StageRejects stage reply next)
      (λ mechanism. InitAnswers (over records settings) mechanism stage nonce response reply next)
  found_over name None stage next nonce response reply asked plain is = is
  found_over name (Some mechanism) stage next nonce response reply asked plain is =
      init_over mechanism stage next nonce response reply (λ by text said. plain text (plain_name by) said) is
    where
      plain_name : mechanism ≡ mechanisms.Plain → name ≡ codes "PLAIN"
      plain_name by = (asked_offers settings name mechanisms.Plain (asked ∙ ap Some by)).0

  where_over : (asked : Bool) (name : List ℕ) (stage next : ServerStage) (nonce : List ℕ)
      (response : Option (List ℕ)) (reply : SaslFrame)
      → ((text : List ℕ) → name ≡ codes "PLAIN" → response ≡ Some text → AlikeIn settings records text)
      → InitWhere asked settings stage nonce name response reply next
      → InitWhere asked (over records settings) stage nonce name response reply next
  where_over true name stage next nonce response reply plain is = is
  where_over false name stage next nonce response reply plain is =
      found_over name (asked_mechanism settings name) stage next nonce response reply refl plain is

  response_over : (stage next : ServerStage) (text : List ℕ) (reply : SaslFrame) → AlikeIn settings records text
      → ResponseAnswers settings stage text reply next → ResponseAnswers (over records settings) stage text reply next
  response_over (ResponseAsked mechanism nonce) next text reply plain is =
      init_over mechanism NotStarted next nonce (Some text) reply
      (λ by other said. subst (λ (t : List ℕ). AlikeIn settings records t) (one_text text other said) plain) is
    where
      one_text : (text other : List ℕ) → Some text ≡ Some other → text ≡ other
      one_text text other same = cc
  response_over (ExchangeOpen version plus exchange) next text reply plain is = is
  response_over (SignatureShown login) next text reply plain is = is
  response_over NotStarted next text reply plain is = is
  response_over (UserAuthenticated login) next text reply plain is = is

machine_over : (records : MultiRecords) (server next : ServerAt) (nonce : List ℕ) (frame reply : SaslFrame)
    → OneProvider server.settings records → AlikeBy server.settings records frame
    → sasl_machine server nonce frame reply next
    → sasl_machine (server_over records server) nonce frame reply (server_over records next)
machine_over records server next nonce (frames.Init name (Some text) hostname) reply one plain (same, is, kept) = (
  ap (over records) same,
  where_over server.settings records one (is_response_asked server.stage) name server.stage next.stage nonce (Some text)
      reply (λ other named said. subst (λ (t : List ℕ). AlikeIn server.settings records t) (one_text other said)
      (plain named)) is,
  kept,
)
  where
    one_text : (other : List ℕ) → Some text ≡ Some other → text ≡ other
    one_text other same = cc
machine_over records server next nonce (frames.Init name None hostname) reply one plain (same, is, kept) = (
  ap (over records) same,
  where_over server.settings records one (is_response_asked server.stage) name server.stage next.stage nonce None reply
      (λ other named said. absurd (no_text other said)) is,
  kept,
)
  where
    no_text : (other : List ℕ) → None ≡ Some other → ⊥
    no_text other same = cc
machine_over records server next nonce (frames.Response text) reply one plain (same, is, kept) =
    (ap (over records) same, response_over server.settings records one server.stage next.stage text reply plain is, kept)
machine_over records server next nonce (frames.Mechanisms names) reply one plain is = absurd is.1
machine_over records server next nonce (frames.Challenge text) reply one plain is = absurd is.1
machine_over records server next nonce (frames.Outcome code more) reply one plain is = absurd is.1

-- ---- a run

sends_over : (records : MultiRecords) (reply : SaslFrame) (written : Option (List ℕ)) (server moved next : ServerAt)
    (says : ServerSays)
    → SendsCanonical (Failed faults.TooLarge) (server_says reply) written server moved says next
    → SendsCanonical (Failed faults.TooLarge) (server_says reply) written (server_over records server)
    (server_over records moved) says (server_over records next)
sends_over records reply None server moved next says sends = (sends.0, ap (server_over records) sends.1)
sends_over records reply (Some body) server moved next says sends = (sends.0, ap (server_over records) sends.1)

answers_over : (records : MultiRecords) (server next : ServerAt) (nonce : List ℕ) (frame : SaslFrame)
    (says : ServerSays) → OneProvider server.settings records → AlikeBy server.settings records frame
    → AcceptorAnswers sasl_machine server nonce frame says next
    → AcceptorAnswers sasl_machine (server_over records server) nonce frame says (server_over records next)
answers_over records server next nonce frame says one plain (inl wants) =
    inl (wants.0, ap (server_over records) wants.1)
answers_over records server next nonce frame says one plain (inr (reply, moved, by, sends)) = inr (
  reply,
  server_over records moved,
  machine_over records server moved nonce frame reply one plain by,
  sends_over records reply (canonical reply) server moved next says sends,
)

-- the message of each frame that an event spells
abbrev pub AlikeAt : ServerSettings → MultiRecords → Given → Type 0
AlikeAt settings records event =
    (frame : SaslFrame) → SpellsBody event.body (Ok frame) → AlikeBy settings records frame

step_over : (records : MultiRecords) (server next : ServerAt) (event : Given) (says : ServerSays)
    → OneProvider server.settings records → AlikeAt server.settings records event
    → AcceptorSteps sasl_machine server event says next
    → AcceptorSteps sasl_machine (server_over records server) event says (server_over records next)
step_over records server next event says one plain (Err fault, spells, gives) =
    (Err fault, spells, (gives.0, ap (server_over records) gives.1))
step_over records server next event says one plain (Ok (frames.Mechanisms names), spells, gives) =
    (Ok (frames.Mechanisms names), spells, (gives.0, ap (server_over records) gives.1))
step_over records server next event says one plain (Ok (frames.Challenge text), spells, gives) =
    (Ok (frames.Challenge text), spells, (gives.0, ap (server_over records) gives.1))
step_over records server next event says one plain (Ok (frames.Outcome code more), spells, gives) =
    (Ok (frames.Outcome code more), spells, (gives.0, ap (server_over records) gives.1))
step_over records server next event says one plain (Ok (frames.Init name response hostname), spells, gives) = (
  Ok (frames.Init name response hostname),
  spells,
  answers_over records server next event.nonce (frames.Init name response hostname) says one
      (plain (frames.Init name response hostname) spells) gives,
)
step_over records server next event says one plain (Ok (frames.Response text), spells, gives) = (
  Ok (frames.Response text),
  spells,
  answers_over records server next event.nonce (frames.Response text) says one (plain (frames.Response text) spells)
      gives,
)

-- no step changes the settings
sent_settings : (reply : SaslFrame) (written : Option (List ℕ)) (server moved next : ServerAt) (says : ServerSays)
    → moved.settings ≡ server.settings
    → SendsCanonical (Failed faults.TooLarge) (server_says reply) written server moved says next
    → next.settings ≡ server.settings
sent_settings reply None server moved next says same sends = ap (λ (s : ServerAt). s.settings) sends.1
sent_settings reply (Some body) server moved next says same sends = ap (λ (s : ServerAt). s.settings) sends.1 ∙ same

answer_settings : (server next : ServerAt) (nonce : List ℕ) (frame : SaslFrame) (says : ServerSays)
    → AcceptorAnswers sasl_machine server nonce frame says next → next.settings ≡ server.settings
answer_settings server next nonce frame says (inl wants) = ap (λ (s : ServerAt). s.settings) wants.1
answer_settings server next nonce frame says (inr (reply, moved, by, sends)) =
    sent_settings reply (canonical reply) server moved next says by.0 sends

pub step_settings : (server next : ServerAt) (event : Given) (says : ServerSays)
    → AcceptorSteps sasl_machine server event says next → next.settings ≡ server.settings
step_settings server next event says (Err fault, spells, gives) = ap (λ (s : ServerAt). s.settings) gives.1
step_settings server next event says (Ok (frames.Mechanisms names), spells, gives) =
    ap (λ (s : ServerAt). s.settings) gives.1
step_settings server next event says (Ok (frames.Challenge text), spells, gives) =
    ap (λ (s : ServerAt). s.settings) gives.1
step_settings server next event says (Ok (frames.Outcome code more), spells, gives) =
    ap (λ (s : ServerAt). s.settings) gives.1
step_settings server next event says (Ok (frames.Init name response hostname), spells, gives) =
    answer_settings server next event.nonce (frames.Init name response hostname) says gives
step_settings server next event says (Ok (frames.Response text), spells, gives) =
    answer_settings server next event.nonce (frames.Response text) says gives

runs_over : (records : MultiRecords) (server last : ServerAt) (events : List Given) (replies : List ServerSays)
    → OneProvider server.settings records → AllByRecursion (AlikeAt server.settings records) events
    → Runs (AcceptorSteps sasl_machine) server events replies last
    → Runs (AcceptorSteps sasl_machine) (server_over records server) events replies (server_over records last)
runs_over records server last [] replies one plain run = (run.0, ap (server_over records) run.1)
runs_over records server last (event ∷ events) replies one plain (says, next, others, step, is, run) =
    let same = sym (step_settings server next event says step) in (
      says,
      server_over records next,
      others,
      step_over records server next event says one plain.0 step,
      is,
      runs_over records next last events others (subst (λ (s : ServerSettings). OneProvider s records) same one)
          (subst (λ (s : ServerSettings). AllByRecursion (AlikeAt s records) events) same plain.1) run,
    )

-- ---- a connection

negotiates_over : (records : MultiRecords) (state : ServerAt) (server : ServerBy sasl_machine state)
    → OneProvider state.settings records → AllByRecursion (AlikeAt state.settings records) server.connection.events
    → NegotiatesAs sasl_machine state server sasl_machine (server_over records state)
    (server_over records server.last.state)
negotiates_over records state server one plain =
    let n = server.connection in
    let end = server_over records server.last.state in (
      record {
        events = n.events;
        replies = n.replies;
        answer = n.answer;
        tail = n.tail;
        carried = n.carried;
        frames = n.frames;
        run = runs_over records state server.last.state n.events n.replies one plain n.run;
        replied = n.replied;
        sends = n.sends;
        ends = n.ends;
        waits = λ waiting. ap (λ (s : Side ServerAt). side_with end s) (n.waits waiting);
      },
      refl,
      refl,
    )

-- ---- mock records

module _ (settings : ServerSettings) (mock : MockChoice) (name : List ℕ) where
  abbrev known : MultiRecords
  known = mock_known mock name settings.records

  to_known : (frame : SaslFrame) → ¬ CarriesMock settings mock name frame → AlikeBy settings known frame
  to_known (frames.Init mechanism (Some text) hostname) none =
      λ named. one_message_lets_in settings mock name text (λ meets. none (named, meets))
  to_known (frames.Init mechanism None hostname) none = tt
  to_known (frames.Response text) none = one_message_lets_in settings mock name text none
  to_known (frames.Mechanisms names) none = tt
  to_known (frames.Challenge text) none = tt
  to_known (frames.Outcome code more) none = tt

  swapped : (text : List ℕ) → AlikeIn settings known text → AlikeIn (over known settings) settings.records text
  swapped text alike parts = let both = alike parts in (both.1, both.0)

  from_known : (frame : SaslFrame) → AlikeBy settings known frame
      → AlikeBy (over known settings) settings.records frame
  from_known (frames.Init mechanism (Some text) hostname) alike = λ named. swapped text (alike named)
  from_known (frames.Init mechanism None hostname) alike = tt
  from_known (frames.Response text) alike = swapped text alike
  from_known (frames.Mechanisms names) alike = tt
  from_known (frames.Challenge text) alike = tt
  from_known (frames.Outcome code more) alike = tt

  all_known : (events : List Given) → NoneCarriesMock settings mock name events
      → AllByRecursion (AlikeAt settings known) events
  all_known [] none = tt
  all_known (event ∷ events) none =
      ((λ frame spells. to_known frame (none.0 frame spells)), all_known events none.1)

  all_from : (events : List Given) → AllByRecursion (AlikeAt settings known) events
      → AllByRecursion (AlikeAt (over known settings) settings.records) events
  all_from [] alike = tt
  all_from (event ∷ events) alike =
      ((λ frame spells. from_known frame (alike.0 frame spells)), all_from events alike.1)

pub unknown_names_seem_known : UnknownNamesSeemKnown
unknown_names_seem_known state mock name server is none =
    negotiates_over (mock_known mock name state.settings.records) state server (one_provider state.settings mock name is)
    (all_known state.settings mock name server.connection.events none)

pub known_names_seem_unknown : KnownNamesSeemUnknown
known_names_seem_unknown state mock name server is none =
    negotiates_over state.settings.records (server_over (mock_known mock name state.settings.records) state) server
    (λ version plus. sym (one_provider state.settings mock name is version plus))
    (all_from state.settings mock name server.connection.events
    (all_known state.settings mock name server.connection.events none))
