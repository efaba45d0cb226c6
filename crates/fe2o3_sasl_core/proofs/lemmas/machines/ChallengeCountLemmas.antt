-- How many challenges a login has: `bounds_hold`, `servers_are_bounded`, `servers_have_few_challenges`.
use Rattle.std.proofs.Common.{◌≡◌, ◌⊎◌, ◌<◌, ◌≤◌, ◌+◌, ℕ, Bool, true, false, Option, Some, None, List, [], ◌∷◌, length, refl, sym, ap, subst, inl, inr, arith, Result, Ok, Err}
use Rattle.std.specs.Prelude.{MatchOption}
use Rattle.std.specs.List.{AllByRecursion}
use Rattle.fe2o3_sasl_wire.specs.declared.amqp_types.SaslCode.{SaslCode}
use Rattle.fe2o3_sasl_wire.specs.declared.amqp_types.SaslCode.TheVariants as outcomes
use Rattle.fe2o3_sasl_wire.specs.declared.sasl_frames.error.Error.TheVariants as faults
use Rattle.fe2o3_sasl_wire.specs.SaslFrames as frames
use Rattle.fe2o3_sasl_wire.specs.SaslFrames.{SaslFrame, canonical}
use Rattle.fe2o3_scram.specs.ServerFirst.{OpenExchange}
use Rattle.fe2o3_scram.specs.declared.hmac.ScramVersion.{ScramVersion}
use Rattle.fe2o3_scram.specs.declared.scram_messages.error.ServerScramErrorKind.{ServerScramErrorKind}
use Rattle.fe2o3_sasl_core.specs.AnyMechanismLaws.{Machine}
use Rattle.fe2o3_sasl_core.specs.Bodies.{SpellsBody, server_says}
use Rattle.fe2o3_sasl_core.specs.ChallengeCounts.{BoundsChallenges, BoundsHold, GoesOn, IsChallenge, IsError, IsInit, IsResponse, SaslServersAreBounded, ServersHaveFewChallenges, one_if, challenges_left, challenges_most, stage_left}
use Rattle.fe2o3_sasl_core.specs.Events.{Given, ServerSays, Failed}
use Rattle.fe2o3_sasl_core.specs.Runs.{Runs, AcceptorSteps, SendsCanonical}
use Rattle.fe2o3_sasl_core.specs.Servers.{AsksForResponse, ClosesExchange, ConfirmsSignature, ExchangeOpen, InitAnswers, InitWhere, NotStarted, OpensScram, ResponseAnswers, ResponseAsked, SendsSignature, ServerLogin, ServerSettings, ServerStage, SignatureShown, StageRejects, UserAuthenticated, asked_mechanism, exchange_login, is_response_asked, sasl_machine}
use Rattle.fe2o3_sasl_core.specs.declared.mechanism.Mechanism.{Mechanism}
use Rattle.fe2o3_sasl_core.specs.declared.mechanism.Mechanism.TheVariants as mechanisms
use Rattle.fe2o3_sasl_core.proofs.lemmas.frames.SpellingLemmas.{one_spelled_frame}

-- ---- a step of any acceptor

-- the reply of a machine to the frame of a body, which is sent
record Sends {S : Type 0} (machine : Machine S) (state : S) (event : Given) (says : ServerSays) (next : S)
    : Type 0 where
  frame : SaslFrame
  reply : SaslFrame
  body : List ℕ
  spells : SpellsBody event.body (Ok frame)
  answers : machine state event.nonce frame reply next
  written : canonical reply ≡ Some body
  said : says ≡ server_says reply body

-- an error leaves the state
abbrev Stays : {S : Type 0} → S → ServerSays → S → Type 0
Stays state says next = IsError says × (next ≡ state)

written : {S : Type 0} (machine : Machine S) (state moved next : S) (event : Given) (frame reply : SaslFrame)
    (says : ServerSays) → SpellsBody event.body (Ok frame) → machine state event.nonce frame reply moved
    → (body : Option (List ℕ)) → canonical reply ≡ body
    → SendsCanonical (Failed faults.TooLarge) (server_says reply) body state moved says next
    → Stays state says next ⊎ Sends machine state event says next
written machine state moved next event frame reply says spells is None e sent =
    inl (subst IsError (sym sent.0) tt, sent.1)
written {S} machine state moved next event frame reply says spells is (Some body) e sent = inr (record {
  frame = frame;
  reply = reply;
  body = body;
  spells = spells;
  answers = subst (λ (s : S). machine state event.nonce frame reply s) (sym sent.1) is;
  written = e;
  said = sent.0;
})

-- a step is an error, or a reply that is sent
step_sends : {S : Type 0} (machine : Machine S) (state next : S) (event : Given) (says : ServerSays)
    → AcceptorSteps machine state event says next → Stays state says next ⊎ Sends machine state event says next
step_sends machine state next event says (Err fault, spells, is) = inl (subst IsError (sym is.0) tt, is.1)
step_sends machine state next event says (Ok (frames.Mechanisms list), spells, is) =
    inl (subst IsError (sym is.0) tt, is.1)
step_sends machine state next event says (Ok (frames.Challenge text), spells, is) =
    inl (subst IsError (sym is.0) tt, is.1)
step_sends machine state next event says (Ok (frames.Outcome code more), spells, is) =
    inl (subst IsError (sym is.0) tt, is.1)
step_sends machine state next event says (Ok (frames.Init mechanism response hostname), spells, inl is) =
    inl (subst IsError (sym is.0) tt, is.1)
step_sends machine state next event says (Ok (frames.Response text), spells, inl is) =
    inl (subst IsError (sym is.0) tt, is.1)
step_sends machine state next event says (
  Ok (frames.Init mechanism response hostname),
  spells,
  inr (reply, moved, is, sent),
) =
    written machine state moved next event (frames.Init mechanism response hostname) reply says spells is
    (canonical reply) refl sent
step_sends machine state next event says (Ok (frames.Response text), spells, inr (reply, moved, is, sent)) =
    written machine state moved next event (frames.Response text) reply says spells is (canonical reply) refl sent

-- ---- any acceptor

-- what is said as a challenge goes on
goes_on : (reply : SaslFrame) (body : List ℕ) (says : ServerSays) → says ≡ server_says reply body → IsChallenge says
    → GoesOn reply
goes_on (frames.Outcome code more) body says is challenge = subst IsChallenge is challenge
goes_on reply body says is challenge = tt

error_is_no_challenge : (says : ServerSays) → IsError says → IsChallenge says → ⊥
error_is_no_challenge (Failed fault) error challenge = challenge
error_is_no_challenge says error challenge = error

-- a step that challenges is a reply
challenge_sends : {S : Type 0} (machine : Machine S) (state next : S) (event : Given) (says : ServerSays)
    → AcceptorSteps machine state event says next → IsChallenge says → Sends machine state event says next
challenge_sends {S} machine state next event says step challenge = by (step_sends machine state next event says step)
  where
    by : Stays state says next ⊎ Sends machine state event says next → Sends machine state event says next
    by (inl stays) = absurd (error_is_no_challenge says stays.0 challenge)
    by (inr s) = s

response_lowers : {S : Type 0} (machine : Machine S) (left most : S → ℕ) → BoundsChallenges machine left most
    → (state next : S) (event : Given) (says : ServerSays) → IsResponse event
    → AcceptorSteps machine state event says next → IsChallenge says → left next < left state
response_lowers {S} machine left most bounds state next event says response step challenge =
    let s = challenge_sends machine state next event says step challenge in
    let is = one_spelled_frame event.body s.frame (frames.Response response.0) s.spells response.1 in
    bounds.response state next event.nonce response.0 s.reply
    (subst (λ (f : SaslFrame). machine state event.nonce f s.reply next) is s.answers)
    (goes_on s.reply s.body says s.said challenge)

init_bounds : {S : Type 0} (machine : Machine S) (left most : S → ℕ) → BoundsChallenges machine left most
    → (state next : S) (event : Given) (says : ServerSays) → IsInit event
    → AcceptorSteps machine state event says next → IsChallenge says → left next ≤ most state
init_bounds {S} machine left most bounds state next event says init step challenge =
    let s = challenge_sends machine state next event says step challenge in
    let is = one_spelled_frame event.body s.frame (frames.Init init.0 init.1 init.2) s.spells init.3 in
    bounds.init state next event.nonce init.0 init.1 init.2 s.reply
    (subst (λ (f : SaslFrame). machine state event.nonce f s.reply next) is s.answers)
    (goes_on s.reply s.body says s.said challenge)

responses_lower : {S : Type 0} (machine : Machine S) (left most : S → ℕ) → BoundsChallenges machine left most
    → (state last : S) (events : List Given) (replies : List ServerSays) → AllByRecursion IsResponse events
    → Runs (AcceptorSteps machine) state events replies last → AllByRecursion IsChallenge replies
    → length replies + left last ≤ left state
responses_lower {S} machine left most bounds state last [] replies responses runs challenges =
    let none = ap (λ (r : List ServerSays). length r) runs.0 in let same = ap left runs.1 in omega arith
responses_lower {S} machine left most bounds state last (event ∷ events) replies responses runs challenges =
    let all = subst (λ (r : List ServerSays). AllByRecursion IsChallenge r) runs.4 challenges in
    let lower = response_lowers machine left most bounds state runs.1 event runs.0 responses.0 runs.3 all.0 in
    let rest = responses_lower machine left most bounds runs.1 last events runs.2 responses.1 runs.5 all.1 in
    let longer = ap (λ (r : List ServerSays). length r) runs.4 in omega arith

pub bounds_hold : {S : Type 0} (machine : Machine S) → BoundsHold machine
bounds_hold {S} machine left most bounds state last init events replies is responses runs challenges =
    let all = subst (λ (r : List ServerSays). AllByRecursion IsChallenge r) runs.4 challenges in
    let first = init_bounds machine left most bounds state runs.1 init runs.0 is runs.3 all.0 in
    let rest = responses_lower machine left most bounds runs.1 last events runs.2 responses runs.5 all.1 in
    let longer = ap (λ (r : List ServerSays). length r) runs.4 in omega arith

-- ---- a server of all mechanisms

-- an outcome ends a login
ends : {A : Type 0} (reply : SaslFrame) (code : SaslCode) (more : Option (List ℕ)) → reply ≡ frames.Outcome code more
    → GoesOn reply → A
ends reply code more same goes = absurd (subst GoesOn same goes)

module _ (settings : ServerSettings) where
  abbrev signs : Bool
  signs = settings.extra.signature

  abbrev left : ServerStage → ℕ
  left = stage_left signs

  -- the stage after an init by this mechanism whose answer goes on
  abbrev Within : ServerStage → Type 0
  Within next = left next ≤ one_if signs + one_if settings.extra.initial_response

  within : (stage next : ServerStage) → next ≡ stage → Within stage → Within next
  within stage next same few = subst Within (sym same) few

  rejects : {A : Type 0} (kept : ServerStage) (reply : SaslFrame) (next : ServerStage) → GoesOn reply
      → StageRejects kept reply next → A
  rejects kept reply next goes is = ends reply outcomes.Auth None is.0 goes

  asks_within : (does : Bool) (mechanism : Mechanism) (kept : ServerStage) (nonce : List ℕ) (reply : SaslFrame)
      (next : ServerStage) → does ≡ settings.extra.initial_response → GoesOn reply
      → AsksForResponse does mechanism kept nonce reply next → Within next
  asks_within true mechanism kept nonce reply next same goes is = let one = ap one_if same in
      within (ResponseAsked mechanism nonce) next is.1 (omega (arith, one))
  asks_within false mechanism kept nonce reply next same goes is = rejects kept reply next goes is

  -- an answer to a client-first message that goes on leaves a signature
  opens_to : (version : ScramVersion) (plus : Bool) (kept : ServerStage)
      (answer : Result (Option (List ℕ × OpenExchange)) ServerScramErrorKind) (reply : SaslFrame) (next : ServerStage)
      → GoesOn reply → OpensScram version plus kept answer reply next → left next ≡ one_if signs
  opens_to version plus kept (Ok (Some opened)) reply next goes is = ap left is.1
  opens_to version plus kept (Ok None) reply next goes is = rejects kept reply next goes is
  opens_to version plus kept (Err fault) reply next goes is = rejects kept reply next goes is

  text_to : (mechanism : Mechanism) (kept : ServerStage) (nonce text : List ℕ) (reply : SaslFrame) (next : ServerStage)
      → GoesOn reply → InitAnswers settings mechanism kept nonce (Some text) reply next → left next ≡ one_if signs
  text_to mechanisms.Anonymous kept nonce text reply next goes is = ends reply outcomes.Ok None is.0 goes
  text_to mechanisms.External kept nonce text reply next goes (inl (asked, is)) = ends reply outcomes.Ok None is.0 goes
  text_to mechanisms.External kept nonce text reply next goes (inr (other, is)) = rejects kept reply next goes is
  text_to mechanisms.Plain kept nonce text reply next goes (inl (parts, lets, is)) = ends reply outcomes.Ok None is.0 goes
  text_to mechanisms.Plain kept nonce text reply next goes (inr (none, is)) = rejects kept reply next goes is
  text_to (mechanisms.Scram version plus) kept nonce text reply next goes (answer, begins, is) =
      opens_to version plus kept answer reply next goes is

  init_within : (mechanism : Mechanism) (kept : ServerStage) (nonce : List ℕ) (response : Option (List ℕ)) (reply : SaslFrame)
      (next : ServerStage) → GoesOn reply → InitAnswers settings mechanism kept nonce response reply next → Within next
  init_within mechanism kept nonce (Some text) reply next goes is =
      let same = text_to mechanism kept nonce text reply next goes is in omega (arith, same)
  init_within mechanisms.Anonymous kept nonce None reply next goes is = ends reply outcomes.Ok None is.0 goes
  init_within mechanisms.External kept nonce None reply next goes (inl (asked, is)) = ends reply outcomes.Ok None is.0 goes
  init_within mechanisms.External kept nonce None reply next goes (inr (other, is)) = rejects kept reply next goes is
  init_within mechanisms.Plain kept nonce None reply next goes is =
      asks_within settings.extra.initial_response mechanisms.Plain kept nonce reply next refl goes is
  init_within (mechanisms.Scram version plus) kept nonce None reply next goes is =
      asks_within settings.extra.initial_response (mechanisms.Scram version plus) kept nonce reply next refl goes is

  asked_within : (asked : Option Mechanism) (stage : ServerStage) (nonce : List ℕ) (response : Option (List ℕ))
      (reply : SaslFrame) (next : ServerStage) → GoesOn reply
      → MatchOption asked (StageRejects stage reply next)
      (λ mechanism. InitAnswers settings mechanism stage nonce response reply next) → Within next
  asked_within None stage nonce response reply next goes is = rejects stage reply next goes is
  asked_within (Some mechanism) stage nonce response reply next goes is =
      init_within mechanism stage nonce response reply next goes is

  where_within : (due : Bool) (stage : ServerStage) (nonce name : List ℕ) (response : Option (List ℕ))
      (reply : SaslFrame) (next : ServerStage) → GoesOn reply
      → InitWhere due settings stage nonce name response reply next → Within next
  where_within true stage nonce name response reply next goes is = rejects NotStarted reply next goes is
  where_within false stage nonce name response reply next goes is =
      asked_within (asked_mechanism settings name) stage nonce response reply next goes is

  -- a response that goes on lowers what is left
  sends_lower : (does : Bool) (login : ServerLogin) (message : List ℕ) (reply : SaslFrame) (next : ServerStage)
      → does ≡ signs → GoesOn reply → SendsSignature does login message reply next → left next < one_if signs
  sends_lower true login message reply next same goes is =
      let one = ap one_if same in let none = ap left is.1 in omega (arith, one, none)
  sends_lower false login message reply next same goes is = ends reply outcomes.Ok (Some message) is.0 goes

  closes_lower : (version : ScramVersion) (plus : Bool) (exchange : OpenExchange)
      (answer : Result (List ℕ) ServerScramErrorKind) (reply : SaslFrame) (next : ServerStage) → GoesOn reply
      → ClosesExchange signs version plus exchange answer reply next → left next < one_if signs
  closes_lower version plus exchange (Ok message) reply next goes is =
      sends_lower signs (exchange_login version plus exchange) message reply next refl goes is
  closes_lower version plus exchange (Err fault) reply next goes is = rejects _ reply next goes is

  confirms_none : {A : Type 0} (login : ServerLogin) (text : List ℕ) (reply : SaslFrame) (next : ServerStage)
      → GoesOn reply → ConfirmsSignature login text reply next → A
  confirms_none login [] reply next goes is = ends reply outcomes.Ok None is.0 goes
  confirms_none login (byte ∷ text) reply next goes is = rejects _ reply next goes is

  response_lower : (stage : ServerStage) (text : List ℕ) (reply : SaslFrame) (next : ServerStage) → GoesOn reply
      → ResponseAnswers settings stage text reply next → left next < left stage
  response_lower (ResponseAsked mechanism nonce) text reply next goes is =
      let same = text_to mechanism NotStarted nonce text reply next goes is in omega (arith, same)
  response_lower (ExchangeOpen version plus exchange) text reply next goes (answer, held, is) =
      closes_lower version plus exchange answer reply next goes is
  response_lower (SignatureShown login) text reply next goes is = confirms_none login text reply next goes is
  response_lower NotStarted text reply next goes is = rejects _ reply next goes is
  response_lower (UserAuthenticated login) text reply next goes is = rejects _ reply next goes is

-- a server with other settings of the same values has as much left
left_by : (one other : ServerSettings) (stage : ServerStage) → one ≡ other
    → stage_left one.extra.signature stage ≡ stage_left other.extra.signature stage
left_by one other stage same = ap (λ (s : ServerSettings). stage_left s.extra.signature stage) same

pub servers_are_bounded : SaslServersAreBounded
servers_are_bounded = record {
  init = λ server next nonce mechanism response hostname reply is goes.
      let few = where_within server.settings (is_response_asked server.stage) server.stage nonce mechanism response reply
      next.stage goes is.1 in
      omega (arith, few, left_by next.settings server.settings next.stage is.0);
  response = λ server next nonce text reply is goes.
      let few = response_lower server.settings server.stage text reply next.stage goes is.1 in
      omega (arith, few, left_by next.settings server.settings next.stage is.0);
}

pub servers_have_few_challenges : ServersHaveFewChallenges
servers_have_few_challenges = bounds_hold sasl_machine challenges_left challenges_most servers_are_bounded
