-- The kinds of reply of a server of all mechanisms, with the stage after each.
use Rattle.std.proofs.Common.{◌≡◌, ◌⊎◌, ◌∙◌, ℕ, Bool, true, false, Option, Some, None, List, [], ◌∷◌, Result, Ok, Err, ap, length, subst, sym, refl, inl, inr, arith}
use Rattle.std.specs.Prelude.{MatchOption}
use Rattle.fe2o3_sasl_wire.specs.SaslFrames as frames
use Rattle.fe2o3_sasl_wire.specs.SaslFrames.{SaslFrame}
use Rattle.fe2o3_sasl_wire.specs.declared.amqp_types.SaslCode.TheVariants as outcomes
use Rattle.fe2o3_scram.specs.ServerFinal.{AnswersClientFinal}
use Rattle.fe2o3_scram.specs.ServerFirst.{OpenExchange}
use Rattle.fe2o3_scram.specs.declared.hmac.ScramVersion.{ScramVersion}
use Rattle.fe2o3_scram.specs.declared.scram_messages.error.ServerScramErrorKind.{ServerScramErrorKind}
use Rattle.fe2o3_sasl_core.specs.Events.{Challenged}
use Rattle.fe2o3_sasl_core.specs.SaslAcceptor.{ends_with}
use Rattle.fe2o3_sasl_core.specs.Servers.{AsksForResponse, ClosesExchange, ConfirmsSignature, ExchangeOpen, InitAnswers, InitWhere, NotStarted, OpensScram, ResponseAnswers, ResponseAsked, ServerAt, ServerLogin, ServerSettings, ServerStage, SignatureShown, StageRejects, UserAuthenticated, asked_mechanism, exchange_server, is_response_asked, logged_in_at, sasl_machine}
use Rattle.fe2o3_sasl_core.specs.declared.mechanism.Mechanism.{Mechanism}
use Rattle.fe2o3_sasl_core.specs.declared.mechanism.Mechanism.TheVariants as mechanisms
use Rattle.fe2o3_sasl_negotiation.specs.FrameSizes.{CanBeSent}
use Rattle.fe2o3_sasl_negotiation.proofs.lemmas.FrameSizeLemmas.{outcomes_fit}
use Rattle.connection_laws.proofs.lemmas.ServedLemmas.{HasMemory, Stepped, sent_challenge, sent_no_outcome}
use Rattle.connection_laws.proofs.lemmas.SmallReplyLemmas.{final_text_length}

-- a challenge, and the server waits
abbrev pub Waits : SaslFrame → ServerStage → Type 0
Waits reply next = ((text : List ℕ) × (reply ≡ frames.Challenge text)) × (logged_in_at next ≡ None)

-- an outcome Auth, and the server is as before or where it started
abbrev pub Rejected : ServerStage → SaslFrame → ServerStage → Type 0
Rejected kept reply next = (reply ≡ ends_with outcomes.Auth) × ((next ≡ kept) ⊎ (next ≡ NotStarted))

-- an outcome Ok, which fits in a frame, and a user is logged in
abbrev pub Accepted : SaslFrame → ServerStage → Type 0
Accepted reply next = ((more : Option (List ℕ)) × (reply ≡ frames.Outcome outcomes.Ok more)
    × CanBeSent (frames.Outcome outcomes.Ok more)) × ((login : ServerLogin) × (next ≡ UserAuthenticated login))

abbrev pub Kind : ServerStage → SaslFrame → ServerStage → Type 0
Kind kept reply next = Waits reply next ⊎ (Rejected kept reply next ⊎ Accepted reply next)

-- no login is at a stage that equals one without
none_at : (stage next : ServerStage) → next ≡ stage → logged_in_at stage ≡ None → logged_in_at next ≡ None
none_at stage next is none = ap (λ (s : ServerStage). logged_in_at s) is ∙ none

waits : (text : List ℕ) (stage kept next : ServerStage) (reply : SaslFrame) → reply ≡ frames.Challenge text → next ≡ stage
    → logged_in_at stage ≡ None → Kind kept reply next
waits text stage kept next reply is at none = inl ((text, is), none_at stage next at none)

rejects : (kept next : ServerStage) (reply : SaslFrame) → StageRejects kept reply next → Kind kept reply next
rejects kept next reply is = inr (inl (is.0, inl is.1))

restarts : (kept next : ServerStage) (reply : SaslFrame) → StageRejects NotStarted reply next → Kind kept reply next
restarts kept next reply is = inr (inl (is.0, inr is.1))

accepts : (kept next : ServerStage) (reply : SaslFrame) (login : ServerLogin) → reply ≡ ends_with outcomes.Ok
    → next ≡ UserAuthenticated login → Kind kept reply next
accepts kept next reply login is at =
    inr (inr ((None, is, outcomes_fit outcomes.Ok None (omega arith)), (login, at)))

-- ---- inits

asked_kind : (asks : Bool) (mechanism : Mechanism) (kept next : ServerStage) (nonce : List ℕ) (reply : SaslFrame)
    → AsksForResponse asks mechanism kept nonce reply next → Kind kept reply next
asked_kind true mechanism kept next nonce reply is = waits [] (ResponseAsked mechanism nonce) kept next reply is.0 is.1 refl
asked_kind false mechanism kept next nonce reply is = rejects kept next reply is

opened_kind : (version : ScramVersion) (plus : Bool) (kept next : ServerStage)
    (answer : Result (Option (List ℕ × OpenExchange)) ServerScramErrorKind) (reply : SaslFrame)
    → OpensScram version plus kept answer reply next → Kind kept reply next
opened_kind version plus kept next (Ok (Some opened)) reply is =
    waits opened.0 (ExchangeOpen version plus opened.1) kept next reply is.0 is.1 refl
opened_kind version plus kept next (Ok None) reply is = rejects kept next reply is
opened_kind version plus kept next (Err fault) reply is = rejects kept next reply is

init_kind : (settings : ServerSettings) (mechanism : Mechanism) (kept next : ServerStage) (nonce : List ℕ)
    (response : Option (List ℕ)) (reply : SaslFrame) → InitAnswers settings mechanism kept nonce response reply next
    → Kind kept reply next
init_kind settings mechanisms.Anonymous kept next nonce response reply is = accepts kept next reply _ is.0 is.1
init_kind settings mechanisms.External kept next nonce response reply (inl is) = accepts kept next reply _ is.1.0 is.1.1
init_kind settings mechanisms.External kept next nonce response reply (inr is) = rejects kept next reply is.1
init_kind settings mechanisms.Plain kept next nonce None reply is =
    asked_kind settings.extra.initial_response mechanisms.Plain kept next nonce reply is
init_kind settings mechanisms.Plain kept next nonce (Some text) reply (inl is) = accepts kept next reply _ is.2.0 is.2.1
init_kind settings mechanisms.Plain kept next nonce (Some text) reply (inr is) = rejects kept next reply is.1
init_kind settings (mechanisms.Scram version plus) kept next nonce None reply is =
    asked_kind settings.extra.initial_response (mechanisms.Scram version plus) kept next nonce reply is
init_kind settings (mechanisms.Scram version plus) kept next nonce (Some text) reply is =
    opened_kind version plus kept next is.0 reply is.2

found_kind : (settings : ServerSettings) (found : Option Mechanism) (stage next : ServerStage) (nonce : List ℕ)
    (response : Option (List ℕ)) (reply : SaslFrame)
    → MatchOption found (StageRejects stage reply next)
    (λ mechanism. InitAnswers settings mechanism stage nonce response reply next) → Kind stage reply next
found_kind settings None stage next nonce response reply is = rejects stage next reply is
found_kind settings (Some mechanism) stage next nonce response reply is =
    init_kind settings mechanism stage next nonce response reply is

where_kind : (settings : ServerSettings) (asked : Bool) (stage next : ServerStage) (nonce name : List ℕ)
    (response : Option (List ℕ)) (reply : SaslFrame)
    → InitWhere asked settings stage nonce name response reply next → Kind stage reply next
where_kind settings true stage next nonce name response reply is = restarts stage next reply is
where_kind settings false stage next nonce name response reply is =
    found_kind settings (asked_mechanism settings name) stage next nonce response reply is

-- ---- responses

closed_kind : (settings : ServerSettings) (signs : Bool) (version : ScramVersion) (plus : Bool) (exchange : OpenExchange)
    (text : List ℕ) (answer : Result (List ℕ) ServerScramErrorKind) (next : ServerStage) (reply : SaslFrame)
    → AnswersClientFinal (exchange_server settings version plus exchange) text answer
    → ClosesExchange signs version plus exchange answer reply next → Kind (ExchangeOpen version plus exchange) reply next
closed_kind settings true version plus exchange text (Ok message) next reply answers is =
    waits message (SignatureShown _) (ExchangeOpen version plus exchange) next reply is.0 is.1 refl
closed_kind settings false version plus exchange text (Ok message) next reply (final, reads, made) is = inr (inr (
  (
    Some message,
    is.0,
    outcomes_fit outcomes.Ok (Some message) (omega (
      arith,
      ap length made,
      final_text_length (exchange_server settings version plus exchange) final,
    )),
  ),
  (_, is.1),
))
closed_kind settings signs version plus exchange text (Err fault) next reply answers is =
    rejects (ExchangeOpen version plus exchange) next reply is

confirmed_kind : (shown : ServerLogin) (text : List ℕ) (next : ServerStage) (reply : SaslFrame)
    → ConfirmsSignature shown text reply next → Kind (SignatureShown shown) reply next
confirmed_kind shown [] next reply is = accepts (SignatureShown shown) next reply shown is.0 is.1
confirmed_kind shown (byte ∷ text) next reply is = restarts (SignatureShown shown) next reply is

-- what is kept is not the stage before, where a response was asked for
late_kind : (mechanism : Mechanism) (nonce : List ℕ) (next : ServerStage) (reply : SaslFrame) → Kind NotStarted reply next
    → Kind (ResponseAsked mechanism nonce) reply next
late_kind mechanism nonce next reply (inl is) = inl is
late_kind mechanism nonce next reply (inr (inl (is, inl at))) = inr (inl (is, inr at))
late_kind mechanism nonce next reply (inr (inl (is, inr at))) = inr (inl (is, inr at))
late_kind mechanism nonce next reply (inr (inr is)) = inr (inr is)

response_kind : (settings : ServerSettings) (stage next : ServerStage) (text : List ℕ) (reply : SaslFrame)
    → ResponseAnswers settings stage text reply next → Kind stage reply next
response_kind settings (ResponseAsked mechanism nonce) next text reply is =
    late_kind mechanism nonce next reply (init_kind settings mechanism NotStarted next nonce (Some text) reply is)
response_kind settings (ExchangeOpen version plus exchange) next text reply (answer, answers, closes) =
    closed_kind settings settings.extra.signature version plus exchange text answer next reply answers closes
response_kind settings (SignatureShown shown) next text reply is = confirmed_kind shown text next reply is
response_kind settings NotStarted next text reply is = rejects NotStarted next reply is
response_kind settings (UserAuthenticated login) next text reply is =
    rejects (UserAuthenticated login) next reply is

pub machine_kind : (server next : ServerAt) (nonce : List ℕ) (frame reply : SaslFrame)
    → sasl_machine server nonce frame reply next → Kind server.stage reply next.stage
machine_kind server next nonce (frames.Init name response hostname) reply is =
    where_kind server.settings (is_response_asked server.stage) server.stage next.stage nonce name response reply is.1
machine_kind server next nonce (frames.Response text) reply is =
    response_kind server.settings server.stage next.stage text reply is.1
machine_kind server next nonce (frames.Mechanisms names) reply is = absurd is.1
machine_kind server next nonce (frames.Challenge text) reply is = absurd is.1
machine_kind server next nonce (frames.Outcome code more) reply is = absurd is.1

-- ---- a step that was sent as a challenge

pub challenge_has_memory : (body : List ℕ) → HasMemory (Challenged body)
challenge_has_memory body same = cc

-- what a step was that was sent as a challenge
pub record Challenge (server next : ServerAt) (nonce : List ℕ) (frame : SaslFrame) : Type 0 where
  pub reply : SaslFrame
  pub is : (text : List ℕ) × (reply ≡ frames.Challenge text)
  pub by : sasl_machine server nonce frame reply next
  pub waits : logged_in_at next.stage ≡ None

pub challenge : (server next : ServerAt) (nonce : List ℕ) (frame : SaslFrame) (body : List ℕ)
    → Stepped sasl_machine server next nonce frame (Challenged body) → Challenge server next nonce frame
challenge server next nonce frame body stepped =
    go (machine_kind server stepped.moved nonce frame stepped.reply stepped.by)
  where
    at : next ≡ stepped.moved
    at = sent_challenge stepped.reply _ server stepped.moved next body stepped.sends

    go : Kind server.stage stepped.reply stepped.moved.stage → Challenge server next nonce frame
    go (inl waits) = record {
      reply = stepped.reply;
      is = waits.0;
      by = subst (λ (s : ServerAt). sasl_machine server nonce frame stepped.reply s) (sym at) stepped.by;
      waits = ap (λ (s : ServerAt). logged_in_at s.stage) at ∙ waits.1;
    }
    go (inr (inl rejected)) =
        absurd (sent_no_outcome stepped.reply _ _ _ server stepped.moved next body rejected.0 stepped.sends)
    go (inr (inr accepted)) =
        absurd (sent_no_outcome stepped.reply _ _ _ server stepped.moved next body accepted.0.1 stepped.sends)
