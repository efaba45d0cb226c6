-- The machine of a server of all mechanisms is a function.
use Rattle.std.proofs.Common.{◌≡◌, ◌∙◌, ℕ, Bool, true, false, Option, Some, None, List, [], ◌∷◌, Result, Ok, Err, ap, sym, refl, inl, inr}
use Rattle.std.specs.Prelude.{MatchOption}
use Rattle.fe2o3_sasl_wire.specs.SaslFrames as frames
use Rattle.fe2o3_sasl_wire.specs.SaslFrames.{SaslFrame}
use Rattle.fe2o3_sasl_wire.specs.declared.amqp_types.SaslCode.TheVariants as outcomes
use Rattle.fe2o3_scram.specs.ChannelBinding.{server_mechanism}
use Rattle.fe2o3_scram.specs.Credentials.{Provider, with_rights}
use Rattle.fe2o3_scram.specs.ScramServer.{BeginsExchange, ServerState, Initial, ServerFirstSent, ServerFinalSent}
use Rattle.fe2o3_scram.specs.ServerFinal.{AnswersClientFinal}
use Rattle.fe2o3_scram.specs.ServerFirst.{OpenExchange}
use Rattle.fe2o3_scram.specs.declared.hmac.ScramVersion.{ScramVersion}
use Rattle.fe2o3_scram.specs.declared.scram_messages.error.ServerScramErrorKind.{ServerScramErrorKind}
use Rattle.fe2o3_sasl_core.specs.LoginAttempts.{Attempt, ClaimIn, IsAttempt, LateClaim, RecordsResponse, with_late}
use Rattle.fe2o3_sasl_core.specs.PlainServer.{asked_identity}
use Rattle.fe2o3_sasl_core.specs.SaslAcceptor.{Acceptor, ScramAcceptor, acceptor_machine, ends_with}
use Rattle.fe2o3_sasl_core.specs.Servers.{AsksForResponse, ClosesExchange, ConfirmsSignature, ExchangeOpen, InitAnswers, InitWhere, NotStarted, OpensScram, ResponseAnswers, ResponseAsked, ServerLogin, ServerSettings, ServerStage, SignatureShown, StageRejects, UserAuthenticated, asked_mechanism, exchange_server, is_response_asked, provider_by, sasl_machine}
use Rattle.fe2o3_sasl_core.specs.declared.mechanism.Mechanism.{Mechanism}
use Rattle.fe2o3_sasl_core.specs.declared.mechanism.Mechanism.TheVariants as mechanisms
use Rattle.fe2o3_sasl_core.proofs.lemmas.machines.ClaimLemmas.{one_claim}
use Rattle.fe2o3_sasl_core.proofs.lemmas.machines.OneReplyLemmas.{one_acceptor_reply}
use Rattle.fe2o3_sasl_core.proofs.lemmas.machines.PlainMessageLemmas.{one_message}
use Rattle.connection_laws.specs.Cuts.{IsFunction}

-- two replies and two stages are one
abbrev AreOne : SaslFrame → SaslFrame → ServerStage → ServerStage → Type 0
AreOne reply other next last = (reply ≡ other) × (next ≡ last)

-- ---- SCRAM, as one of its acceptors by itself

abbrev Opened : Type 0
Opened = Result (Option (List ℕ × OpenExchange)) ServerScramErrorKind

abbrev reply_of : Opened → SaslFrame
reply_of (Ok (Some opened)) = frames.Challenge opened.0
reply_of answer = ends_with outcomes.Auth

abbrev state_of : Opened → ServerState
state_of (Ok (Some opened)) = ServerFirstSent opened.1.challenge opened.1.stored
state_of answer = Initial

abbrev stage_from : ScramVersion → Bool → ServerStage → Acceptor → ServerStage
stage_from version plus kept (ScramAcceptor provider (ServerFirstSent challenge stored)) =
    ExchangeOpen version plus (record { challenge = challenge; stored = stored })
stage_from version plus kept acceptor = kept

begun : (provider : Provider) (nonce text : List ℕ) (answer : Opened) → BeginsExchange provider nonce text answer
    → acceptor_machine (ScramAcceptor provider Initial) nonce
    (frames.Init (server_mechanism provider.version provider.rules) (Some text) None) (reply_of answer)
    (ScramAcceptor provider (state_of answer))
begun provider nonce text (Ok (Some opened)) is = inr (
  refl,
  (
    Ok (Some opened.0),
    ServerFirstSent opened.1.challenge opened.1.stored,
    (opened.1.challenge, is.0, is.1, (opened.1.stored, is.2, refl)),
    refl,
    refl,
  ),
)
begun provider nonce text (Ok None) is = inr (refl, (Ok None, Initial, (is, refl), refl, refl))
begun provider nonce text (Err fault) is = inr (refl, (Err fault, Initial, (is, refl), refl, refl))

opens_so : (provider : Provider) (version : ScramVersion) (plus : Bool) (kept next : ServerStage) (answer : Opened)
    (reply : SaslFrame) → OpensScram version plus kept answer reply next
    → AreOne reply (reply_of answer) next (stage_from version plus kept (ScramAcceptor provider (state_of answer)))
opens_so provider version plus kept next (Ok (Some opened)) reply is = is
opens_so provider version plus kept next (Ok None) reply is = is
opens_so provider version plus kept next (Err fault) reply is = is

pub one_opened : (provider : Provider) (version : ScramVersion) (plus : Bool) (kept next last : ServerStage)
    (nonce text : List ℕ) (answer again : Opened) (reply other : SaslFrame)
    → BeginsExchange provider nonce text answer → OpensScram version plus kept answer reply next
    → BeginsExchange provider nonce text again → OpensScram version plus kept again other last
    → AreOne reply other next last
one_opened provider version plus kept next last nonce text answer again reply other begins opens also too =
    let one = one_acceptor_reply (ScramAcceptor provider Initial) nonce
    (frames.Init (server_mechanism provider.version provider.rules) (Some text) None) (reply_of answer) (reply_of again)
    (ScramAcceptor provider (state_of answer)) (ScramAcceptor provider (state_of again))
    (begun provider nonce text answer begins) (begun provider nonce text again also) in
    let first = opens_so provider version plus kept next answer reply opens in
    let second = opens_so provider version plus kept last again other too in (
      first.0 ∙ (one.0 ∙ sym second.0),
      first.1 ∙ (ap (λ (it : Acceptor). stage_from version plus kept it) one.1 ∙ sym second.1),
    )

abbrev final_reply : Result (List ℕ) ServerScramErrorKind → SaslFrame
final_reply (Ok message) = frames.Outcome outcomes.Ok (Some message)
final_reply (Err fault) = ends_with outcomes.Auth

abbrev final_state : OpenExchange → Result (List ℕ) ServerScramErrorKind → ServerState
final_state exchange (Ok message) = ServerFinalSent exchange.challenge.user exchange.challenge.header.acts_for
final_state exchange (Err fault) = ServerFirstSent exchange.challenge exchange.stored

abbrev exchange_acceptor : ServerSettings → ScramVersion → Bool → ServerState → Acceptor
exchange_acceptor settings version plus state =
    ScramAcceptor (with_rights settings.rights (provider_by settings version plus)) state

concluded : (settings : ServerSettings) (version : ScramVersion) (plus : Bool) (exchange : OpenExchange)
    (text : List ℕ) (answer : Result (List ℕ) ServerScramErrorKind)
    → AnswersClientFinal (exchange_server settings version plus exchange) text answer
    → acceptor_machine
    (exchange_acceptor settings version plus (ServerFirstSent exchange.challenge exchange.stored)) []
    (frames.Response text) (final_reply answer)
    (exchange_acceptor settings version plus (final_state exchange answer))
concluded settings version plus exchange text (Ok message) answers = (
  Ok (Some message),
  final_state exchange (Ok message),
  (answers, refl),
  refl,
  refl,
)
concluded settings version plus exchange text (Err fault) answers = (
  Err fault,
  final_state exchange (Err fault),
  (answers, refl),
  refl,
  refl,
)

one_closed : (signs : Bool) (version : ScramVersion) (plus : Bool) (exchange : OpenExchange)
    (answer again : Result (List ℕ) ServerScramErrorKind) (reply other : SaslFrame) (next last : ServerStage)
    → final_reply answer ≡ final_reply again → ClosesExchange signs version plus exchange answer reply next
    → ClosesExchange signs version plus exchange again other last → AreOne reply other next last
one_closed true version plus exchange (Ok message) (Ok too) reply other next last one is also =
    let same : message ≡ too = cc in
    (is.0 ∙ (ap (λ (m : List ℕ). frames.Challenge m) same ∙ sym also.0), is.1 ∙ sym also.1)
one_closed false version plus exchange (Ok message) (Ok too) reply other next last one is also =
    (is.0 ∙ (one ∙ sym also.0), is.1 ∙ sym also.1)
one_closed signs version plus exchange (Ok message) (Err fault) reply other next last one is also = absurd (cc)
one_closed signs version plus exchange (Err fault) (Ok message) reply other next last one is also = absurd (cc)
one_closed signs version plus exchange (Err fault) (Err too) reply other next last one is also =
    (is.0 ∙ sym also.0, is.1 ∙ sym also.1)

one_answer : (settings : ServerSettings) (version : ScramVersion) (plus : Bool) (exchange : OpenExchange)
    (text : List ℕ) (answer again : Result (List ℕ) ServerScramErrorKind)
    → AnswersClientFinal (exchange_server settings version plus exchange) text answer
    → AnswersClientFinal (exchange_server settings version plus exchange) text again
    → final_reply answer ≡ final_reply again
one_answer settings version plus exchange text answer again is too =
    (one_acceptor_reply
    (exchange_acceptor settings version plus (ServerFirstSent exchange.challenge exchange.stored)) []
    (frames.Response text) (final_reply answer) (final_reply again)
    (exchange_acceptor settings version plus (final_state exchange answer))
    (exchange_acceptor settings version plus (final_state exchange again))
    (concluded settings version plus exchange text answer is)
    (concluded settings version plus exchange text again too)).0

-- ---- inits

one_asked : (asks : Bool) (mechanism : Mechanism) (kept next last : ServerStage) (nonce : List ℕ) (reply other : SaslFrame)
    → AsksForResponse asks mechanism kept nonce reply next → AsksForResponse asks mechanism kept nonce other last
    → AreOne reply other next last
one_asked true mechanism kept next last nonce reply other is too = (is.0 ∙ sym too.0, is.1 ∙ sym too.1)
one_asked false mechanism kept next last nonce reply other is too = (is.0 ∙ sym too.0, is.1 ∙ sym too.1)

one_init : (settings : ServerSettings) (mechanism : Mechanism) (kept next last : ServerStage) (nonce : List ℕ)
    (response : Option (List ℕ)) (reply other : SaslFrame)
    → InitAnswers settings mechanism kept nonce response reply next
    → InitAnswers settings mechanism kept nonce response other last → AreOne reply other next last
one_init settings mechanisms.Anonymous kept next last nonce response reply other is too =
    (is.0 ∙ sym too.0, is.1 ∙ sym too.1)
one_init settings mechanisms.External kept next last nonce response reply other (inl is) (inl too) =
    (is.1.0 ∙ sym too.1.0, is.1.1 ∙ sym too.1.1)
one_init settings mechanisms.External kept next last nonce response reply other (inl is) (inr too) = absurd (too.0 is.0)
one_init settings mechanisms.External kept next last nonce response reply other (inr is) (inl too) = absurd (is.0 too.0)
one_init settings mechanisms.External kept next last nonce response reply other (inr is) (inr too) =
    (is.1.0 ∙ sym too.1.0, is.1.1 ∙ sym too.1.1)
one_init settings mechanisms.Plain kept next last nonce None reply other is too =
    one_asked settings.extra.initial_response mechanisms.Plain kept next last nonce reply other is too
one_init settings mechanisms.Plain kept next last nonce (Some text) reply other (inl is) (inl too) =
    let one = one_message text is.0 too.0 is.1.0 too.1.0 in (
      is.2.0 ∙ sym too.2.0,
      is.2.1 ∙ ((λ i. UserAuthenticated (record {
        mechanism = mechanisms.Plain;
        user = Some (one i).user;
        acts_for = asked_identity (one i);
      })) ∙ sym too.2.1),
    )
one_init settings mechanisms.Plain kept next last nonce (Some text) reply other (inl is) (inr too) =
    absurd (too.0 is.0 is.1)
one_init settings mechanisms.Plain kept next last nonce (Some text) reply other (inr is) (inl too) =
    absurd (is.0 too.0 too.1)
one_init settings mechanisms.Plain kept next last nonce (Some text) reply other (inr is) (inr too) =
    (is.1.0 ∙ sym too.1.0, is.1.1 ∙ sym too.1.1)
one_init settings (mechanisms.Scram version plus) kept next last nonce None reply other is too =
    one_asked settings.extra.initial_response (mechanisms.Scram version plus) kept next last nonce reply other is too
one_init settings (mechanisms.Scram version plus) kept next last nonce (Some text) reply other is too =
    one_opened (provider_by settings version plus) version plus kept next last nonce text is.0 too.0 reply other is.1 is.2
    too.1 too.2

one_found : (settings : ServerSettings) (found : Option Mechanism) (stage next last : ServerStage) (nonce : List ℕ)
    (response : Option (List ℕ)) (reply other : SaslFrame)
    → MatchOption found (StageRejects stage reply next)
    (λ mechanism. InitAnswers settings mechanism stage nonce response reply next)
    → MatchOption found (StageRejects stage other last)
    (λ mechanism. InitAnswers settings mechanism stage nonce response other last) → AreOne reply other next last
one_found settings None stage next last nonce response reply other is too = (is.0 ∙ sym too.0, is.1 ∙ sym too.1)
one_found settings (Some mechanism) stage next last nonce response reply other is too =
    one_init settings mechanism stage next last nonce response reply other is too

one_where : (settings : ServerSettings) (asked : Bool) (stage next last : ServerStage) (nonce name : List ℕ)
    (response : Option (List ℕ)) (reply other : SaslFrame)
    → InitWhere asked settings stage nonce name response reply next
    → InitWhere asked settings stage nonce name response other last → AreOne reply other next last
one_where settings true stage next last nonce name response reply other is too =
    (is.0 ∙ sym too.0, is.1 ∙ sym too.1)
one_where settings false stage next last nonce name response reply other is too =
    one_found settings (asked_mechanism settings name) stage next last nonce response reply other is too

-- ---- responses

one_confirmed : (shown : ServerLogin) (text : List ℕ) (next last : ServerStage) (reply other : SaslFrame)
    → ConfirmsSignature shown text reply next → ConfirmsSignature shown text other last → AreOne reply other next last
one_confirmed shown [] next last reply other is too = (is.0 ∙ sym too.0, is.1 ∙ sym too.1)
one_confirmed shown (byte ∷ text) next last reply other is too = (is.0 ∙ sym too.0, is.1 ∙ sym too.1)

one_response : (settings : ServerSettings) (stage next last : ServerStage) (text : List ℕ) (reply other : SaslFrame)
    → ResponseAnswers settings stage text reply next → ResponseAnswers settings stage text other last
    → AreOne reply other next last
one_response settings (ResponseAsked mechanism nonce) next last text reply other is too =
    one_init settings mechanism NotStarted next last nonce (Some text) reply other is too
one_response settings (ExchangeOpen version plus exchange) next last text reply other is too =
    one_closed settings.extra.signature version plus exchange is.0 too.0 reply other next last
    (one_answer settings version plus exchange text is.0 too.0 is.1 too.1) is.2 too.2
one_response settings (SignatureShown shown) next last text reply other is too =
    one_confirmed shown text next last reply other is too
one_response settings NotStarted next last text reply other is too = (is.0 ∙ sym too.0, is.1 ∙ sym too.1)
one_response settings (UserAuthenticated login) next last text reply other is too =
    (is.0 ∙ sym too.0, is.1 ∙ sym too.1)

-- ---- claims

one_claim_in : (mechanism : List ℕ) (response user other : Option (List ℕ)) → ClaimIn mechanism response user
    → ClaimIn mechanism response other → user ≡ other
one_claim_in mechanism (Some text) user other is too = one_claim mechanism text user other is too
one_claim_in mechanism None user other is too = is ∙ sym too

one_attempt : (mechanism : List ℕ) (response hostname : Option (List ℕ)) (attempt other : Attempt)
    → IsAttempt (frames.Init mechanism response hostname) attempt
    → IsAttempt (frames.Init mechanism response hostname) other → attempt ≡ other
one_attempt mechanism response hostname attempt other is too = λ i. record {
  mechanism = (is.0 ∙ sym too.0) i;
  user = one_claim_in mechanism response attempt.user other.user is.1 too.1 i;
  hostname = (is.2 ∙ sym too.2) i;
}

one_late : (user : Option (List ℕ)) (mechanism text : List ℕ) (late other : Option (List ℕ))
    → LateClaim user mechanism text late → LateClaim user mechanism text other → late ≡ other
one_late (Some user) mechanism text late other is too = is ∙ sym too
one_late None mechanism text late other is too = one_claim mechanism text late other is too

one_recorded : (text : List ℕ) (before after also : Option Attempt) → RecordsResponse text before after
    → RecordsResponse text before also → after ≡ also
one_recorded text None after also is too = is ∙ sym too
one_recorded text (Some attempt) after also is too =
    let one = one_late attempt.user attempt.mechanism text is.0 too.0 is.1 too.1 in
    is.2 ∙ (ap (λ (late : Option (List ℕ)). Some (with_late attempt late)) one ∙ sym too.2)

pub server_is_function : IsFunction sasl_machine
server_is_function server nonce (frames.Init name response hostname) reply other next last is too =
    let one = one_where server.settings (is_response_asked server.stage) server.stage next.stage last.stage nonce name
    response reply other is.1 too.1 in
    let attempt = one_attempt name response hostname is.2.0 too.2.0 is.2.1 too.2.1 in
    let kept = is.2.2 ∙ (ap (λ (it : Attempt). Some it) attempt ∙ sym too.2.2) in
    (one.0, λ i. record { settings = (is.0 ∙ sym too.0) i; stage = one.1 i; last = kept i })
server_is_function server nonce (frames.Response text) reply other next last is too =
    let one = one_response server.settings server.stage next.stage last.stage text reply other is.1 too.1 in
    let kept = one_recorded text server.last next.last last.last is.2 too.2 in
    (one.0, λ i. record { settings = (is.0 ∙ sym too.0) i; stage = one.1 i; last = kept i })
server_is_function server nonce (frames.Mechanisms names) reply other next last is too = absurd is.1
server_is_function server nonce (frames.Challenge text) reply other next last is too = absurd is.1
server_is_function server nonce (frames.Outcome code more) reply other next last is too = absurd is.1
