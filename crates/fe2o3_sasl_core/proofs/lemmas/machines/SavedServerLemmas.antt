-- A server that is saved and restored between two frames is as before.
use Rattle.std.proofs.Common.{refl, sym, ap, subst, inl, inr, arith, ◌∙◌, ◌≡◌, ◌<◌, ◌∷◌, ◌&&◌, ◌||◌, ℕ, List, []}
use Rattle.std.specs.Prelude.{Bool, true, false, not, is_some, if◌then◌else◌, Option, Some, None, MatchOption, Result, Ok, Err, length, nat_eq}
use Rattle.std.specs.Cmp.Lexicographic.{pointwise}
use Rattle.fe2o3_sasl_wire.specs.SaslFrames as frames
use Rattle.fe2o3_sasl_wire.specs.SaslFrames.{SaslFrame}
use Rattle.fe2o3_scram.proofs.lemmas.hashes.DigestLemmas.{length-digest}
use Rattle.fe2o3_scram.specs.ChannelBinding.{AcceptsFlag, TakesFlag, is_required}
use Rattle.fe2o3_scram.specs.ClientFinal.{ClientFinal, ReadsClientFinal, Server}
use Rattle.fe2o3_scram.specs.ClientFirst.{ClientFirst, ReadsClientFirst}
use Rattle.fe2o3_scram.specs.Credentials.{Record}
use Rattle.fe2o3_scram.specs.Hmac.{digest_len}
use Rattle.fe2o3_scram.specs.ScramServer.{BeginsExchange, server_against}
use Rattle.fe2o3_scram.specs.ServerFirst.{OpenExchange, ServerChallenge}
use Rattle.fe2o3_scram.specs.declared.channel_binding.ChannelBindings.{ChannelBindings}
use Rattle.fe2o3_scram.specs.declared.hmac.ScramVersion.{ScramVersion}
use Rattle.fe2o3_scram.specs.declared.hmac.ScramVersion.TheVariants as versions
use Rattle.fe2o3_scram.specs.declared.scram_messages.channel_binding_flag.ChannelBindingFlag.{ChannelBindingFlag}
use Rattle.fe2o3_scram.specs.declared.scram_messages.channel_binding_flag.ChannelBindingFlag.TheVariants.{NotSupported, ClientSupports, Required}
use Rattle.fe2o3_scram.specs.declared.scram_messages.error.ServerScramErrorKind.{ServerScramErrorKind}
use Rattle.fe2o3_scram.specs.declared.scram_messages.server_rules.ServerRules.{ServerRules}
use Rattle.fe2o3_sasl_core.specs.SavedServers.{IsRestored, NoRecordIsUnmet, RestoredStagesAreEqual, no_record, or_no_record, record_now}
use Rattle.fe2o3_sasl_core.specs.Mechanisms.{mechanism_symbol}
use Rattle.fe2o3_sasl_core.specs.Servers.{AsksForResponse, ClosesExchange, ConfirmsSignature, ExchangeOpen, InitAnswers, InitWhere, NotStarted, OpensScram, ResponseAnswers, ResponseAsked, SendsSignature, ServerLogin, ServerSettings, ServerStage, SignatureShown, StageAnswers, StageRejects, UserAuthenticated, asked_among, asked_mechanism, exchange_login, has_hash, is_asked_by, is_offered_by, is_response_asked, offer_order, provider_by, rules_by}
use Rattle.fe2o3_sasl_core.specs.declared.mechanism.Mechanism.{Mechanism}
use Rattle.fe2o3_sasl_core.specs.declared.mechanism.Mechanism.TheVariants as mechanisms

-- ---- a record without keys

some_digest : (version : ScramVersion) → 0 < digest_len version
some_digest versions.Sha1 = omega arith
some_digest versions.Sha256 = omega arith
some_digest versions.Sha512 = omega arith

-- a digest has bytes, and the stored key has none
never_read : (server : Server) (text : List ℕ) (final : ClientFinal) → server.stored.stored_key ≡ []
    → ReadsClientFinal server text (Ok final) → ⊥
unfolding ReadsClientFinal
never_read server text final none (read, sized, (meets, may)) =
    let empty : digest_len server.version ≡ 0 = sym (length-digest server.version _) ∙ ap length (meets ∙ none) in
    absurd (omega (arith, empty, some_digest server.version))

pub never_met : NoRecordIsUnmet
unfolding NoRecordIsUnmet
never_met challenge version rules rights text message next ((final, read, sent), state) =
    never_read (server_against version rules rights challenge no_record) text final refl read

-- ---- what is offered

and_left : (one other : Bool) → (one && other) ≡ true → one ≡ true
and_left true other is = refl
and_left false other is = absurd (cc)

and_right : (one other : Bool) → (one && other) ≡ true → other ≡ true
and_right true other is = is
and_right false other is = absurd (cc)

-- a mechanism that a name asks for is offered
module _ (settings : ServerSettings) (name : List ℕ) (mechanism : Mechanism) where
  asked_of : (first : Mechanism) (rest : Option Mechanism) (is : Bool) → is_asked_by settings name first ≡ is
      → (if is then Some first else rest) ≡ Some mechanism → (rest ≡ Some mechanism → is_offered_by settings mechanism ≡ true)
      → is_offered_by settings mechanism ≡ true
  asked_of first rest true asks same later =
      let one : first ≡ mechanism = cc in
      subst (λ (w : Mechanism). is_offered_by settings w ≡ true) one
      (and_left (is_offered_by settings first) (pointwise nat_eq name (mechanism_symbol first)) asks)
  asked_of first rest false asks same later = later same

  asked_offered : (order : List Mechanism) → asked_among settings name order ≡ Some mechanism
      → is_offered_by settings mechanism ≡ true
  asked_offered [] same = absurd (cc)
  asked_offered (first ∷ others) same =
      asked_of first (asked_among settings name others) _ refl same (asked_offered others)

-- a client's header binds a channel exactly at SCRAM with -PLUS, which is offered only with a channel
bound_flag : (channels : Option ChannelBindings) (accepts : Bool) (flag : ChannelBindingFlag) → is_some channels ≡ true
    → TakesFlag channels accepts flag → is_required flag ≡ true
bound_flag None accepts flag some takes = absurd (cc)
bound_flag (Some channels) accepts NotSupported some takes = absurd takes
bound_flag (Some channels) accepts ClientSupports some takes = absurd takes
bound_flag (Some channels) accepts (Required kind) some takes = refl

binds_with : (plus : Bool) (rules : ServerRules) (flag : ChannelBindingFlag) → (not plus || is_some rules.channels) ≡ true
    → AcceptsFlag (rules_by plus rules) flag → is_required flag ≡ plus
binds_with true rules flag some takes = bound_flag rules.channels rules.accept_cbind_flag_y flag some takes
binds_with false rules NotSupported some takes = refl
binds_with false rules ClientSupports some takes = refl
binds_with false rules (Required kind) some takes = absurd takes

read_with : (plus : Bool) (rules : ServerRules) (text : List ℕ) (client : ClientFirst)
    → (not plus || is_some rules.channels) ≡ true → ReadsClientFirst (rules_by plus rules) text (Ok client)
    → is_required client.header.flag ≡ plus
unfolding ReadsClientFirst
read_with plus rules text client some (none, names) = binds_with plus rules client.header.flag some names.header.0

-- ---- one frame

module _ (settings : ServerSettings) where
  abbrev Is : ServerStage → Type 0
  Is = IsRestored settings

  nothing : Is NotStarted
  unfolding IsRestored
  nothing = refl

  signature : (login : ServerLogin) → Is (SignatureShown login)
  unfolding IsRestored
  signature login = refl

  logged_in : (login : ServerLogin) → Is (UserAuthenticated login)
  unfolding IsRestored
  logged_in login = refl

  asks : (mechanism : Mechanism) (nonce : List ℕ) → is_offered_by settings mechanism ≡ true → Is (ResponseAsked mechanism nonce)
  unfolding IsRestored
  asks mechanism nonce offers = ap (λ (is : Bool). if is then ResponseAsked mechanism nonce else NotStarted) offers

  offers_so : (mechanism : Mechanism) (nonce : List ℕ) (is : Bool)
      → (if is then ResponseAsked mechanism nonce else NotStarted) ≡ ResponseAsked mechanism nonce → is ≡ true
  offers_so mechanism nonce true same = refl
  offers_so mechanism nonce false same = absurd (cc)

  offered : (mechanism : Mechanism) (nonce : List ℕ) → Is (ResponseAsked mechanism nonce)
      → is_offered_by settings mechanism ≡ true
  unfolding IsRestored
  offered mechanism nonce was = offers_so mechanism nonce (is_offered_by settings mechanism) was

  abbrev exchange_with : ScramVersion → ServerChallenge → Bool → ServerStage
  exchange_with version challenge plus = if is_offered_by settings (mechanisms.Scram version plus)
      then ExchangeOpen version plus (record {
        challenge = challenge;
        stored = record_now settings version plus challenge.user;
      }) else NotStarted

  opens : (version : ScramVersion) (plus : Bool) (exchange : OpenExchange)
      → is_offered_by settings (mechanisms.Scram version plus) ≡ true
      → is_required exchange.challenge.header.flag ≡ plus
      → record_now settings version plus exchange.challenge.user ≡ exchange.stored → Is (ExchangeOpen version plus exchange)
  unfolding IsRestored
  opens version plus exchange offers binds same = ap (exchange_with version exchange.challenge) binds
      ∙ (ap (λ (is : Bool). if is then opened (record_now settings version plus exchange.challenge.user) else NotStarted) offers
      ∙ ap opened same)
    where
      opened : Record → ServerStage
      opened stored = ExchangeOpen version plus (record { challenge = exchange.challenge; stored = stored })

  then_is : (stage next : ServerStage) → next ≡ stage → Is stage → Is next
  then_is stage next same is = subst Is (sym same) is

  asks_for : (does : Bool) (mechanism : Mechanism) (kept : ServerStage) (nonce : List ℕ) (reply : SaslFrame) (next : ServerStage)
      → is_offered_by settings mechanism ≡ true → Is kept → AsksForResponse does mechanism kept nonce reply next → Is next
  asks_for true mechanism kept nonce reply next offers was is = then_is _ next is.1 (asks mechanism nonce offers)
  asks_for false mechanism kept nonce reply next offers was is = then_is kept next is.1 was

  begins : (version : ScramVersion) (plus : Bool) (kept : ServerStage) (nonce text : List ℕ)
      (answer : Result (Option (List ℕ × OpenExchange)) ServerScramErrorKind) (reply : SaslFrame) (next : ServerStage)
      → is_offered_by settings (mechanisms.Scram version plus) ≡ true → Is kept
      → BeginsExchange (provider_by settings version plus) nonce text answer
      → OpensScram version plus kept answer reply next → Is next
  begins version plus kept nonce text (Ok (Some made)) reply next offers was
      ((client, stored, read, known, made_of), sent, found) is = then_is _ next is.1 (opens version plus made.1 offers
      (ap (λ (challenge : ServerChallenge). is_required challenge.header.flag) made_of
      ∙ read_with plus settings.rules text client
      (and_right (has_hash settings.mechanisms version) (not plus || is_some settings.rules.channels) offers) read)
      (ap or_no_record found))
  begins version plus kept nonce text (Ok None) reply next offers was held is = then_is kept next is.1 was
  begins version plus kept nonce text (Err fault) reply next offers was held is = then_is kept next is.1 was

  init_goes : (mechanism : Mechanism) (kept : ServerStage) (nonce : List ℕ) (response : Option (List ℕ)) (reply : SaslFrame)
      (next : ServerStage) → is_offered_by settings mechanism ≡ true → Is kept
      → InitAnswers settings mechanism kept nonce response reply next → Is next
  init_goes mechanisms.Anonymous kept nonce response reply next offers was is = then_is _ next is.1 (logged_in _)
  init_goes mechanisms.External kept nonce response reply next offers was (inl (asked, is)) =
      then_is _ next is.1 (logged_in _)
  init_goes mechanisms.External kept nonce response reply next offers was (inr (other, is)) = then_is kept next is.1 was
  init_goes mechanisms.Plain kept nonce None reply next offers was is =
      asks_for settings.extra.initial_response mechanisms.Plain kept nonce reply next offers was is
  init_goes mechanisms.Plain kept nonce (Some text) reply next offers was (inl (parts, lets, is)) =
      then_is _ next is.1 (logged_in _)
  init_goes mechanisms.Plain kept nonce (Some text) reply next offers was (inr (none, is)) = then_is kept next is.1 was
  init_goes (mechanisms.Scram version plus) kept nonce None reply next offers was is =
      asks_for settings.extra.initial_response (mechanisms.Scram version plus) kept nonce reply next offers was is
  init_goes (mechanisms.Scram version plus) kept nonce (Some text) reply next offers was (answer, held, is) =
      begins version plus kept nonce text answer reply next offers was held is

  asked_goes : (asked : Option Mechanism) (stage : ServerStage) (nonce : List ℕ) (response : Option (List ℕ))
      (reply : SaslFrame) (next : ServerStage)
      → ((mechanism : Mechanism) → asked ≡ Some mechanism → is_offered_by settings mechanism ≡ true) → Is stage
      → MatchOption asked (StageRejects stage reply next)
      (λ mechanism. InitAnswers settings mechanism stage nonce response reply next) → Is next
  asked_goes None stage nonce response reply next offers was is = then_is stage next is.1 was
  asked_goes (Some mechanism) stage nonce response reply next offers was is =
      init_goes mechanism stage nonce response reply next (offers mechanism refl) was is

  init_where : (due : Bool) (stage : ServerStage) (nonce name : List ℕ) (response : Option (List ℕ)) (reply : SaslFrame)
      (next : ServerStage) → Is stage → InitWhere due settings stage nonce name response reply next → Is next
  init_where true stage nonce name response reply next was is = then_is NotStarted next is.1 nothing
  init_where false stage nonce name response reply next was is =
      asked_goes (asked_mechanism settings name) stage nonce response reply next
      (λ mechanism same. asked_offered settings name mechanism offer_order same) was is

  sends : (signs : Bool) (login : ServerLogin) (message : List ℕ) (reply : SaslFrame) (next : ServerStage)
      → SendsSignature signs login message reply next → Is next
  sends true login message reply next is = then_is _ next is.1 (signature login)
  sends false login message reply next is = then_is _ next is.1 (logged_in login)

  closes : (version : ScramVersion) (plus : Bool) (exchange : OpenExchange) (answer : Result (List ℕ) ServerScramErrorKind)
      (reply : SaslFrame) (next : ServerStage) → Is (ExchangeOpen version plus exchange)
      → ClosesExchange settings.extra.signature version plus exchange answer reply next → Is next
  closes version plus exchange (Ok message) reply next was is =
      sends settings.extra.signature (exchange_login version plus exchange) message reply next is
  closes version plus exchange (Err fault) reply next was is = then_is _ next is.1 was

  confirms : (login : ServerLogin) (text : List ℕ) (reply : SaslFrame) (next : ServerStage)
      → ConfirmsSignature login text reply next → Is next
  confirms login [] reply next is = then_is _ next is.1 (logged_in login)
  confirms login (byte ∷ text) reply next is = then_is _ next is.1 nothing

  response_goes : (stage : ServerStage) (text : List ℕ) (reply : SaslFrame) (next : ServerStage) → Is stage
      → ResponseAnswers settings stage text reply next → Is next
  response_goes (ResponseAsked mechanism nonce) text reply next was is =
      init_goes mechanism NotStarted nonce (Some text) reply next (offered mechanism nonce was) nothing is
  response_goes (ExchangeOpen version plus exchange) text reply next was (answer, held, is) =
      closes version plus exchange answer reply next was is
  response_goes (SignatureShown login) text reply next was is = confirms login text reply next is
  response_goes NotStarted text reply next was is = then_is _ next is.1 was
  response_goes (UserAuthenticated login) text reply next was is = then_is _ next is.1 was

  pub stage_goes : (stage next : ServerStage) (nonce : List ℕ) (frame reply : SaslFrame) → Is stage
      → StageAnswers settings stage nonce frame reply next → Is next
  stage_goes stage next nonce (frames.Init name response hostname) reply was is =
      init_where (is_response_asked stage) stage nonce name response reply next was is
  stage_goes stage next nonce (frames.Response text) reply was is = response_goes stage text reply next was is
  stage_goes stage next nonce (frames.Mechanisms names) reply was is = absurd is
  stage_goes stage next nonce (frames.Challenge text) reply was is = absurd is
  stage_goes stage next nonce (frames.Outcome code more) reply was is = absurd is

pub restored_stages : RestoredStagesAreEqual
restored_stages settings = (nothing settings, stage_goes settings)
