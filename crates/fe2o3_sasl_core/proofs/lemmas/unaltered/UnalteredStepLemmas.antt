-- What each body of an unaltered login is answered, given what was said before it.
use Rattle.std.proofs.Common.{◌≡◌, ◌<◌, ◌^◌, ℕ, Bool, Option, Some, None, List, [], ◌∷◌, ◌++◌, codes, refl, sym, ap, ◌∙◌, subst, arith, Result, Ok}
use Rattle.std.specs.Prelude.{is_some, slice_get}
use Rattle.std.specs.Fmt.{decimal}
use Rattle.std.specs.Str.{IsUtf8}
use Rattle.std.proofs.lemmas.Fmt.{IsAscii-decimal}
use Rattle.std.proofs.lemmas.Option.{same_Some}
use Rattle.std.proofs.lemmas.Str.{IsUtf8-append, IsUtf8-from_ascii}
use Rattle.fe2o3_sasl_wire.specs.declared.amqp_types.SaslCode.TheVariants as outcomes
use Rattle.fe2o3_sasl_wire.specs.declared.sasl_frames.error.Error.{Error}
use Rattle.fe2o3_sasl_wire.specs.SaslFrames.{canonical, SaslFrame}
use Rattle.fe2o3_sasl_wire.specs.SaslFrames as frames
use Rattle.fe2o3_scram.specs.declared.hmac.ScramVersion.{ScramVersion}
use Rattle.fe2o3_scram.specs.declared.scram_messages.server_rules.ServerRules.{ServerRules}
use Rattle.fe2o3_scram.specs.ActingRights.{Rights, may_act}
use Rattle.fe2o3_scram.specs.Texts.{base64_text}
use Rattle.fe2o3_scram.specs.declared.channel_binding.ChannelBindings.{ChannelBindings}
use Rattle.fe2o3_scram.specs.declared.scram_messages.client_channel.ClientChannel.{ClientChannel}
use Rattle.fe2o3_scram.specs.declared.scram_messages.client_channel.ClientChannel.TheVariants.{Absent, NotOffered, Bound}
use Rattle.fe2o3_scram.specs.declared.scram_messages.channel_binding_flag.ChannelBindingFlag.{ChannelBindingFlag}
use Rattle.fe2o3_scram.specs.declared.scram_messages.channel_binding_flag.ChannelBindingFlag.TheVariants.{NotSupported, ClientSupports, Required}
use Rattle.fe2o3_scram.specs.ChannelBinding.{TakesFlag, expected_channel, flag_of, header_text, is_bound, is_strict, mechanism_of, server_mechanism, header_of, expected_header, ClientHeader}
use Rattle.fe2o3_scram.specs.ClientFirst.{client_first_with}
use Rattle.fe2o3_scram.specs.ClientFinal.{ReadsClientFinal, server_of}
use Rattle.fe2o3_scram.specs.Exchanges.{Exchange, IsSound, Succeeds, nonce_in, bare_in, record_in, first_in, named_in, answer_in, final_in}
use Rattle.fe2o3_scram.specs.ServerFinal.{server_final_of, ReadsServerFinal}
use Rattle.fe2o3_sasl_core.specs.Bodies.{SpellsBody}
use Rattle.fe2o3_sasl_core.specs.ClientHistory.{Answering, AnswersAt, ReadsChallenge, IsDue, NonceAt, OpenAnswer, is_start, is_answer, ends_answer}
use Rattle.fe2o3_sasl_core.specs.Events.{Given, Login, is_strict_login, login_mechanism, IsLogin, Challenged, Concluded, Started, Answered, Reported, login_header}
use Rattle.fe2o3_sasl_core.specs.Positions.{test_at, IsLastOpen}
use Rattle.fe2o3_sasl_core.specs.ServerHistory.{Challenging, Accepted, FitsAsInit, FitsAsResponse, FitsAt, Open, final_message, is_challenge, is_ok}
use Rattle.fe2o3_sasl_core.specs.TwoSides.{Sides, Histories}
use Rattle.fe2o3_sasl_core.specs.UnalteredRuns.{ArePrintable, Suffices, HoldsLogin, Arrives, client_body, server_body}
use Rattle.fe2o3_scram.proofs.lemmas.texts.AsciiLemmas.{IsUtf8-base64_text, IsUtf8-literal}
use Rattle.fe2o3_scram.proofs.lemmas.texts.Base64Lemmas.{no_comma-base64_text}
use Rattle.fe2o3_scram.proofs.lemmas.messages.ExchangeLemmas.{succeeds, nonce_text}
use Rattle.fe2o3_sasl_core.proofs.lemmas.positions.PositionLemmas.{opens_here}
use Rattle.fe2o3_sasl_core.proofs.lemmas.histories.OneServerHistoryLemmas.{one_fits}
use Rattle.fe2o3_sasl_core.proofs.lemmas.frames.SpellingLemmas.{one_spelling, spells_mechanisms, spells_init, spells_challenge, spells_response, spells_outcome}
use Rattle.fe2o3_sasl_core.proofs.lemmas.unaltered.UnalteredReplyLemmas.{none_may_sign, one_answering, open_value, client_starts, server_challenges, client_answers, server_accepts, client_reports}

-- ---- the exchange of a login

-- a login with the password, the salt and the count of a record, and with the nonces of both sides
abbrev pub exchange_of : Login → ServerRules → Rights → List ℕ → List ℕ → ℕ → List ℕ → List ℕ → Exchange
exchange_of login rules rights password salt count mine theirs =
    record {
      version = login.version;
      header = login_header login;
      rules = rules;
      rights = rights;
      user = login.user;
      secret = login.secret;
      limits = login.limits;
      strict = login.strict;
      password = password;
      salt = salt;
      count = count;
      client_nonce = base64_text mine;
      server_nonce = base64_text theirs;
    }

-- the channel that a server expects after a flag has that flag
expected_flag : (channels : Option ChannelBindings) (flag : ChannelBindingFlag)
    → flag_of (expected_channel channels flag) ≡ flag
expected_flag channels NotSupported = refl
expected_flag channels ClientSupports = refl
expected_flag channels (Required kind) = refl

-- a client binds a channel exactly if a server that accepts its header does
bound_alike : (channels : Option ChannelBindings) (accept_y : Bool) (channel : ClientChannel)
    → TakesFlag channels accept_y (flag_of channel) → is_bound channel ≡ is_some channels
bound_alike None accept_y Absent takes = refl
bound_alike None accept_y NotOffered takes = refl
bound_alike None accept_y (Bound binding) takes = absurd takes
bound_alike (Some channels) accept_y Absent takes = absurd takes
bound_alike (Some channels) accept_y NotOffered takes = absurd takes
bound_alike (Some channels) accept_y (Bound binding) takes = refl

-- the mechanism that a login selects is that of the server
pub one_mechanism : (sides : Sides) (password salt : List ℕ) (count : ℕ) → HoldsLogin sides password salt count
    → login_mechanism sides.login ≡ server_mechanism sides.provider.version sides.provider.rules
one_mechanism sides password salt count holds =
    let rules = sides.provider.rules in
    let bound = bound_alike rules.channels rules.accept_cbind_flag_y sides.login.channel holds.header.0 in
    λ i. mechanism_of (sym holds.version i) (bound i)

pub sound_exchange : (sides : Sides) (password salt : List ℕ) (count : ℕ) (mine theirs : List ℕ) → IsLogin sides.login
    → HoldsLogin sides password salt count → ArePrintable sides mine theirs → IsSound
    (exchange_of sides.login sides.provider.rules sides.provider.rights password salt count mine theirs)
sound_exchange sides password salt count mine theirs is holds printable = record {
  header = holds.header;
  right = holds.identity;
  channel = let expected = expected_flag sides.provider.rules.channels (flag_of sides.login.channel) in
      λ i. header_text (record { flag = expected i; acts_for = sides.login.acts_for }) ++ sym holds.channel i;
  bytes = is.channel;
  opens = holds.opens;
  some = holds.some;
  least = holds.least;
  within = holds.within;
  limit = is.limit;
  salt = holds.bytes;
  user = is.user;
  identity = is.identity;
  client_text = IsUtf8-base64_text mine;
  server_text = IsUtf8-base64_text theirs;
  client_plain = no_comma-base64_text mine;
  server_plain = no_comma-base64_text theirs;
  name = holds.name;
  client_printable = printable.0;
  server_printable = printable.1;
}

-- its challenge, its answer, and what its server accepts
abbrev pub challenge_in : Exchange → Challenging
challenge_in x = record {
  client = record { header = header_of x.header; user = x.user; nonce = x.client_nonce; bare = bare_in x };
  nonce = x.server_nonce;
  stored = record_in x;
}

abbrev pub answering_in : Exchange → Answering
answering_in x = record { nonce = x.client_nonce; text = first_in x; first = named_in x }

abbrev pub accepted_in : Exchange → Accepted
accepted_in x = record { challenge = challenge_in x; final = final_in x }

-- its init, with this hostname
abbrev pub init_in : Option (List ℕ) → Exchange → SaslFrame
init_in hostname x = frames.Init (mechanism_of x.version (is_bound x.header.channel))
    (Some (client_first_with (header_of x.header) x.user x.client_nonce)) hostname

-- the server-first message is UTF-8
first_text : (x : Exchange) → IsSound x → IsUtf8 (first_in x)
first_text x sound =
    let wide : x.count < 2 ^ 64 = omega (arith, sound.within, sound.limit) in
    IsUtf8-append (codes "r=" ++ nonce_in x) (codes ",s=" ++ (base64_text x.salt ++ (codes ",i=" ++ decimal x.count)))
    (IsUtf8-append (codes "r=") (nonce_in x) (IsUtf8-literal (codes "r=") refl) (nonce_text x sound))
    (IsUtf8-append (codes ",s=") (base64_text x.salt ++ (codes ",i=" ++ decimal x.count))
    (IsUtf8-literal (codes ",s=") refl)
    (IsUtf8-append (base64_text x.salt) (codes ",i=" ++ decimal x.count) (IsUtf8-base64_text x.salt)
    (IsUtf8-append (codes ",i=") (decimal x.count) (IsUtf8-literal (codes ",i=") refl)
    (IsUtf8-from_ascii (decimal x.count) (IsAscii-decimal x.count wide)))))

-- ---- the login, body by body

module _ (sides : Sides) (password salt : List ℕ) (count : ℕ) (offer init : Given) (histories : Histories sides)
    (login : IsLogin sides.login) (holds : HoldsLogin sides password salt count) (fits : Suffices sides)
    (printable : ArePrintable sides offer.nonce init.nonce) where
  abbrev pub exchange : Exchange
  exchange = exchange_of sides.login sides.provider.rules sides.provider.rights password salt count offer.nonce init.nonce

  abbrev pub final_sent : List ℕ
  final_sent = final_message sides.provider (accepted_in exchange)

  abbrev text_sent : List ℕ
  text_sent = client_first_with (header_of (login_header sides.login)) sides.login.user exchange.client_nonce

  abbrev pub init_sent : SaslFrame
  init_sent = init_in sides.login.hostname exchange

  pub sound : IsSound exchange
  sound = sound_exchange sides password salt count offer.nonce init.nonce login holds printable

  meets : Succeeds exchange
  meets = succeeds exchange sound

  -- what a side has received and what it has said, first
  abbrev pub Offered : Type 0
  Offered = (slice_get sides.client_events 0 ≡ Some offer)
      × (canonical (frames.Mechanisms (login_mechanism sides.login ∷ [])) ≡ Some offer.body)

  abbrev pub HasStarted : Type 0
  HasStarted = Offered × ((body : List ℕ) × (slice_get sides.client_replies 0 ≡ Some (Started body)))

  abbrev pub HasInit : Type 0
  HasInit = (slice_get sides.server_events 0 ≡ Some init) × (canonical init_sent ≡ Some init.body)

  abbrev pub HasChallenged : Type 0
  HasChallenged = HasInit × ((body : List ℕ) × (slice_get sides.server_replies 0 ≡ Some (Challenged body)))

  -- and next
  abbrev pub HasChallenge : Given → Type 0
  HasChallenge challenge = (slice_get sides.client_events 1 ≡ Some challenge)
      × (canonical (frames.Challenge (first_in exchange)) ≡ Some challenge.body)

  abbrev pub HasAnswered : Given → Type 0
  HasAnswered challenge =
      HasChallenge challenge × ((body : List ℕ) × (slice_get sides.client_replies 1 ≡ Some (Answered body)))

  abbrev pub HasResponse : Given → Type 0
  HasResponse response = (slice_get sides.server_events 1 ≡ Some response)
      × (canonical (frames.Response (answer_in exchange).message) ≡ Some response.body)

  abbrev pub HasOutcome : Given → Type 0
  HasOutcome outcome = (slice_get sides.client_events 2 ≡ Some outcome)
      × (canonical (frames.Outcome outcomes.Ok (Some final_sent)) ≡ Some outcome.body)

  -- the client starts
  pub starts : (body : List ℕ) → Offered → Arrives (client_body (slice_get sides.client_replies 0)) body
      → (slice_get sides.client_replies 0 ≡ Some (Started body)) × (canonical init_sent ≡ Some body)
  starts body offered arrives = client_starts sides.login sides.client_events sides.client_replies 0 offer body
      histories.client offered.0 (spells_mechanisms sides.login.version (is_bound sides.login.channel) offer.body offered.1)
      fits.client fits.client_small arrives

  -- the server challenges
  init_spelled : HasInit → SpellsBody init.body (Ok init_sent)
  init_spelled has = spells_init sides.login.version (is_bound sides.login.channel) text_sent
      sides.login.hostname init.body login.hostname has.1

  init_fits : FitsAsInit sides.provider init init_sent (challenge_in exchange)
  init_fits = (one_mechanism sides password salt count holds, meets.client_first, holds.stored, refl)

  pub challenges : (body : List ℕ) → HasInit → Arrives (server_body (slice_get sides.server_replies 0)) body
      → (slice_get sides.server_replies 0 ≡ Some (Challenged body))
      × (canonical (frames.Challenge (first_in exchange)) ≡ Some body)
  challenges body has arrives = server_challenges sides.provider sides.server_events sides.server_replies 0 init
      (login_mechanism sides.login) text_sent sides.login.hostname (challenge_in exchange) body histories.server has.0
      (init_spelled has) init_fits fits.server fits.server_small arrives

  -- the client answers
  challenge_spelled : (challenge : Given) → HasChallenge challenge
      → SpellsBody challenge.body (Ok (frames.Challenge (first_in exchange)))
  challenge_spelled challenge has = spells_challenge (first_in exchange) challenge.body has.1

  started_open : HasStarted → IsLastOpen is_start is_answer sides.client_replies 1 0
  started_open has = opens_here is_start is_answer sides.client_replies 0 (ap (test_at is_start) has.1.1)

  one_due : HasStarted → (nonce : List ℕ) → IsDue sides.client_events sides.client_replies 1 nonce
      → nonce ≡ exchange.client_nonce
  one_due has nonce also =
      let at = open_value is_start is_answer (NonceAt sides.client_events) sides.client_replies 1 0 nonce
      (started_open has) also in
      at.2 ∙ ap (λ (event : Given). base64_text event.nonce) (same_Some at.0 offer (sym at.1 ∙ has.0.0))

  challenge_read : HasStarted → ReadsChallenge sides.login (IsDue sides.client_events sides.client_replies 1)
      (first_in exchange) (Ok (answering_in exchange))
  challenge_read has = (
    first_text exchange sound,
    refl,
    (0, started_open has, (offer, has.0.0, refl)),
    meets.server_first,
  )

  pub answers : (challenge : Given) (body : List ℕ) → HasStarted → HasChallenge challenge
      → Arrives (client_body (slice_get sides.client_replies 1)) body
      → (slice_get sides.client_replies 1 ≡ Some (Answered body))
      × (canonical (frames.Response (answer_in exchange).message) ≡ Some body)
  answers challenge body started has arrives = client_answers sides.login sides.client_events sides.client_replies 1
      challenge (first_in exchange) (answering_in exchange) body histories.client has.0
      (challenge_spelled challenge has) (none_may_sign sides.login sides.client_events sides.client_replies started.1.0
      started.1.1) (one_due started) (challenge_read started) fits.client fits.client_small arrives

  -- the server accepts
  pub response_spelled : (response : Given) → HasResponse response
      → SpellsBody response.body (Ok (frames.Response (answer_in exchange).message))
  response_spelled response has = spells_response (answer_in exchange).message response.body has.1

  challenged_open : HasChallenged → IsLastOpen is_challenge is_ok sides.server_replies 1 0
  challenged_open has = opens_here is_challenge is_ok sides.server_replies 0 (ap (test_at is_challenge) has.1.1)

  is_open : HasChallenged → Open sides.provider sides.server_events sides.server_replies 1 (challenge_in exchange)
  is_open has = (0, challenged_open has, (init, init_sent, has.0.0, init_spelled has.0, init_fits))

  one_open_challenge : HasChallenged → (challenge : Challenging)
      → Open sides.provider sides.server_events sides.server_replies 1 challenge → challenge ≡ challenge_in exchange
  one_open_challenge has challenge also =
      let at = open_value is_challenge is_ok (FitsAt sides.provider sides.server_events) sides.server_replies 1 0
      challenge (challenged_open has) also in
      let event = same_Some at.0 init (sym at.2 ∙ has.0.0) in
      let frame = same_frame at.1 init_sent (one_spelling init.body (Ok at.1) (Ok init_sent)
      (subst (λ (e : Given). SpellsBody e.body (Ok at.1)) event at.3) (init_spelled has.0)) in
      one_fits sides.provider init (frames.Init (login_mechanism sides.login) (Some text_sent) sides.login.hostname) challenge
      (challenge_in exchange)
      (subst (λ (f : SaslFrame). FitsAsInit sides.provider init f challenge) frame
      (subst (λ (e : Given). FitsAsInit sides.provider e at.1 challenge) event at.4)) init_fits
    where
      same_frame : (frame other : SaslFrame) → ◌≡◌ {A = Result SaslFrame Error} (Ok frame) (Ok other) → frame ≡ other
      same_frame frame other e = cc

  -- whether the user may act for the identity of the header
  abbrev is_allowed : Bool
  is_allowed = may_act exchange.rights exchange.user exchange.header.acts_for

  -- the header that the server expects
  abbrev expected : ClientHeader
  expected = expected_header exchange.rules.channels (header_of exchange.header)

  pub response_fits : HasChallenged
      → FitsAsResponse sides.provider (Open sides.provider sides.server_events sides.server_replies 1)
      (frames.Response (answer_in exchange).message) (accepted_in exchange)
  response_fits has = (
    is_open has,
    subst (λ (version : ScramVersion). ReadsClientFinal
        (server_of version expected (is_strict exchange.rules) (bare_in exchange) (first_in exchange)
        (nonce_in exchange) (record_in exchange) is_allowed) (answer_in exchange).message (Ok (final_in exchange)))
        (sym holds.version) meets.client_final,
  )

  pub accepts : (response : Given) (body : List ℕ) → HasChallenged → HasResponse response
      → Arrives (server_body (slice_get sides.server_replies 1)) body
      → (slice_get sides.server_replies 1 ≡ Some (Concluded outcomes.Ok body))
      × (canonical (frames.Outcome outcomes.Ok (Some final_sent)) ≡ Some body)
  accepts response body challenged has arrives = server_accepts sides.provider sides.server_events sides.server_replies
      1 response (answer_in exchange).message (accepted_in exchange) body histories.server has.0
      (response_spelled response has) (one_open_challenge challenged) (response_fits challenged) fits.server
      fits.server_small arrives

  -- the client reports
  answered_open : (challenge : Given) → HasAnswered challenge
      → IsLastOpen is_answer ends_answer sides.client_replies 2 1
  answered_open challenge has =
      opens_here is_answer ends_answer sides.client_replies 1 (ap (test_at is_answer) has.1.1)

  pub answers_at : (challenge : Given) → HasStarted → HasChallenge challenge
      → AnswersAt sides.login sides.client_events sides.client_replies 1 (answering_in exchange)
  answers_at challenge started has =
      (challenge, first_in exchange, has.0, challenge_spelled challenge has, challenge_read started)

  pub open_answer : (challenge : Given) → HasStarted → HasAnswered challenge
      → OpenAnswer sides.login sides.client_events sides.client_replies 2 (answering_in exchange)
  open_answer challenge started has = (1, answered_open challenge has, answers_at challenge started has.0)

  one_open_answer : (challenge : Given) → HasStarted → HasAnswered challenge → (other : Answering)
      → OpenAnswer sides.login sides.client_events sides.client_replies 2 other → other ≡ answering_in exchange
  one_open_answer challenge started has other also =
      let at = open_value is_answer ends_answer (AnswersAt sides.login sides.client_events sides.client_replies)
      sides.client_replies 2 1 other (answered_open challenge has) also in
      let event = same_Some at.0 challenge (sym at.2 ∙ has.0.0) in
      let text = same_text at.1 (first_in exchange) (one_spelling challenge.body (Ok (frames.Challenge at.1))
      (Ok (frames.Challenge (first_in exchange))) (subst
      (λ (e : Given). SpellsBody e.body (Ok (frames.Challenge at.1))) event at.3)
      (challenge_spelled challenge has.0)) in
      one_answering sides.login (IsDue sides.client_events sides.client_replies 1) (first_in exchange)
      (answering_in exchange) other (one_due started) (challenge_read started)
      (subst (λ (t : List ℕ). ReadsChallenge sides.login (IsDue sides.client_events sides.client_replies 1) t
      (Ok other)) text at.4)
    where
      same_text : (text other : List ℕ) → ◌≡◌ {A = Result SaslFrame Error} (Ok (frames.Challenge text))
          (Ok (frames.Challenge other)) → text ≡ other
      same_text text other e = cc

  verifier_read : ReadsServerFinal (is_strict_login sides.login) (answer_in exchange).signature final_sent (Ok tt)
  verifier_read = subst (λ (version : ScramVersion). ReadsServerFinal (is_strict_login sides.login) (answer_in exchange).signature
      (server_final_of (server_of version expected (is_strict exchange.rules) (bare_in exchange) (first_in exchange)
      (nonce_in exchange) (record_in exchange) is_allowed) (final_in exchange)) (Ok tt)) (sym holds.version) meets.server_final

  pub reports : (challenge outcome : Given) → HasStarted → HasAnswered challenge → HasOutcome outcome
      → slice_get sides.client_replies 2 ≡ Some (Reported outcomes.Ok (Some final_sent))
  reports challenge outcome started answered has = client_reports sides.login sides.client_events sides.client_replies
      2 outcome final_sent (answering_in exchange) histories.client fits.client has.0
      (spells_outcome outcomes.Ok final_sent outcome.body has.1) (one_open_answer challenge started answered)
      (open_answer challenge started answered) verifier_read
