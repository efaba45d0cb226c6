-- An unaltered run logs in.
use Rattle.std.proofs.Common.{◌≡◌, ℕ, zero, suc, List, [], ◌∷◌, ◌++◌, codes, Option, Some, length, refl, sym, ap, ◌∙◌, arith}
use Rattle.std.specs.Prelude.{slice_get}
use Rattle.fe2o3_sasl_wire.specs.declared.amqp_types.SaslCode.TheVariants as outcomes
use Rattle.fe2o3_sasl_wire.specs.SaslFrames.{canonical}
use Rattle.fe2o3_sasl_wire.specs.SaslFrames as frames
use Rattle.fe2o3_scram.specs.Texts.{base64_text}
use Rattle.fe2o3_scram.specs.ClientKeys.{ClientKeys, keys_of}
use Rattle.fe2o3_scram.specs.Keys.{client_proof}
use Rattle.fe2o3_scram.specs.Escape.{escaped}
use Rattle.fe2o3_scram.specs.Exchanges.{Exchange, IsSound, nonce_in, first_in, answer_in}
use Rattle.fe2o3_scram.specs.Hmac.{digest}
use Rattle.fe2o3_sasl_core.specs.Verdicts.{AreAgreed, Lists, Audits}
use Rattle.fe2o3_sasl_core.specs.ClientHistory.{Answering, OpenAnswer}
use Rattle.fe2o3_sasl_core.specs.Events.{Given, IsLogin, ServerSays, Challenged, Concluded, ClientSays, Started, Answered, Reported}
use Rattle.fe2o3_sasl_core.specs.Laws.{ClientsLogIn, ServersLogIn}
use Rattle.fe2o3_sasl_core.specs.ServerHistory.{Accepted, final_message}
use Rattle.fe2o3_sasl_core.specs.TwoSides.{Sides, sides_of, Histories, IsPlainInit, OkAt, Takes, Shows, client_message, keys_at}
use Rattle.fe2o3_sasl_core.specs.UnalteredRuns.{UnalteredRun, Suffices, HoldsLogin, LogsIn, LogsInUnaltered, agreed_findings}
use Rattle.fe2o3_scram.proofs.lemmas.texts.Base64Lemmas.{no_comma-base64_text}
use Rattle.fe2o3_scram.proofs.lemmas.texts.EscapingLemmas.{no_comma-escaped}
use Rattle.fe2o3_scram.proofs.lemmas.messages.ExchangeLemmas.{opened, two_parts, part_of, only_part}
use Rattle.fe2o3_sasl_core.proofs.lemmas.unaltered.UnalteredStepLemmas.{exchange_of, sound_exchange, answering_in, accepted_in, init_in}
use Rattle.fe2o3_sasl_core.proofs.lemmas.unaltered.UnalteredStepLemmas as step

-- the init has two parts
plain_in : (x : Exchange) → IsSound x → IsPlainInit (accepted_in x)
plain_in x sound = (
  _,
  two_parts (codes "n=" ++ escaped x.user) (codes "r=" ++ x.client_nonce)
      (part_of (codes "n=") (escaped x.user) refl (no_comma-escaped x.user))
      (part_of (codes "r=") x.client_nonce refl sound.client_plain),
  refl,
)

-- ---- lists of replies

two_replies : {A : Type 0} (xs : List A) (a b : A) → length xs ≡ 2 → slice_get xs 0 ≡ Some a → slice_get xs 1 ≡ Some b
    → xs ≡ a ∷ b ∷ []
two_replies [] a b count first second = absurd (omega (arith, count))
two_replies (x ∷ []) a b count first second = absurd (omega (arith, count))
two_replies (x ∷ y ∷ []) a b count first second = cc
two_replies (x ∷ y ∷ z ∷ xs) a b count first second = absurd (omega (arith, count))

three_replies : {A : Type 0} (xs : List A) (a b c : A) → length xs ≡ 3 → slice_get xs 0 ≡ Some a
    → slice_get xs 1 ≡ Some b → slice_get xs 2 ≡ Some c → xs ≡ a ∷ b ∷ c ∷ []
three_replies [] a b c count first second third = absurd (omega (arith, count))
three_replies (x ∷ []) a b c count first second third = absurd (omega (arith, count))
three_replies (x ∷ y ∷ []) a b c count first second third = absurd (omega (arith, count))
three_replies (x ∷ y ∷ z ∷ []) a b c count first second third = cc
three_replies (x ∷ y ∷ z ∷ w ∷ xs) a b c count first second third = absurd (omega (arith, count))

-- where such replies are
only_report : (init response text : List ℕ) (more : Option (List ℕ)) (m : ℕ)
    → slice_get (Started init ∷ Answered response ∷ Reported outcomes.Ok (Some text) ∷ []) m
    ≡ Some (Reported outcomes.Ok more) → m ≡ 2
only_report init response text more zero at = absurd (cc)
only_report init response text more (suc zero) at = absurd (cc)
only_report init response text more (suc (suc zero)) at = refl
only_report init response text more (suc (suc (suc m))) at = absurd (cc)

only_answer : (init response text body : List ℕ) (k : ℕ)
    → slice_get (Started init ∷ Answered response ∷ Reported outcomes.Ok (Some text) ∷ []) k ≡ Some (Answered body)
    → k ≡ 1
only_answer init response text body zero at = absurd (cc)
only_answer init response text body (suc zero) at = refl
only_answer init response text body (suc (suc zero)) at = absurd (cc)
only_answer init response text body (suc (suc (suc k))) at = absurd (cc)

only_ok : (challenge outcome body : List ℕ) (n : ℕ) → slice_get
    (Challenged challenge ∷ Concluded outcomes.Ok outcome ∷ []) n ≡ Some (Concluded outcomes.Ok body) → n ≡ 1
only_ok challenge outcome body zero at = absurd (cc)
only_ok challenge outcome body (suc zero) at = refl
only_ok challenge outcome body (suc (suc n)) at = absurd (cc)

-- only one pair
one_pair : (R : ℕ → ℕ → Type 0) (i j : ℕ) → R i j → ((m n : ℕ) → R m n → (m ≡ i) × (n ≡ j)) → Lists R ((i, j) ∷ [])
one_pair R i j is only = record {
  each = (is, tt);
  every = λ m n has. (0, omega arith, same i j m n (only m n has));
  ordered = (tt, tt);
}
  where
    same : (i j m n : ℕ) → (m ≡ i) × (n ≡ j) → ◌≡◌ {A = ℕ × ℕ} (i, j) (m, n)
    same i j m n e = let first = e.0 in let second = e.1 in cc

-- ---- the run, event by event

module _ (sides : Sides) (password salt : List ℕ) (count : ℕ) (run : UnalteredRun sides) (histories : Histories sides)
    (login : IsLogin sides.login) (holds : HoldsLogin sides password salt count) (fits : Suffices sides) where
  abbrev exchange : Exchange
  exchange = exchange_of sides.login sides.provider.rules sides.provider.rights password salt count run.offer.nonce run.init.nonce

  abbrev final_sent : List ℕ
  final_sent = final_message sides.provider (accepted_in exchange)

  -- the client answers by the keys of the record
  by_keys : keys_at sides.login (answering_in exchange) ≡ keys_of sides.login.version password salt count
  by_keys = (opened sides.login.version sides.login.secret password salt count (nonce_in exchange) holds.opens).0

  client_event : (k : ℕ) → slice_get sides.client_events k
      ≡ slice_get (run.offer ∷ run.challenge ∷ run.outcome ∷ []) k
  client_event k = ap (λ (events : List Given). slice_get events k) run.client_events

  server_event : (k : ℕ) → slice_get sides.server_events k ≡ slice_get (run.init ∷ run.response ∷ []) k
  server_event k = ap (λ (events : List Given). slice_get events k) run.server_events

  -- the client starts, the server challenges, the client answers, the server accepts, the client reports
  starts : (slice_get sides.client_replies 0 ≡ Some (Started run.init.body))
      × (canonical (init_in sides.login.hostname exchange) ≡ Some run.init.body)
  starts = step.starts sides password salt count run.offer run.init histories login holds fits run.printable run.init.body
      (client_event 0, run.offered) run.started

  challenges : (slice_get sides.server_replies 0 ≡ Some (Challenged run.challenge.body))
      × (canonical (frames.Challenge (first_in exchange)) ≡ Some run.challenge.body)
  challenges = step.challenges sides password salt count run.offer run.init histories login holds fits run.printable
      run.challenge.body (server_event 0, starts.1) run.challenged

  has_started : step.HasStarted sides password salt count run.offer run.init histories login holds fits run.printable
  has_started = ((client_event 0, run.offered), (run.init.body, starts.0))

  has_challenge : step.HasChallenge sides password salt count run.offer run.init histories login holds fits run.printable
      run.challenge
  has_challenge = (client_event 1, challenges.1)

  answers : (slice_get sides.client_replies 1 ≡ Some (Answered run.response.body))
      × (canonical (frames.Response (answer_in exchange).message) ≡ Some run.response.body)
  answers = step.answers sides password salt count run.offer run.init histories login holds fits run.printable run.challenge
      run.response.body has_started has_challenge run.answered

  has_challenged : step.HasChallenged sides password salt count run.offer run.init histories login holds fits run.printable
  has_challenged = ((server_event 0, starts.1), (run.challenge.body, challenges.0))

  has_response : step.HasResponse sides password salt count run.offer run.init histories login holds fits
      run.printable run.response
  has_response = (server_event 1, answers.1)

  accepts : (slice_get sides.server_replies 1 ≡ Some (Concluded outcomes.Ok run.outcome.body))
      × (canonical (frames.Outcome outcomes.Ok (Some final_sent)) ≡ Some run.outcome.body)
  accepts = step.accepts sides password salt count run.offer run.init histories login holds fits run.printable run.response
      run.outcome.body has_challenged has_response run.concluded

  has_answered : step.HasAnswered sides password salt count run.offer run.init histories login holds fits
      run.printable run.challenge
  has_answered = (has_challenge, (run.response.body, answers.0))

  reports : slice_get sides.client_replies 2 ≡ Some (Reported outcomes.Ok (Some final_sent))
  reports = step.reports sides password salt count run.offer run.init histories login holds fits run.printable run.challenge
      run.outcome has_started has_answered (client_event 2, accepts.1)

  open_answer : OpenAnswer sides.login sides.client_events sides.client_replies 2 (answering_in exchange)
  open_answer = step.open_answer sides password salt count run.offer run.init histories login holds fits run.printable
      run.challenge has_started has_answered

  -- all replies
  client_list : sides.client_replies ≡ Started run.init.body ∷ Answered run.response.body
      ∷ Reported outcomes.Ok (Some final_sent) ∷ []
  client_list = three_replies sides.client_replies _ _ _
      (histories.client.count ∙ ap (λ (events : List Given). length events) run.client_events) starts.0 answers.0
      reports

  server_list : sides.server_replies ≡ Challenged run.challenge.body ∷ Concluded outcomes.Ok run.outcome.body ∷ []
  server_list = two_replies sides.server_replies _ _ (histories.server.count
      ∙ ap (λ (events : List Given). length events) run.server_events) challenges.0 accepts.0

  -- ---- the findings

  ok_at : OkAt sides 1 (accepted_in exchange)
  ok_at = record {
    body = run.outcome.body;
    says = accepts.0;
    accepts = (
      run.response,
      frames.Response (answer_in exchange).message,
      server_event 1,
      step.response_spelled sides password salt count run.offer run.init histories login holds fits run.printable
          run.response has_response,
      step.response_fits sides password salt count run.offer run.init histories login holds fits run.printable has_challenged,
    );
  }

  takes : Takes sides 2 1 (accepted_in exchange)
  takes = record {
    more = Some final_sent;
    text = final_sent;
    reported = reports;
    verifier = refl;
    ok = ok_at;
    one = (_, only_part final_sent (part_of (codes "v=") (base64_text _) refl (no_comma-base64_text _)), refl);
  }

  shows : Shows sides 1 1 (answering_in exchange) (accepted_in exchange)
  shows = record {
    body = run.response.body;
    answered = answers.0;
    answers = step.answers_at sides password salt count run.offer run.init histories login holds fits run.printable
        run.challenge has_started has_challenge;
    ok = ok_at;
    one = ap (λ (keys : ClientKeys). client_proof keys.version keys.client_key
        (client_message sides.login (answering_in exchange))) by_keys;
  }

  ok_place : (n : ℕ) (accepted : Accepted) → OkAt sides n accepted → n ≡ 1
  ok_place n accepted ok = only_ok run.challenge.body run.outcome.body ok.body n
      (ap (λ (replies : List ServerSays). slice_get replies n) (sym server_list) ∙ ok.says)

  one_taken : (m n : ℕ) → (accepted : Accepted) × Takes sides m n accepted → (m ≡ 2) × (n ≡ 1)
  one_taken m n taken = (
    only_report run.init.body run.response.body final_sent taken.1.more m
        (ap (λ (replies : List ClientSays). slice_get replies m) (sym client_list) ∙ taken.1.reported),
    ok_place n taken.0 taken.1.ok,
  )

  one_shown : (k n : ℕ) → (answer : Answering) × (accepted : Accepted) × Shows sides k n answer accepted
      → (k ≡ 1) × (n ≡ 1)
  one_shown k n shown = (
    only_answer run.init.body run.response.body final_sent shown.2.body k
        (ap (λ (replies : List ClientSays). slice_get replies k) (sym client_list) ∙ shown.2.answered),
    ok_place n shown.1 shown.2.ok,
  )

  are_agreed : AreAgreed sides (answering_in exchange) (accepted_in exchange) sides.login.user exchange.client_nonce
      (Some (record { full_nonce = nonce_in exchange; salt = salt; iterations = count }))
  are_agreed = (
    refl,
    record {
      version = ap (λ (keys : ClientKeys). keys.version) by_keys ∙ sym holds.version;
      header = λ bytes none. refl;
      channel = λ bytes none. holds.channel;
      user = refl;
      nonce = refl;
      full_nonce = λ plain. refl;
      salt = λ plain. refl;
      count = λ plain. refl;
    },
    refl,
    refl,
    (
      plain_in exchange (sound_exchange sides password salt count run.offer.nonce run.init.nonce login holds run.printable),
      refl,
      refl,
      refl,
    ),
  )

  audit : Audits sides (agreed_findings run salt count)
  audit = record {
    verifiers = _ ∷ [];
    proofs = _ ∷ [];
    whole = refl;
    histories = histories;
    client_complete = fits.client;
    server_complete = fits.server;
    takes = one_pair (λ m n. (accepted : Accepted) × Takes sides m n accepted) 2 1
        (accepted_in exchange, takes) one_taken;
    shows = one_pair (λ k n. (answer : Answering) × (accepted : Accepted) × Shows sides k n answer accepted) 1 1
        (answering_in exchange, accepted_in exchange, shows) one_shown;
    verifier_verdicts = (
      (refl, (answering_in exchange, accepted_in exchange, takes, (Some final_sent, reports, open_answer), are_agreed)),
      tt,
    );
    proof_verdicts = (
      (
        refl,
        (
          answering_in exchange,
          accepted_in exchange,
          shows,
          (ap (λ (keys : ClientKeys). digest keys.version keys.client_key) by_keys, are_agreed),
        ),
      ),
      tt,
    );
  }

  logs_in : LogsIn run salt count
  logs_in = record {
    text = final_sent;
    client = client_list;
    server = server_list;
    audit = audit;
  }

logs_in_by : (sides : Sides) → Histories sides → IsLogin sides.login → LogsInUnaltered sides
logs_in_by sides histories login password salt count run holds fits =
    logs_in sides password salt count run histories login holds fits

pub clients_log_in : ClientsLogIn
clients_log_in login events replies history is provider server_events server_replies server =
    logs_in_by (sides_of login events replies provider server_events server_replies)
    (record { client = history; server = server }) is

pub servers_log_in : ServersLogIn
servers_log_in provider events replies history login client_events client_replies is client =
    logs_in_by (sides_of login client_events client_replies provider events replies)
    (record { client = client; server = history }) is
