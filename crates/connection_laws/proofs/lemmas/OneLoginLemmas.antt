-- An unaltered run of both sides is one login, with one AuthMessage.
use Rattle.std.proofs.Common.{◌≡◌, ℕ, List, [], ◌∷◌, Some, refl, ap}
use Rattle.std.specs.Prelude.{slice_get}
use Rattle.fe2o3_sasl_wire.specs.SaslFrames.{canonical}
use Rattle.fe2o3_sasl_wire.specs.SaslFrames as frames
use Rattle.fe2o3_scram.specs.Credentials.{Provider}
use Rattle.fe2o3_scram.specs.Exchanges.{Exchange, first_in, answer_in}
use Rattle.fe2o3_sasl_core.specs.ClientHistory.{OpenAnswer}
use Rattle.fe2o3_sasl_core.specs.Events.{Given, Login, IsLogin, ServerSays, Challenged, ClientSays, Started, Answered}
use Rattle.fe2o3_sasl_core.specs.ServerHistory.{AcceptsAt}
use Rattle.fe2o3_sasl_core.specs.TwoSides.{Sides, sides_of, Histories}
use Rattle.fe2o3_sasl_core.specs.UnalteredRuns.{UnalteredRun, Suffices, HoldsLogin}
use Rattle.fe2o3_sasl_core.proofs.lemmas.unaltered.UnalteredRunLemmas.{clients_log_in}
use Rattle.fe2o3_sasl_core.proofs.lemmas.unaltered.UnalteredStepLemmas as step
use Rattle.connection_laws.specs.Unaltered.{OneLogin}

module _ (login : Login) (client_events : List Given) (client_replies : List ClientSays) (provider : Provider)
    (server_events : List Given) (server_replies : List ServerSays) (password salt : List ℕ) (count : ℕ)
    (run : UnalteredRun (sides_of login client_events client_replies provider server_events server_replies))
    (histories : Histories (sides_of login client_events client_replies provider server_events server_replies))
    (is : IsLogin login)
    (holds : HoldsLogin (sides_of login client_events client_replies provider server_events server_replies) password
    salt count)
    (fits : Suffices (sides_of login client_events client_replies provider server_events server_replies)) where
  abbrev sides : Sides
  sides = sides_of login client_events client_replies provider server_events server_replies

  abbrev exchange : Exchange
  exchange = step.exchange_of login provider.rules provider.rights password salt count run.offer.nonce run.init.nonce

  client_event : (k : ℕ) → slice_get client_events k ≡ slice_get (run.offer ∷ run.challenge ∷ run.outcome ∷ []) k
  client_event k = ap (λ (events : List Given). slice_get events k) run.client_events

  server_event : (k : ℕ) → slice_get server_events k ≡ slice_get (run.init ∷ run.response ∷ []) k
  server_event k = ap (λ (events : List Given). slice_get events k) run.server_events

  starts : (slice_get client_replies 0 ≡ Some (Started run.init.body))
      × (canonical (step.init_in login.hostname exchange) ≡ Some run.init.body)
  starts = step.starts sides password salt count run.offer run.init histories is holds fits run.printable run.init.body
      (client_event 0, run.offered) run.started

  challenges : (slice_get server_replies 0 ≡ Some (Challenged run.challenge.body))
      × (canonical (frames.Challenge (first_in exchange)) ≡ Some run.challenge.body)
  challenges = step.challenges sides password salt count run.offer run.init histories is holds fits
      run.printable run.challenge.body (server_event 0, starts.1) run.challenged

  has_started : step.HasStarted sides password salt count run.offer run.init histories is holds fits run.printable
  has_started = ((client_event 0, run.offered), (run.init.body, starts.0))

  has_challenge : step.HasChallenge sides password salt count run.offer run.init histories is holds fits
      run.printable run.challenge
  has_challenge = (client_event 1, challenges.1)

  answers : (slice_get client_replies 1 ≡ Some (Answered run.response.body))
      × (canonical (frames.Response (answer_in exchange).message) ≡ Some run.response.body)
  answers = step.answers sides password salt count run.offer run.init histories is holds fits run.printable run.challenge
      run.response.body has_started has_challenge run.answered

  has_challenged : step.HasChallenged sides password salt count run.offer run.init histories is holds fits run.printable
  has_challenged = ((server_event 0, starts.1), (run.challenge.body, challenges.0))

  open_answer : OpenAnswer login client_events client_replies 2 (step.answering_in exchange)
  open_answer = step.open_answer sides password salt count run.offer run.init histories is holds fits run.printable run.challenge
      has_started (has_challenge, (run.response.body, answers.0))

  accepts_at : AcceptsAt provider server_events server_replies 1 (step.accepted_in exchange)
  accepts_at = (
    run.response,
    frames.Response (answer_in exchange).message,
    server_event 1,
    step.response_spelled sides password salt count run.offer run.init histories is holds fits run.printable run.response
        (server_event 1, answers.1),
    step.response_fits sides password salt count run.offer run.init histories is holds fits run.printable has_challenged,
  )

  pub one_login : OneLogin sides salt count
  one_login = record {
    unaltered = run;
    logs_in = clients_log_in login client_events client_replies histories.client is provider server_events
        server_replies histories.server password salt count run holds fits;
    answer = step.answering_in exchange;
    accepted = step.accepted_in exchange;
    answers = open_answer;
    accepts = accepts_at;
    one_message = refl;
  }
