-- The login of the worked examples, whatever somebody on the way adds to it: both sides report Ok where what is added
-- is plain and short and the AuthMessages are equal.
use Rattle.std.proofs.Common.{◌≡◌, ◌<◌, ◌≤◌, ◌^◌, ℕ, zero, suc, true≢false, Some, List, [], ◌∷◌, ◌++◌, length, Ok, refl, sym, ◌∙◌, ap, subst, arith, codes, inl, inr}
use Rattle.std.specs.Prelude.{slice_get}
use Rattle.std.specs.List.{AllByRecursion}
use Rattle.std.proofs.lemmas.Option.{none-some, same_Some}
use Rattle.fe2o3_sasl_wire.specs.declared.amqp_types.SaslCode.TheVariants as outcomes
use Rattle.fe2o3_sasl_wire.specs.declared.sasl_frames.error.Error.TheVariants as faults
use Rattle.fe2o3_sasl_wire.specs.SaslFrames.{canonical, SaslFrame}
use Rattle.fe2o3_sasl_wire.specs.SaslFrames as frames
use Rattle.fe2o3_scram.specs.declared.hmac.ScramVersion.TheVariants.{Sha256}
use Rattle.fe2o3_scram.specs.ClientFinal.{client_final_of}
use Rattle.fe2o3_scram.specs.Credentials.{Provider}
use Rattle.fe2o3_scram.specs.Hmac.{hmac_of}
use Rattle.fe2o3_scram.specs.Texts.{base64_text, joined, Part}
use Rattle.fe2o3_sasl_core.specs.ClientHistory.{Answering, AnswersAt, IsDue, OpenAnswer, MaySign, ReadsChallenge, ClientHistory, says_start, says_answer, is_start, is_answer, ends_answer}
use Rattle.fe2o3_sasl_core.specs.Events.{Given, Login, is_strict_login, ServerSays, Challenged, Concluded, Failed, ClientSays, Started, Answered, Refused}
use Rattle.fe2o3_sasl_core.specs.Bodies.{SpellsBody, carried, says_frame}
use Rattle.fe2o3_sasl_core.specs.ServerHistory.{Accepted, FitsAsInit, FitsAsResponse, Open, ServerHistory, is_challenge, is_ok, says_ok, server_at, first_message}
use Rattle.fe2o3_sasl_core.specs.TwoSides.{Histories, OkAt, Shows, Takes, client_message, proof_at, server_message}
use Rattle.fe2o3_sasl.specs.examples.Examples.{Added, client_bytes, server_bytes, both, login, stored, provider, names, values, binds, offers, sends_init, sends_response, sends_ok, verifier, body_of, event_of, told, init_text, challenge_text, response_text, answer_to, accepted_with, sides_with}
use Rattle.fe2o3_scram.proofs.lemmas.messages.OneValueLemmas.{names_server_final}
use Rattle.fe2o3_sasl.proofs.lemmas.examples.ExampleBodyLemmas.{challenge_bodied, init_bodied, short_joined, short_names, short_values, short_binds, length-both, response_sent, ok_sent, mechanisms_sent, spells_body, init_texts, mechanisms_texts}
use Rattle.fe2o3_sasl.proofs.lemmas.examples.ExampleReadingLemmas.{plain_values, plain_user, reads_names, reads_values, first_joined, length-proof, IsBytes-proof, proof_meets, signature_read, reads_final}
use Rattle.fe2o3_sasl.proofs.lemmas.examples.ExampleTextLemmas.{Plain, utf8_joined, header_text, user_text}
use Rattle.fe2o3_sasl_core.proofs.lemmas.histories.LongerClientHistoryLemmas.{SaysAt}
use Rattle.fe2o3_sasl_core.proofs.lemmas.histories.LongerServerHistoryLemmas.{Says}
use Rattle.fe2o3_sasl_core.proofs.lemmas.positions.PositionLemmas.{opens_here}
use Rattle.fe2o3_sasl_core.proofs.lemmas.lists.EachLemmas.{each_append}
use Rattle.fe2o3_sasl_core.specs.declared.sasl_profile.error.ProfileError.TheVariants.{Frame}

-- ---- histories, reply by reply

-- what holds of each pair of two lists and of its position
abbrev pub Pairs : {A B : Type 0} → (ℕ → A → B → Type 0) → List A → List B → Type 0
Pairs Holds [] [] = Unit {0}
Pairs Holds (x ∷ xs) (y ∷ ys) = Holds 0 x y × Pairs (λ k. Holds (suc k)) xs ys
Pairs Holds xs ys = ⊥

-- holds at each position
each_pair : {A B : Type 0} (Holds : ℕ → A → B → Type 0) (xs : List A) (ys : List B) → Pairs Holds xs ys
    → (k : ℕ) (x : A) (y : B) → slice_get xs k ≡ Some x → slice_get ys k ≡ Some y → Holds k x y
each_pair Holds [] [] pairs k x y first second = absurd (none-some x first)
each_pair Holds [] (b ∷ ys) pairs k x y first second = absurd pairs
each_pair Holds (a ∷ xs) [] pairs k x y first second = absurd pairs
each_pair {A} {B} Holds (a ∷ xs) (b ∷ ys) pairs zero x y first second =
    subst (λ (z : A). Holds 0 z y) (same_Some a x first) (subst (λ (z : B). Holds 0 a z) (same_Some b y second) pairs.0)
each_pair Holds (a ∷ xs) (b ∷ ys) pairs (suc k) x y first second =
    each_pair (λ n. Holds (suc n)) xs ys pairs.1 k x y first second

pub server_history : (provider : Provider) (events : List Given) (replies : List ServerSays)
    → length replies ≡ length events → Pairs (λ k. Says provider (Open provider events replies k)) events replies
    → ServerHistory provider events replies
server_history provider events replies count rows =
    record { count = count; each = each_pair (λ k. Says provider (Open provider events replies k)) events replies rows }

pub client_history : (login : Login) (events : List Given) (replies : List ClientSays) → length replies ≡ length events
    → Pairs (SaysAt login events replies) events replies → ClientHistory login events replies
client_history login events replies count rows =
    record { count = count; each = each_pair (SaysAt login events replies) events replies rows }

-- ---- the start

pub start_sent : canonical (sends_init (joined (names (codes "user"))))
    ≡ Some (body_of (sends_init (joined (names (codes "user")))))
start_sent = init_bodied (joined (names (codes "user")))
    (omega (arith, short_joined (names (codes "user")) (short_names (codes "user") (omega arith))))

pub start_said : Started (body_of (sends_init (joined (names (codes "user")))))
    ≡ says_start login (event_of client_bytes offers)
start_said =
    let says = carried (Refused (Frame faults.TooLarge)) (λ body. Started body) in
    let named : says_start login (event_of client_bytes offers)
    ≡ says (canonical (sends_init (joined (names (codes "user"))))) =
    ap (λ (name : List ℕ). says (canonical (sends_init (joined (names name))))) user_text in
    sym (named ∙ ap says start_sent)

-- the client starts at the list of the one mechanism
pub starts : (events : List Given) (replies : List ClientSays) → SaysAt login events replies 0
    (event_of client_bytes offers) (Started (body_of (sends_init (joined (names (codes "user"))))))
starts events replies =
    (Ok offers, spells_body offers mechanisms_texts mechanisms_sent, inr (inl ((0, omega arith, refl), start_said)))

-- the server's own challenge
pub challenge_sent : canonical (frames.Challenge (joined (values both)))
    ≡ Some (body_of (frames.Challenge (joined (values both))))
challenge_sent = challenge_bodied (joined (values both))
    (omega (arith, short_joined (values both) (short_values both (omega (arith, length-both)))))

-- ---- the login

-- what is added is plain and short, and both sides have one AuthMessage
pub record PassesUnseen (added : Added) : Type 0 where
  pub nonce : Plain (told added)
  pub init : AllByRecursion Plain added.init
  pub challenge : AllByRecursion Plain added.challenge
  pub response : AllByRecursion Plain added.response
  pub short_nonce : length (told added) ≤ 100
  pub short_init : length (init_text added) < 2 ^ 15
  pub short_challenge : length (challenge_text added) < 2 ^ 16
  pub short_response : length (response_text added) < 2 ^ 15
  pub message : client_message login (answer_to added) ≡ server_message (accepted_with added)

module _ (added : Added) (is : PassesUnseen added) where
  abbrev nonce : List ℕ
  nonce = told added

  abbrev text : List ℕ
  text = challenge_text added

  abbrev answer : Answering
  answer = answer_to added

  abbrev accepted : Accepted
  accepted = accepted_with added

  abbrev proof : List ℕ
  proof = proof_at login answer

  -- ---- the server

  abbrev events : List Given
  events = (sides_with added).server_events

  abbrev replies : List ServerSays
  replies = (sides_with added).server_replies

  abbrev init : SaslFrame
  init = sends_init (init_text added)

  init_spelled : SpellsBody (body_of init) (Ok init)
  init_spelled = spells_body init (init_texts (init_text added)) (init_bodied (init_text added) is.short_init)

  init_fits : FitsAsInit provider (event_of server_bytes init) init accepted.challenge
  init_fits = (refl, reads_names (codes "user") added.init user_text plain_user is.init, refl, refl)

  challenge_said : Challenged (body_of (frames.Challenge (joined (values both))))
      ≡ says_frame (frames.Challenge (first_message accepted.challenge))
  challenge_said =
      sym (ap (λ (message : List ℕ). carried (Failed faults.TooLarge) (λ body. Challenged body)
      (canonical (frames.Challenge message))) (first_joined (init_text added))
      ∙ ap (carried (Failed faults.TooLarge) (λ body. Challenged body)) challenge_sent)

  -- the init fits, and so is open at 1
  open_one : Open provider events replies 1 accepted.challenge
  open_one = (
    0,
    opens_here is_challenge is_ok replies 0 refl,
    (event_of server_bytes init, init, refl, init_spelled, init_fits),
  )

  abbrev response : SaslFrame
  response = sends_response (response_text added) proof

  response_spelled : SpellsBody (body_of response) (Ok response)
  response_spelled = spells_body response (tt, tt)
      (response_sent (response_text added) proof is.short_response (length-proof text nonce))

  response_fits : FitsAsResponse provider (Open provider events replies 1) response accepted
  response_fits = (
    open_one,
    reads_final added.response is.response proof (server_at provider accepted.challenge) refl refl refl
        (IsBytes-proof text nonce) (length-proof text nonce)
        (proof_meets text nonce (server_message accepted) is.message, refl),
  )

  ok_said : Concluded outcomes.Ok (body_of (sends_ok answer)) ≡ says_ok provider accepted
  ok_said =
      let says = carried (Failed faults.TooLarge) (λ body. Concluded outcomes.Ok body) in
      let named : says_ok provider accepted ≡ says (canonical (sends_ok answer)) =
      ap (λ (one : List ℕ). says (canonical (frames.Outcome outcomes.Ok
      (Some (codes "v=" ++ base64_text (hmac_of Sha256 stored.server_key one)))))) (sym is.message) in
      sym (named ∙ ap says (ok_sent answer))

  servers_history : ServerHistory provider events replies
  servers_history =
      server_history provider events replies refl (
        (Ok init, init_spelled, inr (inl (accepted.challenge, init_fits, challenge_said))),
        ((Ok response, response_spelled, inr (inl (accepted, response_fits, ok_said))), tt),
      )

  -- ---- the client

  abbrev given : List Given
  given = (sides_with added).client_events

  abbrev said : List ClientSays
  said = (sides_with added).client_replies

  abbrev asked : SaslFrame
  asked = frames.Challenge text

  asked_spelled : SpellsBody (body_of asked) (Ok asked)
  asked_spelled = spells_body asked (tt, tt) (challenge_bodied text is.short_challenge)

  -- the start is due at 1, and the answer to it open at 2
  challenge_read : ReadsChallenge login (IsDue given said 1) text (Ok answer)
  challenge_read = (
    utf8_joined (values nonce ++ added.challenge)
        (each_append Plain (values nonce) added.challenge (plain_values nonce is.nonce) is.challenge),
    refl,
    (0, opens_here is_start is_answer said 0 refl, (event_of client_bytes offers, refl, refl)),
    reads_values nonce added.nonce added.challenge refl is.nonce is.challenge,
  )

  answers_one : AnswersAt login given said 1 answer
  answers_one = (event_of client_bytes asked, text, refl, asked_spelled, challenge_read)

  pub open_two : OpenAnswer login given said 2 answer
  open_two = (1, opens_here is_answer ends_answer said 1 refl, answers_one)

  pub answer_sent : canonical (sends_response (joined (binds nonce)) proof)
      ≡ Some (body_of (sends_response (joined (binds nonce)) proof))
  answer_sent = response_sent (joined (binds nonce)) proof
      (omega (arith, short_joined (binds nonce) (short_binds nonce is.short_nonce))) (length-proof text nonce)

  pub answer_said : Answered (body_of (sends_response (joined (binds nonce)) proof)) ≡ says_answer login answer
  answer_said =
      let says = carried (Refused (Frame faults.TooLarge)) (λ body. Answered body) in
      let named : says_answer login answer ≡ says (canonical (sends_response (joined (binds nonce)) proof)) =
      ap (λ (binding : List ℕ). says
      (canonical (frames.Response (client_final_of (joined ((codes "c=" ++ binding) ∷ (codes "r=" ++ nonce) ∷ []))
      proof)))) header_text in
      sym (named ∙ ap says answer_sent)

  clients_history : ClientHistory login given said
  clients_history =
      let signed = signature_read text nonce (client_message login answer) refl (is_strict_login login) in
      let final = spells_body (sends_ok answer) (tt, (tt, tt)) (ok_sent answer) in
      let none : (other : Answering) → ¬ MaySign login (OpenAnswer login given said 1) other =
      λ other may. absurd (true≢false (sym may.0)) in
      client_history login given said refl (
        starts given said,
        (
          (Ok asked, asked_spelled, inr (inr (inr (none, inl (answer, challenge_read, answer_said))))),
          ((Ok (sends_ok answer), final, inr (inl ((answer, open_two, signed), refl))), tt),
        ),
      )

  -- ---- both

  pub histories : Histories (sides_with added)
  histories = record { client = clients_history; server = servers_history }

  ok_at : OkAt (sides_with added) 1 accepted
  ok_at = record {
    body = body_of (sends_ok answer);
    says = refl;
    accepts = (event_of server_bytes response, response, refl, response_spelled, response_fits);
  }

  pub takes : Takes (sides_with added) 2 1 accepted
  takes =
      let has = names_server_final _ _ (verifier answer) tt
      (signature_read text nonce (client_message login answer) refl (is_strict_login login)) in
      record {
        more = Some (verifier answer);
        text = verifier answer;
        reported = refl;
        verifier = refl;
        ok = ok_at;
        one = subst (λ (message : List ℕ). Part (verifier answer) 0
            (codes "v=" ++ base64_text (hmac_of Sha256 stored.server_key message))) is.message has.1;
      }

  pub shows : Shows (sides_with added) 1 1 answer accepted
  shows = record { body = _; answered = refl; answers = answers_one; ok = ok_at; one = refl }
