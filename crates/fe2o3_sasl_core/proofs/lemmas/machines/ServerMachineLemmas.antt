-- A run of the SCRAM acceptor's machine is a server history: its state holds the challenge that is open, and names who
-- has logged in.
use Rattle.std.proofs.Common.{◌≡◌, ◌≢◌, ◌⊎◌, ℕ, false, Option, Some, None, List, [], ◌∷◌, ◌++◌, length, refl, sym, ap, ◌∙◌, subst, arith, inl, inr, Result, Ok, Err, append_assoc}
use Rattle.std.specs.Prelude.{slice_get}
use Rattle.std.proofs.lemmas.List.{append-nil}
use Rattle.std.proofs.lemmas.Option.{none-some, same_Some}
use Rattle.fe2o3_sasl_wire.specs.declared.amqp_types.SaslCode.TheVariants as outcomes
use Rattle.fe2o3_sasl_wire.specs.declared.sasl_frames.error.Error.{Error}
use Rattle.fe2o3_sasl_wire.specs.declared.sasl_frames.error.Error.TheVariants as faults
use Rattle.fe2o3_sasl_wire.specs.SaslFrames.{canonical, SaslFrame}
use Rattle.fe2o3_sasl_wire.specs.SaslFrames as frames
use Rattle.fe2o3_scram.specs.declared.scram_messages.error.ServerScramErrorKind.{ServerScramErrorKind}
use Rattle.fe2o3_scram.specs.Texts.{base64_text}
use Rattle.fe2o3_scram.specs.ServerFirst.{ServerChallenge, challenge_of}
use Rattle.fe2o3_scram.specs.ClientFirst.{ClientFirst}
use Rattle.fe2o3_scram.specs.Credentials.{Record, Provider}
use Rattle.fe2o3_sasl_core.specs.Events.{Given, ServerSays, Challenged, Concluded, Failed}
use Rattle.fe2o3_sasl_core.specs.Laws.{AcceptorRunsAreHistories, AcceptorRunsNameUsers}
use Rattle.fe2o3_scram.specs.ChannelBinding.{server_mechanism}
use Rattle.fe2o3_sasl_core.specs.Runs.{AcceptorGives, AcceptorSteps, SendsCanonical, Runs}
use Rattle.fe2o3_sasl_core.specs.SaslAcceptor.{acceptor_machine, acceptor_user, Acceptor, ScramAcceptor, ends_with, server_frame}
use Rattle.fe2o3_scram.specs.ClientFinal.{ReadsClientFinal}
use Rattle.fe2o3_sasl_core.specs.Bodies.{SpellsBody, carried, server_says, says_frame}
use Rattle.fe2o3_sasl_core.specs.ServerHistory.{Challenging, Accepted, FitsAsInit, FitsAsResponse, FitsAt, AcceptsUser, Open, ServerAnswers, ServerAllocates, ServerHistory, is_challenge, is_ok, first_message, final_message, server_at}
use Rattle.fe2o3_scram.specs.ScramServer.{ServerState, Initial, ServerFirstSent, ServerFinalSent, logged_in, ChallengesFrom, ConcludesFrom}
use Rattle.fe2o3_scram.proofs.lemmas.messages.ClientFinalLemmas.{one_client_final}
use Rattle.fe2o3_scram.proofs.lemmas.messages.ClientFirstLemmas.{one_client_first}
use Rattle.fe2o3_sasl_core.proofs.lemmas.positions.OpenStateLemmas.{Holds, OfOne, Turns, holds_nothing, holds_push}
use Rattle.fe2o3_scram.proofs.lemmas.messages.OneValueLemmas.{one_client_first_value}
use Rattle.fe2o3_sasl_core.proofs.lemmas.positions.PositionLemmas.{slice_get-behind}
use Rattle.fe2o3_sasl_core.proofs.lemmas.histories.OneServerHistoryLemmas.{one_fits_at, one_accepted}
use Rattle.fe2o3_sasl_core.proofs.lemmas.frames.SpellingLemmas.{sent}
use Rattle.fe2o3_sasl_core.proofs.lemmas.histories.LongerServerHistoryLemmas.{fits_same, open_same, users_same, response_moves, Says, says_moves, history_push}

-- ---- the state and the challenge that is open

-- the state has the challenge that is open, or it has none
abbrev Shown : Option Challenging → ServerState → Type 0
Shown (Some c) state = state ≡ ServerFirstSent (challenge_of c.client c.nonce c.stored) c.stored
Shown None state = (challenge : ServerChallenge) (stored : Record) → state ≢ ServerFirstSent challenge stored

-- the frame is a response that is accepted, and this is the user of the challenge that is open
abbrev Logs : Provider → Option Challenging → Result SaslFrame Error → List ℕ → Type 0
Logs provider held spelled user = (frame : SaslFrame) × (spelled ≡ Ok frame) × (p : Accepted)
    × FitsAsResponse provider (λ c. held ≡ Some c) frame p × (user ≡ p.challenge.client.user)

-- a step, as a history has it: what it says, what is open after it and who has logged in, and that the state has both
record Stepped (provider : Provider) (held : Option Challenging) (event : Given) (spelled : Result SaslFrame Error)
    (says : ServerSays) (state next : ServerState) : Type 0 where
  after : Option Challenging
  names : Turns is_ok is_challenge (Logs provider held spelled) (logged_in state) says (logged_in next)
  answers : (ServerAllocates spelled × (says ≡ Failed faults.OutOfMemory))
      ⊎ ServerAnswers provider (λ c. held ≡ Some c) event spelled says
  turns : Turns is_challenge is_ok (λ c. (frame : SaslFrame) × (spelled ≡ Ok frame) × FitsAsInit provider event frame c)
      held says after
  shown : Shown after next

-- a reply that opens and closes nothing
idle : (provider : Provider) (held : Option Challenging) (event : Given) (spelled : Result SaslFrame Error)
    (says : ServerSays) (state next : ServerState) → is_challenge says ≡ false → is_ok says ≡ false → next ≡ state
    → Shown held state
    → (ServerAllocates spelled × (says ≡ Failed faults.OutOfMemory))
    ⊎ ServerAnswers provider (λ c. held ≡ Some c) event spelled says
    → Stepped provider held event spelled says state next
idle provider held event spelled says state next c o e shown answers =
    record {
      after = held;
      names = inr (inr (o, c, ap logged_in e));
      answers = answers;
      turns = inr (inr (c, o, refl));
      shown = subst (Shown held) (sym e) shown;
    }

-- where the machine leaves the state, what is sent leaves it too
stays : {S A : Type 0} (too_large : A) (says : List ℕ → A) (body : Option (List ℕ)) (state moved : S) (reply : A)
    (next : S) → moved ≡ state → SendsCanonical too_large says body state moved reply next → next ≡ state
stays too_large says None state moved reply next e h = h.1
stays too_large says (Some body) state moved reply next e h = h.1 ∙ e

auth_idle : (body : Option (List ℕ)) (says : ServerSays)
    → says ≡ carried (Failed faults.TooLarge) (λ b. Concluded outcomes.Auth b) body
    → (is_challenge says ≡ false) × (is_ok says ≡ false)
auth_idle None says e = (ap is_challenge e, ap is_ok e)
auth_idle (Some body) says e = (ap is_challenge e, ap is_ok e)

-- Auth, where the init does not fit
auth_init : (provider : Provider) (held : Option Challenging) (event : Given) (mechanism : List ℕ)
    (response hostname : Option (List ℕ)) (says : ServerSays) (state moved next : ServerState) (reply : SaslFrame)
    → Shown held state
    → ((c : Challenging) → ¬ FitsAsInit provider event (frames.Init mechanism response hostname) c)
    → reply ≡ ends_with outcomes.Auth → moved ≡ state
    → SendsCanonical (Failed faults.TooLarge) (server_says reply) (canonical reply) state moved says next
    → Stepped provider held event (Ok (frames.Init mechanism response hostname)) says state next
auth_init provider held event mechanism response hostname says state moved next reply shown unfit r m h =
    let g = subst (λ (f : SaslFrame). SendsCanonical (Failed faults.TooLarge) (server_says f)
    (canonical f) state moved says next) r h in
    let e : says ≡ says_frame (frames.Outcome outcomes.Auth None) = (sent (Failed faults.TooLarge)
    (λ b. Concluded outcomes.Auth b) (canonical (frames.Outcome outcomes.Auth None)) state moved says next g).0 in
    let i = auth_idle (canonical (frames.Outcome outcomes.Auth None)) says e in
    idle provider held event (Ok (frames.Init mechanism response hostname)) says state next i.0 i.1
    (stays (Failed faults.TooLarge) (λ b. Concluded outcomes.Auth b)
    (canonical (frames.Outcome outcomes.Auth None)) state moved says next m g) shown (inr (inr (unfit, e)))

-- Auth, where the response does not fit
auth_response : (provider : Provider) (held : Option Challenging) (event : Given) (text : List ℕ) (says : ServerSays)
    (state moved next : ServerState) (reply : SaslFrame) → Shown held state
    → ((p : Accepted) → ¬ FitsAsResponse provider (λ c. held ≡ Some c) (frames.Response text) p)
    → reply ≡ ends_with outcomes.Auth → moved ≡ state
    → SendsCanonical (Failed faults.TooLarge) (server_says reply) (canonical reply) state moved says next
    → Stepped provider held event (Ok (frames.Response text)) says state next
auth_response provider held event text says state moved next reply shown unfit r m h =
    let g = subst (λ (f : SaslFrame). SendsCanonical (Failed faults.TooLarge) (server_says f)
    (canonical f) state moved says next) r h in
    let e : says ≡ says_frame (frames.Outcome outcomes.Auth None) = (sent (Failed faults.TooLarge)
    (λ b. Concluded outcomes.Auth b) (canonical (frames.Outcome outcomes.Auth None)) state moved says next g).0 in
    let i = auth_idle (canonical (frames.Outcome outcomes.Auth None)) says e in
    idle provider held event (Ok (frames.Response text)) says state next i.0 i.1
    (stays (Failed faults.TooLarge) (λ b. Concluded outcomes.Auth b)
    (canonical (frames.Outcome outcomes.Auth None)) state moved says next m g) shown (inr (inr (unfit, e)))

-- a challenge that is sent, or too large
challenge_step : (provider : Provider) (held : Option Challenging) (event : Given) (frame : SaslFrame) (c : Challenging)
    (body : Option (List ℕ)) (says : ServerSays) (state moved next : ServerState) → Shown held state
    → FitsAsInit provider event frame c
    → moved ≡ ServerFirstSent (challenge_of c.client c.nonce c.stored) c.stored
    → SendsCanonical (Failed faults.TooLarge) (λ b. Challenged b) body state moved says next
    → ServerAnswers provider (λ c. held ≡ Some c) event (Ok frame) says
    → Stepped provider held event (Ok frame) says state next
challenge_step provider held event frame c None says state moved next shown fits m h answers =
    idle provider held event (Ok frame) says state next (ap is_challenge h.0) (ap is_ok h.0) h.1 shown (inr answers)
challenge_step provider held event frame c (Some body) says state moved next shown fits m h answers =
    record {
      after = Some c;
      names = inr (inl (ap is_ok h.0, ap is_challenge h.0, ap logged_in (h.1 ∙ m)));
      answers = inr answers;
      turns =
          inl (ap is_challenge h.0, (c, (frame, refl, fits), refl));
      shown = h.1 ∙ m;
    }

-- an Ok that is sent, or too large
ok_step : (provider : Provider) (held : Option Challenging) (event : Given) (frame : SaslFrame) (p : Accepted)
    (body : Option (List ℕ)) (says : ServerSays) (state moved next : ServerState) → Shown held state
    → FitsAsResponse provider (λ c. held ≡ Some c) frame p
    → moved ≡ ServerFinalSent p.challenge.client.user p.challenge.client.header.acts_for
    → SendsCanonical (Failed faults.TooLarge) (λ b. Concluded outcomes.Ok b) body state moved says next
    → ServerAnswers provider (λ c. held ≡ Some c) event (Ok frame) says
    → Stepped provider held event (Ok frame) says state next
ok_step provider held event frame p None says state moved next shown fits m h answers =
    idle provider held event (Ok frame) says state next (ap is_challenge h.0) (ap is_ok h.0) h.1 shown (inr answers)
ok_step provider held event frame p (Some body) says state moved next shown fits m h answers =
    record {
      after = None;
      names = inl (ap is_ok h.0, (p.challenge.client.user, (frame, refl, p, fits, refl), ap logged_in (h.1 ∙ m)));
      answers = inr answers;
      turns = inr (inl (ap is_challenge h.0, ap is_ok h.0, refl));
      shown =
          λ challenge stored e. let x = sym m ∙ (sym h.1 ∙ e) in absurd (cc);
    }

-- ---- the two rows with a machine after them

init_step : (provider : Provider) (held : Option Challenging) (event : Given) (mechanism text : List ℕ)
    (hostname : Option (List ℕ)) (says : ServerSays) (state moved next : ServerState) (reply : SaslFrame)
    (answer : Result (Option (List ℕ)) ServerScramErrorKind)
    → Shown held state → mechanism ≡ server_mechanism provider.version provider.rules
    → ChallengesFrom state provider event.nonce text answer moved
    → reply ≡ server_frame (λ message. frames.Challenge message) answer
    → SendsCanonical (Failed faults.TooLarge) (server_says reply) (canonical reply) state moved says next
    → Stepped provider held event (Ok (frames.Init mechanism (Some text) hostname)) says state next
init_step provider held event mechanism text hostname says state moved next reply
    (Ok (Some message)) shown name from r h =
    let challenge = from.0 in
    let c : Challenging = record { client = from.1.0; nonce = base64_text event.nonce; stored = from.1.1 } in
    let fits : FitsAsInit provider event (frames.Init mechanism (Some text) hostname) c =
    (name, from.1.2, from.1.3, refl) in
    let made : challenge ≡ challenge_of c.client c.nonce c.stored = from.1.4 in
    let stored = same_Some from.3.0 c.stored (sym from.3.1 ∙ (ap (λ (x : ServerChallenge). provider.records x.user) made
    ∙ from.1.3)) in
    let first : message ≡ first_message c = from.2 ∙ ap (λ (x : ServerChallenge). x.first) made in
    let frame : reply ≡ frames.Challenge (first_message c) = r ∙ ap (λ (t : List ℕ). frames.Challenge t) first in
    let g = subst (λ (f : SaslFrame). SendsCanonical (Failed faults.TooLarge) (server_says f)
    (canonical f) state moved says next) frame h in
    let e = (sent (Failed faults.TooLarge) (λ b. Challenged b)
    (canonical (frames.Challenge (first_message c))) state moved says next g).0 in
    challenge_step provider held event (frames.Init mechanism (Some text) hostname) c
    (canonical (frames.Challenge (first_message c))) says state moved next shown fits
    (from.3.2 ∙ (λ i. ServerFirstSent (made i) (stored i))) g (inl (c, fits, e))
init_step provider held event mechanism text hostname says state moved next reply (Ok None) shown name from r h =
    auth_init provider held event mechanism (Some text) hostname says state moved next reply shown
    (λ c fits. none-some c.stored
    (sym from.0.2 ∙ (ap (λ (first : ClientFirst). provider.records first.user)
    (one_client_first_value provider.rules text from.0.0 c.client from.0.1 fits.1) ∙ fits.2)))
    r from.1 h
init_step provider held event mechanism text hostname says state moved next reply (Err fault) shown name from r h =
    auth_init provider held event mechanism (Some text) hostname says state moved next reply shown (λ c fits. let e =
    one_client_first provider.rules text (Err fault) (Ok c.client) from.0 fits.1 in absurd (cc)) r from.1 h

-- the server reads a response against the challenge that is open
response_step : (provider : Provider) (c : Challenging) (event : Given) (text : List ℕ) (says : ServerSays)
    (moved next : ServerState) (reply : SaslFrame) (answer : Result (Option (List ℕ)) ServerScramErrorKind)
    → ConcludesFrom (ServerFirstSent (challenge_of c.client c.nonce c.stored) c.stored) provider.version provider.rules
    provider.rights text answer moved
    → reply ≡ server_frame (λ message. frames.Outcome outcomes.Ok (Some message)) answer
    → SendsCanonical (Failed faults.TooLarge) (server_says reply) (canonical reply)
    (ServerFirstSent (challenge_of c.client c.nonce c.stored) c.stored) moved says next
    → Stepped provider (Some c) event (Ok (frames.Response text)) says
    (ServerFirstSent (challenge_of c.client c.nonce c.stored) c.stored) next
response_step provider c event text says moved next reply (Ok (Some message)) from r h =
    let p : Accepted = record { challenge = c; final = from.0.0 } in
    let reads : ReadsClientFinal (server_at provider c) text (Ok from.0.0) = from.0.1 in
    let frame : reply ≡ frames.Outcome outcomes.Ok (Some (final_message provider p)) =
    r ∙ ap (λ (t : List ℕ). frames.Outcome outcomes.Ok (Some t)) from.0.2 in
    let g = subst (λ (f : SaslFrame). SendsCanonical (Failed faults.TooLarge) (server_says f) (canonical f)
    (ServerFirstSent (challenge_of c.client c.nonce c.stored) c.stored) moved says next) frame h in
    let e = (sent (Failed faults.TooLarge) (λ b. Concluded outcomes.Ok b)
    (canonical (frames.Outcome outcomes.Ok (Some (final_message provider p))))
    (ServerFirstSent (challenge_of c.client c.nonce c.stored) c.stored) moved says next g).0 in
    ok_step provider (Some c) event (frames.Response text) p
    (canonical (frames.Outcome outcomes.Ok (Some (final_message provider p))))
    says (ServerFirstSent (challenge_of c.client c.nonce c.stored) c.stored) moved next refl (refl, reads) from.1 g
    (inl (p, (refl, reads), e))
response_step provider c event text says moved next reply (Ok None) from r h = absurd from
response_step provider c event text says moved next reply (Err fault) from r h =
    auth_response provider (Some c) event text says (ServerFirstSent (challenge_of c.client c.nonce c.stored) c.stored)
    moved next reply refl unfit r from.1 h
  where
    unfit : (p : Accepted) → FitsAsResponse provider (λ d. Some c ≡ Some d) (frames.Response text) p → ⊥
    unfit p fits =
        let same : c ≡ p.challenge = same_Some c p.challenge fits.0 in
        let refused : ReadsClientFinal (server_at provider p.challenge) text (Err fault) =
        subst (λ (d : Challenging). ReadsClientFinal (server_at provider d) text (Err fault)) same from.0 in
        let e = one_client_final (server_at provider p.challenge) text (Err fault) (Ok p.final) refused fits.1 in
        cc

-- without an open challenge
closed_step : (provider : Provider) (event : Given) (text : List ℕ) (says : ServerSays) (state moved next : ServerState)
    (reply : SaslFrame) (answer : Result (Option (List ℕ)) ServerScramErrorKind)
    → Shown None state → ConcludesFrom state provider.version provider.rules provider.rights text answer moved
    → reply ≡ server_frame (λ message. frames.Outcome outcomes.Ok (Some message)) answer
    → SendsCanonical (Failed faults.TooLarge) (server_says reply) (canonical reply) state moved says next
    → Stepped provider None event (Ok (frames.Response text)) says state next
closed_step provider event text says (ServerFirstSent challenge stored) moved next reply answer shown from r h =
    absurd (shown challenge stored refl)
closed_step provider event text says Initial moved next reply (Ok message) shown from r h = absurd from
closed_step provider event text says Initial moved next reply (Err fault) shown from r h =
    auth_response provider None event text says Initial moved next reply shown
    (λ p fits. none-some p.challenge fits.0) r from.1 h
closed_step provider event text says (ServerFinalSent user acts_for) moved next reply (Ok message) shown from r h = absurd from
closed_step provider event text says (ServerFinalSent user acts_for) moved next reply (Err fault) shown from r h =
    auth_response provider None event text says (ServerFinalSent user acts_for) moved next reply shown
    (λ p fits. none-some p.challenge fits.0) r from.1 h

-- ---- one step

-- the rows of the SCRAM acceptor, only over its state
abbrev machine : Provider → ServerState → List ℕ → SaslFrame → SaslFrame → ServerState → Type 0
machine provider state nonce (frames.Init mechanism (Some text) hostname) reply next =
    ((mechanism ≢ server_mechanism provider.version provider.rules) × (reply ≡ ends_with outcomes.Auth)
    × (next ≡ state))
    ⊎ ((mechanism ≡ server_mechanism provider.version provider.rules)
    × ((answer : Result (Option (List ℕ)) ServerScramErrorKind) × ChallengesFrom state provider nonce text answer next
    × (reply ≡ server_frame (λ message. frames.Challenge message) answer)))
machine provider state nonce (frames.Init mechanism None hostname) reply next =
    (reply ≡ ends_with outcomes.Auth) × (next ≡ state)
machine provider state nonce (frames.Response text) reply next =
    (answer : Result (Option (List ℕ)) ServerScramErrorKind)
    × ConcludesFrom state provider.version provider.rules provider.rights text answer next
    × (reply ≡ server_frame (λ message. frames.Outcome outcomes.Ok (Some message)) answer)
machine provider state nonce frame reply next = ⊥

gives_init : (provider : Provider) (held : Option Challenging) (event : Given) (mechanism : List ℕ)
    (response hostname : Option (List ℕ)) (says : ServerSays) (state moved next : ServerState) (reply : SaslFrame)
    → Shown held state
    → machine provider state event.nonce (frames.Init mechanism response hostname) reply moved
    → SendsCanonical (Failed faults.TooLarge) (server_says reply) (canonical reply) state moved says next
    → Stepped provider held event (Ok (frames.Init mechanism response hostname)) says state next
gives_init provider held event mechanism None hostname says state moved next reply shown m h =
    auth_init provider held event mechanism None hostname says state moved next reply shown (λ c fits. fits) m.0 m.1 h
gives_init provider held event mechanism (Some text) hostname says state moved next reply shown (inl m) h =
    auth_init provider held event mechanism (Some text) hostname says state moved next reply shown
    (λ c fits. m.0 fits.0) m.1 m.2 h
gives_init provider held event mechanism (Some text) hostname says state moved next reply shown (inr m) h =
    init_step provider held event mechanism text hostname says state moved next reply m.1.0 shown m.0 m.1.1 m.1.2 h

gives_response : (provider : Provider) (held : Option Challenging) (event : Given) (text : List ℕ) (says : ServerSays)
    (state moved next : ServerState) (reply : SaslFrame) → Shown held state
    → machine provider state event.nonce (frames.Response text) reply moved
    → SendsCanonical (Failed faults.TooLarge) (server_says reply) (canonical reply) state moved says next
    → Stepped provider held event (Ok (frames.Response text)) says state next
gives_response provider None event text says state moved next reply shown m h =
    closed_step provider event text says state moved next reply m.0 shown m.1 m.2 h
gives_response provider (Some c) event text says state moved next reply shown m h =
    subst (λ (s : ServerState). Stepped provider (Some c) event (Ok (frames.Response text)) says s next) (sym shown)
    (response_step provider c event text says moved next reply m.0
    (subst (λ (s : ServerState). ConcludesFrom s provider.version provider.rules provider.rights text m.0 moved) shown m.1) m.2
    (subst (λ (s : ServerState). SendsCanonical (Failed faults.TooLarge) (server_says reply)
    (canonical reply) s moved says next) shown h))

-- what the machine gives is what the table gives
stepped : (provider : Provider) (held : Option Challenging) (event : Given) (spelled : Result SaslFrame Error)
    (says : ServerSays) (state next : ServerState) → Shown held state
    → AcceptorGives (machine provider) state event spelled says next
    → Stepped provider held event spelled says state next
stepped provider held event (Err fault) says state next shown h =
    idle provider held event (Err fault) says state next (ap is_challenge h.0) (ap is_ok h.0) h.1 shown (inr h.0)
stepped provider held event (Ok (frames.Mechanisms names)) says state next shown h =
    idle provider held event (Ok (frames.Mechanisms names)) says state next (ap is_challenge h.0)
    (ap is_ok h.0) h.1 shown
    (inr h.0)
stepped provider held event (Ok (frames.Challenge text)) says state next shown h =
    idle provider held event (Ok (frames.Challenge text)) says state next (ap is_challenge h.0) (ap is_ok h.0) h.1 shown
    (inr h.0)
stepped provider held event (Ok (frames.Outcome code more)) says state next shown h =
    idle provider held event (Ok (frames.Outcome code more)) says state next (ap is_challenge h.0)
    (ap is_ok h.0) h.1 shown
    (inr h.0)
stepped provider held event (Ok (frames.Init mechanism response hostname)) says state next shown (inl h) =
    idle provider held event (Ok (frames.Init mechanism response hostname)) says state next (ap is_challenge h.0)
    (ap is_ok h.0) h.1 shown (inl (tt, h.0))
stepped provider held event (Ok (frames.Init mechanism response hostname)) says state next shown (inr h) =
    gives_init provider held event mechanism response hostname says state h.1 next h.0 shown h.2 h.3
stepped provider held event (Ok (frames.Response text)) says state next shown (inl h) =
    idle provider held event (Ok (frames.Response text)) says state next (ap is_challenge h.0) (ap is_ok h.0) h.1 shown
    (inl (tt, h.0))
stepped provider held event (Ok (frames.Response text)) says state next shown (inr h) =
    gives_response provider held event text says state h.1 next h.0 shown h.2 h.3

-- ---- the run

-- one user is accepted at a position at most
one_user : (provider : Provider) (events : List Given) (replies : List ServerSays) (n : ℕ)
    → OfOne (AcceptsUser provider events replies n)
one_user provider events replies n user other h k =
    h.2 ∙ (ap (λ (p : Accepted). p.challenge.client.user) (one_accepted provider events replies n h.0 k.0 h.1 k.1)
    ∙ sym k.2)

-- what a run leaves: a history, and the user whom the state names is the one who has logged in
abbrev Left : Provider → List Given → List ServerSays → ServerState → Type 0
Left provider events replies last = ServerHistory provider events replies
    × Holds is_ok is_challenge (AcceptsUser provider events replies) replies (logged_in last)

runs_on : (provider : Provider) (events more : List Given) (replies others : List ServerSays)
    (held : Option Challenging) (state last : ServerState) → Left provider events replies state
    → Holds is_challenge is_ok (FitsAt provider events) replies held → Shown held state
    → Runs (AcceptorSteps (machine provider)) state more others last
    → Left provider (events ++ more) (replies ++ others) last
runs_on provider events [] replies others held state last h holds shown run =
    subst (λ (x : List Given). Left provider x (replies ++ others) last) (sym (append-nil events))
    (subst (λ (x : List ServerSays). Left provider events (replies ++ x) last) (sym run.0)
    (subst (λ (x : List ServerSays). Left provider events x last) (sym (append-nil replies))
    (subst (λ (s : ServerState). Left provider events replies s) (sym run.1) h)))
runs_on provider events (e ∷ more) replies others held state last h holds shown run =
    let says = run.0 in
    let spelled = run.3.0 in
    let step = stepped provider held e spelled says state run.1 shown run.3.2 in
    let told : Says provider (Open provider events replies (length replies)) e says =
    says_moves provider (λ c. held ≡ Some c) (Open provider events replies (length replies))
    (holds.found, holds.only) e says
    (spelled, run.3.1, step.answers) in
    let pushed = history_push provider events replies e says h.0 told in
    let there : slice_get (events ++ e ∷ []) (length replies) ≡ Some e =
    ap (slice_get (events ++ e ∷ [])) h.0.count ∙ slice_get-behind events e [] in
    let turns = turned spelled says step.after there run.3.1 step.turns in
    let kept = holds_push is_challenge is_ok (FitsAt provider events)
    (FitsAt provider (events ++ e ∷ [])) replies says held step.after
    (λ j b. fits_same provider events (e ∷ []) j (omega (arith, h.0.count)))
    (one_fits_at provider (events ++ e ∷ []) (length replies)) holds turns in
    let named = holds_push is_ok is_challenge (AcceptsUser provider events replies)
    (AcceptsUser provider (events ++ e ∷ []) (replies ++ says ∷ [])) replies says (logged_in state) (logged_in run.1)
    (λ j b. users_same provider events (e ∷ []) replies (says ∷ []) j h.0.count b)
    (one_user provider (events ++ e ∷ []) (replies ++ says ∷ []) (length replies)) h.1
    (logged spelled says run.1 there run.3.1 step.names) in
    let rest = runs_on provider (events ++ e ∷ []) more (replies ++ says ∷ []) run.2 step.after run.1 last
    (pushed, named) kept step.shown run.5 in
    subst (λ (x : List ServerSays). Left provider (events ++ e ∷ more) (replies ++ x) last) (sym run.4)
    (subst (λ (x : List Given). Left provider x (replies ++ says ∷ run.2) last) (append_assoc events (e ∷ []) more)
    (subst (λ (x : List ServerSays). Left provider ((events ++ e ∷ []) ++ more) x last)
    (append_assoc replies (says ∷ []) run.2) rest))
  where
    turned : (spelled : Result SaslFrame Error) (says : ServerSays) (after : Option Challenging)
        → slice_get (events ++ e ∷ []) (length replies) ≡ Some e → SpellsBody e.body spelled
        → Turns is_challenge is_ok (λ c. (frame : SaslFrame) × (spelled ≡ Ok frame) × FitsAsInit provider e frame c)
        held says
        after → Turns is_challenge is_ok (FitsAt provider (events ++ e ∷ []) (length replies)) held says after
    turned spelled says after there spells (inl t) =
        inl (
          t.0,
          (
            t.1.0,
            (
              e,
              t.1.1.0,
              there,
              subst (λ (s : Result SaslFrame Error). SpellsBody e.body s) t.1.1.1
                  spells,
              t.1.1.2,
            ),
            t.1.2,
          ),
        )
    turned spelled says after there spells (inr t) = inr t

    logged : (spelled : Result SaslFrame Error) (says : ServerSays) (next : ServerState)
        → slice_get (events ++ e ∷ []) (length replies) ≡ Some e → SpellsBody e.body spelled
        → Turns is_ok is_challenge (Logs provider held spelled) (logged_in state) says (logged_in next)
        → Turns is_ok is_challenge
        (AcceptsUser provider (events ++ e ∷ []) (replies ++ says ∷ []) (length replies)) (logged_in state) says
        (logged_in next)
    logged spelled says next there spells (inl t) =
        let same = open_same provider events (e ∷ []) replies (says ∷ []) (length replies) h.0.count (omega arith) in
        let fits = response_moves provider (λ c. held ≡ Some c)
        (Open provider (events ++ e ∷ []) (replies ++ says ∷ []) (length replies))
        (λ c is. same.0 c (holds.found c is)) t.1.1.0 t.1.1.2 t.1.1.3 in
        inl (
          t.0,
          (
            t.1.0,
            (
              t.1.1.2,
              (
                e,
                t.1.1.0,
                there,
                subst (λ (s : Result SaslFrame Error). SpellsBody e.body s) t.1.1.1 spells,
                fits,
              ),
              t.1.1.4,
            ),
            t.1.2,
          ),
        )
    logged spelled says next there spells (inr t) = inr t

-- ---- the provider stays, and only the state moves

stated : (provider : Provider) (state : ServerState) (nonce : List ℕ) (frame reply : SaslFrame) (next : Acceptor)
    → acceptor_machine (ScramAcceptor provider state) nonce frame reply next
    → (after : ServerState) × (next ≡ ScramAcceptor provider after) × machine provider state nonce frame reply after
stated provider state nonce (frames.Init mechanism (Some text) hostname) reply next (inl x) =
    (state, x.2, inl (x.0, x.1, refl))
stated provider state nonce (frames.Init mechanism (Some text) hostname) reply next (inr x) =
    (x.1.1, x.1.4, inr (x.0, (x.1.0, x.1.2, x.1.3)))
stated provider state nonce (frames.Init mechanism None hostname) reply next x = (state, x.1, (x.0, refl))
stated provider state nonce (frames.Response text) reply next x = (x.1, x.4, (x.0, x.2, x.3))
stated provider state nonce (frames.Mechanisms names) reply next x = absurd x
stated provider state nonce (frames.Challenge text) reply next x = absurd x
stated provider state nonce (frames.Outcome code more) reply next x = absurd x

sends_back : (body : Option (List ℕ)) (says_body : List ℕ → ServerSays) (provider : Provider)
    (state after : ServerState) (moved next : Acceptor) (says : ServerSays) → moved ≡ ScramAcceptor provider after
    → SendsCanonical (Failed faults.TooLarge) says_body body (ScramAcceptor provider state) moved says next
    → (last : ServerState) × (next ≡ ScramAcceptor provider last)
    × SendsCanonical (Failed faults.TooLarge) says_body body state after says last
sends_back None says_body provider state after moved next says e h = (state, h.1, (h.0, refl))
sends_back (Some body) says_body provider state after moved next says e h = (after, h.1 ∙ e, (h.0, refl))

step_back : (provider : Provider) (state : ServerState) (event : Given) (frame reply : SaslFrame)
    (moved next : Acceptor) (says : ServerSays) → acceptor_machine
    (ScramAcceptor provider state) event.nonce frame reply moved
    → SendsCanonical (Failed faults.TooLarge) (server_says reply) (canonical reply)
    (ScramAcceptor provider state) moved says next
    → (last : ServerState) × (next ≡ ScramAcceptor provider last)
    × ((reply : SaslFrame) × (moved : ServerState) × machine provider state event.nonce frame reply moved
    × SendsCanonical (Failed faults.TooLarge) (server_says reply) (canonical reply) state moved says last)
step_back provider state event frame reply moved next says m h =
    let x = stated provider state event.nonce frame reply moved m in
    let b = sends_back (canonical reply) (server_says reply) provider state x.0 moved next says x.1 h in
    (b.0, b.1, (reply, x.0, x.2, b.2))

pub gives_back : (provider : Provider) (state : ServerState) (event : Given) (spelled : Result SaslFrame Error)
    (says : ServerSays) (next : Acceptor) → AcceptorGives acceptor_machine
    (ScramAcceptor provider state) event spelled says next
    → (last : ServerState) × (next ≡ ScramAcceptor provider last)
    × AcceptorGives (machine provider) state event spelled says last
gives_back provider state event (Err fault) says next h = (state, h.1, (h.0, refl))
gives_back provider state event (Ok (frames.Mechanisms names)) says next h = (state, h.1, (h.0, refl))
gives_back provider state event (Ok (frames.Challenge text)) says next h = (state, h.1, (h.0, refl))
gives_back provider state event (Ok (frames.Outcome code more)) says next h = (state, h.1, (h.0, refl))
gives_back provider state event (Ok (frames.Init mechanism response hostname)) says next (inl h) =
    (state, h.1, inl (h.0, refl))
gives_back provider state event (Ok (frames.Init mechanism response hostname)) says next (inr h) =
    let b = step_back provider state event (frames.Init mechanism response hostname) h.0 h.1 next says h.2 h.3 in
    (b.0, b.1, inr b.2)
gives_back provider state event (Ok (frames.Response text)) says next (inl h) = (state, h.1, inl (h.0, refl))
gives_back provider state event (Ok (frames.Response text)) says next (inr h) =
    let b = step_back provider state event (frames.Response text) h.0 h.1 next says h.2 h.3 in (b.0, b.1, inr b.2)

runs_back : (provider : Provider) (state : ServerState) (events : List Given) (replies : List ServerSays)
    (last : Acceptor) → Runs (AcceptorSteps acceptor_machine) (ScramAcceptor provider state) events replies last
    → (end : ServerState) × (last ≡ ScramAcceptor provider end)
    × Runs (AcceptorSteps (machine provider)) state events replies end
runs_back provider state [] replies last h = (state, h.1, (h.0, refl))
runs_back provider state (event ∷ events) replies last h =
    let g = gives_back provider state event h.3.0 h.0 h.1 h.3.2 in
    let r = runs_back provider g.0 events h.2 last
    (subst (λ (x : Acceptor). Runs (AcceptorSteps acceptor_machine) x events h.2 last) g.1 h.5) in
    (r.0, r.1, (h.0, g.0, h.2, (h.3.0, h.3.1, g.2), h.4, r.2))

-- what a run from the first state leaves
left : (provider : Provider) (events : List Given) (replies : List ServerSays) (last : Acceptor)
    → Runs (AcceptorSteps acceptor_machine) (ScramAcceptor provider Initial) events replies last
    → (end : ServerState) × (last ≡ ScramAcceptor provider end) × Left provider events replies end
left provider events replies last run =
    let back = runs_back provider Initial events replies last run in (
      back.0,
      back.1,
      runs_on provider [] events [] replies None Initial back.0 (
        record {
          count = refl;
          each = λ k event s at said. absurd (none-some event at);
        },
        holds_nothing is_ok is_challenge (AcceptsUser provider [] []),
      )
          (holds_nothing is_challenge is_ok (FitsAt provider [])) (λ challenge stored e. absurd (cc)) back.2,
    )

pub acceptor_runs_are_histories : AcceptorRunsAreHistories
acceptor_runs_are_histories provider events replies last run = (left provider events replies last run).2.0

pub acceptor_runs_name_users : AcceptorRunsNameUsers
acceptor_runs_name_users provider events replies last user run =
    let end = left provider events replies last run in
    let names : acceptor_user last ≡ logged_in end.0 = ap acceptor_user end.1 in
    (λ is. end.2.1.found user (sym names ∙ is), λ logged. names ∙ end.2.1.only user logged)
