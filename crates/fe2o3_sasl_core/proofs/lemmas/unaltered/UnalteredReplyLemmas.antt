-- What is replied to a body that spells a frame, where memory does not run out and nothing is too large.
use Rattle.std.proofs.Common.{◌≡◌, ◌≢◌, ◌⊎◌, ℕ, true≢false, List, [], ◌∷◌, Option, Some, None, Bool, refl, sym, ap, ◌∙◌, subst, arith, Result, Ok, Err, inl, inr}
use Rattle.std.specs.Prelude.{slice_get}
use Rattle.std.proofs.lemmas.Option.{slice_get_within}
use Rattle.fe2o3_sasl_wire.specs.declared.amqp_types.SaslCode.TheVariants as outcomes
use Rattle.fe2o3_sasl_wire.specs.declared.sasl_frames.error.Error.{Error}
use Rattle.fe2o3_sasl_wire.specs.declared.sasl_frames.error.Error.TheVariants as faults
use Rattle.fe2o3_sasl_wire.specs.SaslFrames.{canonical, SaslFrame}
use Rattle.fe2o3_sasl_wire.specs.SaslFrames as frames
use Rattle.fe2o3_scram.specs.declared.scram_messages.error.ScramErrorKind.{ScramErrorKind}
use Rattle.fe2o3_scram.specs.Texts.{base64_text}
use Rattle.fe2o3_scram.specs.ChannelBinding.{header_of}
use Rattle.fe2o3_scram.specs.ClientFirst.{client_first_with}
use Rattle.fe2o3_sasl_core.specs.ClientHistory.{Answering, answer_at, client_at, MaySign, ReadsChallenge, ClientAnswers, ClientAllocates, ClientHistory, IsDue, OpenAnswer, VerifiedAnswer, is_answer}
use Rattle.fe2o3_scram.specs.Credentials.{Provider}
use Rattle.fe2o3_sasl_core.specs.Events.{is_strict_login, Given, Login, login_mechanism, ServerSays, Challenged, Concluded, Failed, ClientSays, Started, Answered, Reported, Refused, login_header}
use Rattle.fe2o3_sasl_core.specs.Positions.{test_at, IsLastOpen, OpenBy}
use Rattle.fe2o3_scram.specs.ClientFinal.{ClientFinal, ReadsClientFinal}
use Rattle.fe2o3_scram.specs.ServerFinal.{ReadsServerFinal}
use Rattle.fe2o3_scram.specs.ServerFirst.{ServerFirst, ReadsServerFirst}
use Rattle.fe2o3_sasl_core.specs.Bodies.{SpellsBody, carried}
use Rattle.fe2o3_sasl_core.specs.ServerHistory.{Challenging, Accepted, FitsAsInit, FitsAsResponse, Open, ServerAnswers, ServerAllocates, ServerHistory, first_message, final_message, server_at}
use Rattle.fe2o3_sasl_core.specs.UnalteredRuns.{client_body, server_body, Arrives}
use Rattle.fe2o3_sasl_core.specs.Complete.{ClientComplete, ServerComplete}
use Rattle.fe2o3_scram.proofs.lemmas.messages.OneValueLemmas.{one_server_first_value, one_client_final_value}
use Rattle.fe2o3_sasl_core.proofs.lemmas.positions.PositionLemmas.{some_at, one_open}
use Rattle.fe2o3_scram.proofs.lemmas.messages.ServerFinalLemmas.{one_server_final}
use Rattle.fe2o3_sasl_core.proofs.lemmas.histories.OneServerHistoryLemmas.{one_fits}
use Rattle.fe2o3_scram.proofs.lemmas.messages.ServerFirstLemmas.{one_server_first}
use Rattle.fe2o3_sasl_core.proofs.lemmas.frames.SpellingLemmas.{one_spelling}
use Rattle.fe2o3_sasl_core.specs.declared.sasl_profile.error.ProfileError.TheVariants.{Frame, OutOfMemory}

-- ---- what a history says at a position

abbrev ClientRow : Login → List Given → List ClientSays → ℕ → Given → Result SaslFrame Error → ClientSays → Type 0
ClientRow login events replies k event spelled says =
    (ClientAllocates login spelled × (says ≡ Refused OutOfMemory))
    ⊎ ClientAnswers login (IsDue events replies k) (OpenAnswer login events replies k)
    (VerifiedAnswer login events replies k) event spelled says

abbrev ServerRow : Provider → List Given → List ServerSays → ℕ → Given → Result SaslFrame Error → ServerSays → Type 0
ServerRow provider events replies k event spelled says =
    (ServerAllocates spelled × (says ≡ Failed faults.OutOfMemory))
    ⊎ ServerAnswers provider (Open provider events replies k) event spelled says

-- the reply to a body that spells this frame
client_reply : (login : Login) (events : List Given) (replies : List ClientSays) (k : ℕ) (event : Given)
    (frame : SaslFrame) → ClientHistory login events replies → slice_get events k ≡ Some event
    → SpellsBody event.body (Ok frame)
    → (says : ClientSays) × (slice_get replies k ≡ Some says) × ClientRow login events replies k event (Ok frame) says
client_reply login events replies k event frame history at spells =
    let said = some_at replies k (omega (arith, history.count, slice_get_within events k event at)) in
    let row = history.each k event said.0 at said.1 in (
      said.0,
      said.1,
      subst (λ (spelled : Result SaslFrame Error). ClientRow login events replies k event spelled said.0)
          (one_spelling event.body row.0 (Ok frame) row.1 spells) row.2,
    )

server_reply : (provider : Provider) (events : List Given) (replies : List ServerSays) (k : ℕ) (event : Given)
    (frame : SaslFrame) → ServerHistory provider events replies → slice_get events k ≡ Some event
    → SpellsBody event.body (Ok frame)
    → (says : ServerSays) × (slice_get replies k ≡ Some says)
    × ServerRow provider events replies k event (Ok frame) says
server_reply provider events replies k event frame history at spells =
    let said = some_at replies k (omega (arith, history.count, slice_get_within events k event at)) in
    let row = history.each k event said.0 at said.1 in (
      said.0,
      said.1,
      subst (λ (spelled : Result SaslFrame Error). ServerRow provider events replies k event spelled
          said.0) (one_spelling event.body row.0 (Ok frame) row.1 spells) row.2,
    )

-- no reply is too large
abbrev pub ClientSmall : List ClientSays → Type 0
ClientSmall replies = (k : ℕ) → slice_get replies k ≢ Some (Refused (Frame faults.TooLarge))

-- likewise of a server
abbrev pub ServerSmall : List ServerSays → Type 0
ServerSmall replies = (k : ℕ) → slice_get replies k ≢ Some (Failed faults.TooLarge)

-- a reply that is not too large has a body, and that is what arrives
sent_as : {A : Type 0} (body_of : Option A → Option (List ℕ)) (too_large : A) (says : List ℕ → A)
    → ((bytes : List ℕ) → body_of (Some (says bytes)) ≡ Some bytes)
    → (written : Option (List ℕ)) (reply : A) (body : List ℕ) → reply ≡ carried too_large says written
    → reply ≢ too_large → Arrives (body_of (Some reply)) body → (reply ≡ says body) × (written ≡ Some body)
sent_as body_of too_large says some None reply body is small arrives = absurd (small is)
sent_as {A} body_of too_large says some (Some bytes) reply body is small arrives =
    let has : body_of (Some reply) ≡ Some bytes = ap (λ (r : A). body_of (Some r)) is ∙ some bytes in
    let same : body ≡ bytes = subst (λ (sent : Option (List ℕ)). Arrives sent body) has arrives in
    (is ∙ ap says (sym same), ap (λ (b : List ℕ). Some b) (sym same))

-- what arrives of the reply at a position
arrives_at : {A : Type 0} (body_of : Option A → Option (List ℕ)) (at : Option A) (reply : A) (body : List ℕ)
    → at ≡ Some reply → Arrives (body_of at) body → Arrives (body_of (Some reply)) body
arrives_at {A} body_of at reply body is arrives = subst (λ (r : Option A). Arrives (body_of r) body) is arrives

-- the value that is open is that of the position that is open
pub open_value : {A X : Type 0} (opens closes : A → Bool) (At : ℕ → X → Type 0) (replies : List A) (k j : ℕ) (value : X)
    → IsLastOpen opens closes replies k j → OpenBy opens closes At replies k value → At j value
open_value opens closes At replies k j value is opened =
    subst (λ (i : ℕ). At i value) (one_open opens closes replies k opened.0 j opened.1 is) opened.2

-- ---- the client starts

start_row : (login : Login) (events : List Given) (replies : List ClientSays) (k : ℕ) (event : Given)
    (says : ClientSays) (body : List ℕ) → ClientRow login events replies k event
    (Ok (frames.Mechanisms (login_mechanism login ∷ []))) says
    → says ≢ Refused OutOfMemory → says ≢ Refused (Frame faults.TooLarge) → Arrives (client_body (Some says)) body
    → (says ≡ Started body)
    × (canonical (frames.Init (login_mechanism login)
    (Some (client_first_with (header_of (login_header login)) login.user (base64_text event.nonce))) login.hostname) ≡ Some body)
start_row login events replies k event says body (inl wants) memory small arrives = absurd (memory wants.1)
start_row login events replies k event says body (inr (inl starts)) memory small arrives =
    sent_as client_body (Refused (Frame faults.TooLarge)) (λ (b : List ℕ). Started b) (λ bytes. refl)
    (canonical (frames.Init (login_mechanism login)
    (Some (client_first_with (header_of (login_header login)) login.user (base64_text event.nonce))) login.hostname)) says
    body starts.1 small arrives
start_row login events replies k event says body (inr (inr other)) memory small arrives =
    absurd (other.0 (0, omega arith, refl))

-- the list of the one mechanism is answered by a start
pub client_starts : (login : Login) (events : List Given) (replies : List ClientSays) (k : ℕ) (event : Given)
    (body : List ℕ) → ClientHistory login events replies → slice_get events k ≡ Some event
    → SpellsBody event.body (Ok (frames.Mechanisms (login_mechanism login ∷ [])))
    → ClientComplete replies → ClientSmall replies → Arrives (client_body (slice_get replies k)) body
    → (slice_get replies k ≡ Some (Started body))
    × (canonical (frames.Init (login_mechanism login)
    (Some (client_first_with (header_of (login_header login)) login.user (base64_text event.nonce))) login.hostname) ≡ Some body)
client_starts login events replies k event body history at spells complete small arrives =
    let reply = client_reply login events replies k event
    (frames.Mechanisms (login_mechanism login ∷ [])) history at spells in
    let some = λ (r : ClientSays). Some r in
    let step = start_row login events replies k event reply.0 body reply.2 (λ e. complete k (reply.1 ∙ ap some e))
    (λ e. small k (reply.1 ∙ ap some e)) (arrives_at client_body (slice_get replies k) reply.0 body reply.1 arrives) in
    (reply.1 ∙ ap some step.0, step.1)

-- ---- the server challenges

challenge_row : (provider : Provider) (events : List Given) (replies : List ServerSays) (k : ℕ) (event : Given)
    (mechanism text : List ℕ) (hostname : Option (List ℕ)) (challenge : Challenging) (says : ServerSays) (body : List ℕ)
    → FitsAsInit provider event (frames.Init mechanism (Some text) hostname) challenge
    → ServerRow provider events replies k event (Ok (frames.Init mechanism (Some text) hostname)) says
    → says ≢ Failed faults.OutOfMemory → says ≢ Failed faults.TooLarge → Arrives (server_body (Some says)) body
    → (says ≡ Challenged body) × (canonical (frames.Challenge (first_message challenge)) ≡ Some body)
challenge_row provider events replies k event mechanism text hostname challenge says body fits
    (inl wants) memory small arrives = absurd (memory wants.1)
challenge_row provider events replies k event mechanism text hostname challenge says body fits
    (inr (inl row)) memory small arrives =
    let step = sent_as server_body (Failed faults.TooLarge) (λ (b : List ℕ). Challenged b) (λ bytes. refl)
    (canonical (frames.Challenge (first_message row.0))) says body row.2 small arrives in (
      step.0,
      subst (λ (c : Challenging). canonical (frames.Challenge (first_message c)) ≡ Some body)
          (one_fits provider event (frames.Init mechanism (Some text) hostname) row.0 challenge row.1 fits) step.1,
    )
challenge_row provider events replies k event mechanism text hostname challenge says body fits
    (inr (inr row)) memory small arrives = absurd (row.0 challenge fits)

-- an init that fits is answered by its challenge
pub server_challenges : (provider : Provider) (events : List Given) (replies : List ServerSays) (k : ℕ) (event : Given)
    (mechanism text : List ℕ) (hostname : Option (List ℕ)) (challenge : Challenging) (body : List ℕ)
    → ServerHistory provider events replies → slice_get events k ≡ Some event
    → SpellsBody event.body (Ok (frames.Init mechanism (Some text) hostname))
    → FitsAsInit provider event (frames.Init mechanism (Some text) hostname) challenge
    → ServerComplete replies → ServerSmall replies → Arrives (server_body (slice_get replies k)) body
    → (slice_get replies k ≡ Some (Challenged body))
    × (canonical (frames.Challenge (first_message challenge)) ≡ Some body)
server_challenges provider events replies k event mechanism text hostname challenge body history at spells fits complete
    small arrives =
    let reply = server_reply provider events replies k event
    (frames.Init mechanism (Some text) hostname) history at spells in
    let some = λ (r : ServerSays). Some r in
    let step = challenge_row provider events replies k event mechanism text hostname challenge reply.0 body fits reply.2
    (λ e. complete k (reply.1 ∙ ap some e)) (λ e. small k (reply.1 ∙ ap some e))
    (arrives_at server_body (slice_get replies k) reply.0 body reply.1 arrives) in
    (reply.1 ∙ ap some step.0, step.1)

-- ---- the client answers

abbrev answering : List ℕ → List ℕ → ServerFirst → Answering
answering nonce text first = record { nonce = nonce; text = text; first = first }

-- a challenge is answered in one way, where it is due for one nonce
pub one_answering : (login : Login) (Due : List ℕ → Type 0) (text : List ℕ) (answer other : Answering)
    → ((nonce : List ℕ) → Due nonce → nonce ≡ answer.nonce) → ReadsChallenge login Due text (Ok answer)
    → ReadsChallenge login Due text (Ok other) → other ≡ answer
one_answering login Due text answer other one is too =
    let nonce = one other.nonce too.2 in
    let first = one_server_first_value (client_at login answer.nonce) text other.first answer.first
    (subst (λ (n : List ℕ). ReadsServerFirst (client_at login n) text (Ok other.first)) nonce too.3) is.3 in
    let same : other.text ≡ answer.text = too.1 ∙ sym is.1 in
    λ i. answering (nonce i) (same i) (first i)

-- a challenge that is read is not rejected
read_not_refused : (login : Login) (Due : List ℕ → Type 0) (text : List ℕ) (answer : Answering) (kind : ScramErrorKind)
    → ((nonce : List ℕ) → Due nonce → nonce ≡ answer.nonce)
    → ReadsChallenge login Due text (Ok answer) → ReadsChallenge login Due text (Err kind) → ⊥
read_not_refused login Due text answer kind one reads (inl x) = x.0 reads.0
read_not_refused login Due text answer kind one reads (inr (inl x)) = x.1 answer.nonce reads.2
read_not_refused login Due text answer kind one reads (inr (inr x)) =
    differ answer.first (one_server_first (client_at login answer.nonce) text (Ok answer.first) (Err kind) reads.3
    (subst (λ (n : List ℕ). ReadsServerFirst (client_at login n) text (Err kind)) (one x.1.0 x.1.1) x.1.2))
  where
    differ : (first : ServerFirst) → ◌≡◌ {A = Result ServerFirst ScramErrorKind} (Ok first) (Err kind) → ⊥
    differ first e = absurd (cc)

-- the challenge may not be the signature of an answer
abbrev pub NoneMaySign : Login → List Given → List ClientSays → ℕ → Type 0
NoneMaySign login events replies k =
    (answer : Answering) → ¬ MaySign login (OpenAnswer login events replies k) answer

-- so it is after a start
pub none_may_sign : (login : Login) (events : List Given) (replies : List ClientSays) (body : List ℕ)
    → slice_get replies 0 ≡ Some (Started body) → NoneMaySign login events replies 1
none_may_sign login events replies body started answer may =
    let place = may.1.1 in
    let first : may.1.0 ≡ 0 = omega (arith, place.before) in
    absurd (true≢false (sym place.opened ∙ (ap (λ (j : ℕ). test_at is_answer (slice_get replies j)) first
    ∙ ap (test_at is_answer) started)))

answer_row : (login : Login) (events : List Given) (replies : List ClientSays) (k : ℕ) (event : Given) (text : List ℕ)
    (answer : Answering) (says : ClientSays) (body : List ℕ) → NoneMaySign login events replies k
    → ((nonce : List ℕ) → IsDue events replies k nonce → nonce ≡ answer.nonce)
    → ReadsChallenge login (IsDue events replies k) text (Ok answer)
    → ClientRow login events replies k event (Ok (frames.Challenge text)) says
    → says ≢ Refused OutOfMemory → says ≢ Refused (Frame faults.TooLarge) → Arrives (client_body (Some says)) body
    → (says ≡ Answered body) × (canonical (frames.Response (answer_at login answer).message) ≡ Some body)
answer_row login events replies k event text answer says body none one reads (inl wants) memory small arrives =
    absurd (memory wants.1)
answer_row login events replies k event text answer says body none one reads (inr (inl row)) memory small arrives =
    absurd (none row.0.0 row.0.1)
answer_row login events replies k event text answer says body none one reads
    (inr (inr (inl row))) memory small arrives = absurd (none row.1.0 row.1.1)
answer_row login events replies k event text answer says body none one reads
    (inr (inr (inr (unsigned, inl row)))) memory small arrives =
    let step = sent_as client_body (Refused (Frame faults.TooLarge)) (λ (b : List ℕ). Answered b) (λ bytes. refl)
    (canonical (frames.Response (answer_at login row.0).message)) says body row.2 small arrives in (
      step.0,
      subst (λ (a : Answering). canonical (frames.Response (answer_at login a).message) ≡ Some body)
          (one_answering login (IsDue events replies k) text answer row.0 one reads row.1) step.1,
    )
answer_row login events replies k event text answer says body none one reads
    (inr (inr (inr (unsigned, inr row)))) memory small arrives =
    absurd (read_not_refused login (IsDue events replies k) text answer row.0 one reads row.1)

-- a challenge that is due, is read and may not be a signature is answered by its response
pub client_answers : (login : Login) (events : List Given) (replies : List ClientSays) (k : ℕ) (event : Given)
    (text : List ℕ) (answer : Answering) (body : List ℕ) → ClientHistory login events replies
    → slice_get events k ≡ Some event
    → SpellsBody event.body (Ok (frames.Challenge text)) → NoneMaySign login events replies k
    → ((nonce : List ℕ) → IsDue events replies k nonce → nonce ≡ answer.nonce)
    → ReadsChallenge login (IsDue events replies k) text (Ok answer)
    → ClientComplete replies → ClientSmall replies → Arrives (client_body (slice_get replies k)) body
    → (slice_get replies k ≡ Some (Answered body))
    × (canonical (frames.Response (answer_at login answer).message) ≡ Some body)
client_answers login events replies k event text answer body history at spells none one reads complete small arrives =
    let reply = client_reply login events replies k event (frames.Challenge text) history at spells in
    let some = λ (r : ClientSays). Some r in
    let step = answer_row login events replies k event text answer reply.0 body none one reads reply.2
    (λ e. complete k (reply.1 ∙ ap some e)) (λ e. small k (reply.1 ∙ ap some e))
    (arrives_at client_body (slice_get replies k) reply.0 body reply.1 arrives) in
    (reply.1 ∙ ap some step.0, step.1)

-- ---- the server accepts

abbrev accepting : Challenging → ClientFinal → Accepted
accepting challenge final = record { challenge = challenge; final = final }

-- a response fits in one way, where one challenge is open
one_response : (provider : Provider) (IsOpen : Challenging → Type 0) (text : List ℕ) (accepted other : Accepted)
    → ((challenge : Challenging) → IsOpen challenge → challenge ≡ accepted.challenge)
    → FitsAsResponse provider IsOpen (frames.Response text) accepted
    → FitsAsResponse provider IsOpen (frames.Response text) other → other ≡ accepted
one_response provider IsOpen text accepted other one fits too =
    let challenge = one other.challenge too.0 in
    let final = one_client_final_value (server_at provider accepted.challenge) text other.final accepted.final
    (subst (λ (c : Challenging). ReadsClientFinal (server_at provider c) text (Ok other.final)) challenge too.1)
    fits.1 in
    λ i. accepting (challenge i) (final i)

ok_row : (provider : Provider) (events : List Given) (replies : List ServerSays) (k : ℕ) (event : Given) (text : List ℕ)
    (accepted : Accepted) (says : ServerSays) (body : List ℕ)
    → ((challenge : Challenging) → Open provider events replies k challenge → challenge ≡ accepted.challenge)
    → FitsAsResponse provider (Open provider events replies k) (frames.Response text) accepted
    → ServerRow provider events replies k event (Ok (frames.Response text)) says
    → says ≢ Failed faults.OutOfMemory → says ≢ Failed faults.TooLarge → Arrives (server_body (Some says)) body
    → (says ≡ Concluded outcomes.Ok body)
    × (canonical (frames.Outcome outcomes.Ok (Some (final_message provider accepted))) ≡ Some body)
ok_row provider events replies k event text accepted says body one fits (inl wants) memory small arrives =
    absurd (memory wants.1)
ok_row provider events replies k event text accepted says body one fits (inr (inl row)) memory small arrives =
    let step = sent_as server_body (Failed faults.TooLarge) (λ (b : List ℕ). Concluded outcomes.Ok b) (λ bytes. refl)
    (canonical (frames.Outcome outcomes.Ok (Some (final_message provider row.0)))) says body row.2 small arrives in (
      step.0,
      subst (λ (a : Accepted). canonical (frames.Outcome outcomes.Ok (Some (final_message provider a)))
          ≡ Some body) (one_response provider (Open provider events replies k) text accepted row.0 one fits row.1)
          step.1,
    )
ok_row provider events replies k event text accepted says body one fits (inr (inr row)) memory small arrives =
    absurd (row.0 accepted fits)

-- a response that fits is answered by Ok
pub server_accepts : (provider : Provider) (events : List Given) (replies : List ServerSays) (k : ℕ) (event : Given)
    (text : List ℕ) (accepted : Accepted) (body : List ℕ) → ServerHistory provider events replies
    → slice_get events k ≡ Some event
    → SpellsBody event.body (Ok (frames.Response text)) → ((challenge : Challenging)
    → Open provider events replies k challenge → challenge ≡ accepted.challenge)
    → FitsAsResponse provider (Open provider events replies k) (frames.Response text) accepted
    → ServerComplete replies → ServerSmall replies → Arrives (server_body (slice_get replies k)) body
    → (slice_get replies k ≡ Some (Concluded outcomes.Ok body))
    × (canonical (frames.Outcome outcomes.Ok (Some (final_message provider accepted))) ≡ Some body)
server_accepts provider events replies k event text accepted body history at spells one fits complete small arrives =
    let reply = server_reply provider events replies k event (frames.Response text) history at spells in
    let some = λ (r : ServerSays). Some r in
    let step = ok_row provider events replies k event text accepted reply.0 body one fits reply.2
    (λ e. complete k (reply.1 ∙ ap some e)) (λ e. small k (reply.1 ∙ ap some e))
    (arrives_at server_body (slice_get replies k) reply.0 body reply.1 arrives) in
    (reply.1 ∙ ap some step.0, step.1)

-- ---- the client reports

-- a verifier that is verified is not rejected
not_refused : (strict : Bool) (signature text : List ℕ) (kind : ScramErrorKind) → ReadsServerFinal strict signature text (Ok tt)
    → ReadsServerFinal strict signature text (Err kind) → ⊥
not_refused strict signature text kind reads refuses = differ
    (one_server_final strict signature text (Ok tt) (Err kind) reads refuses)
  where
    differ : ◌≡◌ {A = Result (Unit {0}) ScramErrorKind} (Ok tt) (Err kind) → ⊥
    differ e = absurd (cc)

report_row : (login : Login) (events : List Given) (replies : List ClientSays) (k : ℕ) (event : Given) (text : List ℕ)
    (answer : Answering) (says : ClientSays) → ((other : Answering) → OpenAnswer login events replies k other
    → other ≡ answer)
    → OpenAnswer login events replies k answer
    → ReadsServerFinal (is_strict_login login) (answer_at login answer).signature text (Ok tt)
    → ClientRow login events replies k event (Ok (frames.Outcome outcomes.Ok (Some text))) says
    → ¬ (says ≡ Refused OutOfMemory)
    → says ≡ Reported outcomes.Ok (Some text)
report_row login events replies k event text answer says one opened reads (inl wants) complete =
    absurd (complete wants.1)
report_row login events replies k event text answer says one opened reads (inr (inl row)) complete = row.1
report_row login events replies k event text answer says one opened reads (inr (inr (kind, inl none, is))) complete =
    absurd (none.0 answer opened)
report_row login events replies k event text answer says one opened reads (inr (inr (kind, inr refuses, is))) complete =
    absurd (not_refused (is_strict_login login) (answer_at login answer).signature text kind reads
    (subst (λ (a : Answering). ReadsServerFinal (is_strict_login login) (answer_at login a).signature text (Err kind))
    (one refuses.0 refuses.1) refuses.2))

-- a verifier of the answer that is open is reported
pub client_reports : (login : Login) (events : List Given) (replies : List ClientSays) (k : ℕ) (event : Given)
    (text : List ℕ) (answer : Answering) → ClientHistory login events replies → ClientComplete replies
    → slice_get events k ≡ Some event
    → SpellsBody event.body (Ok (frames.Outcome outcomes.Ok (Some text)))
    → ((other : Answering) → OpenAnswer login events replies k other → other ≡ answer)
    → OpenAnswer login events replies k answer
    → ReadsServerFinal (is_strict_login login) (answer_at login answer).signature text (Ok tt)
    → slice_get replies k ≡ Some (Reported outcomes.Ok (Some text))
client_reports login events replies k event text answer history complete at spells one opened reads =
    let reply = client_reply login events replies k event (frames.Outcome outcomes.Ok (Some text)) history at spells in
    reply.1 ∙ ap (λ (r : ClientSays). Some r)
    (report_row login events replies k event text answer reply.0 one opened reads reply.2
    (λ wants. complete k (reply.1 ∙ ap (λ (r : ClientSays). Some r) wants)))
