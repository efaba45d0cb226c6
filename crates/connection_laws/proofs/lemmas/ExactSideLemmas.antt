-- What a side of a connection makes of a header and of a frame that its limit allows, where each nonce has 32 bytes.
use Rattle.std.proofs.Common.{◌≡◌, ℕ, ◌+◌, ◌≤◌, Option, Some, None, List, [], ◌∷◌, ◌++◌, length, drop, refl, sym, ap, ◌∙◌, subst, inl, inr, append_assoc, arith, length-append, Result, Ok}
use Rattle.std.specs.List.{AllByRecursion}
use Rattle.std.specs.Prelude.{is_some}
use Rattle.fe2o3_sasl_wire.specs.declared.sasl_frames.error.Error.{Error}
use Rattle.fe2o3_sasl_wire.specs.SaslFrames.{SaslFrame, canonical}
use Rattle.fe2o3_sasl_wire.specs.SaslFrames as frames
use Rattle.fe2o3_scram.specs.Credentials.{Provider}
use Rattle.fe2o3_scram.specs.ChannelBinding.{server_mechanism}
use Rattle.fe2o3_scram.specs.ScramServer.{Initial}
use Rattle.fe2o3_sasl_core.specs.Bodies.{SpellsBody}
use Rattle.fe2o3_sasl_core.specs.Events.{Given}
use Rattle.fe2o3_sasl_core.specs.Profiles.{Profile}
use Rattle.fe2o3_sasl_core.specs.SaslAcceptor.{Acceptor, ScramAcceptor, acceptor_names, acceptor_machine}
use Rattle.fe2o3_sasl_core.proofs.lemmas.frames.SpellingLemmas.{one_spelling}
use Rattle.fe2o3_sasl_negotiation.specs.declared.progress.Expected.{Expected}
use Rattle.fe2o3_sasl_negotiation.specs.declared.progress.Expected.TheVariants.{Header, Frame}
use Rattle.fe2o3_sasl_negotiation.specs.declared.progress.Progress.{Progress}
use Rattle.fe2o3_sasl_negotiation.specs.declared.progress.Progress.TheVariants.{InProgress, Authenticated, Failed}
use Rattle.fe2o3_sasl_negotiation.specs.declared.progress.FrameKind.{FrameKind}
use Rattle.fe2o3_sasl_negotiation.specs.declared.progress.FrameKind.TheVariants as turns
use Rattle.fe2o3_sasl_negotiation.specs.ClientNegotiation as of_client
use Rattle.fe2o3_sasl_negotiation.specs.ServerNegotiation as of_server
use Rattle.fe2o3_sasl_negotiation.specs.Framing.{sasl_header, framed, size_of, Fits}
use Rattle.fe2o3_sasl_negotiation.specs.Laws.{Call, Calls, Negotiates}
use Rattle.fe2o3_sasl_negotiation.specs.Negotiations.{Side, SideOutput, Sends, IsInTurn, AnswersTo, Receives, ReceivesAt}
use Rattle.fe2o3_sasl_negotiation.proofs.lemmas.UnitLemmas.{awaiting, behind_answer, AnswersUnit, one_unit, size_of-framed, length-framed, body_of-framed}
use Rattle.connection_laws.specs.Unaltered.{HasNonce, IsNonce}
use Rattle.connection_laws.proofs.lemmas.SmallReplyLemmas.{fits_as, names_fit}

-- ---- nonces of 32 bytes

-- the answer to a unit, with a nonce of 32 bytes
abbrev pub Exact : {S : Type 0} → (Expected → S → List ℕ → List ℕ → SideOutput → S → Type 0) → Expected → S → List ℕ → List ℕ
    → SideOutput → S → Type 0
Exact Answers expected state nonce unit answer next = Answers expected state nonce unit answer next × IsNonce nonce

exact_at : {S : Type 0} (Answers : Expected → S → List ℕ → List ℕ → SideOutput → S → Type 0) (progress : Progress) (side : Side S)
    (bytes nonce : List ℕ) (taken : ℕ) (sent : List ℕ) (next : Side S) → IsNonce nonce
    → ReceivesAt progress Answers side bytes nonce taken sent next
    → ReceivesAt progress (Exact Answers) side bytes nonce taken sent next
exact_at Answers InProgress side bytes nonce taken sent next long (inl waits) = inl waits
exact_at Answers InProgress side bytes nonce taken sent next long (inr (inl refused)) = inr (inl refused)
exact_at Answers InProgress side bytes nonce taken sent next long (inr (inr (answer, state, whole, answers, ends))) =
    inr (inr (answer, state, whole, (answers, long), ends))
exact_at Answers Authenticated side bytes nonce taken sent next long rests = rests
exact_at Answers (Failed why) side bytes nonce taken sent next long rests = rests

pub exact_calls : {S : Type 0} (Answers : Expected → S → List ℕ → List ℕ → SideOutput → S → Type 0) (calls : List Call)
    (side : Side S) (stream sent : List ℕ) (last : Side S) (rest : List ℕ) → AllByRecursion HasNonce calls
    → Calls (Receives Answers) side calls stream sent last rest
    → Calls (Receives (Exact Answers)) side calls stream sent last rest
exact_calls Answers [] side stream sent last rest all made = made
exact_calls Answers (call ∷ calls) side stream sent last rest all
    (taken, first, next, more, receives, others, whole) = (
      taken,
      first,
      next,
      more,
      exact_at Answers side.progress side _ call.nonce taken first next all.0 receives,
      exact_calls Answers calls next (drop taken stream) more last rest all.1 others,
      whole,
    )

-- ---- headers

-- what is sent of a body that is not too large
pub sends_small : (body : List ℕ) (progress : Progress) (expected : Expected) (answer : SideOutput) → length body + 4 ≤ 512
    → Sends body progress expected answer → answer ≡ record { sent = framed body; progress = progress; expected = expected }
sends_small body progress expected answer small (inl sent) = sent.1
sends_small body progress expected answer small (inr long) = absurd (omega (arith, small, long.0))

abbrev pub ClientMakes : Option (List ℕ) → ℕ → Expected → Profile → List (List ℕ) → List ℕ → List ℕ → Side Profile → Type 0
ClientMakes hostname limit expected profile nonces bytes sent last =
    Negotiates (Exact (of_client.ClientSideAnswers hostname)) (awaiting expected limit profile) nonces bytes sent last

-- the client takes the server's header
pub client_header : (hostname : Option (List ℕ)) (limit : ℕ) (profile : Profile) (nonces : List (List ℕ))
    (more sent : List ℕ) (last : Side Profile)
    → ClientMakes hostname limit Header profile nonces (sasl_header ++ more) sent last
    → (others : List (List ℕ)) × ClientMakes hostname limit (Frame turns.Mechanisms) profile others more sent last
client_header hostname limit profile nonces more sent last made =
    let unit = one_unit (Exact (of_client.ClientSideAnswers hostname)) Header limit profile nonces sasl_header more sent last
    refl (omega arith) made in
    go unit unit.answers.0
  where
    go : (unit : AnswersUnit (Exact (of_client.ClientSideAnswers hostname)) Header limit profile sasl_header more sent last)
        → of_client.ClientOpens sasl_header unit.answer × (unit.next ≡ profile)
        → (others : List (List ℕ)) × ClientMakes hostname limit (Frame turns.Mechanisms) profile others more sent last
    go unit (inl other, kept) = absurd (other.0 refl)
    go unit (inr opens, kept) =
        let side : behind_answer unit.answer limit unit.next ≡ awaiting (Frame turns.Mechanisms) limit profile =
        ap (λ (a : SideOutput). behind_answer a limit unit.next) opens.1
        ∙ ap (λ (p : Profile). awaiting (Frame turns.Mechanisms) limit p) kept in
        let bytes : sent ≡ unit.behind = unit.all ∙ ap (λ (a : SideOutput). a.sent ++ unit.behind) opens.1 in (
          unit.nonces,
          subst (λ (l : List ℕ). ClientMakes hostname limit (Frame turns.Mechanisms) profile unit.nonces more l last)
              (sym bytes)
              (subst (λ (s : Side Profile). Negotiates (Exact (of_client.ClientSideAnswers hostname)) s unit.nonces more
              unit.behind last)
              side unit.goes_on),
        )

abbrev pub ServerMakes : ℕ → Expected → Acceptor → List (List ℕ) → List ℕ → List ℕ → Side Acceptor → Type 0
ServerMakes limit expected acceptor nonces bytes sent last =
    Negotiates (Exact (of_server.ServerSideAnswers acceptor_names acceptor_machine)) (awaiting expected limit acceptor) nonces
    bytes sent last

-- the one mechanism of a SCRAM server is offered in a frame
offers : (provider : Provider) (offer : Option (List ℕ)) (answer : SideOutput)
    → offer ≡ canonical (frames.Mechanisms (server_mechanism provider.version provider.rules ∷ []))
    → of_server.Offers offer answer
    → (body : List ℕ) × (offer ≡ Some body) × (length body + 4 ≤ 512)
    × (answer ≡ record { sent = framed body; progress = InProgress; expected = Frame turns.Init })
offers provider None answer is same =
    let fits = names_fit provider.version (is_some provider.rules.channels) in
    let none = is ∙ fits.1 in
    absurd (cc)
offers provider (Some body) answer is sent =
    let small = fits_as (frames.Mechanisms (server_mechanism provider.version provider.rules ∷ [])) body
    (names_fit provider.version (is_some provider.rules.channels))
    (sym is) in
    (body, refl, small, sends_small body InProgress (Frame turns.Init) answer small sent)

-- the server takes the client's header
pub record ServerOffers (provider : Provider) (limit : ℕ) (more sent : List ℕ) (last : Side Acceptor) : Type 0 where
  pub body : List ℕ
  pub nonces : List (List ℕ)
  pub after : List ℕ
  pub offer : canonical (frames.Mechanisms (server_mechanism provider.version provider.rules ∷ [])) ≡ Some body
  pub small : length body + 4 ≤ 512
  pub all : sent ≡ sasl_header ++ (framed body ++ after)
  pub goes_on : ServerMakes limit (Frame turns.Init) (ScramAcceptor provider Initial) nonces more after last

pub server_header : (provider : Provider) (limit : ℕ) (nonces : List (List ℕ)) (more sent : List ℕ)
    (last : Side Acceptor)
    → ServerMakes limit Header (ScramAcceptor provider Initial) nonces (sasl_header ++ more) sent last
    → ServerOffers provider limit more sent last
server_header provider limit nonces more sent last made =
    let unit = one_unit (Exact (of_server.ServerSideAnswers acceptor_names acceptor_machine)) Header limit state nonces
    sasl_header more sent last refl (omega arith) made in
    go unit unit.answers.0
  where
    state : Acceptor
    state = ScramAcceptor provider Initial

    go : (unit : AnswersUnit (Exact (of_server.ServerSideAnswers acceptor_names acceptor_machine)) Header limit state
        sasl_header more sent last) → of_server.ServerOpens (acceptor_names state) sasl_header unit.answer
        × (unit.next ≡ state) → ServerOffers provider limit more sent last
    go unit (inl other, kept) = absurd (other.0 refl)
    go unit (inr (is, (first, offered, same)), kept) =
        let (body, offer, small, is_sent) = offers provider (of_server.offer_body (acceptor_names state)) first refl
        offered in
        let side : behind_answer unit.answer limit unit.next ≡ awaiting (Frame turns.Init) limit state =
        ap (λ (a : SideOutput). behind_answer a limit unit.next) same
        ∙ (ap (λ (a : SideOutput). behind_answer (of_server.behind_header a) limit unit.next) is_sent
        ∙ ap (λ (s : Acceptor). awaiting (Frame turns.Init) limit s) kept) in
        record {
          body = body;
          nonces = unit.nonces;
          after = unit.behind;
          offer = offer;
          small = small;
          all = unit.all ∙ (ap (λ (a : SideOutput). a.sent ++ unit.behind) same
              ∙ (ap (λ (a : SideOutput). (sasl_header ++ a.sent) ++ unit.behind) is_sent
              ∙ append_assoc sasl_header (framed body) unit.behind));
          goes_on = subst (λ (s : Side Acceptor).
              Negotiates (Exact (of_server.ServerSideAnswers acceptor_names acceptor_machine)) s unit.nonces more
              unit.behind last) side unit.goes_on;
        }

-- ---- frames

module _ {S A : Type 0} (Answers : Expected → S → List ℕ → List ℕ → SideOutput → S → Type 0) (Step : S → Given → A → S → Type 0)
    (Says : S → A → FrameKind → SideOutput → Type 0)
    (asked : (turn : FrameKind) (state next : S) (nonce unit : List ℕ) (answer : SideOutput)
    → Answers (Frame turn) state nonce unit answer next
    → (spelled : Result SaslFrame Error) × SpellsBody (drop 4 unit) spelled
    × AnswersTo (λ (a : SideOutput) (n : S). (says : A) × Step state (record { body = drop 4 unit; nonce = nonce }) says n
    × Says state says turn a) turn state spelled answer next) where
  -- its machine is asked
  abbrev Asks : S → List ℕ → List ℕ → FrameKind → SideOutput → S → Type 0
  Asks state unit nonce turn answer next = (says : A)
      × Step state (record { body = drop 4 unit; nonce = nonce }) says next × Says state says turn answer

  -- what a side makes of a frame that is expected
  pub record Takes (limit : ℕ) (turn : FrameKind) (state : S) (body more sent : List ℕ) (last : Side S) : Type 0 where
    pub nonces : List (List ℕ)
    pub nonce : List ℕ
    pub says : A
    pub answer : SideOutput
    pub next : S
    pub after : List ℕ
    pub long : IsNonce nonce
    pub steps : Step state (record { body = body; nonce = nonce }) says next
    pub said : Says state says turn answer
    pub goes_on : Negotiates (Exact Answers) (behind_answer answer limit next) nonces more after last
    pub all : sent ≡ answer.sent ++ after

  pub takes : (limit : ℕ) (turn : FrameKind) (state : S) (nonces : List (List ℕ)) (body more sent : List ℕ) (last : Side S)
      (frame : SaslFrame) → 512 ≤ limit → 4 ≤ length body → length body + 4 ≤ 512 → SpellsBody body (Ok frame)
      → IsInTurn turn frame
      → Negotiates (Exact Answers) (awaiting (Frame turn) limit state) nonces (framed body ++ more) sent last
      → Takes limit turn state body more sent last
  takes limit turn state nonces body more sent last frame wide least small is in_turn made =
      let unit = one_unit (Exact Answers) (Frame turn) limit state nonces (framed body) more sent last
      (size ∙ sym (length-framed body)) (
        subst (λ (n : ℕ). Fits limit n) (sym size) (omega (arith, least), omega (arith, small, wide)),
        omega (arith, size, count),
      ) made in
      spelled unit (asked turn state unit.next unit.nonce (framed body) unit.answer unit.answers.0)
    where
      size : size_of (framed body ++ more) ≡ length body + 4
      size = size_of-framed body more (omega (arith, small))

      count : length (framed body ++ more) ≡ length body + 4 + length more
      count = length-append (framed body) more ∙ ap (λ n. n + length more) (length-framed body)

      answered : (unit : AnswersUnit (Exact Answers) (Frame turn) limit state (framed body) more sent last) → AnswersTo
          (Asks state (framed body) unit.nonce turn) turn state (Ok frame) unit.answer unit.next
          → Takes limit turn state body more sent last
      answered unit (inl out) = absurd (out.0 in_turn)
      answered unit (inr (is_in, (says, steps, said))) = record {
        nonces = unit.nonces;
        nonce = unit.nonce;
        says = says;
        answer = unit.answer;
        next = unit.next;
        after = unit.behind;
        long = unit.answers.1;
        steps = subst (λ (b : List ℕ). Step state (record { body = b; nonce = unit.nonce }) says unit.next)
            (body_of-framed body) steps;
        said = said;
        goes_on = unit.goes_on;
        all = unit.all;
      }

      spelled : (unit : AnswersUnit (Exact Answers) (Frame turn) limit state (framed body) more sent last) →
          (spelled : Result SaslFrame Error) × SpellsBody (drop 4 (framed body)) spelled
          × AnswersTo (Asks state (framed body) unit.nonce turn) turn state spelled unit.answer unit.next
          → Takes limit turn state body more sent last
      spelled unit (found, spells, answers) =
          let same : found ≡ Ok frame = one_spelling body found (Ok frame)
          (subst (λ (b : List ℕ). SpellsBody b found) (body_of-framed body) spells) is in
          answered unit (subst (λ (s : Result SaslFrame Error). AnswersTo (Asks state (framed body) unit.nonce turn)
          turn state s unit.answer unit.next) same answers)

  -- what it sends of a body, and how it goes on
  pub goes_on_with : (limit : ℕ) (turn : FrameKind) (state : S) (body more sent : List ℕ) (last : Side S)
      (made : Takes limit turn state body more sent last) (reply : List ℕ) (progress : Progress) (expected : Expected)
      → length reply + 4 ≤ 512 → Sends reply progress expected made.answer
      → (sent ≡ framed reply ++ made.after)
      × Negotiates (Exact Answers)
      (record { progress = progress; expected = expected; limit = limit; held = []; state = made.next }) made.nonces more
      made.after last
  goes_on_with limit turn state body more sent last made reply progress expected small is =
      let same = sends_small reply progress expected made.answer small is in (
        made.all ∙ ap (λ (a : SideOutput). a.sent ++ made.after) same,
        subst (λ (a : SideOutput). Negotiates (Exact Answers) (behind_answer a limit made.next) made.nonces more made.after
            last) same made.goes_on,
      )
