-- Calls of a client before it has answered an offer: they do not depend on its profile.
use Rattle.std.proofs.Common.{◌≡◌, ◌≢◌, ◌⊎◌, ℕ, ◌≤◌, Option, List, [], ◌∷◌, ◌++◌, length, take, drop, refl, sym, ◌∙◌, ap, subst, inl, inr, arith, append_assoc}
use Rattle.std.proofs.lemmas.List.{append-nil, length-take, take-take, take_all, take-append-drop, take-append-le, drop_at}
use Rattle.bytes.proofs.Ranges.{take-append_past}
use Rattle.fe2o3_sasl_core.specs.Events.{Given}
use Rattle.fe2o3_sasl_core.specs.Profiles.{Profile}
use Rattle.fe2o3_sasl_negotiation.specs.ClientNegotiation.{ClientReceives, ClientReplies, ClientSideAnswers}
use Rattle.fe2o3_sasl_negotiation.specs.Connections.{fresh}
use Rattle.fe2o3_sasl_negotiation.specs.Framing.{IsPart, IsWhole, sasl_header, size_of, unit_size}
use Rattle.fe2o3_sasl_negotiation.specs.Laws.{Call, Calls}
use Rattle.fe2o3_sasl_negotiation.specs.Negotiations.{Ends, ReceivesAt, Side, SideOutput}
use Rattle.fe2o3_sasl_negotiation.specs.PolicyLaws.{side_in_state}
use Rattle.fe2o3_sasl_negotiation.specs.declared.progress.CloseReason.TheVariants.{FrameSize, ProtocolHeaderMismatch}
use Rattle.fe2o3_sasl_negotiation.specs.declared.progress.Expected.{Expected}
use Rattle.fe2o3_sasl_negotiation.specs.declared.progress.Expected.TheVariants.{Header, Frame}
use Rattle.fe2o3_sasl_negotiation.specs.declared.progress.FrameKind.TheVariants as turns
use Rattle.fe2o3_sasl_negotiation.specs.declared.progress.Progress.{Progress}
use Rattle.fe2o3_sasl_negotiation.specs.declared.progress.Progress.TheVariants.{Authenticated, Failed, InProgress}
use Rattle.fe2o3_sasl_negotiation.proofs.lemmas.ConnectionLemmas.{authenticated_is_not_in_progress, failed_is_not_in_progress, first_body}
use Rattle.fe2o3_sasl_negotiation.proofs.lemmas.CutLemmas.{nothing_is_part}
use Rattle.fe2o3_sasl_negotiation.proofs.lemmas.FramingLemmas.{size_of-append}
use Rattle.fe2o3_sasl_negotiation.proofs.lemmas.KindLemmas.{closes_waits_not}
use Rattle.connection_laws.proofs.lemmas.PolicyOfferLemmas.{Alike, AnswersAlike}
use Rattle.connection_laws.proofs.lemmas.RestLemmas.{taken_within}

-- this is expected after these bytes: the header, or the list of mechanisms
abbrev AwaitsAfter : List ℕ → Expected → Type 0
AwaitsAfter front expected = ((front ≡ []) × (expected ≡ Header))
    ⊎ ((front ≡ sasl_header) × (expected ≡ Frame turns.Mechanisms))

-- a side that goes on waits for the header or for the list of mechanisms, of which it holds what has arrived
abbrev pub Early : List ℕ → Side Profile → Type 0
Early taken side = side.progress ≡ InProgress → (front : List ℕ) × (taken ≡ front ++ side.held)
    × IsPart side.expected side.limit side.held × AwaitsAfter front side.expected

pub fresh_early : (limit : ℕ) (profile : Profile) → Early [] (fresh limit profile)
fresh_early limit profile = λ _. ([], refl, nothing_is_part Header limit, inl (refl, refl))

-- the first frame does not depend on what follows it
pub first_in : (limit : ℕ) (come more : List ℕ) → IsWhole (Frame turns.Mechanisms) limit come
    → first_body (come ++ more) ≡ first_body come
first_in limit come more whole =
    let eight : 8 ≤ size_of come = whole.0.0 in
    let within : size_of come ≤ length come = whole.1 in
    ap (λ n. drop 4 (take n (come ++ more))) (size_of-append come more (omega (arith, eight, within)))
    ∙ ap (drop 4) (take-append-le (size_of come) come more within)

-- a stream in two parts
parts : (taken stream : List ℕ) (k : ℕ) → (taken ++ take k stream) ++ drop k stream ≡ taken ++ stream
parts taken stream k =
    append_assoc taken (take k stream) (drop k stream) ∙ ap (λ l. taken ++ l) (take-append-drop k stream)

-- ---- one call

module _ (hostname : Option (List ℕ)) (state : Profile) (taken stream nonce first : List ℕ) (handed k : ℕ)
    (side next : Side Profile) where
  abbrev bytes : List ℕ
  bytes = take handed stream

  abbrev come : List ℕ
  come = side.held ++ take handed stream

  -- the event of the first frame
  abbrev pub first_event : Given
  first_event = record { body = first_body (drop 8 (taken ++ stream)); nonce = nonce }

  -- the call, to a client of one profile, that is one of another then
  abbrev Makes : Profile → Profile → Type 0
  Makes before after = ClientReceives hostname (side_in_state side before) bytes nonce k first (side_in_state next after)

  -- no frame is answered
  abbrev pub Stays : Type 0
  Stays = (next.state ≡ state) × Early (taken ++ take k stream) next
      × (next.progress ≡ InProgress → side.progress ≡ InProgress) × ((other : Profile) → Makes other other)

  -- or the list of mechanisms
  abbrev pub Answers : Type 0
  Answers = (side.progress ≡ InProgress) × (answer : SideOutput) × (next.progress ≡ answer.progress)
      × ClientReplies hostname turns.Mechanisms state first_event answer next.state
      × ((other end : Profile) → ClientReplies hostname turns.Mechanisms other first_event answer end → Makes other end)

  module _ (receives : ClientReceives hostname (side_in_state side state) bytes nonce k first next)
      (early : Early taken side) where
    here : take k bytes ≡ take k stream
    here = let within : k ≤ length (take handed stream) = taken_within (ClientSideAnswers hostname)
        (side_in_state side state) next (take handed stream) nonce first k side.progress receives in
        take-take k handed stream (omega (arith, within, length-take handed stream))

    makes : (progress : Progress) → side.progress ≡ progress → (before after : Profile)
        → ReceivesAt progress (ClientSideAnswers hostname) (side_in_state side before) bytes nonce k first
        (side_in_state next after) → Makes before after
    makes progress is before after = subst (λ (p : Progress). ReceivesAt p (ClientSideAnswers hostname)
        (side_in_state side before) bytes nonce k first (side_in_state next after)) (sym is)

    -- the next side with another profile
    turned : (other : Profile) (end : Side Profile) → next ≡ end → side_in_state next other ≡ side_in_state end other
    turned other end is = ap (λ (n : Side Profile). side_in_state n other) is

    -- a whole unit is answered
    abbrev Whole : Expected → Profile → Profile → SideOutput → Side Profile → Type 0
    Whole expected before after answer end = IsWhole expected side.limit come
        × ClientSideAnswers hostname expected before nonce (take (unit_size expected come) come) answer after
        × Ends (side_in_state side before) (unit_size expected come) answer after k first end

    makes_whole : (expected : Expected) → side.expected ≡ expected → side.progress ≡ InProgress → (before after : Profile)
        (answer : SideOutput) → Whole expected before after answer (side_in_state next after) → Makes before after
    makes_whole expected expects going before after answer unit =
        let same = subst (λ (e : Expected). Whole e before after answer (side_in_state next after)) (sym expects) unit in
        makes InProgress going before after (inr (inr (answer, after, same.0, same.1, same.2)))

    -- a side that does not go on
    ends : (progress : Progress) → next.progress ≡ progress → progress ≢ InProgress → next.state ≡ state
        → ((other : Profile) → Makes other other) → Stays
    ends progress is ended kept others =
        (kept, (λ goes. absurd (ended (sym is ∙ goes))), (λ goes. absurd (ended (sym is ∙ goes))), others)

    at_header : side.progress ≡ InProgress → side.expected ≡ Header → IsPart Header side.limit side.held
        → taken ≡ side.held → (after : Profile) (answer : SideOutput) → Whole Header state after answer next → Stays
    at_header going expects part held after answer (whole, (inl (other, closed), same), (t, s, is)) =
        let why = ProtocolHeaderMismatch (take 8 come) in
        ends (Failed why) (ap (λ (n : Side Profile). n.progress) is ∙ ap (λ (a : SideOutput). a.progress) closed)
        (failed_is_not_in_progress why) (ap (λ (n : Side Profile). n.state) is ∙ same)
        (λ profile. makes_whole Header expects going profile profile answer
        (whole, (inl (other, closed), refl), (t, s, turned profile _ is)))
    at_header going expects part held after answer (whole, (inr (header, opens), same), (t, s, is)) = (
      ap (λ (n : Side Profile). n.state) is ∙ same,
      subst (Early (taken ++ take k stream)) (sym (is ∙ ap (λ (a : SideOutput). record {
        progress = a.progress;
        expected = a.expected;
        limit = side.limit;
        held = [];
        state = after;
      }) opens)) (λ _. (sasl_header, arrived, nothing_is_part (Frame turns.Mechanisms) side.limit, inr (refl, refl))),
      (λ _. going),
      λ profile. makes_whole Header expects going profile profile answer
          (whole, (inr (header, opens), refl), (t, s, turned profile _ is)),
    )
      where
        arrived : taken ++ take k stream ≡ sasl_header ++ []
        arrived = ap (λ l. l ++ take k stream) held ∙ (ap (λ l. side.held ++ l) (sym here)
            ∙ (sym (take-append_past side.held bytes k 8 (omega (arith, part, t)))
            ∙ (header ∙ sym (append-nil sasl_header))))

    at_list : side.progress ≡ InProgress → side.expected ≡ Frame turns.Mechanisms → taken ≡ sasl_header ++ side.held
        → (after : Profile) (answer : SideOutput) → Whole (Frame turns.Mechanisms) state after answer next → Answers
    at_list going expects carried after answer (whole, replies, (t, s, is)) = (
      going,
      answer,
      ap (λ (n : Side Profile). n.progress) is,
      subst (λ (p : Profile). ClientReplies hostname turns.Mechanisms state first_event answer p)
          (sym (ap (λ (n : Side Profile). n.state) is)) (subst (λ (b : List ℕ). Replies b state after) body replies),
      λ other end answers. makes_whole (Frame turns.Mechanisms) expects going other end answer
          (whole, subst (λ (b : List ℕ). Replies b other end) (sym body) answers, (t, s, turned end _ is)),
    )
      where
        Replies : List ℕ → Profile → Profile → Type 0
        Replies b before end = ClientReplies hostname turns.Mechanisms before (record { body = b; nonce = nonce }) answer end

        body : first_body come ≡ first_body (drop 8 (taken ++ stream))
        body = sym (first_in side.limit come (drop handed stream) whole) ∙ ap first_body (parts side.held stream handed
            ∙ (sym (drop_at sasl_header (side.held ++ stream) 8 refl)
            ∙ ap (drop 8) (sym (append_assoc sasl_header side.held stream) ∙ ap (λ l. l ++ stream) (sym carried))))

    at : (progress : Progress) → side.progress ≡ progress
        → ReceivesAt progress (ClientSideAnswers hostname) (side_in_state side state) bytes nonce k first next
        → Stays ⊎ Answers
    at InProgress going (inl (part, (t, s, is))) = inl (
      ap (λ (n : Side Profile). n.state) is,
      subst (Early (taken ++ take k stream)) (sym is) (λ _. let (front, carried, few, awaits) = early going in (
        front,
        ap (λ l. l ++ take k stream) carried ∙ (append_assoc front side.held (take k stream)
            ∙ ap (λ l. front ++ (side.held ++ l)) (sym here ∙ take_all k bytes (omega (arith, t)))),
        part,
        awaits,
      )),
      (λ _. going),
      λ other. makes InProgress going other other (inl (part, (t, s, turned other _ is))),
    )
    at InProgress going (inr (inl (refused, (t, s, is)))) = inl (ends (Failed FrameSize)
        (ap (λ (n : Side Profile). n.progress) is) (failed_is_not_in_progress FrameSize)
        (ap (λ (n : Side Profile). n.state) is)
        (λ other. makes InProgress going other other (inr (inl (refused, (t, s, turned other _ is))))))
    at InProgress going (inr (inr (answer, after, whole, answers, done))) = go (early going)
      where
        go : (front : List ℕ) × (taken ≡ front ++ side.held) × IsPart side.expected side.limit side.held
            × AwaitsAfter front side.expected → Stays ⊎ Answers
        go (front, carried, part, inl (none, expects)) = inl (at_header going expects
            (subst (λ (e : Expected). IsPart e side.limit side.held) expects part) (carried ∙ ap (λ l. l ++ side.held) none)
            after answer (subst (λ (e : Expected). Whole e state after answer next) expects (whole, answers, done)))
        go (front, carried, part, inr (header, expects)) = inr (at_list going expects
            (carried ∙ ap (λ l. l ++ side.held) header) after answer
            (subst (λ (e : Expected). Whole e state after answer next) expects (whole, answers, done)))
    at Authenticated ended (t, s, is) = inl (ends Authenticated (ap (λ (n : Side Profile). n.progress) is ∙ ended)
        authenticated_is_not_in_progress (ap (λ (n : Side Profile). n.state) is)
        (λ other. makes Authenticated ended other other (t, s, turned other _ is)))
    at (Failed why) ended (t, s, is) = inl (ends (Failed why) (ap (λ (n : Side Profile). n.progress) is ∙ ended)
        (failed_is_not_in_progress why) (ap (λ (n : Side Profile). n.state) is)
        (λ other. makes (Failed why) ended other other (t, s, turned other _ is)))

    pub early_call : Stays ⊎ Answers
    early_call = at side.progress refl receives

-- ---- calls

-- two clients end in one side, or both keep their profiles
abbrev pub EndsLike : Profile → Profile → Side Profile → Side Profile → Type 0
EndsLike state other last end = (end ≡ last) ⊎ ((last.state ≡ state) × (end ≡ side_in_state last other))

module _ (hostname : Option (List ℕ)) (profile state other : Profile) (body : List ℕ)
    (alike : AnswersAlike hostname profile body state other) where
  -- calls of the other client
  abbrev Remakes : Side Profile → List Call → List ℕ → List ℕ → Side Profile → List ℕ → Type 0
  Remakes side calls stream sent last rest = (end : Side Profile) × EndsLike state other last end
      × Calls (ClientReceives hostname) (side_in_state side other) calls stream sent end rest

  pub alike_calls : (calls : List Call) (taken : List ℕ) (side last : Side Profile) (stream sent rest : List ℕ)
      → Early taken side → first_body (drop 8 (taken ++ stream)) ≡ body
      → Calls (ClientReceives hostname) (side_in_state side state) calls stream sent last rest
      → Remakes side calls stream sent last rest
  alike_calls [] taken side last stream sent rest early is (nothing, same, left) = (
    side_in_state side other,
    inr (ap (λ (s : Side Profile). s.state) same, ap (λ (s : Side Profile). side_in_state s other) (sym same)),
    (nothing, refl, left),
  )
  alike_calls (call ∷ calls) taken side last stream sent rest early is (k, first, next, later, receives, made, all) =
      go (λ kept still. alike_calls calls (taken ++ take k stream) next last (drop k stream) later rest still
      (ap (λ (l : List ℕ). first_body (drop 8 l)) (parts taken stream k) ∙ is)
      (subst (λ (p : Profile). Calls (ClientReceives hostname) (side_in_state next p) calls (drop k stream) later last rest)
      kept made))
      (early_call hostname state taken stream call.nonce first call.handed k side next receives early)
    where
      One : Profile → Type 0
      One end = ClientReceives hostname (side_in_state side other) (take call.handed stream) call.nonce k first
          (side_in_state next end)

      Replies : Profile → SideOutput → List ℕ → Profile → Type 0
      Replies before answer b end =
          ClientReplies hostname turns.Mechanisms before (record { body = b; nonce = call.nonce }) answer end

      more : One other → Remakes next calls (drop k stream) later last rest → Remakes side (call ∷ calls) stream sent last rest
      more one (end, like, others) = (end, like, (k, first, side_in_state next other, later, one, others, all))

      go : (next.state ≡ state → Early (taken ++ take k stream) next → Remakes next calls (drop k stream) later last rest)
          → Stays hostname state taken stream call.nonce first call.handed k side next
          ⊎ Answers hostname state taken stream call.nonce first call.handed k side next
          → Remakes side (call ∷ calls) stream sent last rest
      go others (inl (kept, still, going, acts)) = more (acts other) (others kept still)
      go others (inr (going, answer, progress, replies, acts)) =
          by (alike call.nonce answer next.state
          (subst (λ (b : List ℕ). Replies state answer b next.state) is replies))
        where
          act : (end next_state : Profile) → Replies other answer body end → end ≡ next_state → One next_state
          act end next_state answers same = subst One same
              (acts other end (subst (λ (b : List ℕ). Replies other answer b end) (sym is) answers))

          by : Alike hostname profile state other (record { body = body; nonce = call.nonce }) answer next.state
              → Remakes side (call ∷ calls) stream sent last rest
          by (end, answers, inl (same, begun)) =
              (last, inl refl, (k, first, next, later, act end next.state answers same, made, all))
          by (end, answers, inr (none, closed, kept, same)) = more (act end other answers same)
              (others kept (λ goes. absurd (closes_waits_not _ _ answer closed (sym progress ∙ goes))))
