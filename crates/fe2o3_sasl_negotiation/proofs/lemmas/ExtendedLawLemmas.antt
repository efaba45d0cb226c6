-- A side that accepts extended headers does what another does over the stream without them.
use Rattle.std.proofs.Common.{◌≡◌, ◌≢◌, ℕ, ◌-◌, ◌≤◌, true, List, [], ◌∷◌, ◌++◌, length, take, drop, refl, sym, ap, ◌∙◌, subst, inl, inr, append_assoc, arith}
use Rattle.std.proofs.lemmas.List.{append-nil, length-take, length-take-le, take_all, take_at, take-append-drop, take-append-le, drop_at, drop_min}
use Rattle.fe2o3_sasl_wire.specs.SaslFrames.{IsBytes}
use Rattle.fe2o3_sasl_wire.proofs.lemmas.reading.StepLemmas.{IsBytes-take, IsBytes-drop}
use Rattle.fe2o3_sasl_negotiation.specs.declared.progress.CloseReason.TheVariants.{FrameSize}
use Rattle.fe2o3_sasl_negotiation.specs.declared.progress.Expected.{Expected}
use Rattle.fe2o3_sasl_negotiation.specs.declared.progress.Expected.TheVariants.{Header, Frame}
use Rattle.fe2o3_sasl_negotiation.specs.declared.progress.Progress.{Progress}
use Rattle.fe2o3_sasl_negotiation.specs.declared.progress.Progress.TheVariants.{InProgress, Authenticated, Failed}
use Rattle.fe2o3_sasl_negotiation.specs.Connections.{fresh}
use Rattle.fe2o3_sasl_negotiation.specs.ExtendedHeaders.{IsReadAs, AreReadAs, stream_of, HaveNonces, AreUnanswered, ExtendedHeadersAreIgnored}
use Rattle.fe2o3_sasl_negotiation.specs.Framing.{size_of, unit_read, unit_size, IsPart, IsRefused, IsWhole}
use Rattle.fe2o3_sasl_negotiation.specs.Laws.{Call, Calls}
use Rattle.fe2o3_sasl_negotiation.specs.Negotiations.{Side, SideOutput, closes, Ends, Reading, Rests, Receives, ReceivesAt, Waits}
use Rattle.fe2o3_sasl_negotiation.proofs.lemmas.CutLemmas.{nothing_is_part, refused_stays, refused_long, whole_long, whole_unit_size}
use Rattle.fe2o3_sasl_negotiation.proofs.lemmas.ExtendedLemmas.{read_is_whole, read_size}
use Rattle.fe2o3_sasl_negotiation.proofs.lemmas.FramingLemmas.{kept_and_left, part_is_short, refused_is_short}
use Rattle.fe2o3_sasl_negotiation.proofs.lemmas.PieceLemmas.{is_framed}
use Rattle.fe2o3_sasl_negotiation.proofs.lemmas.ConnectionLemmas.{authenticated_is_not_in_progress, failed_is_not_in_progress}
use Rattle.fe2o3_sasl_negotiation.proofs.lemmas.ReceivingLemmas.{ended_rests}

-- what is read of a whole unit
module _ (limit : ℕ) (come : List ℕ) (are_bytes : IsBytes come) (small : limit ≤ 512) where
  abbrev unit_in : Expected → List ℕ
  unit_in expected = take (unit_size expected come) come

  pub is_read_as : (expected : Expected) → IsWhole expected limit come
      → IsReadAs (unit_in expected) (unit_read true expected (unit_in expected))
  is_read_as Header whole = inl (length-take-le 8 come whole, refl)
  is_read_as (Frame turn) whole =
      let unit = take (size_of come) come in
      let count : length unit ≡ size_of come = length-take-le (size_of come) come whole.1 in
      let eight : 8 ≤ size_of come = whole.0.0 in
      let size : size_of (unit ++ []) ≡ size_of come = whole_unit_size (Frame turn) limit come [] whole in
      inr (
        drop 4 unit,
        is_framed limit unit (IsBytes-take (size_of come) come are_bytes)
            (count ∙ (sym size ∙ ap size_of (append-nil unit))) (omega (arith, count, eight)),
        refl,
      )

  pub read_whole : (expected : Expected) → IsWhole expected limit come
      → IsWhole expected limit (unit_read true expected (unit_in expected))
  read_whole Header whole = omega (arith, length-take-le 8 come whole)
  read_whole (Frame turn) whole = let fits = whole.0 in read_is_whole limit come turn (omega (arith, fits.1, small)) whole

  pub read_whole_size : (expected : Expected) → IsWhole expected limit come
      → unit_size expected (unit_read true expected (unit_in expected)) ≡ length (unit_read true expected (unit_in expected))
  read_whole_size Header whole = sym (length-take-le 8 come whole)
  read_whole_size (Frame turn) whole = let fits = whole.0 in read_size limit come turn (omega (arith, fits.1, small)) whole

-- a stream after a unit of which a part was held
pub unit_and_rest : (held stream : List ℕ) (handed n taken : ℕ) → length held ≤ n
    → n ≤ length (held ++ take handed stream) → taken ≡ n - length held
    → held ++ stream ≡ take n (held ++ take handed stream) ++ drop taken stream
unit_and_rest held stream handed n taken few within is =
    let parts : (held ++ take handed stream) ++ drop handed stream ≡ held ++ stream =
    append_assoc held (take handed stream) (drop handed stream) ∙ ap (λ l. held ++ l) (take-append-drop handed stream) in
    let front : take n (held ++ stream) ≡ take n (held ++ take handed stream) =
    ap (take n) (sym parts) ∙ take-append-le n (held ++ take handed stream) (drop handed stream) within in
    let count : length (take n (held ++ stream)) ≡ n =
    ap length front ∙ length-take-le n (held ++ take handed stream) within in
    sym (kept_and_left held stream n taken few (is ∙ ap (λ k. k - length held) (sym count)))
    ∙ ap (λ l. l ++ drop taken stream) front

module _ {S : Type 0} (Answers : Expected → S → List ℕ → List ℕ → SideOutput → S → Type 0) where
  -- the side that has answered what has arrived
  abbrev emptied : Side S → Side S
  emptied side = record side { held = [] }

  -- what the law says of a side for which these bytes have come
  abbrev Ignores : Side S → List Call → List ℕ → List ℕ → Side S → List ℕ → Type 0
  Ignores side calls come sent last rest = (units reads : List (List ℕ)) × (tail : List ℕ) × (others : List Call)
      × AreReadAs units reads × HaveNonces calls others × AreUnanswered last tail
      × (come ≡ stream_of units ++ (tail ++ rest))
      × Calls (Receives Answers) (emptied side) others (stream_of reads ++ (tail ++ rest)) sent (emptied last)
      (last.held ++ rest)

  -- a side that has ended does nothing
  rests : (Any : Expected → S → List ℕ → List ℕ → SideOutput → S → Type 0) (side next : Side S) (bytes nonce sent : List ℕ)
      (taken : ℕ) (progress : Progress) → side.progress ≡ progress → progress ≢ InProgress
      → Receives Any side bytes nonce taken sent next → Rests side taken sent next
  rests Any side next bytes nonce sent taken InProgress is ended receives = absurd (ended refl)
  rests Any side next bytes nonce sent taken Authenticated is ended receives =
      subst (λ (s : Progress). ReceivesAt s Any side bytes nonce taken sent next) is receives
  rests Any side next bytes nonce sent taken (Failed why) is ended receives =
      subst (λ (s : Progress). ReceivesAt s Any side bytes nonce taken sent next) is receives

  ended_calls : (calls : List Call) (side last : Side S) (stream sent rest : List ℕ) → side.progress ≢ InProgress
      → Calls (Receives (Reading true Answers)) side calls stream sent last rest
      → (last ≡ side) × (sent ≡ []) × (rest ≡ stream)
  ended_calls [] side last stream sent rest ended (nothing, same, left) = (same, nothing, left)
  ended_calls (call ∷ calls) side last stream sent rest ended (taken, first, next, later, receives, more, all) =
      let (none, nothing, same) = rests (Reading true Answers) side next (take call.handed stream) call.nonce first taken
      side.progress refl ended receives in
      let again = subst (λ (s : Side S). Calls (Receives (Reading true Answers)) s calls stream later last rest) same
      (subst (λ (k : ℕ). Calls (Receives (Reading true Answers)) next calls (drop k stream) later last rest) none more) in
      let (kept, silent, left) = ended_calls calls side last stream later rest ended again in
      (kept, all ∙ (ap (λ l. l ++ later) nothing ∙ silent), left)

  resting : (calls : List Call) (side : Side S) (stream : List ℕ) → side.progress ≢ InProgress
      → Calls (Receives Answers) side calls stream [] side stream
  resting [] side stream ended = (refl, refl, refl)
  resting (call ∷ calls) side stream ended = (
    0,
    [],
    side,
    [],
    ended_rests Answers side (take call.handed stream) call.nonce side.progress refl ended,
    resting calls side stream ended,
    refl,
  )

  same_nonces : (calls : List Call) → HaveNonces calls calls
  same_nonces [] = tt
  same_nonces (call ∷ calls) = (refl, same_nonces calls)

  ignores_ended : (calls : List Call) (side last : Side S) (stream sent rest : List ℕ) → side.progress ≢ InProgress
      → side.held ≡ [] → (last ≡ side) × (sent ≡ []) × (rest ≡ stream)
      → Ignores side calls (side.held ++ stream) sent last rest
  ignores_ended calls side last stream sent rest ended empty (same, nothing, left) =
      subst (λ (s : Side S). Ignores side calls (side.held ++ stream) sent s rest) (sym same)
      (subst (λ (l : List ℕ). Ignores side calls (side.held ++ stream) l side rest) (sym nothing)
      (subst (λ (l : List ℕ). Ignores side calls (side.held ++ stream) [] side l) (sym left) (
        [],
        [],
        [],
        calls,
        tt,
        same_nonces calls,
        inl (sym empty),
        ap (λ l. l ++ stream) empty,
        subst (λ (l : List ℕ). Calls (Receives Answers) (emptied side) calls stream [] (emptied side) (l ++ stream))
            (sym empty) (resting calls (emptied side) stream ended),
      )))

  -- the law for the calls after the first
  abbrev Later : List Call → Type 0
  Later calls = (side last : Side S) (stream sent rest : List ℕ) → IsPart side.expected side.limit side.held
      → IsBytes (side.held ++ stream) → side.limit ≤ 512 → (side.progress ≢ InProgress → side.held ≡ [])
      → Calls (Receives (Reading true Answers)) side calls stream sent last rest
      → Ignores side calls (side.held ++ stream) sent last rest

  module _ (calls : List Call) (others : Later calls) (side last next : Side S) (call : Call)
      (stream first later sent rest : List ℕ) (taken : ℕ) (going : side.progress ≡ InProgress)
      (part : IsPart side.expected side.limit side.held) (are_bytes : IsBytes (side.held ++ stream))
      (small : side.limit ≤ 512)
      (more : Calls (Receives (Reading true Answers)) next calls (drop taken stream) later last rest)
      (all : sent ≡ first ++ later) where
    abbrev piece : List ℕ
    piece = take call.handed stream

    abbrev come : List ℕ
    come = side.held ++ piece

    parts : come ++ drop call.handed stream ≡ side.held ++ stream
    parts = append_assoc side.held piece (drop call.handed stream)
        ∙ ap (λ l. side.held ++ l) (take-append-drop call.handed stream)

    come_bytes : IsBytes come
    come_bytes = subst (λ (l : List ℕ). IsBytes l)
        (ap (take (length come)) (sym parts) ∙ take_at come (drop call.handed stream) (length come) refl)
        (IsBytes-take (length come) (side.held ++ stream) are_bytes)

    left_bytes : IsBytes (drop taken stream)
    left_bytes = IsBytes-drop taken stream
        (subst (λ (l : List ℕ). IsBytes l) (drop_at side.held stream (length side.held) refl)
        (IsBytes-drop (length side.held) (side.held ++ stream) are_bytes))

    -- the calls after it, from another side
    abbrev More : Side S → List ℕ → Type 0
    More from left = Calls (Receives (Reading true Answers)) from calls left later last rest

    more_from : (from : Side S) → next ≡ from → More from (drop taken stream)
    more_from from same = subst (λ (s : Side S). More s (drop taken stream)) same more

    -- it keeps all bytes
    ignores_part : IsPart side.expected side.limit come → Waits side piece taken first next
        → Ignores side (call ∷ calls) (side.held ++ stream) sent last rest
    ignores_part is_part (kept, nothing, same) =
        let with_more : Side S = record side { held = come } in
        let left : drop taken stream ≡ drop call.handed stream =
        ap (λ k. drop k stream) (kept ∙ length-take call.handed stream) ∙ drop_min call.handed stream in
        let again = subst (λ (l : List ℕ). More with_more l) left (more_from with_more same) in
        let ih = others with_more last (drop call.handed stream) later rest is_part
        (subst (λ (l : List ℕ). IsBytes l) (sym parts) are_bytes) small (λ ended. absurd (ended going)) again in (
          ih.0,
          ih.1,
          ih.2,
          record { handed = 0; nonce = call.nonce } ∷ ih.3,
          ih.4,
          (refl, ih.5),
          ih.6,
          sym parts ∙ ih.7,
          (
            0,
            [],
            emptied side,
            later,
            subst (λ (s : Progress). ReceivesAt s Answers (emptied side) [] call.nonce 0 [] (emptied side)) (sym going)
                (inl (nothing_is_part side.expected side.limit, (refl, refl, refl))),
            ih.8,
            all ∙ ap (λ l. l ++ later) nothing,
          ),
        )

    -- it completes a size that is not allowed
    ignores_refused : IsRefused side.expected side.limit come
        → Ends side 4 (closes FrameSize side.expected) side.state taken first next
        → Ignores side (call ∷ calls) (side.held ++ stream) sent last rest
    ignores_refused refused (is, nothing, same) =
        let closed : Side S = record {
          progress = Failed FrameSize;
          expected = side.expected;
          limit = side.limit;
          held = [];
          state = side.state;
        } in
        let ended = failed_is_not_in_progress FrameSize in
        let (kept, silent, left) = ended_calls calls closed last (drop taken stream) later rest ended (more_from closed same) in
        let long = refused_long side.expected side.limit come refused in
        let few = refused_is_short side.expected side.limit side.held piece part refused in
        let size : List ℕ = take 4 come in
        let four : length size ≡ 4 = length-take-le 4 come long in (
          [],
          [],
          size,
          record { handed = 4; nonce = call.nonce } ∷ calls,
          tt,
          (refl, same_nonces calls),
          inr (ap (λ (s : Side S). s.progress) kept, four),
          unit_and_rest side.held stream call.handed 4 taken (omega (arith, few)) long is ∙ ap (λ l. size ++ l) (sym left),
          (
            4,
            [],
            closed,
            [],
            subst (λ (l : List ℕ). Receives Answers (emptied side) l call.nonce 4 [] closed) (sym (take_at size rest 4 four))
                (subst (λ (s : Progress). ReceivesAt s Answers (emptied side) size call.nonce 4 [] closed) (sym going)
                (inr (inl (
                  subst (λ (l : List ℕ). IsRefused side.expected side.limit l) (append-nil size)
                      (refused_stays side.expected side.limit come [] refused),
                  (refl, refl, refl),
                )))),
            subst (λ (l : List ℕ). Calls (Receives Answers) closed calls l [] (emptied last) (last.held ++ rest))
                (sym (drop_at size rest 4 four))
                (subst (λ (s : Side S). Calls (Receives Answers) closed calls rest [] (emptied s) (s.held ++ rest)) (sym kept)
                (resting calls closed rest ended)),
            all ∙ (ap (λ l. l ++ later) nothing ∙ silent),
          ),
        )

    -- it completes a unit
    ignores_whole : (answer : SideOutput) (state : S) → IsWhole side.expected side.limit come
        → Answers side.expected side.state call.nonce (unit_read true side.expected (take (unit_size side.expected come) come))
        answer state
        → Ends side (unit_size side.expected come) answer state taken first next
        → Ignores side (call ∷ calls) (side.held ++ stream) sent last rest
    ignores_whole answer state whole answers (is, sends, same) =
        let then_side : Side S = record {
          progress = answer.progress;
          expected = answer.expected;
          limit = side.limit;
          held = [];
          state = state;
        } in
        let n = unit_size side.expected come in
        let unit : List ℕ = take n come in
        let read : List ℕ = unit_read true side.expected unit in
        let ih = others then_side last (drop taken stream) later rest (nothing_is_part answer.expected side.limit) left_bytes
        small (λ ended. refl) (more_from then_side same) in
        let behind : List ℕ = stream_of ih.1 ++ (ih.2 ++ rest) in
        let size = read_whole_size side.limit come come_bytes small side.expected whole in (
          unit ∷ ih.0,
          read ∷ ih.1,
          ih.2,
          record { handed = length read; nonce = call.nonce } ∷ ih.3,
          (is_read_as side.limit come come_bytes small side.expected whole, ih.4),
          (refl, ih.5),
          ih.6,
          unit_and_rest side.held stream call.handed n taken (part_is_short side.expected side.limit side.held piece part whole)
              (whole_long side.expected side.limit come whole) is
              ∙ (ap (λ l. unit ++ l) ih.7 ∙ sym (append_assoc unit (stream_of ih.0) (ih.2 ++ rest))),
          subst (λ (l : List ℕ). Calls (Receives Answers) (emptied side)
              (record { handed = length read; nonce = call.nonce } ∷ ih.3) l sent (emptied last) (last.held ++ rest))
              (sym (append_assoc read (stream_of ih.1) (ih.2 ++ rest))) (
                length read,
                first,
                then_side,
                later,
                subst (λ (l : List ℕ). Receives Answers (emptied side) l call.nonce (length read) first then_side)
                    (sym (take_at read behind (length read) refl))
                    (subst (λ (s : Progress). ReceivesAt s Answers (emptied side) read call.nonce (length read) first then_side)
                    (sym going) (inr (inr (
                      answer,
                      state,
                      read_whole side.limit come come_bytes small side.expected whole,
                      subst (λ (l : List ℕ). Answers side.expected side.state call.nonce l answer state)
                          (sym (ap (λ k. take k read) size ∙ take_all (length read) read (omega arith))) answers,
                      (omega (arith, size), sends, refl),
                    )))),
                subst (λ (l : List ℕ). Calls (Receives Answers) then_side ih.3 l later (emptied last) (last.held ++ rest))
                    (sym (drop_at read behind (length read) refl)) ih.8,
                all,
              ),
        )

    ignores_going : ReceivesAt InProgress (Reading true Answers) side piece call.nonce taken first next
        → Ignores side (call ∷ calls) (side.held ++ stream) sent last rest
    ignores_going (inl (is_part, waits)) = ignores_part is_part waits
    ignores_going (inr (inl (refused, ends))) = ignores_refused refused ends
    ignores_going (inr (inr (answer, state, whole, answers, ends))) = ignores_whole answer state whole answers ends

  abbrev Ignored : List Call → Progress → Type 0
  Ignored calls progress = (side last : Side S) (stream sent rest : List ℕ) → side.progress ≡ progress
      → IsPart side.expected side.limit side.held → IsBytes (side.held ++ stream) → side.limit ≤ 512
      → (side.progress ≢ InProgress → side.held ≡ [])
      → Calls (Receives (Reading true Answers)) side calls stream sent last rest
      → Ignores side calls (side.held ++ stream) sent last rest

  one_more : (call : Call) (calls : List Call) → Later calls → (progress : Progress) → Ignored (call ∷ calls) progress
  one_more call calls others InProgress side last stream sent rest going part are_bytes small empty
      (taken, first, next, later, receives, more, all) =
      ignores_going calls others side last next call stream first later sent rest taken going part are_bytes small more all
      (subst (λ (s : Progress). ReceivesAt s (Reading true Answers) side (take call.handed stream) call.nonce taken first next)
      going receives)
  one_more call calls others Authenticated side last stream sent rest is part are_bytes small empty made =
      let ended : side.progress ≢ InProgress = λ going. authenticated_is_not_in_progress (sym is ∙ going) in
      ignores_ended (call ∷ calls) side last stream sent rest ended (empty ended)
      (ended_calls (call ∷ calls) side last stream sent rest ended made)
  one_more call calls others (Failed why) side last stream sent rest is part are_bytes small empty made =
      let ended : side.progress ≢ InProgress = λ going. failed_is_not_in_progress why (sym is ∙ going) in
      ignores_ended (call ∷ calls) side last stream sent rest ended (empty ended)
      (ended_calls (call ∷ calls) side last stream sent rest ended made)

  ignores : (calls : List Call) → Later calls
  ignores [] side last stream sent rest part are_bytes small empty (nothing, same, left) = (
    [],
    [],
    side.held,
    [],
    tt,
    tt,
    inl (ap (λ (s : Side S). s.held) (sym same)),
    ap (λ l. side.held ++ l) (sym left),
    (nothing, ap (λ (s : Side S). emptied s) same, ap (λ (s : Side S). s.held ++ rest) same),
  )
  ignores (call ∷ calls) side last stream sent rest part are_bytes small empty made =
      one_more call calls (ignores calls) side.progress side last stream sent rest refl part are_bytes small empty made

  pub ignores_extended_headers : ExtendedHeadersAreIgnored Answers
  ignores_extended_headers limit state calls stream sent rest last are_bytes small made =
      ignores calls (fresh limit state) last stream sent rest (omega arith) are_bytes small (λ ended. refl) made
