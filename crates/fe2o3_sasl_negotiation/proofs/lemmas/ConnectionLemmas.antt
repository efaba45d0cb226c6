-- One call more of a side that has seen the header of SASL: its frames so far, and those that the call completes.
use Rattle.std.proofs.Common.{◌≡◌, ◌≢◌, ◌⊎◌, ℕ, ◌+◌, ◌-◌, ◌<◌, ◌≤◌, List, [], ◌∷◌, ◌++◌, length, take, drop, refl, sym, ap, ◌∙◌, subst, inl, inr, append_assoc, arith, length-append, Result, Ok, Err}
use Rattle.std.proofs.lemmas.Grind.{flat_map-append}
use Rattle.std.proofs.lemmas.List.{append-nil, length-take, length-take-le, take-take, take_all, take-append-drop, drop_at}
use Rattle.bytes.proofs.Ranges.{take-append_past}
use Rattle.fe2o3_sasl_wire.specs.declared.sasl_frames.error.Error.{Error}
use Rattle.fe2o3_sasl_wire.specs.SaslFrames.{SaslFrame, IsBytes}
use Rattle.fe2o3_sasl_wire.proofs.lemmas.reading.StepLemmas.{IsBytes-take, IsBytes-drop}
use Rattle.fe2o3_sasl_core.specs.Bodies.{SpellsBody}
use Rattle.fe2o3_sasl_core.specs.Events.{Given}
use Rattle.fe2o3_sasl_core.specs.Runs.{Runs}
use Rattle.fe2o3_sasl_negotiation.specs.declared.progress.CloseReason.{CloseReason}
use Rattle.fe2o3_sasl_negotiation.specs.declared.progress.CloseReason.TheVariants.{FrameSize, UnexpectedFrame, MalformedFrame}
use Rattle.fe2o3_sasl_negotiation.specs.declared.progress.Expected.{Expected}
use Rattle.fe2o3_sasl_negotiation.specs.declared.progress.Expected.TheVariants.{Frame}
use Rattle.fe2o3_sasl_negotiation.specs.declared.progress.Progress.{Progress}
use Rattle.fe2o3_sasl_negotiation.specs.declared.progress.Progress.TheVariants.{InProgress, Authenticated, Failed}
use Rattle.fe2o3_sasl_negotiation.specs.declared.progress.FrameKind.{FrameKind}
use Rattle.fe2o3_sasl_negotiation.specs.Connections.{Piece, bytes_of, PieceNonceAt, frames_of, SpellsTurn, AreFrames, LeftOver, Unanswered, Replied, Negotiated, ArePieces}
use Rattle.fe2o3_sasl_negotiation.specs.Framing.{sasl_header, framed, size_of, Fits, unit_size, IsPart, IsRefused, IsWhole}
use Rattle.fe2o3_sasl_negotiation.specs.Laws.{Call, Calls}
use Rattle.fe2o3_sasl_negotiation.specs.Negotiations.{Side, SideOutput, AnswersTo, Ends, Rests, Waits, Receives, ReceivesAt, closes}
use Rattle.fe2o3_sasl_negotiation.specs.private.Pieces.{NextNonces}
use Rattle.fe2o3_sasl_negotiation.proofs.lemmas.CutLemmas.{nothing_is_part, refused_long, whole_long}
use Rattle.fe2o3_sasl_negotiation.proofs.lemmas.FramingLemmas.{size_of-append, part_is_shorter, refused_is_short}
use Rattle.fe2o3_sasl_negotiation.proofs.lemmas.PieceLemmas.{nonce_of_piece, is_framed, frames_of-more, frames_of_more, turn_after, one_frame_more, IsChain, due_after, one_reply_more, as_many, one_step_more}

-- the three progresses are three
pub authenticated_is_not_in_progress : Authenticated ≢ InProgress
authenticated_is_not_in_progress same = cc

pub failed_is_not_in_progress : (why : CloseReason) → Failed why ≢ InProgress
failed_is_not_in_progress why same = cc

pub closed_is_not_logged_in : (why : CloseReason) → Failed why ≢ Authenticated
closed_is_not_logged_in why same = cc

-- a side that waits for a frame of this turn, of which these bytes have come
abbrev pub holding : {S : Type 0} → FrameKind → ℕ → List ℕ → S → Side S
holding turn limit tail state =
    record { progress = InProgress; expected = Frame turn; limit = limit; held = tail; state = state }

-- the body of the frame with which these bytes begin
abbrev pub first_body : List ℕ → List ℕ
first_body come = drop 4 (take (size_of come) come)

module _ {S A : Type 0} (Answers : Expected → S → List ℕ → List ℕ → SideOutput → S → Type 0) (Steps : S → Given → A → S → Type 0)
    (Says : A → FrameKind → SideOutput → Type 0) (follows : FrameKind → FrameKind) (opening : FrameKind)
    (Kept : S → Type 0)
    (keeps : (state next : S) (event : Given) (says : A) → Kept state → Steps state event says next → Kept next)
    (chain : IsChain Says follows)
    (asks : (turn : FrameKind) (state next : S) (nonce unit : List ℕ) (answer : SideOutput)
    → Kept state → Answers (Frame turn) state nonce unit answer next
    → (spelled : Result SaslFrame Error) × SpellsBody (drop 4 unit) spelled
    × AnswersTo (λ (a : SideOutput) (s : S). (says : A) × Steps state (record { body = drop 4 unit; nonce = nonce }) says s
    × Says says turn a) turn state spelled answer next) where
  module _ (limit : ℕ) (state mid : S) (pieces : List Piece) (taken sent tail : List ℕ) (events : List Given)
      (replies : List A) (before : SideOutput) (turn : FrameKind)
      (kept : Kept mid) (carried : taken ≡ sasl_header ++ (frames_of events ++ tail))
      (frames : AreFrames pieces limit 8 follows opening events)
      (run : Runs Steps state events replies mid) (replied : Replied Says follows opening replies before)
      (sends : sent ≡ before.sent) (wants : before.progress ≡ InProgress) (expected : before.expected ≡ Frame turn)
      (part : IsPart (Frame turn) limit tail) where
    abbrev Goes : List ℕ → List ℕ → Side S → Type 0
    Goes more first next = Negotiated Steps Says follows opening limit state pieces (taken ++ more) (sent ++ first) next

    -- nothing more is answered
    stays : (more : List ℕ) (next : Side S) → LeftOver turn limit (tail ++ more) next.progress → next.state ≡ mid
        → (next.progress ≡ InProgress → next ≡ record {
          progress = InProgress;
          expected = before.expected;
          limit = limit;
          held = tail ++ more;
          state = next.state;
        }) → Goes more [] next
    stays more next left same waits = record {
      events = events;
      replies = replies;
      answer = before;
      tail = tail ++ more;
      carried = ap (λ l. l ++ more) carried ∙ (append_assoc sasl_header (frames_of events ++ tail) more
          ∙ ap (λ l. sasl_header ++ l) (append_assoc (frames_of events) tail more));
      frames = frames;
      run = subst (λ (s : S). Runs Steps state events replies s) (sym same) run;
      replied = replied;
      sends = append-nil sent ∙ sends;
      ends = inl (turn, wants, expected, left);
      waits = waits;
    }

    closes_here : (more first : List ℕ) (next : Side S) (why : CloseReason) → first ≡ []
        → next.progress ≡ Failed why → next.state ≡ mid → LeftOver turn limit (tail ++ more) (Failed why)
        → Goes more first next
    closes_here more first next why nothing closed same left =
        subst (λ (l : List ℕ). Goes more l next) (sym nothing)
        (stays more next (subst (λ (s : Progress). LeftOver turn limit (tail ++ more) s) (sym closed) left) same
        (λ waits. absurd (failed_is_not_in_progress why (sym closed ∙ waits))))

    -- the bytes that complete n of a unit
    completes : (bytes : List ℕ) (n k : ℕ) → length tail ≤ n → k ≡ n - length tail
        → tail ++ take k bytes ≡ take n (tail ++ bytes)
    completes bytes n k few is = sym (take-append_past tail bytes k n (omega (arith, few, is)))

    -- a part of a frame
    part_call : (bytes first : List ℕ) (k : ℕ) (next : Side S) → IsPart (Frame turn) limit (tail ++ bytes)
        → Waits (holding turn limit tail mid) bytes k first next → Goes (take k bytes) first next
    part_call bytes first k next is_part (all, nothing, same) =
        subst (λ (l : List ℕ). Goes l first next) (sym (take_all k bytes (omega (arith, all))))
        (subst (λ (l : List ℕ). Goes bytes l next) (sym nothing)
        (stays bytes next (inl (is_part, ap (λ (s : Side S). s.progress) same)) (ap (λ (s : Side S). s.state) same)
        (λ _. subst (λ (s : Side S). s ≡ record {
          progress = InProgress;
          expected = before.expected;
          limit = limit;
          held = tail ++ bytes;
          state = s.state;
        }) (sym same) (ap (λ (d : Expected). record {
          progress = InProgress;
          expected = d;
          limit = limit;
          held = tail ++ bytes;
          state = mid;
        }) (sym expected)))))

    -- a size that no frame may have
    refused_call : (bytes first : List ℕ) (k : ℕ) (next : Side S) → IsRefused (Frame turn) limit (tail ++ bytes)
        → Ends (holding turn limit tail mid) 4 (closes FrameSize (Frame turn)) mid k first next
        → Goes (take k bytes) first next
    refused_call bytes first k next refused (all, nothing, same) =
        let few : length tail < 4 = refused_is_short (Frame turn) limit tail bytes part refused in
        let four : length (take 4 (tail ++ bytes)) ≡ 4 = length-take-le 4 (tail ++ bytes) refused.0 in
        let size : size_of (take 4 (tail ++ bytes)) ≡ size_of (tail ++ bytes) =
        sym (size_of-append (take 4 (tail ++ bytes)) (drop 4 (tail ++ bytes)) (omega (arith, four)))
        ∙ ap size_of (take-append-drop 4 (tail ++ bytes)) in
        let come = completes bytes 4 k (omega (arith, few)) all in
        closes_here (take k bytes) first next FrameSize nothing (ap (λ (s : Side S). s.progress) same)
        (ap (λ (s : Side S). s.state) same)
        (inr (inl (
          ap length come ∙ four,
          λ (fits : Fits limit (size_of (tail ++ take k bytes))).
              refused.1 (subst (λ (n : ℕ). Fits limit n) (ap size_of come ∙ size) fits),
          refl,
        )))

    -- a whole frame
    module _ (bytes nonce first : List ℕ) (k : ℕ) (next : Side S) (answer : SideOutput) (moved : S)
        (are_bytes : IsBytes (tail ++ bytes)) (nonces : NextNonces pieces (length taken) k nonce)
        (whole : IsWhole (Frame turn) limit (tail ++ bytes))
        (ends : Ends (holding turn limit tail mid) (size_of (tail ++ bytes)) answer moved k first next) where
      abbrev unit : List ℕ
      unit = take (size_of (tail ++ bytes)) (tail ++ bytes)

      abbrev event : Given
      event = record { body = drop 4 unit; nonce = nonce }

      short : length tail < size_of (tail ++ bytes)
      short = part_is_shorter (Frame turn) limit tail bytes part whole

      count : length unit ≡ size_of (tail ++ bytes)
      count = length-take-le (size_of (tail ++ bytes)) (tail ++ bytes) whole.1

      come : tail ++ take k bytes ≡ unit
      come = let few = short in completes bytes (size_of (tail ++ bytes)) k (omega (arith, few)) ends.0

      eight : 8 ≤ size_of (tail ++ bytes)
      eight = whole.0.0

      size : size_of unit ≡ size_of (tail ++ bytes)
      size = let n = count in let e = eight in
          sym (size_of-append unit (drop (size_of (tail ++ bytes)) (tail ++ bytes)) (omega (arith, n, e)))
          ∙ ap size_of (take-append-drop (size_of (tail ++ bytes)) (tail ++ bytes))

      is : unit ≡ framed (drop 4 unit)
      is = let n = count in let e = eight in
          is_framed limit unit (IsBytes-take (size_of (tail ++ bytes)) (tail ++ bytes) are_bytes) (count ∙ sym size)
          (omega (arith, n, e))

      body_count : length (drop 4 unit) + 4 ≡ size_of (tail ++ bytes)
      body_count = let n = count in let e = eight in
          let four : length (take 4 unit) ≡ 4 = length-take-le 4 unit (omega (arith, n, e)) in
          let all : length (take 4 unit ++ drop 4 unit) ≡ length (take 4 unit) + length (drop 4 unit) =
          length-append (take 4 unit) (drop 4 unit) in
          let same : length (take 4 unit ++ drop 4 unit) ≡ length unit = ap length (take-append-drop 4 unit) in
          omega (arith, four, all, same, n)

      fits : Fits limit (length (drop 4 unit) + 4)
      fits = subst (λ (n : ℕ). Fits limit n) (sym body_count) whole.0

      -- which is not answered
      not_answered : (spelled : Result SaslFrame Error) (why : CloseReason) → SpellsBody (drop 4 unit) spelled
          → Unanswered turn spelled why → answer ≡ closes why (Frame turn) → moved ≡ mid → Goes (take k bytes) first next
      not_answered spelled why spells unanswered closed kept =
          closes_here (take k bytes) first next why (ends.1 ∙ ap (λ (a : SideOutput). a.sent) closed)
          (ap (λ (s : Side S). s.progress) ends.2 ∙ ap (λ (a : SideOutput). a.progress) closed)
          (ap (λ (s : Side S). s.state) ends.2 ∙ kept)
          (inr (inr (drop 4 unit, spelled, why, come ∙ is, fits, spells, unanswered, refl)))

      -- where its last byte is
      place : (a b : ℕ) → length taken ≡ 8 + (a + length tail) → length (drop 4 unit) ≡ b
          → length taken + (k - 1) ≡ 8 + (a + (b + 3))
      place a b all same =
          let n = body_count in let few = short in let e = eight in
          let c : k ≡ size_of (tail ++ bytes) - length tail = ends.0 in omega (arith, all, same, n, few, e, c)

      count_taken : length taken ≡ 8 + (length (frames_of events) + length tail)
      count_taken = ap length carried ∙ (length-append sasl_header (frames_of events ++ tail)
          ∙ ap (λ n. 8 + n) (length-append (frames_of events) tail))

      nonce_is : PieceNonceAt pieces (8 + (length (frames_of events) + (length (drop 4 unit) + 3))) nonce
      nonce_is = subst (λ (n : ℕ). PieceNonceAt pieces n nonce)
          (place (length (frames_of events)) (length (drop 4 unit)) count_taken refl)
          (nonces (k - 1) (let few = short in
          let c : k ≡ size_of (tail ++ bytes) - length tail = ends.0 in omega (arith, few, c)))

      -- which is answered
      answered : (frame : SaslFrame) (says : A) → SpellsBody (drop 4 unit) (Ok frame) → SpellsTurn turn (drop 4 unit)
          → Steps mid event says moved → Says says turn answer → Goes (take k bytes) first next
      answered frame says spells in_turn steps said = record {
        events = events ++ event ∷ [];
        replies = replies ++ says ∷ [];
        answer = after;
        tail = [];
        carried = ap (λ l. l ++ take k bytes) carried
            ∙ (append_assoc sasl_header (frames_of events ++ tail) (take k bytes)
            ∙ ap (λ l. sasl_header ++ l) (append_assoc (frames_of events) tail (take k bytes)
            ∙ (ap (λ l. frames_of events ++ l) (come ∙ is)
            ∙ (sym (frames_of-more events event) ∙ sym (append-nil (frames_of (events ++ event ∷ [])))))));
        frames = one_frame_more pieces limit 8 follows opening events turn event frames at fits in_turn nonce_is;
        run = subst (λ (s : S). Runs Steps state (events ++ event ∷ []) (replies ++ says ∷ []) s)
            (sym (ap (λ (s : Side S). s.state) ends.2))
            (one_step_more Steps state events replies mid event says moved run steps);
        replied = more;
        sends = ap (λ l. l ++ first) sends ∙ ap (λ l. before.sent ++ l) ends.1;
        ends = go answer.progress refl;
        waits = λ waiting. ap (λ (s : Side S). record s { state = next.state }) ends.2
            ∙ ap (λ (s : Progress). record {
              progress = s;
              expected = answer.expected;
              limit = limit;
              held = [];
              state = next.state;
            }) (sym progress_is ∙ waiting);
      }
        where
          after : SideOutput
          after = record answer { sent = before.sent ++ answer.sent }

          more : Replied Says follows opening (replies ++ says ∷ []) (record answer { sent = before.sent ++ answer.sent })
          more = one_reply_more Says follows opening replies before answer turn says chain replied wants expected said

          at : turn_after follows opening (length events) ≡ turn
          at =
              let two : Frame (turn_after follows opening (length replies)) ≡ Frame turn =
              sym (due_after Says follows opening replies before chain replied wants) ∙ expected in
              let one : turn_after follows opening (length replies) ≡ turn = (let three = two in cc) in
              subst (λ (n : ℕ). turn_after follows opening n ≡ turn) (as_many Steps state mid events replies run) one

          progress_is : next.progress ≡ answer.progress
          progress_is = ap (λ (s : Side S). s.progress) ends.2

          go : (progress : Progress) → answer.progress ≡ progress
              → ((turn : FrameKind) × (answer.progress ≡ InProgress) × (answer.expected ≡ Frame turn)
              × LeftOver turn limit [] next.progress)
              ⊎ ((answer.progress ≢ InProgress) × (next.progress ≡ answer.progress) × (◌≡◌ {A = List ℕ} [] []))
          go InProgress w =
              let other = turn_after follows opening (length (replies ++ says ∷ [])) in
              let same = due_after Says follows opening (replies ++ says ∷ [])
              (record answer { sent = before.sent ++ answer.sent }) chain more w in
              inl (other, w, same, inl (nothing_is_part (Frame other) limit, progress_is ∙ w))
          go Authenticated w = inr ((λ waits. authenticated_is_not_in_progress (sym w ∙ waits)), progress_is, refl)
          go (Failed why) w = inr ((λ waits. failed_is_not_in_progress why (sym w ∙ waits)), progress_is, refl)

    -- a call
    pub one_call : (bytes nonce first : List ℕ) (k : ℕ) (next : Side S) → IsBytes (tail ++ bytes)
        → NextNonces pieces (length taken) k nonce
        → ReceivesAt InProgress Answers (holding turn limit tail mid) bytes nonce k first next
        → Goes (take k bytes) first next
    one_call bytes nonce first k next are_bytes nonces (inl (is_part, waits)) = part_call bytes first k next is_part waits
    one_call bytes nonce first k next are_bytes nonces (inr (inl (refused, ends))) =
        refused_call bytes first k next refused ends
    one_call bytes nonce first k next are_bytes nonces (inr (inr (answer, moved, whole, answers, ends))) =
        go (asks turn mid moved nonce (take (size_of (tail ++ bytes)) (tail ++ bytes)) answer kept answers)
      where
        go : (spelled : Result SaslFrame Error) × SpellsBody (first_body (tail ++ bytes)) spelled
            × AnswersTo (λ (a : SideOutput) (s : S). (says : A)
            × Steps mid (record { body = first_body (tail ++ bytes); nonce = nonce }) says s
            × Says says turn a) turn mid spelled answer moved → Goes (take k bytes) first next
        go (Err fault, spells, closed) =
            not_answered bytes nonce first k next answer moved are_bytes nonces whole ends (Err fault) (MalformedFrame fault)
            spells refl closed.0 closed.1
        go (Ok frame, spells, inl out) =
            not_answered bytes nonce first k next answer moved are_bytes nonces whole ends (Ok frame) UnexpectedFrame spells
            (out.0, refl) out.1 out.2
        go (Ok frame, spells, inr asked) =
            answered bytes nonce first k next answer moved are_bytes nonces whole ends frame asked.1.0 spells
            (frame, spells, asked.0) asked.1.1 asked.1.2

  -- a side that waits for a header has seen the one of SASL
  pub opened : (limit : ℕ) (state : S) (pieces : List Piece) (taken : List ℕ) (next : Side S) → taken ≡ sasl_header
      → next ≡ holding opening limit [] state
      → Negotiated Steps Says follows opening limit state pieces taken [] next
  opened limit state pieces taken next header same = record {
    events = [];
    replies = [];
    answer = record { sent = []; progress = InProgress; expected = Frame opening };
    tail = [];
    carried = header;
    frames = tt;
    run = (refl, ap (λ (s : Side S). s.state) same);
    replied = refl;
    sends = refl;
    ends = inl (opening, refl, refl, inl (nothing_is_part (Frame opening) limit, ap (λ (s : Side S). s.progress) same));
    waits = λ _. subst (λ (s : Side S). s ≡ holding opening limit [] s.state) (sym same) refl;
  }

  -- what a step keeps, a run keeps
  kept_over : (state last : S) (events : List Given) (replies : List A) → Kept state → Runs Steps state events replies last
      → Kept last
  kept_over state last [] replies kept run = subst Kept (sym run.1) kept
  kept_over state last (event ∷ events) replies kept (says, next, others, step, is, run) =
      kept_over next last events others (keeps state next event says kept step) run

  -- a call to a side that has seen it
  pub negotiated_call : (limit : ℕ) (state : S) (pieces : List Piece) (taken sent : List ℕ) (side next : Side S)
      (bytes nonce first : List ℕ) (k : ℕ) → Kept state
      → Negotiated Steps Says follows opening limit state pieces taken sent side
      → side.progress ≡ InProgress → IsBytes (taken ++ bytes) → NextNonces pieces (length taken) k nonce
      → ReceivesAt InProgress Answers side bytes nonce k first next
      → Negotiated Steps Says follows opening limit state pieces (taken ++ take k bytes) (sent ++ first) next
  negotiated_call limit state pieces taken sent side next bytes nonce first k kept n waits are_bytes nonces receives =
      go n.ends
    where
      left_bytes : IsBytes (n.tail ++ bytes)
      left_bytes =
          let front = sasl_header ++ frames_of n.events in
          let same : taken ++ bytes ≡ front ++ (n.tail ++ bytes) =
          ap (λ l. l ++ bytes) n.carried ∙ (ap (λ l. l ++ bytes) (sym (append_assoc sasl_header (frames_of n.events) n.tail))
          ∙ append_assoc front n.tail bytes) in
          subst (λ (l : List ℕ). IsBytes l) (drop_at front (n.tail ++ bytes) (length front) refl)
          (IsBytes-drop (length front) (front ++ (n.tail ++ bytes)) (subst (λ (l : List ℕ). IsBytes l) same are_bytes))

      at : (turn : FrameKind) → n.answer.expected ≡ Frame turn → side ≡ holding turn limit n.tail side.state
      at turn expected = n.waits waits ∙ ap (λ (d : Expected). record {
        progress = InProgress;
        expected = d;
        limit = limit;
        held = n.tail;
        state = side.state;
      }) expected

      left : (turn : FrameKind) → n.answer.progress ≡ InProgress → n.answer.expected ≡ Frame turn
          → LeftOver turn limit n.tail side.progress
          → Negotiated Steps Says follows opening limit state pieces (taken ++ take k bytes) (sent ++ first) next
      left turn wants expected (inl part) =
          one_call limit state side.state pieces taken sent n.tail n.events n.replies n.answer turn
          (kept_over state side.state n.events n.replies kept n.run) n.carried n.frames n.run n.replied n.sends wants
          expected part.0 bytes nonce first k next left_bytes nonces
          (subst (λ (s : Side S). ReceivesAt InProgress Answers s bytes nonce k first next) (at turn expected) receives)
      left turn wants expected (inr (inl size)) = absurd (failed_is_not_in_progress FrameSize (sym size.2 ∙ waits))
      left turn wants expected (inr (inr frame)) = absurd (failed_is_not_in_progress frame.2 (sym frame.7 ∙ waits))

      go : ((turn : FrameKind) × (n.answer.progress ≡ InProgress) × (n.answer.expected ≡ Frame turn)
          × LeftOver turn limit n.tail side.progress)
          ⊎ ((n.answer.progress ≢ InProgress) × (side.progress ≡ n.answer.progress) × (n.tail ≡ []))
          → Negotiated Steps Says follows opening limit state pieces (taken ++ take k bytes) (sent ++ first) next
      go (inl waiting) = left waiting.0 waiting.1 waiting.2 waiting.3
      go (inr ended) = absurd (ended.0 (sym ended.1 ∙ waits))

  -- the nonces stay where more pieces follow
  pub negotiated_more : (limit : ℕ) (state : S) (pieces more : List Piece) (taken sent : List ℕ) (side : Side S)
      → Negotiated Steps Says follows opening limit state pieces taken sent side
      → Negotiated Steps Says follows opening limit state (pieces ++ more) taken sent side
  negotiated_more limit state pieces more taken sent side n = record {
    events = n.events;
    replies = n.replies;
    answer = n.answer;
    tail = n.tail;
    carried = n.carried;
    frames = frames_of_more pieces more limit 8 follows opening n.events n.frames;
    run = n.run;
    replied = n.replied;
    sends = n.sends;
    ends = n.ends;
    waits = n.waits;
  }

-- ---- calls

-- a call takes no more than it is handed
taken_within : {S : Type 0} (Answers : Expected → S → List ℕ → List ℕ → SideOutput → S → Type 0) (side next : Side S)
    (bytes nonce first : List ℕ) (k : ℕ) (progress : Progress)
    → ReceivesAt progress Answers side bytes nonce k first next → k ≤ length bytes
taken_within Answers side next bytes nonce first k InProgress (inl waits) =
    let all : k ≡ length bytes = waits.1.0 in omega (arith, all)
taken_within Answers side next bytes nonce first k InProgress (inr (inl refused)) =
    let four = refused_long side.expected side.limit (side.held ++ bytes) refused.0 in
    let is : k ≡ 4 - length side.held = refused.1.0 in
    omega (arith, four, is, length-append side.held bytes)
taken_within Answers side next bytes nonce first k InProgress (inr (inr whole)) =
    let long = whole_long side.expected side.limit (side.held ++ bytes) whole.2 in
    let is : k ≡ unit_size side.expected (side.held ++ bytes) - length side.held = whole.4.0 in
    omega (arith, long, is, length-append side.held bytes)
taken_within Answers side next bytes nonce first k Authenticated rests = let is : k ≡ 0 = rests.0 in omega (arith, is)
taken_within Answers side next bytes nonce first k (Failed why) rests = let is : k ≡ 0 = rests.0 in omega (arith, is)

-- a call to a side at its end
pub rests_there : {S : Type 0} (Is : List ℕ → List ℕ → Side S → Type 0) (taken sent bytes first : List ℕ) (k : ℕ)
    (side next : Side S) → Is taken sent side → Rests side k first next → Is (taken ++ take k bytes) (sent ++ first) next
rests_there {S} Is taken sent bytes first k side next is (none, nothing, same) =
    subst (λ (n : ℕ). Is (taken ++ take n bytes) (sent ++ first) next) (sym none)
    (subst (λ (l : List ℕ). Is (taken ++ take 0 bytes) (sent ++ l) next) (sym nothing)
    (subst (λ (s : Side S). Is (taken ++ take 0 bytes) (sent ++ []) s) (sym same)
    (subst (λ (l : List ℕ). Is l (sent ++ []) side) (sym (append-nil taken))
    (subst (λ (l : List ℕ). Is taken l side) (sym (append-nil sent)) is))))

bytes_of-more : (pieces : List Piece) (piece : Piece) → bytes_of (pieces ++ piece ∷ []) ≡ bytes_of pieces ++ piece.bytes
bytes_of-more pieces piece =
    flat_map-append (λ (p : Piece). p.bytes) pieces (piece ∷ []) ∙ ap (λ l. bytes_of pieces ++ l) (append-nil piece.bytes)

module _ {S : Type 0} (Answers : Expected → S → List ℕ → List ℕ → SideOutput → S → Type 0)
    (Is : List Piece → List ℕ → List ℕ → Side S → Type 0)
    (one_more : (pieces : List Piece) (taken sent : List ℕ) (side next : Side S) (bytes nonce first : List ℕ) (k : ℕ)
    → Is pieces taken sent side → IsBytes (taken ++ bytes) → NextNonces pieces (length taken) k nonce
    → Receives Answers side bytes nonce k first next → Is pieces (taken ++ take k bytes) (sent ++ first) next)
    (grows : (pieces more : List Piece) (taken sent : List ℕ) (side : Side S) → Is pieces taken sent side
    → Is (pieces ++ more) taken sent side) where
  in_calls : (calls : List Call) (done : List Piece) (side last : Side S) (stream before sent rest : List ℕ)
      → Is done (bytes_of done) before side → IsBytes (bytes_of done ++ stream)
      → Calls (Receives Answers) side calls stream sent last rest
      → (pieces : List Piece) × ArePieces calls pieces × (stream ≡ bytes_of pieces ++ rest)
      × Is (done ++ pieces) (bytes_of (done ++ pieces)) (before ++ sent) last
  in_calls [] done side last stream before sent rest is are_bytes (nothing, same, left) = (
    [],
    tt,
    sym left,
    subst (λ (p : List Piece). Is p (bytes_of p) (before ++ sent) last) (sym (append-nil done))
        (subst (λ (l : List ℕ). Is done (bytes_of done) l last) (sym (ap (λ l. before ++ l) nothing ∙ append-nil before))
        (subst (λ (s : Side S). Is done (bytes_of done) before s) (sym same) is)),
  )
  in_calls (call ∷ calls) done side last stream before sent rest is are_bytes
      (k, first, next, behind, receives, more, all) =
      let handed = take call.handed stream in
      let within : k ≤ length handed = taken_within Answers side next handed call.nonce first k side.progress receives in
      let few : k ≤ call.handed = omega (arith, within, length-take call.handed stream) in
      let piece : Piece = record { bytes = take k handed; nonce = call.nonce } in
      let front : take k handed ≡ take k stream = take-take k call.handed stream few in
      let count : length piece.bytes ≡ k = length-take-le k handed within in
      let parts : piece.bytes ++ drop k stream ≡ stream = ap (λ l. l ++ drop k stream) front ∙ take-append-drop k stream in
      let now = bytes_of-more done piece in
      let all_bytes : (bytes_of done ++ piece.bytes) ++ drop k stream ≡ bytes_of done ++ stream =
      append_assoc (bytes_of done) piece.bytes (drop k stream) ∙ ap (λ l. bytes_of done ++ l) parts in
      let handed_bytes : IsBytes (bytes_of done ++ handed) =
      subst (λ (l : List ℕ). IsBytes l) (take-append_past (bytes_of done) stream call.handed
      (length (bytes_of done) + call.handed) refl)
      (IsBytes-take (length (bytes_of done) + call.handed) (bytes_of done ++ stream) are_bytes) in
      let step = one_more (done ++ piece ∷ []) (bytes_of done) before side next handed call.nonce first k
      (grows done (piece ∷ []) (bytes_of done) before side is) handed_bytes
      (λ i small. nonce_of_piece done [] piece i (omega (arith, small, count))) receives in
      let (pieces, are, same, last_is) = in_calls calls (done ++ piece ∷ []) next last (drop k stream) (before ++ first)
      behind rest (subst (λ (l : List ℕ). Is (done ++ piece ∷ []) l (before ++ first) next) (sym now) step)
      (subst (λ (l : List ℕ). IsBytes (l ++ drop k stream)) (sym now)
      (subst (λ (l : List ℕ). IsBytes l) (sym all_bytes) are_bytes)) more in (
        piece ∷ pieces,
        (omega (arith, few, count), refl, are),
        sym parts ∙ (ap (λ l. piece.bytes ++ l) same ∙ sym (append_assoc piece.bytes (bytes_of pieces) rest)),
        subst (λ (p : List Piece). Is p (bytes_of p) (before ++ sent) last) (append_assoc done (piece ∷ []) pieces)
            (subst (λ (l : List ℕ). Is ((done ++ piece ∷ []) ++ pieces) (bytes_of ((done ++ piece ∷ []) ++ pieces)) l last)
            (append_assoc before first behind ∙ ap (λ l. before ++ l) (sym all)) last_is),
      )

  -- and from the first byte
  pub connected : (side last : Side S) (calls : List Call) (stream sent rest : List ℕ) → Is [] [] [] side → IsBytes stream
      → Calls (Receives Answers) side calls stream sent last rest
      → (pieces : List Piece) × ArePieces calls pieces × (stream ≡ bytes_of pieces ++ rest)
      × Is pieces (bytes_of pieces) sent last
  connected side last calls stream sent rest is are_bytes made =
      in_calls calls [] side last stream [] sent rest is are_bytes made
