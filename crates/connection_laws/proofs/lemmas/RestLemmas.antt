-- What each call of a list takes, and that a side waits before the last byte that its calls take.
use Rattle.std.proofs.Common.{◌≡◌, ◌⊎◌, ℕ, ◌+◌, ◌-◌, ◌<◌, ◌≤◌, List, [], ◌∷◌, ◌++◌, length, take, drop, refl, sym, ap, ◌∙◌, subst, inl, inr, append_assoc, arith}
use Rattle.std.proofs.lemmas.Bool.{cases_lt}
use Rattle.std.proofs.lemmas.Grind.{flat_map-append}
use Rattle.std.proofs.lemmas.List.{append-nil, length-append, length-take, length-take-le, take-take, take-append-drop}
use Rattle.std.proofs.Math.Seq.{take-append-add}
use Rattle.fe2o3_sasl_wire.specs.SaslFrames.{IsBytes}
use Rattle.fe2o3_sasl_wire.proofs.lemmas.reading.StepLemmas.{IsBytes-take}
use Rattle.fe2o3_sasl_negotiation.specs.declared.progress.Expected.{Expected}
use Rattle.fe2o3_sasl_negotiation.specs.declared.progress.Expected.TheVariants.{Header, Frame}
use Rattle.fe2o3_sasl_negotiation.specs.declared.progress.Progress.{Progress}
use Rattle.fe2o3_sasl_negotiation.specs.declared.progress.Progress.TheVariants.{InProgress, Authenticated, Failed}
use Rattle.fe2o3_sasl_negotiation.specs.Connections.{Piece, bytes_of, PieceNonceAt}
use Rattle.fe2o3_sasl_negotiation.specs.Framing.{Fits, unit_size, size_of, IsPart, IsRefused, IsWhole}
use Rattle.fe2o3_sasl_negotiation.specs.Laws.{Call, Calls}
use Rattle.fe2o3_sasl_negotiation.specs.Negotiations.{Side, SideOutput, Receives, ReceivesAt}
use Rattle.fe2o3_sasl_negotiation.proofs.lemmas.CutLemmas.{refused_long, whole_long}
use Rattle.fe2o3_sasl_negotiation.proofs.lemmas.FramingLemmas.{size_of-append}
use Rattle.fe2o3_sasl_negotiation.proofs.lemmas.PieceLemmas.{nonce_of_piece}
use Rattle.connection_laws.specs.Cuts.{taken_pieces}

pub bytes_of-more : (pieces : List Piece) (piece : Piece) → bytes_of (pieces ++ piece ∷ []) ≡ bytes_of pieces ++ piece.bytes
bytes_of-more pieces piece =
    flat_map-append (λ (p : Piece). p.bytes) pieces (piece ∷ []) ∙ ap (λ l. bytes_of pieces ++ l) (append-nil piece.bytes)

-- the front of a part is a part
part_of_part : (expected : Expected) (limit : ℕ) (front more : List ℕ) → IsPart expected limit (front ++ more)
    → IsPart expected limit front
part_of_part Header limit front more part =
    let short : length (front ++ more) < 8 = part in omega (arith, short, length-append front more)
part_of_part (Frame turn) limit front more part = λ four.
    let size = size_of-append front more four in
    let all = length-append front more in
    let whole = part (omega (arith, four, all)) in
    let short : length (front ++ more) < size_of (front ++ more) = whole.1 in
    (subst (λ (n : ℕ). Fits limit n) size whole.0, omega (arith, short, size, all))

-- and so is the front of a whole unit that is shorter than the unit
part_of_whole : (expected : Expected) (limit : ℕ) (front more : List ℕ) → IsWhole expected limit (front ++ more)
    → length front < unit_size expected (front ++ more) → IsPart expected limit front
part_of_whole Header limit front more whole short = short
part_of_whole (Frame turn) limit front more whole short = λ four.
    let size = size_of-append front more four in
    let less : length front < size_of (front ++ more) = short in
    (subst (λ (n : ℕ). Fits limit n) size whole.0, omega (arith, less, size))

-- and what is shorter than a size
part_of_size : (expected : Expected) (limit : ℕ) (front more : List ℕ) → IsRefused expected limit (front ++ more)
    → length front < 4
    → IsPart expected limit front
part_of_size Header limit front more refused short = absurd refused
part_of_size (Frame turn) limit front more refused short = λ four. absurd (omega (arith, short, four))

module _ {S : Type 0} (Answers : Expected → S → List ℕ → List ℕ → SideOutput → S → Type 0) where
  -- a call takes no more than it received
  pub taken_within : (side next : Side S) (bytes nonce first : List ℕ) (k : ℕ) (progress : Progress)
      → ReceivesAt progress Answers side bytes nonce k first next → k ≤ length bytes
  taken_within side next bytes nonce first k InProgress (inl waits) =
      let all : k ≡ length bytes = waits.1.0 in omega (arith, all)
  taken_within side next bytes nonce first k InProgress (inr (inl refused)) =
      let four = refused_long side.expected side.limit (side.held ++ bytes) refused.0 in
      let is : k ≡ 4 - length side.held = refused.1.0 in
      omega (arith, four, is, length-append side.held bytes)
  taken_within side next bytes nonce first k InProgress (inr (inr whole)) =
      let long = whole_long side.expected side.limit (side.held ++ bytes) whole.2 in
      let is = whole.4.0 in
      omega (arith, long, is, length-append side.held bytes)
  taken_within side next bytes nonce first k Authenticated rests = let none : k ≡ 0 = rests.0 in omega (arith, none)
  taken_within side next bytes nonce first k (Failed why) rests = let none : k ≡ 0 = rests.0 in omega (arith, none)

  -- a side after some bytes, which it holds
  abbrev holding : Side S → List ℕ → Side S
  holding side bytes = record side { held = side.held ++ bytes }

  -- a call that receives less than another call takes waits for more
  cut_short : (side next : Side S) (bytes nonce first : List ℕ) (k n : ℕ) (progress : Progress)
      → ReceivesAt progress Answers side bytes nonce k first next → k ≤ length bytes → n < k
      → (progress ≡ InProgress)
      × ReceivesAt progress Answers side (take n bytes) nonce n [] (holding side (take n bytes))
  cut_short side next bytes nonce first k n InProgress received within less =
      (refl, inl (part received, (sym count, refl, refl)))
    where
      count : length (take n bytes) ≡ n
      count = length-take-le n bytes (omega (arith, within, less))

      whole : (side.held ++ take n bytes) ++ drop n bytes ≡ side.held ++ bytes
      whole = append_assoc side.held (take n bytes) (drop n bytes)
          ∙ ap (λ l. side.held ++ l) (take-append-drop n bytes)

      long : length (side.held ++ take n bytes) ≡ length side.held + n
      long = length-append side.held (take n bytes) ∙ ap (λ m. length side.held + m) count

      part : ReceivesAt InProgress Answers side bytes nonce k first next
          → IsPart side.expected side.limit (side.held ++ take n bytes)
      part (inl waits) = part_of_part side.expected side.limit (side.held ++ take n bytes) (drop n bytes)
          (subst (λ (l : List ℕ). IsPart side.expected side.limit l) (sym whole) waits.0)
      part (inr (inl refused)) =
          let is : k ≡ 4 - length side.held = refused.1.0 in
          part_of_size side.expected side.limit (side.held ++ take n bytes) (drop n bytes)
          (subst (λ (l : List ℕ). IsRefused side.expected side.limit l) (sym whole) refused.0)
          (omega (arith, is, less, long))
      part (inr (inr answers)) =
          let is : k ≡ unit_size side.expected (side.held ++ bytes) - length side.held = answers.4.0 in
          let same : unit_size side.expected ((side.held ++ take n bytes) ++ drop n bytes)
          ≡ unit_size side.expected (side.held ++ bytes) = ap (unit_size side.expected) whole in
          part_of_whole side.expected side.limit (side.held ++ take n bytes) (drop n bytes)
          (subst (λ (l : List ℕ). IsWhole side.expected side.limit l) (sym whole) answers.2)
          (omega (arith, is, same, less, long))
  cut_short side next bytes nonce first k n Authenticated rests within less =
      let none : k ≡ 0 = rests.0 in absurd (omega (arith, none, less))
  cut_short side next bytes nonce first k n (Failed why) rests within less =
      let none : k ≡ 0 = rests.0 in absurd (omega (arith, none, less))

  module _ (all : List Piece) (Is : List ℕ → List ℕ → Side S → Type 0)
      (one_more : (taken sent : List ℕ) (side next : Side S) (bytes nonce first : List ℕ) (k : ℕ) → Is taken sent side
      → IsBytes (taken ++ bytes) → ((i : ℕ) → i < k → PieceNonceAt all (length taken + i) nonce)
      → Receives Answers side bytes nonce k first next → Is (taken ++ take k bytes) (sent ++ first) next) where
    -- a side that waits after n bytes of the stream
    abbrev WaitsAfter : List ℕ → ℕ → Type 0
    WaitsAfter stream n = (sent : List ℕ) × (mid : Side S) × Is (take n stream) sent mid × (mid.progress ≡ InProgress)

    -- and likewise for calls that go on from a side
    abbrev LaterWaits : List Piece → List Piece → List ℕ → List ℕ → Side S → ℕ → Type 0
    LaterWaits done others stream before side n = Is (bytes_of done) before side → IsBytes (bytes_of done ++ stream)
        → n < length (bytes_of others) → WaitsAfter (bytes_of done ++ stream) (length (bytes_of done) + n)

    -- before the last byte that calls take, their side waits
    pub waited : (calls : List Call) (done : List Piece) (side last : Side S) (stream before sent rest : List ℕ)
        (made : Calls (Receives Answers) side calls stream sent last rest)
        → all ≡ done ++ taken_pieces Answers side calls stream sent last rest made → Is (bytes_of done) before side
        → IsBytes (bytes_of done ++ stream) → (n : ℕ)
        → n < length (bytes_of (taken_pieces Answers side calls stream sent last rest made))
        → WaitsAfter (bytes_of done ++ stream) (length (bytes_of done) + n)
    waited [] done side last stream before sent rest made whole is are_bytes n less = absurd (omega (arith, less))
    waited (call ∷ calls) done side last stream before sent rest (k, first, next, later, receives, made, sum) whole is
        are_bytes n less =
        go (λ then_is then_bytes then_less. waited calls (done ++ piece ∷ []) next last (drop k stream) (before ++ first)
        later rest made (whole ∙ sym (append_assoc done (piece ∷ []) others)) then_is then_bytes (n - k) then_less)
        (cases_lt n k)
      where
        handed : List ℕ
        handed = take call.handed stream

        within : k ≤ length handed
        within = taken_within side next handed call.nonce first k side.progress receives

        few : k ≤ call.handed
        few = omega (arith, within, length-take call.handed stream)

        piece : Piece
        piece = record { bytes = take k handed; nonce = call.nonce }

        others : List Piece
        others = taken_pieces Answers next calls (drop k stream) later last rest made

        count : length piece.bytes ≡ k
        count = length-take-le k handed within

        known : (i : ℕ) → i < k → PieceNonceAt all (length (bytes_of done) + i) call.nonce
        known i small = subst (λ (p : List Piece). PieceNonceAt p (length (bytes_of done) + i) call.nonce) (sym whole)
            (nonce_of_piece done others piece i (omega (arith, small, count)))

        front : (m : ℕ) → m ≤ call.handed → take m handed ≡ take m stream
        front m most = take-take m call.handed stream most

        are_handed : (m : ℕ) → IsBytes (bytes_of done ++ take m stream)
        are_handed m = subst (λ (l : List ℕ). IsBytes l) (take-append-add (bytes_of done) stream m)
            (IsBytes-take (length (bytes_of done) + m) (bytes_of done ++ stream) are_bytes)

        stops : n < k → WaitsAfter (bytes_of done ++ stream) (length (bytes_of done) + n)
        stops small =
            let short = cut_short side next handed call.nonce first k n side.progress receives within small in
            let most : n ≤ call.handed = omega (arith, small, few) in
            let twice : take n (take n handed) ≡ take n stream =
            ap (take n) (front n most) ∙ take-take n n stream (omega arith) in
            let mid = one_more (bytes_of done) before side (holding side (take n handed)) (take n handed) call.nonce [] n is
            (subst (λ (l : List ℕ). IsBytes (bytes_of done ++ l)) (sym (front n most)) (are_handed n))
            (λ i early. known i (omega (arith, early, small))) short.1 in (
              before ++ [],
              holding side (take n handed),
              subst (λ (l : List ℕ). Is l (before ++ []) (holding side (take n handed)))
                  (ap (λ l. bytes_of done ++ l) twice ∙ sym (take-append-add (bytes_of done) stream n)) mid,
              short.0,
            )

        goes_on : LaterWaits (done ++ piece ∷ []) others (drop k stream) (before ++ first) next (n - k) → k ≤ n
            → WaitsAfter (bytes_of done ++ stream) (length (bytes_of done) + n)
        goes_on more least =
            let now = bytes_of-more done piece in
            let parts : piece.bytes ++ drop k stream ≡ stream =
            ap (λ l. l ++ drop k stream) (front k few) ∙ take-append-drop k stream in
            let stream_is : bytes_of (done ++ piece ∷ []) ++ drop k stream ≡ bytes_of done ++ stream =
            ap (λ l. l ++ drop k stream) now ∙ (append_assoc (bytes_of done) piece.bytes (drop k stream)
            ∙ ap (λ l. bytes_of done ++ l) parts) in
            let step = one_more (bytes_of done) before side next handed call.nonce first k is
            (are_handed call.handed) known receives in
            let long : length (bytes_of (piece ∷ others)) ≡ length piece.bytes + length (bytes_of others) =
            length-append piece.bytes (bytes_of others) in
            let place : length (bytes_of (done ++ piece ∷ [])) + (n - k) ≡ length (bytes_of done) + n =
            ap (λ (l : List ℕ). length l + (n - k)) now
            ∙ omega (arith, length-append (bytes_of done) piece.bytes, count, least) in
            let end = more (subst (λ (l : List ℕ). Is l (before ++ first) next) (sym now) step)
            (subst (λ (l : List ℕ). IsBytes l) (sym stream_is) are_bytes) (omega (arith, less, long, count, least)) in
            subst (λ (l : List ℕ). WaitsAfter l (length (bytes_of done) + n)) stream_is
            (subst (λ (m : ℕ). WaitsAfter (bytes_of (done ++ piece ∷ []) ++ drop k stream) m) place end)

        go : LaterWaits (done ++ piece ∷ []) others (drop k stream) (before ++ first) next (n - k)
            → (n < k) ⊎ (k ≤ n) → WaitsAfter (bytes_of done ++ stream) (length (bytes_of done) + n)
        go more (inl small) = stops small
        go more (inr least) = goes_on more least
