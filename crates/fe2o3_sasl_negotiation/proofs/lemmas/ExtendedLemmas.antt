-- Frames that a side reads without their extended headers.
use Rattle.std.proofs.Common.{◌≡◌, ℕ, ◌-◌, ◌*◌, ◌<◌, ◌≤◌, Bool, true, false, if◌then◌else◌, nat_lt, List, [], ◌∷◌, ◌++◌, length, take, drop, refl, sym, ap, ◌∙◌, subst, inl, inr, arith, length-append, Result, Ok, Err, OnErr}
use Rattle.std.proofs.lemmas.Bool.{and_parts, ltb-true}
use Rattle.std.proofs.lemmas.List.{append-nil, length-drop, length-take-le, take_all}
use Rattle.fe2o3_sasl_negotiation.specs.declared.progress.Expected.{Expected}
use Rattle.fe2o3_sasl_negotiation.specs.declared.progress.Expected.TheVariants.{Frame}
use Rattle.fe2o3_sasl_negotiation.specs.declared.progress.FrameKind.{FrameKind}
use Rattle.fe2o3_sasl_negotiation.specs.Framing.{framed, size_of, Fits, data_offset, has_extended_header, unextended, IsWhole}
use Rattle.fe2o3_sasl_negotiation.specs.Negotiations.{AsksReading, CostsReading, Reading, Receives, Side, SideOutput}
use Rattle.fe2o3_sasl_negotiation.specs.private.Units.{CompletesUnit}
use Rattle.fe2o3_sasl_negotiation.proofs.lemmas.ReceivingLemmas.{completes_body}
use Rattle.fe2o3_sasl_negotiation.proofs.lemmas.UnitLemmas.{size_of-framed, length-framed, body_of-framed}

-- a body without its extended header has four bytes or more, and no more than before
abbrev pub IsNoLonger : List ℕ → List ℕ → Type 0
IsNoLonger body read = (4 ≤ length read) × (length read ≤ length body)

shortened : (body : List ℕ) (words : ℕ) → 4 ≤ length body → 2 < words
    → IsNoLonger body (2 ∷ (take 3 (drop 1 body) ++ drop (4 * words - 4) body))
shortened body words four more =
    let three : length (take 3 (drop 1 body)) ≡ 3 =
    length-take-le 3 (drop 1 body) (omega (arith, length-drop 1 body)) in
    let left : length (drop (4 * words - 4) body) ≡ length body - (4 * words - 4) = length-drop (4 * words - 4) body in
    let all = length-append (take 3 (drop 1 body)) (drop (4 * words - 4) body) in (
      omega (arith, three, all),
      omega (arith, three, left, all, more),
    )

pub unextended_is_no_longer : (body : List ℕ) → 4 ≤ length body → IsNoLonger body (unextended body)
unextended_is_no_longer body four = go (has_extended_header body) refl
  where
    go : (has : Bool) → has_extended_header body ≡ has
        → IsNoLonger body (if has then 2 ∷ (take 3 (drop 1 body) ++ drop (4 * data_offset body - 4) body) else body)
    go true is = shortened body (data_offset body) four
        (ltb-true 2 (data_offset body) (and_parts (nat_lt 2 (data_offset body)) _ is).0)
    go false is = (four, omega arith)

-- the body of a frame that is read
pub body_in_room : (room body : List ℕ) (size : ℕ) → take size room ≡ framed body → drop 4 (take size room) ≡ body
body_in_room room body size is = ap (drop 4) is ∙ body_of-framed body

-- what is read of a whole frame is a whole frame
module _ (limit : ℕ) (come : List ℕ) (turn : FrameKind) (small : size_of come ≤ 512)
    (whole : IsWhole (Frame turn) limit come) where
  abbrev unit : List ℕ
  unit = take (size_of come) come

  abbrev read : List ℕ
  read = unextended (drop 4 unit)

  count : length unit ≡ size_of come
  count = length-take-le (size_of come) come whole.1

  short : IsNoLonger (drop 4 unit) read
  short = let eight : 8 ≤ size_of come = whole.0.0 in
      let n = count in unextended_is_no_longer (drop 4 unit) (omega (arith, length-drop 4 unit, n, eight))

  pub read_size : size_of (framed read) ≡ length (framed read)
  read_size = let n = count in let s = short in
      ap size_of (sym (append-nil (framed read)))
      ∙ (size_of-framed read [] (omega (arith, s.1, length-drop 4 unit, n, small)) ∙ sym (length-framed read))

  pub read_is_whole : IsWhole (Frame turn) limit (framed read)
  read_is_whole = let n = count in let s = short in let fits = whole.0 in let size = read_size in (
    subst (λ (n : ℕ). Fits limit n) (sym size)
        (omega (arith, s.0, length-framed read), omega (arith, s.1, length-framed read, length-drop 4 unit, n, fits.0, fits.1)),
    omega (arith, size),
  )

-- a frame that completes is one without its extended header, too
pub completes_read : {S : Type 0} (side : Side S) (bytes : List ℕ) (turn : FrameKind) (unit : List ℕ)
    → length unit ≤ 512 → CompletesUnit side bytes (Frame turn) unit
    → let read = framed (unextended (drop 4 unit)) in CompletesUnit (record side { held = [] }) read (Frame turn) read
completes_read side bytes turn unit most (going, expects, whole, is) =
    let come = side.held ++ bytes in
    let long : length unit ≡ size_of come = ap length is ∙ length-take-le (size_of come) come whole.1 in
    let small : size_of come ≤ 512 = omega (arith, long, most) in
    let size = read_size side.limit come turn small whole in
    subst (λ (u : List ℕ). let read = framed (unextended (drop 4 u)) in
    CompletesUnit (record side { held = [] }) read (Frame turn) read) (sym is) (
      going,
      expects,
      read_is_whole side.limit come turn small whole,
      sym (take_all (size_of (framed (unextended (drop 4 (take (size_of come) come)))))
          (framed (unextended (drop 4 (take (size_of come) come)))) (omega (arith, size))),
    )

-- a side that accepts no extended headers does what its endpoint says
pub receives_plain : {S : Type 0} (Answers : Expected → S → List ℕ → List ℕ → SideOutput → S → Type 0) (accepts : Bool)
    (side next : Side S) (bytes nonce sent : List ℕ) (taken : ℕ) → accepts ≡ false
    → Receives (Reading accepts Answers) side bytes nonce taken sent next
    → Receives Answers side bytes nonce taken sent next
receives_plain Answers accepts side next bytes nonce sent taken plain reads =
    subst (λ (b : Bool). Receives (Reading b Answers) side bytes nonce taken sent next) plain reads

-- what a call asks, it asks of a side that accepts extended headers, too
pub asks_as_before : {S : Type 0} (accepts : Bool) (Asks : ℕ → Side S → List ℕ → Type 0) (room : ℕ) (side : Side S)
    (bytes : List ℕ) → Asks room side bytes → AsksReading accepts Asks room side bytes
asks_as_before false Asks room side bytes asks = asks
asks_as_before true Asks room side bytes asks = inl asks

-- and what it costs, it costs there
pub costs_as_before : {S : Type 0} (accepts : Bool) (Costs : Side S → List ℕ → List ℕ → ℕ → ℕ → Type 0) (side : Side S)
    (bytes nonce : List ℕ) (before after : ℕ) → Costs side bytes nonce before after
    → CostsReading accepts Costs side bytes nonce before after
costs_as_before false Costs side bytes nonce before after costs = costs
costs_as_before true Costs side bytes nonce before after costs = inl costs

-- what the answer to the frame that is read asks and costs
module _ {S : Type 0} (turn : FrameKind) (unit read : List ℕ) (most : length unit ≤ 512)
    (is : read ≡ framed (unextended (drop 4 unit))) where
  -- a side and bytes that complete that frame
  completed : (side : Side S) (bytes : List ℕ) → CompletesUnit side bytes (Frame turn) unit
      → CompletesUnit (record side { held = [] }) (framed (unextended (drop 4 unit))) (Frame turn) read
  completed side bytes completes =
      subst (λ (u : List ℕ). CompletesUnit (record side { held = [] }) (framed (unextended (drop 4 unit))) (Frame turn) u)
      (sym is) (completes_read side bytes turn unit most completes)

  pub asks_read : (Asks : ℕ → Side S → List ℕ → Type 0)
      → ((room : ℕ) (side : Side S) (bytes : List ℕ) → CompletesUnit side bytes (Frame turn) read → Asks room side bytes)
      → (room : ℕ) (side : Side S) (bytes : List ℕ) → CompletesUnit side bytes (Frame turn) unit
      → AsksReading true Asks room side bytes
  asks_read Asks each room side bytes completes = inr (
    turn,
    drop 4 unit,
    completes_body side bytes turn unit completes,
    each room (record side { held = [] }) (framed (unextended (drop 4 unit))) (completed side bytes completes),
  )

  pub costs_read : (Costs : Side S → List ℕ → List ℕ → ℕ → ℕ → Type 0) (state : S) (nonce : List ℕ) (before after : ℕ)
      → ((side : Side S) (bytes : List ℕ) → CompletesUnit side bytes (Frame turn) read → side.state ≡ state
      → Costs side bytes nonce before after)
      → (side : Side S) (bytes : List ℕ) → CompletesUnit side bytes (Frame turn) unit → side.state ≡ state
      → CostsReading true Costs side bytes nonce before after
  costs_read Costs state nonce before after each side bytes completes same = inr (
    turn,
    drop 4 unit,
    completes_body side bytes turn unit completes,
    each (record side { held = [] }) (framed (unextended (drop 4 unit))) (completed side bytes completes) same,
  )

-- the two where the side is known to accept extended headers, and to expect a frame
module _ {S : Type 0} (accepts : Bool) (expected : Expected) (turn : FrameKind) (unit read : List ℕ)
    (most : length unit ≤ 512) (yes : accepts ≡ true) (due : expected ≡ Frame turn)
    (is : read ≡ framed (unextended (drop 4 unit))) where
  back : (side : Side S) (bytes : List ℕ) → CompletesUnit side bytes (Frame turn) read
      → CompletesUnit side bytes expected read
  back side bytes = subst (λ (d : Expected). CompletesUnit side bytes d read) (sym due)

  pub asks_in_place : {A E : Type 0} (result : Result A E) (Asks : ℕ → Side S → List ℕ → Type 0)
      → OnErr result ((room : ℕ) (side : Side S) (bytes : List ℕ) → CompletesUnit side bytes expected read
      → Asks room side bytes)
      → OnErr result ((room : ℕ) (side : Side S) (bytes : List ℕ) → CompletesUnit side bytes expected unit
      → AsksReading accepts Asks room side bytes)
  asks_in_place (Ok value) Asks each = tt
  asks_in_place (Err fault) Asks each = λ room side bytes completes.
      subst (λ (b : Bool). AsksReading b Asks room side bytes) (sym yes)
      (asks_read turn unit read most is Asks (λ r s b done. each r s b (back s b done)) room side bytes
      (subst (λ (d : Expected). CompletesUnit side bytes d unit) due completes))

  pub costs_in_place : (Costs : Side S → List ℕ → List ℕ → ℕ → ℕ → Type 0) (state : S) (nonce : List ℕ)
      (before after : ℕ)
      → ((side : Side S) (bytes : List ℕ) → CompletesUnit side bytes expected read → side.state ≡ state
      → Costs side bytes nonce before after)
      → (side : Side S) (bytes : List ℕ) → CompletesUnit side bytes expected unit → side.state ≡ state
      → CostsReading accepts Costs side bytes nonce before after
  costs_in_place Costs state nonce before after each side bytes completes same =
      subst (λ (b : Bool). CostsReading b Costs side bytes nonce before after) (sym yes)
      (costs_read turn unit read most is Costs state nonce before after
      (λ s b done kept. each s b (back s b done) kept) side bytes
      (subst (λ (d : Expected). CompletesUnit side bytes d unit) due completes) same)

-- what a call asks and costs where no frame is read without its extended header
pub ruleset as_before = (asks_as_before, costs_as_before)
