-- However a stream is cut into calls, its units are the same.
use Rattle.std.proofs.Common.{◌≡◌, ◌≢◌, ◌⊎◌, ℕ, ◌+◌, ◌-◌, ◌<◌, ◌≤◌, List, [], ◌∷◌, ◌++◌, length, take, drop, min, refl, sym, ap, ◌∙◌, subst, inl, inr, append_assoc, arith, length-append}
use Rattle.std.proofs.lemmas.List.{append-nil, length-take, length-take-le, take-take, take_at, take-append-drop, drop_at, drop_min}
use Rattle.std.proofs.Math.Seq.{drop-append-add}
use Rattle.bytes.proofs.Ranges.{take-append_past}
use Rattle.fe2o3_sasl_negotiation.specs.declared.progress.Expected.{Expected}
use Rattle.fe2o3_sasl_negotiation.specs.declared.progress.Expected.TheVariants.{Header, Frame}
use Rattle.fe2o3_sasl_negotiation.specs.declared.progress.Progress.{Progress}
use Rattle.fe2o3_sasl_negotiation.specs.declared.progress.Progress.TheVariants.{InProgress, Authenticated, Failed}
use Rattle.fe2o3_sasl_negotiation.specs.declared.progress.CloseReason.TheVariants.{FrameSize}
use Rattle.fe2o3_sasl_negotiation.specs.Framing.{size_of, Fits, unit_size, IsPart, IsRefused, IsWhole}
use Rattle.fe2o3_sasl_negotiation.specs.Laws.{Call, Calls, Stops, Negotiates, NoncesOf, CutsDoNotMatter}
use Rattle.fe2o3_sasl_negotiation.specs.Negotiations.{Side, SideOutput, closes, Ends, Rests, Receives, ReceivesAt}
use Rattle.fe2o3_sasl_negotiation.proofs.lemmas.FramingLemmas.{size_of-append, part_is_short, refused_is_short}

-- nothing is less than a whole unit
pub nothing_is_part : (expected : Expected) (limit : ℕ) → IsPart expected limit []
nothing_is_part Header limit = omega arith
nothing_is_part (Frame turn) limit = λ (four : 4 ≤ 0). absurd (omega (arith, four))

-- a whole unit is one whatever follows it
pub whole_unit_size : (expected : Expected) (limit : ℕ) (come more : List ℕ) → IsWhole expected limit come
    → unit_size expected (take (unit_size expected come) come ++ more) ≡ unit_size expected come
whole_unit_size Header limit come more whole = refl
whole_unit_size (Frame turn) limit come more whole =
    let eight : 8 ≤ size_of come = whole.0.0 in
    let within : size_of come ≤ length come = whole.1 in
    let long : 4 ≤ length (take (size_of come) come) = simp length-take (omega arith) in
    size_of-append (take (size_of come) come) more long
    ∙ (sym (size_of-append (take (size_of come) come) (drop (size_of come) come) long)
    ∙ ap size_of (take-append-drop (size_of come) come))

pub whole_stays : (expected : Expected) (limit : ℕ) (come more : List ℕ) → IsWhole expected limit come
    → IsWhole expected limit (take (unit_size expected come) come ++ more)
whole_stays Header limit come more whole =
    let long : length (take 8 come ++ more) ≡ min 8 (length come) + length more = simp (length-append, length-take) refl in
    omega arith
whole_stays (Frame turn) limit come more whole =
    let same = whole_unit_size (Frame turn) limit come more whole in
    let within : size_of come ≤ length come = whole.1 in
    let long : length (take (size_of come) come ++ more) ≡ min (size_of come) (length come) + length more =
    simp (length-append, length-take) refl in (
      subst (λ (n : ℕ). Fits limit n) (sym same) whole.0,
      omega arith,
    )

pub whole_is_taken : (expected : Expected) (limit : ℕ) (come more : List ℕ) → IsWhole expected limit come
    → take (unit_size expected (take (unit_size expected come) come ++ more)) (take (unit_size expected come) come ++ more)
    ≡ take (unit_size expected come) come
whole_is_taken expected limit come more whole =
    ap (λ n. take n (take (unit_size expected come) come ++ more)) (whole_unit_size expected limit come more whole)
    ∙ take_at (take (unit_size expected come) come) more (unit_size expected come)
    (length-take-le (unit_size expected come) come (whole_within expected limit come whole))
  where
    whole_within : (expected : Expected) (limit : ℕ) (come : List ℕ) → IsWhole expected limit come
        → unit_size expected come ≤ length come
    whole_within Header limit come whole = whole
    whole_within (Frame turn) limit come whole = whole.1

-- and so is a size that is not allowed
pub refused_stays : (expected : Expected) (limit : ℕ) (come more : List ℕ) → IsRefused expected limit come
    → IsRefused expected limit (take 4 come ++ more)
refused_stays Header limit come more refused = refused
refused_stays (Frame turn) limit come more refused =
    let four : length (take 4 come) ≡ 4 = length-take-le 4 come refused.0 in
    let long : length (take 4 come ++ more) ≡ length (take 4 come) + length more = length-append (take 4 come) more in
    let same : size_of (take 4 come ++ more) ≡ size_of come =
    size_of-append (take 4 come) more (omega arith)
    ∙ (sym (size_of-append (take 4 come) (drop 4 come) (omega arith)) ∙ ap size_of (take-append-drop 4 come)) in (
      omega arith,
      λ (fits : Fits limit (size_of (take 4 come ++ more))). refused.1 (subst (λ (n : ℕ). Fits limit n) same fits),
    )

-- neither a whole unit nor a size that is not allowed is less than a unit
pub whole_is_no_part : (expected : Expected) (limit : ℕ) (come : List ℕ) → IsWhole expected limit come
    → ¬ IsPart expected limit come
whole_is_no_part Header limit come whole part = omega (arith, whole, part)
whole_is_no_part (Frame turn) limit come whole part =
    let eight : 8 ≤ size_of come = whole.0.0 in
    let long : size_of come ≤ length come = whole.1 in
    let short : length come < size_of come = (part (omega arith)).1 in
    omega arith

pub refused_is_no_part : (expected : Expected) (limit : ℕ) (come : List ℕ) → IsRefused expected limit come
    → ¬ IsPart expected limit come
refused_is_no_part Header limit come refused part = refused
refused_is_no_part (Frame turn) limit come refused part = refused.1 (part refused.0).0

pub refused_long : (expected : Expected) (limit : ℕ) (come : List ℕ) → IsRefused expected limit come → 4 ≤ length come
refused_long Header limit come refused = absurd refused
refused_long (Frame turn) limit come refused = refused.0

pub whole_long : (expected : Expected) (limit : ℕ) (come : List ℕ) → IsWhole expected limit come
    → unit_size expected come ≤ length come
whole_long Header limit come whole = whole
whole_long (Frame turn) limit come whole = whole.1

module _ {S : Type 0} (Answers : Expected → S → List ℕ → List ℕ → SideOutput → S → Type 0) where
  -- what has come ends a unit of n bytes
  abbrev pub EndsUnit : Side S → List ℕ → List ℕ → ℕ → ℕ → List ℕ → Side S → Type 0
  EndsUnit side come nonce n taken sent next =
      (IsRefused side.expected side.limit come × (n ≡ 4)
      × Ends side 4 (closes FrameSize side.expected) side.state taken sent next)
      ⊎ ((answer : SideOutput) × (state : S) × IsWhole side.expected side.limit come × (n ≡ unit_size side.expected come)
      × Answers side.expected side.state nonce (take n come) answer state × Ends side n answer state taken sent next)

  -- a side at its end stays there
  pub ended_stays : (side last : Side S) (nonces : List (List ℕ)) (bytes sent : List ℕ) (progress : Progress)
      → side.progress ≡ progress → progress ≢ InProgress → Negotiates Answers side nonces bytes sent last → last ≡ side
  ended_stays side last [] bytes sent progress is ended (nothing, inl stops) = absurd (ended (sym is ∙ stops.0))
  ended_stays side last [] bytes sent progress is ended (nothing, inr stops) = stops.2
  ended_stays side last (nonce ∷ nonces) bytes sent progress is ended
      (taken, first, next, behind, wants, no_part, receives, more, all) = absurd (ended (sym is ∙ wants))

  in_progress_receives : (side next : Side S) (bytes nonce sent : List ℕ) (taken : ℕ) → side.progress ≡ InProgress
      → Receives Answers side bytes nonce taken sent next
      → ReceivesAt InProgress Answers side bytes nonce taken sent next
  in_progress_receives side next bytes nonce sent taken wanting receives =
      subst (λ (s : Progress). ReceivesAt s Answers side bytes nonce taken sent next) wanting receives

  -- a call that does not wait ends a unit
  pub unit_of_call : (side next : Side S) (bytes nonce sent : List ℕ) (taken : ℕ) → side.progress ≡ InProgress
      → ¬ IsPart side.expected side.limit (side.held ++ bytes) → Receives Answers side bytes nonce taken sent next
      → (n : ℕ) × EndsUnit side (side.held ++ bytes) nonce n taken sent next
  unit_of_call side next bytes nonce sent taken wanting no_part receives =
      go (in_progress_receives side next bytes nonce sent taken wanting receives)
    where
      go : ReceivesAt InProgress Answers side bytes nonce taken sent next
          → (n : ℕ) × EndsUnit side (side.held ++ bytes) nonce n taken sent next
      go (inl waits) = absurd (no_part waits.0)
      go (inr (inl refused)) = (4, inl (refused.0, refl, refused.1))
      go (inr (inr whole)) = (
        unit_size side.expected (side.held ++ bytes),
        inr (whole.0, whole.1, whole.2, refl, whole.3, whole.4),
      )

  call_of_unit : (side next : Side S) (bytes nonce sent : List ℕ) (n taken : ℕ) → side.progress ≡ InProgress
      → EndsUnit side (side.held ++ bytes) nonce n taken sent next → Receives Answers side bytes nonce taken sent next
  call_of_unit side next bytes nonce sent n taken wanting ends =
      subst (λ (s : Progress). ReceivesAt s Answers side bytes nonce taken sent next) (sym wanting) (go ends)
    where
      go : EndsUnit side (side.held ++ bytes) nonce n taken sent next
          → ReceivesAt InProgress Answers side bytes nonce taken sent next
      go (inl refused) = inr (inl (refused.0, refused.2))
      go (inr whole) = inr (inr (
        whole.0,
        whole.1,
        whole.2,
        subst (λ (k : ℕ). Answers side.expected side.state nonce (take k (side.held ++ bytes)) whole.0 whole.1) whole.3
            whole.4,
        subst (λ (k : ℕ). Ends side k whole.0 whole.1 taken sent next) whole.3 whole.5,
      ))

  unit_is_no_part : (side next : Side S) (come nonce sent : List ℕ) (n taken : ℕ)
      → EndsUnit side come nonce n taken sent next → ¬ IsPart side.expected side.limit come
  unit_is_no_part side next come nonce sent n taken (inl refused) =
      refused_is_no_part side.expected side.limit come refused.0
  unit_is_no_part side next come nonce sent n taken (inr whole) = whole_is_no_part side.expected side.limit come whole.2

  -- the unit is in what has arrived, and in front of it what was held
  pub unit_within : (side next : Side S) (bytes nonce sent : List ℕ) (n taken : ℕ) → IsPart side.expected side.limit side.held
      → EndsUnit side (side.held ++ bytes) nonce n taken sent next
      → (length side.held ≤ n) × (n ≤ length (side.held ++ bytes)) × (taken ≡ n - length side.held)
  unit_within side next bytes nonce sent n taken part (inl refused) =
      let few : length side.held < 4 = refused_is_short side.expected side.limit side.held bytes part refused.0 in
      let many : 4 ≤ length (side.held ++ bytes) =
      refused_long side.expected side.limit (side.held ++ bytes) refused.0 in (
        omega (arith, few, refused.1),
        omega (arith, many, refused.1),
        refused.2.0 ∙ ap (λ k. k - length side.held) (sym refused.1),
      )
  unit_within side next bytes nonce sent n taken part (inr whole) =
      let few = part_is_short side.expected side.limit side.held bytes part whole.2 in
      let many = whole_long side.expected side.limit (side.held ++ bytes) whole.2 in
      (omega (arith, few, whole.3), omega (arith, many, whole.3), whole.5.0)

  -- and is one whatever follows it
  unit_stays : (side next : Side S) (come more nonce sent : List ℕ) (n taken : ℕ)
      → EndsUnit side come nonce n taken sent next → EndsUnit side (take n come ++ more) nonce n taken sent next
  unit_stays side next come more nonce sent n taken (inl refused) =
      subst (λ (k : ℕ). EndsUnit side (take k come ++ more) nonce n taken sent next) (sym refused.1)
      (inl (refused_stays side.expected side.limit come more refused.0, refused.1, refused.2))
  unit_stays side next come more nonce sent n taken (inr whole) =
      let u = unit_size side.expected come in
      let same = whole_unit_size side.expected side.limit come more whole.2 in
      subst (λ (k : ℕ). EndsUnit side (take k come ++ more) nonce n taken sent next) (sym whole.3)
      (inr (
        whole.0,
        whole.1,
        whole_stays side.expected side.limit come more whole.2,
        whole.3 ∙ sym same,
        subst (λ (l : List ℕ). Answers side.expected side.state nonce l whole.0 whole.1)
            (ap (λ k. take k come) whole.3 ∙ (sym (whole_is_taken side.expected side.limit come more whole.2)
            ∙ ap (λ k. take k (take u come ++ more)) (same ∙ sym whole.3))) whole.4,
        whole.5,
      ))

  -- a side that holds more ends the same unit
  abbrev held_more : Side S → List ℕ → Side S
  held_more side piece = record side { held = side.held ++ piece }

  held_more_ends : (side next : Side S) (piece come nonce sent : List ℕ) (n taken : ℕ)
      → length (side.held ++ piece) ≤ n → EndsUnit (held_more side piece) come nonce n taken sent next
      → EndsUnit side come nonce n (length piece + taken) sent next
  held_more_ends side next piece come nonce sent n taken within (inl refused) =
      let l : length (side.held ++ piece) ≡ length side.held + length piece = length-append side.held piece in
      let t : taken ≡ 4 - length (side.held ++ piece) = refused.2.0 in
      inl (refused.0, refused.1, (omega (arith, l, t, within, refused.1), refused.2.1, refused.2.2))
  held_more_ends side next piece come nonce sent n taken within (inr whole) =
      let l : length (side.held ++ piece) ≡ length side.held + length piece = length-append side.held piece in
      let t : taken ≡ n - length (side.held ++ piece) = whole.5.0 in
      inr (whole.0, whole.1, whole.2, whole.3, whole.4, (omega (arith, l, t, within), whole.5.1, whole.5.2))

  -- what is kept of a piece counts as one with what follows it
  shift : (side : Side S) (piece : List ℕ) (nonces : List (List ℕ)) (bytes sent : List ℕ) (last : Side S)
      → side.progress ≡ InProgress → IsPart side.expected side.limit (side.held ++ piece)
      → Negotiates Answers (held_more side piece) nonces bytes sent last
      → Negotiates Answers side nonces (piece ++ bytes) sent last
  shift side piece [] bytes sent last wanting part (nothing, inl stops) = (
    nothing,
    inl (
      wanting,
      subst (λ (l : List ℕ). IsPart side.expected side.limit l) (append_assoc side.held piece bytes) stops.1,
      stops.2 ∙ ap (λ (l : List ℕ). record side { held = l }) (append_assoc side.held piece bytes),
    ),
  )
  shift side piece [] bytes sent last wanting part (nothing, inr stops) = absurd (stops.0 wanting)
  shift side piece (nonce ∷ nonces) bytes sent last wanting part
      (taken, first, next, behind, wants, no_part, receives, more, all) =
      let mid = held_more side piece in
      let unit = unit_of_call mid next bytes nonce first taken wanting no_part receives in
      let within = unit_within mid next bytes nonce first unit.0 taken part unit.1 in
      let same = append_assoc side.held piece bytes in
      let ends = subst (λ (l : List ℕ). EndsUnit side l nonce unit.0 (length piece + taken) first next) same
      (held_more_ends side next piece (mid.held ++ bytes) nonce first unit.0 taken within.0 unit.1) in (
        length piece + taken,
        first,
        next,
        behind,
        wanting,
        unit_is_no_part side next (side.held ++ (piece ++ bytes)) nonce first unit.0 (length piece + taken) ends,
        call_of_unit side next (piece ++ bytes) nonce first unit.0 (length piece + taken) wanting ends,
        subst (λ (l : List ℕ). Negotiates Answers next nonces l behind last)
            (sym (drop-append-add piece bytes taken)) more,
        all,
      )

  -- what these calls do, is done with what they take as a whole
  abbrev AreCut : List Call → Type 0
  AreCut calls = (side last : Side S) (stream sent rest : List ℕ) → IsPart side.expected side.limit side.held
      → Calls (Receives Answers) side calls stream sent last rest
      → (taken : List ℕ) × (nonces : List (List ℕ)) × (stream ≡ taken ++ rest)
      × Negotiates Answers side nonces taken sent last × NoncesOf calls nonces

  -- a call that keeps all it is handed
  kept_call : (calls : List Call) → AreCut calls → (side last : Side S) (call : Call) (stream behind rest : List ℕ)
      → side.progress ≡ InProgress → IsPart side.expected side.limit (side.held ++ take call.handed stream)
      → Calls (Receives Answers) (held_more side (take call.handed stream)) calls
      (drop (length (take call.handed stream)) stream) behind last rest
      → (taken : List ℕ) × (nonces : List (List ℕ)) × (stream ≡ taken ++ rest)
      × Negotiates Answers side nonces taken behind last × NoncesOf calls nonces
  kept_call calls others side last call stream behind rest wanting part more =
      let piece = take call.handed stream in
      let cut = others (held_more side piece) last (drop (length piece) stream) behind rest part more in
      let count : length piece ≡ min call.handed (length stream) = length-take call.handed stream in
      let left : drop (length piece) stream ≡ drop call.handed stream =
      ap (λ n. drop n stream) count ∙ drop_min call.handed stream in (
        piece ++ cut.0,
        cut.1,
        sym (take-append-drop call.handed stream)
            ∙ (ap (λ l. piece ++ l) (sym left ∙ cut.2) ∙ sym (append_assoc piece cut.0 rest)),
        shift side piece cut.1 cut.0 behind last wanting part cut.3,
        cut.4,
      )

  -- a call that ends a unit
  unit_call : (calls : List Call) → AreCut calls → (side last next : Side S) (call : Call)
      (stream first behind rest : List ℕ) (n taken : ℕ) → side.progress ≡ InProgress
      → IsPart side.expected side.limit side.held → IsPart next.expected next.limit next.held
      → EndsUnit side (side.held ++ take call.handed stream) call.nonce n taken first next
      → Calls (Receives Answers) next calls (drop taken stream) behind last rest
      → (all : List ℕ) × (nonces : List (List ℕ)) × (stream ≡ all ++ rest)
      × Negotiates Answers side nonces all (first ++ behind) last × NoncesOf (call ∷ calls) nonces
  unit_call calls others side last next call stream first behind rest n taken wanting part empty unit more =
      let piece = take call.handed stream in
      let within = unit_within side next piece call.nonce first n taken part unit in
      let long : length (side.held ++ piece) ≡ length side.held + length piece = length-append side.held piece in
      let count : length piece ≡ min call.handed (length stream) = length-take call.handed stream in
      let few : taken ≤ call.handed = omega (arith, within.0, within.1, within.2, long, count) in
      let some : taken ≤ length stream = omega (arith, within.0, within.1, within.2, long, count) in
      let front : take taken piece ≡ take taken stream = take-take taken call.handed stream few in
      let come : take n (side.held ++ piece) ≡ side.held ++ take taken stream =
      take-append_past side.held piece taken n (omega (arith, within.0, within.2))
      ∙ ap (λ l. side.held ++ l) front in
      let cut = others next last (drop taken stream) behind rest empty more in
      let same : take n (side.held ++ piece) ++ cut.0 ≡ side.held ++ (take taken stream ++ cut.0) =
      ap (λ l. l ++ cut.0) come ∙ append_assoc side.held (take taken stream) cut.0 in
      let ends = subst (λ (l : List ℕ). EndsUnit side l call.nonce n taken first next) same
      (unit_stays side next (side.held ++ piece) cut.0 call.nonce first n taken unit) in (
        take taken stream ++ cut.0,
        call.nonce ∷ cut.1,
        sym (take-append-drop taken stream)
            ∙ (ap (λ l. take taken stream ++ l) cut.2 ∙ sym (append_assoc (take taken stream) cut.0 rest)),
        (
          taken,
          first,
          next,
          behind,
          wanting,
          unit_is_no_part side next (side.held ++ (take taken stream ++ cut.0)) call.nonce first n taken ends,
          call_of_unit side next (take taken stream ++ cut.0) call.nonce first n taken wanting ends,
          subst (λ (l : List ℕ). Negotiates Answers next cut.1 l behind last)
              (sym (drop_at (take taken stream) cut.0 taken (length-take-le taken stream some))) cut.3,
          refl,
        ),
        inr (cut.1, refl, cut.4),
      )

  -- a call to a side at its end
  ended_call : (calls : List Call) → AreCut calls → (side last next : Side S) (stream first behind sent rest : List ℕ)
      (taken : ℕ) → IsPart side.expected side.limit side.held → Rests side taken first next
      → Calls (Receives Answers) next calls (drop taken stream) behind last rest → sent ≡ first ++ behind
      → (all : List ℕ) × (nonces : List (List ℕ)) × (stream ≡ all ++ rest)
      × Negotiates Answers side nonces all sent last × NoncesOf calls nonces
  ended_call calls others side last next stream first behind sent rest taken part (none, nothing, same) more all =
      let again = subst (λ (s : Side S). Calls (Receives Answers) s calls stream behind last rest) same
      (subst (λ (k : ℕ). Calls (Receives Answers) next calls (drop k stream) behind last rest) none more) in
      let cut = others side last stream behind rest part again in
      let one : sent ≡ behind = all ∙ ap (λ l. l ++ behind) nothing in (
        cut.0,
        cut.1,
        cut.2,
        subst (λ (l : List ℕ). Negotiates Answers side cut.1 cut.0 l last) (sym one) cut.3,
        cut.4,
      )

  -- the calls of a list that begins with this one
  first_call : (calls : List Call) → AreCut calls → (side last next : Side S) (call : Call)
      (stream first behind sent rest : List ℕ) (taken : ℕ) (progress : Progress) → side.progress ≡ progress
      → IsPart side.expected side.limit side.held
      → ReceivesAt progress Answers side (take call.handed stream) call.nonce taken first next
      → Calls (Receives Answers) next calls (drop taken stream) behind last rest → sent ≡ first ++ behind
      → (all : List ℕ) × (nonces : List (List ℕ)) × (stream ≡ all ++ rest)
      × Negotiates Answers side nonces all sent last × NoncesOf (call ∷ calls) nonces
  first_call calls others side last next call stream first behind sent rest taken Authenticated is part rests more all =
      let cut = ended_call calls others side last next stream first behind sent rest taken part rests more all in
      (cut.0, cut.1, cut.2, cut.3, inl cut.4)
  first_call calls others side last next call stream first behind sent rest taken (Failed why) is part rests more all =
      let cut = ended_call calls others side last next stream first behind sent rest taken part rests more all in
      (cut.0, cut.1, cut.2, cut.3, inl cut.4)
  first_call calls others side last next call stream first behind sent rest taken InProgress is part (inl waits) more all =
      let piece = take call.handed stream in
      let again = subst (λ (s : Side S). Calls (Receives Answers) s calls (drop (length piece) stream) behind last rest) waits.1.2
      (subst (λ (k : ℕ). Calls (Receives Answers) next calls (drop k stream) behind last rest) waits.1.0 more) in
      let cut = kept_call calls others side last call stream behind rest is waits.0 again in
      let one : sent ≡ behind = all ∙ ap (λ l. l ++ behind) waits.1.1 in (
        cut.0,
        cut.1,
        cut.2,
        subst (λ (l : List ℕ). Negotiates Answers side cut.1 cut.0 l last) (sym one) cut.3,
        inl cut.4,
      )
  first_call calls others side last next call stream first behind sent rest taken InProgress is part (inr (inl refused)) more
      all =
      let empty = subst (λ (s : Side S). IsPart s.expected s.limit s.held) (sym refused.1.2)
      (nothing_is_part side.expected side.limit) in
      let cut = unit_call calls others side last next call stream first behind rest 4 taken is part empty
      (inl (refused.0, refl, refused.1)) more in (
        cut.0,
        cut.1,
        cut.2,
        subst (λ (l : List ℕ). Negotiates Answers side cut.1 cut.0 l last) (sym all) cut.3,
        cut.4,
      )
  first_call calls others side last next call stream first behind sent rest taken InProgress is part (inr (inr whole)) more
      all =
      let answer = whole.0 in
      let empty = subst (λ (s : Side S). IsPart s.expected s.limit s.held) (sym whole.4.2)
      (nothing_is_part answer.expected side.limit) in
      let n = unit_size side.expected (side.held ++ take call.handed stream) in
      let cut = unit_call calls others side last next call stream first behind rest n taken is part empty
      (inr (answer, whole.1, whole.2, refl, whole.3, whole.4)) more in (
        cut.0,
        cut.1,
        cut.2,
        subst (λ (l : List ℕ). Negotiates Answers side cut.1 cut.0 l last) (sym all) cut.3,
        cut.4,
      )

  -- no call at all
  no_call : (side last : Side S) (sent : List ℕ) (progress : Progress) → side.progress ≡ progress
      → IsPart side.expected side.limit side.held → sent ≡ [] → last ≡ side → Stops side [] sent last
  no_call side last sent InProgress is part nothing same = (
    nothing,
    inl (
      is,
      subst (λ (l : List ℕ). IsPart side.expected side.limit l) (sym (append-nil side.held)) part,
      same ∙ ap (λ (l : List ℕ). record side { held = l }) (sym (append-nil side.held)),
    ),
  )
  no_call side last sent Authenticated is part nothing same = (nothing, inr (λ wants. apart (sym is ∙ wants), refl, same))
    where
      apart : Authenticated ≡ InProgress → ⊥
      apart same = cc
  no_call side last sent (Failed why) is part nothing same =
      (nothing, inr (λ wants. apart (sym is ∙ wants), refl, same))
    where
      apart : Failed why ≡ InProgress → ⊥
      apart same = cc

  pub cuts : (calls : List Call) → AreCut calls
  cuts [] side last stream sent rest part (nothing, same, left) =
      ([], [], sym left, no_call side last sent side.progress refl part nothing same, refl)
  cuts (call ∷ calls) side last stream sent rest part (taken, first, next, behind, receives, more, all) =
      first_call calls (cuts calls) side last next call stream first behind sent rest taken side.progress refl part
      receives more all

-- the law
pub cuts_with_nonces : {S : Type 0} (Answers : Expected → S → List ℕ → List ℕ → SideOutput → S → Type 0)
    → CutsDoNotMatter Answers
cuts_with_nonces Answers side last calls stream sent rest part made =
    cuts Answers calls side last stream sent rest part made

-- without the nonces
pub cuts_do_not_matter : {S : Type 0} (Answers : Expected → S → List ℕ → List ℕ → SideOutput → S → Type 0) (side last : Side S)
    (calls : List Call) (stream sent rest : List ℕ) → IsPart side.expected side.limit side.held
    → Calls (Receives Answers) side calls stream sent last rest
    → (taken : List ℕ) × (nonces : List (List ℕ)) × (stream ≡ taken ++ rest)
    × Negotiates Answers side nonces taken sent last
cuts_do_not_matter Answers side last calls stream sent rest part made =
    let cut = cuts Answers calls side last stream sent rest part made in (cut.0, cut.1, cut.2, cut.3)
