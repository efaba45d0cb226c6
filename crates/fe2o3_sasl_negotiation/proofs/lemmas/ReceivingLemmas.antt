-- What a call makes of the bytes that it is handed, whatever the machine is.
use Rattle.std.proofs.Common.{◌≡◌, ℕ, ◌-◌, ◌<◌, ◌≤◌, List, [], ◌++◌, length, take, drop, refl, sym, ap, ◌∙◌, subst, arith, Result, Ok, Err, OnErr}
use Rattle.std.proofs.lemmas.List.{append-nil, length-take-le, take-take, take_at}
use Rattle.fe2o3_sasl_negotiation.specs.declared.framing.Arrived.TheVariants.{Refused, Whole}
use Rattle.fe2o3_sasl_negotiation.specs.declared.framing.Step.{Step}
use Rattle.fe2o3_sasl_negotiation.specs.declared.progress.CloseReason.{CloseReason}
use Rattle.fe2o3_sasl_negotiation.specs.declared.progress.Expected.{Expected}
use Rattle.fe2o3_sasl_negotiation.specs.declared.progress.Expected.TheVariants.{Header, Frame}
use Rattle.fe2o3_sasl_negotiation.specs.declared.progress.FrameKind.{FrameKind}
use Rattle.fe2o3_sasl_negotiation.specs.declared.progress.Progress.{Progress}
use Rattle.fe2o3_sasl_negotiation.specs.declared.progress.Progress.TheVariants.{InProgress, Authenticated, Failed}
use Rattle.fe2o3_sasl_negotiation.specs.Framing.{unit_size, IsPart, IsRefused, IsWhole}
use Rattle.fe2o3_sasl_negotiation.specs.Negotiations.{Side, SideOutput, closes, Receives, ReceivesAt, Completes}
use Rattle.fe2o3_sasl_negotiation.specs.private.Units.{TakesUnit, Appends, CompletesUnit}
use Rattle.fe2o3_sasl_negotiation.proofs.lemmas.FramingLemmas.{part_is_short, part_is_shorter, refused_is_short}

-- a call that completes a frame completes its body
pub completes_body : {S : Type 0} (side : Side S) (bytes : List ℕ) (turn : FrameKind) (unit : List ℕ)
    → CompletesUnit side bytes (Frame turn) unit → Completes side bytes turn (drop 4 unit)
completes_body side bytes turn unit (going, expects, whole, is) = (going, expects, whole, ap (drop 4) is)

-- what holds holds on an error
pub on_error : {A E P : Type 0} (result : Result A E) → P → OnErr result P
on_error (Ok value) holds = tt
on_error (Err fault) holds = holds

-- nothing is sent where a side closes
pub closed_appends : (Answers : SideOutput → Type 0) (out : List ℕ) (why : CloseReason) (expected : Expected) (step : Step)
    → step ≡ record { progress = Failed why; expected = expected } → Answers (closes why expected) → Appends Answers out out step
closed_appends Answers out why expected step is holds = (
  [],
  sym (append-nil out),
  subst (λ (s : Step). Answers (record { sent = []; progress = s.progress; expected = s.expected })) (sym is) holds,
)

-- a whole unit has come
whole_within : (expected : Expected) (limit : ℕ) (come : List ℕ) → IsWhole expected limit come
    → unit_size expected come ≤ length come
whole_within Header limit come whole = whole
whole_within (Frame turn) limit come whole = whole.1

refused_four : (expected : Expected) (limit : ℕ) (come : List ℕ) → IsRefused expected limit come → 4 ≤ length come
refused_four Header limit come refused = absurd refused
refused_four (Frame turn) limit come refused = refused.0

-- a side at its end rests
pub ended_rests : {S : Type 0} (Answers : Expected → S → List ℕ → List ℕ → SideOutput → S → Type 0) (side : Side S)
    (bytes nonce : List ℕ) (progress : Progress) → side.progress ≡ progress → (progress ≡ InProgress → ⊥)
    → Receives Answers side bytes nonce 0 [] side
ended_rests Answers side bytes nonce progress is ended =
    subst (λ (s : Progress). ReceivesAt s Answers side bytes nonce 0 [] side) (sym is) (go progress ended)
  where
    go : (s : Progress) → (s ≡ InProgress → ⊥) → ReceivesAt s Answers side bytes nonce 0 [] side
    go InProgress ended = absurd (ended refl)
    go Authenticated ended = (refl, refl, refl)
    go (Failed why) ended = (refl, refl, refl)

-- what was held before a unit was whole is found in front of it
pub held_before_unit : (expected : Expected) (limit : ℕ) (old bytes kept : List ℕ) (had : ℕ) → IsPart expected limit old
    → TakesUnit expected limit (old ++ bytes) Whole kept → had ≡ length old → take had kept ≡ old
held_before_unit expected limit old bytes kept had part takes is =
    let come = old ++ bytes in
    let short : length old ≤ unit_size expected come = part_is_short expected limit old bytes part takes.0 in
    ap (take had) takes.1
    ∙ (take-take had (unit_size expected come) come (omega (arith, short, is)) ∙ take_at old bytes had (sym is))

-- sides of one state that hold the same are one
pub same_side : {S : Type 0} (progress : Progress) (expected : Expected) (limit : ℕ) {held old : List ℕ} {state before : S}
    → held ≡ old → state ≡ before
    → ◌≡◌ {A = Side S} (record { progress = progress; expected = expected; limit = limit; held = held; state = state })
    (record { progress = progress; expected = expected; limit = limit; held = old; state = before })
same_side progress expected limit same kept = λ i.
    record { progress = progress; expected = expected; limit = limit; held = same i; state = kept i }

-- a call takes one byte at least where it completes a size that is not allowed, or a unit
pub refused_moves : (expected : Expected) (limit : ℕ) (held bytes kept : List ℕ) (had taken : ℕ) → IsPart expected limit held
    → TakesUnit expected limit (held ++ bytes) Refused kept → had ≡ length held → taken ≡ length kept - had → 0 < taken
refused_moves expected limit held bytes kept had taken part takes held_before is =
    let few = refused_is_short expected limit held bytes part takes.0 in
    let four : length kept ≡ 4 =
    ap length takes.1 ∙ length-take-le 4 (held ++ bytes) (refused_four expected limit (held ++ bytes) takes.0) in
    omega (arith, few, four, held_before, is)

pub whole_moves : (expected : Expected) (limit : ℕ) (held bytes kept : List ℕ) (had taken : ℕ) → IsPart expected limit held
    → TakesUnit expected limit (held ++ bytes) Whole kept → had ≡ length held → taken ≡ length kept - had → 0 < taken
whole_moves expected limit held bytes kept had taken part takes held_before is =
    let short : length held < unit_size expected (held ++ bytes) = part_is_shorter expected limit held bytes part takes.0 in
    let all : length kept ≡ unit_size expected (held ++ bytes) =
    ap length takes.1 ∙ length-take-le (unit_size expected (held ++ bytes)) (held ++ bytes)
    (whole_within expected limit (held ++ bytes) takes.0) in
    omega (arith, short, all, held_before, is)
