-- Which frame bytes complete of a side that is saved.
use Rattle.std.proofs.Common.{◌≡◌, ℕ, ◌≤◌, List, ◌++◌, length, take, drop, refl, ap, ◌∙◌, subst, arith}
use Rattle.std.proofs.lemmas.List.{length-take-le}
use Rattle.fe2o3_sasl_negotiation.specs.declared.snapshot.Snapshot.{Snapshot}
use Rattle.fe2o3_sasl_negotiation.specs.declared.progress.Expected.{Expected}
use Rattle.fe2o3_sasl_negotiation.specs.declared.progress.Expected.TheVariants.{Frame}
use Rattle.fe2o3_sasl_negotiation.specs.declared.progress.Progress.TheVariants.{InProgress}
use Rattle.fe2o3_sasl_negotiation.specs.declared.progress.FrameKind.{FrameKind}
use Rattle.fe2o3_sasl_negotiation.specs.Framing.{size_of, unit_size, body_read, IsPart, IsRefused, IsWhole}
use Rattle.fe2o3_sasl_negotiation.specs.Negotiations.{Completes}
use Rattle.fe2o3_sasl_negotiation.specs.Snapshot.{side_kept}
use Rattle.fe2o3_sasl_negotiation.proofs.lemmas.CutLemmas.{whole_is_no_part}

-- less than a unit completes none
pub part_completes_none : (kept : Snapshot) (bytes : List ℕ) → IsPart kept.expected kept.limit (kept.held.now ++ bytes)
    → (turn : FrameKind) (body : List ℕ) → ¬ Completes (side_kept kept) bytes turn body
part_completes_none kept bytes part turn body done =
    whole_is_no_part (Frame turn) kept.limit (kept.held.now ++ bytes) done.2
    (subst (λ (d : Expected). IsPart d kept.limit (kept.held.now ++ bytes)) done.1 part)

-- and so does a size that is not allowed
pub refused_completes_none : (kept : Snapshot) (bytes : List ℕ)
    → IsRefused kept.expected kept.limit (kept.held.now ++ bytes) → (turn : FrameKind) (body : List ℕ)
    → ¬ Completes (side_kept kept) bytes turn body
refused_completes_none kept bytes refused turn body done =
    (subst (λ (d : Expected). IsRefused d kept.limit (kept.held.now ++ bytes)) done.1 refused).1 done.2.0

-- a whole frame is completed
whole_completes : (kept : Snapshot) (bytes held body : List ℕ) (turn : FrameKind) → kept.progress ≡ InProgress
    → kept.expected ≡ Frame turn → IsWhole kept.expected kept.limit (kept.held.now ++ bytes)
    → held ≡ take (unit_size kept.expected (kept.held.now ++ bytes)) (kept.held.now ++ bytes) → body ≡ drop 4 held
    → Completes (side_kept kept) bytes turn body
whole_completes kept bytes held body turn wanting expected whole is same =
    let come = kept.held.now ++ bytes in
    let size = ap (λ (d : Expected). take (unit_size d come) come) expected in
    (wanting, expected, subst (λ (d : Expected). IsWhole d kept.limit come) expected whole, same ∙ ap (drop 4) (is ∙ size))

-- and its body is read
pub whole_is_read : (kept : Snapshot) (bytes held body : List ℕ) (turn : FrameKind) → kept.progress ≡ InProgress
    → kept.expected ≡ Frame turn → IsWhole kept.expected kept.limit (kept.held.now ++ bytes)
    → held ≡ take (unit_size kept.expected (kept.held.now ++ bytes)) (kept.held.now ++ bytes)
    → body ≡ body_read kept.extended_headers (drop 4 held)
    → (due : FrameKind) × (received : List ℕ) × Completes (side_kept kept) bytes due received
    × (body ≡ body_read kept.extended_headers received)
whole_is_read kept bytes held body turn wanting expected whole is same =
    (turn, drop 4 held, whole_completes kept bytes held (drop 4 held) turn wanting expected whole is refl, same)

-- and has no more than 512 bytes
pub whole_is_within : (kept : Snapshot) (bytes held : List ℕ) (turn : FrameKind) → kept.expected ≡ Frame turn
    → kept.limit ≤ 512 → IsWhole kept.expected kept.limit (kept.held.now ++ bytes)
    → held ≡ take (unit_size kept.expected (kept.held.now ++ bytes)) (kept.held.now ++ bytes) → length held ≤ 512
whole_is_within kept bytes held turn expected limit whole is =
    let come = kept.held.now ++ bytes in
    let size = ap (λ (d : Expected). take (unit_size d come) come) expected in
    let all = subst (λ (d : Expected). IsWhole d kept.limit come) expected whole in
    let long : length held ≡ size_of come = ap length (is ∙ size) ∙ length-take-le (size_of come) come all.1 in
    omega (arith, long, all.0.1, limit)

-- and eight or more
pub whole_is_long : (kept : Snapshot) (bytes held : List ℕ) (turn : FrameKind) → kept.expected ≡ Frame turn
    → IsWhole kept.expected kept.limit (kept.held.now ++ bytes)
    → held ≡ take (unit_size kept.expected (kept.held.now ++ bytes)) (kept.held.now ++ bytes) → 8 ≤ length held
whole_is_long kept bytes held turn expected whole is =
    let come = kept.held.now ++ bytes in
    let size = ap (λ (d : Expected). take (unit_size d come) come) expected in
    let all = subst (λ (d : Expected). IsWhole d kept.limit come) expected whole in
    let long : length held ≡ size_of come = ap length (is ∙ size) ∙ length-take-le (size_of come) come all.1 in
    omega (arith, long, all.0.0)

pub ruleset completed = (part_completes_none, refused_completes_none, whole_is_read, whole_is_within, whole_is_long)
