-- Frames one after the other are read in one way.
use Rattle.std.proofs.Common.{◌≡◌, ℕ, ◌+◌, ◌<◌, ◌^◌, List, [], ◌∷◌, ◌++◌, length, take, drop, refl, sym, ap, ◌∙◌, arith}
use Rattle.std.proofs.lemmas.List.{length-append, take_at, drop_at}
use Rattle.fe2o3_sasl_core.specs.Events.{Given}
use Rattle.fe2o3_sasl_negotiation.specs.Connections.{frames_of}
use Rattle.fe2o3_sasl_negotiation.specs.Framing.{sasl_header, framed, size_of}
use Rattle.fe2o3_sasl_negotiation.proofs.lemmas.PieceLemmas.{length-frames_of}
use Rattle.fe2o3_sasl_negotiation.proofs.lemmas.UnitLemmas.{size_of-framed, length-framed, body_of-framed}

-- two texts whose ends are equally long
pub one_split : (front back first second : List ℕ) → front ++ back ≡ first ++ second → length back ≡ length second
    → (front ≡ first) × (back ≡ second)
one_split [] back [] second same long = (refl, same)
one_split [] back (x ∷ first) second same long =
    absurd (omega (arith, long, ap length same, length-append first second))
one_split (x ∷ front) back [] second same long =
    absurd (omega (arith, long, ap length same, length-append front back))
one_split (x ∷ front) back (y ∷ first) second same long =
    let head : x ≡ y = cc in
    let tail : front ++ back ≡ first ++ second = cc in
    let rest = one_split front back first second tail long in
    (ap (λ z. z ∷ front) head ∙ ap (λ z. y ∷ z) rest.0, rest.1)

-- two frames with bytes after them
pub one_frame : (body more other behind : List ℕ) → length body + 4 < 2 ^ 32 → length other + 4 < 2 ^ 32
    → framed body ++ more ≡ framed other ++ behind → (body ≡ other) × (more ≡ behind)
one_frame body more other behind small fits same =
    let size : length body + 4 ≡ length other + 4 =
    sym (size_of-framed body more small) ∙ (ap size_of same ∙ size_of-framed other behind fits) in
    let ends : length more ≡ length behind = omega (
      arith,
      size,
      ap length same,
      length-append (framed body) more,
      length-append (framed other) behind,
      length-framed body,
      length-framed other,
    ) in
    let both = one_split (framed body) more (framed other) behind same ends in
    (sym (body_of-framed body) ∙ (ap (drop 4) both.0 ∙ body_of-framed other), both.1)

-- the bodies of two lists of frames are equal
abbrev pub SameBodies : List Given → List Given → Type 0
SameBodies [] [] = Unit {0}
SameBodies (event ∷ events) (other ∷ others) = (event.body ≡ other.body) × SameBodies events others
SameBodies events others = ⊥

pub same_frames : (events others : List Given) → length (frames_of others) < 2 ^ 32
    → frames_of events ≡ frames_of others → SameBodies events others
same_frames [] [] small same = tt
same_frames [] (o ∷ os) small same = let whole = ap (λ (l : List ℕ). length l) same in
    absurd (omega (arith, length-frames_of o os, whole))
same_frames (e ∷ es) [] small same = let whole = ap (λ (l : List ℕ). length l) same in
    absurd (omega (arith, length-frames_of e es, whole))
same_frames (e ∷ es) (o ∷ os) small same =
    let whole : length (frames_of (e ∷ es)) ≡ length (frames_of (o ∷ os)) = ap (λ (l : List ℕ). length l) same in
    let mine = size_of-framed e.body (frames_of es) (omega (arith, length-frames_of e es, whole, small)) in
    let theirs = size_of-framed o.body (frames_of os) (omega (arith, length-frames_of o os, small)) in
    let count : length e.body + 4 ≡ length o.body + 4 = sym mine ∙ (ap (λ (l : List ℕ). size_of l) same ∙ theirs) in
    let first : framed e.body ≡ framed o.body =
    sym (take_at (framed e.body) (frames_of es) (length e.body + 4) (length-framed e.body))
    ∙ (ap (λ (l : List ℕ). take (length e.body + 4) l) same
    ∙ take_at (framed o.body) (frames_of os) (length e.body + 4) (length-framed o.body ∙ sym count)) in
    let rest : frames_of es ≡ frames_of os =
    sym (drop_at (framed e.body) (frames_of es) (length e.body + 4) (length-framed e.body))
    ∙ (ap (λ (l : List ℕ). drop (length e.body + 4) l) same
    ∙ drop_at (framed o.body) (frames_of os) (length e.body + 4) (length-framed o.body ∙ sym count)) in (
      sym (body_of-framed e.body) ∙ (ap (λ (l : List ℕ). drop 4 l) first ∙ body_of-framed o.body),
      same_frames es os (omega (arith, length-frames_of o os, small)) rest,
    )

pub without_header : (bytes others : List ℕ) → sasl_header ++ bytes ≡ sasl_header ++ others → bytes ≡ others
without_header bytes others same =
    sym (drop_at sasl_header bytes 8 refl) ∙ (ap (λ (l : List ℕ). drop 8 l) same ∙ drop_at sasl_header others 8 refl)
