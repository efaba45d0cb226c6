-- What a side does with a unit that has come as a whole.
use Rattle.std.proofs.Common.{◌≡◌, ◌≢◌, ◌⊎◌, ℕ, ◌+◌, ◌-◌, ◌<◌, ◌≤◌, ◌^◌, List, [], ◌∷◌, ◌++◌, length, take, drop, refl, sym, ap, ◌∙◌, subst, inl, inr, append_assoc, arith, length-append}
use Rattle.std.specs.Int.{w32, to_be_bytes, from_be_bytes}
use Rattle.std.proofs.lemmas.Bool.{cases_lt}
use Rattle.std.proofs.lemmas.List.{take_at, drop_at}
use Rattle.std.proofs.lemmas.Nat.{from_be_bytes-to_be_bytes_4}
use Rattle.fe2o3_sasl_negotiation.specs.declared.progress.CloseReason.TheVariants.{FrameSize}
use Rattle.fe2o3_sasl_negotiation.specs.declared.progress.Expected.{Expected}
use Rattle.fe2o3_sasl_negotiation.specs.declared.progress.Expected.TheVariants.{Header, Frame}
use Rattle.fe2o3_sasl_negotiation.specs.declared.progress.Progress.TheVariants.{InProgress, Failed}
use Rattle.fe2o3_sasl_negotiation.specs.declared.progress.FrameKind.{FrameKind}
use Rattle.fe2o3_sasl_negotiation.specs.Framing.{framed, size_of, Fits, unit_size, IsRefused, IsWhole}
use Rattle.fe2o3_sasl_negotiation.specs.Laws.{Negotiates}
use Rattle.fe2o3_sasl_negotiation.specs.Negotiations.{Side, SideOutput}
use Rattle.fe2o3_sasl_negotiation.proofs.lemmas.CutLemmas.{EndsUnit, ended_stays, unit_of_call, whole_is_no_part, refused_is_no_part}

-- a frame's size is what its first four bytes say
pub size_of-framed : (body more : List ℕ) → length body + 4 < 2 ^ 32 → size_of (framed body ++ more) ≡ length body + 4
unfolding size_of
size_of-framed body more small =
    ap (from_be_bytes w32) (ap (take 4) (append_assoc (to_be_bytes w32 (length body + 4)) body more)
    ∙ take_at (to_be_bytes w32 (length body + 4)) (body ++ more) 4 refl)
    ∙ from_be_bytes-to_be_bytes_4 (length body + 4) small

pub length-framed : (body : List ℕ) → length (framed body) ≡ length body + 4
length-framed body =
    let all : length (framed body) ≡ length (to_be_bytes w32 (length body + 4)) + length body =
    length-append (to_be_bytes w32 (length body + 4)) body in
    all ∙ sum (length body)
  where
    sum : (n : ℕ) → 4 + n ≡ n + 4
    sum n = omega arith

pub body_of-framed : (body : List ℕ) → drop 4 (framed body) ≡ body
body_of-framed body = drop_at (to_be_bytes w32 (length body + 4)) body 4 refl

-- a whole unit is not rejected
whole_is_not_refused : (expected : Expected) (limit : ℕ) (come : List ℕ) → IsWhole expected limit come
    → ¬ IsRefused expected limit come
whole_is_not_refused Header limit come whole refused = refused
whole_is_not_refused (Frame turn) limit come whole refused = refused.1 whole.0

-- a side that wants a unit of which nothing has come
abbrev pub awaiting : {S : Type 0} → Expected → ℕ → S → Side S
awaiting expected limit state = record { progress = InProgress; expected = expected; limit = limit; held = []; state = state }

-- the side after an answer
abbrev pub behind_answer : {S : Type 0} → SideOutput → ℕ → S → Side S
behind_answer answer limit state =
    record { progress = answer.progress; expected = answer.expected; limit = limit; held = []; state = state }

module _ {S : Type 0} (Answers : Expected → S → List ℕ → List ℕ → SideOutput → S → Type 0) where
  -- it answers the unit, and goes on with the bytes after it
  pub record AnswersUnit (expected : Expected) (limit : ℕ) (state : S) (unit more sent : List ℕ) (last : Side S) : Type 0 where
    pub nonces : List (List ℕ)
    pub nonce : List ℕ
    pub answer : SideOutput
    pub next : S
    pub behind : List ℕ
    pub answers : Answers expected state nonce unit answer next
    pub goes_on : Negotiates Answers (behind_answer answer limit next) nonces more behind last
    pub all : sent ≡ answer.sent ++ behind

  pub one_unit : (expected : Expected) (limit : ℕ) (state : S) (nonces : List (List ℕ)) (unit more sent : List ℕ) (last : Side S)
      → unit_size expected (unit ++ more) ≡ length unit → IsWhole expected limit (unit ++ more)
      → Negotiates Answers (awaiting expected limit state) nonces (unit ++ more) sent last
      → AnswersUnit expected limit state unit more sent last
  one_unit expected limit state [] unit more sent last size whole (nothing, inl stops) =
      absurd (whole_is_no_part expected limit (unit ++ more) whole stops.1)
  one_unit expected limit state [] unit more sent last size whole (nothing, inr stops) = absurd (stops.0 refl)
  one_unit expected limit state (nonce ∷ nonces) unit more sent last size whole
      (taken, first, next, behind, wants, no_part, receives, rest, all) =
      go (unit_of_call Answers (awaiting expected limit state) next (unit ++ more) nonce first taken refl no_part receives)
    where
      go : (n : ℕ) × EndsUnit Answers (awaiting expected limit state) (unit ++ more) nonce n taken first next
          → AnswersUnit expected limit state unit more sent last
      go (n, inl refused) = absurd (whole_is_not_refused expected limit (unit ++ more) whole refused.0)
      go (n, inr (answer, moved, is, same, answers, ends)) =
          let long : length unit ≡ n = sym size ∙ sym same in
          let count : taken ≡ n - 0 = ends.0 in
          let left : drop taken (unit ++ more) ≡ more = drop_at unit more taken (omega (arith, long, count)) in
          record {
            nonces = nonces;
            nonce = nonce;
            answer = answer;
            next = moved;
            behind = behind;
            answers = subst (λ (l : List ℕ). Answers expected state nonce l answer moved) (take_at unit more n long) answers;
            goes_on = subst (λ (l : List ℕ). Negotiates Answers (behind_answer answer limit moved) nonces l behind last)
                left (subst (λ (s : Side S). Negotiates Answers s nonces (drop taken (unit ++ more)) behind last)
                ends.2 rest);
            all = all ∙ ap (λ l. l ++ behind) ends.1;
          }

  -- a size that is not allowed closes
  refused_closes : (turn : FrameKind) (limit : ℕ) (state : S) (nonces : List (List ℕ)) (come sent : List ℕ) (last : Side S)
      → IsRefused (Frame turn) limit come → Negotiates Answers (awaiting (Frame turn) limit state) nonces come sent last
      → last.progress ≡ Failed FrameSize
  refused_closes turn limit state [] come sent last refused (nothing, inl stops) =
      absurd (refused_is_no_part (Frame turn) limit come refused stops.1)
  refused_closes turn limit state [] come sent last refused (nothing, inr stops) = absurd (stops.0 refl)
  refused_closes turn limit state (nonce ∷ nonces) come sent last refused
      (taken, first, next, behind, wants, no_part, receives, rest, all) =
      go (unit_of_call Answers (awaiting (Frame turn) limit state) next come nonce first taken refl no_part receives)
    where
      go : (n : ℕ) × EndsUnit Answers (awaiting (Frame turn) limit state) come nonce n taken first next
          → last.progress ≡ Failed FrameSize
      go (n, inl ends) =
          let closed : next.progress ≡ Failed FrameSize = ap (λ (s : Side S). s.progress) ends.2.2 in
          ap (λ (s : Side S). s.progress)
          (ended_stays Answers next last nonces (drop taken come) behind next.progress refl
          (λ wanting. apart (sym closed ∙ wanting)) rest) ∙ closed
        where
          apart : Failed FrameSize ≢ InProgress
          apart same = cc
      go (n, inr whole) = absurd (whole_is_not_refused (Frame turn) limit come whole.2 refused)

  -- a frame is answered, unless it is rejected for its size
  pub one_frame : (turn : FrameKind) (limit : ℕ) (state : S) (nonces : List (List ℕ)) (body more sent : List ℕ)
      (last : Side S) → length body + 4 ≤ 512 → last.progress ≢ Failed FrameSize
      → Negotiates Answers (awaiting (Frame turn) limit state) nonces (framed body ++ more) sent last
      → AnswersUnit (Frame turn) limit state (framed body) more sent last
  one_frame turn limit state nonces body more sent last small passes made =
      go (cases_lt (length body + 4) 8) (cases_lt limit (length body + 4))
    where
      size : size_of (framed body ++ more) ≡ length body + 4
      size = size_of-framed body more (omega (arith, small))

      count : length (framed body ++ more) ≡ length body + 4 + length more
      count = length-append (framed body) more ∙ ap (λ n. n + length more) (length-framed body)

      refuses : ¬ Fits limit (length body + 4) → AnswersUnit (Frame turn) limit state (framed body) more sent last
      refuses none = absurd (passes (refused_closes turn limit state nonces (framed body ++ more) sent last (
        omega (arith, count),
        λ (fits : Fits limit (size_of (framed body ++ more))).
            none (subst (λ (n : ℕ). Fits limit n) size fits),
      ) made))

      go : (length body + 4 < 8) ⊎ (8 ≤ length body + 4) → (limit < length body + 4) ⊎ (length body + 4 ≤ limit)
          → AnswersUnit (Frame turn) limit state (framed body) more sent last
      go (inl few) most = refuses (λ fits. omega (arith, few, fits.0))
      go (inr least) (inl many) = refuses (λ fits. omega (arith, many, fits.1))
      go (inr least) (inr most) = one_unit (Frame turn) limit state nonces (framed body) more sent last
          (size ∙ sym (length-framed body)) (
            subst (λ (n : ℕ). Fits limit n) (sym size) (least, most),
            omega (arith, size, count),
          ) made
