-- Calls that complete a header or a frame, from the answer to that unit.
use Rattle.std.proofs.Common.{◌≡◌, ◌⊎◌, ℕ, ◌+◌, ◌-◌, ◌<◌, ◌≤◌, List, [], ◌∷◌, ◌++◌, length, take, drop, refl, sym, ap, ◌∙◌, subst, inl, inr, append_assoc, arith, length-append}
use Rattle.std.proofs.Math.Seq.{take-append-add}
use Rattle.std.proofs.lemmas.List.{append-nil, take_at, drop_at, take-append-le, drop-append-le, take-append-drop, length-take-le}
use Rattle.fe2o3_sasl_negotiation.specs.declared.progress.Expected.{Expected}
use Rattle.fe2o3_sasl_negotiation.specs.declared.progress.Expected.TheVariants.{Header, Frame}
use Rattle.fe2o3_sasl_negotiation.specs.declared.progress.Progress.TheVariants.{InProgress, Authenticated}
use Rattle.fe2o3_sasl_negotiation.specs.declared.progress.FrameKind.{FrameKind}
use Rattle.fe2o3_sasl_negotiation.specs.Framing.{sasl_header, framed, size_of, unit_size, Fits, IsPart, IsWhole}
use Rattle.fe2o3_sasl_negotiation.specs.Laws.{Call, Calls}
use Rattle.fe2o3_sasl_negotiation.specs.Negotiations.{Side, SideOutput, Receives, ReceivesAt}
use Rattle.fe2o3_sasl_negotiation.proofs.lemmas.FramingLemmas.{size_of-append}
use Rattle.fe2o3_sasl_negotiation.proofs.lemmas.UnitLemmas.{behind_answer, size_of-framed, length-framed}

-- calls that take n bytes, the last of them with this nonce, and the calls after that one
abbrev pub Finishes : List Call → ℕ → List ℕ → List Call → Type 0
Finishes [] n nonce after = ⊥
Finishes (call ∷ calls) n nonce after =
    ((n ≤ call.handed) × (call.nonce ≡ nonce) × (calls ≡ after))
    ⊎ ((call.handed < n) × Finishes calls (n - call.handed) nonce after)

-- ---- units

-- what the sizes of a unit say
pub record IsUnit (expected : Expected) (limit : ℕ) (unit : List ℕ) : Type 0 where
  pub size : (extra : List ℕ) → unit_size expected (unit ++ extra) ≡ length unit
  pub whole : (extra : List ℕ) → IsWhole expected limit (unit ++ extra)
  pub part : (front back : List ℕ) → front ++ back ≡ unit → 1 ≤ length back → IsPart expected limit front

pub header_is_unit : (limit : ℕ) → IsUnit Header limit sasl_header
header_is_unit limit = record {
  size = λ extra. refl;
  whole = λ extra. omega arith;
  part = λ front back same some. omega (arith, ap length same, length-append front back, some);
}

pub frame_is_unit : (turn : FrameKind) (limit : ℕ) (body : List ℕ) → 512 ≤ limit → 4 ≤ length body → length body + 4 ≤ 512
    → IsUnit (Frame turn) limit (framed body)
frame_is_unit turn limit body wide least small = record {
  size = λ extra. size extra ∙ sym (length-framed body);
  whole = λ extra. (
    subst (λ (n : ℕ). Fits limit n) (sym (size extra)) fits,
    omega (arith, size extra, length-framed body, length-append (framed body) extra),
  );
  part = λ front back same some four.
      let front_size : size_of front ≡ length body + 4 = sym (size_of-append front back four)
      ∙ (ap size_of (same ∙ sym (append-nil (framed body))) ∙ size []) in (
        subst (λ (n : ℕ). Fits limit n) (sym front_size) fits,
        omega (arith, front_size, ap length same, length-append front back, length-framed body, some),
      );
}
  where
    size : (extra : List ℕ) → size_of (framed body ++ extra) ≡ length body + 4
    size extra = size_of-framed body extra (omega (arith, small))

    fits : Fits limit (length body + 4)
    fits = (omega (arith, least), omega (arith, small, wide))

-- ---- calls

module _ {S : Type 0} (Answers : Expected → S → List ℕ → List ℕ → SideOutput → S → Type 0) where
  -- a side that holds the beginning of a unit
  abbrev holding : Expected → ℕ → S → List ℕ → Side S
  holding expected limit state held = record {
    progress = InProgress;
    expected = expected;
    limit = limit;
    held = held;
    state = state;
  }

  module _ (expected : Expected) (limit : ℕ) (state next : S) (unit more nonce sent : List ℕ) (answer : SideOutput)
      (after : List Call) (last : Side S) (is : IsUnit expected limit unit)
      (answers : Answers expected state nonce unit answer next)
      (others : Calls (Receives Answers) (behind_answer answer limit next) after more sent last []) where
    -- a call that takes the rest of the unit
    completes : (held rest : List ℕ) (handed : ℕ) → held ++ rest ≡ unit → length rest ≤ handed
        → Receives Answers (holding expected limit state held) (take handed (rest ++ more)) nonce (length rest) answer.sent
        (behind_answer answer limit next)
    completes held rest handed same enough = subst (λ (l : List ℕ). Receives Answers (holding expected limit state held) l
        nonce (length rest) answer.sent (behind_answer answer limit next)) (sym taken)
        (inr (inr (answer, next, whole, answered, (omega (arith, size, count), refl, refl))))
      where
        extra : List ℕ
        extra = take (handed - length rest) more

        taken : take handed (rest ++ more) ≡ rest ++ extra
        taken = ap (λ (n : ℕ). take n (rest ++ more)) (omega (arith, enough))
            ∙ take-append-add rest more (handed - length rest)

        come : held ++ (rest ++ extra) ≡ unit ++ extra
        come = sym (append_assoc held rest extra) ∙ ap (λ (l : List ℕ). l ++ extra) same

        count : length held + length rest ≡ length unit
        count = sym (length-append held rest) ∙ ap length same

        size : unit_size expected (held ++ (rest ++ extra)) ≡ length unit
        size = ap (λ (l : List ℕ). unit_size expected l) come ∙ is.size extra

        whole : IsWhole expected limit (held ++ (rest ++ extra))
        whole = subst (λ (l : List ℕ). IsWhole expected limit l) (sym come) (is.whole extra)

        answered : Answers expected state nonce
            (take (unit_size expected (held ++ (rest ++ extra))) (held ++ (rest ++ extra))) answer next
        answered = subst (λ (l : List ℕ). Answers expected state nonce l answer next) (sym
            (ap (λ (n : ℕ). take n (held ++ (rest ++ extra))) size
            ∙ (ap (λ (l : List ℕ). take (length unit) l) come ∙ take_at unit extra (length unit) refl))) answers

    pub unit_calls : (calls : List Call) (held rest : List ℕ) → held ++ rest ≡ unit
        → Finishes calls (length rest) nonce after
        → Calls (Receives Answers) (holding expected limit state held) calls (rest ++ more) (answer.sent ++ sent) last []
    unit_calls [] held rest same finishes = absurd finishes
    unit_calls (call ∷ calls) held rest same (inl (enough, with_nonce, then)) = (
      length rest,
      answer.sent,
      behind_answer answer limit next,
      sent,
      subst (λ (n : List ℕ). Receives Answers (holding expected limit state held) (take call.handed (rest ++ more)) n
          (length rest) answer.sent (behind_answer answer limit next)) (sym with_nonce)
          (completes held rest call.handed same enough),
      subst (λ (l : List ℕ). Calls (Receives Answers) (behind_answer answer limit next) calls l sent last [])
          (sym (drop_at rest more (length rest) refl))
          (subst (λ (c : List Call). Calls (Receives Answers) (behind_answer answer limit next) c more sent last []) (sym then)
          others),
      refl,
    )
    unit_calls (call ∷ calls) held rest same (inr (few, finishes)) = (
      call.handed,
      [],
      holding expected limit state (held ++ front),
      answer.sent ++ sent,
      subst (λ (l : List ℕ). Receives Answers (holding expected limit state held) l call.nonce call.handed []
          (holding expected limit state (held ++ front))) (sym (take-append-le call.handed rest more (omega (arith, few))))
          (inl (
            is.part (held ++ front) back joined (omega (arith, few, back_length)),
            (sym front_length, refl, refl),
          )),
      subst (λ (l : List ℕ). Calls (Receives Answers) (holding expected limit state (held ++ front)) calls l
          (answer.sent ++ sent) last []) (sym (drop-append-le call.handed rest more (omega (arith, few))))
          (unit_calls calls (held ++ front) back joined
          (subst (λ (n : ℕ). Finishes calls n nonce after) (sym back_length) finishes)),
      refl,
    )
      where
        front : List ℕ
        front = take call.handed rest

        back : List ℕ
        back = drop call.handed rest

        joined : (held ++ front) ++ back ≡ unit
        joined = append_assoc held front back
            ∙ (ap (λ (l : List ℕ). held ++ l) (take-append-drop call.handed rest) ∙ same)

        front_length : length front ≡ call.handed
        front_length = length-take-le call.handed rest (omega (arith, few))

        back_length : length back ≡ length rest - call.handed
        back_length = omega (
          arith,
          front_length,
          ap length (take-append-drop call.handed rest),
          length-append front back,
          few,
        )

  -- a side that has logged in takes nothing
  pub rests : (calls : List Call) (side : Side S) → side.progress ≡ Authenticated
      → Calls (Receives Answers) side calls [] [] side []
  rests [] side logged_in = (refl, refl, refl)
  rests (call ∷ calls) side logged_in = (
    0,
    [],
    side,
    [],
    rest (take call.handed []),
    rests calls side logged_in,
    refl,
  )
    where
      rest : (bytes : List ℕ) → Receives Answers side bytes call.nonce 0 [] side
      rest bytes = subst (λ progress. ReceivesAt progress Answers side bytes call.nonce 0 [] side) (sym logged_in)
          (refl, refl, refl)
