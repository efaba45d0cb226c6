-- What calls cost in sum: one of them at most is of a cost, and after it none is.
use Rattle.std.proofs.Common.{◌≡◌, ◌⊎◌, ℕ, ◌+◌, ◌<◌, ◌≤◌, List, [], ◌∷◌, ◌++◌, length, take, drop, refl, ap, ◌∙◌, subst, sym, inl, inr, arith}
use Rattle.fe2o3_sasl_negotiation.specs.declared.progress.Expected.{Expected}
use Rattle.fe2o3_sasl_negotiation.specs.declared.progress.Expected.TheVariants.{Frame}
use Rattle.fe2o3_sasl_negotiation.specs.declared.progress.Progress.{Progress}
use Rattle.fe2o3_sasl_negotiation.specs.declared.progress.Progress.TheVariants.{InProgress, Authenticated, Failed}
use Rattle.fe2o3_sasl_negotiation.specs.declared.progress.FrameKind.{FrameKind}
use Rattle.fe2o3_sasl_negotiation.specs.CostLaws.{MeteredCalls}
use Rattle.fe2o3_sasl_negotiation.specs.Framing.{size_of, unit_size, IsPart, IsRefused, IsWhole}
use Rattle.fe2o3_sasl_negotiation.specs.Laws.{Call}
use Rattle.fe2o3_sasl_negotiation.specs.Negotiations.{Side, SideOutput, Receives, ReceivesAt}

-- a meter grew by no more, or by no less and at most that many
pub none : (before after most : ℕ) → after ≡ before → (before ≤ after) × (after ≤ before + most)
none before after most same = (omega (arith, same), omega (arith, same))

pub same_of : (before after : ℕ) → before ≤ after → after ≤ before + 0 → after ≡ before
same_of before after least most = omega (arith, least, most)

module _ {S : Type 0} (Answers : Expected → S → List ℕ → List ℕ → SideOutput → S → Type 0)
    (Costs : Side S → List ℕ → List ℕ → ℕ → ℕ → Type 0) (most : ℕ) (Open Done : Side S → Type 0) where
  -- a call to an open side costs nothing and leaves it open, or costs what it may and is the last that does
  abbrev pub OpenSteps : Type 0
  OpenSteps = (side next : Side S) (bytes nonce sent : List ℕ) (taken before after : ℕ) → Open side
      → Receives Answers side bytes nonce taken sent next → Costs side bytes nonce before after
      → ((after ≡ before) × Open next) ⊎ ((before ≤ after) × (after ≤ before + most) × Done next)

  -- and one to a side that is done costs nothing
  abbrev pub DoneSteps : Type 0
  DoneSteps = (side next : Side S) (bytes nonce sent : List ℕ) (taken before after : ℕ) → Done side
      → Receives Answers side bytes nonce taken sent next → Costs side bytes nonce before after
      → (after ≡ before) × Done next

  done_calls : DoneSteps → (calls : List Call) (side : Side S) (stream : List ℕ) (before after : ℕ) → Done side
      → MeteredCalls Answers Costs side calls stream before after → after ≡ before
  done_calls steps [] side stream before after done same = same
  done_calls steps (call ∷ calls) side stream before after done (taken, sent, next, between, receives, costs, others) =
      let step = steps side next (take call.handed stream) call.nonce sent taken before between done receives costs in
      let first : between ≡ before = step.0 in
      let rest : after ≡ between =
      done_calls steps calls next (drop taken stream) between after step.1 others in
      omega (arith, first, rest)

  pub open_calls : OpenSteps → DoneSteps → (calls : List Call) (side : Side S) (stream : List ℕ) (before after : ℕ)
      → Open side → MeteredCalls Answers Costs side calls stream before after
      → (before ≤ after) × (after ≤ before + most)
  open_calls steps ends [] side stream before after early same = none before after most same
  open_calls steps ends (call ∷ calls) side stream before after early
      (taken, sent, next, between, receives, costs, others) =
      go (steps side next (take call.handed stream) call.nonce sent taken before between early receives costs)
      (λ still. open_calls steps ends calls next (drop taken stream) between after still others)
    where
      go : ((between ≡ before) × Open next) ⊎ ((before ≤ between) × (between ≤ before + most) × Done next)
          → (Open next → (between ≤ after) × (after ≤ between + most)) → (before ≤ after) × (after ≤ before + most)
      go (inl (same, still)) rest =
          let all = rest still in
          let least = all.0 in
          let bound = all.1 in
          (omega (arith, same, least), omega (arith, same, bound))
      go (inr (least, bound, done)) others_open =
          let rest : after ≡ between = done_calls ends calls next (drop taken stream) between after done others in
          (omega (arith, least, rest), omega (arith, bound, rest))

module _ {S : Type 0} (Answers : Expected → S → List ℕ → List ℕ → SideOutput → S → Type 0)
    (Costs : Side S → List ℕ → List ℕ → ℕ → ℕ → Type 0) (MayCost : Side S → ℕ → Type 0) where
  -- a call to a side that may cost that many takes what it costs from them
  abbrev pub PaidSteps : Type 0
  PaidSteps = (side next : Side S) (bytes nonce sent : List ℕ) (taken before after may : ℕ) → MayCost side may
      → Receives Answers side bytes nonce taken sent next → Costs side bytes nonce before after
      → (less : ℕ) × MayCost next less × (before ≤ after) × (after + less ≤ before + may)

  pub paid_calls : PaidSteps → (calls : List Call) (side : Side S) (stream : List ℕ) (before after may : ℕ)
      → MayCost side may → MeteredCalls Answers Costs side calls stream before after
      → (before ≤ after) × (after ≤ before + may)
  paid_calls steps [] side stream before after may costs_so same = none before after may same
  paid_calls steps (call ∷ calls) side stream before after may costs_so
      (taken, sent, next, between, receives, costs, others) =
      let (less, still, least, bound) = steps side next (take call.handed stream) call.nonce sent taken before between may
      costs_so receives costs in
      let (more, total) = paid_calls steps calls next (drop taken stream) between after less still others in
      (omega (arith, least, more), omega (arith, bound, total))

module _ {S : Type 0} (Answers : Expected → S → List ℕ → List ℕ → SideOutput → S → Type 0) where
  -- a side at its end rests
  pub rests : (progress : Progress) (side next : Side S) (bytes nonce sent : List ℕ) (taken : ℕ)
      → (progress ≡ InProgress → ⊥) → ReceivesAt progress Answers side bytes nonce taken sent next → next ≡ side
  rests InProgress side next bytes nonce sent taken ended holds = absurd (ended refl)
  rests Authenticated side next bytes nonce sent taken ended holds = holds.2
  rests (Failed why) side next bytes nonce sent taken ended holds = holds.2

  -- a call leaves the state, the unit that is expected and the side's progress, or closes, or answers a whole unit
  abbrev pub Left : Side S → List ℕ → List ℕ → Side S → Type 0
  Left side bytes nonce next =
      ((next.progress ≡ side.progress) × (next.expected ≡ side.expected) × (next.state ≡ side.state))
      ⊎ (((next.progress ≡ InProgress → ⊥) × (next.state ≡ side.state))
      ⊎ ((answer : SideOutput) × (unit : List ℕ) × Answers side.expected side.state nonce unit answer next.state
      × (next.progress ≡ answer.progress) × (next.expected ≡ answer.expected)))

  pub leaves : (progress : Progress) (side next : Side S) (bytes nonce sent : List ℕ) (taken : ℕ)
      → ReceivesAt progress Answers side bytes nonce taken sent next
      → Left side bytes nonce next
  leaves InProgress side next bytes nonce sent taken (inl waits) = inl (
    ap (λ (s : Side S). s.progress) waits.1.2,
    ap (λ (s : Side S). s.expected) waits.1.2,
    ap (λ (s : Side S). s.state) waits.1.2,
  )
  leaves InProgress side next bytes nonce sent taken (inr (inl refused)) =
      let closed = ap (λ (s : Side S). s.progress) refused.1.2 in
      inr (inl ((λ wants. let apart = sym closed ∙ wants in absurd (cc)), ap (λ (s : Side S). s.state) refused.1.2))
  leaves InProgress side next bytes nonce sent taken (inr (inr whole)) =
      let state = ap (λ (s : Side S). s.state) whole.4.2 in
      inr (inr (
        whole.0,
        take (unit_size side.expected (side.held ++ bytes)) (side.held ++ bytes),
        subst (λ (s : S). Answers side.expected side.state nonce
            (take (unit_size side.expected (side.held ++ bytes)) (side.held ++ bytes)) whole.0 s) (sym state) whole.3,
        ap (λ (s : Side S). s.progress) whole.4.2,
        ap (λ (s : Side S). s.expected) whole.4.2,
      ))
  leaves Authenticated side next bytes nonce sent taken holds = inl (
    ap (λ (s : Side S). s.progress) holds.2,
    ap (λ (s : Side S). s.expected) holds.2,
    ap (λ (s : Side S). s.state) holds.2,
  )
  leaves (Failed why) side next bytes nonce sent taken holds = inl (
    ap (λ (s : Side S). s.progress) holds.2,
    ap (λ (s : Side S). s.expected) holds.2,
    ap (λ (s : Side S). s.state) holds.2,
  )

  -- less than a whole frame is no whole frame
  no_part : (turn : FrameKind) (limit : ℕ) (come : List ℕ) → IsWhole (Frame turn) limit come
      → IsPart (Frame turn) limit come → ⊥
  no_part turn limit come whole part =
      let long : 8 ≤ size_of come = whole.0.0 in
      let there : size_of come ≤ length come = whole.1 in
      let short : length come < size_of come = (part (omega (arith, long, there))).1 in
      omega (arith, there, short)

  -- a call that completes a frame answers it
  pub answers_whole : (side next : Side S) (turn : FrameKind) (bytes nonce sent : List ℕ) (taken : ℕ)
      → side.progress ≡ InProgress → side.expected ≡ Frame turn → IsWhole (Frame turn) side.limit (side.held ++ bytes)
      → Receives Answers side bytes nonce taken sent next
      → (answer : SideOutput) × Answers (Frame turn) side.state nonce (take (size_of (side.held ++ bytes)) (side.held ++ bytes))
      answer next.state × (next.progress ≡ answer.progress) × (next.expected ≡ answer.expected)
  answers_whole side next turn bytes nonce sent taken wanting expected whole receives =
      go (subst (λ (s : Progress). ReceivesAt s Answers side bytes nonce taken sent next) wanting receives)
    where
      go : ReceivesAt InProgress Answers side bytes nonce taken sent next
          → (answer : SideOutput) × Answers (Frame turn) side.state nonce
          (take (size_of (side.held ++ bytes)) (side.held ++ bytes)) answer next.state
          × (next.progress ≡ answer.progress) × (next.expected ≡ answer.expected)
      go (inl waits) =
          absurd (no_part turn side.limit (side.held ++ bytes) whole
          (subst (λ (d : Expected). IsPart d side.limit (side.held ++ bytes)) expected waits.0))
      go (inr (inl refused)) =
          absurd ((subst (λ (d : Expected). IsRefused d side.limit (side.held ++ bytes)) expected refused.0).1 whole.0)
      go (inr (inr holds)) =
          let state = ap (λ (s : Side S). s.state) holds.4.2 in (
            holds.0,
            subst (λ (s : S). Answers (Frame turn) side.state nonce
                (take (size_of (side.held ++ bytes)) (side.held ++ bytes)) holds.0 s) (sym state)
                (subst (λ (d : Expected). Answers d side.state nonce
                (take (unit_size d (side.held ++ bytes)) (side.held ++ bytes)) holds.0 holds.1) expected holds.3),
            ap (λ (s : Side S). s.progress) holds.4.2,
            ap (λ (s : Side S). s.expected) holds.4.2,
          )
