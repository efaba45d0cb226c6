-- What calls cost in sum of which some run out of memory.
use Rattle.std.proofs.Common.{◌≡◌, ◌⊎◌, ℕ, ◌+◌, ◌*◌, ◌≤◌, List, [], ◌∷◌, take, drop, ap, ◌∙◌, inl, inr, arith}
use Rattle.std.proofs.Math.Nat.{suc-mul}
use Rattle.fe2o3_sasl_negotiation.specs.declared.progress.Expected.{Expected}
use Rattle.fe2o3_sasl_negotiation.specs.Laws.{Call}
use Rattle.fe2o3_sasl_negotiation.specs.Negotiations.{Side, SideOutput}
use Rattle.fe2o3_sasl_negotiation.specs.Retries.{RetriedCalls}
use Rattle.fe2o3_sasl_negotiation.proofs.lemmas.CostLemmas.{OpenSteps, DoneSteps, PaidSteps}

module _ {S : Type 0} (Answers : Expected → S → List ℕ → List ℕ → SideOutput → S → Type 0)
    (Costs : Side S → List ℕ → List ℕ → ℕ → ℕ → Type 0) (most : ℕ) (Open Done : Side S → Type 0)
    (open_steps : OpenSteps Answers Costs most Open Done) (done_steps : DoneSteps Answers Costs most Open Done)
    (open_tries : (side : Side S) (bytes nonce : List ℕ) (before after : ℕ) → Open side
    → Costs side bytes nonce before after → (before ≤ after) × (after ≤ before + most))
    (done_tries : (side : Side S) (bytes nonce : List ℕ) (before after : ℕ) → Done side
    → Costs side bytes nonce before after → after ≡ before) where
  done_retried : (calls : List Call) (side : Side S) (stream : List ℕ) (failed before after : ℕ) → Done side
      → RetriedCalls Answers Costs side calls stream failed before after → after ≡ before
  done_retried [] side stream failed before after done made = made.1
  done_retried (call ∷ calls) side stream failed before after done
      (between, costs, inl (fewer, is, others)) =
      done_retried calls side stream fewer between after done others
      ∙ done_tries side (take call.handed stream) call.nonce before between done costs
  done_retried (call ∷ calls) side stream failed before after done
      (between, costs, inr (taken, sent, next, receives, others)) =
      let step = done_steps side next (take call.handed stream) call.nonce sent taken before between done receives costs
      in
      done_retried calls next (drop taken stream) failed between after step.1 others ∙ step.0

  pub open_retried : (calls : List Call) (side : Side S) (stream : List ℕ) (failed before after : ℕ) → Open side
      → RetriedCalls Answers Costs side calls stream failed before after
      → (before ≤ after) × (after ≤ before + (failed * most + most))
  open_retried [] side stream failed before after early (none, same) =
      (omega (arith, same), more (failed * most) same)
    where
      more : (n : ℕ) → after ≡ before → after ≤ before + (n + most)
      more n same = omega (arith, same)
  open_retried (call ∷ calls) side stream failed before after early
      (between, costs, inl (fewer, is, others)) =
      go (fewer * most) (failed * most) (ap (λ n. n * most) is ∙ suc-mul fewer most)
      (open_tries side (take call.handed stream) call.nonce before between early costs)
      (open_retried calls side stream fewer between after early others)
    where
      go : (few all : ℕ) → all ≡ few + most → (before ≤ between) × (between ≤ before + most)
          → (between ≤ after) × (after ≤ between + (few + most)) → (before ≤ after) × (after ≤ before + (all + most))
      go few all sum (least, bound) (rest, total) = (omega (arith, least, rest), omega (arith, sum, bound, total))
  open_retried (call ∷ calls) side stream failed before after early
      (between, costs, inr (taken, sent, next, receives, others)) =
      go (failed * most)
      (open_steps side next (take call.handed stream) call.nonce sent taken before between early receives costs)
      (λ still. open_retried calls next (drop taken stream) failed between after still others)
    where
      go : (all : ℕ) → ((between ≡ before) × Open next) ⊎ ((before ≤ between) × (between ≤ before + most) × Done next)
          → (Open next → (between ≤ after) × (after ≤ between + (all + most)))
          → (before ≤ after) × (after ≤ before + (all + most))
      go all (inl (same, still)) rest =
          let (least, bound) = rest still in (omega (arith, same, least), omega (arith, same, bound))
      go all (inr (least, bound, done)) rest =
          let same : after ≡ between = done_retried calls next (drop taken stream) failed between after done others in
          (omega (arith, least, same), omega (arith, bound, same))

module _ {S : Type 0} (Answers : Expected → S → List ℕ → List ℕ → SideOutput → S → Type 0)
    (Costs : Side S → List ℕ → List ℕ → ℕ → ℕ → Type 0) (most : ℕ) (MayCost : Side S → ℕ → Type 0)
    (steps : PaidSteps Answers Costs MayCost)
    (tries : (side : Side S) (bytes nonce : List ℕ) (before after may : ℕ) → MayCost side may
    → Costs side bytes nonce before after → (before ≤ after) × (after ≤ before + most)) where
  pub paid_retried : (calls : List Call) (side : Side S) (stream : List ℕ) (failed before after may : ℕ) → MayCost side may
      → RetriedCalls Answers Costs side calls stream failed before after
      → (before ≤ after) × (after ≤ before + (failed * most + may))
  paid_retried [] side stream failed before after may costs_so (none, same) =
      (omega (arith, same), more (failed * most) same)
    where
      more : (n : ℕ) → after ≡ before → after ≤ before + (n + may)
      more n same = omega (arith, same)
  paid_retried (call ∷ calls) side stream failed before after may costs_so
      (between, costs, inl (fewer, is, others)) =
      go (fewer * most) (failed * most) (ap (λ n. n * most) is ∙ suc-mul fewer most)
      (tries side (take call.handed stream) call.nonce before between may costs_so costs)
      (paid_retried calls side stream fewer between after may costs_so others)
    where
      go : (few all : ℕ) → all ≡ few + most → (before ≤ between) × (between ≤ before + most)
          → (between ≤ after) × (after ≤ between + (few + may)) → (before ≤ after) × (after ≤ before + (all + may))
      go few all sum (least, bound) (rest, total) = (omega (arith, least, rest), omega (arith, sum, bound, total))
  paid_retried (call ∷ calls) side stream failed before after may costs_so
      (between, costs, inr (taken, sent, next, receives, others)) =
      let (less, still, least, bound) = steps side next (take call.handed stream) call.nonce sent taken before between may
      costs_so receives costs in
      go (failed * most) less least bound
      (paid_retried calls next (drop taken stream) failed between after less still others)
    where
      go : (all less : ℕ) → before ≤ between → between + less ≤ before + may
          → (between ≤ after) × (after ≤ between + (all + less)) → (before ≤ after) × (after ≤ before + (all + may))
      go all less least bound (rest, total) = (omega (arith, least, rest), omega (arith, bound, total))
