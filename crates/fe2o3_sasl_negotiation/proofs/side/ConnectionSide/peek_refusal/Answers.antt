-- The additional data of the outcome that bytes complete.
use Rattle.std.proofs.Common.{refl, inr}
use Rattle.fe2o3_sasl_negotiation.proofs.side.ConnectionSide.peek_refusal.Goals as goal

pub returns-in-Ok-None-clause-refusal : goal.returns-in-Ok-None-clause-refusal
returns-in-Ok-None-clause-refusal g c = inr (
  rw (c.in-Ok-None.field-0-is, c.deref.ensures.value)
      at c.in-Ok-None.ensures.body,
  refl,
)
