use Rattle.std.proofs.Common.{sym, subst}
use Rattle.std.specs.Prelude.{T}
use Rattle.fe2o3_scram.proofs.scram_messages.server_first_reading.breaks_count.Goals as goal

pub returns-then-strict : goal.returns-then-strict
returns-then-strict c = (
  λ holds. (subst T (sym c.if-strict.true) tt, c.has_no_plain_count.ensures.0 holds),
  λ both. c.has_no_plain_count.ensures.1 both.1,
)
