use Rattle.std.proofs.Common.{◌∙◌}
use Rattle.sasl_c.proofs.ExchangeLemmas.{not_named, not_utf8}
use Rattle.sasl_c.proofs.server.ScramServer.asked_init.Goals as goal

pub returns-in_default : goal.returns-in_default
returns-in_default c = not_utf8 c.args.self.now c.in_ok-head.field-0.now c.in_ok-head.ensures.0 c.in_default.ensures.cases.0

pub returns-in_err-mechanism : goal.returns-in_err-mechanism
returns-in_err-mechanism c = rw c.from_residual-in_err-mechanism.ensures (not_named c.args.self.now c.in-Ok.name.now
    (c.in-Ok.ensures.cases.0 ∙ c.in_ok-head.ensures.0) c.in_err-mechanism.ensures)
