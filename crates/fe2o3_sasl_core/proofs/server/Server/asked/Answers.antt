use Rattle.std.proofs.Common.{◌∙◌, sym}
use Rattle.fe2o3_sasl_core.specs.Servers.{settings_in}
use Rattle.fe2o3_sasl_core.proofs.lemmas.machines.MechanismLemmas.{asked_by_no_name, asked_not_offered}
use Rattle.fe2o3_sasl_core.proofs.server.Server.asked.Goals as goal

pub returns-in_err-mechanism : goal.returns-in_err-mechanism
returns-in_err-mechanism c = c.from_residual.ensures
    ∙ asked_by_no_name (settings_in c.args.self.now) c.args.name.now c.in_err-mechanism.ensures

pub returns-else-offers : goal.returns-else-offers
returns-else-offers c = asked_not_offered (settings_in c.args.self.now) c.args.name.now c.in_ok-mechanism.mechanism
    c.in_ok-mechanism.ensures (sym c.offers.ensures ∙ c.if-offers.false)
