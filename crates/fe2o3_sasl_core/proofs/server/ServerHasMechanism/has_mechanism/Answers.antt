use Rattle.std.proofs.Common.{◌∙◌, ap, sym}
use Rattle.std.specs.Prelude.{is_some}
use Rattle.fe2o3_sasl_core.specs.Servers.{settings_in}
use Rattle.fe2o3_sasl_core.proofs.lemmas.machines.NameLemmas.{has_sasl_name}
use Rattle.fe2o3_sasl_core.proofs.server.ServerHasMechanism.has_mechanism.Goals as goal

pub returns : goal.returns
returns c = c.is_some.ensures
    ∙ (ap is_some c.asked.ensures ∙ sym (has_sasl_name (settings_in c.args.self.now) c.args.name.now))
