use Rattle.std.proofs.Common.{rules, List, ℕ}
use Rattle.std.proofs.lemmas.Fn.{filter_same}
use Rattle.std.specs.Prelude.{not}
use Rattle.fe2o3_sasl_core.specs.AnyMechanism.{has_name}
use Rattle.fe2o3_sasl_core.proofs.any_mechanism.AnyMechanismSaslAcceptor.mechanisms.Goals as goal

pub returns : goal.returns
returns g c =
    let names = g.A.SaslAcceptor.names (g.A.SaslAcceptor.state c.args.self.now.first) in
    let left = filter_same _ (λ (name : List ℕ). not (has_name names name)) _ (λ x b f' k. search rules) _ _
    c.retain.ensures.filtered in
    search rules
