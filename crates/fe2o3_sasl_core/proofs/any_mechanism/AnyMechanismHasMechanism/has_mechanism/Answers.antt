use Rattle.std.proofs.Common.{arith}
use Rattle.fe2o3_sasl_core.proofs.lemmas.machines.NameLemmas.{has_name-both}
use Rattle.fe2o3_sasl_core.proofs.any_mechanism.AnyMechanismHasMechanism.has_mechanism.Goals as goal

pub returns-then-has_mechanism : goal.returns-then-has_mechanism
returns-then-has_mechanism g c =
    let names = g.A.SaslAcceptor.names (g.A.SaslAcceptor.state c.args.self.now.first) in
    let others = g.B.SaslAcceptor.names (g.B.SaslAcceptor.state c.args.self.now.second) in
    let here = c.has_mechanism.ensures in
    let is = c.if-has_mechanism.true in
    grind (arith, here, is, has_name-both names others c.args.name.now)

pub returns-else-has_mechanism : goal.returns-else-has_mechanism
returns-else-has_mechanism g c =
    let names = g.A.SaslAcceptor.names (g.A.SaslAcceptor.state c.args.self.now.first) in
    let others = g.B.SaslAcceptor.names (g.B.SaslAcceptor.state c.args.self.now.second) in
    let here = c.has_mechanism.ensures in
    let not = c.if-has_mechanism.false in
    let there = c.has_mechanism-else-has_mechanism.ensures in
    grind (arith, here, not, there, has_name-both names others c.args.name.now)
