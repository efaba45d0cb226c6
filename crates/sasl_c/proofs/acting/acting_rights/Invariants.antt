use Rattle.std.proofs.Common.{◌≡◌}
use Rattle.std.specs.Prelude.{map}
use Rattle.sasl_c.proofs.acting.acting_rights.Given as goal

abbrev pub invariant-loop-identity : goal.invariant-loop-identity
invariant-loop-identity l = l.rights ≡ map (λ identity. (l.user, identity.now)) l.yielded
