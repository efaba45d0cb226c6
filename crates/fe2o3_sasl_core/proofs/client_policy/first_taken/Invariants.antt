use Rattle.std.proofs.Common.{ℕ, List, take}
use Rattle.std.specs.List.{AllByRecursion}
use Rattle.fe2o3_scram.specs.ClientSecret.{secret_of}
use Rattle.fe2o3_sasl_core.specs.ClientPolicy.{CanTake}
use Rattle.fe2o3_sasl_core.proofs.client_policy.first_taken.Given as goal

abbrev pub invariant-loop-mechanism : goal.invariant-loop-mechanism
invariant-loop-mechanism g l = (user : List ℕ)
    → AllByRecursion (λ other. ¬ CanTake l.policy user (secret_of l.secret) (g.O.Offer.names l.offer) other)
    (take l.mechanism-index l.mechanisms)
