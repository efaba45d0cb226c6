use Rattle.std.proofs.Common.{Bool, false, get_or, subst, arith}
use Rattle.std.proofs.lemmas.List.{take_all}
use Rattle.std.proofs.lemmas.Option.{slice_get-get_or}
use Rattle.std.specs.List.{AllByRecursion}
use Rattle.std.specs.Prelude.{MatchBool}
use Rattle.fe2o3_scram.specs.ClientSecret.{secret_of}
use Rattle.fe2o3_scram.specs.declared.hmac.ScramVersion.TheVariants.{Sha1}
use Rattle.fe2o3_sasl_core.specs.ClientPolicy.{CanTake}
use Rattle.fe2o3_sasl_core.specs.declared.mechanism.Mechanism.{Mechanism}
use Rattle.fe2o3_sasl_core.specs.declared.mechanism.Mechanism.TheVariants.{Scram}
use Rattle.fe2o3_sasl_core.proofs.lemmas.machines.PolicyLemmas.{each_more}
use Rattle.fe2o3_sasl_core.proofs.client_policy.first_taken.Goals as goal

pub returns-then-can_take : goal.returns-then-can_take
returns-then-can_take g c user =
    let xs = c.args.mechanisms.now in
    let k = c.loop-mechanism.mechanism-index in
    let can = CanTake c.args.policy user (secret_of c.args.secret.now) (g.O.Offer.names c.args.offer.now)
    (get_or xs k (Scram Sha1 false)) in (
      k,
      slice_get-get_or xs k (Scram Sha1 false) c.loop-mechanism-test.true,
      subst (λ (told : Bool). MatchBool told can (¬ can)) c.if-can_take.true (c.can_take.ensures user),
      c.loop-mechanism.invariant user,
    )

pub loop-mechanism-preserved : goal.loop-mechanism-preserved
loop-mechanism-preserved g c user =
    let xs = c.args.mechanisms.now in
    let k = c.loop-mechanism.mechanism-index in
    let can = CanTake c.args.policy user (secret_of c.args.secret.now) (g.O.Offer.names c.args.offer.now)
    (get_or xs k (Scram Sha1 false)) in
    each_more (λ (other : Mechanism). ¬ CanTake c.args.policy user (secret_of c.args.secret.now)
    (g.O.Offer.names c.args.offer.now) other) xs k (Scram Sha1 false) c.loop-mechanism-test.true (c.loop-mechanism.invariant user)
    (subst (λ (told : Bool). MatchBool told can (¬ can)) c.if-can_take.false (c.can_take.ensures user))

pub returns : goal.returns
returns g c user =
    let xs = c.args.mechanisms.now in
    let k = c.loop-mechanism.mechanism-index in
    subst
    (AllByRecursion
    (λ (other : Mechanism). ¬ CanTake c.args.policy user (secret_of c.args.secret.now) (g.O.Offer.names c.args.offer.now)
    other))
    (take_all k xs (omega arith)) (c.loop-mechanism.invariant user)
