use Rattle.std.proofs.Common.{lit<, sym, ap, ◌∙◌, ◌∷◌, [], ◌++◌}
use Rattle.std.proofs.lemmas.Iterator.Consumers.{YieldsList-end}
use Rattle.std.proofs.lemmas.Iterator.Splits.{YieldsList-from_str_split}
use Rattle.fe2o3_scram.specs.ActingRights.{Rights}
use Rattle.sasl_c.proofs.ActingLemmas.{right_more, rights_of, rights_to}
use Rattle.sasl_c.proofs.acting.acting_rights.Goals as goal

pub loop-identity-preserved : goal.loop-identity-preserved
loop-identity-preserved c = c.in_ok-allow.ensures.ok
    ∙ (ap (λ (r : Rights). r ++ ((c.args.user.now, c.in-Some.identity.now) ∷ [])) c.loop-identity.invariant
    ∙ sym (right_more (λ identity. identity.now) c.args.user.now c.in-Some.identity c.loop-identity.yielded))

pub returns-clause-ok : goal.returns-clause-ok
returns-clause-ok c =
    let end = YieldsList-end (YieldsList-from_str_split 0 c.args.identities.now (lit< tt) (cc) (cc) (cc))
    c.loop-identity.yielded _ c.loop-identity.yielded_by _ _ c.in-None.is c.next.ensures.steps in
    c.loop-identity.invariant ∙ (sym (rights_of (λ identity. identity.now) c.args.user.now c.loop-identity.yielded)
    ∙ ap (rights_to c.args.user.now) end.0)
