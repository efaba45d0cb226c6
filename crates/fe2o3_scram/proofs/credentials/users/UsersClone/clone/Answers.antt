use Rattle.std.proofs.Common.{◌≡◌}
use Rattle.std.proofs.lemmas.List.Elements.{same_from_all_zip}
use Rattle.std.specs.Arc.{arc_value}
use Rattle.fe2o3_scram.proofs.lemmas.providers.ByNameLemmas.{by_name-copy}
use Rattle.fe2o3_scram.proofs.credentials.users.UsersClone.clone.Goals as goal

pub invariant_of-result : goal.invariant_of-result
invariant_of-result c =
    let items : c.in_ok-clone.field-0.items ≡ c.self.inside.in_order.items =
    same_from_all_zip _ _ _ c.in_ok-clone.ensures.cases.0 (λ user copy same. same) in
    rw items (by_name-copy arc_value c.self.inside.scram_version c.self.inside.by_name c.in_ok-clone-2.field-0
    c.self.inside.in_order.items c.in_ok-clone-2.ensures.cases c.self.invariant)
