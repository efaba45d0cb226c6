use Rattle.std.proofs.Common.{rules, ap, ◌≡◌, ℕ, List}
use Rattle.std.proofs.lemmas.Fn.{filter_same}
use Rattle.std.proofs.lemmas.Map.Text.{btree_map_updates_text}
use Rattle.std.specs.Arc.{arc_value}
use Rattle.std.specs.Cmp.Lexicographic.{pointwise}
use Rattle.std.specs.Prelude.{None, nat_eq, not}
use Rattle.fe2o3_scram.specs.Credentials.{Store, Record, records_without}
use Rattle.fe2o3_scram.proofs.lemmas.providers.ByNameLemmas.{by_name-without}
use Rattle.fe2o3_scram.proofs.credentials.users.Users.remove.Goals as goal

-- the users who are left
left : (c : goal.Joined-remove)
    → c.retain.new.self.items ≡ records_without c.self.inside.in_order.items c.args.username.now
left c = filter_same _ (λ (user : List ℕ × Record). not (pointwise nat_eq user.0 c.args.username.now)) _
    (λ user stays after called. search rules) _ _ c.retain.ensures.filtered

pub invariant_of-self : goal.invariant_of-self
invariant_of-self c =
    rw (left c) (by_name-without arc_value c.self.inside.scram_version c.self.inside.by_name c.remove.new.self
    c.self.inside.in_order.items c.args.username.now c.self.invariant
    (λ name. btree_map_updates_text c.args.username.now c.self.inside.by_name c.remove.new.self None
    c.remove.ensures.updates name))

pub returns : goal.returns
returns c =
    rw (left c) (ap (λ (store : Store). record {
      version = store.version;
      records = records_without store.records c.args.username.now;
    }) c.self.view_is)
