use Rattle.std.proofs.Common.{rules, ◌≡◌, ℕ, List, cond, bytes_eq, true, false, ap, ◌∙◌}
use Rattle.std.proofs.lemmas.Map.Text.{btree_map_updates_text}
use Rattle.std.specs.Arc.{arc_value}
use Rattle.std.specs.BTreeMap.{get_by_text}
use Rattle.std.specs.Prelude.{Some, is_some, string_bytes}
use Rattle.fe2o3_scram.proofs.lemmas.providers.ByNameLemmas.{by_name-again, by_name-first}
use Rattle.fe2o3_scram.proofs.credentials.users.Users.add.Goals as goal

pub invariant_of-self-then-contains_key : goal.invariant_of-self-then-contains_key
invariant_of-self-then-contains_key c =
    let map = c.self.inside.by_name in
    let has : is_some (get_by_text map (string_bytes c.args.username)) ≡ true = search rules in
    rw c.in_ok-push.ensures.items (by_name-again arc_value c.self.inside.scram_version map
    c.self.inside.in_order.items (string_bytes c.args.username, c.args.kept.value.stored) c.self.invariant has)

pub invariant_of-self-in-Ok : goal.invariant_of-self-in-Ok
invariant_of-self-in-Ok c =
    let map = c.self.inside.by_name in
    let version = c.self.inside.scram_version in
    let kept = c.args.kept.value in
    let has : is_some (get_by_text map (string_bytes c.args.username)) ≡ false = search rules in
    let shared : arc_value c.in_ok-shared.shared ≡ kept = search rules in
    let same : kept.version ≡ version = search rules in
    let name : string_bytes c.in_ok-name.name ≡ string_bytes c.args.username = search rules in
    rw c.in_ok-push-2.ensures.items (by_name-first arc_value version map c.insert.new.self
    c.self.inside.in_order.items (string_bytes c.args.username, kept.stored) c.in_ok-shared.shared c.self.invariant has
    (shared ∙ (λ i. record { version = same i; stored = kept.stored }))
    (λ other. btree_map_updates_text (string_bytes c.in_ok-name.name) map c.insert.new.self
    (Some c.in_ok-shared.shared) c.in-Ok.ensures.updates other
    ∙ ap (λ (key : List ℕ). cond (bytes_eq key other) (Some c.in_ok-shared.shared) (get_by_text map other)) name))
