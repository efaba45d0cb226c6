use Rattle.std.proofs.Common.{rules, ◌≡◌, ◌++◌, ℕ, List, length, take, drop, cond, bytes_eq, true, arith, ap, ◌∙◌}
use Rattle.std.proofs.Math.Seq.{take-append_seam}
use Rattle.std.proofs.lemmas.Map.Text.{btree_map_updates_text}
use Rattle.std.specs.Arc.{arc_value}
use Rattle.std.specs.BTreeMap.{get_by_text}
use Rattle.std.specs.Prelude.{Some, is_some, string_bytes}
use Rattle.fe2o3_scram.specs.Credentials.{Records, record_at, records_with}
use Rattle.fe2o3_scram.proofs.lemmas.providers.ByNameLemmas.{by_name-with}
use Rattle.fe2o3_scram.proofs.credentials.users.Users.replace.Goals as goal

pub invariant_of-self-2 : goal.invariant_of-self-2
invariant_of-self-2 c =
    let map = c.self.inside.by_name in
    let version = c.self.inside.scram_version in
    let users = c.self.inside.in_order.items in
    let kept = c.in_ok-kept.kept.value in
    let user = c.args.username.now in
    let has : is_some (record_at users user) ≡ true = search rules in
    let shared : arc_value c.in_ok-shared.shared ≡ kept = search rules in
    let same : kept.version ≡ version = search rules in
    let name : string_bytes c.in_ok-name.name ≡ user = search rules in
    let more = c.put_first.new.users in
    let whole : c.self.inside.in_order.len ≡ length more =
    omega (arith, c.put_first.auto.users, c.deref_mut.ensures.len) in
    let changed : take c.self.inside.in_order.len (more ++ drop (length more) users)
    ≡ records_with users user kept.stored =
    ap (λ (n : ℕ). take n (more ++ drop (length more) users)) whole ∙ take-append_seam more (drop (length more) users)
    ∙ c.put_first.ensures ∙ ap (λ (users : Records). records_with users user kept.stored) c.deref_mut.ensures.value in
    rw changed (by_name-with arc_value version map c.insert.new.self users user kept.stored c.in_ok-shared.shared
    c.self.invariant has (shared ∙ (λ i. record { version = same i; stored = kept.stored }))
    (λ other. btree_map_updates_text (string_bytes c.in_ok-name.name) map c.insert.new.self
    (Some c.in_ok-shared.shared) c.in_ok-insert.ensures.updates other
    ∙ ap (λ (key : List ℕ). cond (bytes_eq key other) (Some c.in_ok-shared.shared) (get_by_text map other)) name))
