use Rattle.std.proofs.Common.{◌≡◌, ◌+◌, ◌<◌, ℕ, List, length, get_or, set, take, true, false, arith, sym, ◌∙◌, ap}
use Rattle.std.proofs.lemmas.List.{set-get_or, take_all}
use Rattle.std.specs.Cmp.Lexicographic.{pointwise}
use Rattle.std.specs.Prelude.{is_some, nat_eq}
use Rattle.fe2o3_scram.specs.Credentials.{Record, Records, record_at, records_with}
use Rattle.fe2o3_scram.proofs.lemmas.providers.ByNameLemmas.{mock-more, with-at, with_mock}
use Rattle.fe2o3_scram.proofs.credentials.users.put_first.Goals as goal

pub returns-then-is_named : goal.returns-then-is_named
returns-then-is_named c =
    let users = c.loop-user.users in
    let k = c.loop-user.user-index in
    let name = c.args.username.now in
    let stored = c.args.kept.value.stored in
    let below : k < length users = omega arith in
    let other = c.user-item.result in
    let here : pointwise nat_eq (get_or users k other).0 name ≡ true =
    sym c.is_named.ensures ∙ c.if-is_named.true in
    ap (λ (user : List ℕ × Record). set users k (user.0, stored)) c.user.view_is
    ∙ with-at users name stored k other c.loop-user.invariant.mock below here
    ∙ ap (λ (users : Records). records_with users name stored) c.loop-user.invariant.same

pub loop-user-preserved : goal.loop-user-preserved
loop-user-preserved c =
    let users = c.loop-user.users in
    let k = c.loop-user.user-index in
    let name = c.args.username.now in
    let other = c.user-item.result in
    let below : k < length users = omega arith in
    let here : pointwise nat_eq (get_or users k other).0 name ≡ false =
    sym c.is_named.ensures ∙ c.if-is_named.false in
    let same : set users k (get_or users k other) ≡ users = set-get_or users k other in record {
      same = same ∙ c.loop-user.invariant.same;
      mock =
          ap (λ (users : Records). is_some (record_at (take (k + 1) users) name)) same
          ∙ mock-more users name k other below c.loop-user.invariant.mock here;
    }

pub returns : goal.returns
returns c =
    let users = c.loop-user.users in
    let name = c.args.username.now in
    let stored = c.args.kept.value.stored in
    let whole : take c.loop-user.user-index users ≡ users = take_all c.loop-user.user-index users (omega arith) in
    let mock : is_some (record_at users name) ≡ false =
    ap (λ (users : Records). is_some (record_at users name)) (sym whole) ∙ c.loop-user.invariant.mock in
    sym (with_mock users name stored mock)
    ∙ ap (λ (users : Records). records_with users name stored) c.loop-user.invariant.same
