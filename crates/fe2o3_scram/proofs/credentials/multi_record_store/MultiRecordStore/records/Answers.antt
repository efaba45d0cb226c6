use Rattle.std.proofs.Common.{rules, arith, sym, ◌≡◌, ◌≢◌, [], get_or, subst, true}
use Rattle.std.proofs.lemmas.Result.{err_from_is_err_and}
use Rattle.std.specs.Cmp.Lexicographic.{pointwise}
use Rattle.std.specs.Prelude.{nat_eq}
use Rattle.fe2o3_scram.specs.Mixed.{MultiRecords, records_named}
use Rattle.fe2o3_scram.proofs.lemmas.providers.MixedLemmas.{some_named}
use Rattle.fe2o3_scram.proofs.credentials.multi_record_store.MultiRecordStore.records.Goals as goal

pub returns-in_err-push-clause-memory : goal.returns-in_err-push-clause-memory
returns-in_err-push-clause-memory c =
    let k = c.loop-user.user-index in
    let users : MultiRecords = c.deref-user-items.result.now in
    let name = c.args.username.now in
    let same : c.args.self.now ≡ users = search rules in
    let here : pointwise nat_eq (get_or users k c.user-item.result).0 name ≡ true = search rules in
    let some : records_named c.args.self.now name ≢ [] =
    subst (λ (users : MultiRecords). records_named users name ≢ []) (sym same)
    (some_named users name k c.user-item.result (omega arith) here) in
    let from = err_from_is_err_and c.from_residual.result c.from_residual.ensures.1 in
    rw from.1 some
