use Rattle.std.proofs.Common.{arith, drop, inl, refl, sym, ◌≡◌}
use Rattle.std.specs.Prelude.{Option, Some}
use Rattle.std.proofs.lemmas.List.{drop_more}
use Rattle.fe2o3_scram.specs.Credentials.{Store, VersionedRecord}
use Rattle.sasl_c.specs.Plain.{FirstShown, store_of}
use Rattle.sasl_c.specs.Server.{one_user}
use Rattle.sasl_c.proofs.StatusLemmas.{carried, ok_so}
use Rattle.sasl_c.proofs.plain_verify.store_for.Goals as goal

pub returns-in-Ok-clause-ok : goal.returns-in-Ok-clause-ok
returns-in-Ok-clause-ok c = let records = c.args.records.now in let k = c.loop-kept.kept-index in
    let shown = c.in-Ok.kept in
    ok_so c.store_with.result (λ (store : Store). store ≡ one_user c.args.username.now shown)
    (λ (store : Store). (found : Option VersionedRecord) × FirstShown records found
    × (store ≡ store_of c.args.username.now found))
    (λ store same. (
      Some shown,
      c.loop-kept.invariant (Some shown) (carried (λ left. FirstShown left (Some shown)) _ (drop k records)
          (sym (drop_more records k _ (omega arith))) (inl (shown, c.in-Ok.ensures.ok, refl))),
      same,
    )) c.store_with.ensures.ok
