use Rattle.std.specs.String.{string_bytes}
use Rattle.fe2o3_scram.specs.Credentials.{VersionedRecord}
use Rattle.fe2o3_scram.proofs.lemmas.providers.LookUpLemmas.{btree_map_looked_up}
use Rattle.test_callers.proofs.map_store.record_of.Goals as goal

pub returns : goal.returns
returns c =
    btree_map_looked_up string_bytes (λ (kept : VersionedRecord). kept.stored) c.args.records.now.entries
    c.args.username.now c.get.result c.get.ensures.value
