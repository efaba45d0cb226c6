use Rattle.std.proofs.Common.{arith}
use Rattle.std.specs.BTreeMap.Entry.{map_with_value}
use Rattle.fe2o3_sasl.proofs.lemmas.audit.IndexLemmas.{put_row}
use Rattle.fe2o3_sasl.proofs.audit.matching.put.Goals as goal

pub returns : goal.returns
returns c = λ other.
    put_row _ c.args.index.now (map_with_value c.in_ok-index.field-0 c.push.new.self) c.args.bytes.now other _
    c.or_default.result.now c.push.new.self c.args.server (c.in_ok-index.ensures.update.0 c.push.new.self)
    c.in_ok-index.ensures.value c.or_default.ensures.value c.in_ok-push.ensures.items (grind arith)
