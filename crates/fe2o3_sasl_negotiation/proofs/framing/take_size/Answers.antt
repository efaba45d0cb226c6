use Rattle.std.proofs.Common.{◌-◌, length, ap, arith}
use Rattle.fe2o3_sasl_negotiation.proofs.lemmas.FramingLemmas.{kept_and_left}
use Rattle.fe2o3_sasl_negotiation.proofs.framing.take_size.Goals as goal

pub returns-clause-rest : goal.returns-clause-rest
returns-clause-rest c =
    let old = c.args.held.now in
    let kept = c.keep.new.held in
    let few = old.ok.0 in
    let more = kept.ok.0 in
    let same = ap length c.in_ok-keep.ensures.ok in
    rw (c.in_ok-keep.ensures.ok)
    (kept_and_left old.items c.args.bytes.now 4 (c.len.result - c.len-had.result) (omega arith) (omega arith))
