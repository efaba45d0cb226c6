use Rattle.std.proofs.Common.{◌∙◌, arith}
use Rattle.fe2o3_sasl_negotiation.proofs.lemmas.FramingLemmas.{held_before, frame_refused, frame_part, frame_whole}
use Rattle.fe2o3_sasl_negotiation.proofs.framing.take_frame.Goals as goal

pub returns-then-size-lt8-clause-ok : goal.returns-then-size-lt8-clause-ok
returns-then-size-lt8-clause-ok c =
    frame_refused c.args.held.now.items c.take_size.new.held.items c.args.bytes.now c.in_ok-taken.taken c.args.limit
    c.in-Some.size c.requires c.in_ok-taken.ensures.rest c.in_ok-taken.ensures.no_more
    (rw c.deref.ensures.value at c.in-Some.ensures.0) (rw c.deref.ensures.value at c.in-Some.ensures.1)
    c.then-size-lt8.either

pub returns-in-Err-clause-err : goal.returns-in-Err-clause-err
returns-in-Err-clause-err c =
    let old = c.args.held.now in
    let l = c.in_ok-taken.ensures.len in
    let few = old.ok.0 in
    rw (c.truncate.ensures.items, c.in-Err.ensures.err)
    (held_before old.items c.take_size.new.held.items c.args.bytes.now _ c.len-had.result
    c.in_ok-taken.ensures.rest (c.len-had.ensures ∙ old.ok.0) (omega arith))

pub returns-then-len-size-clause-ok : goal.returns-then-len-size-clause-ok
returns-then-len-size-clause-ok c =
    let all = c.keep.new.held.ok.0 in
    frame_part c.args.held.now.items c.take_size.new.held.items c.keep.new.held.items c.args.bytes.now
    c.in_ok-taken.taken c.args.limit c.in-Some.size c.in_ok-taken.ensures.rest
    (rw c.deref.ensures.value at c.in-Some.ensures.0) (rw c.deref.ensures.value at c.in-Some.ensures.1) (omega arith)
    (omega arith) c.in_default-keep.ensures.ok (omega arith)

pub returns-else-len-size-clause-ok : goal.returns-else-len-size-clause-ok
returns-else-len-size-clause-ok c =
    let all = c.keep.new.held.ok.0 in
    frame_whole c.args.held.now.items c.take_size.new.held.items c.keep.new.held.items c.args.bytes.now
    c.in_ok-taken.taken c.args.limit c.in-Some.size c.in_ok-taken.ensures.rest
    (rw c.deref.ensures.value at c.in-Some.ensures.0) (rw c.deref.ensures.value at c.in-Some.ensures.1) (omega arith)
    (omega arith) c.in_default-keep.ensures.ok (omega arith)
