use Rattle.std.specs.Prelude.{string_bytes}
use Rattle.sasl_c.proofs.ServerUserLemmas.{bytes_name, names_no_user}
use Rattle.sasl_c.proofs.server_user.compute_claimed_user.Goals as goal

pub returns-in-Ok-Some-body_user-clause-ok : goal.returns-in-Ok-Some-body_user-clause-ok
returns-in-Ok-Some-body_user-clause-ok c =
    let done = rw c.in-Ok-Some.field-0-is at c.in-Ok-Some.ensures.body in
    let names = rw c.deref.ensures.value at (rw c.in-Ok-Some-body_user.field-0-is at c.in-Ok-Some-body_user.ensures.ok)
    in
    bytes_name c.args.server.now c.in_ok-kept.kept c.args.bytes.now done.1 c.in-Ok-Some.body.items
    (string_bytes c.in-Ok-Some-body_user.name) c.in-Frame.turn done.0 c.in_ok-kept.ensures.kept
    c.in_ok-kept.ensures.wanting.1 c.in_ok-kept.ensures.extended c.in-Frame.is done.2 done.3 names

pub returns-in-Ok-None-body_user-clause-err : goal.returns-in-Ok-None-body_user-clause-err
returns-in-Ok-None-body_user-clause-err c = λ _.
    let done = rw c.in-Ok-Some.field-0-is at c.in-Ok-Some.ensures.body in
    let mock = rw c.deref.ensures.value at (rw c.in-Ok-None-body_user.field-0-is at c.in-Ok-None-body_user.ensures.ok)
    in
    names_no_user c.args.server.now c.in_ok-kept.kept c.args.bytes.now done.1 c.in-Ok-Some.body.items c.in-Frame.turn
    done.0 c.in_ok-kept.ensures.kept c.in_ok-kept.ensures.wanting.0 c.in_ok-kept.ensures.wanting.1
    c.in_ok-kept.ensures.extended c.in-Frame.is done.2 done.3 mock
