use Rattle.std.proofs.Common.{arith, ap, length, refl, rules}
use Rattle.sasl_c.proofs.ClientLemmas.{always_waits, answer_has_room, responds}
use Rattle.sasl_c.proofs.client_final.answer.Goals as goal

pub returns-then-len-gt64-clause-text : goal.returns-then-len-gt64-clause-text
returns-then-len-gt64-clause-text c =
    let held = rw c.in-Ok.ensures.cases.0 at c.in_ok-answer.ensures.ok in (
      refl,
      search rules,
      refl,
      λ _. always_waits c.args.login.now c.args.client.now c.args.server_first.now c.in_ok-answer.answer.message.items
          c.in_ok-answer.answer.signature.items c.in_ok-answer.answer.keys held (search rules),
    )

pub returns-in_err-put-clause-text : goal.returns-in_err-put-clause-text
returns-in_err-put-clause-text c =
    let held = rw c.in-Ok.ensures.cases.0 at c.in_ok-answer.ensures.ok in
    let room = answer_has_room c.args.login.now c.args.client.now c.args.server_first.now
    c.in_ok-answer.answer.message.items
    c.in_ok-answer.answer.signature.items c.in_ok-answer.answer.keys held in
    absurd (omega (arith, c.if-out-suffices.false, room, c.in_err-put.ensures.err.1, ap length c.deref.ensures.value))

pub returns-in_err-put-clause-first : goal.returns-in_err-put-clause-first
returns-in_err-put-clause-first c =
    let held = rw c.in-Ok.ensures.cases.0 at c.in_ok-answer.ensures.ok in
    let room = answer_has_room c.args.login.now c.args.client.now c.args.server_first.now
    c.in_ok-answer.answer.message.items
    c.in_ok-answer.answer.signature.items c.in_ok-answer.answer.keys held in
    absurd (omega (arith, c.if-out-suffices.false, room, c.in_err-put.ensures.err.1, ap length c.deref.ensures.value))

pub returns-clause-text : goal.returns-clause-text
returns-clause-text c =
    let held = rw c.in-Ok.ensures.cases.0 at c.in_ok-answer.ensures.ok in
    let done = responds c.args.login.now c.args.client.now c.wait.new.self c.args.server_first.now
    c.in_ok-answer.answer.message.items
    c.in_ok-answer.answer.signature.items c.in_ok-answer.answer.keys held c.wait.ensures.state c.wait.ensures.writes
    c.in_ok-answer.ensures.tested in
    (c.in_ok-answer.answer.message.items, done, search rules, search rules, search rules)
