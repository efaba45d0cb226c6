use Rattle.std.specs.Prelude.{string_bytes}
use Rattle.sasl_c.proofs.ServerUserLemmas.{answer_completes, completes_no_user, completing_asks, opens_no_user}
use Rattle.sasl_c.proofs.server_user.answer_user.Goals as goal

pub returns-in-Ok-None-clause-ok : goal.returns-in-Ok-None-clause-ok
returns-in-Ok-None-clause-ok c = opens_no_user c.args.scram.now c.args.text.now c.in_default.ensures
    (rw c.in-Ok-None.field-0-is at c.in-Ok-None.ensures.ok)

pub returns-in-Ok-Some-claimed_user-clause-ok : goal.returns-in-Ok-Some-claimed_user-clause-ok
returns-in-Ok-Some-claimed_user-clause-ok c =
    answer_completes c.args.scram.now c.in-Some.mechanism _ c.args.text.now (string_bytes c.in-Ok-Some-claimed_user.name)
    c.in-Some.ensures (rw c.name.ensures at (rw c.in-Ok-Some-claimed_user.field-0-is at c.in-Ok-Some-claimed_user.ensures.ok))

pub returns-in-Ok-None-claimed_user-clause-ok : goal.returns-in-Ok-None-claimed_user-clause-ok
returns-in-Ok-None-claimed_user-clause-ok c =
    completes_no_user c.args.scram.now c.in-Some.mechanism _ c.args.text.now c.in-Some.ensures
    (rw c.name.ensures at (rw c.in-Ok-None-claimed_user.field-0-is at c.in-Ok-None-claimed_user.ensures.ok))

pub returns-in-Err-claimed_user-clause-memory : goal.returns-in-Err-claimed_user-clause-memory
returns-in-Err-claimed_user-clause-memory c =
    completing_asks c.args.scram.now c.in-Some.mechanism _ c.args.text.now c.in-Some.ensures
    (rw c.name.ensures at (rw c.in-Err-claimed_user.is at c.claimed_user.ensures.memory))
