use Rattle.std.proofs.Common.{rules, sym, ◌∙◌}
use Rattle.sasl_c.proofs.ClientLemmas.{mapped_err, mapped_ok, unanswered}
use Rattle.sasl_c.proofs.LoginLemmas.{neither_keys, neither_password, no_keys, no_password, other_secret}
use Rattle.sasl_c.specs.declared.status.Status.TheVariants as statuses
use Rattle.sasl_c.proofs.client_final.answer_of_login.Goals as goal

pub returns-in-Err-clause-err : goal.returns-in-Err-clause-err
returns-in-Err-clause-err c = λ other none is binds sent.
    unanswered c.args.login.now c.args.client.now c.args.server_first.now c.args.version c.in-Err.status is none
    (no_password c.args.login.now c.in-Err.status (sym c.secret_used.ensures ∙ c.in-0.is) c.in-Err.ensures.tested)

pub returns-in-Err-keys-clause-err : goal.returns-in-Err-keys-clause-err
returns-in-Err-keys-clause-err c = λ other none is binds sent.
    unanswered c.args.login.now c.args.client.now c.args.server_first.now c.args.version c.in-Err-keys.status is none
    (no_keys c.args.login.now c.in-Err-keys.status (sym c.secret_used.ensures ∙ c.in-1.is) (c.in-Err-keys.ensures.err other))

pub returns-in-Err-password_in-clause-err : goal.returns-in-Err-password_in-clause-err
returns-in-Err-password_in-clause-err c = λ other none is binds sent.
    unanswered c.args.login.now c.args.client.now c.args.server_first.now c.args.version c.in-Err-password_in.status is
    none
    (neither_password c.args.login.now c.in-Err-password_in.status (sym c.secret_used.ensures ∙ c.in-2.is)
    c.in-Err-password_in.ensures.tested)

pub returns-in-Err-keys-2-clause-err : goal.returns-in-Err-keys-2-clause-err
returns-in-Err-keys-2-clause-err c = λ other none is binds sent.
    unanswered c.args.login.now c.args.client.now c.args.server_first.now c.args.version c.in-Err-keys-2.status is none
    (neither_keys c.args.login.now c.in-Err-keys-2.status (sym c.secret_used.ensures ∙ c.in-2.is)
    c.in-Ok-password_in.ensures.tested.1
    (c.in-Err-keys-2.ensures.err other))

pub returns-in_default-clause-err : goal.returns-in_default-clause-err
returns-in_default-clause-err c = λ other none is binds sent.
    unanswered c.args.login.now c.args.client.now c.args.server_first.now c.args.version statuses.NoSuchSecret is none
    (search (rules, other_secret))

pub returns-in-Ok-clause-ok : goal.returns-in-Ok-clause-ok
returns-in-Ok-clause-ok c = mapped_ok _ _ c.answer_with_secret.result c.answer_with_secret.ensures.ok
    (λ answer held is binds sent. held is (sym c.secret_used.ensures ∙ c.in-0.is, c.in-Ok.ensures.tested.0) binds sent)

pub returns-in-Ok-clause-err : goal.returns-in-Ok-clause-err
returns-in-Ok-clause-err c = mapped_err _ _ c.answer_with_secret.result c.answer_with_secret.ensures.err
    (λ status held other none is binds sent.
    held other is (sym c.secret_used.ensures ∙ c.in-0.is, c.in-Ok.ensures.tested.0) binds sent)

pub returns-in-Ok-keys-clause-ok : goal.returns-in-Ok-keys-clause-ok
returns-in-Ok-keys-clause-ok c = mapped_ok _ _ c.answer_with_secret-in-1.result c.answer_with_secret-in-1.ensures.ok
    (λ answer held is binds sent. held is (search rules) binds sent)

pub returns-in-Ok-keys-clause-err : goal.returns-in-Ok-keys-clause-err
returns-in-Ok-keys-clause-err c = mapped_err _ _ c.answer_with_secret-in-1.result c.answer_with_secret-in-1.ensures.err
    (λ status held other none is binds sent. held other is (search rules) binds sent)

pub returns-in-Ok-keys-2-clause-ok : goal.returns-in-Ok-keys-2-clause-ok
returns-in-Ok-keys-2-clause-ok c = mapped_ok _ _ c.answer_with_secret-in-2.result c.answer_with_secret-in-2.ensures.ok
    (λ answer held is binds sent. held is (search rules) binds sent)

pub returns-in-Ok-keys-2-clause-err : goal.returns-in-Ok-keys-2-clause-err
returns-in-Ok-keys-2-clause-err c = mapped_err _ _ c.answer_with_secret-in-2.result c.answer_with_secret-in-2.ensures.err
    (λ status held other none is binds sent. held other is (search rules) binds sent)
