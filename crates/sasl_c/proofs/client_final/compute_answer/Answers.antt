use Rattle.std.proofs.Common.{rules}
use Rattle.sasl_c.proofs.ClientLemmas.{mapped_err, mapped_ok, no_login, tested_header}
use Rattle.sasl_c.proofs.client_final.compute_answer.Goals as goal

pub returns-clause-err : goal.returns-clause-err
returns-clause-err c = mapped_err _ _ c.answer_of_login.result c.answer_of_login.ensures.err
    (λ status held other. held other c.in-Ok.ensures.ok.1.0 c.in-Ok.ensures.ok.0 c.in-Ok-header.ensures.tested.0
    (search rules))

pub returns-in-Err-clause-err : goal.returns-in-Err-clause-err
returns-in-Err-clause-err c = λ other.
    no_login c.args.login.now c.args.client.now c.args.server_first.now c.in-Err.status c.in-Err.ensures.err

pub returns-in-Err-header-clause-err : goal.returns-in-Err-header-clause-err
returns-in-Err-header-clause-err c = absurd (tested_header c.args.login.now c.in-Err-header.status c.in-Ok.ensures.ok.1
    c.in-Err-header.ensures.tested)

pub returns-clause-tested : goal.returns-clause-tested
returns-clause-tested c = mapped_ok _ _ c.answer_of_login.result c.answer_of_login.ensures.ok
    (λ answer held. c.in-Ok.ensures.ok.1)
