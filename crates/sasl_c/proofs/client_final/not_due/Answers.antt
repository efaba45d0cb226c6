use Rattle.sasl_c.proofs.ClientLemmas.{no_login, not_due}
use Rattle.sasl_c.proofs.client_final.not_due.Goals as goal

pub returns-in-Ok-clause-why : goal.returns-in-Ok-clause-why
returns-in-Ok-clause-why c = λ sent text.
    not_due c.args.login.now c.args.client.now text c.in-Ok.field-0 c.in-Ok.ensures.ok.0 c.in-Ok.ensures.ok.1 sent

pub returns-in-Err-clause-why : goal.returns-in-Err-clause-why
returns-in-Err-clause-why c = λ sent text.
    no_login c.args.login.now c.args.client.now text c.in-Err.status c.in-Err.ensures.err
