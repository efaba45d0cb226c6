-- The additional data by which a body rejects a login.
use Rattle.fe2o3_sasl_negotiation.proofs.lemmas.RefusedBodyLemmas.{copied_refusal, unread_rejects_none}
use Rattle.fe2o3_sasl_negotiation.proofs.refusals.refusal_of.Goals as goal

pub returns-in-Ok : goal.returns-in-Ok
returns-in-Ok c = copied_refusal (λ taken. taken.items) c.args.turn c.args.body.now c.in-Ok.view c.copy_of.result c.in-Ok.ensures
    c.rejection_data.ensures c.copy_of.ensures

pub returns-in-Err : goal.returns-in-Err
returns-in-Err c = unread_rejects_none c.args.turn c.args.body.now c.in-Err.field-0 c.in-Err.ensures
