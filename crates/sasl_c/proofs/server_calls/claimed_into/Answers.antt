use Rattle.fe2o3_scram.specs.ClientFirst.{client_first_values}
use Rattle.sasl_c.proofs.IdentityLemmas.{claims_user}
use Rattle.sasl_c.proofs.server_calls.claimed_into.Goals as goal

pub returns-in-Ok-clause-filled : goal.returns-in-Ok-clause-filled
returns-in-Ok-clause-filled c =
    claims_user c.args.rules c.args.client_first.now c.user_of.result.now (client_first_values c.in-Ok.first) _ _ c.put.result
    c.in-Ok.ensures.answer c.user_of.ensures c.put.ensures.len c.put.ensures.ok c.put.ensures.err
