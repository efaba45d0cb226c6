use Rattle.fe2o3_sasl_core.specs.PlainServer.{parts_of}
use Rattle.fe2o3_sasl_core.proofs.lemmas.machines.PlainMessageLemmas.{identity_of}
use Rattle.fe2o3_sasl_core.proofs.plain_server.plain_identity.Goals as goal

pub returns-in-Some : goal.returns-in-Some
returns-in-Some c = identity_of (λ name. name.now) c.args.message.now (parts_of c.in-Some.message)
    c.asked_identity.result c.in-Some.ensures.0 c.in-Some.ensures.1 c.asked_identity.ensures
