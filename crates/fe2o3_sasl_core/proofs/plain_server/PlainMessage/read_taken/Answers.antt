use Rattle.fe2o3_sasl_core.specs.PlainServer.{parts_of}
use Rattle.fe2o3_sasl_core.proofs.lemmas.machines.PlainMessageLemmas.{not_taken}
use Rattle.fe2o3_sasl_core.proofs.plain_server.PlainMessage.read_taken.Goals as goal

pub returns-else-is_taken : goal.returns-else-is_taken
returns-else-is_taken c = not_taken c.args.accepts c.args.bytes.now (parts_of c.in_ok-message.message) c.in_ok-message.ensures
    (λ taken. let yes = c.is_taken.ensures.1 taken in let no = c.if-is_taken.false in absurd (cc))
