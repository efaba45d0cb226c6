use Rattle.sasl_c.proofs.StateLemmas.{waiting_written, waits}
use Rattle.sasl_c.proofs.client.ScramClient.waiting.Goals as goal

pub returns-clause-state : goal.returns-clause-state
returns-clause-state c = waits (λ held. held.now) c.answer_keys.result c.args.machine.now.state c.waiting_for.result
    c.in_ok-server_signature.field-0.now c.in_ok-server_signature.ensures.0 c.in_ok-server_signature.ensures.1
    c.answer_keys.ensures c.waiting_for.ensures.state

pub returns-clause-writes : goal.returns-clause-writes
returns-clause-writes c = waiting_written (λ held. held.now) c.answer_keys.result c.args.machine.now.state
    c.waiting_for.result c.in_ok-server_signature.field-0.now c.in_ok-server_signature.ensures.0
    c.in_ok-server_signature.ensures.1 c.answer_keys.ensures c.waiting_for.ensures.writes
