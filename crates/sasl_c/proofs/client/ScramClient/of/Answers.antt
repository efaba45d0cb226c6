use Rattle.std.proofs.Common.{sym, ◌∙◌}
use Rattle.sasl_c.proofs.StateLemmas.{nothing_sent, nothing_written, waiting}
use Rattle.sasl_c.proofs.client.ScramClient.of.Goals as goal

pub returns-in-Some-server_signature-clause-state : goal.returns-in-Some-server_signature-clause-state
returns-in-Some-server_signature-clause-state c = λ user reached.
    waiting user c.args.machine.now.state c.waiting.result c.in-Some-server_signature.field-0.now
    c.in-Some-server_signature.ensures.0 c.in-Some-server_signature.ensures.1 reached c.waiting.ensures.state

pub returns-in-None-clause-state : goal.returns-in-None-clause-state
returns-in-None-clause-state c = λ user reached.
    nothing_sent user c.fresh.result c.args.machine.now.state c.in_default.ensures c.in-None.ensures
    (sym c.is_complete.ensures ∙ c.if-is_complete.false)
    (sym c.is_signature_verified.ensures ∙ c.if-is_signature_verified.false) (c.fresh.ensures.state user)

pub returns-in-None-clause-writes : goal.returns-in-None-clause-writes
returns-in-None-clause-writes c =
    nothing_written c.fresh.result c.args.machine.now.state c.in_default.ensures c.in-None.ensures
    (sym c.is_complete.ensures ∙ c.if-is_complete.false)
    (sym c.is_signature_verified.ensures ∙ c.if-is_signature_verified.false) c.fresh.ensures.writes
