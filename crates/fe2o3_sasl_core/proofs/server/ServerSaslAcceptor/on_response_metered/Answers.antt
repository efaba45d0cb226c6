use Rattle.std.proofs.Common.{subst, sym}
use Rattle.fe2o3_sasl_wire.specs.AmqpTypes.{response_frame}
use Rattle.fe2o3_sasl_core.specs.SaslAcceptor.{sent_frame}
use Rattle.fe2o3_sasl_core.specs.Servers.{ServerAt, sasl_machine, sasl_server}
use Rattle.fe2o3_sasl_core.proofs.server.ServerSaslAcceptor.on_response_metered.Goals as goal

pub returns-clause-ok : goal.returns-clause-ok
returns-clause-ok c = λ nonce. subst (λ (next : ServerAt). sasl_machine (sasl_server c.args.self.now) nonce
    (response_frame c.args.response) (sent_frame c.in_ok-reply.reply) next) (sym c.commit.ensures.state)
    (rw c.deref.ensures.value at (c.in_ok-reply.ensures.ok nonce))
