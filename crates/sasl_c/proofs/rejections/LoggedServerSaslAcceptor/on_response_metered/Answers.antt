use Rattle.fe2o3_sasl_wire.specs.AmqpTypes.{response_frame}
use Rattle.sasl_c.specs.Rejections.{state_of}
use Rattle.sasl_c.proofs.ReasonLemmas.{responds}
use Rattle.sasl_c.proofs.rejections.LoggedServerSaslAcceptor.on_response_metered.Goals as goal

pub returns-clause-ok : goal.returns-clause-ok
returns-clause-ok c = responds (state_of c.args.self.now) _ (response_frame c.args.response)
    c.on_response_metered.result c.on_response_metered.ensures.ok c.on_response_metered.ensures.reason
    c.on_response_metered.ensures.rejection
