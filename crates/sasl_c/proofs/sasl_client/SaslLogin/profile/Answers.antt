use Rattle.sasl_c.proofs.SaslClientLemmas.{no_identity, no_scram, no_trace}
use Rattle.sasl_c.proofs.sasl_client.SaslLogin.profile.Goals as goal

pub returns-in-Err-clause-err : goal.returns-in-Err-clause-err
returns-in-Err-clause-err c = λ other.
    no_scram c.args.self.now c.in-Err.status c.in-0.is (c.in-Err.ensures.err other)

pub returns-in-Err-message-clause-err : goal.returns-in-Err-message-clause-err
returns-in-Err-message-clause-err c = λ other.
    no_trace c.args.self.now c.in-Err-message.status c.in-4.is (c.in-Err-message.ensures.err other)

pub returns-in-Err-message-2-clause-err : goal.returns-in-Err-message-2-clause-err
returns-in-Err-message-2-clause-err c = λ other.
    no_identity c.args.self.now c.in-Err-message-2.status c.in-5.is (c.in-Err-message-2.ensures.err other)
