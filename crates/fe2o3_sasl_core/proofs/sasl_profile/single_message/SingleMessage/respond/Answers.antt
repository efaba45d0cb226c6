use Rattle.std.specs.Prelude.{string_bytes}
use Rattle.fe2o3_sasl_core.proofs.lemmas.steps.ProfileReplyLemmas.{message_responds}
use Rattle.fe2o3_sasl_core.proofs.sasl_profile.single_message.SingleMessage.respond.Goals as goal

pub returns-clause-answer : goal.returns-clause-answer
returns-clause-answer c = λ mechanism.
    message_responds mechanism (string_bytes c.args.self.now.message) c.args.self.now.is_due c.args.challenge.now
    c.in_ok-response.response.0.items (c.if-not-is_asked_by.ensures mechanism) c.in_ok-response.ensures
