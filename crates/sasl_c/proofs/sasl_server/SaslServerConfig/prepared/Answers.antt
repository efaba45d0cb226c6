use Rattle.sasl_c.proofs.SaslServerLemmas.{no_offer}
use Rattle.sasl_c.proofs.sasl_server.SaslServerConfig.prepared.Goals as goal

pub returns-then-not-offers_any-clause-err : goal.returns-then-not-offers_any-clause-err
returns-then-not-offers_any-clause-err c =
    λ _. no_offer c.args.self.now c.in-Ok.prepared c.in-Ok.ensures.ok c.in-Ok.ensures.tests (cc)
