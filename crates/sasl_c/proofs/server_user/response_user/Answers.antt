use Rattle.std.proofs.Common.{ap}
use Rattle.fe2o3_sasl_wire.specs.FrameView.{shown}
use Rattle.sasl_c.proofs.ServerUserLemmas.{response_claims_none}
use Rattle.sasl_c.proofs.server_user.response_user.Goals as goal

pub returns-in-Ok-None-clause-ok : goal.returns-in-Ok-None-clause-ok
returns-in-Ok-None-clause-ok c =
    response_claims_none c.args.mechanism.now c.in-Some.text.now (shown c.args.response) (ap shown c.in-Some.is)
    (rw c.in-Ok-None.field-0-is at c.in-Ok-None.ensures.ok)
