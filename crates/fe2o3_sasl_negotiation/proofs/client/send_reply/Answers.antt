use Rattle.std.proofs.Common.{option_map}
use Rattle.fe2o3_sasl_wire.specs.AmqpTypes.{binary_bytes}
use Rattle.fe2o3_sasl_negotiation.proofs.client.send_reply.Goals as goal

pub returns : goal.returns
returns c =
    rw c.in-Outcome.is
    (c.concluded.ensures c.args.out.now.items c.args.signs
    (option_map binary_bytes c.in-Outcome.outcome.additional_data))
