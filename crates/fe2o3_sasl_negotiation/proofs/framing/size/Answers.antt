use Rattle.std.proofs.Common.{ap, ◌∙◌}
use Rattle.std.specs.Int.{w32, from_be_bytes}
use Rattle.fe2o3_sasl_negotiation.specs.Framing.{size_of}
use Rattle.fe2o3_sasl_negotiation.proofs.framing.size.Goals as goal

pub returns-in-Some : goal.returns-in-Some
unfolding size_of
returns-in-Some c =
    let chunk = c.in-Some.ensures.cases in (chunk.enough, c.from_be_bytes.ensures ∙ ap (from_be_bytes w32) chunk.same)
