use Rattle.std.proofs.Common.{arith}
use Rattle.fe2o3_sasl_core.proofs.whole_runs.are_bytes.Goals as goal

pub returns : goal.returns
returns c = λ i. omega (arith, c.type_inv.bytes i)
