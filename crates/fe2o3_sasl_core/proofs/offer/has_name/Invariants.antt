use Rattle.std.proofs.Common.{take}
use Rattle.std.specs.List.{Contains}
use Rattle.fe2o3_sasl_core.proofs.offer.has_name.Given as goal

abbrev pub invariant-loop-symbol : goal.invariant-loop-symbol
invariant-loop-symbol l = ¬ Contains (take l.symbol-index l.mechanisms.sasl_server_mechanisms.0.items) l.name
