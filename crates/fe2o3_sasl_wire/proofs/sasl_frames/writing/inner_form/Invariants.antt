use Rattle.std.proofs.Common.{◌≡◌, true, take}
use Rattle.fe2o3_sasl_wire.specs.private.Writing.{all_short}
use Rattle.fe2o3_sasl_wire.proofs.sasl_frames.writing.inner_form.Given as goal

abbrev pub invariant-loop-symbol : goal.invariant-loop-symbol
invariant-loop-symbol l = all_short (take l.symbol-index l.symbols) ≡ true
