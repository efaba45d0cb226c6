use Rattle.std.proofs.Common.{◌≡◌, ◌+◌, ◌++◌, length, take}
use Rattle.fe2o3_sasl_wire.specs.private.Writing.{elements}
use Rattle.fe2o3_sasl_wire.proofs.sasl_frames.writing.put_elements.Given as goal

abbrev pub invariant-loop-symbol : goal.invariant-loop-symbol
invariant-loop-symbol l = (l.out.items ≡ l.fn.out.items ++ elements l.form (take l.symbol-index l.symbols))
    × (l.out.spare + length (elements l.form (take l.symbol-index l.symbols)) ≡ l.fn.out.spare)
