use Rattle.std.proofs.Common.{◌≡◌, ◌-◌, ◌^◌, length, take, min}
use Rattle.std.specs.Prelude.{IsAscii}
use Rattle.std.specs.List.{AllByRecursion}
use Rattle.fe2o3_sasl_wire.specs.private.Writing.{elements}
use Rattle.fe2o3_sasl_wire.proofs.sasl_frames.writing.elements_len.Given as goal

abbrev pub invariant-loop-symbol : goal.invariant-loop-symbol
invariant-loop-symbol l =
    (l.len ≡ min (length (elements l.form (take l.symbol-index l.symbols))) (2 ^ 64 - 1))
    × AllByRecursion IsAscii (take l.symbol-index l.symbols)
