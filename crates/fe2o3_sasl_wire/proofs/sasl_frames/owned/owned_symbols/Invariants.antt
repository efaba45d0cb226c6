use Rattle.std.proofs.Common.{◌≡◌, ◌++◌}
use Rattle.std.specs.Prelude.{IsAscii}
use Rattle.std.specs.List.{AllByRecursion}
use Rattle.fe2o3_sasl_wire.proofs.sasl_frames.owned.owned_symbols.Given as goal

abbrev pub invariant-loop-text : goal.invariant-loop-text
invariant-loop-text l =
    (l.owned.items ++ l.text-iterator ≡ l.symbols) × AllByRecursion IsAscii l.text-iterator
