use Rattle.std.proofs.Common.{◌≡◌, map}
use Rattle.std.specs.List.{flat_map}
use Rattle.scram_lib.specs.OwnLines.{line_as}
use Rattle.scram_lib.proofs.server.source.lines_as.Given as goal

abbrev pub invariant-loop-line : goal.invariant-loop-line
invariant-loop-line l = l.own.items ≡ flat_map (line_as l.user.items l.other.items) (map (λ line. line.now) l.yielded)
