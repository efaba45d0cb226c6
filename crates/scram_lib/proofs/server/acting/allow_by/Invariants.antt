use Rattle.std.proofs.Common.{◌≡◌, ◌++◌, take, map}
use Rattle.std.specs.List.{flat_map}
use Rattle.scram_lib.specs.Acting.{right_by}
use Rattle.scram_lib.proofs.server.acting.allow_by.Given as goal

abbrev pub invariant-loop-word : goal.invariant-loop-word
invariant-loop-word l =
    l.rights ≡ l.fn.rights ++ flat_map (right_by l.sent l.name) (map (λ word. word.now) (take l.word-index l.words))
