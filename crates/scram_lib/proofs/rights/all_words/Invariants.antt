use Rattle.std.proofs.Common.{◌≡◌, ◌++◌, map, string_bytes, take}
use Rattle.scram_lib.proofs.rights.all_words.Given as goal

abbrev pub invariant-loop-word : goal.invariant-loop-word
invariant-loop-word l = map (λ word. word.now) l.all.items ≡ map (λ word. word.now) (take l.word-index l.word-items)

abbrev pub invariant-loop-word-2 : goal.invariant-loop-word-2
invariant-loop-word-2 l =
    map (λ word. word.now) l.all.items ≡ map (λ word. word.now) l.initial.all.items
    ++ map string_bytes (take l.word-index l.held)
