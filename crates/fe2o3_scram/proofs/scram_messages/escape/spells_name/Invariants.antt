use denote.Shadow.{shadow}
use denote.Text.{Utf8}
use Rattle.std.proofs.Common.{◌≡◌, ◌++◌, ℕ, List, length}
use Rattle.fe2o3_scram.specs.Escape.{escaped}
use Rattle.fe2o3_scram.proofs.scram_messages.escape.spells_name.Given as goal

abbrev pub invariant-loop-escape : goal.invariant-loop-escape
invariant-loop-escape l = record {
  read : (name : List ℕ) × (l.text ≡ escaped name ++ l.rest);
  utf8 : shadow (Utf8 l.rest);
}

abbrev pub decreases-loop-escape : goal.decreases-loop-escape
decreases-loop-escape l = length l.rest
