use Rattle.std.proofs.Common.{rules, ap, ◌∷◌, List, ℕ}
use Rattle.std.specs.String.{string_bytes}
use Rattle.fe2o3_scram.proofs.lemmas.texts.EscapingLemmas.{none_read, one_more_read}
use Rattle.fe2o3_scram.proofs.scram_messages.escape.unescape.Goals as goal

pub loop-before-init : goal.loop-before-init
loop-before-init c = record {
  read = none_read c.args.text.now
      (string_bytes c.new-name.result) c.new-name.ensures.bytes;
  utf8 = c.utf8.text;
}

pub loop-before-preserved-in-Some-after : goal.loop-before-preserved-in-Some-after
loop-before-preserved-in-Some-after c = record {
  read =
      one_more_read c.args.text.now (string_bytes c.loop-before.name) (string_bytes c.push_str.new.self)
      (string_bytes c.push_str-in-Some-after.new.self) c.loop-before.rest.now c.in-Some.before.now
      c.in-Some.escape.now c.in-Some-after.more.now 44
      c.requires c.loop-before.invariant.read c.in-Some.ensures
      (ap (λ (bytes : List ℕ). 61 ∷ bytes) c.in-Some-after.ensures) (search rules) (search rules);
  utf8 = search rules;
}

pub loop-before-preserved : goal.loop-before-preserved
loop-before-preserved c = record {
  read =
      one_more_read c.args.text.now (string_bytes c.loop-before.name) (string_bytes c.push_str.new.self)
      (string_bytes c.push_str-in-Some-after-2.new.self) c.loop-before.rest.now c.in-Some.before.now
      c.in-Some.escape.now c.in-Some-after-2.more.now 61
      c.requires c.loop-before.invariant.read c.in-Some.ensures
      (ap (λ (bytes : List ℕ). 61 ∷ bytes) c.in-Some-after-2.ensures) (search rules) (search rules);
  utf8 = search rules;
}
